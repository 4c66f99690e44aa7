use Rattle.std.proofs.Common.{◌+◌, ℕ, List, Vec, Global, get_or, sym, ap, subst, ◌∙◌}
use Rattle.std.proofs.lemmas.Option.{slice_get-get_or}
use Rattle.cxl_check.specs.declared.fault.Breach.{Breach}
use Rattle.cxl_model.specs.Hosts.{as_system}
use Rattle.cxl_model.specs.System.{IsSystem}
use Rattle.cxl_cause.specs.declared.places.CausedBreach.{CausedBreach}
use Rattle.cxl_cause.proofs.BrokenPlaces.{AreTold, each_broken, one_told, has_cause}
use Rattle.cxl_cause.proofs.places.with_causes.Goals as goal
use Rattle.cxl_cause.proofs.places.with_causes.Goals.{in-Some+in_ok-push, in_default}

abbrev first : Breach
first = record { rule = 0; node = 0; decoder = 0 }

pub cause_of-requires : goal.cause_of-requires
cause_of-requires c = λ other.
    let s = as_system c.args.host.now in
    let k : ℕ = c.loop-breach.breach-index in
    let there = slice_get-get_or c.args.found.now k first c.loop-breach-test.true in
    let known = each_broken s c.args.found.now c.requires.found k (get_or c.args.found.now k first) there in
    let system : IsSystem s = c.hosts_with_caps_are_systems.ensures.system s (record { tree = c.count-count.ensures.tree; blocks = c.count-blocks.ensures.image.each; made = c.requires.made }) (known.caps other) in
    system.caps

pub loop-breach-preserved : goal.loop-breach-preserved
loop-breach-preserved c =
    let s = as_system c.args.host.now in
    let k : ℕ = c.loop-breach.breach-index in
    let b : Breach = get_or c.args.found.now k first in
    let there = slice_get-get_or c.args.found.now k first c.loop-breach-test.true in
    elim c.match-cause_of.branch [
      | in-Some+in_ok-push w ↦
          subst (λ (told : List CausedBreach). AreTold s c.args.found.now (k + 1) told) (sym (ap (λ (v : Vec CausedBreach Global). v.items) w.causes-is ∙ w.in_ok-push.ensures.items))
          (one_told s c.args.found.now k c.loop-breach.causes.items b w.in-Some.cause c.loop-breach.invariant there (sym c.cause_of.ensures ∙ w.in-Some.is))
      | in_default w ↦
          let known = each_broken s c.args.found.now c.requires.found k b there in
          absurd (has_cause s b c.cause_of.result c.cause_of.ensures (c.causes_stand_where_rules_break.ensures s b.rule b.node b.decoder) known w.in_default.is)
    ]
