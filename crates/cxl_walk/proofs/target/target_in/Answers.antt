use Rattle.std.proofs.Common.{◌≡◌, ℕ, ◌<◌, List, length, get_or, Option, Some, None, subst, sym, ◌∙◌}
use Rattle.std.specs.Prelude.{slice_get, IfNone}
use Rattle.std.proofs.lemmas.Option.{slice_get-get_or}
use Rattle.cxl_window.specs.Position.{position_at}
use Rattle.cxl_walk.specs.declared.target.Target.{Target}
use Rattle.cxl_walk.proofs.target.target_in.Goals as goal

pub bounds-targets-position : goal.bounds-targets-position
bounds-targets-position c =
    let within = c.positions.ensures.found c.args.window.now c.args.h c.in_ok-position.position c.index.ensures.window (sym c.slot_of.ensures ∙ c.in_ok-position.was) in
    subst (λ (uids : List ℕ). c.in_ok-position.position < length uids) (sym c.targets.ensures.value)
    (subst (λ (n : ℕ). c.in_ok-position.position < n) (sym c.targets.ensures.each_way) within)

pub returns-clause-some : goal.returns-clause-some
returns-clause-some c =
    let position = c.in_ok-position.position in
    let uids = c.targets.result.now in
    record {
      index = c.index.ensures.value;
      holds = sym c.slot_of.ensures ∙ c.in_ok-position.was;
      uid = subst (λ (targets : List ℕ). slice_get targets position ≡ Some (get_or uids position 0)) c.targets.ensures.value
          (slice_get-get_or uids position 0 (bounds-targets-position c));
    }

pub returns-in_err-position-clause-none : goal.returns-in_err-position-clause-none
returns-in_err-position-clause-none c =
    subst (λ (target : Option Target). IfNone target (position_at c.args.window.now c.args.h ≡ None)) (sym c.from_residual.ensures)
    (sym c.slot_of.ensures ∙ c.in_err-position.was)
