use Rattle.std.proofs.Common.{◌≡◌, ℕ, ◌<◌, List, length, Some, None, refl, subst, sym, ◌∙◌, arith, below_more}
use Rattle.std.specs.Prelude.{slice_get}
use Rattle.std.proofs.lemmas.Option.{slice_get_read, slice_get_within, get_or_from_slice_get}
use Rattle.cxl_window.specs.Fields.{WindowFields}
use Rattle.cxl_window.specs.Position.{position_at}
use Rattle.cxl_trace.proofs.Outsets.{within, has_bridge, sets_out}
use Rattle.cxl_trace.proofs.walking.outset_of.Goals as goal

pub bounds-targets-position : goal.bounds-targets-position
bounds-targets-position c =
    let there = slice_get_read c.args.windows.now _ c.loop-window.window-index c.window-item.result refl c.loop-window-test.true c.window-item.is in
    subst (λ (uids : List ℕ). c.in-Some.position < length uids) (sym c.targets.ensures.value)
    (within c.positions.ensures.found c.args.topo.now c.args.windows.now c.requires.made c.loop-window.window-index c.args.h c.in-Some.position c.window-item.result there (sym c.slot_of.ensures ∙ c.in-Some.is))

pub unwrap-bridge-requires : goal.unwrap-bridge-requires
unwrap-bridge-requires c =
    let there = slice_get_read c.args.windows.now _ c.loop-window.window-index c.window-item.result refl c.loop-window-test.true c.window-item.is in
    let at = has_bridge c.positions.ensures.found c.args.topo.now c.args.windows.now c.requires.made c.loop-window.window-index c.args.h c.in-Some.position c.window-item.result there (sym c.slot_of.ensures ∙ c.in-Some.is) c.targets.result.now c.targets.ensures.value in
    rw ((c.bridge.ensures.owns at.0).1 at.1) refl

pub returns-in-Some-clause-some : goal.returns-in-Some-clause-some
returns-in-Some-clause-some c =
    let there = slice_get_read c.args.windows.now _ c.loop-window.window-index c.window-item.result refl c.loop-window-test.true c.window-item.is in
    rw c.index.ensures.value
    (sets_out c.positions.ensures.found c.args.topo.now c.args.windows.now c.requires.made c.loop-window.window-index c.args.h c.in-Some.position c.window-item.result there (sym c.slot_of.ensures ∙ c.in-Some.is) c.targets.result.now c.targets.ensures.value c.unwrap-bridge.result (sym c.bridge.ensures.bridge ∙ c.unwrap-bridge.ensures))

pub loop-window-preserved : goal.loop-window-preserved
loop-window-preserved c =
    below_more
    (λ (k : ℕ). (w : WindowFields) → slice_get c.args.windows.now k ≡ Some w → position_at w c.args.h ≡ None)
    c.loop-window.window-index
    c.loop-window.invariant
    (λ w there.
    subst (λ (v : WindowFields). position_at v c.args.h ≡ None)
    (c.window-item.is ∙ get_or_from_slice_get c.args.windows.now c.loop-window.window-index w c.window-item.result there)
    (sym c.slot_of.ensures ∙ c.in_default.is))

pub returns-clause-none : goal.returns-clause-none
returns-clause-none c = λ i w there.
    let within = slice_get_within c.args.windows.now i w there in
    c.loop-window.invariant i (omega (arith, within, c.loop-window-test.false)) w there
