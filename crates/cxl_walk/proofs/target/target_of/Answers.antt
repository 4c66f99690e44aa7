use Rattle.std.proofs.Common.{◌≡◌, ℕ, Some, None, refl, subst, sym, ◌∙◌, arith, below_more}
use Rattle.std.specs.Prelude.{slice_get}
use Rattle.std.proofs.lemmas.Option.{slice_get_read, slice_get_within, get_or_from_slice_get}
use Rattle.cxl_window.specs.Fields.{WindowFields}
use Rattle.cxl_window.specs.Position.{position_at}
use Rattle.cxl_walk.proofs.target.target_of.Goals as goal

pub loop-window-preserved : goal.loop-window-preserved
loop-window-preserved c =
    below_more
    (λ (k : ℕ). (w : WindowFields) → slice_get c.args.windows.now k ≡ Some w → position_at w c.args.h ≡ None)
    c.loop-window.window-index
    c.loop-window.invariant
    (λ w there.
    subst (λ (v : WindowFields). position_at v c.args.h ≡ None)
    (c.window-item.is ∙ get_or_from_slice_get c.args.windows.now c.loop-window.window-index w c.window-item.result there)
    c.in_default.ensures.none)

pub loop-window-init : goal.loop-window-init
loop-window-init c = λ k less. absurd (omega (arith, less))

pub returns-in-Some-clause-some : goal.returns-in-Some-clause-some
returns-in-Some-clause-some c =
    let there = slice_get_read c.args.windows.now _ c.loop-window.window-index c.window-item.result refl c.loop-window-test.true c.window-item.is in (
      c.window-item.result,
      record {
        there = subst (λ (k : ℕ). slice_get c.args.windows.now k ≡ Some c.window-item.result) (sym (c.requires c.loop-window.window-index c.window-item.result there)) there;
        inside = c.in-Some.ensures.some;
      },
    )

pub returns-clause-none : goal.returns-clause-none
returns-clause-none c = λ i w there.
    let within = slice_get_within c.args.windows.now i w there in
    c.loop-window.invariant i (omega (arith, within, c.loop-window-test.false)) w there
