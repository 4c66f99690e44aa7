use Rattle.std.proofs.Common.{◌≡◌, ◌&&◌, ◌||◌, not, ℕ, Some, sym, ap, ◌∙◌, inl, inr, arith}
use Rattle.std.specs.Prelude.{slice_get}
use Rattle.std.proofs.lemmas.Bool.{cases_eq}
use Rattle.std.proofs.lemmas.Option.{slice_get_within, slice_get-get_or, get_or_from_slice_get}
use Rattle.cxl_window.specs.Fields.{WindowFields}
use Rattle.cxl_window.specs.Position.{is_usable, holds}
use Rattle.cxl_check.proofs.Searches.{find_here, find_nowhere}
use Rattle.cxl_cause.proofs.windows.place_holding.Goals as goal

pub loop-i-preserved : goal.loop-i-preserved
loop-i-preserved c = λ k w less there.
    let i : ℕ = c.loop-i.i in
    elim (cases_eq k i) [
      | inl here ↦
          let same : c.index-windows-i.result ≡ w = c.index-windows-i.is ∙ get_or_from_slice_get c.args.windows.now i w c.index-windows-i.result (ap (slice_get c.args.windows.now) (sym here) ∙ there) in
          ap (λ (v : WindowFields). (not c.args.usable || is_usable v.verdict) && holds v c.args.h) (sym same) ∙ sym c.is_holding.ensures ∙ c.if-is_holding.false
      | inr other ↦ c.loop-i.invariant k w (omega (arith, less, other)) there
    ]

pub returns-then-is_holding : goal.returns-then-is_holding
returns-then-is_holding c =
    let w : WindowFields = c.index-windows-i.result in
    let here : slice_get c.args.windows.now c.loop-i.i ≡ Some w = slice_get-get_or c.args.windows.now c.loop-i.i w c.loop-i-test.true ∙ ap (λ (v : WindowFields). Some v) (sym c.index-windows-i.is) in
    find_here (λ (v : WindowFields). (not c.args.usable || is_usable v.verdict) && holds v c.args.h) c.args.windows.now c.loop-i.i w here (sym c.is_holding.ensures ∙ c.if-is_holding.true) c.loop-i.invariant

pub returns : goal.returns
returns c =
    let windows = c.args.windows.now in
    find_nowhere (λ (v : WindowFields). (not c.args.usable || is_usable v.verdict) && holds v c.args.h) windows (λ k w there.
    let within = slice_get_within windows k w there in
    c.loop-i.invariant k w (omega (arith, within, c.loop-i-test.false)) there)
