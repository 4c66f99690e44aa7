use Rattle.std.proofs.Common.{◌≡◌, ℕ, ◌+◌, ◌-◌, ◌*◌, ◌<◌, List, length, Some, Option, refl, sym, ap, subst, ◌∙◌, arith}
use Rattle.std.specs.Prelude.{slice_get, IsSomeAnd}
use Rattle.cxl_model.specs.Regions.{Carries}
use Rattle.cxl_poison.specs.Pieces.{Cut, BeginsCut}
use Rattle.cxl_poison.specs.inner.Cuts.{first_stretch, last_stretch, touched_cuts, stretch_cut, first_cuts}
use Rattle.cxl_poison.proofs.Stretches.{cuts_are, count_cuts, cut_there, first_begins, last_begins, last_low, last_small}
use Rattle.cxl_poison.proofs.cutting.wide_of.Goals as goal

pub last_stretch-last-requires-clause-some : goal.last_stretch-last-requires-clause-some
last_stretch-last-requires-clause-some c = c.requires.touched.is.some

pub last_stretch-last-requires-clause-any : goal.last_stretch-last-requires-clause-any
last_stretch-last-requires-clause-any c = c.requires.touched.any

pub host_at-requires-clause-within : goal.host_at-requires-clause-within
host_at-requires-clause-within c = omega (arith, c.requires.touched.any, c.requires.touched.is.ends)

pub overflow_mul-last : goal.overflow_mul-last
overflow_mul-last c =
    let low = subst (λ (n : ℕ). n * c.args.touched.now.size < c.args.touched.now.end) (sym c.last_stretch-last.ensures.value) (last_low c.args.span.now c.args.touched.now c.requires.touched c.requires.many) in
    omega (arith, low)

pub host_at-requires-2-clause-within : goal.host_at-requires-2-clause-within
host_at-requires-2-clause-within c =
    let low = subst (λ (n : ℕ). n * c.args.touched.now.size < c.args.touched.now.end) (sym c.last_stretch-last.ensures.value) (last_low c.args.span.now c.args.touched.now c.requires.touched c.requires.many) in
    omega (arith, low, c.requires.touched.is.ends)

pub first_stretch-requires : goal.first_stretch-requires
first_stretch-requires c = c.requires.touched.is.some

pub overflow_sub-result : goal.overflow_sub-result
overflow_sub-result c = omega (arith, c.last_stretch-last.ensures.from, c.first_stretch.ensures)

pub overflow_add-result : goal.overflow_add-result
overflow_add-result c = omega (arith, last_small c.args.span.now c.args.touched.now c.requires.touched c.requires.many, c.last_stretch-last.ensures.value)

pub returns : goal.returns
returns c = λ endpoint is.
    let found = c.args.found.now in
    let w = c.args.window.now in
    let span = c.args.span.now in
    let touched = c.args.touched.now in
    let first : ℕ = first_stretch touched in
    let last : ℕ = last_stretch touched in
    let n : ℕ = last + 1 - first in
    let many = c.requires.many in
    let cuts : touched_cuts touched span ≡ first_cuts touched n = cuts_are span touched c.requires.touched (omega (arith, many)) in
    let count : length (touched_cuts touched span) ≡ n = ap (λ (xs : List Cut). length xs) cuts ∙ count_cuts touched n in
    let start : slice_get (touched_cuts touched span) 0 ≡ Some (stretch_cut touched (first + 0)) = ap (λ (xs : List Cut). slice_get xs 0) cuts ∙ cut_there touched n 0 (omega (arith, many)) in
    let end : slice_get (touched_cuts touched span) (length (touched_cuts touched span) - 1) ≡ Some (stretch_cut touched (first + (n - 1))) =
    ap (λ (k : ℕ). slice_get (touched_cuts touched span) (k - 1)) count ∙ ap (λ (xs : List Cut). slice_get xs (n - 1)) cuts ∙ cut_there touched n (n - 1) (omega (arith, many)) in
    let at_last : first + (n - 1) ≡ last = omega (arith, many) in
    record {
      first =
          subst (λ (o : Option Cut). IsSomeAnd o (λ cut. BeginsCut found w endpoint span cut c.host_at.result)) (sym start)
          (subst (λ (x : ℕ). Carries found w c.host_at.result endpoint (span.start + x)) (sym (first_begins span touched c.requires.touched)) (c.host_at.ensures endpoint is));
      last =
          subst (λ (o : Option Cut). IsSomeAnd o (λ cut. BeginsCut found w endpoint span cut c.host_at-2.result)) (sym end)
          (subst (λ (x : ℕ). Carries found w c.host_at-2.result endpoint (span.start + x))
          (ap (λ (x : ℕ). x * touched.size) c.last_stretch-last.ensures.value ∙ sym (last_begins span touched c.requires.touched many) ∙ ap (λ (k : ℕ). (stretch_cut touched k).from) (sym at_last)) (c.host_at-2.ensures endpoint is));
      count = omega (arith, count, c.last_stretch-last.ensures.value, c.first_stretch.ensures, many);
      region = refl;
    }
