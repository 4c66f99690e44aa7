use Rattle.std.proofs.Common.{◌≡◌, ◌/◌, ℕ, Bool, true, get_or, Some, sym, ap, ◌∙◌, arith}
use Rattle.std.specs.Prelude.{slice_get}
use Rattle.std.proofs.lemmas.Option.{slice_get_within, slice_get-get_or}
use Rattle.cxl_check.proofs.Searches.{find_here, find_nowhere}
use Rattle.cxl_cause.specs.BlockCauses.{all_ways, fits_device}
use Rattle.cxl_cause.proofs.capacity.fitting_ways.Goals as goal

pub returns-then-fits_device : goal.returns-then-fits_device
returns-then-fits_device c =
    let fits : ℕ → Bool = λ (ways : ℕ). fits_device c.args.capacity.now.ram c.args.capacity.now.pmem c.args.start (c.args.size / ways) in
    let i : ℕ = c.loop-ways.ways-index in
    let here : slice_get all_ways i ≡ Some (get_or all_ways i 0) = slice_get-get_or all_ways i 0 c.loop-ways-test.true in
    let passes : fits (get_or all_ways i 0) ≡ true = ap fits (sym c.from.ensures) ∙ sym c.fits_device.ensures ∙ c.if-fits_device.true in
    sym here ∙ find_here fits all_ways i (get_or all_ways i 0) here passes c.loop-ways.invariant

pub returns : goal.returns
returns c =
    let fits : ℕ → Bool = λ (ways : ℕ). fits_device c.args.capacity.now.ram c.args.capacity.now.pmem c.args.start (c.args.size / ways) in
    find_nowhere fits all_ways (λ k ways there.
    let within = slice_get_within all_ways k ways there in
    c.loop-ways.invariant k ways (omega (arith, within, c.loop-ways-test.false)) there)
