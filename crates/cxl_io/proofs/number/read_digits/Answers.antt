use Rattle.std.proofs.Common.{◌≡◌, ◌+◌, ◌-◌, ◌==◌, ℕ, false, Some, Err, List, length, take, drop, sym, ◌∙◌, arith, length-drop}
use Rattle.std.proofs.lemmas.List.{take_all}
use Rattle.cxl_io.specs.Numbers.{first_bad_place, number_in}
use Rattle.cxl_io.specs.declared.number.NumFault.TheVariants.{BadDigit}
use Rattle.cxl_io.proofs.number.read_digits.Goals as goal

-- some digits of which one is bad
bad_digit : (base start : ℕ) (digits : List ℕ) (at : ℕ) → (length digits == 0) ≡ false → first_bad_place base digits ≡ Some at → number_in base start digits ≡ Err (BadDigit (start + at))
bad_digit base start digits at some bad = rw (some, bad)

pub returns-in-Some-first_bad_place : goal.returns-in-Some-first_bad_place
returns-in-Some-first_bad_place c =
    let word = c.args.word.now in
    let start = c.args.start in
    let digits = drop start word in
    let whole : take (length word - start) digits ≡ digits = take_all (length word - start) digits (omega (arith, length-drop start word)) in
    let bad = bad_digit c.args.base start digits c.in-Some-first_bad_place.at (rw whole at (sym c.is_empty.ensures ∙ c.if-is_empty.false)) (rw whole at (sym c.first_bad_place.ensures ∙ c.in-Some-first_bad_place.is)) in
    cc
