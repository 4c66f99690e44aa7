-- A probe from any home meets an empty cell.
use Rattle.std.proofs.Common.{ℕ, zero, suc, ◌+◌, ◌*◌, ◌/◌, ◌^◌, ◌<◌, ◌≤◌, cond, [], ◌∷◌, length, Option, None, Some, IsSome, is_some, inl, inr, count_by, refl, ap, arith}
use Rattle.std.proofs.Math.Nat.{div-lt_iff_lt-mul}
use Rattle.std.proofs.lemmas.Bool.{cases_lt, false≢true}
use Rattle.std.proofs.lemmas.List.Sums.{sum_by-cons}
use Rattle.std.specs.FinMap.{len}
use Rattle.cxl_media.specs.declared.cell.Cell.{Cell}
use Rattle.cxl_media.specs.Blocks.{Key}
use Rattle.cxl_media.specs.Table.{Cells, cell_at, AreTaken, StopsProbe, IsStop}
use Rattle.cxl_media.specs.Hash.{mixed, home_of}
use Rattle.cxl_media.specs.Index.{IsIndex}
use Rattle.cxl_media.proofs.Tables.{len_frames}

mixed_fits : (key : Key) → mixed key < 2 ^ 64
unfolding mixed
mixed_fits key = omega arith

-- a home is one of the homes
pub home_below : (homes : ℕ) (key : Key) → 0 < homes → home_of homes key < homes
home_below homes key some =
    let upper : mixed key / 2 ^ 32 < 2 ^ 32 = omega (arith, mixed_fits key) in
    let bound : mixed key / 2 ^ 32 * homes < homes * 2 ^ 32 = below (mixed key / 2 ^ 32) homes (2 ^ 32) upper some in
    (div-lt_iff_lt-mul (omega arith)).1 bound
  where
    below : (x h w : ℕ) → x < w → 0 < h → x * h < h * w
    below x h w lt pos = grind arith

-- from a cell on no more are taken than are taken at all
taken_from : (cells : Cells) (from : ℕ) → AreTaken cells from (length cells) → length cells ≤ from + count_by is_some cells
taken_from [] from taken = omega arith
taken_from (o ∷ rest) (suc from) taken =
    let later = taken_from rest from (λ m low high. taken (suc m) (omega arith) (omega arith)) in
    omega (arith, later, sum_by-cons (λ (p : Option Cell). cond (is_some p) 1 0) o rest)
taken_from (None ∷ rest) zero taken = absurd (false≢true (taken 0 (omega arith) (omega arith)))
taken_from (Some p ∷ rest) zero taken =
    let later = taken_from rest 0 (λ m low high. taken (suc m) (omega arith) (omega arith)) in
    omega (arith, later, sum_by-cons (λ (p : Option Cell). cond (is_some p) 1 0) (Some p) rest)

-- what does not stop a probe is taken
pub passed_taken : (key : Key) (o : Option Cell) → ¬ (StopsProbe key o) → IsSome o
passed_taken key None goes = absurd (goes tt)
passed_taken key (Some p) goes = refl

-- there are no more blocks than there is room for
pub cells_few : (cells kept : Cells) (room : ℕ) → IsIndex cells kept room → count_by is_some cells ≤ room
cells_few cells kept room index =
    omega (arith, len_frames cells index.table.once, ap len index.same, len_frames kept index.once, index.whole, index.few)

-- a probe meets the block or an empty cell
pub stop_meets : (cells kept : Cells) (room : ℕ) (key : Key) (at : ℕ) → IsIndex cells kept room → IsStop cells (home_of (2 * room) key) key at → 0 < room → at < length cells
stop_meets cells kept room key at index stop some =
    elim (cases_lt at (length cells)) [
      | inl within ↦ within
      | inr past ↦
          let taken = taken_from cells (home_of (2 * room) key) (λ m low high. passed_taken key (cell_at cells m) (stop.passed m low (omega (arith, high, past)))) in
          absurd (omega (arith, taken, home_below (2 * room) key (omega arith), cells_few cells kept room index, index.size))
    ]
