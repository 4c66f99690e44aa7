-- Numbers that stand in parts of 256: a part that was not made has zeros.
use Rattle.std.specs.Prelude.{◌≡◌, ℕ, ◌*◌, ◌/◌, ◌%◌, ◌<◌, ◌≤◌, Bool, true, false, List, [], map, length, count_by, replicate, slice_index, slice_index_or}
use Rattle.std.proofs.Common.{zero, suc}
use Rattle.std.specs.List.{range_with_len}
use Rattle.cxl_enc.specs.Limits.{frame_limit}

-- the numbers of a part that was just made
unfoldable pub no_numbers : List ℕ
no_numbers = replicate 256 0

-- the part that a number names, of those that were made: none for 0, and else the one before it
abbrev pub part_named : List (List ℕ) → ℕ → List ℕ
part_named made zero = []
part_named made (suc n) = slice_index_or made n []

-- the number at a place: in the part of 256 that it lies in
abbrev pub number_at : List ℕ → List (List ℕ) → ℕ → ℕ
number_at parts made at = slice_index (part_named made (slice_index parts (at / 256))) (at % 256)

-- so many numbers, by place
abbrev pub numbers_of : List ℕ → List (List ℕ) → ℕ → List ℕ
numbers_of parts made total = map (number_at parts made) (range_with_len 0 total)

-- the name is of a part that was made
abbrev pub is_made : ℕ → Bool
is_made zero = false
is_made (suc n) = true

-- each name is of a part that was made, no two parts have one name, and there is room for all
pub record AreParts (parts : List ℕ) (made : List (List ℕ)) (total room : ℕ) : Type 0 where
  pub named : (i n : ℕ) → slice_index parts i ≡ suc n → n < length made
  pub once : (i j n : ℕ) → slice_index parts i ≡ suc n → slice_index parts j ≡ suc n → i ≡ j
  pub counted : count_by is_made parts ≡ length made
  pub cover : total ≤ 256 * length parts
  pub fits : length parts ≤ room
  pub few : total ≤ 3 * frame_limit
  pub small : length parts ≤ 3 * frame_limit
