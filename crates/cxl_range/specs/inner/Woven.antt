-- A region beside its weave, and the bytes that are dealt to a slot from the region's base on.
use Rattle.std.specs.Prelude.{◌≡◌, ℕ, ◌+◌, ◌-◌, ◌/◌, ◌<◌, ◌≤◌, ◌==◌, length, List, count_by, slice_get, slice_index, Some}
use Rattle.std.specs.List.{range_with_len}
use Rattle.cxl_enc.specs.Limits.{address_limit}
use Rattle.cxl_num.specs.Interleave.{chunk_size}
use Rattle.cxl_deal.specs.Weaves.{WeaveFields, IsWeave, weave_ways, turns_end, dealt_slot}
use Rattle.cxl_model.specs.declared.found.Found.{Found}
use Rattle.cxl_model.specs.declared.found.Place.{Place}
use Rattle.cxl_model.specs.Bytes.{slot_length}

-- the weave deals the bytes of the region over its spans
pub record IsWoven (found : Found) (weave : WeaveFields) : Type 0 where
  pub is : IsWeave weave
  pub base : weave.base ≡ found.base
  pub gran : weave.gran ≡ found.gran
  pub ways : weave_ways weave ≡ found.ways
  pub slots : length found.spans ≡ found.ways
  pub turns : turns_end weave (slot_length found / chunk_size weave.gran) ≡ found.base + found.size
  pub low : found.base + found.size ≤ address_limit
  pub spans : (slot : ℕ) (place : Place) → slice_get found.spans slot ≡ Some place → place.start + slot_length found ≤ address_limit

-- how many bytes from the base up to an address are dealt to a slot
abbrev pub bytes_before : WeaveFields → ℕ → ℕ → ℕ
bytes_before weave end slot = count_by (λ i. dealt_slot weave i == slot) (range_with_len weave.base (end - weave.base))

-- sixteen counts, of each slot's bytes up to an address
pub record AreCountsBefore (weave : WeaveFields) (end : ℕ) (counts : List ℕ) : Type 0 where
  pub sixteen : length counts ≡ 16
  pub each : (slot : ℕ) → slot < 16 → slice_index counts slot ≡ bytes_before weave end slot
