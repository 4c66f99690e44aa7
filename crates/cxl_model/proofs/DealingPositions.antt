-- The position of a window's target that an address goes to is that of its slot.
use Rattle.std.proofs.Common.{◌≡◌, ℕ, ◌+◌, ◌-◌, ◌*◌, ◌/◌, ◌%◌, ◌^◌, ◌≤◌, Bool, true, false, if◌then◌else◌, sym, ap, ◌∙◌, arith}
use Rattle.std.specs.Prelude.{◌==◌}
use Rattle.cxl_enc.specs.Codes.{third_of, bits_of}
use Rattle.cxl_enc.specs.Limits.{unit}
use Rattle.cxl_num.specs.Interleave.{chunk_from, factor_of, low_by, position_by}
use Rattle.cxl_window.specs.Fields.{WindowFields}
use Rattle.cxl_window.specs.Position.{position_of, chunk_of}
use Rattle.cxl_deal.specs.Weaves.{WeaveFields, IsWeave, dealt_slot, position_from}
use Rattle.cxl_model.specs.declared.found.Found.{Found}
use Rattle.cxl_model.specs.Regions.{target_position, weave_fields}

-- what the law of dealing says of positions
abbrev pub PositionLaw : Type 0
PositionLaw =
    (v : WeaveFields) (base h : ℕ) → IsWeave v → base ≤ v.base → (v.base - base) % (factor_of v.third * unit) ≡ 0 → v.base ≤ h
    → position_from base v h ≡ dealt_slot v h % 2 ^ v.root_bits + 2 ^ v.root_bits * (dealt_slot v h / 2 ^ v.root_bits % factor_of v.third)

-- in a window of more than one way, whose code the region has
abbrev position_at_code : WindowFields → ℕ → ℕ → ℕ
position_at_code w h gran =
    let chunk = chunk_from w.base gran h in
    position_by (bits_of w.ways) (third_of w.ways) (low_by w.xor (bits_of w.ways) w.maps h chunk) chunk

pub many_positions : PositionLaw → (found : Found) (w : WindowFields) (h : ℕ) → IsWeave (weave_fields found w) → found.gran ≡ w.gran
    → w.base ≤ found.base → found.base ≤ h → (found.base - w.base) % (factor_of (w.ways % 3 == 0) * unit) ≡ 0
    → position_of w h ≡ target_position w (dealt_slot (weave_fields found w) h)
many_positions law found w h weave gran from above none =
    ap (position_at_code w h) (sym gran) ∙ law (weave_fields found w) w.base h weave from none above

-- in a window of one way
abbrev position_with : WindowFields → ℕ → ℕ → ℕ
position_with w h ways =
    position_by (bits_of ways) (third_of ways) (low_by w.xor (bits_of ways) w.maps h (chunk_of w h)) (chunk_of w h)

abbrev target_with : ℕ → ℕ → ℕ
target_with slot ways = slot % 2 ^ bits_of ways + 2 ^ bits_of ways * (slot / 2 ^ bits_of ways % third_of ways)

first_of_one : (xor : Bool) (c : ℕ) → (if xor then 0 else c % 1) + 1 * (c / 1 % 1) ≡ 0
first_of_one true c = omega arith
first_of_one false c = omega arith

target_of_one : (slot : ℕ) → slot % 1 + 1 * (slot / 1 % 1) ≡ 0
target_of_one slot = omega arith

pub one_position : (w : WindowFields) (h slot : ℕ) → w.ways ≡ 1 → position_of w h ≡ target_position w slot
one_position w h slot one =
    ap (position_with w h) one ∙ first_of_one w.xor (chunk_of w h) ∙ sym (ap (target_with slot) one ∙ target_of_one slot)
