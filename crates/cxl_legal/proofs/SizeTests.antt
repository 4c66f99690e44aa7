-- The test of a size passes where it is one.
use Rattle.std.proofs.Common.{◌≡◌, ℕ, ◌*◌, ◌%◌, ◌&&◌, true}
use Rattle.std.specs.Prelude.{nat_lt, nat_le, ◌==◌}
use Rattle.std.proofs.lemmas.Bool.{and_parts, and_from, eqb-true, eq-eqb, lt-ltb, ltb-true, le-leb, leb-true}
use Rattle.cxl_enc.specs.Limits.{unit, address_limit}
use Rattle.cxl_legal.specs.Sizes.{IsSizeFor, is_size_for}

pub size_holds : (size ways : ℕ) → is_size_for size ways ≡ true → IsSizeFor size ways
size_holds size ways is =
    let parts = and_parts (nat_lt 0 size && (size % (unit * ways) == 0)) (nat_le size address_limit) is in
    let first = and_parts (nat_lt 0 size) (size % (unit * ways) == 0) parts.0 in
    record { some = ltb-true 0 size first.0; even = eqb-true (size % (unit * ways)) 0 first.1; low = leb-true size address_limit parts.1 }

pub size_passes : (size ways : ℕ) → IsSizeFor size ways → is_size_for size ways ≡ true
size_passes size ways holds =
    and_from (nat_lt 0 size && (size % (unit * ways) == 0)) (nat_le size address_limit)
    (and_from (nat_lt 0 size) (size % (unit * ways) == 0) (lt-ltb 0 size holds.some) (eq-eqb (size % (unit * ways)) 0 holds.even))
    (le-leb size address_limit holds.low)
