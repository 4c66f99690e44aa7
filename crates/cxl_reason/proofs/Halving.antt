-- Sizes in parts of 256 MiB for each way.
use Rattle.std.proofs.Common.{◌≡◌, ℕ, ◌*◌, ◌<◌, ◌≤◌, true, arith}
use Rattle.std.proofs.Math.Nat.{mul-mod_left}
use Rattle.cxl_enc.specs.Codes.{is_ways}
use Rattle.cxl_enc.specs.Limits.{unit, address_limit}
use Rattle.cxl_enc.proofs.Numbers.{some_product}
use Rattle.cxl_enc.proofs.Ways.{some_ways}
use Rattle.cxl_legal.specs.Sizes.{IsSizeFor}

pub parts_size : (ways parts size : ℕ) → is_ways ways ≡ true → 0 < parts → parts * (unit * ways) ≤ size → size ≤ address_limit → IsSizeFor (parts * (unit * ways)) ways
parts_size ways parts size known some less low =
    let way = some_ways ways known in
    record {
      some = some_product parts (unit * ways) some (omega (arith, way));
      even = mul-mod_left parts (unit * ways);
      low = omega (arith, less, low);
    }
