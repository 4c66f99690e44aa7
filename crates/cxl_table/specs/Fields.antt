-- What the records of a table hold, and what each of them keeps.
use Rattle.std.specs.Prelude.{◌≡◌, ℕ, ◌<◌, ◌≤◌, Bool, List, length, Some}
use Rattle.cxl_table.specs.Layout.{cxims_kind}
use Rattle.cxl_enc.specs.Codes.{ways_of}

-- a fixed memory window; ways and granularity are codes
pub record CfmwsFields : Type 0 where
  pub base : ℕ
  pub size : ℕ
  pub ways : ℕ
  pub xor : Bool
  pub gran : ℕ
  pub restrict : ℕ
  pub qtg : ℕ
  pub targets : List ℕ

-- its codes are known, and there is one target for each way
pub record IsCfmws (ways gran : ℕ) (targets : List ℕ) : Type 0 where
  pub ways_known : ways_of ways ≡ Some (length targets)
  pub gran_known : gran ≤ 6

-- the XOR maps of a granularity code
pub record CximsFields : Type 0 where
  pub gran : ℕ
  pub maps : List ℕ

-- its code is known, and a byte counts its maps
pub record IsCxims (gran : ℕ) (maps : List ℕ) : Type 0 where
  pub gran_known : gran ≤ 6
  pub few : length maps ≤ 255

-- a record of another type
pub record OtherFields : Type 0 where
  pub kind : ℕ
  pub reserved : ℕ
  pub body : List ℕ

-- its type is none of the judged ones, and its length fits 16 bits
pub record IsOther (kind : ℕ) (body : List ℕ) : Type 0 where
  pub other : cxims_kind < kind
  pub few : length body ≤ 65531
