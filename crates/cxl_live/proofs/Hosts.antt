-- Where a region holds an address.
use Rattle.std.proofs.Common.{◌≡◌, ℕ, ◌+◌, ◌<◌, ◌≤◌, true}
use Rattle.std.specs.Prelude.{nat_le, nat_lt}
use Rattle.std.proofs.lemmas.Bool.{and_parts, and_from, leb-true, ltb-true, le-leb, lt-ltb}
use Rattle.cxl_model.specs.declared.found.Found.{Found}
use Rattle.cxl_machine.specs.Machine.{has_host}

module _ (found : Found) (h : ℕ) where
  pub host_from : has_host found h ≡ true → found.base ≤ h
  host_from has = leb-true found.base h (and_parts (nat_le found.base h) (nat_lt h (found.base + found.size)) has).0

  pub host_below : has_host found h ≡ true → h < found.base + found.size
  host_below has = ltb-true h (found.base + found.size) (and_parts (nat_le found.base h) (nat_lt h (found.base + found.size)) has).1

  pub host_within : found.base ≤ h → h < found.base + found.size → has_host found h ≡ true
  host_within from below = and_from (nat_le found.base h) (nat_lt h (found.base + found.size)) (le-leb found.base h from) (lt-ltb h (found.base + found.size) below)
