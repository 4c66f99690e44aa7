-- All host addresses that come to a byte of a device.
use Rattle.std.specs.Prelude.{◌↔◌, ℕ, ◌<◌, List, Contains, AllPairs}
use Rattle.cxl_model.specs.System.{System}
use Rattle.cxl_walk.specs.Hosts.{ComesTo}

-- the address comes to this byte of this endpoint's device
abbrev pub Reaches : System → ℕ → ℕ → ℕ → Type 0
Reaches s ep dpa h = (first : ℕ) × ComesTo s ep dpa first h

-- the addresses that come to the byte and no others, rising
pub record AreHostsOf (s : System) (ep dpa : ℕ) (hosts : List ℕ) : Type 0 where
  pub rising : AllPairs (λ a b. a < b) hosts
  pub each : (h : ℕ) → Contains hosts h ↔ Reaches s ep dpa h
