-- Which host addresses come to a byte of a device.
use Rattle.std.specs.Prelude.{◌≡◌, ℕ, ◌≤◌}
use Rattle.cxl_model.specs.System.{System}
use Rattle.cxl_model.specs.Chain.{Routing, Routed, Chain}
use Rattle.cxl_walk.specs.declared.upward.HostByte.{HostByte}

-- the chain of the address is a route that ends at this byte of this endpoint's device, by a decoder with this base
pub record ComesTo (s : System) (ep dpa first h : ℕ) : Type 0 where
  pub routing : Routing
  pub chain : Chain s h (Routed routing)
  pub endpoint : routing.arrival.endpoint ≡ ep
  pub byte : routing.arrival.dpa ≡ dpa
  pub base : routing.arrival.base ≡ first

-- no address comes to it
abbrev pub HasNoHost : System → ℕ → ℕ → Type 0
HasNoHost s ep dpa = (first h : ℕ) → ComesTo s ep dpa first h → ⊥

-- the least address that comes to it, and its decoder's base
pub record IsLeastHost (s : System) (ep dpa : ℕ) (host : HostByte) : Type 0 where
  pub comes : ComesTo s ep dpa host.base host.h
  pub least : (first h : ℕ) → ComesTo s ep dpa first h → host.h ≤ h
