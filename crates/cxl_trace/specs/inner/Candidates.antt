-- The addresses that a decoder may send to one byte, one for each of its ways, as they are tried.
use Rattle.std.specs.Prelude.{ℕ, ◌+◌, ◌*◌, ◌<◌, List, Contains, AllPairs}
use Rattle.cxl_model.specs.System.{System}
use Rattle.cxl_trace.specs.HostLists.{Reaches}

-- of so many addresses, each so far behind the one before, those that come to the byte, rising
pub record AreReached (s : System) (ep dpa first apart count : ℕ) (hosts : List ℕ) : Type 0 where
  pub rising : AllPairs (λ a b. a < b) hosts
  pub below : (h : ℕ) → Contains hosts h → h < first + count * apart
  pub only : (h : ℕ) → Contains hosts h → Reaches s ep dpa h
  pub all : (k : ℕ) → k < count → Reaches s ep dpa (first + k * apart) → Contains hosts (first + k * apart)
