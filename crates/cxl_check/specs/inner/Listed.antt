-- Places that pass a test, as they are listed node by node.
use Rattle.std.specs.Prelude.{◌≡◌, ℕ, Bool, true, List, All, AllPairs, Contains}
use Rattle.cxl_check.specs.declared.fault.Breach.{Breach}
use Rattle.cxl_check.specs.Breaches.{StandsBefore, Precedes}

-- whether decoder i of node n passes, of n and i
abbrev pub SpotTest : Type 0
SpotTest = ℕ → ℕ → Bool

-- a place of this rule that passes, before decoder k of node n
pub record IsSpotBefore (test : SpotTest) (rule n k : ℕ) (b : Breach) : Type 0 where
  pub of : b.rule ≡ rule
  pub passes : test b.node b.decoder ≡ true
  pub before : StandsBefore b.node b.decoder n k

-- all of them, in order
pub record AreSpotsBefore (test : SpotTest) (rule n k : ℕ) (spots : List Breach) : Type 0 where
  pub each : All (IsSpotBefore test rule n k) spots
  pub all : (m i : ℕ) → StandsBefore m i n k → test m i ≡ true → Contains spots (record { rule = rule; node = m; decoder = i })
  pub rising : AllPairs Precedes spots
