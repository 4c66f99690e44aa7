-- All places of an image that break the rule which is broken first (this project's rules).
use Rattle.std.specs.Prelude.{◌≡◌, ℕ, ◌<◌, ◌⊎◌, true, List, [], ◌∷◌, All, AllPairs, Contains}
use Rattle.cxl_check.specs.declared.fault.Breach.{Breach}
use Rattle.cxl_model.specs.System.{System}
use Rattle.cxl_model.specs.Accepted.{breaks, IsAccepted, IsFirstBreach}

-- decoder i of node m stands before decoder k of node n: the node goes first
abbrev pub StandsBefore : ℕ → ℕ → ℕ → ℕ → Type 0
StandsBefore m i n k = (m < n) ⊎ ((m ≡ n) × (i < k))

-- one breach stands before another
abbrev pub Precedes : Breach → Breach → Type 0
Precedes a b = StandsBefore a.node a.decoder b.node b.decoder

-- the breach is one of this rule
pub record IsBreachOf (s : System) (rule : ℕ) (b : Breach) : Type 0 where
  pub of : b.rule ≡ rule
  pub broken : breaks s rule b.node b.decoder ≡ true

-- all breaches of a rule: each of them and no other, in order
pub record AreBreachesOf (s : System) (rule : ℕ) (breaches : List Breach) : Type 0 where
  pub each : All (IsBreachOf s rule) breaches
  pub all : (n i : ℕ) → breaks s rule n i ≡ true → Contains breaches (record { rule = rule; node = n; decoder = i })
  pub rising : AllPairs Precedes breaches

-- none of an image that is accepted; else the first breach, and with it all others of its rule
abbrev pub AreFirstBreaches : System → List Breach → Type 0
AreFirstBreaches s [] = IsAccepted s
AreFirstBreaches s (b ∷ others) = IsFirstBreach s b.rule b.node b.decoder × AreBreachesOf s b.rule (b ∷ others)
