-- The least rule that a decoder breaks, and the first breach among some decoders of a node and among some nodes, by any
-- test of a decoder.
use Rattle.std.specs.Prelude.{◌≡◌, ℕ, ◌<◌, Bool, true, false, Option, Some, None}
use Rattle.cxl_span.specs.declared.breach.BlockBreach.{BlockBreach}
use Rattle.cxl_check.specs.declared.fault.Breach.{Breach}

-- whether a rule is broken by decoder i of node n, of rule, n and i
abbrev pub Breaks : Type 0
Breaks = ℕ → ℕ → ℕ → Bool

-- ---- of one decoder

-- decoder i of node n breaks the rule, and no lower one
pub record IsLeastBroken (breaks : Breaks) (n i rule : ℕ) : Type 0 where
  pub broken : breaks rule n i ≡ true
  pub rules : (lower : ℕ) → lower < rule → breaks lower n i ≡ false

-- the least rule that decoder i of node n breaks, where it breaks one
abbrev pub IsLeastBrokenAt : Breaks → ℕ → ℕ → Option ℕ → Type 0
IsLeastBrokenAt breaks n i None = (rule : ℕ) → breaks rule n i ≡ false
IsLeastBrokenAt breaks n i (Some rule) = IsLeastBroken breaks n i rule

-- ---- of some decoders of a node

-- the least rule that a decoder below k breaks, with the first decoder that does
pub record IsFirstWithin (breaks : Breaks) (n k : ℕ) (b : BlockBreach) : Type 0 where
  pub broken : breaks b.rule n b.decoder ≡ true
  pub rules : (lower i : ℕ) → lower < b.rule → i < k → breaks lower n i ≡ false
  pub decoders : (lower : ℕ) → lower < b.decoder → breaks b.rule n lower ≡ false

-- what is found of the decoders below k
abbrev pub IsFoundWithin : Breaks → ℕ → ℕ → Option BlockBreach → Type 0
IsFoundWithin breaks n k None = (rule i : ℕ) → i < k → breaks rule n i ≡ false
IsFoundWithin breaks n k (Some b) = IsFirstWithin breaks n k b

-- ---- of a node

-- decoder i of node n breaks the rule, no decoder of the node breaks a lower one, and no lower decoder this one
pub record IsFirstOfNode (breaks : Breaks) (n rule decoder : ℕ) : Type 0 where
  pub broken : breaks rule n decoder ≡ true
  pub rules : (lower i : ℕ) → lower < rule → breaks lower n i ≡ false
  pub decoders : (lower : ℕ) → lower < decoder → breaks rule n lower ≡ false

-- what is found of node n
abbrev pub IsFoundOfNode : Breaks → ℕ → Option BlockBreach → Type 0
IsFoundOfNode breaks n None = (rule i : ℕ) → breaks rule n i ≡ false
IsFoundOfNode breaks n (Some b) = IsFirstOfNode breaks n b.rule b.decoder

-- ---- of some nodes

-- the least rule that a node below k breaks, with the first node and decoder that do
pub record IsFirstAmong (breaks : Breaks) (k : ℕ) (b : Breach) : Type 0 where
  pub broken : breaks b.rule b.node b.decoder ≡ true
  pub rules : (lower n i : ℕ) → lower < b.rule → n < k → breaks lower n i ≡ false
  pub nodes : (n i : ℕ) → n < b.node → breaks b.rule n i ≡ false
  pub decoders : (i : ℕ) → i < b.decoder → breaks b.rule b.node i ≡ false

-- what is found of the nodes below k
abbrev pub IsFoundAmong : Breaks → ℕ → Option Breach → Type 0
IsFoundAmong breaks k None = (rule n i : ℕ) → n < k → breaks rule n i ≡ false
IsFoundAmong breaks k (Some b) = IsFirstAmong breaks k b
