-- The first breach of all rules, from the first of K1, of K2 to K8, and of K9 to K12.
use Rattle.std.proofs.Common.{◌≡◌, ℕ, ◌<◌, ◌≤◌, true, false, length, Option, Some, None, refl, sym, ◌∙◌, inl, inr, arith}
use Rattle.std.specs.Prelude.{slice_get, IfNone, IfSome}
use Rattle.std.specs.Option.{option_map_or}
use Rattle.std.proofs.lemmas.Bool.{cases_lt, cases_eq, false≢true}
use Rattle.std.proofs.lemmas.Option.{slice_get_past}
use Rattle.cxl_regs.specs.Registers.{Registers}
use Rattle.cxl_span.specs.Breaches.{breaks as block_breaks}
use Rattle.cxl_span.proofs.RulesBroken.{no_other_rule}
use Rattle.cxl_model.specs.System.{System, IsSystem, ram_at, pmem_at}
use Rattle.cxl_model.specs.Accepted.{breaks, breaks_block, IsAccepted, IsFirstBreach, IsOrderlySystem}
use Rattle.cxl_model.proofs.OtherBlocks.{block_rule}
use Rattle.cxl_check.specs.declared.fault.Breach.{Breach}
use Rattle.cxl_check.specs.Spots.{Keeps, IsFirstSpot}
use Rattle.cxl_check.specs.inner.Found.{IsFoundAmong}
use Rattle.cxl_check.proofs.RuleTests.{all_rules, past_nodes}

module _ (s : System) where
  -- a block breaks no rule but K2 to K8
  block_keeps : (rule n i : ℕ) → ((k : ℕ) → 2 ≤ k → k < 9 → rule ≡ k → ⊥) → breaks_block s rule n i ≡ false
  block_keeps rule n i far = go (slice_get s.blocks n)
    where
      go : (o : Option Registers) → option_map_or (λ (block : Registers). block_breaks rule block (ram_at s n) (pmem_at s n) i) o false ≡ false
      go None = refl
      go (Some block) = no_other_rule rule block (ram_at s n) (pmem_at s n) i far

  -- and there is none past the nodes
  pub block_past : (rule n i : ℕ) → length s.blocks ≤ n → breaks_block s rule n i ≡ false
  block_past rule n i past = rw (slice_get_past s.blocks n past) refl

  zero_keeps : (n i : ℕ) → breaks s 0 n i ≡ false
  zero_keeps n i = block_rule s 0 n i (λ same. omega arith) (omega arith) ∙ block_keeps 0 n i (λ k from to same. omega arith)

  -- a broken rule of blocks is one of K2 to K8
  pub record IsBlockRule (rule : ℕ) : Type 0 where
    pub from : 2 ≤ rule
    pub to : rule < 9

  pub block_rule_of : (rule n i : ℕ) → breaks_block s rule n i ≡ true → IsBlockRule rule
  block_rule_of rule n i broken =
      elim (cases_lt rule 2) [
        | inl low ↦ absurd (false≢true (sym (block_keeps rule n i (λ k from to same. omega arith)) ∙ broken))
        | inr from ↦ elim (cases_lt rule 9) [
          | inl to ↦ record { from = from; to = to }
          | inr high ↦ absurd (false≢true (sym (block_keeps rule n i (λ k from to same. omega arith)) ∙ broken))
        ]
      ]

  pub first_of_caps : (n : ℕ) → IsFirstSpot s 1 n 0 → IsFirstBreach s 1 n 0
  first_of_caps n first = record {
    broken = first.broken;
    rules = λ lower m i below. let zero : lower ≡ 0 = omega arith in rw zero (zero_keeps m i);
    nodes = first.nodes;
    decoders = first.decoders;
  }

  module _ (caps : Keeps s 1) (count : length s.blocks ≡ length s.nodes) where
    lower_keeps : (rule : ℕ) → ((n i : ℕ) → n < length s.nodes → breaks_block s rule n i ≡ false) → rule < 9 → (n i : ℕ) → breaks s rule n i ≡ false
    lower_keeps rule each low n i =
        elim (cases_eq rule 1) [
          | inl one ↦ rw one (caps n i)
          | inr other ↦
              block_rule s rule n i other low
              ∙ elim (cases_lt n (length s.nodes)) [ inl below ↦ each n i below | inr past ↦ block_past rule n i (omega arith) ]
        ]

    pub ready_where_none : IsSystem s → (o : Option Breach) → IsFoundAmong (breaks_block s) (length s.nodes) o → IfNone o (IsOrderlySystem s)
    ready_where_none system None found = record { system = system; blocks = λ rule n i low. lower_keeps rule (λ m j below. found rule m j below) low n i }
    ready_where_none system (Some b) found = tt

    pub first_where_some : (o : Option Breach) → IsFoundAmong (breaks_block s) (length s.nodes) o → IfSome o (λ b. IsFirstBreach s b.rule b.node b.decoder)
    first_where_some None found = tt
    first_where_some (Some b) found =
        let rule = block_rule_of b.rule b.node b.decoder found.broken in
        let from = rule.from in
        let to = rule.to in
        let other : b.rule ≡ 1 → ⊥ = λ same. omega arith in
        record {
          broken = block_rule s b.rule b.node b.decoder other to ∙ found.broken;
          rules = λ lower n i below. lower_keeps lower (λ m j within. found.rules lower m j below within) (omega arith) n i;
          nodes = λ lower i below. block_rule s b.rule lower i other to ∙ found.nodes lower i below;
          decoders = λ lower below. block_rule s b.rule b.node lower other to ∙ found.decoders lower below;
        }

  -- where K1 to K8 are kept, what is found of all nodes with a block is the first breach
  module _ (ready : IsOrderlySystem s) (k : ℕ) (all : length s.blocks ≤ k) where
    everywhere : (rule : ℕ) → ((n i : ℕ) → n < k → breaks s rule n i ≡ false) → (n i : ℕ) → breaks s rule n i ≡ false
    everywhere rule each n i =
        elim (cases_lt n k) [
          | inl below ↦ each n i below
          | inr beyond ↦ all_rules s ready n i (λ late from to. past_nodes s late from to n i (omega (arith, all, beyond))) rule
        ]

    pub accepted_where_none : (o : Option Breach) → IsFoundAmong (breaks s) k o → IfNone o (IsAccepted s)
    accepted_where_none None found = record { each = λ rule n i. everywhere rule (λ m j below. found rule m j below) n i }
    accepted_where_none (Some b) found = tt

    pub breach_where_some : (o : Option Breach) → IsFoundAmong (breaks s) k o → IfSome o (λ b. IsFirstBreach s b.rule b.node b.decoder)
    breach_where_some None found = tt
    breach_where_some (Some b) found = record {
      broken = found.broken;
      rules = λ lower n i below. everywhere lower (λ m j within. found.rules lower m j below within) n i;
      nodes = found.nodes;
      decoders = found.decoders;
    }
