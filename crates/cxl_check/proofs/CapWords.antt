-- K1, node by node.
use Rattle.std.proofs.Common.{◌≡◌, ℕ, ◌+◌, ◌<◌, ◌≤◌, true, false, not, length, Some, refl, ◌∙◌, inl, inr, arith}
use Rattle.std.specs.Prelude.{slice_get, ◌==◌}
use Rattle.std.proofs.lemmas.Bool.{eq-eqb, ne_eqb, cases_lt}
use Rattle.std.proofs.lemmas.Option.{slice_get_past}
use Rattle.cxl_enc.proofs.Tests.{and_false}
use Rattle.cxl_topo.specs.declared.node.Node.{Node}
use Rattle.cxl_regs.specs.Registers.{Registers}
use Rattle.cxl_model.specs.System.{System}
use Rattle.cxl_model.specs.Accepted.{breaks, breaks_caps}
use Rattle.cxl_check.specs.Spots.{Keeps, IsFirstSpot}

module _ (s : System) where
  pub as_caps : (n i : ℕ) → breaks s 1 n i ≡ breaks_caps s n i
  unfolding breaks
  as_caps n i = refl

  -- the number of blocks is another
  pub first_of_count : (length s.blocks ≡ length s.nodes → ⊥) → IsFirstSpot s 1 0 0
  first_of_count differ = record {
    broken = as_caps 0 0 ∙ rw (ne_eqb (length s.blocks) (length s.nodes) differ) refl;
    nodes = λ lower i below. absurd (omega arith);
    decoders = λ lower below. absurd (omega arith);
  }

  module _ (count : length s.blocks ≡ length s.nodes) where
    -- the word of a node's block is the node's
    pub word_kept : (n i : ℕ) (block : Registers) (node : Node) → slice_get s.blocks n ≡ Some block → slice_get s.nodes n ≡ Some node → block.cap ≡ node.cap → breaks_caps s n i ≡ false
    word_kept n i block node here there same =
        rw (eq-eqb (length s.blocks) (length s.nodes) count, here, there, eq-eqb block.cap node.cap same) (and_false (i == 0))

    pub past : (n i : ℕ) → length s.nodes < n + 1 → breaks_caps s n i ≡ false
    past n i beyond =
        rw (eq-eqb (length s.blocks) (length s.nodes) count, slice_get_past s.nodes n (omega arith), slice_get_past s.blocks n (omega arith)) (and_false (i == 0))

    pub all_kept : ((n i : ℕ) → n < length s.nodes → breaks_caps s n i ≡ false) → Keeps s 1
    all_kept each n i = as_caps n i ∙ elim (cases_lt n (length s.nodes)) [ inl below ↦ each n i below | inr beyond ↦ past n i (omega arith) ]

    -- or it is another, where all before have theirs
    pub first_of_words : (n : ℕ) (block : Registers) (node : Node) → slice_get s.blocks n ≡ Some block → slice_get s.nodes n ≡ Some node → (block.cap ≡ node.cap → ⊥)
        → ((m i : ℕ) → m < n → breaks_caps s m i ≡ false) → IsFirstSpot s 1 n 0
    first_of_words n block node here there differ before = record {
      broken = as_caps n 0 ∙ rw (eq-eqb (length s.blocks) (length s.nodes) count, here, there, ne_eqb block.cap node.cap differ) refl;
      nodes = λ lower i below. as_caps lower i ∙ before lower i below;
      decoders = λ lower below. absurd (omega arith);
    }

    -- it breaks the rule exactly where it is another
    pub word_is : (n : ℕ) (block : Registers) (node : Node) → slice_get s.blocks n ≡ Some block → slice_get s.nodes n ≡ Some node → not (block.cap == node.cap) ≡ breaks_caps s n 0
    word_is n block node here there = rw (eq-eqb (length s.blocks) (length s.nodes) count, here, there) refl

  -- node 0 alone is named where the number of blocks is another
  pub first_node : (length s.blocks ≡ length s.nodes → ⊥) → (n i : ℕ) → 1 ≤ n → breaks_caps s n i ≡ false
  first_node differ n i other = rw (ne_eqb (length s.blocks) (length s.nodes) differ, ne_eqb n 0 (omega arith)) (and_false (i == 0))

  pub first_of_all : (length s.blocks ≡ length s.nodes → ⊥) → true ≡ breaks_caps s 0 0
  first_of_all differ = rw (ne_eqb (length s.blocks) (length s.nodes) differ) refl
