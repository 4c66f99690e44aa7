-- The blocks after a write to one of them.
use Rattle.std.proofs.Common.{◌≡◌, ◌≢◌, ℕ, ◌^◌, ◌<◌, List, Some, sym, ap, subst, ◌∙◌, ◌⊎◌, inl, inr, arith}
use Rattle.std.proofs.lemmas.Bool.{cases_lt}
use Rattle.std.proofs.lemmas.List.{length-set}
use Rattle.std.proofs.lemmas.List.Elements.{All-set}
use Rattle.std.proofs.lemmas.Option.{same_Some, slice_get_within, slice_get_cases, get_or_from_slice_get}
use Rattle.std.specs.Prelude.{slice_get, slice_set, Option, IsSomeAnd}
use Rattle.std.specs.Option.{option_map_or}
use Rattle.cxl_enc.proofs.Lists.{get_same, get_other}
use Rattle.cxl_regs.specs.declared.effect.Effect.{Effect}
use Rattle.cxl_regs.specs.Registers.{Registers, IsBlock, IsSameShape}
use Rattle.cxl_regs.specs.Writes.{WritesWord, after_word}
use Rattle.cxl_regs.specs.Blocks.{blocks_after}
use Rattle.cxl_topo.specs.declared.node.Node.{Node}
use Rattle.cxl_image.specs.Images.{IsImage, IsBlockOf, HasCapsOf}

pub after_left : (blocks : List Registers) (node off v : ℕ) (old new : Registers) (effect : Effect) → slice_get blocks node ≡ Some old → WritesWord old off v new effect → slice_set blocks node new ≡ blocks_after blocks node off v
after_left blocks node off v old new effect here write = rw here (ap (slice_set blocks node) write.left)

pub after_told : (blocks : List Registers) (node off v : ℕ) (old new : Registers) (effect : Effect) → slice_get blocks node ≡ Some old → WritesWord old off v new effect
    → IsSomeAnd (slice_get blocks node) (λ block. effect ≡ (after_word block off v).effect)
after_told blocks node off v old new effect here write = rw here write.told

-- the new block is a block of the same node
shaped : (n : Node) (old new : Registers) → IsSameShape old new → IsBlockOf n old → IsBlockOf n new
shaped n old new shape is = record { cap = shape.cap ∙ is.cap; endpoint = shape.endpoint ∙ is.endpoint }

set_caps : (blocks : List Registers) (nodes : List Node) (node : ℕ) (old new : Registers) → slice_get blocks node ≡ Some old → IsSameShape old new → HasCapsOf blocks nodes
    → (i : ℕ) (block : Registers) (n : Node) → slice_get (slice_set blocks node new) i ≡ Some block → slice_get nodes i ≡ Some n → (node ≡ i) ⊎ (i ≢ node) → IsBlockOf n block
set_caps blocks nodes node old new here shape caps i block n at of_node (inl e) =
    let is : new ≡ block = same_Some new block (sym (get_same blocks node new (slice_get_within blocks node old here)) ∙ ap (slice_get (slice_set blocks node new)) e ∙ at) in
    subst (IsBlockOf n) is (shaped n old new shape (caps.each i old n (ap (slice_get blocks) (sym e) ∙ here) of_node))
set_caps blocks nodes node old new here shape caps i block n at of_node (inr ne) =
    caps.each i block n (sym (get_other blocks node i new ne) ∙ at) of_node

same_or_other : (i k : ℕ) → (k ≡ i) ⊎ (i ≢ k)
same_or_other i k = elim (cases_lt i k) [
  | inl below ↦ inr (λ e. omega arith)
  | inr above ↦ elim (cases_lt k i) [
    | inl below ↦ inr (λ e. omega arith)
    | inr none ↦ inl (omega arith)
  ]
]

pub after_caps : (blocks : List Registers) (nodes : List Node) (node : ℕ) (old new : Registers) → slice_get blocks node ≡ Some old → IsSameShape old new → HasCapsOf blocks nodes → HasCapsOf (slice_set blocks node new) nodes
after_caps blocks nodes node old new here shape caps = record {
  count = length-set blocks node new ∙ caps.count;
  each = λ i block n at of_node. set_caps blocks nodes node old new here shape caps i block n at of_node (same_or_other i node);
}

pub after_image : (blocks : List Registers) (node : ℕ) (new : Registers) → IsImage blocks → IsBlock new → IsImage (slice_set blocks node new)
after_image blocks node new is block = record {
  few = omega (arith, is.few, length-set blocks node new);
  each = All-set IsBlock blocks node new block is.each;
}

pub block_there : (blocks : List Registers) (node : ℕ) (old : Registers) → IsImage blocks → slice_get blocks node ≡ Some old → IsBlock old
block_there blocks node old is here = subst IsBlock (get_or_from_slice_get blocks node old old here) (is.each node old (slice_get_within blocks node old here))

-- ---- as laws

-- the blocks after a write to the one that was found
abbrev written : List Registers → ℕ → ℕ → ℕ → Option Registers → List Registers
written blocks node off v found = option_map_or (λ block. slice_set blocks node (after_word block off v).block) found blocks

pub law_caps : ((block : Registers) (off v : ℕ) → IsSameShape block (after_word block off v).block) → (blocks : List Registers) (nodes : List Node) (node off v : ℕ) → HasCapsOf blocks nodes → HasCapsOf (blocks_after blocks node off v) nodes
law_caps shape blocks nodes node off v caps = elim (slice_get_cases blocks node).1 [
  | inl here ↦ subst (λ found. HasCapsOf (written blocks node off v found) nodes) (sym here.2) (after_caps blocks nodes node here.0 (after_word here.0 off v).block here.2 (shape here.0 off v) caps)
  | inr past ↦ subst (λ found. HasCapsOf (written blocks node off v found) nodes) (sym past.1) caps
]

pub law_image : ((block : Registers) (off v : ℕ) → IsBlock block → v < 2 ^ 32 → IsBlock (after_word block off v).block) → (blocks : List Registers) (node off v : ℕ) → IsImage blocks → v < 2 ^ 32 → IsImage (blocks_after blocks node off v)
law_image sound blocks node off v is lt = elim (slice_get_cases blocks node).1 [
  | inl here ↦ subst (λ found. IsImage (written blocks node off v found)) (sym here.2) (after_image blocks node (after_word here.0 off v).block is (sound here.0 off v (block_there blocks node here.0 is here.2) lt))
  | inr past ↦ subst (λ found. IsImage (written blocks node off v found)) (sym past.1) is
]
