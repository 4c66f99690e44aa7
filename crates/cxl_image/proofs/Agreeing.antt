-- How far a file agrees with its topology.
use Rattle.std.proofs.Common.{◌≡◌, ℕ, ◌+◌, ◌<◌, ◌≤◌, List, length, Some, ap, sym, ◌∙◌, refl, subst, inl, inr, arith}
use Rattle.std.proofs.lemmas.Bool.{cases_lt}
use Rattle.std.proofs.lemmas.Option.{same_Some}
use Rattle.std.specs.Prelude.{slice_get}
use Rattle.cxl_topo.specs.declared.node.Node.{Node}
use Rattle.cxl_image.specs.Fields.{block_size, start_of, word_from, named_bits}
use Rattle.cxl_image.specs.File.{AgreesUpTo, IsCut}
use Rattle.cxl_image.proofs.Places.{start_next, start_le, start_before, ends_within, block_long}

pub agrees_less : (bytes : List ℕ) (nodes : List Node) (p q : ℕ) → q ≤ p → AgreesUpTo bytes nodes p → AgreesUpTo bytes nodes q
agrees_less bytes nodes p q le agrees = record {
  magic = λ h. agrees.magic (omega arith);
  count = λ h. agrees.count (omega arith);
  caps = λ i node here h. agrees.caps i node here (omega arith);
}

-- where it agrees up to a block, it agrees up to less than four bytes further
pub agrees_on : (bytes : List ℕ) (nodes : List Node) (i p : ℕ) → p < start_of nodes i + 4 → AgreesUpTo bytes nodes (start_of nodes i) → AgreesUpTo bytes nodes p
agrees_on bytes nodes i p lt agrees = record {
  magic = λ h. agrees.magic (omega arith);
  count = λ h. agrees.count (omega arith);
  caps = λ j node here h. elim (cases_lt j i) [
    | inl below ↦
        let long = block_long node in
        let before = start_before nodes j i node here below in
        agrees.caps j node here (omega arith)
    | inr above ↦ let le = start_le nodes i j above in absurd (omega arith)
  ];
}

-- and where the block's capability word agrees, up to the next block
pub agrees_next : (bytes : List ℕ) (nodes : List Node) (i : ℕ) (node : Node) → slice_get nodes i ≡ Some node → AgreesUpTo bytes nodes (start_of nodes i) → named_bits (word_from bytes (start_of nodes i)) ≡ named_bits node.cap
    → AgreesUpTo bytes nodes (start_of nodes (i + 1))
agrees_next bytes nodes i node at agrees same = record {
  magic = λ h. agrees.magic (omega arith);
  count = λ h. agrees.count (omega arith);
  caps = λ j other here h. elim (cases_lt j i) [
    | inl below ↦
        let long = block_long other in
        let before = start_before nodes j i other here below in
        agrees.caps j other here (omega arith)
    | inr above ↦ elim (cases_lt i j) [
      | inl beyond ↦ let le = start_le nodes (i + 1) j (omega arith) in absurd (omega arith)
      | inr here_or_below ↦
          let is : i ≡ j = omega arith in
          let node_is : node ≡ other = same_Some node other (sym at ∙ ap (slice_get nodes) is ∙ here) in
          subst (λ (k : ℕ). named_bits (word_from bytes (start_of nodes k)) ≡ named_bits other.cap) is (same ∙ ap (λ (n : Node). named_bits n.cap) node_is)
    ]
  ];
}

-- the file is cut in the capability word of block i
pub cut_before : (bytes : List ℕ) (nodes : List Node) (i : ℕ) (node : Node) → slice_get nodes i ≡ Some node → AgreesUpTo bytes nodes (start_of nodes i) → length bytes < start_of nodes i + 4 → IsCut bytes nodes (length bytes)
cut_before bytes nodes i node here agrees short =
    let long = block_long node in
    let within = ends_within nodes i node here in
    record { all = refl; short = omega arith; agrees = agrees_on bytes nodes i (length bytes) short agrees }

-- or behind it
pub cut_inside : (bytes : List ℕ) (nodes : List Node) (i : ℕ) (node : Node) → slice_get nodes i ≡ Some node → AgreesUpTo bytes nodes (start_of nodes i) → named_bits (word_from bytes (start_of nodes i)) ≡ named_bits node.cap
    → length bytes < start_of nodes i + block_size node → IsCut bytes nodes (length bytes)
cut_inside bytes nodes i node here agrees same short =
    let within = ends_within nodes i node here in
    let next = start_next nodes i node here in
    record { all = refl; short = omega arith; agrees = agrees_less bytes nodes (start_of nodes (i + 1)) (length bytes) (omega arith) (agrees_next bytes nodes i node here agrees same) }
