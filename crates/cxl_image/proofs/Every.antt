-- Bytes are a file of an image, or have a first fault.
use Rattle.std.proofs.Common.{◌≡◌, ℕ, zero, suc, ◌+◌, ◌<◌, ◌≤◌, true, List, [], ◌∷◌, length, take, sum_by, Some, refl, ap, subst, ◌∙◌, ◌⊎◌, inl, inr, arith}
use Rattle.std.proofs.lemmas.Bool.{cases_lt, cases_eq, cases_Bool}
use Rattle.std.proofs.lemmas.List.Sums.{sum_by-cons}
use Rattle.std.proofs.lemmas.Option.{none-some, same_Some, slice_get_cases}
use Rattle.std.specs.Prelude.{slice_get}
use Rattle.cxl_regs.specs.Registers.{Registers}
use Rattle.cxl_topo.specs.declared.node.Node.{Node}
use Rattle.cxl_image.specs.declared.fault.ImageFault.TheVariants.{Magic, Cut, Nodes, Caps, Trailing}
use Rattle.cxl_image.specs.Fields.{block_size, start_of, end_of, has_magic, count_said, word_from, named_bits, block_from}
use Rattle.cxl_image.specs.File.{AgreesUpTo, HasImage, HasImageFault}
use Rattle.cxl_image.proofs.Places.{start_next}
use Rattle.cxl_image.proofs.Agreeing.{agrees_next, cut_before, cut_inside}

-- the blocks of nodes, of which the first begins at a byte place
blocks_in : List ℕ → List Node → ℕ → List Registers
blocks_in bytes [] at = []
blocks_in bytes (node ∷ nodes) at = block_from bytes at node ∷ blocks_in bytes nodes (at + block_size node)

length-blocks_in : (bytes : List ℕ) (nodes : List Node) (at : ℕ) → length (blocks_in bytes nodes at) ≡ length nodes
unfolding blocks_in
length-blocks_in bytes [] at = refl
length-blocks_in bytes (node ∷ nodes) at = ap suc (length-blocks_in bytes nodes (at + block_size node))

get-blocks_in : (bytes : List ℕ) (nodes : List Node) (at i : ℕ) (node : Node) → slice_get nodes i ≡ Some node → slice_get (blocks_in bytes nodes at) i ≡ Some (block_from bytes (at + sum_by block_size (take i nodes)) node)
unfolding blocks_in
get-blocks_in bytes [] at i node here = absurd (none-some node here)
get-blocks_in bytes (n ∷ nodes) at zero node here =
    let e : at ≡ at + 0 = omega arith in
    ap Some (ap (λ (p : ℕ). block_from bytes p n) e ∙ ap (block_from bytes (at + 0)) (same_Some n node here))
get-blocks_in bytes (n ∷ nodes) at (suc i) node here =
    let sum = sum_by-cons block_size n (take i nodes) in
    let e : (at + block_size n) + sum_by block_size (take i nodes) ≡ at + sum_by block_size (n ∷ take i nodes) = omega (arith, sum) in
    get-blocks_in bytes nodes (at + block_size n) i node here ∙ ap (λ (p : ℕ). Some (block_from bytes p node)) e

whole_image : (bytes : List ℕ) (nodes : List Node) → length bytes ≡ end_of nodes → AgreesUpTo bytes nodes (end_of nodes) → HasImage bytes nodes
whole_image bytes nodes whole agrees = (
  blocks_in bytes nodes 12,
  record {
    whole = whole;
    agrees = agrees;
    count = length-blocks_in bytes nodes 12;
    each = get-blocks_in bytes nodes 12;
  },
)

-- where it agrees up to block i
blocks_judged : (bytes : List ℕ) (nodes : List Node) (left i : ℕ) → i + left ≡ length nodes → AgreesUpTo bytes nodes (start_of nodes i) → start_of nodes i ≤ length bytes → HasImage bytes nodes ⊎ HasImageFault bytes nodes
blocks_judged bytes nodes zero i all agrees within =
    let e : i ≡ length nodes = omega arith in
    let up_to : AgreesUpTo bytes nodes (end_of nodes) = subst (λ (k : ℕ). AgreesUpTo bytes nodes (start_of nodes k)) e agrees in
    let room : end_of nodes ≤ length bytes = subst (λ (k : ℕ). start_of nodes k ≤ length bytes) e within in
    elim (cases_lt (end_of nodes) (length bytes)) [
      | inl more ↦ inr (Trailing (end_of nodes), record { here = refl; more = more; agrees = up_to })
      | inr none ↦ inl (whole_image bytes nodes (omega arith) up_to)
    ]
blocks_judged bytes nodes (suc left) i all agrees within = elim (slice_get_cases nodes i).1 [
  | inr past ↦ let beyond = past.0 in absurd (omega arith)
  | inl at ↦
      let node : Node = at.0 in
      let here : slice_get nodes i ≡ Some node = at.2 in
      elim (cases_lt (length bytes) (start_of nodes i + 4)) [
        | inl cut ↦ inr (Cut (length bytes), cut_before bytes nodes i node here agrees cut)
        | inr there ↦ elim (cases_eq (named_bits (word_from bytes (start_of nodes i))) (named_bits node.cap)) [
          | inr other ↦ inr (Caps i, record { node = node; here = here; whole = there; other = other; agrees = agrees })
          | inl same ↦ elim (cases_lt (length bytes) (start_of nodes i + block_size node)) [
            | inl cut ↦ inr (Cut (length bytes), cut_inside bytes nodes i node here agrees same cut)
            | inr whole ↦
                let next = start_next nodes i node here in
                blocks_judged bytes nodes left (i + 1) (omega arith) (agrees_next bytes nodes i node here agrees same) (omega arith)
          ]
        ]
      ]
]

-- nothing that is judged ends by here
nothing_judged : (bytes : List ℕ) (nodes : List Node) (p : ℕ) → p < 8 → AgreesUpTo bytes nodes p
nothing_judged bytes nodes p lt = record {
  magic = λ le. absurd (omega arith);
  count = λ le. absurd (omega arith);
  caps = λ i node here le. absurd (omega arith);
}

magic_judged : (bytes : List ℕ) (nodes : List Node) (p : ℕ) → p < 12 → has_magic bytes ≡ true → AgreesUpTo bytes nodes p
magic_judged bytes nodes p lt is = record {
  magic = λ le. is;
  count = λ le. absurd (omega arith);
  caps = λ i node here le. absurd (omega arith);
}

head_judged : (bytes : List ℕ) (nodes : List Node) → has_magic bytes ≡ true → count_said bytes ≡ length nodes → AgreesUpTo bytes nodes 12
head_judged bytes nodes is count = record {
  magic = λ le. is;
  count = λ le. count;
  caps = λ i node here le. absurd (omega arith);
}

pub some_reading : (bytes : List ℕ) (nodes : List Node) → HasImage bytes nodes ⊎ HasImageFault bytes nodes
some_reading bytes nodes =
    let end : 12 ≤ end_of nodes = omega arith in
    elim (cases_lt (length bytes) 8) [
      | inl cut ↦ inr (Cut (length bytes), record { all = refl; short = omega arith; agrees = nothing_judged bytes nodes (length bytes) cut })
      | inr eight ↦ elim (cases_Bool (has_magic bytes)) [
        | inr other ↦ inr (Magic, record { whole = eight; other = other })
        | inl is ↦ elim (cases_lt (length bytes) 12) [
          | inl cut ↦ inr (Cut (length bytes), record { all = refl; short = omega arith; agrees = magic_judged bytes nodes (length bytes) cut is })
          | inr twelve ↦ elim (cases_eq (count_said bytes) (length nodes)) [
            | inr other ↦ inr (Nodes (count_said bytes), record { whole = twelve; here = refl; other = other; agrees = magic_judged bytes nodes 8 (omega arith) is })
            | inl count ↦ blocks_judged bytes nodes (length nodes) 0 (omega arith) (head_judged bytes nodes is count) twelve
          ]
        ]
      ]
    ]
