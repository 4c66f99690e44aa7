-- What is told of a region of an image speaks of nodes of its tree.
use Rattle.std.proofs.Common.{◌≡◌, ℕ, zero, suc, ◌+◌, ◌-◌, ◌<◌, ◌≤◌, Bool, List, [], ◌∷◌, length, map, reverse, replicate, take, Option, Some, None, refl, sym, ap, ◌∙◌, subst, arith}
use Rattle.std.specs.Prelude.{All, find, position, slice_get, option_map, IsSomeAnd}
use Rattle.std.specs.Option.{option_map_or}
use Rattle.std.specs.List.{cons_option, filter_map, position_or_len, range_with_len}
use Rattle.std.proofs.lemmas.List.{length-map, length-reverse, take-append-le, take_all}
use Rattle.std.proofs.lemmas.List.Elements.{All-nil, All-cons, All-map, All-contains}
use Rattle.std.proofs.lemmas.List.Folds.{find_at}
use Rattle.std.proofs.lemmas.List.Sorted.{All-permutation, IsPermutation-reverse}
use Rattle.std.proofs.lemmas.Option.{none-some, same_Some, slice_get_within}
use Rattle.cxl_enc.proofs.Lists.{contains_at}
use Rattle.cxl_deal.specs.Weaves.{IsWeave, weave_ways, dealt_slot}
use Rattle.cxl_topo.specs.declared.node.Node.{Node}
use Rattle.cxl_topo.specs.declared.node.Parent.{Parent}
use Rattle.cxl_topo.specs.Tree.{ports_above}
use Rattle.cxl_regs.specs.Registers.{Registers}
use Rattle.cxl_regs.specs.declared.reading.Range.{Range}
use Rattle.cxl_regs.specs.Reading.{has_range}
use Rattle.cxl_window.specs.Fields.{WindowFields}
use Rattle.cxl_model.specs.declared.chain.Step.{Step}
use Rattle.cxl_model.specs.declared.found.Found.{Found}
use Rattle.cxl_model.specs.declared.found.Place.{Place}
use Rattle.cxl_model.specs.declared.plan.Row.{Row}
use Rattle.cxl_model.specs.Dealing.{slot_step, slot_entry}
use Rattle.cxl_model.specs.Ranges.{index_for}
use Rattle.cxl_model.specs.Regions.{region_range, IsRegionIn, weave_fields, Carries}
use Rattle.cxl_model.specs.System.{System, IsSystem}
use Rattle.cxl_apply.specs.Releases.{row_for, rows_of}
use Rattle.cxl_apply.proofs.Freed.{row_parts}
use Rattle.cxl_reply.specs.declared.details.ShownRow.{ShownRow}
use Rattle.cxl_reply.specs.declared.details.Via.{Via}
use Rattle.cxl_reply.specs.Conditions.{IsNode, IsToldFound, AreToldSlots}
use Rattle.cxl_machine.specs.Accesses.{via_of, five_vias, slot_place, endpoints_by_slot}
use Rattle.cxl_machine.specs.Reports.{shown_row}

-- ---- lists

with_item : {X : Type 0} (P : X → Type 0) (o : Option X) (xs : List X) → ((x : X) → o ≡ Some x → P x) → All P xs → All P (cons_option o xs)
with_item P None xs here all = all
with_item P (Some x) xs here all = All-cons P x xs (here x refl) all

pub all_mapped : {X Y : Type 0} (P : Y → Type 0) (f : X → Option Y) (xs : List X) → ((x : X) (y : Y) → f x ≡ Some y → P y) → All P (filter_map f xs)
all_mapped P f [] each = All-nil P
all_mapped P f (x ∷ xs) each = with_item P (f x) (filter_map f xs) (each x) (all_mapped P f xs each)

one_more : {X : Type 0} (o : Option X) (xs : List X) (n : ℕ) → length xs ≤ n → length (cons_option o xs) ≤ n + 1
one_more None xs n low = omega arith
one_more (Some x) xs n low = omega arith

no_longer : {X Y : Type 0} (f : X → Option Y) (xs : List X) → length (filter_map f xs) ≤ length xs
no_longer f [] = omega arith
no_longer f (x ∷ xs) = let rest = one_more (f x) (filter_map f xs) (length xs) (no_longer f xs) in omega (arith, rest)

pub found_has : {X : Type 0} (P : X → Type 0) (p : X → Bool) (xs : List X) (x : X) → All P xs → find p xs ≡ Some x → P x
found_has P p xs x all is = All-contains P xs x all (contains_at xs (position_or_len p xs) x (sym (find_at p xs) ∙ is))

some_of : {X : Type 0} (P : X → Type 0) (o : Option X) → IsSomeAnd o P → (x : X) × (o ≡ Some x)
some_of P None is = absurd is
some_of P (Some x) is = (x, refl)

-- ---- nodes of an image

module _ (s : System) (system : IsSystem s) where
  -- a node with a decoder is one
  block_inside : (r : Range) (n i : ℕ) (o : Option Registers) → slice_get s.blocks n ≡ o
      → position (has_range r) (option_map_or (λ (block : Registers). block.decoders) o []) ≡ Some i → n < length s.nodes
  block_inside r n i None none is = absurd (none-some i is)
  block_inside r n i (Some block) there is = let low = slice_get_within s.blocks n block there in let count = system.caps.count in omega (arith, low, count)

  index_inside : (r : Range) (n i : ℕ) → index_for s r n ≡ Some i → n < length s.nodes
  index_inside r n i is = block_inside r n i (slice_get s.blocks n) refl is

  mapped_index : {X : Type 0} (o : Option ℕ) (f : ℕ → X) (x : X) → option_map f o ≡ Some x → (i : ℕ) × (o ≡ Some i)
  mapped_index None f x is = absurd (none-some x is)
  mapped_index (Some i) f x is = (i, refl)

  -- ---- rows

  row_inside : (r : Range) (n : ℕ) (row : Row) → n < length s.nodes → row_for s r n ≡ Some row → row.node < length s.nodes
  row_inside r n row low is = subst (λ (k : ℕ). k < length s.nodes) (sym (row_parts s r n row is).node) low

  rows_below : (r : Range) (from n : ℕ) → from + n ≤ length s.nodes → All (λ (row : Row). IsNode s.nodes row.node) (filter_map (row_for s r) (range_with_len from n))
  rows_below r from zero low = All-nil (λ (row : Row). IsNode s.nodes row.node)
  rows_below r from (suc n) low =
      with_item (λ (row : Row). IsNode s.nodes row.node) (row_for s r from) _ (λ row is. row_inside r from row (omega arith) is) (rows_below r (from + 1) n (omega arith))

  pub rows_inside : (found : Found) → All (λ (row : Row). IsNode s.nodes row.node) (rows_of s found)
  rows_inside found = rows_below (region_range found) 0 (length s.nodes) (omega arith)

  pub shown_inside : (found : Found) → All (λ (row : ShownRow). IsNode s.nodes row.node) (map shown_row (rows_of s found))
  shown_inside found = All-map (λ (row : ShownRow). IsNode s.nodes row.node) shown_row (rows_of s found) (rows_inside found)

  -- ---- the way down

  step_inside : (w : WindowFields) (r : Range) (slot : ℕ) (parent : Parent) (step : Step) → slot_step s w r slot parent.node ≡ Some step → IsNode s.nodes step.node
  step_inside w r slot parent step is = by_index (index_for s r parent.node) refl is
    where
      by_index : (o : Option ℕ) → index_for s r parent.node ≡ o → option_map (λ i. record { node = parent.node; decoder = i; entry = slot_entry s w r slot parent.node }) o ≡ Some step
          → IsNode s.nodes step.node
      by_index None none there = absurd (none-some step there)
      by_index (Some i) some there =
          subst (λ (st : Step). IsNode s.nodes st.node) (same_Some record { node = parent.node; decoder = i; entry = slot_entry s w r slot parent.node } step there)
          (index_inside r parent.node i some)

  module _ (w : WindowFields) (r : Range) (slot endpoint : ℕ) where
    abbrev down : List Step
    down = filter_map (λ (parent : Parent). slot_step s w r slot parent.node) (ports_above s.nodes endpoint)

    steps_inside : All (λ (step : Step). IsNode s.nodes step.node) (reverse down)
    steps_inside =
        All-permutation (λ (step : Step). IsNode s.nodes step.node) down (reverse down) (IsPermutation-reverse down)
        (all_mapped (λ (step : Step). IsNode s.nodes step.node) (λ (parent : Parent). slot_step s w r slot parent.node) (ports_above s.nodes endpoint) (step_inside w r slot))

    pub few_steps : length (ports_above s.nodes endpoint) ≤ 5 → length (reverse down) ≤ 5
    few_steps few =
        let long = no_longer (λ (parent : Parent). slot_step s w r slot parent.node) (ports_above s.nodes endpoint) in
        let same = length-reverse down in
        omega (arith, long, same)

    pub vias_inside : All (λ (via : Via). IsNode s.nodes via.node) (take (length (reverse down)) (five_vias (reverse down)))
    vias_inside =
        let long = length-map (reverse down) via_of in
        let front : take (length (reverse down)) (five_vias (reverse down)) ≡ map via_of (reverse down) =
        take-append-le (length (reverse down)) (map via_of (reverse down)) (replicate (5 - length (reverse down)) record { node = 0; decoder = 0; entry = 0 }) (omega (arith, long))
        ∙ take_all (length (reverse down)) (map via_of (reverse down)) (omega (arith, long)) in
        subst (All (λ (via : Via). IsNode s.nodes via.node)) (sym front) (All-map (λ (via : Via). IsNode s.nodes via.node) via_of (reverse down) steps_inside)

-- ---- slots

-- the place of a slot that there is
pub place_is : (found : Found) (slot : ℕ) (place : Place) → slice_get found.spans slot ≡ Some place → slot_place found slot ≡ place
place_is found slot place there = ap (λ (o : Option Place). option_map_or (λ (p : Place). p) o record { endpoint = 0; start = 0 }) there

pub carried_inside : (nodes : List Node) (w : WindowFields) (found : Found) (h endpoint dpa : ℕ) → IsToldFound nodes found → Carries found w h endpoint dpa
    → IsNode nodes (slot_place found (dealt_slot (weave_fields found w) h)).endpoint
carried_inside nodes w found h endpoint dpa told carries =
    let slot : ℕ = dealt_slot (weave_fields found w) h in
    let own = some_of _ (slice_get found.spans slot) carries.place in
    subst (λ (place : Place). IsNode nodes place.endpoint) (sym (place_is found slot own.0 own.1))
    (All-contains (λ (place : Place). IsNode nodes place.endpoint) found.spans own.0 told.endpoints (contains_at found.spans slot own.0 own.1))

pub slots_told : (nodes : List Node) (s : System) (w : WindowFields) (found : Found) → IsToldFound nodes found → IsRegionIn s w found → IsWeave (weave_fields found w) → weave_ways (weave_fields found w) ≡ found.ways
    → AreToldSlots nodes (endpoints_by_slot found)
slots_told nodes s w found told region weave ways = record {
  few = let long = length-map found.spans (λ (place : Place). place.endpoint) in let slots = region.slots in let few = weave.few_ways in omega (arith, long, slots, few, ways);
  each = All-map (IsNode nodes) (λ (place : Place). place.endpoint) found.spans told.endpoints;
}
