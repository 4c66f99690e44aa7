-- How a slot goes down to its endpoint.
use Rattle.std.proofs.Common.{◌≡◌, ◌⊎◌, ℕ, ◌/◌, ◌%◌, ◌<◌, Bool, true, false, not, List, length, Option, Some, None, refl, sym, subst, ◌∙◌, inl, inr}
use Rattle.std.specs.Prelude.{slice_get, IsSomeAnd, option_and_then, option_map}
use Rattle.std.specs.Option.{option_map_or}
use Rattle.std.proofs.lemmas.Bool.{cases_Bool, false≢true}
use Rattle.std.proofs.lemmas.Option.{none-some, same_Some, slice_get_within}
use Rattle.cxl_enc.proofs.Options.{some_and}
use Rattle.cxl_enc.proofs.Lists.{item}
use Rattle.cxl_topo.specs.declared.node.Node.{Node}
use Rattle.cxl_topo.specs.declared.node.Parent.{Parent}
use Rattle.cxl_topo.specs.Kinds as kinds
use Rattle.cxl_topo.specs.Tree.{forwards_at, is_port_at, is_endpoint_at, parent_of, child_of, holds_at}
use Rattle.cxl_topo.specs.Faults.{IsTree}
use Rattle.cxl_topo.specs.Laws.{AreTreeLaws}
use Rattle.cxl_topo.proofs.Trees.{port_no_endpoint}
use Rattle.cxl_regs.specs.declared.decoder.Decoder.{Decoder}
use Rattle.cxl_regs.specs.declared.reading.Range.{Range}
use Rattle.cxl_regs.specs.Reading.{decoder_ways, entry_at}
use Rattle.cxl_span.specs.Spans.{span_start_of}
use Rattle.cxl_window.specs.Fields.{WindowFields}
use Rattle.cxl_model.specs.declared.found.Place.{Place}
use Rattle.cxl_model.specs.System.{System, decoders_at}
use Rattle.cxl_model.specs.Ranges.{decoder_for, index_for}
use Rattle.cxl_model.specs.Regions.{slots_an_entry, LeadsTo, past_forwarding, past_port, at_endpoint, LeadsSlot}
use Rattle.cxl_check.specs.inner.Slots.{child_of_slot, next_of}
use Rattle.cxl_check.proofs.Trees.{IsBelow, below_parent}

holding : (nodes : List Node) (n : ℕ) (test : Node → Bool) → holds_at nodes n test ≡ true → (node : Node) × (slice_get nodes n ≡ Some node) × (test node ≡ true)
holding nodes n test holds = go (slice_get nodes n) refl holds
  where
    go : (o : Option Node) → slice_get nodes n ≡ o → option_map_or test o false ≡ true → (node : Node) × (slice_get nodes n ≡ Some node) × (test node ≡ true)
    go None e h = absurd (false≢true h)
    go (Some node) e h = (node, e, h)

inside : (nodes : List Node) (n : ℕ) (test : Node → Bool) → holds_at nodes n test ≡ true → n < length nodes
inside nodes n test holds = let node = holding nodes n test holds in slice_get_within nodes n node.0 node.1

module _ (s : System) (w : WindowFields) (r : Range) (slot : ℕ) where
  -- what is known of the last node
  pub record Ends (n : ℕ) (place : Place) : Type 0 where
    pub here : place.endpoint ≡ n
    pub endpoint : is_endpoint_at s.nodes n ≡ true
    pub start : IsSomeAnd (index_for s r n) (λ i. place.start ≡ span_start_of (decoders_at s n) i)

  -- and of any other
  pub record Goes (n : ℕ) (place : Place) : Type 0 where
    pub child : ℕ
    pub next : next_of s w r slot n ≡ Some child
    pub within : n < length s.nodes
    pub other : is_endpoint_at s.nodes n ≡ false
    pub leads : LeadsTo s w r slot child place

  slot_child : (n child : ℕ) → LeadsSlot s w r slot n child → child_of_slot s w r slot n ≡ Some child
  slot_child n child leads =
      let d = some_and (decoder_for s r n) _ leads in
      rw d.1 d.2

  child_slot : (n child : ℕ) → child_of_slot s w r slot n ≡ Some child → LeadsSlot s w r slot n child
  child_slot n child is = go (decoder_for s r n) refl is
    where
      go : (o : Option Decoder) → decoder_for s r n ≡ o
          → option_and_then (λ (d : Decoder). child_of s.nodes n (entry_at d (slot / slots_an_entry s w r n % decoder_ways d))) o ≡ Some child
          → IsSomeAnd o (λ (d : Decoder). child_of s.nodes n (entry_at d (slot / slots_an_entry s w r n % decoder_ways d)) ≡ Some child)
      go None e h = absurd (none-some child h)
      go (Some d) e h = h

  module _ (tree : IsTree s.nodes) where
    no_endpoint : (n : ℕ) → forwards_at s.nodes n ≡ true → is_endpoint_at s.nodes n ≡ false
    no_endpoint n forwards =
        let node = holding s.nodes n (λ node. node.forwards) forwards in
        rw node.1 (tree.placeholders n node.0 node.1 node.2).1

    pub goes_or_ends : (n : ℕ) (place : Place) → LeadsTo s w r slot n place → Goes n place ⊎ Ends n place
    goes_or_ends _ _ (past_forwarding n child place forwards next leads) =
        inl (record { child = child; next = rw forwards next; within = inside s.nodes n (λ node. node.forwards) forwards; other = no_endpoint n forwards; leads = leads })
    goes_or_ends _ _ (past_port n child place own port leads_slot leads) =
        inl (record { child = child; next = rw own (slot_child n child leads_slot); within = inside s.nodes n (λ node. not (kinds.is_endpoint node.kind)) port; other = port_no_endpoint s.nodes n port; leads = leads })
    goes_or_ends _ _ (at_endpoint place endpoint start) = inr (record { here = refl; endpoint = endpoint; start = start })

    -- a slot leads to a node that there is
    pub within : (n : ℕ) (place : Place) → LeadsTo s w r slot n place → n < length s.nodes
    within n place leads =
        elim (goes_or_ends n place leads) [
          | inl goes ↦ goes.within
          | inr ends ↦ inside s.nodes n (λ node. kinds.is_endpoint node.kind) ends.endpoint
        ]

    -- an endpoint is the last
    pub ends_there : (n : ℕ) (place : Place) → is_endpoint_at s.nodes n ≡ true → LeadsTo s w r slot n place → Ends n place
    ends_there n place endpoint leads =
        elim (goes_or_ends n place leads) [
          | inl goes ↦ absurd (false≢true (sym goes.other ∙ endpoint))
          | inr ends ↦ ends
        ]

    -- any other is not
    pub goes_on : (n : ℕ) (place : Place) → is_endpoint_at s.nodes n ≡ false → LeadsTo s w r slot n place → Goes n place
    goes_on n place other leads =
        elim (goes_or_ends n place leads) [
          | inl goes ↦ goes
          | inr ends ↦ absurd (false≢true (sym other ∙ ends.endpoint))
        ]

    is_port : (n : ℕ) → n < length s.nodes → is_endpoint_at s.nodes n ≡ false → is_port_at s.nodes n ≡ true
    is_port n below other =
        let node = item s.nodes n below in
        let kind : kinds.is_endpoint node.0.kind ≡ false = rw node.1 at other in
        rw (node.1, kind) refl

    -- and back
    pub leads_by_next : (n child : ℕ) (place : Place) → n < length s.nodes → is_endpoint_at s.nodes n ≡ false → next_of s w r slot n ≡ Some child → LeadsTo s w r slot child place → LeadsTo s w r slot n place
    leads_by_next n child place below other next leads =
        elim (cases_Bool (forwards_at s.nodes n)) [
          | inl forwards ↦ past_forwarding n child place forwards (rw forwards at next) leads
          | inr own ↦ past_port n child place own (is_port n below other) (child_slot n child (rw own at next)) leads
        ]

    under : (n c : ℕ) → option_map (λ (parent : Parent). parent.node) (parent_of s.nodes c) ≡ Some n → IsBelow s.nodes n c
    under n c stands = go (parent_of s.nodes c) refl stands
      where
        go : (o : Option Parent) → parent_of s.nodes c ≡ o → option_map (λ (parent : Parent). parent.node) o ≡ Some n → IsBelow s.nodes n c
        go None e h = absurd (none-some n h)
        go (Some parent) e h = subst (λ (m : ℕ). IsBelow s.nodes m c) (same_Some parent.node n h) (below_parent s.nodes tree c parent e)

    -- the child comes after the node
    pub next_below : AreTreeLaws s.nodes → (n child : ℕ) → next_of s w r slot n ≡ Some child → IsBelow s.nodes n child
    next_below laws n child next =
        elim (cases_Bool (forwards_at s.nodes n)) [
          | inl forwards ↦ under n child ((laws.only_children n child forwards).0 (rw forwards at next))
          | inr own ↦
              let d = some_and (decoder_for s r n) _ (child_slot n child (rw own at next)) in
              below_parent s.nodes tree child _ ((laws.children n _ child).0 d.2)
        ]

    -- so the node is its parent's
    pub next_parent : AreTreeLaws s.nodes → (n child : ℕ) → next_of s w r slot n ≡ Some child → (parent : Parent) × (parent_of s.nodes child ≡ Some parent) × (parent.node ≡ n)
    next_parent laws n child next =
        elim (cases_Bool (forwards_at s.nodes n)) [
          | inl forwards ↦ from (parent_of s.nodes child) refl ((laws.only_children n child forwards).0 (rw forwards at next))
          | inr own ↦
              let d = some_and (decoder_for s r n) _ (child_slot n child (rw own at next)) in
              (_, (laws.children n _ child).0 d.2, refl)
        ]
      where
        from : (o : Option Parent) → parent_of s.nodes child ≡ o → option_map (λ (parent : Parent). parent.node) o ≡ Some n → (parent : Parent) × (parent_of s.nodes child ≡ Some parent) × (parent.node ≡ n)
        from None e h = absurd (none-some n h)
        from (Some parent) e h = (parent, e, same_Some parent.node n h)
