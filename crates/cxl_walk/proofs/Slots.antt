-- The way of a slot down the tree is told by a region's own decoders.
use Rattle.std.proofs.Common.{◌≡◌, ℕ, zero, suc, ◌+◌, ◌-◌, ◌*◌, ◌/◌, ◌%◌, ◌^◌, ◌<◌, ◌≤◌, Bool, false, cond, List, [], ◌∷◌, ◌++◌, length, take, drop, replicate, reverse, Option, Some, None, refl, sym, ap, ◌∙◌, inl, inr, arith}
use Rattle.std.specs.Prelude.{find, ◌==◌, option_map, slice_get}
use Rattle.std.specs.Option.{option_and_then, option_map_or}
use Rattle.std.specs.List.{filter_map, cons_option, range_with_len}
use Rattle.std.proofs.Math.Nat.{div-div-eq-div-mul}
use Rattle.std.proofs.Math.ListN.{set}
use Rattle.std.proofs.lemmas.Bool.{cases_Bool, cases_lt, eq-eqb, ne_eqb}
use Rattle.std.proofs.lemmas.List.{reverse-append, take_more_set, drop-set-lt, drop-drop, drop-replicate}
use Rattle.std.proofs.lemmas.Option.{none-some, same_Some}
use Rattle.std.proofs.lemmas.Map.Keys.{any_passes_from_place}
use Rattle.cxl_enc.specs.Codes.{bits_of}
use Rattle.cxl_enc.proofs.Tests.{clash}
use Rattle.cxl_topo.specs.declared.node.Parent.{Parent}
use Rattle.cxl_topo.specs.Tree.{parent_of, ports_above}
use Rattle.cxl_topo.proofs.Trees.{KnownTree, ports_none, ports_some}
use Rattle.cxl_regs.specs.declared.decoder.Decoder.{Decoder}
use Rattle.cxl_regs.specs.declared.reading.Range.{Range}
use Rattle.cxl_regs.specs.Reading.{decoder_ways, has_range}
use Rattle.cxl_span.proofs.Wholes.{ways_some}
use Rattle.cxl_window.specs.Fields.{WindowFields}
use Rattle.cxl_model.specs.declared.chain.Step.{Step}
use Rattle.cxl_model.specs.declared.found.Found.{Found}
use Rattle.cxl_model.specs.System.{System, decoders_at}
use Rattle.cxl_model.specs.Ranges.{serves, decoder_for, index_for, ways_above}
use Rattle.cxl_model.specs.Regions.{region_range, slots_an_entry}
use Rattle.cxl_model.specs.Changes.{HaveSameOwnDecoders}
use Rattle.cxl_model.proofs.Staying.{firsts}
use Rattle.cxl_model.specs.Dealing.{slot_entry, slot_step, slot_steps}
use Rattle.cxl_model.proofs.RangeRules.{ServesAt, served, no_decoder}
use Rattle.cxl_model.proofs.RangeCounts.{ways_below, ways_past, no_ways_above}
use Rattle.cxl_model.proofs.DealingNodes.{owns_index}
use Rattle.cxl_walk.specs.declared.own.Own.{Own}
use Rattle.cxl_walk.specs.declared.steps.StepsAbove.{StepsAbove}
use Rattle.cxl_walk.specs.Keeping.{own_for, own_decoders}
use Rattle.cxl_walk.specs.Routes.{no_step}
use Rattle.cxl_walk.specs.inner.Slots.{step_at}

-- ---- finding by node

abbrev pub is_of : ℕ → Own → Bool
is_of n one = one.node == n

-- one that was gathered at its node, which is among so many from one on
record IsGatheredAt (f : ℕ → Option Own) (from k : ℕ) (one : Own) : Type 0 where
  is : f one.node ≡ Some one
  low : from ≤ one.node
  below : one.node < from + k

module _ (f : ℕ → Option Own) (named : (n : ℕ) (one : Own) → f n ≡ Some one → one.node ≡ n) where
  -- nothing earlier is found
  none_later : (from k n : ℕ) → n < from → find (is_of n) (filter_map f (range_with_len from k)) ≡ None
  none_later from zero n low = refl
  none_later from (suc k) n low = go (f from) refl (none_later (from + 1) k n (omega arith))
    where
      go : (o : Option Own) → f from ≡ o → find (is_of n) (filter_map f (range_with_len (from + 1) k)) ≡ None → find (is_of n) (cons_option o (filter_map f (range_with_len (from + 1) k))) ≡ None
      go None is rest = rest
      go (Some one) is rest =
          let own = named from one is in
          ap (λ (b : Bool). cond b (Some one) (find (is_of n) (filter_map f (range_with_len (from + 1) k)))) (ne_eqb one.node n (λ e. omega (arith, own, e, low))) ∙ rest

  -- what is gathered by node is found by node
  pub found_by_node : (from k n : ℕ) → from ≤ n → n < from + k → find (is_of n) (filter_map f (range_with_len from k)) ≡ f n
  found_by_node from zero n low below = absurd (omega arith)
  found_by_node from (suc k) n low below = elim (cases_lt from n) [
    | inl later ↦ past (f from) refl later (found_by_node (from + 1) k n (omega arith) (omega arith))
    | inr here ↦ at (f from) refl (omega (arith, here, low))
  ]
    where
      past : (o : Option Own) → f from ≡ o → from < n → find (is_of n) (filter_map f (range_with_len (from + 1) k)) ≡ f n → find (is_of n) (cons_option o (filter_map f (range_with_len (from + 1) k))) ≡ f n
      past None is later rest = rest
      past (Some one) is later rest =
          let own = named from one is in
          ap (λ (b : Bool). cond b (Some one) (find (is_of n) (filter_map f (range_with_len (from + 1) k)))) (ne_eqb one.node n (λ e. omega (arith, own, e, later))) ∙ rest

      at : (o : Option Own) → f from ≡ o → from ≡ n → find (is_of n) (cons_option o (filter_map f (range_with_len (from + 1) k))) ≡ f n
      at None none same = none_later (from + 1) k n (omega (arith, same)) ∙ sym none ∙ ap f same
      at (Some one) some same =
          let own = named from one some in
          ap (λ (b : Bool). cond b (Some one) (find (is_of n) (filter_map f (range_with_len (from + 1) k)))) (eq-eqb one.node n (omega (arith, own, same)))
          ∙ sym some ∙ ap f same

  -- whatever stands among the gathered was gathered at its node
  gathered_at : (from k p : ℕ) (x : Own) → slice_get (filter_map f (range_with_len from k)) p ≡ Some x → IsGatheredAt f from k x
  gathered_at from zero p x at = absurd (none-some x at)
  gathered_at from (suc k) p x at = go (f from) refl p at (λ (q : ℕ). gathered_at (from + 1) k q x)
    where
      later : IsGatheredAt f (from + 1) k x → IsGatheredAt f from (suc k) x
      later rest = record { is = rest.is; low = (let low = rest.low in omega (arith, low)); below = (let below = rest.below in omega (arith, below)) }

      go : (o : Option Own) → f from ≡ o → (q : ℕ) → slice_get (cons_option o (filter_map f (range_with_len (from + 1) k))) q ≡ Some x
          → ((r : ℕ) → slice_get (filter_map f (range_with_len (from + 1) k)) r ≡ Some x → IsGatheredAt f (from + 1) k x) → IsGatheredAt f from (suc k) x
      go None is q it rest = later (rest q it)
      go (Some one) is zero it rest =
          let same : one ≡ x = same_Some one x it in
          let node : x.node ≡ from = ap (λ (o : Own). o.node) (sym same) ∙ named from one is in
          record { is = ap f node ∙ is ∙ it; low = omega (arith, node); below = omega (arith, node) }
      go (Some one) is (suc q) it rest = later (rest q it)

  -- so it is what is found at its node
  pub found_there : (k p : ℕ) (x : Own) → slice_get (filter_map f (range_with_len 0 k)) p ≡ Some x → find (is_of x.node) (filter_map f (range_with_len 0 k)) ≡ Some x
  found_there k p x at =
      let it = gathered_at 0 k p x at in
      found_by_node 0 k x.node it.low it.below ∙ it.is

-- ---- a node's own decoder

module _ (s : System) (r : Range) (n : ℕ) where
  pub own_there : (at : ServesAt s r n) → own_for s r n ≡ Some (record { node = n; index = at.i; ways = decoder_ways at.d })
  own_there at =
      ap (λ (o : Option ℕ). option_and_then (λ (i : ℕ). option_map (λ (d : Decoder). record { node = n; index = i; ways = decoder_ways d }) (decoder_for s r n)) o) at.number
      ∙ ap (λ (o : Option Decoder). option_map (λ (d : Decoder). record { node = n; index = at.i; ways = decoder_ways d }) o) at.first

  pub no_index : serves s r n ≡ false → index_for s r n ≡ None
  no_index none = go (index_for s r n) refl
    where
      go : (o : Option ℕ) → index_for s r n ≡ o → o ≡ None
      go None is = refl
      go (Some i) is =
          let own = owns_index s r n i is in
          absurd (clash (serves s r n) (any_passes_from_place (has_range r) (decoders_at s n) i own.0 own.1.there own.1.has) none)

  pub own_nowhere : serves s r n ≡ false → own_for s r n ≡ None
  own_nowhere none = ap (λ (o : Option ℕ). option_and_then (λ (i : ℕ). option_map (λ (d : Decoder). record { node = n; index = i; ways = decoder_ways d }) (decoder_for s r n)) o) (no_index none)

pub own_named : (s : System) (r : Range) (n : ℕ) (one : Own) → own_for s r n ≡ Some one → one.node ≡ n
own_named s r n one is = elim (cases_Bool (serves s r n)) [
  | inl some ↦ ap (λ (o : Own). o.node) (same_Some one _ (sym is ∙ own_there s r n (served s r n some)))
  | inr none ↦ absurd (none-some one (sym (own_nowhere s r n none) ∙ is))
]

pub own_is : (s : System) (found : Found) (n : ℕ) → n < length s.nodes → find (is_of n) (own_decoders s found) ≡ own_for s (region_range found) n
own_is s found n below = found_by_node (own_for s (region_range found)) (own_named s (region_range found)) 0 (length s.nodes) n (omega arith) (omega (arith, below))

-- a node with an own decoder serves the range
pub record IsOwn (s : System) (r : Range) (n : ℕ) (one : Own) : Type 0 where
  pub at : ServesAt s r n
  pub is : one ≡ record { node = n; index = at.i; ways = decoder_ways at.d }

pub own_serves : (s : System) (r : Range) (n : ℕ) (one : Own) → own_for s r n ≡ Some one → IsOwn s r n one
own_serves s r n one is = elim (cases_Bool (serves s r n)) [
  | inl some ↦ record { at = served s r n some; is = same_Some one _ (sym is ∙ own_there s r n (served s r n some)) }
  | inr none ↦ absurd (none-some one (sym (own_nowhere s r n none) ∙ is))
]

pub serves_none : (s : System) (r : Range) (n : ℕ) → own_for s r n ≡ None → serves s r n ≡ false
serves_none s r n is = elim (cases_Bool (serves s r n)) [
  | inl some ↦ absurd (none-some _ (sym is ∙ own_there s r n (served s r n some)))
  | inr none ↦ none
]

-- ---- the steps above a node

-- so many steps, with zeros behind them, are a slot's above node n, and so much is left of the slot
pub record IsAbove (s : System) (w : WindowFields) (r : Range) (slot n : ℕ) (above : StepsAbove) : Type 0 where
  pub steps : take above.len above.steps ≡ slot_steps s w r slot n
  pub rest : above.rest ≡ slot / slots_an_entry s w r n

module _ (s : System) (w : WindowFields) (r : Range) (known : KnownTree s.nodes) (slot n : ℕ) where
  abbrev gathered : List Parent → List Step
  gathered ports = reverse (filter_map (λ (parent : Parent). slot_step s w r slot parent.node) ports)

  pub top_steps : parent_of s.nodes n ≡ None → slot_steps s w r slot n ≡ []
  top_steps none = ap gathered (ports_none known n none)

  pub top_entry : parent_of s.nodes n ≡ None → slots_an_entry s w r n ≡ 2 ^ bits_of w.ways
  top_entry none =
      let one = no_ways_above s r n known none in
      ap (λ (k : ℕ). 2 ^ bits_of w.ways * k) one ∙ omega arith

  module _ (p : Parent) (up : parent_of s.nodes n ≡ Some p) where
    below : slot_steps s w r slot n ≡ reverse (cons_option (slot_step s w r slot p.node) (filter_map (λ (parent : Parent). slot_step s w r slot parent.node) (ports_above s.nodes p.node)))
    below = ap gathered (ports_some known n p up)

    pub past_steps : own_for s r p.node ≡ None → slot_steps s w r slot n ≡ slot_steps s w r slot p.node
    past_steps none =
        below
        ∙ ap (λ (o : Option ℕ). reverse (cons_option (option_map (λ (i : ℕ). record { node = p.node; decoder = i; entry = slot_entry s w r slot p.node }) o) (filter_map (λ (parent : Parent). slot_step s w r slot parent.node) (ports_above s.nodes p.node))))
        (no_index s r p.node (serves_none s r p.node none))

    pub past_entry : own_for s r p.node ≡ None → slots_an_entry s w r n ≡ slots_an_entry s w r p.node
    past_entry none = ap (λ (k : ℕ). 2 ^ bits_of w.ways * k) (ways_past s r known n p up (no_decoder s r p.node (serves_none s r p.node none)))

    module _ (port : Own) (own : own_for s r p.node ≡ Some port) (above : StepsAbove) (is : IsAbove s w r slot p.node above) where
      held : IsOwn s r p.node port
      held = own_serves s r p.node port own

      its_step : slot_step s w r slot p.node ≡ Some (step_at port above.rest)
      its_step =
          ap (λ (o : Option ℕ). option_map (λ (i : ℕ). record { node = p.node; decoder = i; entry = slot_entry s w r slot p.node }) o) held.at.number
          ∙ ap (λ (o : Option Decoder). Some (record { node = p.node; decoder = held.at.i; entry = slot / slots_an_entry s w r p.node % option_map_or decoder_ways o 1 })) held.at.first
          ∙ ap (λ (k : ℕ). Some (record { node = p.node; decoder = held.at.i; entry = k % decoder_ways held.at.d })) (sym is.rest)
          ∙ ap (λ (one : Own). Some (step_at one above.rest)) (sym held.is)

      pub more_steps : slot_steps s w r slot n ≡ take above.len above.steps ++ step_at port above.rest ∷ []
      more_steps =
          below
          ∙ ap (λ (o : Option Step). reverse (cons_option o (filter_map (λ (parent : Parent). slot_step s w r slot parent.node) (ports_above s.nodes p.node)))) its_step
          ∙ reverse-append (step_at port above.rest ∷ []) (filter_map (λ (parent : Parent). slot_step s w r slot parent.node) (ports_above s.nodes p.node))
          ∙ ap (λ (steps : List Step). steps ++ step_at port above.rest ∷ []) (sym is.steps)

      pub less_rest : above.rest / port.ways ≡ slot / slots_an_entry s w r n
      less_rest =
          let b : ℕ = 2 ^ bits_of w.ways in
          let v : ℕ = decoder_ways held.at.d in
          let a : ℕ = ways_above s r p.node in
          let ways : port.ways ≡ v = ap (λ (o : Own). o.ways) held.is in
          let up_ways : ways_above s r n ≡ v * a = ways_below s r known n p held.at.d up held.at.first in
          let order : b * a * v ≡ b * (v * a) = grind arith in
          ap (λ (k : ℕ). k / port.ways) is.rest ∙ ap (λ (k : ℕ). slot / (b * a) / k) ways ∙ div-div-eq-div-mul slot (b * a) v
          ∙ ap (λ (k : ℕ). slot / k) (order ∙ ap (λ (k : ℕ). b * k) (sym up_ways))

-- one step more stands behind the others
pub step_behind : (above : StepsAbove) (port : Own) → length above.steps ≡ 5 → above.len < 5
    → take (above.len + 1) (set above.steps above.len (step_at port above.rest)) ≡ take above.len above.steps ++ step_at port above.rest ∷ []
step_behind above port long room = take_more_set above.steps above.len (step_at port above.rest) (omega (arith, long, room))

pub zeros_behind : (above : StepsAbove) (step : Step) → length above.steps ≡ 5 → above.len < 5 → drop above.len above.steps ≡ replicate (5 - above.len) no_step
    → drop (above.len + 1) (set above.steps above.len step) ≡ replicate (5 - (above.len + 1)) no_step
zeros_behind above step long room zeros =
    let fewer : 5 - above.len - 1 ≡ 5 - (above.len + 1) = omega arith in
    drop-set-lt (above.len + 1) above.steps above.len step (omega arith) ∙ sym (drop-drop 1 above.len above.steps) ∙ ap (drop 1) zeros
    ∙ drop-replicate 1 (5 - above.len) no_step ∙ ap (λ (k : ℕ). replicate k no_step) fewer

-- ---- what is found among a region's own decoders

-- what stands in a node
pub own_found : (s : System) (found : Found) (own : List Own) (n : ℕ) (o : Option Own) → n < length s.nodes → own ≡ own_decoders s found → o ≡ find (is_of n) own
    → own_for s (region_range found) n ≡ o
own_found s found own n o below are is = sym (is ∙ ap (find (is_of n)) are ∙ own_is s found n below)

-- a decoder among a region's own ones is what stands in its node
pub own_at_place : (s : System) (found : Found) (own : List Own) (place n : ℕ) (one : Own) → own ≡ own_decoders s found → slice_get own place ≡ Some one → one.node ≡ n
    → find (is_of n) own ≡ Some one
own_at_place s found own place n one are at node =
    ap (λ (m : ℕ). find (is_of m) own) (sym node) ∙ ap (find (is_of one.node)) are
    ∙ found_there (own_for s (region_range found)) (own_named s (region_range found)) (length s.nodes) place one (ap (λ (xs : List Own). slice_get xs place) (sym are) ∙ at)

pub own_ways : (s : System) (r : Range) (n : ℕ) (one : Own) → own_for s r n ≡ Some one → 0 < one.ways
own_ways s r n one is =
    let own = own_serves s r n one is in
    let ways : one.ways ≡ decoder_ways own.at.d = ap (λ (o : Own). o.ways) own.is in
    omega (arith, ways_some own.at.d, ways)

pub own_index : (s : System) (r : Range) (n : ℕ) (one : Own) → own_for s r n ≡ Some one → index_for s r n ≡ Some one.index
own_index s r n one is =
    let own = own_serves s r n one is in
    own.at.number ∙ ap (λ (o : Own). Some o.index) (sym own.is)

-- ---- changes

-- the own decoders of a range, by what tells them
abbrev own_by : (ℕ → Option Decoder) → (ℕ → Option ℕ) → ℕ → List Own
own_by decode number count =
    filter_map (λ n. option_and_then (λ i. option_map (λ d. record { node = n; index = i; ways = decoder_ways d }) (decode n)) (number n)) (range_with_len 0 count)

-- images with the same own decoders of a region keep them
pub own_stays : (s t : System) (found : Found) → HaveSameOwnDecoders s t (region_range found) → own_decoders t found ≡ own_decoders s found
own_stays s t found same =
    let nodes = same.nodes in
    λ k. own_by (λ n. (firsts s t (region_range found) same n).found k) (λ n. (firsts s t (region_range found) same n).place k) (length (nodes k))
