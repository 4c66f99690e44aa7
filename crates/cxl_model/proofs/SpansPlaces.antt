-- Each slot of a whole range has a span.
use Rattle.std.proofs.Common.{◌≡◌, ℕ, zero, suc, ◌+◌, ◌/◌, ◌<◌, ◌≤◌, true, false, length, get_or, Option, Some, refl, sym, ap, ◌∙◌, subst, inl, inr, arith}
use Rattle.std.specs.Prelude.{slice_get, IsSomeAnd}
use Rattle.std.proofs.Math.Nat.{mod-lt}
use Rattle.std.proofs.lemmas.Bool.{cases_Bool}
use Rattle.std.proofs.lemmas.Option.{slice_get-get_or}
use Rattle.std.proofs.lemmas.List.Sums.{AllPass-from_list_all}
use Rattle.std.proofs.lemmas.List.FromFn.{get_or-map-range_with_len, length-map-range_with_len}
use Rattle.cxl_enc.proofs.Ways.{some_ways}
use Rattle.cxl_topo.specs.Tree.{forwards_at, is_endpoint_at, child_of, bridge_with}
use Rattle.cxl_regs.specs.declared.decoder.Decoder.{Decoder}
use Rattle.cxl_regs.specs.declared.reading.Range.{Range}
use Rattle.cxl_regs.specs.Reading.{decoder_ways, entries_of, entry_at}
use Rattle.cxl_span.specs.Spans.{span_start_of}
use Rattle.cxl_window.specs.Fields.{WindowFields}
use Rattle.cxl_topo.proofs.Trees.{KnownTree, parent_is_port, inside_port}
use Rattle.cxl_regs.proofs.DecoderRanges.{decoder_ways_known}
use Rattle.cxl_model.specs.declared.found.Place.{Place}
use Rattle.cxl_model.specs.System.{System, IsSystem, decoders_at}
use Rattle.cxl_model.specs.Ranges.{IsCommittedRange, serves, decoder_for, index_for, window_for}
use Rattle.cxl_model.specs.Rules.{lands_on, leads_on}
use Rattle.cxl_model.specs.Accepted.{IsWhole}
use Rattle.cxl_model.specs.Regions.{target_position, slots_an_entry, LeadsTo, past_forwarding, past_port, at_endpoint, HasSpan}
use Rattle.cxl_model.proofs.RangeRules.{RangesRise, ServesAt, served, leads}
use Rattle.cxl_model.proofs.RangeCounts.{lands_within, lands_below, lands_here, Child, child_at}
use Rattle.cxl_model.proofs.RangeWindows.{has_window, targets}
use Rattle.cxl_model.proofs.SpansSlots.{entry_for}
use Rattle.cxl_model.proofs.SpansApart.{position_below}

pub some_and : {X : Type 0} (o : Option X) (x : X) (P : X → Type 0) → o ≡ Some x → P x → IsSomeAnd o P
some_and o x P is holds = subst (λ q. IsSomeAnd q P) (sym is) holds

pub record Leading (s : System) (w : WindowFields) (r : Range) (slot n : ℕ) : Type 0 where
  pub place : Place
  pub leads : LeadsTo s w r slot n place

-- the child at the entry to which a slot goes
next_child : (s : System) (w : WindowFields) (r : Range) (slot n : ℕ) → KnownTree s.nodes → IsWhole s r → (at : ServesAt s r n) → is_endpoint_at s.nodes n ≡ false
    → Child s r n (entry_at at.d (entry_for s w r slot n at.d))
next_child s w r slot n known whole at port =
    let k : ℕ = entry_for s w r slot n at.d in
    let below : k < decoder_ways at.d = mod-lt (slot / slots_an_entry s w r n) (some_ways (decoder_ways at.d) (decoder_ways_known at.d)) in
    let within : k < length (entries_of at.d) = subst (λ (m : ℕ). k < m) (sym (length-map-range_with_len (entry_at at.d) 0 (decoder_ways at.d))) below in
    let ways = (leads s r whole n at.i at.d at.there at.has).ways port in
    let on : leads_on s r n (get_or (entries_of at.d) k 0) ≡ true = AllPass-from_list_all (leads_on s r n) (entries_of at.d) ways.1 k 0 within in
    let entry : get_or (entries_of at.d) k 0 ≡ entry_at at.d k = get_or-map-range_with_len (entry_at at.d) 0 (decoder_ways at.d) k k 0 below (omega arith) in
    child_at s r n (entry_at at.d k) known (sym (ap (leads_on s r n) entry) ∙ on)

leading : (s : System) (w : WindowFields) (r : Range) → IsSystem s → KnownTree s.nodes → IsWhole s r → (slot k n : ℕ) → length s.nodes ≤ n + k → lands_on s r n ≡ true → Leading s w r slot n
leading s w r system known whole slot zero n past lands =
    let within = lands_within s r n system lands in
    absurd (omega arith)
leading s w r system known whole slot (suc k) n past lands =
    elim (cases_Bool (forwards_at s.nodes n)) [
      | inl forwards ↦
          let below = lands_below s r n system known forwards lands in
          let higher = (parent_is_port known below.child below.own below.parent).0 in
          let node = below.node in
          let rest = leading s w r system known whole slot k below.child (omega (arith, higher, node)) below.lands in
          record { place = rest.place; leads = past_forwarding n below.child rest.place forwards below.first rest.leads }
      | inr own ↦
          let is : serves s r n ≡ true = sym (lands_here s r n system known own) ∙ lands in
          let at = served s r n is in
          elim (cases_Bool (is_endpoint_at s.nodes n)) [
            | inl endpoint ↦
                let place : Place = record { endpoint = n; start = span_start_of (decoders_at s n) at.i } in
                record { place = place; leads = at_endpoint place endpoint (some_and (index_for s r n) at.i (λ (i : ℕ). place.start ≡ span_start_of (decoders_at s n) i) at.number refl) }
            | inr port ↦
                let child = next_child s w r slot n known whole at port in
                let higher = (parent_is_port known child.node (record { node = n; port = entry_at at.d (entry_for s w r slot n at.d) }) child.parent).0 in
                let rest = leading s w r system known whole slot k child.node (omega (arith, higher)) child.lands in
                record {
                  place = rest.place;
                  leads = past_port n child.node rest.place own (inside_port s.nodes n (lands_within s r n system lands) port)
                      (some_and (decoder_for s r n) at.d (λ (d : Decoder). child_of s.nodes n (entry_at d (entry_for s w r slot n d)) ≡ Some child.node) at.first child.stands) rest.leads;
                }
          ]
    ]

pub record Spanned (s : System) (w : WindowFields) (r : Range) (slot : ℕ) : Type 0 where
  pub place : Place
  pub span : HasSpan s w r slot place

-- each slot has a span
pub spanned : RangesRise → (s : System) (w : WindowFields) (r : Range) → IsSystem s → KnownTree s.nodes → IsWhole s r → window_for s r ≡ Some w → IsCommittedRange s r → (slot : ℕ) → Spanned s w r slot
spanned rise s w r system known whole window committed slot =
    let k : ℕ = target_position w slot in
    let own = (has_window s r w system window).known in
    let below : k < length w.targets = subst (λ (n : ℕ). k < n) (sym own.target_each_way) (position_below w slot own.ways_known) in
    let target = targets rise s r w system known whole window committed k 0 below in
    let rest = leading s w r system known whole slot (length s.nodes) target.bridge (omega arith) target.lands in
    record {
      place = rest.place;
      span = record {
        bridge = target.bridge;
        target = some_and (slice_get w.targets k) (get_or w.targets k 0) (λ (uid : ℕ). bridge_with s.nodes uid ≡ Some target.bridge) (slice_get-get_or w.targets k 0 below) target.found;
        leads = rest.leads;
      };
    }
