-- An address whose chain is a route lies in a committed range.
use Rattle.std.proofs.Common.{◌≡◌, ℕ, ◌+◌, ◌<◌, ◌≤◌, true, List, refl, sym, subst}
use Rattle.std.proofs.lemmas.Bool.{eq-eqb}
use Rattle.std.proofs.lemmas.Map.Keys.{any_passes_from_place}
use Rattle.cxl_enc.proofs.Options.{some_and}
use Rattle.cxl_regs.specs.declared.decoder.Decoder.{Decoder}
use Rattle.cxl_model.specs.declared.chain.Step.{Step}
use Rattle.cxl_model.specs.System.{System, decoders_at, decoder_at}
use Rattle.cxl_model.specs.Chain.{Arrival, End, Arrives, Misses, Places, IsArrival, Walk, on_forwarding, on_step, at_end, Routing, Routed, chain_end_by, Chain, unheld, held}
use Rattle.cxl_regs.specs.Reading.{range_of, has_range}
use Rattle.cxl_regs.specs.declared.reading.Range.{Range}
use Rattle.cxl_regs.proofs.DecoderRanges.{holds_parts}
use Rattle.cxl_model.specs.Ranges.{IsCommittedRange}

-- ---- where a way down ends

abbrev Reached : System → ℕ → End → Type 0
Reached s h (Arrives arrival) = (n : ℕ) × IsArrival s h n arrival
Reached s h (Misses miss) = Unit {0}

reached : (s : System) (h n : ℕ) (steps : List Step) (end : End) → Walk s h n steps end → Reached s h end
reached s h n steps end (on_forwarding _ child _ _ move walk) = reached s h child steps end walk
reached s h n steps end (on_step _ child step rest _ move walk) = reached s h child rest end walk
reached s h n steps end (at_end _ (Arrives arrival) move) = (n, move)
reached s h n steps end (at_end _ (Misses miss) move) = tt

by_end : (s : System) (h index position : ℕ) (steps : List Step) (end : End) (route : Routing) → Reached s h end → Routed route ≡ chain_end_by index position steps end
    → IsArrival s h route.arrival.endpoint route.arrival
by_end s h index position steps (Arrives arrival) route reached is =
    let same : route ≡ record { window = index; position = position; steps = steps; arrival = arrival } = cc in
    let here : IsArrival s h arrival.endpoint arrival = subst (λ (n : ℕ). IsArrival s h n arrival) (sym reached.1.here) reached.1 in
    subst (λ (r : Routing). IsArrival s h r.arrival.endpoint r.arrival) (sym same) here
by_end s h index position steps (Misses miss) route reached is = cc

-- a route ends where its endpoint's decoder sends the address
pub arrives : (s : System) (h : ℕ) (route : Routing) → Chain s h (Routed route) → IsArrival s h route.arrival.endpoint route.arrival
arrives s h route (unheld none is) = cc
arrives s h route (held w position bridge steps end targets walk is) = by_end s h w.index position steps end route (reached s h bridge steps end walk) is

-- ---- the range

-- a committed range that holds the address
pub record InRange (s : System) (h first : ℕ) : Type 0 where
  pub range : Range
  pub committed : IsCommittedRange s range
  pub base : range.base ≡ first
  pub from : range.base ≤ h
  pub below : h < range.base + range.size

of_arrival : (s : System) (h n : ℕ) (arrival : Arrival) → IsArrival s h n arrival → InRange s h arrival.base
of_arrival s h n arrival is =
    let found = some_and (decoder_at s n arrival.decoder) (Places s h n arrival) is.place in
    let d : Decoder = found.0 in
    let parts = holds_parts d h found.2.holds in
    let committed = parts.committed in
    let own : has_range (range_of d) d ≡ true = rw (committed, eq-eqb d.base d.base refl, eq-eqb d.size d.size refl) refl in
    record {
      range = range_of d;
      committed = (n, any_passes_from_place (has_range (range_of d)) (decoders_at s n) arrival.decoder d found.1 own);
      base = sym found.2.base;
      from = parts.from;
      below = parts.below;
    }

pub in_a_range : (s : System) (h : ℕ) (route : Routing) → Chain s h (Routed route) → InRange s h route.arrival.base
in_a_range s h route chain = of_arrival s h route.arrival.endpoint route.arrival (arrives s h route chain)
