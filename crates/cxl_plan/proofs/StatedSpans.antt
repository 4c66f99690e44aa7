-- The places of slots, one port at a time.
use Rattle.std.proofs.Common.{◌≡◌, ℕ, ◌+◌, ◌*◌, ◌/◌, ◌%◌, ◌^◌, ◌<◌, true, false, List, [], ◌∷◌, ◌++◌, length, Some, sym, ap, subst, ◌∙◌, inl, inr, arith}
use Rattle.std.specs.Prelude.{slice_get}
use Rattle.std.specs.Option.{option_and_then}
use Rattle.std.proofs.lemmas.Bool.{cases_lt}
use Rattle.std.proofs.lemmas.Option.{none-some, same_Some, slice_get_within}
use Rattle.cxl_enc.specs.Codes.{bits_of}
use Rattle.cxl_enc.proofs.Lists.{get_last}
use Rattle.cxl_topo.specs.declared.node.Node.{Node}
use Rattle.cxl_topo.specs.Tree.{is_endpoint_at, child_of}
use Rattle.cxl_regs.specs.Registers.{Registers}
use Rattle.cxl_window.specs.Fields.{WindowFields}
use Rattle.cxl_topo.proofs.Trees.{inside_port}
use Rattle.cxl_model.specs.declared.request.Request.{Request}
use Rattle.cxl_model.specs.declared.found.Place.{Place}
use Rattle.cxl_model.specs.System.{System}
use Rattle.cxl_legal.specs.Stated.{Reaches, at_endpoint, past_port, IsStatedPlace}
use Rattle.cxl_plan.specs.inner.Uses.{ports_at, ways_at, ways_above_at}
use Rattle.cxl_plan.specs.inner.Judging.{over}
use Rattle.cxl_plan.specs.inner.Planned.{ReachesAt}
use Rattle.cxl_plan.proofs.Tables.{slice_get_front, length_end}

module _ (nodes : List Node) (request : Request) (w : WindowFields) (slot : ℕ) where
  pub reach_end : (m : ℕ) → is_endpoint_at nodes m ≡ true → ReachesAt nodes request w slot m m
  unfolding ReachesAt
  reach_end m is blocks windows = at_endpoint m is

  pub reach_past : (n port child m : ℕ) → n < length nodes → is_endpoint_at nodes n ≡ false → slice_get (ports_at nodes request n) (slot / (2 ^ bits_of w.ways * ways_above_at nodes request n) % ways_at nodes request n) ≡ Some port
      → child_of nodes n port ≡ Some child → ReachesAt nodes request w slot child m → ReachesAt nodes request w slot n m
  unfolding ReachesAt ports_at ways_at ways_above_at
  reach_past n port child m below other at is rest blocks windows =
      past_port n child m (inside_port nodes n below other) (ap (option_and_then (child_of nodes n)) at ∙ is) (rest blocks windows)

  pub reached_over : (n m : ℕ) → ReachesAt nodes request w slot n m → (blocks : List Registers) (windows : List WindowFields) → Reaches (over nodes blocks windows) request w slot n m
  unfolding ReachesAt
  reached_over n m all blocks windows = all blocks windows

-- the places of the slots before this one
pub record AreStatedBelow (s : System) (request : Request) (w : WindowFields) (slot : ℕ) (places : List Place) : Type 0 where
  pub count : length places ≡ slot
  pub each : (j : ℕ) (place : Place) → slice_get places j ≡ Some place → IsStatedPlace s request w j place

pub no_places : (s : System) (request : Request) (w : WindowFields) (places : List Place) → places ≡ [] → AreStatedBelow s request w 0 places
no_places s request w places none = record {
  count = ap length none;
  each = λ j place at. absurd (none-some place (sym (ap (λ (xs : List Place). slice_get xs j) none) ∙ at));
}

pub one_place_more : (s : System) (request : Request) (w : WindowFields) (slot : ℕ) (old new : List Place) (place : Place) → AreStatedBelow s request w slot old → new ≡ old ++ place ∷ [] → IsStatedPlace s request w slot place
    → AreStatedBelow s request w (slot + 1) new
one_place_more s request w slot old new place known is own = record {
  count = let longer = ap length is ∙ length_end old place in let before = known.count in omega arith;
  each = each;
}
  where
    each : (j : ℕ) (other : Place) → slice_get new j ≡ Some other → IsStatedPlace s request w j other
    each j other at =
        let count = known.count in
        elim (cases_lt j (length old)) [
          | inl before ↦ known.each j other (sym (slice_get_front old (place ∷ []) j before) ∙ ap (λ (xs : List Place). slice_get xs j) (sym is) ∙ at)
          | inr past ↦
              let within = slice_get_within new j other at in
              let longer = ap length is ∙ length_end old place in
              let same : j ≡ length old = omega arith in
              let turn : slot ≡ j = omega arith in
              let one : place ≡ other = same_Some place other (sym (get_last old place) ∙ ap (λ (m : ℕ). slice_get (old ++ place ∷ []) m) (sym same) ∙ ap (λ (xs : List Place). slice_get xs j) (sym is) ∙ at) in
              subst (λ (k : ℕ). IsStatedPlace s request w k other) turn (subst (IsStatedPlace s request w slot) one own)
        ]
