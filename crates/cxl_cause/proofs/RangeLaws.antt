-- A committed decoder has a cause for K9 to K12 exactly where it breaks the rule; and so of all rules.
use Rattle.std.proofs.Common.{◌≡◌, ℕ, ◌+◌, ◌*◌, Bool, true, false, not, ◌&&◌, ◌||◌, List, [], ◌∷◌, Option, Some, None, if◌then◌else◌, refl, inl, inr}
use Rattle.std.specs.Prelude.{◌==◌, nat_lt, is_some}
use Rattle.std.specs.List.{list_any, list_all}
use Rattle.std.specs.Option.{option_and_then, option_map_or, option_or}
use Rattle.std.proofs.lemmas.Bool.{cases_Bool, true≢false, false≢true}
use Rattle.cxl_topo.specs.declared.node.Parent.{Parent}
use Rattle.cxl_topo.specs.Tree.{forwards_at, is_endpoint_at, child_of, bridge_with, decoding_port_of, landing_of}
use Rattle.cxl_regs.specs.declared.decoder.Decoder.{Decoder}
use Rattle.cxl_regs.specs.declared.reading.Range.{Range}
use Rattle.cxl_regs.specs.Reading.{decoder_ways, entries_of, range_of}
use Rattle.cxl_window.specs.Fields.{WindowFields}
use Rattle.cxl_window.specs.Restrictions.{permits}
use Rattle.cxl_model.specs.System.{System, decoder_at}
use Rattle.cxl_model.specs.Ranges.{serves, window_for, ways_above, span_kind, same_kind, range_ways, range_kind, range_code}
use Rattle.cxl_model.specs.Rules.{starts_in_thirds, keeps_window, are_distinct, lands_on, leads_on, is_bridge_landing, targets_land, keeps_targets, lists, is_targeted, keeps_reach, keeps_endpoint_ways, keeps_port_code, keeps_ways}
use Rattle.cxl_model.specs.Accepted.{breaks}
use Rattle.cxl_cause.specs.declared.cause.Cause.{Cause}
use Rattle.cxl_cause.specs.declared.cause.Cause.TheVariants.{KindForbidden, NotInThirds, SamePort, NotServed, NoLanding, NoChild, NoBridge, TargetWithoutLanding, TargetNotServed}
use Rattle.cxl_cause.specs.RangeCauses.{window_miss, next_third, window_cause, entry_listing, same_port, entry_cause, entries_cause, target_cause, targets_cause, ports_cause, landings_cause, lead_cause, parent_cause, bridge_cause, reach_cause, endpoint_cause, port_code, port_cause, ways_cause}
use Rattle.cxl_cause.specs.Causes.{range_cause, cause_at}
use Rattle.cxl_cause.proofs.BlockLaws.{branch, caps_law, block_law}

-- ---- tests

thirds_test : (t x : Bool) (A B : Cause) → is_some (if t then (if x then None else Some A) else Some B) ≡ not (t && x)
thirds_test true true A B = refl
thirds_test true false A B = refl
thirds_test false x A B = refl

fails_test : (x : Bool) (A : Cause) → is_some (if x then None else Some A) ≡ not x
fails_test true A = refl
fails_test false A = refl

either_test : (x v : Bool) (A B : Cause) → is_some (if x then None else (if v then Some A else Some B)) ≡ not x
either_test true v A B = refl
either_test false true A B = refl
either_test false false A B = refl

four_test : (a b c x : Bool) (A B C D : Cause) → is_some (if not a then Some A else (if not b then Some B else (if not c then Some C else (if x then None else Some D)))) ≡ not (a && b && c && x)
four_test true true true true A B C D = refl
four_test true true true false A B C D = refl
four_test true true false x A B C D = refl
four_test true false c x A B C D = refl
four_test false b c x A B C D = refl

-- one cause or another stands where not both are kept
or_law : (X Y : Option Cause) (x y : Bool) → is_some X ≡ not x → is_some Y ≡ not y → is_some (option_or X Y) ≡ not (x && y)
or_law None Y true y h k = k
or_law None Y false y h k = absurd (false≢true h)
or_law (Some c) Y true y h k = absurd (true≢false h)
or_law (Some c) Y false y h k = refl

-- ---- K9

module _ (s : System) (n i : ℕ) (d : Decoder) where
  in_window : (o : Option WindowFields)
      → is_some (option_map_or
      (λ w. if starts_in_thirds w (range_of d)
      then (if not (is_endpoint_at s.nodes n) || permits w (span_kind s n i) then None else Some (KindForbidden w.index (span_kind s n i) w.restrict))
      else Some (NotInThirds w.index (next_third w (range_of d)))) o (Some (window_miss s.windows (range_of d))))
      ≡ not (option_map_or (λ w. starts_in_thirds w (range_of d) && (not (is_endpoint_at s.nodes n) || permits w (span_kind s n i))) o false)
  in_window None = refl
  in_window (Some w) = thirds_test (starts_in_thirds w (range_of d)) (not (is_endpoint_at s.nodes n) || permits w (span_kind s n i)) _ _

  window_law : is_some (window_cause s n i d) ≡ not (keeps_window s n i d)
  window_law = in_window (window_for s (range_of d))

-- ---- K10

listing_law : (port j : ℕ) (ports : List ℕ) → is_some (entry_listing port j ports) ≡ list_any (λ other. other == port) ports
listing_law port j [] = refl
listing_law port j (other ∷ ports) =
    elim (cases_Bool (other == port)) [
      | inl same ↦ rw same refl
      | inr differs ↦ rw differs (listing_law port (j + 1) ports)
    ]

same_step : (i : ℕ) (o : Option ℕ) (any : Bool) (rest : Option Cause) (distinct : Bool) → is_some o ≡ any → is_some rest ≡ not distinct
    → is_some (option_map_or (λ other. Some (SamePort i other)) o rest) ≡ not (not any && distinct)
same_step i None true rest distinct is law = absurd (false≢true is)
same_step i None false rest distinct is law = law
same_step i (Some k) true rest distinct is law = refl
same_step i (Some k) false rest distinct is law = absurd (true≢false is)

same_law : (i : ℕ) (ports : List ℕ) → is_some (same_port i ports) ≡ not (are_distinct ports)
same_law i [] = refl
same_law i (port ∷ ports) = same_step i (entry_listing port (i + 1) ports) (list_any (λ (other : ℕ). other == port) ports) (same_port (i + 1) ports) (are_distinct ports) (listing_law port (i + 1) ports) (same_law (i + 1) ports)

module _ (s : System) (r : Range) where
  module _ (A : ℕ → Cause) (B : Cause) where
    at_landing : (o : Option ℕ) → is_some (option_map_or (λ landing. if serves s r landing then None else Some (A landing)) o (Some B)) ≡ not (option_map_or (serves s r) o false)
    at_landing None = refl
    at_landing (Some landing) = fails_test (serves s r landing) (A landing)

  entry_law : (n i port : ℕ) → is_some (entry_cause s r n i port) ≡ not (leads_on s r n port)
  entry_law n i port = go (child_of s.nodes n port)
    where
      go : (o : Option ℕ)
          → is_some (option_map_or (λ child. option_map_or (λ landing. if serves s r landing then None else Some (NotServed i landing)) (landing_of s.nodes child) (Some (NoLanding i child))) o (Some (NoChild i port)))
          ≡ not (option_map_or (lands_on s r) o false)
      go None = refl
      go (Some child) = at_landing (λ landing. NotServed i landing) (NoLanding i child) (landing_of s.nodes child)

  entries_law : (n i : ℕ) (ports : List ℕ) → is_some (entries_cause s r n i ports) ≡ not (list_all (leads_on s r n) ports)
  entries_law n i [] = refl
  entries_law n i (port ∷ ports) = or_law (entry_cause s r n i port) (entries_cause s r n (i + 1) ports) (leads_on s r n port) (list_all (leads_on s r n) ports) (entry_law n i port) (entries_law n (i + 1) ports)

  module _ (w : WindowFields) where
    abbrev lands : ℕ → Bool
    lands uid = option_map_or (lands_on s r) (bridge_with s.nodes uid) false

    target_law : (uid : ℕ) → is_some (target_cause s r w uid) ≡ not (lands uid)
    target_law uid = go (bridge_with s.nodes uid)
      where
        go : (o : Option ℕ)
            → is_some (option_map_or (λ bridge. option_map_or (λ landing. if serves s r landing then None else Some (TargetNotServed w.index uid landing)) (landing_of s.nodes bridge) (Some (TargetWithoutLanding w.index uid bridge))) o (Some (NoBridge w.index uid)))
            ≡ not (option_map_or (lands_on s r) o false)
        go None = refl
        go (Some bridge) = at_landing (λ landing. TargetNotServed w.index uid landing) (TargetWithoutLanding w.index uid bridge) (landing_of s.nodes bridge)

    targets_law : (uids : List ℕ) → is_some (targets_cause s r w uids) ≡ not (list_all lands uids)
    targets_law [] = refl
    targets_law (uid ∷ uids) = or_law (target_cause s r w uid) (targets_cause s r w uids) (lands uid) (list_all lands uids) (target_law uid) (targets_law uids)

module _ (s : System) (n : ℕ) (d : Decoder) where
  ports_law : is_some (ports_cause s n d) ≡ not (is_endpoint_at s.nodes n || (are_distinct (entries_of d) && list_all (leads_on s (range_of d) n) (entries_of d)))
  ports_law =
      elim (cases_Bool (is_endpoint_at s.nodes n)) [
        | inl endpoint ↦ rw endpoint refl
        | inr port ↦ rw port (or_law (same_port 0 (entries_of d)) (entries_cause s (range_of d) n 0 (entries_of d)) (are_distinct (entries_of d)) (list_all (leads_on s (range_of d) n) (entries_of d)) (same_law 0 (entries_of d)) (entries_law s (range_of d) n 0 (entries_of d)))
      ]

  landings_law : is_some (landings_cause s n d) ≡ not (not (is_bridge_landing s.nodes n) || option_map_or (targets_land s (range_of d)) (window_for s (range_of d)) true)
  landings_law =
      elim (cases_Bool (is_bridge_landing s.nodes n)) [
        | inl landing ↦ rw landing (go (window_for s (range_of d)))
        | inr other ↦ rw other refl
      ]
    where
      go : (o : Option WindowFields) → is_some (option_map_or (λ w. targets_cause s (range_of d) w w.targets) o None) ≡ not (option_map_or (targets_land s (range_of d)) o true)
      go None = refl
      go (Some w) = targets_law s (range_of d) w w.targets

  lead_law : is_some (lead_cause s n d) ≡ not (keeps_targets s n d)
  lead_law = or_law (ports_cause s n d) (landings_cause s n d) _ _ ports_law landings_law

  -- ---- K11

  reach_law : is_some (reach_cause s n d) ≡ not (keeps_reach s n d)
  reach_law =
      elim (cases_Bool (forwards_at s.nodes n)) [
        | inl forwards ↦ rw forwards refl
        | inr own ↦ rw own (go (decoding_port_of s.nodes n))
      ]
    where
      go : (o : Option Parent) → is_some (option_map_or (parent_cause s (range_of d)) o (bridge_cause s (range_of d) n)) ≡ not (option_map_or (lists s (range_of d)) o (is_targeted s (range_of d) n))
      go None = fails_test (is_targeted s (range_of d) n) _
      go (Some parent) = either_test (lists s (range_of d) parent) (serves s (range_of d) parent.node) _ _

-- ---- K12

module _ (s : System) (n i : ℕ) (d : Decoder) where
  of_endpoint : (w : WindowFields) → is_some (endpoint_cause s w n i d) ≡ not (keeps_endpoint_ways s w n i d)
  of_endpoint w =
      four_test (decoder_ways d == w.ways * ways_above s (range_of d) n) (decoder_ways d == range_ways s (range_of d)) (same_kind (span_kind s n i) (range_kind s (range_of d)))
      ((decoder_ways d == 1) || (d.gran == range_code s w (range_of d))) _ _ _ _

  of_port : (w : WindowFields) → is_some (port_cause s w n d) ≡ not (keeps_port_code s w n d)
  of_port w = fails_test ((decoder_ways d == 1) || (d.gran == port_code s w n (range_of d))) _

  of_window : (o : Option WindowFields)
      → is_some (option_map_or (λ w. if is_endpoint_at s.nodes n then endpoint_cause s w n i d else port_cause s w n d) o None)
      ≡ not (option_map_or (λ w. if is_endpoint_at s.nodes n then keeps_endpoint_ways s w n i d else keeps_port_code s w n d) o true)
  of_window None = refl
  of_window (Some w) =
      elim (cases_Bool (is_endpoint_at s.nodes n)) [
        | inl endpoint ↦ rw endpoint (of_endpoint w)
        | inr port ↦ rw port (of_port w)
      ]

  ways_law : is_some (ways_cause s n i d) ≡ not (keeps_ways s n i d)
  ways_law = of_window (window_for s (range_of d))

-- ---- all rules

none_test : (a b c e : Bool) → false ≡ (if a then false else (if b then false else (if c then false else (if e then false else false))))
none_test true b c e = refl
none_test false true c e = refl
none_test false false true e = refl
none_test false false false true = refl
none_test false false false false = refl

module _ (s : System) (rule n i : ℕ) where
  of_decoder : (o : Option Decoder)
      → is_some (option_and_then (λ d. if d.committed then range_cause s rule n i d else None) o)
      ≡ (if rule == 9 then option_map_or (λ d. d.committed && not (keeps_window s n i d)) o false
      else (if rule == 10 then option_map_or (λ d. d.committed && not (keeps_targets s n d)) o false
      else (if rule == 11 then option_map_or (λ d. d.committed && not (keeps_reach s n d)) o false
      else (if rule == 12 then option_map_or (λ d. d.committed && not (keeps_ways s n i d)) o false
      else false))))
  of_decoder None = none_test (rule == 9) (rule == 10) (rule == 11) (rule == 12)
  of_decoder (Some d) =
      elim (cases_Bool d.committed) [
        | inl committed ↦ rw committed
            (branch (rule == 9) _ _ _ _ (window_law s n i d)
            (branch (rule == 10) _ _ _ _ (lead_law s n d)
            (branch (rule == 11) _ _ _ _ (reach_law s n d)
            (branch (rule == 12) _ _ _ _ (ways_law s n i d) refl))))
        | inr idle ↦ rw idle (none_test (rule == 9) (rule == 10) (rule == 11) (rule == 12))
      ]

  pub cause_law : is_some (cause_at s rule n i) ≡ breaks s rule n i
  unfolding cause_at breaks
  cause_law =
      branch (rule == 1) _ _ _ _ (caps_law s n i)
      (branch (nat_lt rule 9) _ _ _ _ (block_law s rule n i) (of_decoder (decoder_at s n i)))
