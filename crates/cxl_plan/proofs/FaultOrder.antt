-- Faults in the order in which they are tried, and requests without one.
use Rattle.std.proofs.Common.{◌≡◌, ◌≢◌, ℕ, zero, suc, ◌+◌, ◌<◌, ◌≤◌, Bool, true, false, List, [], ◌∷◌, ◌++◌, length, get_or, Option, Some, None, cond, refl, sym, ap, subst, ◌∙◌, inl, inr, arith, append_assoc}
use Rattle.std.specs.Prelude.{nat_le, Err, find, ◌==◌, AllPairs, Contains}
use Rattle.std.specs.List.{list_any, range_with_len, All}
use Rattle.std.proofs.lemmas.Bool.{cases_Bool, cases_eq, cases_lt, and_parts, leb-true, eqb-true, ne_eqb, false≢true}
use Rattle.std.proofs.lemmas.Bool.Decides.{Decides-eqb}
use Rattle.std.proofs.lemmas.List.{append-nil}
use Rattle.std.proofs.lemmas.List.Folds.{Any-from_list_any}
use Rattle.std.proofs.lemmas.List.Quantifiers.{all_pairs_push}
use Rattle.std.proofs.lemmas.Map.Made.{IsDistinct-from_AllPairs}
use Rattle.std.proofs.lemmas.Map.Steps.{length-le_from_distinct_below}
use Rattle.std.proofs.lemmas.Option.{none-some}
use Rattle.cxl_enc.specs.Codes.{is_ways}
use Rattle.cxl_enc.specs.Caps.{is_target_count}
use Rattle.cxl_topo.specs.declared.node.Node.{Node}
use Rattle.cxl_topo.specs.Tree.{is_endpoint_at}
use Rattle.cxl_regs.specs.Registers.{Registers}
use Rattle.cxl_window.specs.Windows.{first_repeat}
use Rattle.cxl_window.specs.Fields.{WindowFields}
use Rattle.cxl_model.specs.declared.request.Request.{Request}
use Rattle.cxl_model.specs.declared.plan.PlanFault.{PlanFault}
use Rattle.cxl_model.specs.declared.plan.PlanFault.TheVariants as faults
use Rattle.cxl_model.specs.System.{System, decoders_at, ram_at, pmem_at}
use Rattle.cxl_enc.specs.declared.caps.MemKind.{MemKind}
use Rattle.cxl_enc.proofs.Lists.{not_among}
use Rattle.cxl_enc.proofs.Ways.{count_is_ways}
use Rattle.cxl_topo.proofs.Trees.{KnownTree, endpoint_within, inside_port}
use Rattle.cxl_regs.specs.declared.decoder.Decoder.{Decoder}
use Rattle.cxl_span.specs.declared.allotting.Span.{Span}
use Rattle.cxl_span.specs.declared.allotting.SpanFault.{SpanFault}
use Rattle.cxl_span.specs.declared.allotting.SpanFault.TheVariants.{NoDecoder, PastRam, NoRoom}
use Rattle.cxl_span.specs.Partitions.{partition_start, partition_end}
use Rattle.cxl_span.specs.Allotting.{all_committed, Allots, IsLeastSpan}
use Rattle.cxl_legal.specs.Used.{is_used, request_ways}
use Rattle.cxl_legal.specs.Endpoints.{IsSize, share_of, FitsEndpoints, HasRoom, is_uneven, lacks_decoder}
use Rattle.cxl_plan.specs.Faults.{SaysOfRequest, turn_of_fault, least}
use Rattle.cxl_plan.specs.inner.Uses.{tree_alone, HasWays, ports_at}
use Rattle.cxl_plan.specs.inner.Judging.{uneven_at, over, IsEarly}
use Rattle.cxl_plan.proofs.Finding.{none_found}
use Rattle.cxl_plan.proofs.UsedItems.{used_below}
use Rattle.cxl_plan.proofs.UnevenNodes.{uneven_used, even_of}
use Rattle.cxl_plan.proofs.PlannedWays.{endpoint_ways, port_ways}

-- ---- the order of faults

module _ (s : System) (request : Request) where
  abbrev FaultsFrom : ℕ → Type 0
  FaultsFrom k = (other : PlanFault) → SaysOfRequest s request other → k ≤ turn_of_fault other

  abbrev NoFaultAt : ℕ → Type 0
  NoFaultAt k = (other : PlanFault) → turn_of_fault other ≡ k → SaysOfRequest s request other → ⊥

  onward : (k : ℕ) → FaultsFrom k → NoFaultAt k → FaultsFrom (k + 1)
  onward k from none other says =
      elim (cases_eq (turn_of_fault other) k) [
        | inl same ↦ absurd (none other same says)
        | inr apart ↦ let low = from other says in omega arith
      ]

  no_repeat : first_repeat [] request.endpoints ≡ None → NoFaultAt 0
  no_repeat kept (faults.Repeat m) e says = none-some m (sym kept ∙ says)
  no_repeat kept other e says = absurd (omega arith)

  no_ways : is_ways (request_ways request) ≡ true → NoFaultAt 1
  no_ways kept (faults.Ways n) e says = false≢true (sym says.0 ∙ kept)
  no_ways kept other e says = absurd (omega arith)

  no_size : IsSize request → NoFaultAt 2
  no_size kept faults.Size e says = says kept
  no_size kept other e says = absurd (omega arith)

  no_uneven : least s (is_uneven s request) ≡ None → NoFaultAt 3
  no_uneven kept (faults.Uneven n) e says = none-some n (sym kept ∙ says)
  no_uneven kept other e says = absurd (omega arith)

  no_full : least s (lacks_decoder s request) ≡ None → NoFaultAt 4
  no_full kept (faults.NoDecoder n) e says = none-some n (sym kept ∙ says)
  no_full kept other e says = absurd (omega arith)

  pub faults_1 : first_repeat [] request.endpoints ≡ None → FaultsFrom 1
  faults_1 distinct = onward 0 (λ other says. omega arith) (no_repeat distinct)

  pub faults_2 : first_repeat [] request.endpoints ≡ None → is_ways (request_ways request) ≡ true → FaultsFrom 2
  faults_2 distinct ways = onward 1 (faults_1 distinct) (no_ways ways)

  pub faults_3 : IsEarly request → FaultsFrom 3
  faults_3 early = onward 2 (faults_2 early.distinct early.ways) (no_size early.size)

  pub faults_4 : IsEarly request → least s (is_uneven s request) ≡ None → FaultsFrom 4
  faults_4 early even = onward 3 (faults_3 early) (no_uneven even)

  pub faults_5 : IsEarly request → least s (is_uneven s request) ≡ None → least s (lacks_decoder s request) ≡ None → FaultsFrom 5
  faults_5 early even left = onward 4 (faults_4 early even) (no_full left)

-- ---- different endpoints

first_fails : (found : Bool) (x : ℕ) (others : Option ℕ) → cond found (Some x) others ≡ None → (found ≡ false) × (others ≡ None)
first_fails true x others e = cc
first_fails false x others e = (refl, e)

no_repeat_among : (before us : List ℕ) → AllPairs (λ a b. a ≢ b) before → first_repeat before us ≡ None → AllPairs (λ a b. a ≢ b) (before ++ us)
no_repeat_among before [] distinct none = subst (λ (xs : List ℕ). AllPairs (λ a b. a ≢ b) xs) (sym (append-nil before)) distinct
no_repeat_among before (u ∷ us) distinct none =
    let fresh = first_fails (list_any (λ v. v == u) before) u (first_repeat (before ++ u ∷ []) us) none in
    let more = all_pairs_push (λ v w. v ≢ w) before u distinct (not_among before u fresh.0) in
    subst (λ (xs : List ℕ). AllPairs (λ a b. a ≢ b) xs) (append_assoc before (u ∷ []) us) (no_repeat_among (before ++ u ∷ []) us more fresh.1)

pub different : (xs : List ℕ) → first_repeat [] xs ≡ None → AllPairs (λ a b. a ≢ b) xs
different xs none = no_repeat_among [] xs (λ i j d less within. absurd (omega arith)) none

-- different numbers below n are no more than n
pub few_different : (xs : List ℕ) (n : ℕ) → AllPairs (λ a b. a ≢ b) xs → All (λ x. x < n) xs → length xs ≤ n
few_different xs n distinct below =
    length-le_from_distinct_below xs n (IsDistinct-from_AllPairs Decides-eqb xs distinct)
    (λ q there.
    let at = Any-from_list_any (λ x. q == x) xs there in
    let same : q ≡ at.1 = eqb-true q at.1 at.4 in
    let low = below at.0 at.1 at.2 in
    let read = at.3 in
    omega arith)

pub endpoints_inside : (nodes : List Node) (endpoints : List ℕ) → All (λ m. is_endpoint_at nodes m ≡ true) endpoints → All (λ m. m < length nodes) endpoints
endpoints_inside nodes endpoints named k d below = endpoint_within nodes (get_or endpoints k d) (named k d below)

-- ---- all nodes

module _ (nodes : List Node) (known : KnownTree nodes) (request : Request) (named : All (λ m. is_endpoint_at nodes m ≡ true) request.endpoints) where
  pub none_at_all : (p : ℕ → Bool) → ((n : ℕ) → p n ≡ true → is_used (tree_alone nodes) request n ≡ true) → find p (range_with_len 0 (length nodes)) ≡ None → (n : ℕ) → p n ≡ false
  none_at_all p weaker none n =
      elim (cases_Bool (p n)) [
        | inr fails ↦ fails
        | inl passes ↦
            let below = used_below nodes known request named n (weaker n passes) in
            none_found p 0 (length nodes) none n (omega arith) (omega arith)
      ]

  pub fits_endpoints : (blocks : List Registers) (windows : List WindowFields) → IsEarly request → find (uneven_at nodes request) (range_with_len 0 (length nodes)) ≡ None
      → find (lacks_decoder (over nodes blocks windows) request) (range_with_len 0 (length nodes)) ≡ None → ((m : ℕ) → Contains request.endpoints m → HasRoom (over nodes blocks windows) request m)
      → FitsEndpoints (over nodes blocks windows) request
  unfolding uneven_at
  fits_endpoints blocks windows early even left room = record {
    distinct = different request.endpoints early.distinct;
    ways = early.ways;
    size = early.size;
    even = λ n. evenly n;
    left = λ n. none_at_all (lacks_decoder (over nodes blocks windows) request)
        (λ m both. (and_parts (is_used (tree_alone nodes) request m) (all_committed (decoders_at (over nodes blocks windows) m)) both).0) left n;
    room = room;
  }
    where
      evenly : (n : ℕ) → uneven_at nodes request n ≡ false
      evenly n = none_at_all (uneven_at nodes request) (uneven_used nodes request) even n

pub found_uneven : (nodes : List Node) (request : Request) (blocks : List Registers) (windows : List WindowFields) (o : Option ℕ) → find (uneven_at nodes request) (range_with_len 0 (length nodes)) ≡ o
    → least (over nodes blocks windows) (is_uneven (over nodes blocks windows) request) ≡ o
unfolding uneven_at
found_uneven nodes request blocks windows o e = e

pub even_nodes : (s : System) (request : Request) → FitsEndpoints s request → (n : ℕ) → uneven_at s.nodes request n ≡ false
unfolding uneven_at
even_nodes s request fits n = fits.even n

-- ---- the ways of used nodes

pub has_ways : (s : System) (known : KnownTree s.nodes) (request : Request) → All (λ m. is_endpoint_at s.nodes m ≡ true) request.endpoints → FitsEndpoints s request → HasWays s.nodes request
has_ways s known request named fits n used =
    elim (cases_Bool (is_endpoint_at s.nodes n)) [
      | inl endpoint ↦ subst (λ (m : ℕ). is_ways m ≡ true) (sym (endpoint_ways s.nodes request n endpoint)) fits.ways
      | inr other ↦
          let below = used_below s.nodes known request named n used in
          let count = even_of s.nodes request n used (inside_port s.nodes n below other) (even_nodes s request fits n) in
          subst (λ (m : ℕ). is_ways m ≡ true) (sym (port_ways s.nodes request n other)) (count_is_ways (length (ports_at s.nodes request n)) count)
    ]

-- ---- the faults before those of windows

none_passes_at : (p : ℕ → Bool) (a k : ℕ) → ((n : ℕ) → p n ≡ false) → find p (range_with_len a k) ≡ None
none_passes_at p a zero none = refl
none_passes_at p a (suc k) none = let here : p a ≡ false = none a in rw here (none_passes_at p (a + 1) k none)

-- where an endpoint has room, it is not refused
pub not_refused : (decoders : List Decoder) (ram pmem : ℕ) (kind : MemKind) (len : ℕ) (fault : SpanFault) → Allots decoders ram pmem kind len (Err fault) → (span : Span) → IsLeastSpan decoders ram pmem kind len span → ⊥
not_refused decoders ram pmem kind len NoDecoder full span room = false≢true (sym room.left ∙ full)
not_refused decoders ram pmem kind len (PastRam cursor) past span room =
    let inside = leb-true (span.start + len) (partition_end kind ram pmem) (and_parts (nat_le (partition_start kind ram) span.start) (nat_le (span.start + len) (partition_end kind ram pmem)) room.can_start.inside).1 in
    let end : partition_end kind ram pmem ≡ ram = ap (λ (k : MemKind). partition_end k ram pmem) past.of_ram in
    let after = room.can_start.after in
    let low = past.past in
    let told = past.told in
    absurd (omega arith)
not_refused decoders ram pmem kind len (NoRoom r) short span room =
    let parts = and_parts (nat_le (partition_start kind ram) span.start) (nat_le (span.start + len) (partition_end kind ram pmem)) room.can_start.inside in
    let from = leb-true (partition_start kind ram) span.start parts.0 in
    let inside = leb-true (span.start + len) (partition_end kind ram pmem) parts.1 in
    let after = room.can_start.after in
    let start = short.start in
    let limit = short.limit in
    let less = short.short in
    absurd (omega arith)

no_span : (s : System) (request : Request) → ((m : ℕ) → Contains request.endpoints m → HasRoom s request m) → (other : PlanFault) → turn_of_fault other ≡ 5 → SaysOfRequest s request other → ⊥
no_span s request kept (faults.Span m fault) e says =
    let room = kept m says.asked in
    not_refused (decoders_at s m) (ram_at s m) (pmem_at s m) request.kind (share_of request) fault says.refused room.0 room.1
no_span s request kept other e says = absurd (omega arith)

pub faults_6 : (s : System) (request : Request) → IsEarly request → FitsEndpoints s request → (other : PlanFault) → SaysOfRequest s request other → 6 ≤ turn_of_fault other
faults_6 s request early fits =
    onward s request 5
    (faults_5 s request early (none_passes_at (is_uneven s request) 0 (length s.nodes) fits.even) (none_passes_at (lacks_decoder s request) 0 (length s.nodes) fits.left))
    (no_span s request fits.room)

-- a used port has no more than eight used ports
pub few_ports : (s : System) (request : Request) → FitsEndpoints s request → (n : ℕ) → is_used (tree_alone s.nodes) request n ≡ true → n < length s.nodes → is_endpoint_at s.nodes n ≡ false → length (ports_at s.nodes request n) ≤ 8
few_ports s request fits n used below other = few_targets (length (ports_at s.nodes request n)) (even_of s.nodes request n used (inside_port s.nodes n below other) (even_nodes s request fits n))
  where
    few_targets : (m : ℕ) → is_target_count m ≡ true → m ≤ 8
    few_targets m is =
        elim (cases_lt 8 m) [
          | inr low ↦ low
          | inl past ↦ absurd (false≢true (sym (rw (ne_eqb m 1 (λ e. omega arith), ne_eqb m 2 (λ e. omega arith), ne_eqb m 4 (λ e. omega arith), ne_eqb m 8 (λ e. omega arith)) refl) ∙ is))
        ]
