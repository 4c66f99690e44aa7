-- The endpoints of a whole range under a node.
use Rattle.std.proofs.Common.{◌≡◌, ℕ, zero, suc, ◌+◌, ◌*◌, ◌<◌, ◌≤◌, Bool, true, false, ◌&&◌, ◌||◌, if◌then◌else◌, List, [], length, get_or, map, Option, Some, None, refl, sym, ap, ◌∙◌, inl, inr, arith}
use Rattle.std.specs.Prelude.{slice_get, ◌==◌, All}
use Rattle.std.proofs.lemmas.List.Sums.{AllPass-from_list_all}
use Rattle.std.specs.Option.{option_map_or, option_and_then}
use Rattle.std.specs.List.{list_any, list_all, filter_map, cons_option, range_with_len}
use Rattle.std.proofs.Math.Nat.{mul_comm, mul_assoc, mul_left_comm}
use Rattle.std.proofs.lemmas.Bool.{cases_lt, cases_Bool, and_parts, and_from, or_cases, or_right, eqb-true, eq-eqb, ne_eqb, false_from_ne_true, false≢true}
use Rattle.std.proofs.lemmas.Option.{slice_get_past}
use Rattle.std.proofs.lemmas.List.Folds.{Any-from_list_any}
use Rattle.std.proofs.lemmas.List.FromFn.{length-map-range_with_len}
use Rattle.cxl_enc.proofs.Ways.{some_ways}
use Rattle.cxl_enc.proofs.Lists.{filter-filter, list_any-weaker}
use Rattle.cxl_enc.proofs.Tests.{same_test}
use Rattle.cxl_enc.proofs.Numbers.{is_number, times_tell}
use Rattle.cxl_topo.specs.declared.node.Parent.{Parent}
use Rattle.cxl_topo.specs.Tree.{forwards_at, is_endpoint_at, parent_of, child_of, least_child_of, landing_within, landing_of}
use Rattle.cxl_regs.specs.declared.decoder.Decoder.{Decoder}
use Rattle.cxl_regs.specs.Registers.{Registers}
use Rattle.cxl_regs.specs.declared.reading.Range.{Range}
use Rattle.cxl_regs.specs.Reading.{decoder_ways, entries_of, entry_at, has_range}
use Rattle.cxl_window.specs.Fields.{WindowFields}
use Rattle.cxl_topo.proofs.Trees.{KnownTree, parent_is_port, ports_none, ports_some, is_above, leaves_at, leaves_above, above_leaves, leaves_once, only_child, forwards_within}
use Rattle.cxl_regs.proofs.DecoderRanges.{decoder_ways_known}
use Rattle.cxl_model.specs.System.{System, IsSystem}
use Rattle.cxl_model.specs.Ranges.{serves, decoder_for, window_for, ports_for, product, ways_above, range_ways}
use Rattle.cxl_model.specs.Rules.{are_distinct, lands_on, leads_on}
use Rattle.cxl_model.specs.Accepted.{IsWhole}
use Rattle.cxl_model.specs.Counts.{is_under, is_endpoint_of, endpoints_under}
use Rattle.cxl_model.proofs.RangeServers.{has_ways}
use Rattle.cxl_model.proofs.RangeRules.{RangesRise, ServesAt, served, leads, no_decoder, reached, listed_by, all_listed}
use Rattle.cxl_model.proofs.Sums.{one, total, length-filter-total, total-same, total-zero, exchange, total_even, once}
use Rattle.cxl_model.proofs.Under.{under_is, under_child, under_only, under_endpoint}
use Rattle.cxl_model.proofs.Distinct.{numbers_differ}

-- ---- ways above

-- a child of a node that serves the range has that node's ways above it as well
pub ways_below : (s : System) (r : Range) → KnownTree s.nodes → (c : ℕ) (p : Parent) (d : Decoder) → parent_of s.nodes c ≡ Some p → decoder_for s r p.node ≡ Some d
    → ways_above s r c ≡ decoder_ways d * ways_above s r p.node
ways_below s r known c p d child first =
    ap (λ (ps : List Parent). product (map decoder_ways (filter_map (λ parent. decoder_for s r parent.node) ps))) (ports_some known c p child)
    ∙ ap (λ (o : Option Decoder). product (map decoder_ways (cons_option o (ports_for s r p.node)))) first

-- and one of another node has the same
pub ways_past : (s : System) (r : Range) → KnownTree s.nodes → (c : ℕ) (p : Parent) → parent_of s.nodes c ≡ Some p → decoder_for s r p.node ≡ None
    → ways_above s r c ≡ ways_above s r p.node
ways_past s r known c p child none =
    ap (λ (ps : List Parent). product (map decoder_ways (filter_map (λ parent. decoder_for s r parent.node) ps))) (ports_some known c p child)
    ∙ ap (λ (o : Option Decoder). product (map decoder_ways (cons_option o (ports_for s r p.node)))) none

pub no_ways_above : (s : System) (r : Range) (b : ℕ) → KnownTree s.nodes → parent_of s.nodes b ≡ None → ways_above s r b ≡ 1
no_ways_above s r b known top = ap (λ (ps : List Parent). product (map decoder_ways (filter_map (λ parent. decoder_for s r parent.node) ps))) (ports_none known b top)

-- ---- where a range lands

-- the numbers of the nodes
abbrev pub numbers : System → List ℕ
numbers s = range_with_len 0 (length s.nodes)

pub serves_within : (s : System) (r : Range) (n : ℕ) → IsSystem s → serves s r n ≡ true → n < length s.nodes
serves_within s r n system is =
    elim (cases_lt n (length s.nodes)) [
      | inl within ↦ within
      | inr past ↦
          let count = system.caps.count in
          let none : slice_get s.blocks n ≡ None = slice_get_past s.blocks n (omega (arith, count)) in
          absurd (false≢true (sym (ap (λ (o : Option Registers). list_any (has_range r) (option_map_or (λ block. block.decoders) o [])) none) ∙ is))
    ]

pub lands_within : (s : System) (r : Range) (n : ℕ) → IsSystem s → lands_on s r n ≡ true → n < length s.nodes
lands_within s r n system lands =
    elim (cases_lt n (length s.nodes)) [
      | inl within ↦ within
      | inr past ↦ absurd (go (length s.nodes) past lands)
    ]
  where
    go : (k : ℕ) → length s.nodes ≤ n → option_map_or (serves s r) (landing_within k s.nodes n) false ≡ true → ⊥
    go zero past lands = false≢true lands
    go (suc k) past lands =
        let here : serves s r n ≡ true =
        sym (ap (λ b. option_map_or (serves s r) (if b then option_and_then (landing_within k s.nodes) (least_child_of s.nodes n) else Some n) false) (forwards_within s.nodes n past)) ∙ lands in
        let within = serves_within s r n system here in
        omega arith

-- the only child of a node that forwards, on which the range lands as well
pub record LandsBelow (s : System) (r : Range) (n : ℕ) : Type 0 where
  pub child : ℕ
  pub first : least_child_of s.nodes n ≡ Some child
  pub own : Parent
  pub parent : parent_of s.nodes child ≡ Some own
  pub node : own.node ≡ n
  pub lands : lands_on s r child ≡ true

pub lands_below : (s : System) (r : Range) (n : ℕ) → IsSystem s → KnownTree s.nodes → forwards_at s.nodes n ≡ true → lands_on s r n ≡ true → LandsBelow s r n
lands_below s r n system known forwards lands =
    go (least_child_of s.nodes n) refl
    (sym (ap (λ b. option_map_or (serves s r) (if b then option_and_then (landing_of s.nodes) (least_child_of s.nodes n) else Some n) false) forwards)
    ∙ sym (ap (λ (o : Option ℕ). option_map_or (serves s r) o false) (known.laws.landings n (lands_within s r n system lands))) ∙ lands)
  where
    go : (o : Option ℕ) → least_child_of s.nodes n ≡ o → option_map_or (serves s r) (option_and_then (landing_of s.nodes) o) false ≡ true → LandsBelow s r n
    go None first lands_there = absurd (false≢true lands_there)
    go (Some c) first lands_there =
        let parent = only_child known n c forwards first in
        record { child = c; first = first; own = parent.0; parent = parent.1; node = parent.2; lands = lands_there }

pub lands_here : (s : System) (r : Range) (n : ℕ) → IsSystem s → KnownTree s.nodes → forwards_at s.nodes n ≡ false → lands_on s r n ≡ serves s r n
lands_here s r n system known own =
    elim (cases_lt n (length s.nodes)) [
      | inl within ↦
          ap (λ (o : Option ℕ). option_map_or (serves s r) o false) (known.laws.landings n within)
          ∙ ap (λ b. option_map_or (serves s r) (if b then option_and_then (landing_of s.nodes) (least_child_of s.nodes n) else Some n) false) own
      | inr past ↦ same_test (lands_on s r n) (serves s r n)
          (λ lands. let within = lands_within s r n system lands in absurd (omega arith))
          (λ is. let within = serves_within s r n system is in absurd (omega arith))
    ]

-- ---- counts

-- how many endpoints of the range pass a test
abbrev pub count_of : System → Range → (ℕ → Bool) → ℕ
count_of s r test = total (λ m. one (is_endpoint_of s r m && test m)) (numbers s)

pub count_under : (s : System) (r : Range) (n : ℕ) → length (endpoints_under s r n) ≡ count_of s r (is_under s.nodes n)
count_under s r n =
    ap (λ (ms : List ℕ). length ms) (filter-filter (is_endpoint_of s r) (is_under s.nodes n) (numbers s))
    ∙ length-filter-total (λ m. is_endpoint_of s r m && is_under s.nodes n m) (numbers s)

both_same : (a b c : Bool) → (a ≡ true → b ≡ c) → one (a && b) ≡ one (a && c)
both_same true b c same = ap one (same refl)
both_same false b c same = refl

-- tests that agree on the range's endpoints count as many
pub same_count : (s : System) (r : Range) (p q : ℕ → Bool) → ((m : ℕ) → is_endpoint_of s r m ≡ true → p m ≡ q m) → count_of s r p ≡ count_of s r q
same_count s r p q same =
    total-same (λ m. one (is_endpoint_of s r m && p m)) (λ m. one (is_endpoint_of s r m && q m)) (λ m. both_same (is_endpoint_of s r m) (p m) (q m) (same m)) (numbers s)

none_of_none : {X : Type 0} (xs : List X) (f : X → Bool) → total (λ x. one (false && f x)) xs ≡ 0
none_of_none xs f = total-zero xs

-- a test that each endpoint passes as often as it passes some tests counts what these count together
pub count_parts : (s : System) (r : Range) (p : ℕ → Bool) (q : ℕ → ℕ → Bool) (ns : List ℕ)
    → ((m : ℕ) → is_endpoint_of s r m ≡ true → one (p m) ≡ total (λ n. one (q n m)) ns) → count_of s r p ≡ total (λ n. count_of s r (q n)) ns
count_parts s r p q ns parts =
    total-same (λ m. one (is_endpoint_of s r m && p m)) (λ m. total (λ n. one (is_endpoint_of s r m && q n m)) ns) (λ m. at (is_endpoint_of s r m) m (parts m)) (numbers s)
    ∙ exchange (λ m n. one (is_endpoint_of s r m && q n m)) (numbers s) ns
  where
    at : (b : Bool) (m : ℕ) → (b ≡ true → one (p m) ≡ total (λ n. one (q n m)) ns) → one (b && p m) ≡ total (λ n. one (b && q n m)) ns
    at true m same = same refl
    at false m same = sym (none_of_none ns (λ n. q n m))

-- ---- at an endpoint

pub record Counts (s : System) (r : Range) (w : WindowFields) (n : ℕ) : Type 0 where
  pub even : count_of s r (is_under s.nodes n) * (ways_above s r n * w.ways) ≡ range_ways s r

-- the endpoint is one of the range's endpoints
pub one_there : (s : System) (r : Range) (n : ℕ) → IsSystem s → is_endpoint_of s r n ≡ true → count_of s r (λ m. m == n) ≡ 1
one_there s r n system is =
    once (λ m. is_endpoint_of s r m && (m == n)) same (numbers s) (numbers_differ 0 (length s.nodes))
    ∙ ap one (is_number (λ m. is_endpoint_of s r m && (m == n)) (length s.nodes) n (serves_within s r n system (and_parts (is_endpoint_at s.nodes n) (serves s r n) is).1)
    (and_from (is_endpoint_of s r n) (n == n) is (eq-eqb n n refl)))
  where
    same : (a b : ℕ) → (is_endpoint_of s r a && (a == n)) ≡ true → (is_endpoint_of s r b && (b == n)) ≡ true → a ≡ b
    same a b one other =
        eqb-true a n (and_parts (is_endpoint_of s r a) (a == n) one).1 ∙ sym (eqb-true b n (and_parts (is_endpoint_of s r b) (b == n) other).1)

one_at_endpoint : (s : System) (r : Range) (n : ℕ) → IsSystem s → KnownTree s.nodes → is_endpoint_of s r n ≡ true → count_of s r (is_under s.nodes n) ≡ 1
one_at_endpoint s r n system known is =
    same_count s r (is_under s.nodes n) (λ m. m == n) (λ m other. under_endpoint known n m (and_parts (is_endpoint_at s.nodes n) (serves s r n) is).0) ∙ one_there s r n system is

at_endpoint : (s : System) (r : Range) (w : WindowFields) (n : ℕ) → IsSystem s → KnownTree s.nodes → IsWhole s r → window_for s r ≡ Some w
    → is_endpoint_of s r n ≡ true → Counts s r w n
at_endpoint s r w n system known whole window is =
    let parts = and_parts (is_endpoint_at s.nodes n) (serves s r n) is in
    let at = served s r n parts.1 in
    let ways = has_ways s w r n at.i at.d whole window (record { endpoint = parts.0; there = at.there; has = at.has }) in
    let single = one_at_endpoint s r n system known is in
    let turned = mul_comm w.ways (ways_above s r n) in
    let product = ways.product in
    let own = ways.ways in
    let first : count_of s r (is_under s.nodes n) * (ways_above s r n * w.ways) ≡ 1 * (ways_above s r n * w.ways) = ap (λ (k : ℕ). k * (ways_above s r n * w.ways)) single in
    record { even = omega (arith, first, turned, product, own) }

-- ---- at a node that forwards

-- a node that forwards has no decoder of the range
pub forwards_none : (s : System) (r : Range) (n : ℕ) → IsWhole s r → forwards_at s.nodes n ≡ true → decoder_for s r n ≡ None
forwards_none s r n whole forwards =
    no_decoder s r n (false_from_ne_true (serves s r n) (λ is. false≢true (sym (reached s r whole n is).0 ∙ forwards)))

at_forwarding : (s : System) (r : Range) (w : WindowFields) (n : ℕ) → IsSystem s → KnownTree s.nodes → IsWhole s r → forwards_at s.nodes n ≡ true
    → (below : LandsBelow s r n) → Counts s r w below.child → Counts s r w n
at_forwarding s r w n system known whole forwards below counted =
    record {
      even =
          ap (λ (k : ℕ). k * (ways_above s r n * w.ways)) (same_count s r (is_under s.nodes n) (is_under s.nodes below.child) same)
          ∙ ap (λ (k : ℕ). count_of s r (is_under s.nodes below.child) * (k * w.ways)) (sym ways)
          ∙ counted.even;
    }
  where
    own_forwards : forwards_at s.nodes below.own.node ≡ true
    own_forwards = ap (forwards_at s.nodes) below.node ∙ forwards

    not_serving : serves s r n ≡ true → ⊥
    not_serving is = false≢true (sym (reached s r whole n is).0 ∙ forwards)

    none : decoder_for s r below.own.node ≡ None
    none = ap (decoder_for s r) below.node ∙ forwards_none s r n whole forwards

    ways : ways_above s r below.child ≡ ways_above s r n
    ways = ways_past s r known below.child below.own below.parent none ∙ ap (ways_above s r) below.node

    same : (m : ℕ) → is_endpoint_of s r m ≡ true → is_under s.nodes n m ≡ is_under s.nodes below.child m
    same m is =
        under_is known n m
        ∙ ap (λ b. b || is_above s.nodes n m) (ne_eqb m n (λ here. not_serving (ap (serves s r) (sym here) ∙ (and_parts (is_endpoint_at s.nodes m) (serves s r m) is).1)))
        ∙ sym (under_only known below.child below.own below.parent own_forwards m ∙ ap (λ k. is_above s.nodes k m) below.node)

-- ---- at a port

pub record Child (s : System) (r : Range) (n e : ℕ) : Type 0 where
  pub node : ℕ
  pub stands : child_of s.nodes n e ≡ Some node
  pub parent : parent_of s.nodes node ≡ Some (record { node = n; port = e })
  pub lands : lands_on s r node ≡ true

pub child_at : (s : System) (r : Range) (n e : ℕ) → KnownTree s.nodes → leads_on s r n e ≡ true → Child s r n e
child_at s r n e known leads_there = go (child_of s.nodes n e) refl leads_there
  where
    go : (o : Option ℕ) → child_of s.nodes n e ≡ o → option_map_or (lands_on s r) o false ≡ true → Child s r n e
    go None at is = absurd (false≢true is)
    go (Some c) at is = record { node = c; stands = at; parent = (known.laws.children n e c).0 at; lands = is }

-- what leaves the port at one of its entries
count_leaving : (s : System) (r : Range) (w : WindowFields) (n e : ℕ) (d : Decoder) → KnownTree s.nodes → decoder_for s r n ≡ Some d → (child : Child s r n e) → Counts s r w child.node
    → count_of s r (leaves_at s.nodes n e) * (decoder_ways d * ways_above s r n * w.ways) ≡ range_ways s r
count_leaving s r w n e d known first child counted =
    ap (λ (k : ℕ). k * (decoder_ways d * ways_above s r n * w.ways))
    (same_count s r (leaves_at s.nodes n e) (is_under s.nodes child.node) (λ m is. sym (under_child known n e child.node child.parent m)))
    ∙ ap (λ (k : ℕ). count_of s r (is_under s.nodes child.node) * (k * w.ways)) (sym (ways_below s r known child.node (record { node = n; port = e }) d child.parent first))
    ∙ counted.even

-- an endpoint under the port leaves it at one of the entries
leaves_by_entry : RangesRise → (s : System) (r : Range) (n : ℕ) → KnownTree s.nodes → IsWhole s r → (at : ServesAt s r n) → is_endpoint_at s.nodes n ≡ false → forwards_at s.nodes n ≡ false
    → are_distinct (entries_of at.d) ≡ true → (m : ℕ) → is_endpoint_of s r m ≡ true
    → one (is_under s.nodes n m) ≡ total (λ e. one (leaves_at s.nodes n e m)) (entries_of at.d)
leaves_by_entry rise s r n known whole at port own distinct m is =
    ap one (same_test (is_under s.nodes n m) (list_any (λ e. leaves_at s.nodes n e m) (entries_of at.d)) to from)
    ∙ sym (once (λ e. leaves_at s.nodes n e m) (λ a b. leaves_once known n a b m) (entries_of at.d) distinct)
  where
    parts : (is_endpoint_at s.nodes m ≡ true) × (serves s r m ≡ true)
    parts = and_parts (is_endpoint_at s.nodes m) (serves s r m) is

    is_entry : (e : ℕ) → leaves_at s.nodes n e m ≡ true → list_any (λ f. leaves_at s.nodes n f m) (entries_of at.d) ≡ true
    is_entry e leaves =
        let listed = listed_by rise s r whole.blocks (record { node = n; port = e }) (all_listed rise s r known whole n e own m (reached s r whole m parts.1).1 leaves) in
        list_any-weaker (λ f. f == e) (λ f. leaves_at s.nodes n f m) (λ f same. ap (λ g. leaves_at s.nodes n g m) (eqb-true f e same) ∙ leaves) (entries_of at.d)
        (listed.entry at.i at.d at.there at.has)

    above : is_under s.nodes n m ≡ true → is_above s.nodes n m ≡ true
    above under =
        elim (or_cases (m == n) (is_above s.nodes n m) (sym (under_is known n m) ∙ under)) [
          | inl here ↦ absurd (false≢true (sym port ∙ ap (is_endpoint_at s.nodes) (sym (eqb-true m n here)) ∙ parts.0))
          | inr higher ↦ higher
        ]

    to : is_under s.nodes n m ≡ true → list_any (λ e. leaves_at s.nodes n e m) (entries_of at.d) ≡ true
    to under = let leaves = above_leaves known n m (above under) in is_entry leaves.0 leaves.1

    from : list_any (λ e. leaves_at s.nodes n e m) (entries_of at.d) ≡ true → is_under s.nodes n m ≡ true
    from any =
        let some = Any-from_list_any (λ e. leaves_at s.nodes n e m) (entries_of at.d) any in
        under_is known n m ∙ or_right (m == n) (is_above s.nodes n m) (leaves_above known n some.1 m some.4)

regroup : (c p a w : ℕ) → c * (p * a * w) ≡ p * (c * (a * w))
regroup c p a w = ap (λ (k : ℕ). c * k) (mul_assoc p a w) ∙ mul_left_comm c p (a * w)

at_port : RangesRise → (s : System) (r : Range) (w : WindowFields) (n : ℕ) → KnownTree s.nodes → IsWhole s r → ServesAt s r n → is_endpoint_at s.nodes n ≡ false → forwards_at s.nodes n ≡ false
    → ((e : ℕ) → (child : Child s r n e) → Counts s r w child.node) → Counts s r w n
at_port rise s r w n known whole at port own counted =
    record { even = times_tell (decoder_ways at.d) (count_of s r (is_under s.nodes n) * (ways_above s r n * w.ways)) (range_ways s r) (some_ways (decoder_ways at.d) (decoder_ways_known at.d)) scaled }
  where
    entries : (are_distinct (entries_of at.d) ≡ true) × (list_all (leads_on s r n) (entries_of at.d) ≡ true)
    entries = (leads s r whole n at.i at.d at.there at.has).ways port

    each : All (λ e. count_of s r (leaves_at s.nodes n e) * (decoder_ways at.d * ways_above s r n * w.ways) ≡ range_ways s r) (entries_of at.d)
    each = λ k d within.
        let e : ℕ = get_or (entries_of at.d) k d in
        let child = child_at s r n e known (AllPass-from_list_all (leads_on s r n) (entries_of at.d) entries.1 k d within) in
        count_leaving s r w n e at.d known at.first child (counted e child)

    scaled : decoder_ways at.d * (count_of s r (is_under s.nodes n) * (ways_above s r n * w.ways)) ≡ decoder_ways at.d * range_ways s r
    scaled =
        sym (regroup (count_of s r (is_under s.nodes n)) (decoder_ways at.d) (ways_above s r n) w.ways)
        ∙ ap (λ (k : ℕ). k * (decoder_ways at.d * ways_above s r n * w.ways))
        (count_parts s r (is_under s.nodes n) (leaves_at s.nodes n) (entries_of at.d) (leaves_by_entry rise s r n known whole at port own entries.0))
        ∙ total_even (λ e. count_of s r (leaves_at s.nodes n e)) (decoder_ways at.d * ways_above s r n * w.ways) (range_ways s r) (entries_of at.d) each
        ∙ ap (λ (k : ℕ). k * range_ways s r) (length-map-range_with_len (entry_at at.d) 0 (decoder_ways at.d))

-- ---- at each node

pub counted_within : RangesRise → (s : System) (r : Range) (w : WindowFields) → IsSystem s → KnownTree s.nodes → IsWhole s r → window_for s r ≡ Some w
    → (k n : ℕ) → length s.nodes ≤ n + k → lands_on s r n ≡ true → Counts s r w n
counted_within rise s r w system known whole window zero n past lands =
    let within = lands_within s r n system lands in
    absurd (omega arith)
counted_within rise s r w system known whole window (suc k) n past lands =
    elim (cases_Bool (forwards_at s.nodes n)) [
      | inl forwards ↦
          let below = lands_below s r n system known forwards lands in
          let higher = (parent_is_port known below.child below.own below.parent).0 in
          let node = below.node in
          at_forwarding s r w n system known whole forwards below (counted_within rise s r w system known whole window k below.child (omega (arith, higher, node)) below.lands)
      | inr own ↦
          let is : serves s r n ≡ true = sym (lands_here s r n system known own) ∙ lands in
          elim (cases_Bool (is_endpoint_at s.nodes n)) [
            | inl endpoint ↦ at_endpoint s r w n system known whole window (and_from (is_endpoint_at s.nodes n) (serves s r n) endpoint is)
            | inr port ↦
                at_port rise s r w n known whole (served s r n is) port own (λ e child.
                let higher = (parent_is_port known child.node (record { node = n; port = e }) child.parent).0 in
                counted_within rise s r w system known whole window k child.node (omega (arith, higher)) child.lands)
          ]
    ]

-- the endpoints of the range under a node, times the ways above it and the window's, are the range's ways
pub counted : RangesRise → (s : System) (r : Range) (w : WindowFields) → IsSystem s → KnownTree s.nodes → IsWhole s r → window_for s r ≡ Some w
    → (n : ℕ) → lands_on s r n ≡ true → length (endpoints_under s r n) * ways_above s r n * w.ways ≡ range_ways s r
counted rise s r w system known whole window n lands =
    mul_assoc (length (endpoints_under s r n)) (ways_above s r n) w.ways
    ∙ ap (λ (k : ℕ). k * (ways_above s r n * w.ways)) (count_under s r n)
    ∙ (counted_within rise s r w system known whole window (length s.nodes) n (omega arith) lands).even

-- a range lands on each node that serves it
pub served_lands : (s : System) (r : Range) (n : ℕ) → IsSystem s → KnownTree s.nodes → IsWhole s r → serves s r n ≡ true → lands_on s r n ≡ true
served_lands s r n system known whole is = lands_here s r n system known (reached s r whole n is).0 ∙ is
