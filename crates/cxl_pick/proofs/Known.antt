-- What is known is what nodes give.
use Rattle.std.proofs.Common.{◌≡◌, ℕ, zero, suc, ◌+◌, ◌*◌, ◌/◌, ◌%◌, ◌<◌, ◌≤◌, Bool, true, false, ◌&&◌, ◌||◌, not, if◌then◌else◌, cond, List, [], ◌∷◌, ◌++◌, length, get_or, set, replicate, filter, Option, Some, None, refl, sym, ap, ◌∙◌, subst, inl, inr, arith}
use Rattle.std.specs.Prelude.{◌==◌, nat_le, take, find, option_map, unwrap_or, is_some, slice_get, IsSomeAnd, Contains}
use Rattle.std.specs.Option.{option_map_or}
use Rattle.std.specs.List.{filter_map, flat_map, cons_option}
use Rattle.std.proofs.Math.Nat.{div-le_self}
use Rattle.std.proofs.lemmas.List.{get_or_default, set_past, length-set, get_or-set_same, get_or-set_other}
use Rattle.std.proofs.lemmas.Grind.{get_or-set_at}
use Rattle.std.proofs.lemmas.Option.{same_Some, slice_get-get_or}
use Rattle.std.proofs.lemmas.Bool.{cases_Bool, cases_eq, cases_lt, or_left, or_right, eq-eqb, ne_eqb, le-leb, lt-leb, false≢true}
use Rattle.cxl_enc.specs.Codes.{third_of, bits_of, log2_of, code_in_table}
use Rattle.cxl_enc.specs.Caps.{targets_of}
use Rattle.cxl_enc.proofs.Lists.{is_in, in_from, in_is}
use Rattle.cxl_topo.specs.Tree.{is_endpoint_at}
use Rattle.cxl_regs.specs.Rules.{endpoint_ways_ok, select_ok}
use Rattle.cxl_span.specs.Allotting.{all_committed}
use Rattle.cxl_window.specs.Fields.{WindowFields}
use Rattle.cxl_topo.proofs.Trees.{KnownTree}
use Rattle.cxl_model.specs.System.{System, decoders_at}
use Rattle.cxl_legal.specs.Endpoints.{cap_at}
use Rattle.cxl_legal.specs.Bases.{last_end}
use Rattle.cxl_pick.specs.declared.want.Want.{Want}
use Rattle.cxl_pick.specs.declared.gifts.Gift.{Gift}
use Rattle.cxl_pick.specs.declared.gifts.Gifts.{Gifts}
use Rattle.cxl_pick.specs.Picking.{wanted_code, is_open, has_room, can_serve_itself, can_serve_by, children_of, gives}
use Rattle.cxl_pick.specs.inner.Gifts.{AreChildrenOf, can_lead, offers_of, used, has_gift, IsGift, told_by, known_at, is_known, willing_of, used_with, AreChildrenKnown, IsAsked, AreGifts}
use Rattle.cxl_pick.proofs.Numbers.{each_told, some_count, count_found}
use Rattle.cxl_pick.proofs.Taking.{find_in}
use Rattle.cxl_pick.proofs.Levels.{child_later, gives_at_port, gives_at_endpoint}
use Rattle.cxl_pick.proofs.Offering.{gives_told, open_serves, shut_serves, first_none}

-- ---- gifts

pub gift_for : (gift : Gift) (f g : ℕ → ℕ) → ((m : ℕ) → m ≤ 16 → f m ≡ g m) → IsGift gift f → IsGift gift g
gift_for gift f g same is = record {
  one = is.one ∙ same 1 (omega arith);
  two = is.two ∙ same 2 (omega arith);
  four = is.four ∙ same 4 (omega arith);
  eight = is.eight ∙ same 8 (omega arith);
  sixteen = is.sixteen ∙ same 16 (omega arith);
}

told : (gift : Gift) (f : ℕ → ℕ) → IsGift gift f → (v : ℕ) → has_gift v ≡ true → told_by gift v ≡ f v
told gift f is v has = each_told (λ n. told_by gift n ≡ f n) v has is.one is.two is.four is.eight is.sixteen

untold : (gift : Gift) (v : ℕ) → has_gift v ≡ false → told_by gift v ≡ 0
untold gift v lacks =
    rw (ne_eqb v 1 (λ e. none 1 refl e), ne_eqb v 2 (λ e. none 2 refl e), ne_eqb v 4 (λ e. none 4 refl e), ne_eqb v 8 (λ e. none 8 refl e), ne_eqb v 16 (λ e. none 16 refl e)) refl
  where
    none : (k : ℕ) → has_gift k ≡ true → v ≡ k → ⊥
    none k has same = false≢true (sym lacks ∙ ap has_gift same ∙ has)

-- ---- by how many ports

port_used : (s : System) (want : Want) (w : WindowFields) (start n m : ℕ) → is_endpoint_at s.nodes n ≡ false
    → used s want w start n m ≡ unwrap_or (find (λ u. can_serve_by s want w start n m (length (offers_of s want w start n (m / u))) u) (8 ∷ 4 ∷ 2 ∷ 1 ∷ [])) 0
unfolding used
port_used s want w start n m port =
    ap (λ (b : Bool). if b then (if (m == 1) && can_serve_itself s want w start n then 1 else 0)
    else unwrap_or (find (λ u. can_serve_by s want w start n m (length (offers_of s want w start n (m / u))) u) (8 ∷ 4 ∷ 2 ∷ 1 ∷ [])) 0) port

endpoint_used : (s : System) (want : Want) (w : WindowFields) (start n m : ℕ) → is_endpoint_at s.nodes n ≡ true
    → used s want w start n m ≡ (if (m == 1) && can_serve_itself s want w start n then 1 else 0)
unfolding used
endpoint_used s want w start n m endpoint =
    ap (λ (b : Bool). if b then (if (m == 1) && can_serve_itself s want w start n then 1 else 0)
    else unwrap_or (find (λ u. can_serve_by s want w start n m (length (offers_of s want w start n (m / u))) u) (8 ∷ 4 ∷ 2 ∷ 1 ∷ [])) 0) endpoint

-- what a port gives by the number of ports that is found
abbrev given_by : System → Want → WindowFields → ℕ → ℕ → ℕ → Option ℕ → Option (List ℕ)
given_by s want w start n m o = option_map (λ u. flat_map (λ ns. ns) (take u (offers_of s want w start n (m / u)))) o

-- a node gives something where it is by some of its ports
pub used_some : (s : System) → KnownTree s.nodes → (want : Want) (w : WindowFields) (start n m : ℕ) → n < length s.nodes → not (used s want w start n m == 0) ≡ is_some (gives s want w start n m)
used_some s known want w start n m within =
    elim (cases_Bool (is_endpoint_at s.nodes n)) [
      | inl endpoint ↦
          ap (λ (k : ℕ). not (k == 0)) (endpoint_used s want w start n m endpoint)
          ∙ either ((m == 1) && can_serve_itself s want w start n)
          ∙ ap (λ (o : Option (List ℕ)). is_some o) (sym (gives_at_endpoint s known want w start n m within endpoint))
      | inr port ↦
          ap (λ (k : ℕ). not (k == 0)) (port_used s want w start n m port)
          ∙ go (find test (8 ∷ 4 ∷ 2 ∷ 1 ∷ [])) refl
          ∙ ap (λ (o : Option (List ℕ)). is_some o) (sym (gives_at_port s known want w start n m within port))
    ]
  where
    test : ℕ → Bool
    test u = can_serve_by s want w start n m (length (offers_of s want w start n (m / u))) u

    either : (b : Bool) → not ((if b then 1 else 0) == 0) ≡ is_some (if b then Some (n ∷ []) else None)
    either true = refl
    either false = refl

    go : (o : Option ℕ) → find test (8 ∷ 4 ∷ 2 ∷ 1 ∷ []) ≡ o → not (unwrap_or o 0 == 0) ≡ is_some (given_by s want w start n m o)
    go None at = refl
    go (Some u) at =
        let some = some_count u (count_found u (find_in test (8 ∷ 4 ∷ 2 ∷ 1 ∷ []) u at)) in
        ap not (ne_eqb u 0 (omega (arith, some)))

-- what a port gives, where it is by some of its ports
pub port_gives_by : (s : System) → KnownTree s.nodes → (want : Want) (w : WindowFields) (start n m u : ℕ) → n < length s.nodes → is_endpoint_at s.nodes n ≡ false → used s want w start n m ≡ u → (u ≡ 0 → ⊥)
    → unwrap_or (gives s want w start n m) [] ≡ flat_map (λ ns. ns) (take u (offers_of s want w start n (m / u)))
port_gives_by s known want w start n m u within port is some =
    ap (λ (o : Option (List ℕ)). unwrap_or o []) (gives_at_port s known want w start n m within port)
    ∙ go (find (λ k. can_serve_by s want w start n m (length (offers_of s want w start n (m / k))) k) (8 ∷ 4 ∷ 2 ∷ 1 ∷ [])) (sym (port_used s want w start n m port) ∙ is)
  where
    go : (o : Option ℕ) → unwrap_or o 0 ≡ u → unwrap_or (given_by s want w start n m o) [] ≡ flat_map (λ ns. ns) (take u (offers_of s want w start n (m / u)))
    go None none = absurd (some (sym none))
    go (Some k) same = ap (λ (j : ℕ). flat_map (λ (ns : List ℕ). ns) (take j (offers_of s want w start n (m / j)))) same

-- an endpoint gives itself
pub endpoint_gives : (s : System) → KnownTree s.nodes → (want : Want) (w : WindowFields) (start n m : ℕ) → n < length s.nodes → is_endpoint_at s.nodes n ≡ true → (used s want w start n m ≡ 0 → ⊥)
    → unwrap_or (gives s want w start n m) [] ≡ n ∷ []
endpoint_gives s known want w start n m within endpoint some =
    ap (λ (o : Option (List ℕ)). unwrap_or o []) (gives_at_endpoint s known want w start n m within endpoint)
    ∙ go ((m == 1) && can_serve_itself s want w start n) (λ none. some (endpoint_used s want w start n m endpoint ∙ none))
  where
    go : (b : Bool) → (◌≡◌ {A = ℕ} (if b then 1 else 0) 0 → ⊥) → unwrap_or (if b then Some (n ∷ []) else None) [] ≡ n ∷ []
    go true more = refl
    go false more = absurd (more refl)

-- ---- what is known

test_zero : (k : ℕ) → not (k == 0) ≡ false → k ≡ 0
test_zero k is =
    elim (cases_eq k 0) [
      | inl none ↦ none
      | inr some ↦ absurd (false≢true (sym is ∙ ap not (ne_eqb k 0 some)))
    ]

nothing : (o : Option (List ℕ)) → ((xs : List ℕ) → o ≡ Some xs → ⊥) → is_some o ≡ false
nothing None none = refl
nothing (Some xs) none = absurd (none xs refl)

-- no node gives something for a number for which nothing is told
unused : (s : System) → KnownTree s.nodes → (want : Want) (w : WindowFields) (start n m : ℕ) → n < length s.nodes → m ≤ 16 → has_gift m ≡ false → used s want w start n m ≡ 0
unused s known want w start n m within few lacks =
    test_zero (used s want w start n m)
    (used_some s known want w start n m within
    ∙ nothing (gives s want w start n m) (λ xs is. false≢true (sym lacks ∙ gives_told (length s.nodes) s want w start n m xs is few)))

told_used : (s : System) → KnownTree s.nodes → (want : Want) (w : WindowFields) (start n m : ℕ) (gift : Gift) → n < length s.nodes → m ≤ 16 → IsGift gift (used s want w start n) → told_by gift m ≡ used s want w start n m
told_used s known want w start n m gift within few is =
    elim (cases_Bool (has_gift m)) [
      | inl has ↦ told gift (used s want w start n) is m has
      | inr lacks ↦ untold gift m lacks ∙ sym (unused s known want w start n m within few lacks)
    ]

pub known_used : (s : System) → KnownTree s.nodes → (want : Want) (w : WindowFields) (start n m : ℕ) (gifts : Gifts) → AreGifts s want gifts → IsAsked want gifts w start → n < length s.nodes → m ≤ 16
    → is_known gifts.known.items n ≡ true → known_at gifts.known.items n m ≡ used s want w start n m
known_used s known want w start n m gifts are asked within few there = go (get_or gifts.known.items n None) refl there
  where
    go : (o : Option Gift) → get_or gifts.known.items n None ≡ o → is_some o ≡ true → option_map_or (λ gift. told_by gift m) o 0 ≡ used s want w start n m
    go None at none = absurd (false≢true none)
    go (Some gift) at some = told_used s known want w start n m gift within few (are.each n gift w start at asked)

pub known_some : (s : System) → KnownTree s.nodes → (want : Want) (w : WindowFields) (start n m : ℕ) (gifts : Gifts) → AreGifts s want gifts → IsAsked want gifts w start → n < length s.nodes → m ≤ 16
    → is_known gifts.known.items n ≡ true → not (known_at gifts.known.items n m == 0) ≡ is_some (gives s want w start n m)
known_some s known want w start n m gifts are asked within few there =
    ap (λ (k : ℕ). not (k == 0)) (known_used s known want w start n m gifts are asked within few there) ∙ used_some s known want w start n m within

-- a node that is known to give nothing gives none
pub nothing_given : (s : System) → KnownTree s.nodes → (want : Want) (w : WindowFields) (start n m : ℕ) (gifts : Gifts) → AreGifts s want gifts → IsAsked want gifts w start → n < length s.nodes → m ≤ 16
    → is_known gifts.known.items n ≡ true → known_at gifts.known.items n m ≡ 0 → gives s want w start n m ≡ None
nothing_given s known want w start n m gifts are asked within few there none =
    go (gives s want w start n m) (sym (known_some s known want w start n m gifts are asked within few there) ∙ ap (λ (k : ℕ). not (k == 0)) none)
  where
    go : (o : Option (List ℕ)) → is_some o ≡ not (0 == 0) → o ≡ None
    go None is = refl
    go (Some xs) is = absurd (false≢true (sym is))

-- ---- children

kept_as_given : (p : ℕ → Bool) (f : ℕ → Option (List ℕ)) (xs : List ℕ) → ((x : ℕ) → is_in x xs ≡ true → p x ≡ is_some (f x)) → length (filter p xs) ≡ length (filter_map f xs)
kept_as_given p f [] same = refl
kept_as_given p f (x ∷ xs) same =
    ap (λ (b : Bool). length (cond b (x ∷ filter p xs) (filter p xs))) (same x (or_left (x == x) (is_in x xs) (eq-eqb x x refl)))
    ∙ go (f x) (kept_as_given p f xs (λ y there. same y (or_right (x == y) (is_in y xs) there)))
  where
    go : (o : Option (List ℕ)) → length (filter p xs) ≡ length (filter_map f xs) → length (cond (is_some o) (x ∷ filter p xs) (filter p xs)) ≡ length (cons_option o (filter_map f xs))
    go None rest = rest
    go (Some ys) rest = ap suc rest

-- as many children are known to give something as do
willing_is : (s : System) → KnownTree s.nodes → (want : Want) (w : WindowFields) (start n m : ℕ) (gifts : Gifts) → AreGifts s want gifts → IsAsked want gifts w start → m ≤ 16
    → AreChildrenKnown s gifts.known.items n → willing_of gifts.known.items (children_of s n) m ≡ length (offers_of s want w start n m)
willing_is s known want w start n m gifts are asked few all =
    kept_as_given (λ c. not (known_at gifts.known.items c m == 0)) (λ c. gives s want w start c m) (children_of s n) (λ c there.
    known_some s known want w start c m gifts are asked (child_later s known n c there).1 few (all.each c (in_is (children_of s n) c there)))

-- ---- windows and starts that ask for the same

abbrev ports_by : System → Want → ℕ → ℕ → Bool → ℕ → ℕ → ℕ → ℕ → Bool
ports_by s want n m opened code third willing u =
    opened
    && (m % u == 0)
    && nat_le u (targets_of (cap_at s n))
    && nat_le u willing
    && ((u == 1) || (nat_le (code + log2_of (want.ways / (third * m))) 6 && select_ok (cap_at s n) (code + log2_of (want.ways / (third * m))) (bits_of u)))

-- what a port's children are known to give makes it known what the port gives, in each such window
pub port_gift_is : (s : System) → KnownTree s.nodes → (want : Want) (w v : WindowFields) (a b n m : ℕ) (gifts : Gifts) → AreGifts s want gifts → IsAsked want gifts w a → IsAsked want gifts v b → m ≤ 16
    → is_open s a n ≡ is_open s b n → is_endpoint_at s.nodes n ≡ false → AreChildrenKnown s gifts.known.items n
    → used_with s want w a gifts.known.items (children_of s n) n m ≡ used s want v b n m
port_gift_is s known want w v a b n m gifts are first second few opened port all =
    let code : wanted_code want w ≡ wanted_code want v = first.code ∙ sym second.code in
    let third : third_of w.ways ≡ third_of v.ways = first.third ∙ sym second.third in
    let willing : (u : ℕ) → willing_of gifts.known.items (children_of s n) (m / u) ≡ length (offers_of s want v b n (m / u)) =
    λ u. willing_is s known want v b n (m / u) gifts are second (low u) all in
    (λ i. unwrap_or (find (λ u. ports_by s want n m (opened i) (code i) (third i) (willing u i) u) (8 ∷ 4 ∷ 2 ∷ 1 ∷ [])) 0)
    ∙ sym (port_used s want v b n m port)
  where
    low : (u : ℕ) → m / u ≤ 16
    low u = let less = div-le_self m u in omega (arith, less, few)

abbrev itself_by : System → Want → ℕ → Bool → ℕ → Bool
itself_by s want m opened code =
    opened
    && option_map_or (endpoint_ways_ok (cap_at s m)) (code_in_table want.ways) false
    && select_ok (cap_at s m) code (bits_of want.ways)
    && has_room s want m

pub endpoint_gift_is : (s : System) (want : Want) (w v : WindowFields) (a b n m : ℕ) (gifts : Gifts) → IsAsked want gifts w a → IsAsked want gifts v b → is_open s a n ≡ is_open s b n → is_endpoint_at s.nodes n ≡ true
    → (if (m == 1) && can_serve_itself s want w a n then 1 else 0) ≡ used s want v b n m
endpoint_gift_is s want w v a b n m gifts first second opened endpoint =
    let code : wanted_code want w ≡ wanted_code want v = first.code ∙ sym second.code in
    (λ i. if (m == 1) && itself_by s want n (opened i) (code i) then 1 else 0) ∙ sym (endpoint_used s want v b n m endpoint)

-- from starts on one side of the end of what is committed in a node, it is open alike
pub open_alike : (s : System) (from until a b n : ℕ) → (last_end s n ≤ a → last_end s n ≤ from) → (a < last_end s n → until ≤ last_end s n) → from ≤ b → b < until → is_open s a n ≡ is_open s b n
open_alike s from until a b n low high above below =
    ap (λ (t : Bool). not (all_committed (decoders_at s n)) && t) (elim (cases_lt a (last_end s n)) [
      | inl past ↦
          let end = high past in
          lt-leb (last_end s n) a past ∙ sym (lt-leb (last_end s n) b (omega (arith, end, below)))
      | inr before ↦
          let end = low before in
          le-leb (last_end s n) a before ∙ sym (le-leb (last_end s n) b (omega (arith, end, above)))
    ])

-- ---- one more gift

-- what was known stays known
pub still_known : (known : List (Option Gift)) (k n : ℕ) (gift : Gift) → is_known known n ≡ true → is_known (set known k (Some gift)) n ≡ true
still_known known k n gift there =
    elim (cases_eq n k) [
      | inr other ↦ ap (λ (o : Option Gift). is_some o) (get_or-set_other known k n (Some gift) None other) ∙ there
      | inl same ↦ elim (cases_lt k (length known)) [
        | inl within ↦ ap (λ (o : Option Gift). is_some o) (get_or-set_at known k n (Some gift) None same within)
        | inr past ↦ ap (λ (l : List (Option Gift)). is_known l n) (set_past known k (Some gift) past) ∙ there
      ]
    ]

pub now_known : (known : List (Option Gift)) (k : ℕ) (gift : Gift) → k < length known → is_known (set known k (Some gift)) k ≡ true
now_known known k gift within = ap (λ (o : Option Gift). is_some o) (get_or-set_same known k (Some gift) None within)

pub noted : (s : System) (want : Want) (old new : Gifts) (k : ℕ) (gift : Gift) → AreGifts s want old → k < length old.known.items → new.known.items ≡ set old.known.items k (Some gift)
    → ((w : WindowFields) (start : ℕ) → IsAsked want new w start → IsAsked want old w start) → ((w : WindowFields) (start : ℕ) → IsAsked want old w start → IsGift gift (used s want w start k))
    → (is_endpoint_at s.nodes k ≡ false → AreChildrenKnown s old.known.items k) → AreGifts s want new
noted s want old new k gift are within is asked own below = record {
  count = ap (λ (l : List (Option Gift)). length l) is ∙ length-set old.known.items k (Some gift) ∙ are.count;
  each = λ n g w start at asks. elim (cases_eq n k) [
    | inl same ↦
        let here : gift ≡ g = same_Some gift g (sym (get_or-set_at old.known.items k n (Some gift) None same within) ∙ ap (λ (l : List (Option Gift)). get_or l n None) (sym is) ∙ at) in
        subst (λ (x : Gift). IsGift x (used s want w start n)) here (subst (λ (j : ℕ). IsGift gift (used s want w start j)) (sym same) (own w start (asked w start asks)))
    | inr other ↦
        are.each n g w start (sym (get_or-set_other old.known.items k n (Some gift) None other) ∙ ap (λ (l : List (Option Gift)). get_or l n None) (sym is) ∙ at) (asked w start asks)
  ];
  closed = λ n there port. elim (cases_eq n k) [
    | inl same ↦ more n (subst (λ (j : ℕ). AreChildrenKnown s old.known.items j) (sym same) (below (ap (is_endpoint_at s.nodes) (sym same) ∙ port)))
    | inr other ↦
        more n (are.closed n (ap (λ (o : Option Gift). is_some o) (sym (get_or-set_other old.known.items k n (Some gift) None other) ∙ ap (λ (l : List (Option Gift)). get_or l n None) (sym is)) ∙ there) port)
  ];
}
  where
    more : (n : ℕ) → AreChildrenKnown s old.known.items n → AreChildrenKnown s new.known.items n
    more n all = record { each = λ c child. ap (λ (l : List (Option Gift)). is_known l c) is ∙ still_known old.known.items k c gift (all.each c child) }

-- ---- children of a node

pub child_at : (s : System) → KnownTree s.nodes → (n i : ℕ) (own : List ℕ) → AreChildrenOf s.nodes n own → i < length own → (n < get_or own i 0) × (get_or own i 0 < length s.nodes)
child_at s known n i own are within =
    child_later s known n (get_or own i 0) (ap (is_in (get_or own i 0)) (sym are.is) ∙ in_from own (get_or own i 0) (i, within, get_or_default own i (get_or own i 0) 0 within))

pub known_each : (s : System) (known : List (Option Gift)) (n i : ℕ) (own : List ℕ) → AreChildrenOf s.nodes n own → AreChildrenKnown s known n → i < length own → is_known known (get_or own i 0) ≡ true
known_each s known n i own are all within =
    all.each (get_or own i 0) (subst (λ (cs : List ℕ). Contains cs (get_or own i 0)) are.is (i, within, get_or_default own i (get_or own i 0) 0 within))

pub all_known : (s : System) (known : List (Option Gift)) (n : ℕ) (own : List ℕ) → AreChildrenOf s.nodes n own → ((i : ℕ) → i < length own → is_known known (get_or own i 0) ≡ true) → AreChildrenKnown s known n
all_known s known n own are each = record {
  each = λ c there.
      let at = in_is own c (ap (is_in c) are.is ∙ in_from (children_of s n) c there) in
      subst (λ (k : ℕ). is_known known k ≡ true) (get_or_default own at.0 0 c at.1 ∙ at.2) (each at.0 at.1);
}

-- ---- ports that are open, and those that are not

pub shut_used : (s : System) (want : Want) (w : WindowFields) (start : ℕ) (known : List (Option Gift)) (children : List ℕ) (n m : ℕ) → is_open s start n ≡ false → 0 ≡ used_with s want w start known children n m
shut_used s want w start known children n m shut =
    ap (λ (o : Option ℕ). unwrap_or o 0) (first_none (λ u. can_serve_by s want w start n m (willing_of known children (m / u)) u) (none 8) (none 4) (none 2) (none 1))
  where
    none : (u : ℕ) → can_serve_by s want w start n m (willing_of known children (m / u)) u ≡ false
    none u = shut_serves s want w start n m (willing_of known children (m / u)) u shut

pub open_used : (s : System) (want : Want) (w : WindowFields) (start : ℕ) (known : List (Option Gift)) (children : List ℕ) (n m : ℕ) → is_open s start n ≡ true
    → unwrap_or (find (λ u. can_lead s want w n m (willing_of known children (m / u)) u) (8 ∷ 4 ∷ 2 ∷ 1 ∷ [])) 0 ≡ used_with s want w start known children n m
open_used s want w start known children n m opened =
    let each : (u : ℕ) → can_lead s want w n m (willing_of known children (m / u)) u ≡ can_serve_by s want w start n m (willing_of known children (m / u)) u =
    λ u. sym (open_serves s want w start n m (willing_of known children (m / u)) u opened) in
    λ i. unwrap_or (find (λ u. each u i) (8 ∷ 4 ∷ 2 ∷ 1 ∷ [])) 0

-- ---- lists of tables

pub pushed_there : {X : Type 0} (xs : List X) (x : X) (i : ℕ) → i ≡ length xs → slice_get (xs ++ x ∷ []) i ≡ Some x
pushed_there [] x zero is = refl
pushed_there [] x (suc i) is = absurd (omega (arith, is))
pushed_there (y ∷ xs) x zero is = absurd (omega (arith, is))
pushed_there (y ∷ xs) x (suc i) is = pushed_there xs x i (omega (arith, is))

pub set_there : {X : Type 0} (xs : List X) (x : X) (i : ℕ) → i < length xs → slice_get (set xs i x) i ≡ Some x
set_there xs x i within =
    let long = length-set xs i x in
    slice_get-get_or (set xs i x) i x (omega (arith, long, within)) ∙ ap (λ y. Some y) (get_or-set_same xs i x x within)

pub of_there : {X : Type 0} (o : Option X) (x : X) (P : X → Type 0) → o ≡ Some x → IsSomeAnd o P → P x
of_there o x P is holds = subst (λ p. IsSomeAnd p P) is holds

pub same_at_each : {X : Type 0} (x : X) (count n : ℕ) → get_or (replicate count x) n x ≡ x
same_at_each x zero n = refl
same_at_each x (suc count) zero = refl
same_at_each x (suc count) (suc n) = same_at_each x count n
