-- Slots that lead to one endpoint are one slot.
use Rattle.std.proofs.Common.{◌≡◌, ℕ, zero, suc, ◌+◌, ◌*◌, ◌/◌, ◌%◌, ◌^◌, ◌<◌, true, false, not, List, [], ◌∷◌, length, get_or, Some, None, refl, sym, ap, ◌∙◌, subst, inl, inr, arith}
use Rattle.std.specs.Prelude.{◌==◌, IsTrue}
use Rattle.std.specs.List.{list_any}
use Rattle.std.proofs.Math.Nat.{mul-one, mod-lt, mod-one, mul-pos, mul_assoc, mul_comm, div-div-eq-div-mul, div-add-mod, div-lt_iff_lt-mul, pow-suc}
use Rattle.std.proofs.lemmas.Bool.{cases_lt, cases_Bool, and_parts, eq-eqb, false≢true, not-true}
use Rattle.std.proofs.lemmas.Option.{none-some}
use Rattle.std.proofs.lemmas.List.Folds.{list_any_at}
use Rattle.std.proofs.lemmas.List.FromFn.{get_or-map-range_with_len, length-map-range_with_len}
use Rattle.cxl_enc.specs.Codes.{is_ways, third_of, bits_of}
use Rattle.cxl_enc.proofs.Ways.{some_ways, some_third}
use Rattle.cxl_topo.specs.Tree.{is_endpoint_at, child_of}
use Rattle.cxl_regs.specs.declared.decoder.Decoder.{Decoder}
use Rattle.cxl_regs.specs.declared.reading.Range.{Range}
use Rattle.cxl_regs.specs.Reading.{decoder_ways, entries_of, entry_at}
use Rattle.cxl_window.specs.Fields.{WindowFields}
use Rattle.cxl_topo.proofs.Trees.{KnownTree, leaves_once, only_child, port_no_endpoint}
use Rattle.cxl_regs.proofs.DecoderRanges.{decoder_ways_known}
use Rattle.cxl_model.specs.declared.found.Place.{Place}
use Rattle.cxl_model.specs.System.{System}
use Rattle.cxl_model.specs.Ranges.{serves, decoder_for, ways_above}
use Rattle.cxl_model.specs.Rules.{are_distinct}
use Rattle.cxl_model.specs.Accepted.{IsWhole}
use Rattle.cxl_model.specs.Regions.{target_position, slots_an_entry, LeadsTo, past_forwarding, past_port, at_endpoint}
use Rattle.cxl_model.specs.Counts.{is_under}
use Rattle.cxl_model.proofs.Outcomes.{one_value}
use Rattle.cxl_model.proofs.RangeRules.{served, leads, no_decoder}
use Rattle.cxl_model.proofs.RangeCounts.{ways_below, ways_past, forwards_none}
use Rattle.cxl_model.proofs.SpansNumbers.{digit_below, agree_by_product, ways_are, remainders_tell}
use Rattle.cxl_model.proofs.SpansSlots.{goes, entry_for, leads_under, leaves_for, from_forwarding, from_port}

-- ---- numbers that differ

not_later : (ns : List ℕ) (i j d : ℕ) → are_distinct ns ≡ true → i < j → j < length ns → get_or ns i d ≡ get_or ns j d → ⊥
not_later [] i j d distinct less within same = omega arith
not_later (n ∷ ns) i zero d distinct less within same = omega arith
not_later (n ∷ ns) zero (suc j) d distinct less within same =
    let parts = and_parts (not (list_any (λ m. m == n) ns)) (are_distinct ns) distinct in
    false≢true (sym (not-true (list_any (λ m. m == n) ns) parts.0) ∙ list_any_at (λ m. m == n) ns j d (omega arith) (eq-eqb (get_or ns j d) n (sym same)))
not_later (n ∷ ns) (suc i) (suc j) d distinct less within same =
    let parts = and_parts (not (list_any (λ m. m == n) ns)) (are_distinct ns) distinct in
    not_later ns i j d parts.1 (omega arith) (omega arith) same

pub one_index : (ns : List ℕ) (i j d : ℕ) → are_distinct ns ≡ true → i < length ns → j < length ns → get_or ns i d ≡ get_or ns j d → i ≡ j
one_index ns i j d distinct i_within j_within same =
    elim (cases_lt i j) [
      | inl less ↦ absurd (not_later ns i j d distinct less j_within same)
      | inr past ↦ elim (cases_lt j i) [
        | inl more ↦ absurd (not_later ns j i d distinct more i_within (sym same))
        | inr at ↦ omega arith
      ]
    ]

-- ---- a port that leads on

pub record AtPort (s : System) (r : Range) (n : ℕ) (d : Decoder) : Type 0 where
  pub serves : serves s r n ≡ true
  pub distinct : are_distinct (entries_of d) ≡ true

pub at_port : (s : System) (r : Range) (n : ℕ) (d : Decoder) → IsWhole s r → is_endpoint_at s.nodes n ≡ false → decoder_for s r n ≡ Some d → AtPort s r n d
at_port s r n d whole port first =
    elim (cases_Bool (serves s r n)) [
      | inr other ↦ absurd (none-some d (sym (no_decoder s r n other) ∙ first))
      | inl is ↦
          let at = served s r n is in
          let same : at.d ≡ d = one_value (decoder_for s r n) at.d d at.first first in
          record { serves = is; distinct = subst (λ (e : Decoder). are_distinct (entries_of e) ≡ true) same ((leads s r whole n at.i at.d at.there at.has).ways port).0 }
    ]

-- entries at which one path leaves are one entry
one_entry : (s : System) (n m : ℕ) (d : Decoder) (x y : ℕ) → KnownTree s.nodes → are_distinct (entries_of d) ≡ true → x < decoder_ways d → y < decoder_ways d
    → entry_at d x ≡ entry_at d y → x ≡ y
one_entry s n m d x y known distinct x_below y_below same =
    one_index (entries_of d) x y 0 distinct
    (subst (λ (k : ℕ). x < k) (sym (length-map-range_with_len (entry_at d) 0 (decoder_ways d))) x_below)
    (subst (λ (k : ℕ). y < k) (sym (length-map-range_with_len (entry_at d) 0 (decoder_ways d))) y_below)
    (get_or-map-range_with_len (entry_at d) 0 (decoder_ways d) x x 0 x_below (omega arith) ∙ same ∙ sym (get_or-map-range_with_len (entry_at d) 0 (decoder_ways d) y y 0 y_below (omega arith)))

-- ---- slots that lead to one endpoint agree

-- the digits of two slots from node n down to node m are the same
pub record Agree (s : System) (w : WindowFields) (r : Range) (a b n m : ℕ) : Type 0 where
  pub times : ℕ
  pub some : 0 < times
  pub ways : ways_above s r m ≡ ways_above s r n * times
  pub digits : a / slots_an_entry s w r n % times ≡ b / slots_an_entry s w r n % times

agree_here : (s : System) (w : WindowFields) (r : Range) (a b n : ℕ) → Agree s w r a b n n
agree_here s w r a b n = record {
  times = 1;
  some = omega arith;
  ways = sym (mul-one (ways_above s r n));
  digits = mod-one (a / slots_an_entry s w r n) ∙ sym (mod-one (b / slots_an_entry s w r n));
}

agree_past : (s : System) (w : WindowFields) (r : Range) (a b n c m : ℕ) → ways_above s r c ≡ ways_above s r n → Agree s w r a b c m → Agree s w r a b n m
agree_past s w r a b n c m same rest = record {
  times = rest.times;
  some = rest.some;
  ways = rest.ways ∙ ap (λ (k : ℕ). k * rest.times) same;
  digits = subst (λ (k : ℕ). a / (2 ^ bits_of w.ways * k) % rest.times ≡ b / (2 ^ bits_of w.ways * k) % rest.times) same rest.digits;
}

agree_step : (s : System) (w : WindowFields) (r : Range) (a b n c m p : ℕ) → 0 < p → ways_above s r c ≡ p * ways_above s r n
    → a / slots_an_entry s w r n % p ≡ b / slots_an_entry s w r n % p → Agree s w r a b c m → Agree s w r a b n m
agree_step s w r a b n c m p some ways low rest = record {
  times = p * rest.times;
  some = mul-pos some rest.some;
  ways =
      rest.ways ∙ ap (λ (k : ℕ). k * rest.times) (ways ∙ mul_comm p (ways_above s r n)) ∙ mul_assoc (ways_above s r n) p rest.times;
  digits = agree_by_product p rest.times (a / slots_an_entry s w r n) (b / slots_an_entry s w r n) some rest.some low high;
}
  where
    unit : 2 ^ bits_of w.ways * ways_above s r c ≡ slots_an_entry s w r n * p
    unit = ap (λ (k : ℕ). 2 ^ bits_of w.ways * k) (ways ∙ mul_comm p (ways_above s r n)) ∙ sym (mul_assoc (2 ^ bits_of w.ways) (ways_above s r n) p)

    split : (x : ℕ) → x / slots_an_entry s w r n / p ≡ x / slots_an_entry s w r c
    split x = div-div-eq-div-mul x (slots_an_entry s w r n) p ∙ ap (λ (k : ℕ). x / k) (sym unit)

    high : a / slots_an_entry s w r n / p % rest.times ≡ b / slots_an_entry s w r n / p % rest.times
    high = ap (λ (k : ℕ). k % rest.times) (split a) ∙ rest.digits ∙ ap (λ (k : ℕ). k % rest.times) (sym (split b))

pub agree : (s : System) (w : WindowFields) (r : Range) (a b n : ℕ) (p q : Place) → KnownTree s.nodes → IsWhole s r → p.endpoint ≡ q.endpoint
    → LeadsTo s w r a n p → LeadsTo s w r b n q → Agree s w r a b n p.endpoint
agree s w r a b n p q known whole endpoint (past_forwarding _ child _ forwards first leads) other =
    let own = only_child known n child forwards first in
    let none : decoder_for s r own.0.node ≡ None = ap (decoder_for s r) own.2 ∙ forwards_none s r n whole forwards in
    agree_past s w r a b n child p.endpoint (ways_past s r known child own.0 own.1 none ∙ ap (ways_above s r) own.2)
    (agree s w r a b child p q known whole endpoint leads (from_forwarding s w r b n q known other child forwards first))
agree s w r a b n p q known whole endpoint (past_port _ child _ own port way leads) other =
    let here = goes s w r a n child way in
    let on = from_port s w r b n q other own port in
    let there = goes s w r b n on.child on.way in
    let d : Decoder = here.d in
    let same : there.d ≡ d = one_value (decoder_for s r n) there.d d there.first here.first in
    let stands : child_of s.nodes n (entry_at d (entry_for s w r b n d)) ≡ Some on.child =
    subst (λ (e : Decoder). child_of s.nodes n (entry_at e (entry_for s w r b n e)) ≡ Some on.child) same there.stands in
    let under = leads_under s w r a child p known leads in
    let other_under = subst (λ (m : ℕ). is_under s.nodes on.child m ≡ true) (sym endpoint) (leads_under s w r b on.child q known on.leads) in
    let ports : entry_at d (entry_for s w r a n d) ≡ entry_at d (entry_for s w r b n d) =
    leaves_once known n (entry_at d (entry_for s w r a n d)) (entry_at d (entry_for s w r b n d)) p.endpoint
    (leaves_for known n (entry_at d (entry_for s w r a n d)) child p.endpoint here.stands under)
    (leaves_for known n (entry_at d (entry_for s w r b n d)) on.child p.endpoint stands other_under) in
    let some = some_ways (decoder_ways d) (decoder_ways_known d) in
    let at = at_port s r n d whole (port_no_endpoint s.nodes n port) here.first in
    let low : entry_for s w r a n d ≡ entry_for s w r b n d =
    one_entry s n p.endpoint d (entry_for s w r a n d) (entry_for s w r b n d) known at.distinct
    (mod-lt (a / slots_an_entry s w r n) some) (mod-lt (b / slots_an_entry s w r n) some) ports in
    let child_same : on.child ≡ child =
    one_value (child_of s.nodes n (entry_at d (entry_for s w r b n d))) on.child child stands (ap (child_of s.nodes n) (sym ports) ∙ here.stands) in
    agree_step s w r a b n child p.endpoint (decoder_ways d) some
    (ways_below s r known child (record { node = n; port = entry_at d (entry_for s w r a n d) }) d ((known.laws.children n (entry_at d (entry_for s w r a n d)) child).0 here.stands) here.first)
    low
    (agree s w r a b child p q known whole endpoint leads (subst (λ (c : ℕ). LeadsTo s w r b c q) child_same on.leads))
agree s w r a b n p q known whole endpoint (at_endpoint _ is start) other = agree_here s w r a b p.endpoint

-- ---- from the window down

pub power : (k : ℕ) → 0 < 2 ^ k
power zero = omega arith
power (suc k) = let rest = power k in rw pow-suc (omega (arith, rest))

-- the number of a slot by its position, the third and the rest
slot_is : (k z low : ℕ) (slot : ℕ) → slot / k ≡ z → slot % k ≡ low → slot ≡ k * z + low
slot_is k z low slot upper lower = sym (div-add-mod slot k) ∙ ap (λ (x : ℕ). k * x + slot % k) upper ∙ ap (λ (x : ℕ). k * z + x) lower

quotient_below : (k t n slot : ℕ) → 0 < k → slot < k * t * n → slot / k < t * n
quotient_below k t n slot some below =
    (div-lt_iff_lt-mul {k = k} {x = slot} {y = t * n} some).1 (subst (λ (x : ℕ). slot < x) (mul_assoc k t n ∙ mul_comm k (t * n)) below)

-- one position, and the rest of the digits, tell a slot
pub one_slot : (w n a b : ℕ) → IsTrue (is_ways w) → IsTrue (is_ways (w * n)) → a < w * n → b < w * n
    → a % 2 ^ bits_of w ≡ b % 2 ^ bits_of w → a / 2 ^ bits_of w % third_of w ≡ b / 2 ^ bits_of w % third_of w → a / 2 ^ bits_of w % n ≡ b / 2 ^ bits_of w % n → a ≡ b
one_slot w n a b known all a_below b_below low third rest =
    let k : ℕ = 2 ^ bits_of w in
    let some : 0 < k = power (bits_of w) in
    let same : a / k ≡ b / k =
    remainders_tell w (w * n) n known all refl (a / k) (b / k) (quotient_below k (third_of w) n a some (split a a_below)) (quotient_below k (third_of w) n b some (split b b_below)) third rest in
    slot_is k (a / k) (a % k) a refl refl ∙ ap (λ (x : ℕ). k * x + a % k) same ∙ ap (λ (x : ℕ). k * (b / k) + x) low ∙ sym (slot_is k (b / k) (b % k) b refl refl)
  where
    split : (slot : ℕ) → slot < w * n → slot < 2 ^ bits_of w * third_of w * n
    split slot below = subst (λ (x : ℕ). slot < x * n) (sym (ways_are w known)) below

-- a slot's position among the targets
pub position_below : (w : WindowFields) (slot : ℕ) → IsTrue (is_ways w.ways) → target_position w slot < w.ways
position_below w slot known =
    let k : ℕ = 2 ^ bits_of w.ways in
    let t : ℕ = third_of w.ways in
    let some : 0 < k = power (bits_of w.ways) in
    let low = mod-lt slot some in
    let high = mod-lt (slot / k) (some_third w.ways) in
    let sum = digit_below k (slot / k % t) t high (slot % k) low in
    subst (λ (x : ℕ). target_position w slot < x) (ways_are w.ways known) (omega (arith, sum))
