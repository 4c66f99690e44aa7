-- How many bytes of whole turns, and of one chunk, are dealt to a slot.
use Rattle.std.proofs.Common.{◌≡◌, ℕ, zero, suc, ◌+◌, ◌-◌, ◌*◌, ◌/◌, ◌%◌, ◌<◌, ◌≤◌, Bool, count_by, sym, ap, ◌∙◌, arith}
use Rattle.std.specs.Prelude.{◌==◌}
use Rattle.std.specs.List.{range_with_len}
use Rattle.std.proofs.Math.Nat.{mod-lt, mul-le-mul_right}
use Rattle.std.proofs.lemmas.Bool.{eq-eqb, ne_eqb}
use Rattle.std.proofs.lemmas.Nat.{div-add-mod', div-mul-add, mod-mul-add, div_below, le-div, same_from_place}
use Rattle.cxl_num.specs.Interleave.{chunk_size}
use Rattle.cxl_deal.specs.Weaves.{WeaveFields, weave_ways, turns_end, dealt_chunk, dealt_slot, dealt_offset}
use Rattle.cxl_deal.proofs.Ways.{chunk_size-pos}
use Rattle.cxl_range.specs.inner.Woven.{bytes_before}
use Rattle.cxl_range.proofs.Counts.{count_more, count_all, count_none, count_few}

-- what the laws of dealing say of whole turns
pub record TurnLaws (v : WeaveFields) : Type 0 where
  pub below : (h : ℕ) → dealt_slot v h < weave_ways v
  pub slot : (h d : ℕ) → v.base ≤ h → (h - v.base) % chunk_size v.gran + d < chunk_size v.gran → dealt_slot v (h + d) ≡ dealt_slot v h
  pub apart : (h i : ℕ) → v.base ≤ h → v.base ≤ i → dealt_slot v h ≡ dealt_slot v i → dealt_offset v h ≡ dealt_offset v i → h ≡ i
  pub hit : (n slot offset : ℕ) → slot < weave_ways v → offset < n * chunk_size v.gran
      → (h : ℕ) × (v.base ≤ h) × (h < turns_end v n) × (dealt_slot v h ≡ slot) × (dealt_offset v h ≡ offset)

-- n turns of w chunks of g bytes end before o, and n + 1 end behind it
turn_number : (o g w n : ℕ) → 0 < g → 0 < w → n * w * g ≤ o → o < (n + 1) * w * g → o / g / w ≡ n
turn_number o g w n some_bytes some_ways from below =
    let low : n * w ≤ o / g = le-div (n * w) o g some_bytes from in
    let high : o / g < (n + 1) * w = div_below o g ((n + 1) * w) some_bytes below in
    let at_least : n ≤ o / g / w = le-div n (o / g) w some_ways low in
    let at_most : o / g / w < n + 1 = div_below (o / g) w (n + 1) some_ways high in
    omega (arith, at_least, at_most)

-- where a chunk of turn n lies
record InTurn (c w g n : ℕ) : Type 0 where
  from : n * w * g ≤ c * g
  ends : c * g + g ≤ (n + 1) * w * g

in_turn : (c w g n : ℕ) → c / w ≡ n → 0 < w → InTurn c w g n
in_turn c w g n is some =
    let whole : c / w * w + c % w ≡ c = div-add-mod' c w in
    let turn : c / w * w ≡ n * w = ap (λ (x : ℕ). x * w) is in
    let rest : c % w < w = mod-lt c some in
    let next : n * w + w ≡ (n + 1) * w = grind arith in
    let low : n * w ≤ c = omega (arith, whole, turn) in
    let high : c + 1 ≤ (n + 1) * w = omega (arith, whole, turn, rest, next) in
    let one : (c + 1) * g ≡ c * g + g = grind arith in
    let last : (c + 1) * g ≤ (n + 1) * w * g = mul-le-mul_right g high in
    record {
      from = mul-le-mul_right g low;
      ends = omega (arith, one, last);
    }

module _ (v : WeaveFields) (laws : TurnLaws v) (some_ways : 0 < weave_ways v) where
  -- the first byte of the chunk of an address
  head : ℕ → ℕ
  head h = v.base + dealt_chunk v h * chunk_size v.gran

  -- it has the slot of the address, and the offset at which its turn begins
  record IsHead (h : ℕ) : Type 0 where
    along : h ≡ head h + (h - v.base) % chunk_size v.gran
    slot : dealt_slot v h ≡ dealt_slot v (head h)
    offset : dealt_offset v (head h) ≡ dealt_chunk v h / weave_ways v * chunk_size v.gran

  head_is : (h : ℕ) → v.base ≤ h → IsHead h
  unfolding head
  head_is h from =
      let g : ℕ = chunk_size v.gran in
      let c : ℕ = dealt_chunk v h in
      let r : ℕ = (h - v.base) % g in
      let some : 0 < g = chunk_size-pos v.gran in
      let below : r < g = mod-lt (h - v.base) some in
      let whole : c * g + r ≡ h - v.base = div-add-mod' (h - v.base) g in
      let along : h ≡ v.base + c * g + r = omega (arith, whole, from) in
      let o : v.base + c * g - v.base ≡ c * g + 0 = omega arith in
      let rest : (v.base + c * g - v.base) % g ≡ 0 = ap (λ (x : ℕ). x % g) o ∙ mod-mul-add c g 0 some in
      let chunk : (v.base + c * g - v.base) / g ≡ c = ap (λ (x : ℕ). x / g) o ∙ div-mul-add c g 0 some in
      let turn : (v.base + c * g - v.base) / g / weave_ways v * g ≡ c / weave_ways v * g = ap (λ (x : ℕ). x / weave_ways v * g) chunk in
      record {
        along = along;
        slot = ap (dealt_slot v) along ∙ laws.slot (v.base + c * g) r (omega arith) (omega (arith, rest, below));
        offset = omega (arith, turn, rest);
      }

  -- where the chunk of a slot in turn n begins
  record IsChunkOf (n slot first : ℕ) : Type 0 where
    from : turns_end v n ≤ first
    ends : first + chunk_size v.gran ≤ turns_end v (n + 1)
    own : (i : ℕ) → first ≤ i → i < first + chunk_size v.gran → dealt_slot v i ≡ slot
    only : (i : ℕ) → turns_end v n ≤ i → i < turns_end v (n + 1) → dealt_slot v i ≡ slot → (first ≤ i) × (i < first + chunk_size v.gran)

  chunk_of : (n slot : ℕ) → slot < weave_ways v → (first : ℕ) × IsChunkOf n slot first
  unfolding head
  chunk_of n slot below =
      let g : ℕ = chunk_size v.gran in
      let some : 0 < g = chunk_size-pos v.gran in
      let next : n * g + g ≡ (n + 1) * g = grind arith in
      let at = laws.hit (n + 1) slot (n * g) below (omega (arith, next, some)) in
      let h : ℕ = at.0 in
      let r : ℕ = (h - v.base) % g in
      let c : ℕ = dealt_chunk v h in
      let rest : r < g = mod-lt (h - v.base) some in
      let zero_more : n * g ≡ n * g + 0 = omega arith in
      let place = same_from_place (c / weave_ways v) r n 0 g rest some (at.4 ∙ zero_more) in
      let is = head_is h at.1 in
      let begins : h ≡ v.base + c * g = omega (arith, is.along, place.1) in
      let turn = in_turn c (weave_ways v) g n place.0 some_ways in (
        h,
        record {
          from = omega (arith, begins, turn.from);
          ends = omega (arith, begins, turn.ends);
          own = λ i from to.
              let d : ℕ = i - h in
              let along : i ≡ h + d = omega (arith, from) in
              ap (dealt_slot v) along ∙ laws.slot h d at.1 (omega (arith, place.1, from, to)) ∙ at.3;
          only = λ i from to same.
              let start : v.base ≤ i = omega (arith, from) in
              let own = head_is i start in
              let number : dealt_chunk v i / weave_ways v ≡ n = turn_number (i - v.base) g (weave_ways v) n some some_ways (omega (arith, from)) (omega (arith, to, start)) in
              let one : head i ≡ h = laws.apart (head i) h (omega arith) at.1 (sym own.slot ∙ same ∙ sym at.3) (own.offset ∙ ap (λ (x : ℕ). x * g) number ∙ sym at.4) in
              let rest : (i - v.base) % g < g = mod-lt (i - v.base) some in
              (omega (arith, own.along, one), omega (arith, own.along, one, rest));
        },
      )

  count_turn : (n slot : ℕ) → slot < weave_ways v → count_by (λ (i : ℕ). dealt_slot v i == slot) (range_with_len (turns_end v n) (weave_ways v * chunk_size v.gran)) ≡ chunk_size v.gran
  count_turn n slot below =
      let g : ℕ = chunk_size v.gran in
      let p : ℕ → Bool = λ i. dealt_slot v i == slot in
      let at = chunk_of n slot below in
      let first : ℕ = at.0 in
      let is = at.1 in
      let turn : ℕ = turns_end v n in
      let a : ℕ = first - turn in
      let b : ℕ = turns_end v (n + 1) - (first + g) in
      let more : turns_end v (n + 1) ≡ turn + weave_ways v * g = grind arith in
      let from = is.from in
      let ends = is.ends in
      let parts : weave_ways v * g ≡ a + (g + b) = omega (arith, more, from, ends) in
      let here : turn + a ≡ first = omega (arith, from) in
      let before : count_by p (range_with_len turn a) ≡ 0 =
      count_none p turn a (λ k low high. ne_eqb (dealt_slot v k) slot (λ same. absurd (omega (arith, (is.only k low (omega (arith, here, high, ends)) same).0, here, high)))) in
      let own : count_by p (range_with_len first g) ≡ g = count_all p first g (λ k low high. eq-eqb (dealt_slot v k) slot (is.own k low high)) in
      let after : count_by p (range_with_len (first + g) b) ≡ 0 =
      count_none p (first + g) b (λ k low high. ne_eqb (dealt_slot v k) slot (λ same. absurd (omega (arith, (is.only k (omega (arith, from, low)) (omega (arith, high, ends)) same).1, low)))) in
      ap (λ (m : ℕ). count_by p (range_with_len turn m)) parts ∙ count_more p turn a (g + b)
      ∙ ap (λ (x : ℕ). count_by p (range_with_len turn a) + count_by p (range_with_len x (g + b))) here
      ∙ ap (λ (x : ℕ). count_by p (range_with_len turn a) + x) (count_more p first g b)
      ∙ omega (arith, before, own, after)

  -- n whole turns deal n chunks to each slot
  pub count_turns : (n slot : ℕ) → slot < weave_ways v → bytes_before v (turns_end v n) slot ≡ n * chunk_size v.gran
  count_turns zero slot below =
      let p : ℕ → Bool = λ i. dealt_slot v i == slot in
      let none : turns_end v 0 - v.base ≡ 0 = omega arith in
      ap (λ (m : ℕ). count_by p (range_with_len v.base m)) none ∙ omega arith
  count_turns (suc n) slot below =
      let g : ℕ = chunk_size v.gran in
      let p : ℕ → Bool = λ i. dealt_slot v i == slot in
      let whole : turns_end v (suc n) - v.base ≡ n * weave_ways v * g + weave_ways v * g = one_more v.base (weave_ways v) g n in
      let so_far : turns_end v n - v.base ≡ n * weave_ways v * g = omega arith in
      let early : count_by p (range_with_len v.base (n * weave_ways v * g)) ≡ n * g = ap (λ (m : ℕ). count_by p (range_with_len v.base m)) (sym so_far) ∙ count_turns n slot below in
      let next : suc n * g ≡ n * g + g = grind arith in
      ap (λ (m : ℕ). count_by p (range_with_len v.base m)) whole ∙ count_more p v.base (n * weave_ways v * g) (weave_ways v * g)
      ∙ omega (arith, early, count_turn n slot below, next)
    where
      one_more : (base w g n : ℕ) → base + suc n * w * g - base ≡ n * w * g + w * g
      one_more base w g n = let same : suc n * w * g ≡ n * w * g + w * g = grind arith in omega (arith, same)

-- ---- up to an address

module _ (v : WeaveFields) where
  -- no byte is dealt to a slot from the ways on
  pub none_past : ((h : ℕ) → dealt_slot v h < weave_ways v) → (h len slot : ℕ) → weave_ways v ≤ slot → count_by (λ (i : ℕ). dealt_slot v i == slot) (range_with_len h len) ≡ 0
  none_past below h len slot past =
      count_none (λ (i : ℕ). dealt_slot v i == slot) h len (λ k low high. ne_eqb (dealt_slot v k) slot (λ same. absurd (omega (arith, below k, same, past))))

  pub before_few : (end slot : ℕ) → bytes_before v end slot ≤ end - v.base
  before_few end slot = count_few (λ (i : ℕ). dealt_slot v i == slot) v.base (end - v.base)

  -- the bytes up to one address and those from there on
  pub bytes_more : (h len slot : ℕ) → v.base ≤ h → bytes_before v (h + len) slot ≡ bytes_before v h slot + count_by (λ (i : ℕ). dealt_slot v i == slot) (range_with_len h len)
  bytes_more h len slot from =
      let p : ℕ → Bool = λ i. dealt_slot v i == slot in
      let parts : h + len - v.base ≡ (h - v.base) + len = omega (arith, from) in
      let here : v.base + (h - v.base) ≡ h = omega (arith, from) in
      ap (λ (m : ℕ). count_by p (range_with_len v.base m)) parts ∙ count_more p v.base (h - v.base) len
      ∙ ap (λ (x : ℕ). count_by p (range_with_len v.base (h - v.base)) + count_by p (range_with_len x len)) here

  module _ (whole : (h d : ℕ) → v.base ≤ h → (h - v.base) % chunk_size v.gran + d < chunk_size v.gran → dealt_slot v (h + d) ≡ dealt_slot v h) (h len : ℕ) (from : v.base ≤ h) (fits : (h - v.base) % chunk_size v.gran + len ≤ chunk_size v.gran) where
    one_slot : (k : ℕ) → h ≤ k → k < h + len → dealt_slot v k ≡ dealt_slot v h
    one_slot k low high =
        let d : ℕ = k - h in
        let along : k ≡ h + d = omega (arith, low) in
        ap (dealt_slot v) along ∙ whole h d from (omega (arith, fits, low, high))

    -- bytes of one chunk are dealt to its slot
    pub chunk_own : bytes_before v (h + len) (dealt_slot v h) ≡ bytes_before v h (dealt_slot v h) + len
    chunk_own = bytes_more h len (dealt_slot v h) from
        ∙ ap (λ (x : ℕ). bytes_before v h (dealt_slot v h) + x) (count_all (λ (i : ℕ). dealt_slot v i == dealt_slot v h) h len (λ k low high. eq-eqb (dealt_slot v k) (dealt_slot v h) (one_slot k low high)))

    -- and to no other
    pub chunk_other : (slot : ℕ) → (dealt_slot v h ≡ slot → ⊥) → bytes_before v (h + len) slot ≡ bytes_before v h slot
    chunk_other slot other = bytes_more h len slot from
        ∙ ap (λ (x : ℕ). bytes_before v h slot + x) (count_none (λ (i : ℕ). dealt_slot v i == slot) h len (λ k low high. ne_eqb (dealt_slot v k) slot (λ same. other (sym (one_slot k low high) ∙ same))))
        ∙ omega arith
