-- The extents of a range: each is carried, and they follow each other.
use Rattle.std.proofs.Common.{◌≡◌, ℕ, zero, suc, ◌+◌, ◌-◌, ◌*◌, ◌/◌, ◌%◌, ◌<◌, ◌≤◌, Bool, cond, List, [], ◌∷◌, ◌++◌, length, map, min, max, refl, sym, ap, subst, ◌∙◌, arith}
use Rattle.std.specs.Prelude.{sum_by, All, ◌==◌}
use Rattle.std.specs.List.{range_with_len}
use Rattle.std.proofs.Math.Nat.{div-mul-le_self, lt-div-mul-add}
use Rattle.std.proofs.lemmas.Bool.{cond_both, eqb-true, eq-eqb, ne_eqb}
use Rattle.std.proofs.lemmas.Nat.{div-add-mod', le-div}
use Rattle.std.proofs.lemmas.List.Sums.{sum_by-cons}
use Rattle.std.proofs.lemmas.List.FromFn.{get_or-map-range_with_len, length-map-range_with_len, map-range_with_len_more}
use Rattle.cxl_enc.proofs.Lists.{All-one}
use Rattle.cxl_num.specs.Interleave.{chunk_size}
use Rattle.cxl_window.specs.Fields.{WindowFields}
use Rattle.cxl_deal.specs.Weaves.{WeaveFields, weave_ways, dealt_slot, dealt_offset}
use Rattle.cxl_deal.proofs.Ways.{chunk_size-pos}
use Rattle.cxl_model.specs.declared.extent.Extent.{Extent}
use Rattle.cxl_model.specs.declared.found.Found.{Found}
use Rattle.cxl_model.specs.Regions.{weave_fields}
use Rattle.cxl_range.specs.Extents.{extent_at, chunk_start, chunk_extent, touched_chunks, extents_of}
use Rattle.cxl_range.specs.Carried.{IsCarried, Follow}
use Rattle.cxl_range.specs.inner.Woven.{IsWoven}
use Rattle.cxl_range.proofs.Chunks.{TouchedAt, touched_at, within_chunk}
use Rattle.cxl_range.proofs.Places.{AreTogether, carried}

-- the lengths of extents that follow each other add up to the distance of their ends
pub lengths_sum : (from end : ℕ) (extents : List Extent) → Follow from end extents → from + sum_by (λ (e : Extent). e.len) extents ≡ end
lengths_sum from end [] is = omega (arith, is)
lengths_sum from end (e ∷ extents) is =
    let first : e.h ≡ from = is.0 in
    let rest = lengths_sum (e.h + e.len) end extents is.2 in
    let all = sum_by-cons (λ (x : Extent). x.len) e extents in
    omega (arith, first, rest, all)

-- what the laws of dealing say of each chunk
pub record ChunkLaws (v : WeaveFields) : Type 0 where
  pub below : (h : ℕ) → dealt_slot v h < weave_ways v
  pub slot : (h d : ℕ) → v.base ≤ h → (h - v.base) % chunk_size v.gran + d < chunk_size v.gran → dealt_slot v (h + d) ≡ dealt_slot v h
  pub offset : (h d : ℕ) → v.base ≤ h → (h - v.base) % chunk_size v.gran + d < chunk_size v.gran → dealt_offset v (h + d) ≡ dealt_offset v h + d

-- ---- one way

by_one : (o g w : ℕ) → w ≡ 1 → o / g / w * g + o % g ≡ o
by_one o g w is =
    let one : o / g / 1 ≡ o / g = omega arith in
    ap (λ (j : ℕ). o / g / j * g + o % g) is ∙ ap (λ (j : ℕ). j * g + o % g) one ∙ div-add-mod' o g

pub one_way : (v : WeaveFields) → ChunkLaws v → weave_ways v ≡ 1 → (h len : ℕ) → v.base ≤ h → AreTogether v h len
one_way v laws one h len from =
    let g : ℕ = chunk_size v.gran in
    record {
      slot = λ i below. omega (arith, laws.below (h + i), laws.below h, one);
      offset = λ i below. omega (arith, by_one (h + i - v.base) g (weave_ways v) one, by_one (h - v.base) g (weave_ways v) one, from);
    }

-- ---- chunk by chunk

module _ (found : Found) (w : WindowFields) (h len : ℕ) where
  abbrev Touched : ℕ → Type 0
  Touched c = TouchedAt found.base (chunk_size found.gran) h (h + len) c

  -- what a chunk has of the range
  record HasBytes (c : ℕ) : Type 0 where
    some : max h (chunk_start found c) < min (h + len) (chunk_start found (c + 1))
    start : found.base + c * chunk_size found.gran ≤ max h (chunk_start found c)
    next : min (h + len) (chunk_start found (c + 1)) ≤ found.base + (c + 1) * chunk_size found.gran

  has_bytes : (c : ℕ) → 0 < len → Touched c → HasBytes c
  has_bytes c any touched =
      let begins = touched.begins in
      let past = touched.past in
      let one = touched.one in
      let g = chunk_size-pos found.gran in
      record {
        some = omega (arith, any, begins, past, one, g);
        start = omega arith;
        next = omega arith;
      }

  -- the extents of n + 1 chunks that follow each other, the last of which has the last byte
  follow_from : (c n : ℕ) → 0 < len → ((k : ℕ) → c ≤ k → k ≤ c + n → Touched k) → h + len ≤ chunk_start found (c + n + 1)
      → Follow (max h (chunk_start found c)) (h + len) (map (chunk_extent found w h len) (range_with_len c (suc n)))
  follow_from c zero any each ends =
      let has = has_bytes c any (each c (omega arith) (omega arith)) in
      let some = has.some in
      (refl, omega (arith, some), omega (arith, some, ends))
  follow_from c (suc n) any each ends =
      let own = each c (omega arith) (omega arith) in
      let has = has_bytes c any own in
      let some = has.some in
      let later = each (c + 1) (omega arith) (omega arith) in
      let begins = later.begins in
      let past = own.past in
      let from : max h (chunk_start found (c + 1)) ≡ max h (chunk_start found c) + (min (h + len) (chunk_start found (c + 1)) - max h (chunk_start found c)) = omega (arith, some, begins, past) in
      let end : h + len ≤ chunk_start found (c + 1 + n + 1) = omega (arith, ends) in (
        refl,
        omega (arith, some),
        subst (λ (x : ℕ). Follow x (h + len) (map (chunk_extent found w h len) (range_with_len (c + 1) (suc n)))) from
            (follow_from (c + 1) n any (λ k low high. each k (omega arith) (omega arith)) end),
      )

  module _ (woven : IsWoven found (weave_fields found w)) (laws : ChunkLaws (weave_fields found w)) (any : 0 < len) (base : found.base ≤ h) (ends : h + len ≤ found.base + found.size) where
    on_some_slot : (x : ℕ) → dealt_slot (weave_fields found w) x < length found.spans
    on_some_slot x = omega (arith, laws.below x, woven.ways, woven.slots)

    chunk_carried : (c : ℕ) → Touched c → IsCarried found w (chunk_extent found w h len c)
    chunk_carried c touched =
        let has = has_bytes c any touched in
        let some = has.some in
        let start = has.start in
        let next = has.next in
        let x : ℕ = max h (chunk_start found c) in
        let n : ℕ = min (h + len) (chunk_start found (c + 1)) - x in
        let within = within_chunk found.base (chunk_size found.gran) c x n (chunk_size-pos found.gran) start (omega (arith, some, next)) (omega (arith, some)) in
        carried found w x n
        (
        record {
          slot = λ i below. laws.slot x i (omega (arith, start)) (omega (arith, within, below));
          offset = λ i below. laws.offset x i (omega (arith, start)) (omega (arith, within, below));
        }
        )
        (on_some_slot x) (omega (arith, start)) (omega (arith, some, ends))

    chunks_told : All (IsCarried found w) (map (chunk_extent found w h len) (touched_chunks found w h len)) × Follow h (h + len) (map (chunk_extent found w h len) (touched_chunks found w h len))
    chunks_told =
        let g : ℕ = chunk_size found.gran in
        let some : 0 < g = chunk_size-pos found.gran in
        let first : ℕ = (h - found.base) / g in
        let last : ℕ = (h + len - 1 - found.base) / g in
        let low = div-mul-le_self (h - found.base) g in
        let high = lt-div-mul-add {a = h + len - 1 - found.base} {b = g} some in
        let up : first ≤ last = le-div first (h + len - 1 - found.base) g some (omega (arith, low, base, any)) in
        let touched : (k : ℕ) → first ≤ k → k ≤ last → Touched k = λ k from to. touched_at found.base g h (h + len) k some base (omega (arith, any)) from to in
        let f : ℕ → Extent = chunk_extent found w h len in
        let count : last + 1 - first ≡ suc (last - first) = omega (arith, up) in
        let one : last * g + g ≡ (first + (last - first) + 1) * g = last_end last first g up in
        let begin : max h (chunk_start found first) ≡ h = omega (arith, low, base) in
        let end : h + len ≤ chunk_start found (first + (last - first) + 1) = omega (arith, high, one, base, any) in (
          λ k d below.
              let inside : k < last + 1 - first = omega (arith, below, length-map-range_with_len f first (last + 1 - first)) in
              subst (IsCarried found w) (sym (get_or-map-range_with_len f first (last + 1 - first) k (first + k) d inside refl)) (chunk_carried (first + k) (touched (first + k) (omega arith) (omega (arith, inside)))),
          subst (λ (n : ℕ). Follow h (h + len) (map f (range_with_len first n))) (sym count)
              (subst (λ (x : ℕ). Follow x (h + len) (map f (range_with_len first (suc (last - first))))) begin
              (follow_from first (last - first) any (λ k from to. touched k from (omega (arith, to, up))) end)),
        )
      where
        last_end : (last first g : ℕ) → first ≤ last → last * g + g ≡ (first + (last - first) + 1) * g
        last_end last first g up =
            let same : first + (last - first) ≡ last = omega (arith, up) in
            let one : last * g + g ≡ (last + 1) * g = grind arith in
            one ∙ ap (λ (x : ℕ). (x + 1) * g) (sym same)

    pub told : All (IsCarried found w) (extents_of found w h len) × Follow h (h + len) (extents_of found w h len)
    told = cond_both (found.ways == 1) (extent_at found w h len ∷ []) (map (chunk_extent found w h len) (touched_chunks found w h len))
        (λ (xs : List Extent). All (IsCarried found w) xs × Follow h (h + len) xs)
        (λ is.
        let one : weave_ways (weave_fields found w) ≡ 1 = woven.ways ∙ eqb-true found.ways 1 is in
        (All-one (IsCarried found w) (extent_at found w h len) (carried found w h len (one_way (weave_fields found w) laws one h len base) (on_some_slot h) base ends), (refl, any, refl)))
        (λ _. chunks_told)

    pub lengths : sum_by (λ (e : Extent). e.len) (extents_of found w h len) ≡ len
    lengths = omega (arith, lengths_sum h (h + len) (extents_of found w h len) told.1)

-- ---- how the code goes

-- in a region of one way, the one extent
pub one_extent : (found : Found) (w : WindowFields) (h len : ℕ) (before after : List Extent) (e : Extent) → found.ways ≡ 1 → before ≡ [] → after ≡ before ++ e ∷ [] → e ≡ extent_at found w h len → after ≡ extents_of found w h len
one_extent found w h len before after e ways none added own =
    added ∙ ap (λ (xs : List Extent). xs ++ e ∷ []) none ∙ ap (λ (x : Extent). x ∷ []) own
    ∙ sym (ap (λ (b : Bool). cond b (extent_at found w h len ∷ []) (map (chunk_extent found w h len) (touched_chunks found w h len))) (eq-eqb found.ways 1 ways))

module _ (found : Found) (w : WindowFields) (h len size : ℕ) (is : size ≡ chunk_size found.gran) where
  -- one chunk more
  pub more_chunks : (before after : List Extent) (e : Extent) (chunk : ℕ) → (h - found.base) / size ≤ chunk → before ≡ map (chunk_extent found w h len) (range_with_len ((h - found.base) / size) (chunk - (h - found.base) / size))
      → after ≡ before ++ e ∷ [] → e ≡ chunk_extent found w h len chunk
      → after ≡ map (chunk_extent found w h len) (range_with_len ((h - found.base) / size) (chunk + 1 - (h - found.base) / size))
  more_chunks before after e chunk from so_far added own =
      let first : ℕ = (h - found.base) / size in
      let f : ℕ → Extent = chunk_extent found w h len in
      let at : first + (chunk - first) ≡ chunk = omega (arith, from) in
      let count : (chunk - first) + 1 ≡ chunk + 1 - first = omega (arith, from) in
      added ∙ ap (λ (xs : List Extent). xs ++ e ∷ []) so_far ∙ ap (λ (x : Extent). map f (range_with_len first (chunk - first)) ++ x ∷ []) own
      ∙ sym (map-range_with_len_more f first (chunk - first) chunk at) ∙ ap (λ (n : ℕ). map f (range_with_len first n)) count

  -- the last chunk's number, as the code has it
  pub chunks_rise : (last : ℕ) → 0 < len → found.base ≤ h → last ≡ (h + len - 1 - found.base) / size → (h - found.base) / size ≤ last
  chunks_rise last any from last_is =
      let some : 0 < size = subst (λ (x : ℕ). 0 < x) (sym is) (chunk_size-pos found.gran) in
      let low = div-mul-le_self (h - found.base) size in
      omega (arith, last_is, le-div ((h - found.base) / size) (h + len - 1 - found.base) size some (omega (arith, low, from, any)))

  -- all of them
  pub all_chunks : (extents : List Extent) (chunk last : ℕ) → (found.ways ≡ 1 → ⊥) → last ≡ (h + len - 1 - found.base) / size → chunk ≡ last + 1
      → extents ≡ map (chunk_extent found w h len) (range_with_len ((h - found.base) / size) (chunk - (h - found.base) / size)) → extents ≡ extents_of found w h len
  all_chunks extents chunk last more last_is end so_far =
      let f : ℕ → Extent = chunk_extent found w h len in
      so_far ∙ ap (λ (n : ℕ). map f (range_with_len ((h - found.base) / size) (n - (h - found.base) / size))) (end ∙ ap (λ (l : ℕ). l + 1) last_is)
      ∙ ap (λ (s : ℕ). map f (range_with_len ((h - found.base) / s) ((h + len - 1 - found.base) / s + 1 - (h - found.base) / s))) is
      ∙ sym (ap (λ (b : Bool). cond b (extent_at found w h len ∷ []) (map f (touched_chunks found w h len))) (ne_eqb found.ways 1 more))
