-- The cuts of a span are the bytes that a record touches, and each byte of a run is carried.
use Rattle.std.proofs.Common.{◌≡◌, ℕ, zero, suc, ◌+◌, ◌-◌, ◌*◌, ◌/◌, ◌%◌, ◌<◌, ◌≤◌, Bool, cond, ◌∷◌, length, get_or, Option, Some, None, max, min, refl, sym, ap, subst, ◌∙◌, inl, inr, arith}
use Rattle.std.specs.Prelude.{slice_get, Contains, ◌==◌}
use Rattle.std.specs.List.{range_with_len, filter_map, cons_option}
use Rattle.std.proofs.Math.Nat.{div-one, div-eq_of_eq-mul_left, one-mul, div-mul-le_self, lt-div-mul-add, div-lt_iff_lt-mul, mod-lt}
use Rattle.std.proofs.lemmas.Nat.{div-mul-add, div-add-mod'}
use Rattle.std.proofs.lemmas.Bool.{cases_Bool, cases_lt, cases_eq, lt-ltb, le-ltb, eqb-true}
use Rattle.std.proofs.lemmas.Option.{none-some, same_Some}
use Rattle.cxl_enc.proofs.Options.{some_and}
use Rattle.cxl_num.specs.Interleave.{chunk_size}
use Rattle.cxl_window.specs.Fields.{WindowFields}
use Rattle.cxl_deal.specs.Weaves.{weave_ways, turns_end, dealt_slot, dealt_offset}
use Rattle.cxl_model.specs.declared.found.Found.{Found}
use Rattle.cxl_model.specs.declared.found.Place.{Place}
use Rattle.cxl_model.specs.declared.poison.Entry.{Entry}
use Rattle.cxl_model.specs.declared.poison.Run.{Run}
use Rattle.cxl_model.specs.Regions.{weave_fields, Carries}
use Rattle.cxl_poison.specs.declared.live.LiveSpan.{LiveSpan}
use Rattle.cxl_poison.specs.Live.{IsSpanOf}
use Rattle.cxl_poison.specs.Pieces.{touched_from, touched_end, Cut, cut_at, cuts_between, stretch_size, cuts_of, IsRunOf}
use Rattle.cxl_poison.proofs.Filled.{Filled, some_chunk, some_length, chunks_whole, carried}

-- ---- lists of numbers

abbrev Given : {X : Type 0} → (ℕ → Option X) → X → ℕ → Type 0
Given f x end = (k : ℕ) × (k < end) × (f k ≡ Some x)

first_or_later : {X : Type 0} (f : ℕ → Option X) (a n : ℕ) (x y : X) → (Contains (filter_map f (range_with_len (a + 1) n)) x → Given f x ((a + 1) + n)) → f a ≡ Some y
    → (k : ℕ) → k < suc (length (filter_map f (range_with_len (a + 1) n))) → get_or (y ∷ filter_map f (range_with_len (a + 1) n)) k x ≡ x → Given f x (a + suc n)
first_or_later {X} f a n x y later is zero within here = (a, omega arith, is ∙ ap (λ (z : X). Some z) here)
first_or_later f a n x y later is (suc k) within here = let found = later (k, omega arith, here) in (found.0, (let below = found.1 in omega arith), found.2)

number_given : {X : Type 0} (f : ℕ → Option X) (a n : ℕ) (x : X) → (Contains (filter_map f (range_with_len (a + 1) n)) x → Given f x ((a + 1) + n)) → (o : Option X) → f a ≡ o
    → Contains (cons_option o (filter_map f (range_with_len (a + 1) n))) x → Given f x (a + suc n)
number_given f a n x later None is at = let found = later at in (found.0, (let below = found.1 in omega arith), found.2)
number_given f a n x later (Some y) is at = first_or_later f a n x y later is at.0 at.1 at.2

-- an item of what a function gives of numbers is given of one of them
from_number : {X : Type 0} (f : ℕ → Option X) (a n : ℕ) (x : X) → Contains (filter_map f (range_with_len a n)) x → Given f x (a + n)
from_number f a zero x at = absurd (let within = at.1 in omega arith)
from_number f a (suc n) x at = number_given f a n x (from_number f (a + 1) n x) (f a) refl at

-- and each is there
of_number : {X : Type 0} (f : ℕ → Option X) (a n k : ℕ) (x : X) → a ≤ k → k < a + n → f k ≡ Some x → Contains (filter_map f (range_with_len a n)) x
of_number f a zero k x from below is = absurd (omega arith)
of_number {X} f a (suc n) k x from below is = elim (cases_eq k a) [
  | inl here ↦
      let own : f a ≡ Some x = ap f (sym here) ∙ is in
      rw own (0, omega arith, refl)
  | inr other ↦
      let rest = of_number f (a + 1) n k x (omega (arith, from, other)) (omega (arith, below)) is in
      behind (f a) refl rest
]
  where
    behind : (o : Option X) → f a ≡ o → Contains (filter_map f (range_with_len (a + 1) n)) x → Contains (filter_map f (range_with_len a (suc n))) x
    behind None is there = rw is there
    behind (Some y) is there = rw is (let within = there.1 in (suc there.0, omega arith, there.2))

-- ---- one cut

pub record IsCutAt (from end size n : ℕ) (cut : Cut) : Type 0 where
  pub start : cut.from ≡ max from (n * size)
  pub some : cut.from < min end ((n + 1) * size)
  pub len : cut.from + cut.len ≡ min end ((n + 1) * size)

cut_is : (from end size n : ℕ) (cut : Cut) → cut_at from end size n ≡ Some cut → IsCutAt from end size n cut
cut_is from end size n cut is = elim (cases_lt (max from (n * size)) (min end ((n + 1) * size))) [
  | inl less ↦
      let same : record { from = max from (n * size); len = min end ((n + 1) * size) - max from (n * size) } ≡ cut = same_Some _ cut (rw (lt-ltb (max from (n * size)) (min end ((n + 1) * size)) less) at is) in
      let starts = ap (λ (c : Cut). c.from) same in
      let lens = ap (λ (c : Cut). c.len) same in
      record { start = sym starts; some = omega (arith, starts, less); len = omega (arith, starts, lens, less) }
  | inr past ↦ absurd (none-some cut (rw (le-ltb (max from (n * size)) (min end ((n + 1) * size)) past) at is))
]

-- ---- the cuts of a span

cut_found : (from end size len : ℕ) (cut : Cut) → Contains (cuts_between from end size len) cut → (n : ℕ) × IsCutAt from end size n cut
cut_found from end size len cut at = let found = from_number (cut_at from end size) 0 (len / size) cut at in (found.0, cut_is from end size found.0 cut found.2)

-- a cut has some bytes, all of them touched
pub cut_touched : (from end size len : ℕ) (cut : Cut) → Contains (cuts_between from end size len) cut → (from ≤ cut.from) × (0 < cut.len) × (cut.from + cut.len ≤ end)
cut_touched from end size len cut at =
    let found = cut_found from end size len cut at in
    let start = found.1.start in
    let some = found.1.some in
    let all = found.1.len in
    (omega (arith, start), omega (arith, some, all), omega (arith, all))

-- and each touched byte lies in one
pub each_cut : (from end size len offset : ℕ) → 0 < size → len / size * size ≡ len → end ≤ len → from ≤ offset → offset < end → (cut : Cut) × Contains (cuts_between from end size len) cut × (cut.from ≤ offset) × (offset < cut.from + cut.len)
each_cut from end size len offset some whole ends at below =
    let n : ℕ = offset / size in
    let low = div-mul-le_self offset size in
    let past = lt-div-mul-add {a = offset} {b = size} some in
    let one : n * size + size ≡ (n + 1) * size = grind arith in
    let few : n < len / size = (div-lt_iff_lt-mul {k = size} {x = offset} {y = len / size} some).1 (omega (arith, below, ends, whole)) in
    let a : ℕ = max from (n * size) in
    let b : ℕ = min end ((n + 1) * size) in
    let less : a < b = omega (arith, low, past, one, at, below) in
    let cut : Cut = record { from = a; len = b - a } in
    let is : cut_at from end size n ≡ Some cut = rw (lt-ltb a b less) refl in
    (cut, of_number (cut_at from end size) 0 (len / size) n cut (omega arith) (omega (arith, few)) is, omega (arith, low, at), omega (arith, low, past, one, at, below))

-- ---- the host bytes of a run

-- what the laws of dealing say of a region
pub record Dealt (found : Found) (w : WindowFields) : Type 0 where
  pub filled : Filled found w
  pub within : (n h : ℕ) → found.base ≤ h → dealt_offset (weave_fields found w) h < n * chunk_size found.gran → h < turns_end (weave_fields found w) n
  pub below : (h : ℕ) → dealt_slot (weave_fields found w) h < weave_ways (weave_fields found w)
  pub slot : (h d : ℕ) → found.base ≤ h → (h - found.base) % chunk_size found.gran + d < chunk_size found.gran → dealt_slot (weave_fields found w) (h + d) ≡ dealt_slot (weave_fields found w) h
  pub offset : (h d : ℕ) → found.base ≤ h → (h - found.base) % chunk_size found.gran + d < chunk_size found.gran → dealt_offset (weave_fields found w) (h + d) ≡ dealt_offset (weave_fields found w) h + d
  pub apart : (a b : ℕ) (p q : Place) → slice_get found.spans a ≡ Some p → slice_get found.spans b ≡ Some q → p.endpoint ≡ q.endpoint → a ≡ b

-- the byte of a slot to which a host byte is carried
record DealtTo (found : Found) (w : WindowFields) (span : LiveSpan) (h offset : ℕ) : Type 0 where
  slot : dealt_slot (weave_fields found w) h ≡ span.slot
  at : dealt_offset (weave_fields found w) h ≡ offset

-- two numbers that have the same chunk and rest
same_rest : (q n g r t : ℕ) → q * g + r ≡ n * g + t → r < g → t < g → r ≡ t
same_rest q n g r t is r_less t_less =
    let same : q ≡ n = sym (div-mul-add q g r r_less) ∙ ap (λ (x : ℕ). x / g) is ∙ div-mul-add n g t t_less in
    let chunks : q * g ≡ n * g = ap (λ (x : ℕ). x * g) same in
    omega (arith, is, chunks)

module _ (found : Found) (w : WindowFields) (dealt : Dealt found w) (endpoint : ℕ) (span : LiveSpan) (is : IsSpanOf found endpoint span) where
  dealt_to : (h offset : ℕ) → Carries found w h endpoint (span.start + offset) → DealtTo found w span h offset
  dealt_to h offset carries =
      let place : Place = record { endpoint = endpoint; start = span.start } in
      let there = some_and (slice_get found.spans (dealt_slot (weave_fields found w) h)) (λ p. (p.endpoint ≡ endpoint) × (p.start + dealt_offset (weave_fields found w) h ≡ span.start + offset)) carries.place in
      let slot = dealt.apart (dealt_slot (weave_fields found w) h) span.slot there.0 place there.1 is.place there.2.0 in
      let same : there.0 ≡ place = same_Some there.0 place (sym there.1 ∙ ap (slice_get found.spans) slot ∙ is.place) in
      let start : there.0.start ≡ span.start = ap (λ (p : Place). p.start) same in
      let byte = there.2.1 in
      record { slot = slot; at = omega (arith, start, byte) }

  -- at one way host bytes and device bytes follow each other without end
  in_one_way : found.ways ≡ 1 → (h k offset : ℕ) → found.base ≤ h → DealtTo found w span h offset → DealtTo found w span (h + k) (offset + k)
  in_one_way one h k offset from to =
      let ways : weave_ways (weave_fields found w) ≡ 1 = dealt.filled.ways ∙ one in
      let here = dealt.below h in
      let there = dealt.below (h + k) in
      let slots : dealt_slot (weave_fields found w) (h + k) ≡ dealt_slot (weave_fields found w) h = omega (arith, ways, here, there) in
      let first = along h ways in
      let second = along (h + k) ways in
      let at = to.at in
      record { slot = slots ∙ to.slot; at = omega (arith, first, second, at, from) }
    where
      along : (x : ℕ) → weave_ways (weave_fields found w) ≡ 1 → dealt_offset (weave_fields found w) x ≡ x - found.base
      along x ways =
          let g : ℕ = chunk_size found.gran in
          let o : ℕ = x - found.base in
          ap (λ (m : ℕ). o / g / m * g + o % g) ways ∙ ap (λ (m : ℕ). m * g + o % g) (div-one (o / g)) ∙ div-add-mod' o g

  -- and at more within a chunk
  in_chunk : (n h k offset : ℕ) → found.base ≤ h → n * chunk_size found.gran ≤ offset → offset + k < (n + 1) * chunk_size found.gran → DealtTo found w span h offset → DealtTo found w span (h + k) (offset + k)
  in_chunk n h k offset from low high to =
      let g : ℕ = chunk_size found.gran in
      let q : ℕ = (h - found.base) / g / weave_ways (weave_fields found w) in
      let r : ℕ = (h - found.base) % g in
      let t : ℕ = offset - n * g in
      let one : n * g + g ≡ (n + 1) * g = grind arith in
      let some = some_chunk found w dealt.filled in
      let r_less : r < g = mod-lt (h - found.base) some in
      let at : q * g + r ≡ offset = to.at in
      let rest : r ≡ t = same_rest q n g r t (omega (arith, at, low)) r_less (omega (arith, high, one, low)) in
      let fits : r + k < g = omega (arith, rest, high, one, low) in
      record { slot = dealt.slot h k from fits ∙ to.slot; at = dealt.offset h k from fits ∙ ap (λ (x : ℕ). x + k) to.at }

  pub run_carried : (entry : Entry) (cut : Cut) (run : Run) (k : ℕ) → Contains (cuts_of entry found span) cut → IsRunOf found w endpoint span cut run → k < run.len → Carries found w (run.h + k) endpoint (span.start + (cut.from + k))
  run_carried entry cut run k at first below =
      let from : ℕ = touched_from entry span in
      let end : ℕ = touched_end entry span in
      let touched = cut_touched from end (stretch_size found span) span.len cut at in
      let within = touched.2 in
      let low = first.first.from in
      let len = first.len in
      let span_len = is.len in
      let to = dealt_to run.h cut.from first.first in
      let next : DealtTo found w span (run.h + k) (cut.from + k) =
      elim (cases_Bool (found.ways == 1)) [
        | inl one ↦ in_one_way (eqb-true found.ways 1 one) run.h k cut.from low to
        | inr more ↦
            let size : stretch_size found span ≡ chunk_size found.gran = ap (λ (b : Bool). cond b span.len (chunk_size found.gran)) more in
            let here = cut_found from end (chunk_size found.gran) span.len cut (subst (λ (n : ℕ). Contains (cuts_between from end n span.len) cut) size at) in
            let start = here.1.start in
            let all = here.1.len in
            in_chunk here.0 run.h k cut.from low (omega (arith, start)) (omega (arith, all, len, below)) to
      ] in
      carried found w dealt.filled dealt.within endpoint span (cut.from + k) (run.h + k) is (omega (arith, within, len, below, span_len)) (omega (arith, low)) next.slot next.at

-- the stretches of a span fill it
pub record Stretched (found : Found) (span : LiveSpan) : Type 0 where
  pub some : 0 < stretch_size found span
  pub whole : span.len / stretch_size found span * stretch_size found span ≡ span.len

pub stretched : (found : Found) (w : WindowFields) (filled : Filled found w) (endpoint : ℕ) (span : LiveSpan) → IsSpanOf found endpoint span → Stretched found span
stretched found w filled endpoint span is = elim (cases_Bool (found.ways == 1)) [
  | inl one ↦
      let size : stretch_size found span ≡ span.len = ap (λ (b : Bool). cond b span.len (chunk_size found.gran)) one in
      let len = is.len in
      let some = some_length found w filled in
      let own : 0 < span.len = omega (arith, len, some) in
      record {
        some = subst (λ (n : ℕ). 0 < n) (sym size) own;
        whole = subst (λ (n : ℕ). span.len / n * n ≡ span.len) (sym size) (ap (λ (n : ℕ). n * span.len) (div-eq_of_eq-mul_left own (sym (one-mul span.len))) ∙ one-mul span.len);
      }
  | inr more ↦
      let size : stretch_size found span ≡ chunk_size found.gran = ap (λ (b : Bool). cond b span.len (chunk_size found.gran)) more in
      record {
        some = subst (λ (n : ℕ). 0 < n) (sym size) (some_chunk found w filled);
        whole = subst (λ (n : ℕ). span.len / n * n ≡ span.len) (sym size) (subst (λ (n : ℕ). n / chunk_size found.gran * chunk_size found.gran ≡ n) (sym is.len) (chunks_whole found w filled));
      }
]
