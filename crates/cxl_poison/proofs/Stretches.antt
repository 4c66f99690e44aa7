-- The stretches with touched bytes, and the cuts of all stretches.
use Rattle.std.proofs.Common.{◌≡◌, ℕ, zero, suc, ◌+◌, ◌-◌, ◌*◌, ◌/◌, ◌<◌, ◌≤◌, List, [], ◌∷◌, ◌++◌, length, map, Option, Some, None, min, max, refl, sym, ap, subst, ◌∙◌, inl, inr, arith}
use Rattle.std.specs.Prelude.{slice_get}
use Rattle.std.specs.List.{range_with_len, filter_map}
use Rattle.std.proofs.Math.Nat.{mul-le-mul_right, div-mul-le_self, lt-div-mul-add, lt_of_mul-lt-mul_left, mul_comm, div-lt_iff_lt-mul}
use Rattle.std.proofs.lemmas.Nat.{le-div}
use Rattle.std.proofs.lemmas.Bool.{cases_lt, lt-ltb, le-ltb}
use Rattle.std.proofs.lemmas.List.Elements.{filter_map-append}
use Rattle.std.proofs.lemmas.List.FromFn.{length-map-range_with_len}
use Rattle.std.proofs.lemmas.List.{append-nil}
use Rattle.cxl_enc.proofs.Numbers.{numbers_append}
use Rattle.cxl_poison.specs.declared.live.LiveSpan.{LiveSpan}
use Rattle.cxl_poison.specs.declared.cutting.Touched.{Touched}
use Rattle.cxl_poison.specs.Pieces.{Cut, cut_between, cut_at, cuts_between}
use Rattle.cxl_poison.specs.inner.Cuts.{HasTouched, touched_cuts, first_stretch, last_stretch, stretch_cut, first_cuts}

-- ---- lists of numbers

pub none_of : {X : Type 0} (f : ℕ → Option X) (a n : ℕ) → ((k : ℕ) → a ≤ k → k < a + n → f k ≡ None) → filter_map f (range_with_len a n) ≡ []
none_of f a zero none = refl
none_of f a (suc n) none = rw (none a (omega arith) (omega arith)) (none_of f (a + 1) n (λ k from below. none k (omega arith) (omega arith)))

all_of : {X : Type 0} (f : ℕ → Option X) (g : ℕ → X) (a n : ℕ) → ((k : ℕ) → a ≤ k → k < a + n → f k ≡ Some (g k)) → filter_map f (range_with_len a n) ≡ map g (range_with_len a n)
all_of f g a zero all = refl
all_of {X} f g a (suc n) all = rw (all a (omega arith) (omega arith)) (ap (λ (xs : List X). g a ∷ xs) (all_of f g (a + 1) n (λ k from below. all k (omega arith) (omega arith))))

mapped : {X : Type 0} (g : ℕ → X) (a n k : ℕ) → k < n → slice_get (map g (range_with_len a n)) k ≡ Some (g (a + k))
mapped g a zero k below = absurd (omega arith)
mapped g a (suc n) zero below = let here : a ≡ a + 0 = omega arith in ap (λ (x : ℕ). Some (g x)) here
mapped g a (suc n) (suc k) below = let next : (a + 1) + k ≡ a + suc k = omega arith in mapped g (a + 1) n k (omega arith) ∙ ap (λ (x : ℕ). Some (g x)) next

-- ---- one stretch

-- what holds of a stretch with touched bytes
pub record StretchAt (from end size len n : ℕ) : Type 0 where
  pub low : n * size < end
  pub high : from < (n + 1) * size
  pub fits : (n + 1) * size ≤ len
  pub one : n * size + size ≡ (n + 1) * size

module _ (from end size len : ℕ) (some : 0 < size) (whole : len / size * size ≡ len) (ends : end ≤ len) (any : from < end) where
  pub stretch_at : (n : ℕ) → from / size ≤ n → n ≤ (end - 1) / size → StretchAt from end size len n
  stretch_at n first last =
      let at : n * size ≤ (end - 1) / size * size = mul-le-mul_right size last in
      let below = div-mul-le_self (end - 1) size in
      let low : n * size < end = omega (arith, at, below, any) in
      let past = lt-div-mul-add {a = from} {b = size} some in
      let more : from / size * size ≤ n * size = mul-le-mul_right size first in
      let one : n * size + size ≡ (n + 1) * size = grind arith in
      let few : n < len / size =
      lt_of_mul-lt-mul_left size
      (subst (λ (x : ℕ). x < size * (len / size)) (mul_comm n size) (subst (λ (x : ℕ). n * size < x) (mul_comm (len / size) size) (omega (arith, low, ends, whole)))) in
      let next : n + 1 ≤ len / size = omega (arith, few) in
      let within : (n + 1) * size ≤ len / size * size = mul-le-mul_right size next in
      record {
        low = low;
        high = omega (arith, past, more, one);
        fits = omega (arith, within, whole);
        one = one;
      }

  before : (n : ℕ) → n < from / size → (n + 1) * size ≤ from
  before n less =
      let next : n + 1 ≤ from / size = omega (arith, less) in
      let at : (n + 1) * size ≤ from / size * size = mul-le-mul_right size next in
      let below = div-mul-le_self from size in
      omega (arith, at, below)

  after : (n : ℕ) → (end - 1) / size < n → end ≤ n * size
  after n more =
      let past = lt-div-mul-add {a = end - 1} {b = size} some in
      let next : (end - 1) / size + 1 ≤ n = omega (arith, more) in
      let at : ((end - 1) / size + 1) * size ≤ n * size = mul-le-mul_right size next in
      let one : (end - 1) / size * size + size ≡ ((end - 1) / size + 1) * size = grind arith in
      omega (arith, past, at, one, any)

-- ---- the cuts

pub empty_cut : (from end : ℕ) → end ≤ from → cut_between from end ≡ None
empty_cut from end past = rw (le-ltb from end past) refl

some_cut : (from end : ℕ) → from < end → cut_between from end ≡ Some (record { from = from; len = end - from })
some_cut from end less = rw (lt-ltb from end less) refl

-- where no bytes are touched there is no cut
pub no_cuts : (from end size len : ℕ) → end ≤ from → cuts_between from end size len ≡ []
no_cuts from end size len past = none_of (cut_at from end size) 0 (len / size) (λ k at below. empty_cut (max from (k * size)) (min end ((k + 1) * size)) (omega arith))

module _ (span : LiveSpan) (touched : Touched) (has : HasTouched span touched) where
  pub touched_at : (n : ℕ) → first_stretch touched ≤ n → n ≤ last_stretch touched → StretchAt touched.from touched.end touched.size span.len n
  touched_at n first last = stretch_at touched.from touched.end touched.size span.len has.is.some has.is.whole has.is.ends has.any n first last

  cut_here : (n : ℕ) → first_stretch touched ≤ n → n ≤ last_stretch touched → cut_at touched.from touched.end touched.size n ≡ Some (stretch_cut touched n)
  cut_here n first last =
      let at = touched_at n first last in
      let some = has.is.some in
      let any = has.any in
      some_cut (max touched.from (n * touched.size)) (min touched.end ((n + 1) * touched.size)) (omega (arith, at.low, at.high, at.one, some, any))

  -- the last stretch begins before the end, and it is one of few
  pub last_low : first_stretch touched < last_stretch touched → last_stretch touched * touched.size < touched.end
  last_low many = (touched_at (last_stretch touched) (omega (arith, many)) (omega arith)).low

  pub last_small : first_stretch touched < last_stretch touched → last_stretch touched < touched.end
  last_small many =
      let some : 1 ≤ touched.size = omega (arith, has.is.some) in
      let more = mul-le-mul_right (last_stretch touched) some in
      omega (arith, more, mul_comm touched.size (last_stretch touched), last_low many)

  pub last_within : last_stretch touched < span.len / touched.size
  last_within =
      let some = has.is.some in
      let ends = has.is.ends in
      let any = has.any in
      let whole = has.is.whole in
      let below : touched.end - 1 < span.len / touched.size * touched.size = omega (arith, ends, any, whole) in
      (div-lt_iff_lt-mul {k = touched.size} {x = touched.end - 1} {y = span.len / touched.size} some).1 below

  -- the cuts are those of the stretches from the first to the last with touched bytes
  pub cuts_are : first_stretch touched ≤ last_stretch touched → touched_cuts touched span ≡ first_cuts touched (last_stretch touched + 1 - first_stretch touched)
  cuts_are order =
      let cut : ℕ → Option Cut = λ n. cut_at touched.from touched.end touched.size n in
      let first : ℕ = first_stretch touched in
      let last : ℕ = last_stretch touched in
      let n : ℕ = last + 1 - first in
      let rest : ℕ = span.len / touched.size - (last + 1) in
      let within = last_within in
      let some = has.is.some in
      let any = has.any in
      let all : span.len / touched.size ≡ first + (n + rest) = omega (arith, within, order) in
      let past : (0 + first) + n ≡ last + 1 = omega (arith, order) in
      let here : 0 + first ≡ first = omega arith in
      let front : filter_map cut (range_with_len 0 first) ≡ [] =
      none_of cut 0 first (λ k at below.
      let end = before touched.from touched.end touched.size span.len has.is.some has.is.whole has.is.ends has.any k (omega (arith, below)) in
      empty_cut (max touched.from (k * touched.size)) (min touched.end ((k + 1) * touched.size)) (omega (arith, end))) in
      let middle : filter_map cut (range_with_len first n) ≡ first_cuts touched n =
      all_of cut (stretch_cut touched) first n (λ k at below. cut_here k at (omega (arith, below, order))) in
      let back : filter_map cut (range_with_len (last + 1) rest) ≡ [] =
      none_of cut (last + 1) rest (λ k at below.
      let start = after touched.from touched.end touched.size span.len has.is.some has.is.whole has.is.ends has.any k (omega (arith, at)) in
      empty_cut (max touched.from (k * touched.size)) (min touched.end ((k + 1) * touched.size)) (omega (arith, start))) in
      ap (λ (m : ℕ). filter_map cut (range_with_len 0 m)) all
      ∙ ap (filter_map cut) (numbers_append 0 first (n + rest))
      ∙ filter_map-append cut (range_with_len 0 first) (range_with_len (0 + first) (n + rest))
      ∙ ap (λ (xs : List Cut). xs ++ filter_map cut (range_with_len (0 + first) (n + rest))) front
      ∙ ap (filter_map cut) (numbers_append (0 + first) n rest)
      ∙ filter_map-append cut (range_with_len (0 + first) n) (range_with_len ((0 + first) + n) rest)
      ∙ ap (λ (m : ℕ). filter_map cut (range_with_len (0 + first) n) ++ filter_map cut (range_with_len m rest)) past
      ∙ ap (λ (xs : List Cut). filter_map cut (range_with_len (0 + first) n) ++ xs) back
      ∙ append-nil (filter_map cut (range_with_len (0 + first) n))
      ∙ ap (λ (m : ℕ). filter_map cut (range_with_len m n)) here
      ∙ middle

-- how many cuts there are, and where the first and the last begin
pub count_cuts : (touched : Touched) (n : ℕ) → length (first_cuts touched n) ≡ n
count_cuts touched n = length-map-range_with_len (stretch_cut touched) (first_stretch touched) n

pub cut_there : (touched : Touched) (n k : ℕ) → k < n → slice_get (first_cuts touched n) k ≡ Some (stretch_cut touched (first_stretch touched + k))
cut_there touched n k below = mapped (stretch_cut touched) (first_stretch touched) n k below

module _ (span : LiveSpan) (touched : Touched) (has : HasTouched span touched) where
  pub first_begins : (stretch_cut touched (first_stretch touched + 0)).from ≡ touched.from
  first_begins =
      let below = div-mul-le_self touched.from touched.size in
      let here : (first_stretch touched + 0) * touched.size ≡ first_stretch touched * touched.size = grind arith in
      omega (arith, below, here)

  pub last_begins : first_stretch touched < last_stretch touched → (stretch_cut touched (last_stretch touched)).from ≡ last_stretch touched * touched.size
  last_begins many =
      let past = lt-div-mul-add {a = touched.from} {b = touched.size} has.is.some in
      let next : first_stretch touched + 1 ≤ last_stretch touched = omega (arith, many) in
      let more : (first_stretch touched + 1) * touched.size ≤ last_stretch touched * touched.size = mul-le-mul_right touched.size next in
      let one : first_stretch touched * touched.size + touched.size ≡ (first_stretch touched + 1) * touched.size = grind arith in
      omega (arith, past, more, one)

-- ---- the touched stretches

-- no other stretch has a cut
pub in_touched_stretches : (from end size len : ℕ) → 0 < size → len / size * size ≡ len → end ≤ len → cuts_between from end size len ≡ filter_map (cut_at from end size) (range_with_len (from / size) ((end - 1) / size + 1 - from / size))
in_touched_stretches from end size len some whole ends = elim (cases_lt from end) [
  | inl any ↦
      let span : LiveSpan = record { region = 0; slot = 0; start = 0; len = len } in
      let touched : Touched = record { from = from; end = end; size = size } in
      let has : HasTouched span touched = record { is = record { some = some; whole = whole; ends = ends }; any = any } in
      let below = div-mul-le_self from size in
      let order : from / size ≤ (end - 1) / size = le-div (from / size) (end - 1) size some (omega (arith, below, any)) in
      let n : ℕ = (end - 1) / size + 1 - from / size in
      cuts_are span touched has order ∙ sym (all_of (cut_at from end size) (stretch_cut touched) (from / size) n (λ k at under. cut_here span touched has k at (omega (arith, under, order))))
  | inr past ↦
      no_cuts from end size len past
      ∙ sym (none_of (cut_at from end size) (from / size) ((end - 1) / size + 1 - from / size) (λ k at under. empty_cut (max from (k * size)) (min end ((k + 1) * size)) (omega (arith, past))))
]
