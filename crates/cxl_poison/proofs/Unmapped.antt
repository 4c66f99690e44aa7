-- The bytes of a record that lie in no span, one span more at a time.
use Rattle.std.proofs.Common.{◌≡◌, ℕ, zero, suc, ◌+◌, ◌-◌, ◌*◌, ◌<◌, ◌≤◌, Bool, true, false, not, cond, ◌||◌, List, [], ◌∷◌, ◌++◌, length, min, refl, sym, ap, ◌∙◌, inl, inr, arith}
use Rattle.std.specs.Prelude.{count_by}
use Rattle.std.specs.List.{range_with_len, list_any}
use Rattle.std.proofs.lemmas.Bool.{cases_lt, lt-ltb, le-ltb, le-leb, lt-leb, false≢true}
use Rattle.std.proofs.lemmas.List.Sums.{sum_by-cons}
use Rattle.std.proofs.lemmas.List.Folds.{list_any-append}
use Rattle.std.proofs.lemmas.List.FromFn.{length-range_with_len}
use Rattle.cxl_model.specs.declared.poison.Entry.{Entry}
use Rattle.cxl_poison.specs.declared.live.LiveSpan.{LiveSpan}
use Rattle.cxl_poison.specs.Pieces.{record_bytes, touched_from, touched_end, has_byte, is_unmapped, unmapped_count}

-- what an item that passes a test counts
abbrev one_if : Bool → ℕ
one_if b = cond b 1 0

counted : (p : ℕ → Bool) (x : ℕ) (xs : List ℕ) → count_by p (x ∷ xs) ≡ one_if (p x) + count_by p xs
counted p x xs = sum_by-cons (λ x. one_if (p x)) x xs

weight : (b c : Bool) → b ≡ c → one_if b ≡ one_if c
weight b c same = ap one_if same

-- ---- how many bytes of a range lie in a span

in_span : (span : LiveSpan) (a : ℕ) → span.start ≤ a → a < span.start + span.len → has_byte span a ≡ true
in_span span a from below = rw (le-leb span.start a from, lt-ltb a (span.start + span.len) below) refl

before_span : (span : LiveSpan) (a : ℕ) → a < span.start → has_byte span a ≡ false
before_span span a below = rw (lt-leb span.start a below) refl

past_span : (span : LiveSpan) (a : ℕ) → span.start ≤ a → span.start + span.len ≤ a → has_byte span a ≡ false
past_span span a from past = rw (le-leb span.start a from, le-ltb a (span.start + span.len) past) refl

count_in : (span : LiveSpan) (a n : ℕ) → count_by (has_byte span) (range_with_len a n) ≡ min (a + n - span.start) span.len - (a - span.start)
count_in span a zero = omega arith
count_in span a (suc n) =
    let one = counted (has_byte span) a (range_with_len (a + 1) n) in
    let rest = count_in span (a + 1) n in
    elim (cases_lt a span.start) [
      | inl before ↦
          let none = weight (has_byte span a) false (before_span span a before) in
          omega (arith, one, rest, none, before)
      | inr from ↦ elim (cases_lt a (span.start + span.len)) [
        | inl below ↦
            let some = weight (has_byte span a) true (in_span span a from below) in
            omega (arith, one, rest, some, from, below)
        | inr past ↦
            let none = weight (has_byte span a) false (past_span span a from past) in
            omega (arith, one, rest, none, from, past)
      ]
    ]

-- ---- one span more

-- each item counts for one of two tests
count_split : (p q r : ℕ → Bool) → ((x : ℕ) → one_if (p x) ≡ one_if (q x) + one_if (r x)) → (xs : List ℕ) → count_by p xs ≡ count_by q xs + count_by r xs
count_split p q r each [] = refl
count_split p q r each (x ∷ xs) =
    let rest = count_split p q r each xs in
    let own = each x in
    let all = counted p x xs in
    let one = counted q x xs in
    let other = counted r x xs in
    omega (arith, rest, own, all, one, other)

-- a byte of the new span lies in none of the others
abbrev pub LiesApart : List LiveSpan → LiveSpan → Type 0
LiesApart spans x = (dpa : ℕ) → has_byte x dpa ≡ true → list_any (λ span. has_byte span dpa) spans ≡ false

tests : (a b : Bool) → (b ≡ true → a ≡ false) → one_if (not a) ≡ one_if (not (a || (b || false))) + one_if b
tests true true apart = absurd (false≢true (sym (apart refl)))
tests true false apart = refl
tests false true apart = refl
tests false false apart = refl

pub one_mapped : (entry : Entry) (spans : List LiveSpan) (x : LiveSpan) → LiesApart spans x → unmapped_count entry spans ≡ unmapped_count entry (spans ++ x ∷ []) + (touched_end entry x - touched_from entry x)
one_mapped entry spans x apart =
    let split : (dpa : ℕ) → one_if (is_unmapped spans dpa) ≡ one_if (is_unmapped (spans ++ x ∷ []) dpa) + one_if (has_byte x dpa) =
    λ dpa.
    rw (list_any-append (λ span. has_byte span dpa) spans (x ∷ []))
    (tests (list_any (λ span. has_byte span dpa) spans) (has_byte x dpa) (apart dpa)) in
    count_split (is_unmapped spans) (is_unmapped (spans ++ x ∷ [])) (has_byte x) split (range_with_len entry.dpa (record_bytes entry))
    ∙ ap (λ (n : ℕ). unmapped_count entry (spans ++ x ∷ []) + n) (count_in x entry.dpa (record_bytes entry))

-- tests that agree on a range count as many of it
pub count_same : (p q : ℕ → Bool) (a n : ℕ) → ((x : ℕ) → a ≤ x → x < a + n → p x ≡ q x) → count_by p (range_with_len a n) ≡ count_by q (range_with_len a n)
count_same p q a zero same = refl
count_same p q a (suc n) same =
    let one = counted p a (range_with_len (a + 1) n) in
    let other = counted q a (range_with_len (a + 1) n) in
    let own = weight (p a) (q a) (same a (omega arith) (omega arith)) in
    let rest = count_same p q (a + 1) n (λ x from below. same x (omega (arith, from)) (omega (arith, below))) in
    omega (arith, one, other, own, rest)

count_any : (xs : List ℕ) → count_by (λ x. true) xs ≡ length xs
count_any [] = refl
count_any (x ∷ xs) = counted (λ x. true) x xs ∙ (let rest = count_any xs in omega (arith, rest))

-- with no span all bytes are unmapped
pub all_unmapped : (entry : Entry) → unmapped_count entry [] ≡ 64 * entry.units
all_unmapped entry = count_any (range_with_len entry.dpa (record_bytes entry)) ∙ length-range_with_len entry.dpa (record_bytes entry)
