-- Numbers in parts: what stands at a place, and what making a part and putting a number leave.
use Rattle.std.proofs.Common.{◌≡◌, ◌≢◌, ◌⊎◌, ℕ, zero, suc, ◌+◌, ◌*◌, ◌/◌, ◌%◌, ◌<◌, ◌≤◌, Bool, true, false, cond, List, [], ◌∷◌, ◌++◌, length, get_or, set, replicate, count_by, inl, inr, refl, sym, ap, ◌∙◌, arith}
use Rattle.std.proofs.Math.Seq.{get_or-append_seam}
use Rattle.std.proofs.lemmas.Bool.{cases_eq}
use Rattle.std.proofs.lemmas.List.{same_lists, length-set, length-append, get_or-set_same, get_or-set_other, get_or_append_left, get_or-replicate, length-replicate}
use Rattle.std.proofs.lemmas.List.FromFn.{length-map-range_with_len, get_or-map-range_with_len}
use Rattle.std.proofs.lemmas.List.Sums.{sum_by-cons, sum_by-set, count_by-le-length}
use Rattle.cxl_enc.specs.Limits.{frame_limit}
use Rattle.cxl_enc.proofs.Lists.{zeros_at}
use Rattle.cxl_media.specs.Numbers.{no_numbers, part_named, number_at, numbers_of, is_made, AreParts}

pub length_numbers : (parts : List ℕ) (made : List (List ℕ)) (total : ℕ) → length (numbers_of parts made total) ≡ total
length_numbers parts made total = length-map-range_with_len (number_at parts made) 0 total

pub number_here : (parts : List ℕ) (made : List (List ℕ)) (total at d : ℕ) → at < total → get_or (numbers_of parts made total) at d ≡ number_at parts made at
number_here parts made total at d within =
    let same : 0 + at ≡ at = omega arith in
    get_or-map-range_with_len (number_at parts made) 0 total at at d within same

-- numbers that stand alike at each place
pub numbers_alike : (old new : List ℕ) (made more : List (List ℕ)) (total : ℕ) → ((k : ℕ) → number_at new more k ≡ number_at old made k) → numbers_of new more total ≡ numbers_of old made total
numbers_alike old new made more total alike =
    same_lists (numbers_of new more total) (numbers_of old made total) (length_numbers new more total ∙ sym (length_numbers old made total)) (λ k d within.
    let inside : k < total = omega (arith, within, length_numbers new more total) in
    number_here new more total k d inside ∙ alike k ∙ sym (number_here old made total k d inside))

-- the numbers of a part that was not made are 0
pub not_made : (parts : List ℕ) (made : List (List ℕ)) (k : ℕ) → get_or parts (k / 256) 0 ≡ 0 → number_at parts made k ≡ 0
not_made parts made k none = ap (λ name. get_or (part_named made name) (k % 256) 0) none

-- all numbers are 0 where no part was made
pub numbers_new : (parts : List ℕ) (made : List (List ℕ)) (count total : ℕ) → parts ≡ replicate count 0 → numbers_of parts made total ≡ replicate total 0
numbers_new parts made count total none =
    same_lists (numbers_of parts made total) (replicate total 0) (length_numbers parts made total ∙ sym (length-replicate total 0)) (λ k d within.
    let inside : k < total = omega (arith, within, length_numbers parts made total) in
    number_here parts made total k d inside
    ∙ not_made parts made k (ap (λ ps. get_or ps (k / 256) 0) none ∙ zeros_at count (k / 256))
    ∙ sym (get_or-replicate total k 0 d inside))

none_counted : (n : ℕ) → count_by is_made (replicate n 0) ≡ 0
none_counted zero = refl
none_counted (suc n) = omega (arith, sum_by-cons (λ (k : ℕ). cond (is_made k) 1 0) 0 (replicate n 0), none_counted n)

pub parts_none : (parts : List ℕ) (made : List (List ℕ)) (count total room : ℕ) → parts ≡ replicate count 0 → made ≡ []
    → total ≤ 256 * count → count ≤ room → total ≤ 3 * frame_limit → count ≤ 3 * frame_limit → AreParts parts made total room
parts_none parts made count total room are none cover fits few small =
    rw (are, none) (record {
      named = λ i n is.
          let both : 0 ≡ suc n = sym (zeros_at count i) ∙ is in
          absurd (omega arith);
      once = λ i j n is _.
          let both : 0 ≡ suc n = sym (zeros_at count i) ∙ is in
          absurd (omega arith);
      counted = none_counted count;
      cover = omega (arith, length-replicate {A = ℕ} count 0, cover);
      fits = omega (arith, length-replicate {A = ℕ} count 0, fits);
      few = few;
      small = omega (arith, length-replicate {A = ℕ} count 0, small);
    })

one_at_most : (b : Bool) → cond b 1 0 ≤ 1
one_at_most true = omega arith
one_at_most false = omega arith

-- where a part was not made, fewer were made than there are
spare : (parts : List ℕ) (j : ℕ) → j < length parts → get_or parts j 0 ≡ 0 → count_by is_made parts < length parts
spare [] j within none = absurd (omega arith)
spare (x ∷ rest) zero within none =
    let nothing : ◌≡◌ {A = ℕ} (cond (is_made x) 1 0) 0 = ap (λ (n : ℕ). cond (is_made n) 1 0) none in
    omega (arith, nothing, count_by-le-length is_made rest, sum_by-cons (λ (n : ℕ). cond (is_made n) 1 0) x rest)
spare (x ∷ rest) (suc j) within none =
    omega (arith, spare rest j (omega arith) none, one_at_most (is_made x), sum_by-cons (λ (n : ℕ). cond (is_made n) 1 0) x rest)

zeros_in : (at : ℕ) → at < 256 → get_or no_numbers at 0 ≡ 0
unfolding no_numbers
zeros_in at within = get_or-replicate 256 at 0 0 within

module _ (parts : List ℕ) (made : List (List ℕ)) (total room : ℕ) (are : AreParts parts made total room) where
  -- a place lies in a part
  pub part_within : (at : ℕ) → at < total → at / 256 < length parts
  part_within at within = omega (arith, are.cover)

  -- a part was not made
  module _ (j : ℕ) (within : j < length parts) (none : get_or parts j 0 ≡ 0) where
    pub made_room : length made < room
    made_room = omega (arith, spare parts j within none, are.counted, are.fits)

    -- and is made behind the others
    new_name : (i n : ℕ) → get_or (set parts j (suc (length made))) i 0 ≡ suc n → ((i ≡ j) × (n ≡ length made)) ⊎ ((i ≢ j) × (get_or parts i 0 ≡ suc n))
    new_name i n is =
        elim (cases_eq i j) [
          | inl here ↦
              let name : suc n ≡ suc (length made) = sym is ∙ ap (λ k. get_or (set parts j (suc (length made))) k 0) here ∙ get_or-set_same parts j (suc (length made)) 0 within in
              inl (here, omega arith)
          | inr other ↦ inr (other, sym (get_or-set_other parts j i (suc (length made)) 0 other) ∙ is)
        ]

    same_in : (name k : ℕ) → (name ≡ 0) ⊎ ((n : ℕ) × (name ≡ suc n) × (n < length made)) → get_or (part_named (made ++ no_numbers ∷ []) name) (k % 256) 0 ≡ get_or (part_named made name) (k % 256) 0
    same_in name k (inl zero_is) = ap (λ m. get_or (part_named (made ++ no_numbers ∷ []) m) (k % 256) 0) zero_is ∙ sym (ap (λ m. get_or (part_named made m) (k % 256) 0) zero_is)
    same_in name k (inr there) =
        ap (λ m. get_or (part_named (made ++ no_numbers ∷ []) m) (k % 256) 0) there.1
        ∙ ap (λ part. get_or part (k % 256) 0) (get_or_append_left made (no_numbers ∷ []) [] there.0 there.2)
        ∙ sym (ap (λ m. get_or (part_named made m) (k % 256) 0) there.1)

    known : (name : ℕ) → ((n : ℕ) → name ≡ suc n → n < length made) → (name ≡ 0) ⊎ ((n : ℕ) × (name ≡ suc n) × (n < length made))
    known zero named = inl refl
    known (suc n) named = inr (n, refl, named n refl)

    pub made_same : (k : ℕ) → number_at (set parts j (suc (length made))) (made ++ no_numbers ∷ []) k ≡ number_at parts made k
    made_same k =
        elim (cases_eq (k / 256) j) [
          | inl here ↦
              let name : get_or (set parts j (suc (length made))) (k / 256) 0 ≡ suc (length made) = ap (λ i. get_or (set parts j (suc (length made))) i 0) here ∙ get_or-set_same parts j (suc (length made)) 0 within in
              ap (λ m. get_or (part_named (made ++ no_numbers ∷ []) m) (k % 256) 0) name
              ∙ ap (λ part. get_or part (k % 256) 0) (get_or-append_seam made no_numbers [] [])
              ∙ zeros_in (k % 256) (omega arith)
              ∙ sym (not_made parts made k (ap (λ i. get_or parts i 0) here ∙ none))
          | inr other ↦
              ap (λ m. get_or (part_named (made ++ no_numbers ∷ []) m) (k % 256) 0) (get_or-set_other parts j (k / 256) (suc (length made)) 0 other)
              ∙ same_in (get_or parts (k / 256) 0) k (known (get_or parts (k / 256) 0) (are.named (k / 256)))
        ]

    pub made_are : AreParts (set parts j (suc (length made))) (made ++ no_numbers ∷ []) total room
    made_are =
        let more : length (made ++ no_numbers ∷ []) ≡ length made + 1 = length-append made (no_numbers ∷ []) in
        let long : length (set parts j (suc (length made))) ≡ length parts = length-set parts j (suc (length made)) in
        let was : ◌≡◌ {A = ℕ} (cond (is_made (get_or parts j 0)) 1 0) 0 = ap (λ (n : ℕ). cond (is_made n) 1 0) none in
        let change : count_by is_made (set parts j (suc (length made))) + cond (is_made (get_or parts j 0)) 1 0 ≡ count_by is_made parts + 1 = sum_by-set (λ (n : ℕ). cond (is_made n) 1 0) parts j (suc (length made)) 0 within in
        record {
          named = λ i n is. elim (new_name i n is) [
            | inl new ↦ omega (arith, new.1, more)
            | inr old ↦ omega (arith, are.named i n old.1, more)
          ];
          once = λ i k n one two. elim (new_name i n one) [
            | inl first ↦ elim (new_name k n two) [
              | inl second ↦ first.0 ∙ sym second.0
              | inr second ↦ absurd (omega (arith, first.1, are.named k n second.1))
            ]
            | inr first ↦ elim (new_name k n two) [
              | inl second ↦ absurd (omega (arith, second.1, are.named i n first.1))
              | inr second ↦ are.once i k n first.1 second.1
            ]
          ];
          counted = omega (arith, change, was, are.counted, more);
          cover = omega (arith, are.cover, long);
          fits = omega (arith, are.fits, long);
          few = are.few;
          small = omega (arith, are.small, long);
        }

  -- a number is put
  module _ (at n number : ℕ) (part : List ℕ) (within : at < total) (name : get_or parts (at / 256) 0 ≡ suc n) (read : part ≡ get_or made n []) (whole : length part ≡ 256) where
    pub put_within : n < length made
    put_within = are.named (at / 256) n name

    -- the number at a place of the same part
    here_in : (k : ℕ) → k / 256 ≡ at / 256 → number_at parts (set made n (set part (at % 256) number)) k ≡ get_or (set part (at % 256) number) (k % 256) 0
    here_in k same =
        ap (λ m. get_or (part_named (set made n (set part (at % 256) number)) m) (k % 256) 0) (ap (λ i. get_or parts i 0) same ∙ name)
        ∙ ap (λ p. get_or p (k % 256) 0) (get_or-set_same made n (set part (at % 256) number) [] put_within)

    was_in : (k : ℕ) → k / 256 ≡ at / 256 → number_at parts made k ≡ get_or part (k % 256) 0
    was_in k same =
        ap (λ m. get_or (part_named made m) (k % 256) 0) (ap (λ i. get_or parts i 0) same ∙ name)
        ∙ ap (λ p. get_or p (k % 256) 0) (sym read)

    -- another part
    other_part : (k m : ℕ) → k / 256 ≢ at / 256 → get_or parts (k / 256) 0 ≡ m → get_or (part_named (set made n (set part (at % 256) number)) m) (k % 256) 0 ≡ get_or (part_named made m) (k % 256) 0
    other_part k zero other is = refl
    other_part k (suc m) other is =
        let apart : m ≢ n = λ same. other (are.once (k / 256) (at / 256) n (is ∙ ap suc same) name) in
        ap (λ p. get_or p (k % 256) 0) (get_or-set_other made n m (set part (at % 256) number) [] apart)

    elsewhere_in : (k : ℕ) → k ≢ at → number_at parts (set made n (set part (at % 256) number)) k ≡ number_at parts made k
    elsewhere_in k other =
        elim (cases_eq (k / 256) (at / 256)) [
          | inl same ↦
              let apart : k % 256 ≢ at % 256 = λ e. other (omega (arith, same, e)) in
              here_in k same ∙ get_or-set_other part (at % 256) (k % 256) number 0 apart ∙ sym (was_in k same)
          | inr beside ↦ other_part k (get_or parts (k / 256) 0) beside refl
        ]

    pub put_numbers : numbers_of parts (set made n (set part (at % 256) number)) total ≡ set (numbers_of parts made total) at number
    put_numbers =
        let new : List (List ℕ) = set made n (set part (at % 256) number) in
        same_lists (numbers_of parts new total) (set (numbers_of parts made total) at number)
        (length_numbers parts new total ∙ sym (length-set (numbers_of parts made total) at number ∙ length_numbers parts made total)) (λ k d inside.
        let under : k < total = omega (arith, inside, length_numbers parts new total) in
        number_here parts new total k d under
        ∙ elim (cases_eq k at) [
          | inl same ↦
              ap (number_at parts new) same ∙ here_in at refl
              ∙ get_or-set_same part (at % 256) number 0 (omega (arith, whole))
              ∙ sym (ap (λ i. get_or (set (numbers_of parts made total) at number) i d) same
              ∙ get_or-set_same (numbers_of parts made total) at number d (omega (arith, within, length_numbers parts made total)))
          | inr other ↦
              elsewhere_in k other
              ∙ sym (get_or-set_other (numbers_of parts made total) at k number d other ∙ number_here parts made total k d under)
        ])

    pub put_are : AreParts parts (set made n (set part (at % 256) number)) total room
    put_are =
        let long : length (set made n (set part (at % 256) number)) ≡ length made = length-set made n (set part (at % 256) number) in
        record {
          named = λ i m is. omega (arith, are.named i m is, long);
          once = are.once;
          counted = are.counted ∙ sym long;
          cover = are.cover;
          fits = are.fits;
          few = are.few;
          small = are.small;
        }
