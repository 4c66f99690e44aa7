-- Bytes that are stored into one piece of a region, or into two that follow.
use Rattle.std.proofs.Common.{◌≡◌, ◌≢◌, ℕ, ◌+◌, ◌-◌, ◌*◌, ◌/◌, ◌%◌, ◌<◌, ◌≤◌, Bool, true, false, cond, not, List, [], ◌∷◌, ◌++◌, map, length, take, drop, get_or, Option, Some, inl, inr, refl, sym, ap, ◌∙◌, arith}
use Rattle.std.specs.Prelude.{unwrap_or, replicate, filter, fold, nat_le, nat_lt, ◌&&◌}
use Rattle.std.specs.List.{range_with_len}
use Rattle.std.specs.Ordering.{nat_cmp, eq_by_cmp}
use Rattle.std.specs.Cmp.{nat_cmp_total, Equal-is}
use Rattle.std.specs.FinMap as fin
use Rattle.std.specs.FinMap.{get-insert, nat_cmp-IsAntisymmetric}
use Rattle.std.proofs.lemmas.Bool.{cases_lt, cond-true, cond-false, lt-ltb, le-ltb, le-leb, lt-leb}
use Rattle.std.proofs.lemmas.List.{length-append, length-take, length-drop, get_or_append_left, get_or-append_right, get_or-take, get_or-drop, ext_get_or}
use Rattle.std.proofs.lemmas.List.FromFn.{length-map-range_with_len, get_or-map-range_with_len}
use Rattle.cxl_media.specs.Blocks.{overwritten}
use Rattle.cxl_model.specs.Contents.{Contents, content_at}
use Rattle.cxl_model.proofs.NewBytes.{absent}
use Rattle.cxl_move.specs.Bytes.{touched_pieces, new_pieces, byte_after, piece_after, written}

-- ---- one byte behind a store

module _ (contents : Contents) (offset : ℕ) (bytes : List ℕ) (i : ℕ) where
  pub byte_inside : offset ≤ i → i < offset + length bytes → byte_after contents offset bytes i ≡ get_or bytes (i - offset) 0
  byte_inside from below =
      let test : (nat_le offset i && nat_lt i (offset + length bytes)) ≡ true =
      ap (λ (b : Bool). b && nat_lt i (offset + length bytes)) (le-leb offset i from) ∙ lt-ltb i (offset + length bytes) below in
      cond-true (nat_le offset i && nat_lt i (offset + length bytes)) (get_or bytes (i - offset) 0) (content_at contents i) test

  pub byte_before : i < offset → byte_after contents offset bytes i ≡ content_at contents i
  byte_before below =
      let test : (nat_le offset i && nat_lt i (offset + length bytes)) ≡ false = ap (λ (b : Bool). b && nat_lt i (offset + length bytes)) (lt-leb offset i below) in
      cond-false (nat_le offset i && nat_lt i (offset + length bytes)) (get_or bytes (i - offset) 0) (content_at contents i) test

  pub byte_behind : offset + length bytes ≤ i → byte_after contents offset bytes i ≡ content_at contents i
  byte_behind past =
      let test : (nat_le offset i && nat_lt i (offset + length bytes)) ≡ false =
      ap (λ (b : Bool). b && nat_lt i (offset + length bytes)) (le-leb offset i (omega (arith, past))) ∙ le-ltb i (offset + length bytes) past in
      cond-false (nat_le offset i && nat_lt i (offset + length bytes)) (get_or bytes (i - offset) 0) (content_at contents i) test

-- ---- the piece over which bytes are put

module _ (contents : Contents) (block : List ℕ) (offset : ℕ) (bytes : List ℕ) (whole : length block ≡ 256) (fits : offset % 256 + length bytes ≤ 256)
    (is : block ≡ unwrap_or (fin.get contents (offset / 256)) (replicate 256 0)) where
  rest : List ℕ
  rest = drop (offset % 256 + length bytes) block

  front_long : length (take (offset % 256) block) ≡ offset % 256
  front_long = omega (arith, length-take (offset % 256) block, whole, fits)

  rest_long : length rest ≡ 256 - (offset % 256 + length bytes)
  unfolding rest
  rest_long = omega (arith, length-drop (offset % 256 + length bytes) block, whole)

  over : List ℕ
  over = overwritten block (offset % 256) bytes

  over_long : length over ≡ 256
  unfolding over rest
  over_long =
      omega (arith, length-append (take (offset % 256) block) (bytes ++ rest), length-append bytes rest, front_long, rest_long, fits)

  at_before : (k : ℕ) → k < offset % 256 → get_or over k 0 ≡ get_or block k 0
  unfolding over
  at_before k low =
      get_or_append_left (take (offset % 256) block) (bytes ++ drop (offset % 256 + length bytes) block) 0 k (omega (arith, low, front_long))
      ∙ get_or-take (offset % 256) block k 0 low

  at_inside : (k : ℕ) → offset % 256 ≤ k → k < offset % 256 + length bytes → get_or over k 0 ≡ get_or bytes (k - offset % 256) 0
  unfolding over
  at_inside k from below =
      get_or-append_right (take (offset % 256) block) (bytes ++ drop (offset % 256 + length bytes) block) (offset % 256) k 0 front_long from
      ∙ get_or_append_left bytes (drop (offset % 256 + length bytes) block) 0 (k - offset % 256) (omega (arith, from, below))

  at_behind : (k : ℕ) → offset % 256 + length bytes ≤ k → get_or over k 0 ≡ get_or block k 0
  unfolding over
  at_behind k past =
      let on : offset % 256 + length bytes + (k - offset % 256 - length bytes) ≡ k = omega (arith, past) in
      get_or-append_right (take (offset % 256) block) (bytes ++ drop (offset % 256 + length bytes) block) (offset % 256) k 0 front_long (omega (arith, past))
      ∙ get_or-append_right bytes (drop (offset % 256 + length bytes) block) (length bytes) (k - offset % 256) 0 refl (omega (arith, past))
      ∙ get_or-drop (offset % 256 + length bytes) block (k - offset % 256 - length bytes) 0
      ∙ ap (λ (i : ℕ). get_or block i 0) on

  -- the byte that was there
  own_byte : (k : ℕ) → k < 256 → content_at contents (256 * (offset / 256) + k) ≡ get_or block k 0
  own_byte k low =
      let number : (256 * (offset / 256) + k) / 256 ≡ offset / 256 = omega (arith, low) in
      let place : (256 * (offset / 256) + k) % 256 ≡ k = omega (arith, low) in
      ap (λ (n : ℕ). get_or (unwrap_or (fin.get contents n) (replicate 256 0)) ((256 * (offset / 256) + k) % 256) 0) number
      ∙ ap (λ (xs : List ℕ). get_or xs ((256 * (offset / 256) + k) % 256) 0) (sym is) ∙ ap (λ (j : ℕ). get_or block j 0) place

  each_byte : (k : ℕ) → k < 256 → get_or over k 0 ≡ byte_after contents offset bytes (256 * (offset / 256) + k)
  each_byte k low =
      let i : ℕ = 256 * (offset / 256) + k in
      elim (cases_lt k (offset % 256)) [
        | inl before ↦ at_before k before ∙ sym (byte_before contents offset bytes i (omega (arith, before)) ∙ own_byte k low)
        | inr from ↦
            elim (cases_lt k (offset % 256 + length bytes)) [
              | inl inside ↦
                  let along : i - offset ≡ k - offset % 256 = omega (arith, from) in
                  at_inside k from inside ∙ sym (byte_inside contents offset bytes i (omega (arith, from)) (omega (arith, inside)) ∙ ap (λ (j : ℕ). get_or bytes j 0) along)
              | inr behind ↦ at_behind k behind ∙ sym (byte_behind contents offset bytes i (omega (arith, behind)) ∙ own_byte k low)
            ]
      ]

  pub put_over : overwritten block (offset % 256) bytes ≡ piece_after contents offset bytes (offset / 256)
  unfolding over
  put_over =
      ext_get_or 0 over (piece_after contents offset bytes (offset / 256)) (over_long ∙ sym (length-map-range_with_len (byte_after contents offset bytes) (256 * (offset / 256)) 256))
      (λ k within.
      let low : k < 256 = omega (arith, within, over_long) in
      each_byte k low ∙ sym (get_or-map-range_with_len (byte_after contents offset bytes) (256 * (offset / 256)) 256 k (256 * (offset / 256) + k) 0 low refl))

-- ---- the pieces that are touched

one_touched : (offset len : ℕ) → 1 ≤ len → offset % 256 + len ≤ 256 → touched_pieces offset len ≡ offset / 256 ∷ []
one_touched offset len some fits =
    let count : (offset + len - 1) / 256 + 1 - offset / 256 ≡ 1 = omega (arith, some, fits) in
    ap (range_with_len (offset / 256)) count

two_touched : (offset len : ℕ) → 256 < offset % 256 + len → len ≤ 256 → touched_pieces offset len ≡ offset / 256 ∷ (offset / 256 + 1) ∷ []
two_touched offset len more few =
    let count : (offset + len - 1) / 256 + 1 - offset / 256 ≡ 2 = omega (arith, more, few) in
    ap (range_with_len (offset / 256)) count

abbrev put_all : Contents → ℕ → List ℕ → Contents → List ℕ → Contents
put_all contents offset bytes after ns = fold (λ after n. fin.insert after n (piece_after contents offset bytes n)) after ns

pub written_one : (contents : Contents) (offset : ℕ) (bytes : List ℕ) → 1 ≤ length bytes → offset % 256 + length bytes ≤ 256
    → written contents offset bytes ≡ fin.insert contents (offset / 256) (piece_after contents offset bytes (offset / 256))
written_one contents offset bytes some fits = ap (put_all contents offset bytes contents) (one_touched offset (length bytes) some fits)

-- ---- how many of them are new

one_counted : (b : Bool) (n : ℕ) → length (cond (not b) (n ∷ []) []) ≡ cond b 0 1
one_counted true n = refl
one_counted false n = refl

two_counted : (b c : Bool) (n k : ℕ) → length (cond (not b) (n ∷ cond (not c) (k ∷ []) []) (cond (not c) (k ∷ []) [])) ≡ cond b 0 1 + cond c 0 1
two_counted true true n k = refl
two_counted true false n k = refl
two_counted false true n k = refl
two_counted false false n k = refl

pub one_new : (contents : Contents) (offset len : ℕ) → 1 ≤ len → offset % 256 + len ≤ 256 → length (new_pieces contents offset len) ≡ cond (fin.contains_key contents (offset / 256)) 0 1
one_new contents offset len some fits =
    ap (λ (ns : List ℕ). length (filter (absent contents) ns)) (one_touched offset len some fits) ∙ one_counted (fin.contains_key contents (offset / 256)) (offset / 256)

pub two_new : (contents : Contents) (offset len : ℕ) → 256 < offset % 256 + len → len ≤ 256
    → length (new_pieces contents offset len) ≡ cond (fin.contains_key contents (offset / 256)) 0 1 + cond (fin.contains_key contents (offset / 256 + 1)) 0 1
two_new contents offset len more few =
    ap (λ (ns : List ℕ). length (filter (absent contents) ns)) (two_touched offset len more few)
    ∙ two_counted (fin.contains_key contents (offset / 256)) (fin.contains_key contents (offset / 256 + 1)) (offset / 256) (offset / 256 + 1)

-- ---- two stores that follow are one

-- a piece that is not put stays
other_piece : (contents : Contents) (n k : ℕ) (piece : List ℕ) → k ≢ n → fin.get (fin.insert contents n piece) k ≡ fin.get contents k
other_piece contents n k piece other = get-insert {X = List ℕ} nat_cmp_total contents n piece k ∙ go (eq_by_cmp nat_cmp k n) refl
  where
    go : (b : Bool) → eq_by_cmp nat_cmp k n ≡ b → cond b (Some piece) (fin.get contents k) ≡ fin.get contents k
    go true same = absurd (other (nat_cmp-IsAntisymmetric k n ((Equal-is (nat_cmp k n)).0 same)))
    go false differ = refl

same_bytes_of : (f g : ℕ → ℕ) (a : ℕ) → ((k : ℕ) → k < 256 → f (a + k) ≡ g (a + k)) → map f (range_with_len a 256) ≡ map g (range_with_len a 256)
same_bytes_of f g a same =
    ext_get_or 0 (map f (range_with_len a 256)) (map g (range_with_len a 256)) (length-map-range_with_len f a 256 ∙ sym (length-map-range_with_len g a 256))
    (λ k within.
    let low : k < 256 = omega (arith, within, length-map-range_with_len f a 256) in
    get_or-map-range_with_len f a 256 k (a + k) 0 low refl ∙ same k low ∙ sym (get_or-map-range_with_len g a 256 k (a + k) 0 low refl))

module _ (contents : Contents) (offset : ℕ) (front back : List ℕ) (ends : offset % 256 + length front ≡ 256) (some : 1 ≤ length back) (few : length front + length back ≤ 256) where
  all_long : length (front ++ back) ≡ length front + length back
  all_long = length-append front back

  first_piece : piece_after contents offset (front ++ back) (offset / 256) ≡ piece_after contents offset front (offset / 256)
  first_piece =
      same_bytes_of (byte_after contents offset (front ++ back)) (byte_after contents offset front) (256 * (offset / 256))
      (λ k low.
      let i : ℕ = 256 * (offset / 256) + k in
      elim (cases_lt i offset) [
        | inl before ↦ byte_before contents offset (front ++ back) i before ∙ sym (byte_before contents offset front i before)
        | inr from ↦
            byte_inside contents offset (front ++ back) i from (omega (arith, low, ends, all_long))
            ∙ get_or_append_left front back 0 (i - offset) (omega (arith, low, ends, from))
            ∙ sym (byte_inside contents offset front i from (omega (arith, low, ends)))
      ])

  abbrev after : Contents
  after = fin.insert contents (offset / 256) (piece_after contents offset front (offset / 256))

  second_piece : piece_after contents offset (front ++ back) (offset / 256 + 1) ≡ piece_after after (offset + length front) back (offset / 256 + 1)
  second_piece =
      same_bytes_of (byte_after contents offset (front ++ back)) (byte_after after (offset + length front) back) (256 * (offset / 256 + 1))
      (λ k low.
      let i : ℕ = 256 * (offset / 256 + 1) + k in
      let start : offset + length front ≡ 256 * (offset / 256 + 1) = omega (arith, ends) in
      let along : i - offset - length front ≡ i - (offset + length front) = omega arith in
      elim (cases_lt k (length back)) [
        | inl inside ↦
            byte_inside contents offset (front ++ back) i (omega (arith, start)) (omega (arith, start, all_long, inside))
            ∙ get_or-append_right front back (length front) (i - offset) 0 refl (omega (arith, start))
            ∙ ap (λ (j : ℕ). get_or back j 0) along
            ∙ sym (byte_inside after (offset + length front) back i (omega (arith, start)) (omega (arith, start, inside)))
        | inr past ↦
            let number : i / 256 ≡ offset / 256 + 1 = omega (arith, low) in
            let kept : fin.get after (i / 256) ≡ fin.get contents (i / 256) =
            other_piece contents (offset / 256) (i / 256) (piece_after contents offset front (offset / 256)) (λ same. omega (arith, number, same)) in
            byte_behind contents offset (front ++ back) i (omega (arith, start, all_long, past))
            ∙ ap (λ (o : Option (List ℕ)). get_or (unwrap_or o (replicate 256 0)) (i % 256) 0) (sym kept)
            ∙ sym (byte_behind after (offset + length front) back i (omega (arith, start, past)))
      ])

  pub written_two : written contents offset (front ++ back) ≡ written (written contents offset front) (offset + length front) back
  written_two =
      let next : (offset + length front) / 256 ≡ offset / 256 + 1 = omega (arith, ends) in
      let fits : (offset + length front) % 256 + length back ≤ 256 = omega (arith, ends, few) in
      let both : written contents offset (front ++ back) ≡ fin.insert (fin.insert contents (offset / 256) (piece_after contents offset (front ++ back) (offset / 256))) (offset / 256 + 1) (piece_after contents offset (front ++ back) (offset / 256 + 1)) =
      ap (put_all contents offset (front ++ back) contents) (two_touched offset (length (front ++ back)) (omega (arith, all_long, ends, some)) (omega (arith, all_long, few))) in
      let first : written contents offset front ≡ after = written_one contents offset front (omega (arith, ends)) (omega (arith, ends)) in
      let second : written after (offset + length front) back ≡ fin.insert after ((offset + length front) / 256) (piece_after after (offset + length front) back ((offset + length front) / 256)) =
      written_one after (offset + length front) back some fits in
      both
      ∙ ap (λ (p : List ℕ). fin.insert (fin.insert contents (offset / 256) p) (offset / 256 + 1) (piece_after contents offset (front ++ back) (offset / 256 + 1))) first_piece
      ∙ ap (λ (p : List ℕ). fin.insert after (offset / 256 + 1) p) second_piece
      ∙ sym (ap (λ (c : Contents). written c (offset + length front) back) first ∙ second ∙ ap (λ (n : ℕ). fin.insert after n (piece_after after (offset + length front) back n)) next)
