-- The words of bytes, one after the other.
use Rattle.std.proofs.Common.{◌≡◌, ℕ, suc, ◌+◌, ◌-◌, ◌<◌, ◌≤◌, Bool, true, false, not, cond, List, [], ◌∷◌, ◌++◌, length, take, drop, refl, sym, ap, ◌∙◌, arith, append_assoc, unwrap_or, get_or, subst, drop-cons}
use Rattle.std.proofs.lemmas.List.{append-nil, length-take, drop-drop, drop_all, take_all, length-drop}
use Rattle.std.proofs.lemmas.List.Sums.{prefix_len-le-length}
use Rattle.std.proofs.lemmas.Bool.Decides.{nat_tests}
use Rattle.std.specs.List.{position, position_or_len}
use Rattle.cxl_script.specs.Words.{Word, is_blank, ended, line_words_from}

-- the first place of a byte, or the end where there is none
pub unwrap_or-position : (p : ℕ → Bool) (bs : List ℕ) → unwrap_or (position p bs) (length bs) ≡ position_or_len p bs
unwrap_or-position p bs = let within = prefix_len-le-length (λ b. not (p b)) bs in grind (arith, nat_tests)

abbrev pub blanks : List ℕ → ℕ
blanks bs = position_or_len (λ byte. not (is_blank byte)) bs

from_blank : (at b : ℕ) (bs begun : List ℕ) → is_blank b ≡ true → line_words_from at begun (b ∷ bs) ≡ ended at begun ++ line_words_from (at + 1) [] bs
from_blank at b bs begun blank = ap (λ (t : Bool). cond t (ended at begun ++ line_words_from (at + 1) [] bs) (line_words_from (at + 1) (begun ++ b ∷ []) bs)) blank

from_byte : (at b : ℕ) (bs begun : List ℕ) → is_blank b ≡ false → line_words_from at begun (b ∷ bs) ≡ line_words_from (at + 1) (begun ++ b ∷ []) bs
from_byte at b bs begun blank = ap (λ (t : Bool). cond t (ended at begun ++ line_words_from (at + 1) [] bs) (line_words_from (at + 1) (begun ++ b ∷ []) bs)) blank

blanks-blank : (b : ℕ) (bs : List ℕ) → is_blank b ≡ true → blanks (b ∷ bs) ≡ suc (blanks bs)
blanks-blank b bs blank = ap (λ (t : Bool). cond (not (not t)) (1 + blanks bs) 0) blank ∙ omega arith

blanks-byte : (b : ℕ) (bs : List ℕ) → is_blank b ≡ false → blanks (b ∷ bs) ≡ 0
blanks-byte b bs blank = ap (λ (t : Bool). cond (not (not t)) (1 + blanks bs) 0) blank

skipped : (n m : ℕ) (bs cs : List ℕ) → n ≡ m → bs ≡ cs → line_words_from n [] bs ≡ line_words_from m [] cs
skipped n m bs cs p q = cc

blanks_step : (at b : ℕ) (bs : List ℕ) (t : Bool) → is_blank b ≡ t → line_words_from (at + 1) [] bs ≡ line_words_from (at + 1 + blanks bs) [] (drop (blanks bs) bs) → line_words_from at [] (b ∷ bs) ≡ line_words_from (at + blanks (b ∷ bs)) [] (drop (blanks (b ∷ bs)) (b ∷ bs))
blanks_step at b bs true blank rest =
    from_blank at b bs [] blank ∙ rest ∙ skipped (at + 1 + blanks bs) (at + blanks (b ∷ bs)) _ _ (omega (arith, blanks-blank b bs blank)) (sym (ap (λ n. drop n (b ∷ bs)) (blanks-blank b bs blank)))
blanks_step at b bs false byte rest =
    skipped at (at + blanks (b ∷ bs)) _ _ (omega (arith, blanks-byte b bs byte)) (sym (ap (λ n. drop n (b ∷ bs)) (blanks-byte b bs byte)))

-- blanks in front are passed over
pub line_words_from-blanks : (at : ℕ) (bs : List ℕ) → line_words_from at [] bs ≡ line_words_from (at + blanks bs) [] (drop (blanks bs) bs)
line_words_from-blanks at [] = refl
line_words_from-blanks at (b ∷ bs) = blanks_step at b bs (is_blank b) refl (line_words_from-blanks (at + 1) bs)

abbrev pub upto : List ℕ → ℕ
upto bs = position_or_len is_blank bs

upto-blank : (b : ℕ) (bs : List ℕ) → is_blank b ≡ true → upto (b ∷ bs) ≡ 0
upto-blank b bs blank = ap (λ (t : Bool). cond (not t) (1 + upto bs) 0) blank

upto-byte : (b : ℕ) (bs : List ℕ) → is_blank b ≡ false → upto (b ∷ bs) ≡ suc (upto bs)
upto-byte b bs byte = ap (λ (t : Bool). cond (not t) (1 + upto bs) 0) byte ∙ omega arith

found : (n m : ℕ) (xs ys bs cs : List ℕ) → n ≡ m → xs ≡ ys → bs ≡ cs → ended n xs ++ line_words_from n [] bs ≡ ended m ys ++ line_words_from m [] cs
found n m xs ys bs cs p q r = cc

-- a word with the bytes of it that are read, and then those up to the first blank
word_step : (at b : ℕ) (bs begun : List ℕ) (t : Bool) → is_blank b ≡ t → line_words_from (at + 1) (begun ++ b ∷ []) bs ≡ ended (at + 1 + upto bs) (begun ++ b ∷ [] ++ take (upto bs) bs) ++ line_words_from (at + 1 + upto bs) [] (drop (upto bs) bs)
    → line_words_from at begun (b ∷ bs) ≡ ended (at + upto (b ∷ bs)) (begun ++ take (upto (b ∷ bs)) (b ∷ bs)) ++ line_words_from (at + upto (b ∷ bs)) [] (drop (upto (b ∷ bs)) (b ∷ bs))
word_step at b bs begun true blank rest =
    let none = upto-blank b bs blank in
    from_blank at b bs begun blank ∙ ap (λ (ws : List Word). ended at begun ++ ws) (sym (from_blank at b bs [] blank))
    ∙ found at (at + upto (b ∷ bs)) begun (begun ++ take (upto (b ∷ bs)) (b ∷ bs)) (b ∷ bs) (drop (upto (b ∷ bs)) (b ∷ bs)) (omega (arith, none))
    (sym (ap (λ n. begun ++ take n (b ∷ bs)) none ∙ append-nil begun)) (sym (ap (λ n. drop n (b ∷ bs)) none))
word_step at b bs begun false byte rest =
    let more = upto-byte b bs byte in
    from_byte at b bs begun byte ∙ rest
    ∙ found (at + 1 + upto bs) (at + upto (b ∷ bs)) (begun ++ b ∷ [] ++ take (upto bs) bs) (begun ++ take (upto (b ∷ bs)) (b ∷ bs)) (drop (upto bs) bs) (drop (upto (b ∷ bs)) (b ∷ bs)) (omega (arith, more))
    (append_assoc begun (b ∷ []) (take (upto bs) bs) ∙ sym (ap (λ n. begun ++ take n (b ∷ bs)) more)) (sym (ap (λ n. drop n (b ∷ bs)) more))

line_words_from-word : (at : ℕ) (begun bs : List ℕ) → line_words_from at begun bs ≡ ended (at + upto bs) (begun ++ take (upto bs) bs) ++ line_words_from (at + upto bs) [] (drop (upto bs) bs)
line_words_from-word at begun [] = grind (arith, append-nil)
line_words_from-word at begun (b ∷ bs) = word_step at b bs begun (is_blank b) refl (line_words_from-word (at + 1) (begun ++ b ∷ []) bs)

ended-some : (at n : ℕ) (b : ℕ) (bs : List ℕ) → length (b ∷ bs) ≡ n → ended (at + n) (b ∷ bs) ≡ record { at = at; text = b ∷ bs } ∷ []
ended-some at n b bs len = let same : at + n - length (b ∷ bs) ≡ at = omega arith in ap (λ (i : ℕ). record { at = i; text = b ∷ bs } ∷ []) same

ended_taken : (at n m b : ℕ) (bs : List ℕ) → n ≡ suc m → m ≤ length bs → ended (at + n) (take n (b ∷ bs)) ≡ record { at = at; text = take n (b ∷ bs) } ∷ []
ended_taken at n m b bs e within =
    let P : ℕ → Type 0 = λ i. ended (at + i) (take i (b ∷ bs)) ≡ record { at = at; text = take i (b ∷ bs) } ∷ [] in
    subst P (sym e) (ended-some at (suc m) b (take m bs) (omega (arith, length-take m bs)))

-- a byte that is no blank begins a word
line_words_from-begun : (at b : ℕ) (bs : List ℕ) → is_blank b ≡ false → line_words_from at [] (b ∷ bs) ≡ record { at = at; text = take (upto (b ∷ bs)) (b ∷ bs) } ∷ line_words_from (at + upto (b ∷ bs)) [] (drop (upto (b ∷ bs)) (b ∷ bs))
line_words_from-begun at b bs byte =
    line_words_from-word at [] (b ∷ bs)
    ∙ ap (λ (ws : List Word). ws ++ line_words_from (at + upto (b ∷ bs)) [] (drop (upto (b ∷ bs)) (b ∷ bs)))
    (ended_taken at (upto (b ∷ bs)) (upto bs) b bs (upto-byte b bs byte) (prefix_len-le-length (λ c. not (is_blank c)) bs))

-- blanks end at a byte that is none
blanks_end_step : (b : ℕ) (bs : List ℕ) (c : ℕ) (cs : List ℕ) (t : Bool) → is_blank b ≡ t → (drop (blanks bs) bs ≡ c ∷ cs → is_blank c ≡ false) → drop (blanks (b ∷ bs)) (b ∷ bs) ≡ c ∷ cs → is_blank c ≡ false
blanks_end_step b bs c cs true blank rest e = rest (sym (ap (λ n. drop n (b ∷ bs)) (blanks-blank b bs blank)) ∙ e)
blanks_end_step b bs c cs false byte rest e =
    let same : b ∷ bs ≡ c ∷ cs = sym (ap (λ n. drop n (b ∷ bs)) (blanks-byte b bs byte)) ∙ e in
    let head : b ≡ c = cc in sym (ap is_blank head) ∙ byte

blanks_end : (bs : List ℕ) (c : ℕ) (cs : List ℕ) → drop (blanks bs) bs ≡ c ∷ cs → is_blank c ≡ false
blanks_end [] c cs e = cc
blanks_end (b ∷ bs) c cs e = blanks_end_step b bs c cs (is_blank b) refl (blanks_end bs c cs) e

next_is : (start n m : ℕ) (xs ys bs cs : List ℕ) → n ≡ m → xs ≡ ys → bs ≡ cs → record { at = start; text = xs } ∷ line_words_from (start + n) [] bs ≡ record { at = start; text = ys } ∷ line_words_from (start + m) [] cs
next_is start n m xs ys bs cs p q r = cc

-- behind the blanks of a place stands the next word, or nothing
module _ (line : List ℕ) (at start : ℕ) (before : start ≡ at + blanks (drop at line)) where
  left : drop (blanks (drop at line)) (drop at line) ≡ drop start line
  left = drop-drop (blanks (drop at line)) at line ∙ ap (λ n. drop n line) (sym before)

  behind_blanks : line_words_from at [] (drop at line) ≡ line_words_from start [] (drop start line)
  behind_blanks =
      line_words_from-blanks at (drop at line)
      ∙ skipped (at + blanks (drop at line)) start (drop (blanks (drop at line)) (drop at line)) (drop start line) (sym before) left

  pub no_word : start ≡ length line → line_words_from at [] (drop at line) ≡ []
  no_word end = behind_blanks ∙ ap (line_words_from start []) (drop_all start line (omega arith))

  pub some_word : (len : ℕ) → start < length line → len ≡ upto (drop start line)
      → (0 < len) × (line_words_from at [] (drop at line) ≡ record { at = start; text = take (start + len - start) (drop start line) } ∷ line_words_from (start + len) [] (drop (start + len) line))
  some_word len within is =
      let c = get_or line start 0 in
      let cs = drop (suc start) line in
      let split : drop start line ≡ c ∷ cs = drop-cons line start 0 within in
      let byte = blanks_end (drop at line) c cs (left ∙ split) in
      let n : len ≡ upto (c ∷ cs) = is ∙ ap upto split in
      let same : start + len - start ≡ len = omega arith in
      let text : take (start + len - start) (drop start line) ≡ take (upto (c ∷ cs)) (c ∷ cs) =
      ap (λ i. take i (drop start line)) (same ∙ n) ∙ ap (λ bs. take (upto (c ∷ cs)) bs) split in
      let rest : drop (start + len) line ≡ drop (upto (c ∷ cs)) (c ∷ cs) =
      sym (drop-drop len start line) ∙ ap (λ i. drop i (drop start line)) n ∙ ap (λ bs. drop (upto (c ∷ cs)) bs) split in (
        omega (arith, n, upto-byte c cs byte),
        behind_blanks ∙ ap (λ bs. line_words_from start [] bs) split ∙ line_words_from-begun start c cs byte
            ∙ sym (next_is start len (upto (c ∷ cs)) _ _ _ _ n text rest),
      )

-- what `&bytes[n..]` is
pub from_place : (bytes : List ℕ) (n : ℕ) → take (length bytes - n) (drop n bytes) ≡ drop n bytes
from_place bytes n = take_all (length bytes - n) (drop n bytes) (omega (arith, length-drop n bytes))

-- places of bytes lie within them
pub ruleset places = (unwrap_or-position, prefix_len-le-length)
