-- What the words of slices of writes leave.
use Rattle.std.proofs.Common.{◌≡◌, ℕ, zero, suc, ◌+◌, ◌-◌, ◌≤◌, List, [], ◌∷◌, ◌++◌, length, get_or, map, reverse, take, drop, Some, refl, sym, ap, ◌∙◌, arith}
use Rattle.std.specs.Prelude.{slice_get}
use Rattle.std.proofs.Math.Seq.{take-add, take-suc}
use Rattle.std.proofs.lemmas.List.{take-map, take_all, length-take-le, length-drop, length-map, length-reverse, get_or-map, get_or-reverse, get_or-take, get_or-drop}
use Rattle.std.proofs.lemmas.List.Sums.{fold-append}
use Rattle.std.proofs.lemmas.Option.{slice_get-get_or}
use Rattle.cxl_bus.specs.declared.sent.Sent.{Sent}
use Rattle.cxl_bus.specs.Trail.{blocks_sent}
use Rattle.cxl_regs.specs.Registers.{Registers}
use Rattle.cxl_regs.specs.Blocks.{blocks_after}
use Rattle.cxl_apply.specs.declared.write.Write.{Write}
use Rattle.cxl_apply.specs.Jobs.{blocks_after_write, blocks_after_writes, blocks_done, AreTakenBack}
use Rattle.cxl_apply.specs.WordsSent.{made, taken_back, writes_between, words_made, words_taken_back}

-- ---- lists

take_front : {X : Type 0} (k n : ℕ) (xs : List X) → k ≤ n → take k (take n xs) ≡ take k xs
take_front zero n xs low = refl
take_front (suc k) zero xs low = absurd (omega arith)
take_front (suc k) (suc n) [] low = refl
take_front {X = X} (suc k) (suc n) (x ∷ xs) low = ap (λ (ys : List X). x ∷ ys) (take_front k n xs (omega arith))

pub sent_append : (blocks : List Registers) (words others : List Sent) → blocks_sent blocks (words ++ others) ≡ blocks_sent (blocks_sent blocks words) others
sent_append blocks words others = fold-append (λ (now : List Registers) (word : Sent). blocks_after now word.node word.off word.value) blocks words others

-- ---- writes that are made

sent_made : (blocks : List Registers) (writes : List Write) → blocks_sent blocks (map made writes) ≡ blocks_after_writes blocks writes
sent_made blocks [] = refl
sent_made blocks (write ∷ writes) = sent_made (blocks_after_write blocks write) writes

module _ (blocks : List Registers) (writes : List Write) where
  -- the first k of the words of a slice
  pub made_part : (before upto k : ℕ) → k ≤ upto - before
      → blocks_sent (blocks_done blocks writes before) (take k (words_made writes before upto)) ≡ blocks_done blocks writes (before + k)
  made_part before upto k low =
      ap (λ (words : List Sent). blocks_sent (blocks_done blocks writes before) words)
      (take-map made k (writes_between writes before upto) ∙ ap (λ (ws : List Write). map made ws) (take_front k (upto - before) (drop before writes) low))
      ∙ sent_made (blocks_done blocks writes before) (take k (drop before writes))
      ∙ sym (fold-append blocks_after_write blocks (take before writes) (take k (drop before writes)))
      ∙ ap (λ (ws : List Write). blocks_after_writes blocks ws) (sym (take-add before k writes))

  pub made_count : (before upto : ℕ) → upto ≤ length writes → length (words_made writes before upto) ≡ upto - before
  made_count before upto within =
      length-map (writes_between writes before upto) made
      ∙ length-take-le (upto - before) (drop before writes) (let left = length-drop before writes in omega (arith, left))

  -- all of them
  pub made_all : (before upto : ℕ) → before ≤ upto → upto ≤ length writes → blocks_sent (blocks_done blocks writes before) (words_made writes before upto) ≡ blocks_done blocks writes upto
  made_all before upto some within =
      let count = made_count before upto within in
      ap (λ (words : List Sent). blocks_sent (blocks_done blocks writes before) words) (sym (take_all (upto - before) (words_made writes before upto) (omega (arith, count))))
      ∙ made_part before upto (upto - before) (omega arith)
      ∙ ap (blocks_done blocks writes) (let e : before + (upto - before) ≡ upto = omega arith in e)

  -- ---- writes that are taken back

  pub back_count : (before upto : ℕ) → upto ≤ length writes → length (words_taken_back writes before upto) ≡ upto - before
  back_count before upto within =
      length-map (reverse (writes_between writes before upto)) taken_back
      ∙ length-reverse (writes_between writes before upto)
      ∙ length-take-le (upto - before) (drop before writes) (let left = length-drop before writes in omega (arith, left))

  -- the word at a place of the slice read from its end
  word_back : (before upto left k : ℕ) (d : Write) → upto ≤ length writes → before ≤ left → left + (k + 1) ≡ upto
      → get_or (words_taken_back writes before upto) k (taken_back d) ≡ taken_back (get_or writes left d)
  word_back before upto left k d within from place =
      let n : ℕ = upto - before in
      let xs : List Write = writes_between writes before upto in
      let long : length xs ≡ n = length-take-le n (drop before writes) (let rest = length-drop before writes in omega (arith, rest)) in
      let there : get_or (reverse xs) k d ≡ get_or writes left d =
      get_or-reverse xs k d (omega (arith, long))
      ∙ get_or-take n (drop before writes) (length xs - 1 - k) d (omega (arith, long))
      ∙ get_or-drop before writes (length xs - 1 - k) d
      ∙ ap (λ (i : ℕ). get_or writes i d) (let e : before + (length xs - 1 - k) ≡ left = omega (arith, long) in e) in
      get_or-map taken_back (reverse xs) k d (taken_back d) (omega (arith, long, length-reverse xs)) ∙ ap taken_back there

  module _ (back : AreTakenBack blocks writes) where
    any : Write
    any = record { node = 0; off = 0; value = 0; back = 0 }

    -- the first k of the words that take back a slice
    pub back_part : (before upto left k : ℕ) → upto ≤ length writes → before ≤ left → left + k ≡ upto
        → blocks_sent (blocks_done blocks writes upto) (take k (words_taken_back writes before upto)) ≡ blocks_done blocks writes left
    back_part before upto left zero within from place = ap (blocks_done blocks writes) (let e : upto ≡ left = omega arith in e)
    back_part before upto left (suc k) within from place =
        let words : List Sent = words_taken_back writes before upto in
        let count = back_count before upto within in
        let write : Write = get_or writes left any in
        let next : get_or words k (taken_back any) ≡ taken_back write = word_back before upto left k any within from (omega arith) in
        let there : slice_get writes left ≡ Some write = slice_get-get_or writes left any (omega arith) in
        ap (λ (ws : List Sent). blocks_sent (blocks_done blocks writes upto) ws) (take-suc words k (taken_back any) (omega (arith, count)))
        ∙ sent_append (blocks_done blocks writes upto) (take k words) (get_or words k (taken_back any) ∷ [])
        ∙ ap (λ (now : List Registers). blocks_sent now (get_or words k (taken_back any) ∷ [])) (back_part before upto (left + 1) k within (omega arith) (omega arith))
        ∙ ap (λ (word : Sent). blocks_sent (blocks_done blocks writes (left + 1)) (word ∷ [])) next
        ∙ back.each left write there

    -- all of them
    pub back_all : (before upto : ℕ) → before ≤ upto → upto ≤ length writes → blocks_sent (blocks_done blocks writes upto) (words_taken_back writes before upto) ≡ blocks_done blocks writes before
    back_all before upto some within =
        let count = back_count before upto within in
        ap (λ (words : List Sent). blocks_sent (blocks_done blocks writes upto) words) (sym (take_all (upto - before) (words_taken_back writes before upto) (omega (arith, count))))
        ∙ back_part before upto before (upto - before) within (omega arith) (omega arith)
