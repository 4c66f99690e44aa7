-- Lists that go together still do when one of each is added or taken away.
use Rattle.std.proofs.Common.{◌≡◌, ℕ, ◌+◌, ◌<◌, ◌≤◌, List, [], ◌∷◌, ◌++◌, length, sym, ap, subst, ◌∙◌, arith}
use Rattle.std.specs.Prelude.{insert, remove}
use Rattle.std.proofs.lemmas.List.{length-append}
use Rattle.std.proofs.lemmas.List.Edits.{length-insert, length-remove}

module _ {X Y : Type 0} (xs now : List X) (ys left : List Y) (same : length ys ≡ length xs) where
  pub pushed_together : (x : X) (y : Y) → now ≡ xs ++ x ∷ [] → left ≡ ys ++ y ∷ [] → length left ≡ length now
  pushed_together x y is other =
      ap length other ∙ length-append ys (y ∷ []) ∙ ap (λ (n : ℕ). n + 1) same ∙ sym (length-append xs (x ∷ [])) ∙ sym (ap length is)

  pub inserted_together : (i : ℕ) (x : X) (y : Y) → i ≤ length xs → now ≡ insert xs i x → left ≡ insert ys i y → length left ≡ length now
  inserted_together i x y low is other =
      ap length other ∙ length-insert ys i y (subst (λ (n : ℕ). i ≤ n) (sym same) low) ∙ ap (λ (n : ℕ). n + 1) same ∙ sym (length-insert xs i x low) ∙ sym (ap length is)

  pub removed_together : (i : ℕ) → i < length xs → now ≡ remove xs i → left ≡ remove ys i → length left ≡ length now
  removed_together i low is other =
      let one = ap length is in
      let two = ap length other in
      let fewer = length-remove xs i low in
      let also = length-remove ys i (let e = same in omega (arith, e, low)) in
      omega (arith, one, two, fewer, also, same)

module _ {X : Type 0} (xs now : List X) (n : ℕ) where
  pub few_pushed : (x : X) → now ≡ xs ++ x ∷ [] → length xs < n → length now ≤ n
  few_pushed x is room =
      let one = ap length is in
      let more = length-append xs (x ∷ []) in
      omega (arith, one, more, room)

  pub few_inserted : (i : ℕ) (x : X) → i ≤ length xs → now ≡ insert xs i x → length xs < n → length now ≤ n
  few_inserted i x low is room =
      let one = ap length is in
      let more = length-insert xs i x low in
      omega (arith, one, more, room)

  pub few_removed : (i : ℕ) → i < length xs → now ≡ remove xs i → length xs ≤ n → length now ≤ n
  few_removed i low is few =
      let one = ap length is in
      let fewer = length-remove xs i low in
      omega (arith, one, fewer, few)
