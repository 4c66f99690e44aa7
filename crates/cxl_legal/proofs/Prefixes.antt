-- How many elements in front pass a test.
use Rattle.std.proofs.Common.{◌≡◌, ◌<◌, ◌≤◌, true, false, Bool, List, [], ◌∷◌, length, refl, sym, ◌∙◌, inl, inr, arith}
use Rattle.std.specs.Prelude.{◌==◌}
use Rattle.std.specs.List.{list_all, prefix_len}
use Rattle.std.proofs.lemmas.Bool.{cases_Bool, false≢true, eq-eqb, ne_eqb}

-- ---- decoders in front

module _ {X : Type 0} (p : X → Bool) where
  prefix_whole : (xs : List X) → list_all p xs ≡ true → prefix_len p xs ≡ length xs
  prefix_whole [] all = refl
  prefix_whole (x ∷ xs) all =
      elim (cases_Bool (p x)) [
        | inl passes ↦ let rest = prefix_whole xs (rw passes at all) in rw passes (omega arith)
        | inr fails ↦ absurd (false≢true (rw fails at all))
      ]

  prefix_short : (xs : List X) → list_all p xs ≡ false → prefix_len p xs < length xs
  prefix_short [] all = absurd (false≢true (sym all))
  prefix_short (x ∷ xs) all =
      elim (cases_Bool (p x)) [
        | inl passes ↦ let rest = prefix_short xs (rw passes at all) in rw passes (omega arith)
        | inr fails ↦ rw fails (omega arith)
      ]

  pub prefix_fits : (xs : List X) → prefix_len p xs ≤ length xs
  prefix_fits xs =
      elim (cases_Bool (list_all p xs)) [
        | inl all ↦ let e = prefix_whole xs all in omega arith
        | inr some ↦ let short = prefix_short xs some in omega arith
      ]

  -- as many in front as there are
  pub all_in_front : (xs : List X) → (prefix_len p xs == length xs) ≡ list_all p xs
  all_in_front xs =
      elim (cases_Bool (list_all p xs)) [
        | inl all ↦ eq-eqb (prefix_len p xs) (length xs) (prefix_whole xs all) ∙ sym all
        | inr some ↦ let short = prefix_short xs some in ne_eqb (prefix_len p xs) (length xs) (λ e. omega arith) ∙ sym some
      ]
