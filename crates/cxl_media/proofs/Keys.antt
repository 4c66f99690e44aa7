-- The order of keys, and what a list of items has at a key.
use Rattle.std.proofs.Common.{◌≡◌, ◌≢◌, ◌⊎◌, ℕ, suc, ◌*◌, ◌<◌, Bool, true, false, cond, not, ◌&&◌, eqb, leb, ltb, List, [], ◌∷◌, length, get_or, None, Some, refl, sym, ap, ◌∙◌, inl, inr, arith}
use Rattle.std.specs.declared.cmp.Ordering.TheVariants.{Equal}
use Rattle.std.specs.Ordering.{nat_cmp, eq_by_cmp}
use Rattle.std.specs.Cmp.{IsTotalOrder, nat_cmp_total, eq_by_cmp_equiv, Equal-is}
use Rattle.std.proofs.lemmas.Cmp.{on_total, then_total}
use Rattle.std.proofs.lemmas.Map.Lookups.{exact_pairs, exact_unsigned}
use Rattle.std.proofs.lemmas.Bool.Decides.{nat_tests}
use Rattle.std.proofs.lemmas.Bool.{cases_Bool, cond-true, cond-false, true≢false}
use Rattle.std.specs.FinMap.{find}
use Rattle.std.specs.FinMap as fin
use Rattle.cxl_media.specs.Blocks.{Key, key_cmp, Blocks, is_between, scrubbed}

pub key_total : IsTotalOrder key_cmp
key_total = then_total (on_total (λ (k : Key). k.0) nat_cmp_total) (on_total (λ (k : Key). k.1) nat_cmp_total)

-- keys that compare alike are one
pub key_exact : (a b : Key) → key_cmp a b ≡ Equal → a ≡ b
key_exact = exact_pairs nat_cmp nat_cmp exact_unsigned exact_unsigned

pub same_key : (a b : Key) → eq_by_cmp key_cmp a b ≡ true → a ≡ b
same_key a b e = key_exact a b ((Equal-is (key_cmp a b)).0 e)

pub key_itself : (a : Key) → eq_by_cmp key_cmp a a ≡ true
key_itself a = (eq_by_cmp_equiv key_total).refl a

pub key_is : (a b : Key) → a ≡ b → eq_by_cmp key_cmp a b ≡ true
key_is a b e = ap (eq_by_cmp key_cmp a) (sym e) ∙ key_itself a

pub key_is_not : (a b : Key) → a ≢ b → eq_by_cmp key_cmp a b ≡ false
key_is_not a b other = elim (cases_Bool (eq_by_cmp key_cmp a b)) [ inl same ↦ absurd (other (same_key a b same)) | inr differs ↦ differs ]

-- two keys are one or not
pub keys_cases : (a b : Key) → (a ≡ b) ⊎ (a ≢ b)
keys_cases a b =
    elim (cases_Bool (eq_by_cmp key_cmp a b)) [
      | inl same ↦ inl (same_key a b same)
      | inr differs ↦ inr (λ e. true≢false (sym (key_is a b e) ∙ differs))
    ]

pub not_none : {X : Type 0} (x : X) → Some x ≢ None
not_none x e = cc

pub same_some : {X : Type 0} (x y : X) → Some x ≡ Some y → x ≡ y
same_some x y e = cc

module _ {X : Type 0} where
  pub find_here : (q : Key) (e : Key × X) (es : List (Key × X)) → q ≡ e.0 → find key_cmp q (e ∷ es) ≡ Some e.1
  find_here q e es same = cond-true _ (Some e.1) (find key_cmp q es) (key_is q e.0 same)

  pub find_later : (q : Key) (e : Key × X) (es : List (Key × X)) → q ≢ e.0 → find key_cmp q (e ∷ es) ≡ find key_cmp q es
  find_later q e es other = cond-false _ (Some e.1) (find key_cmp q es) (key_is_not q e.0 other)

  -- a key that no item has is not found
  pub find_nowhere : (q : Key) (es : List (Key × X)) → ((k : ℕ) (d : Key × X) → k < length es → (get_or es k d).0 ≢ q) → find key_cmp q es ≡ None
  find_nowhere q [] none = refl
  find_nowhere q (e ∷ es) none =
      find_later q e es (λ same. none 0 e (omega arith) (sym same))
      ∙ find_nowhere q es (λ k d within. none (suc k) d (omega arith))

-- between an address and itself stands no block
none_between : (ep from to : ℕ) (key : Key) → from ≡ to → is_between ep from to key ≡ false
none_between ep from to key same = by_number (256 * key.1)
  where
    outside : (n : ℕ) → (leb from n && ltb n to) ≡ false
    outside n = grind (arith, nat_tests)

    by_number : (n : ℕ) → (eqb key.0 ep && (leb from n && ltb n to)) ≡ false
    by_number n = ap (λ b. eqb key.0 ep && b) (outside n) ∙ and_false (eqb key.0 ep)
      where
        and_false : (b : Bool) → (b && false) ≡ false
        and_false true = refl
        and_false false = refl

-- nor is anything taken out
pub scrubbed_none : (blocks : Blocks) (ep from to : ℕ) → from ≡ to → blocks ≡ scrubbed blocks ep from to
scrubbed_none blocks ep from to same =
    fin.same_map key_total key_exact blocks (scrubbed blocks ep from to) (λ q.
    sym (fin.get-retain_keys blocks (λ k. not (is_between ep from to k)) q (λ x tied. ap (λ k. not (is_between ep from to k)) (sym (key_exact q x tied)))
    ∙ ap (λ b. cond (not b) (fin.get blocks q) None) (none_between ep from to q same)))
