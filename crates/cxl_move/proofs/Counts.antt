-- How many entries a map has.
use Rattle.std.proofs.Common.{◌≡◌, ◌≢◌, ℕ, zero, suc, ◌+◌, ◌-◌, ◌<◌, ◌⊎◌, Bool, true, false, ◌&&◌, T, List, [], ◌∷◌, map, length, Option, None, Some, is_some, refl, sym, ap, subst, ◌∙◌, inl, inr, arith}
use Rattle.std.specs.Prelude.{Contains}
use Rattle.std.specs.List.{list_any}
use Rattle.std.specs.declared.cmp.Ordering.{Ordering}
use Rattle.std.specs.Ordering.{eq_by_cmp, is_lt}
use Rattle.std.specs.Cmp.{IsTotalOrder, tied_itself, eq_by_cmp_equiv, Equal-is}
use Rattle.std.specs.FinMap as fin
use Rattle.std.specs.FinMap.{FinMap, IsAntisymmetric}
use Rattle.std.specs.FinMap.Entries.{below_all, is_sorted}
use Rattle.std.proofs.lemmas.Bool.{false≢true, cases_Bool, cond-true, cond-false, or_cases, or_left, or_right}
use Rattle.std.proofs.lemmas.List.{length-map}
use Rattle.cxl_enc.proofs.Lists.{contains_head, contains_tail, contains_cases, contains_none}
use Rattle.cxl_move.proofs.Lists.{AreApart}

positive : (n : ℕ) → (n ≡ 0 → ⊥) → 0 < n
positive zero none = absurd (none refl)
positive (suc n) none = omega arith

none_there : {X : Type 0} (o : Option X) → (is_some o ≡ true → ⊥) → o ≡ None
none_there None not = refl
none_there (Some x) not = absurd (not refl)

first : (a b : Bool) → T (a && b) → T a
first true b p = tt
first false b p = absurd p

second : (a b : Bool) → T (a && b) → T b
second true b p = p
second false b p = absurd p

module _ {K : Type 0} {R : K → K → Ordering} (o : IsTotalOrder R) (same : IsAntisymmetric R) where
  one_key : (q k : K) → eq_by_cmp R q k ≡ true → q ≡ k
  one_key q k tied = same q k ((Equal-is (R q k)).0 tied)

  itself : (q k : K) → q ≡ k → eq_by_cmp R q k ≡ true
  itself q k is = ap (eq_by_cmp R q) (sym is) ∙ (eq_by_cmp_equiv o).refl q

  keys_cases : (q k : K) → (q ≡ k) ⊎ (q ≢ k)
  keys_cases q k = elim (cases_Bool (eq_by_cmp R q k)) [
    | inl tied ↦ inl (one_key q k tied)
    | inr apart ↦ inr (λ is. false≢true (sym apart ∙ itself q k is))
  ]

  above_itself : (x : K) → T (is_lt (R x x)) → ⊥
  above_itself x less = subst (λ r. T (is_lt r)) (tied_itself o x) less

  any_there : (q : K) (ks : List K) → Contains ks q → list_any (eq_by_cmp R q) ks ≡ true
  any_there q [] there = absurd (contains_none q there)
  any_there q (k ∷ ks) there =
      elim (contains_cases k q ks there) [
        | inl is ↦ or_left (eq_by_cmp R q k) (list_any (eq_by_cmp R q) ks) (itself q k (sym is))
        | inr later ↦ or_right (eq_by_cmp R q k) (list_any (eq_by_cmp R q) ks) (any_there q ks later)
      ]

  there_any : (q : K) (ks : List K) → list_any (eq_by_cmp R q) ks ≡ true → Contains ks q
  there_any q [] any = absurd (false≢true any)
  there_any q (k ∷ ks) any =
      elim (or_cases (eq_by_cmp R q k) (list_any (eq_by_cmp R q) ks) any) [
        | inl tied ↦ subst (Contains (k ∷ ks)) (sym (one_key q k tied)) (contains_head k ks)
        | inr later ↦ contains_tail k q ks (there_any q ks later)
      ]

  module _ {X : Type 0} where
    -- the second map is the first without these keys
    pub record IsWithout (ks : List K) (old new : FinMap R X) : Type 0 where
      pub gone : (q : K) → Contains ks q → fin.get new q ≡ None
      pub kept : (q : K) → (Contains ks q → ⊥) → fin.get new q ≡ fin.get old q

    -- the map has each of the keys
    abbrev pub HasKeys : List K → FinMap R X → Type 0
    HasKeys ks old = (q : K) → Contains ks q → fin.contains_key old q ≡ true

    some_key : (k : K) (old : FinMap R X) → fin.contains_key old k ≡ true → 0 < fin.len old
    some_key k old there =
        positive (fin.len old) (λ none.
        false≢true (sym (ap is_some (ap (λ (m : FinMap R X). fin.get m k) (fin.empty_of_len old none) ∙ fin.get-empty R k)) ∙ there))

    one_less : (k : K) (old : FinMap R X) → fin.contains_key old k ≡ true → fin.len old ≡ fin.len (fin.remove old k) + 1
    one_less k old there =
        let less : fin.len (fin.remove old k) ≡ fin.len old - 1 = fin.len-remove o old k ∙ cond-true (fin.contains_key old k) (fin.len old - 1) (fin.len old) there in
        omega (arith, less, some_key k old there)

    get_other : (k q : K) (old : FinMap R X) → q ≢ k → fin.get (fin.remove old k) q ≡ fin.get old q
    get_other k q old other =
        fin.get-remove o old k q
        ∙ elim (cases_Bool (eq_by_cmp R q k)) [
          | inl tied ↦ absurd (other (one_key q k tied))
          | inr apart ↦ cond-false (eq_by_cmp R q k) None (fin.get old q) apart
        ]

    get_gone : (k : K) (old : FinMap R X) → fin.get (fin.remove old k) k ≡ None
    get_gone k old = fin.get-remove o old k k ∙ cond-true (eq_by_cmp R k k) None (fin.get old k) (itself k k refl)

    -- a map has as many entries more as keys are gone
    pub len_without : (ks : List K) (old new : FinMap R X) → AreApart ks → HasKeys ks old → IsWithout ks old new → fin.len old ≡ fin.len new + length ks
    len_without [] old new apart has without =
        let equal : new ≡ old = fin.same_map o same new old (λ q. without.kept q (contains_none q)) in
        omega (arith, ap fin.len equal)
    len_without (k ∷ ks) old new apart has without =
        let mid : FinMap R X = fin.remove old k in
        let rest : IsWithout ks mid new = record {
          gone = λ q there. without.gone q (contains_tail k q ks there);
          kept = λ q not. elim (keys_cases q k) [
            | inl is ↦ subst (λ (x : K). fin.get new x ≡ fin.get mid x) (sym is) (without.gone k (contains_head k ks) ∙ sym (get_gone k old))
            | inr other ↦
                without.kept q (λ there. elim (contains_cases k q ks there) [ inl is ↦ other (sym is) | inr later ↦ not later ])
                ∙ sym (get_other k q old other)
          ];
        } in
        let still : HasKeys ks mid = λ q there.
        ap is_some (get_other k q old (λ is. apart.0 (subst (Contains ks) is there))) ∙ has q (contains_tail k q ks there) in
        let later = len_without ks mid new apart.1 still rest in
        omega (arith, later, one_less k old (has k (contains_head k ks)))

    -- a map has as many entries as it has keys
    pub len_is : (ks : List K) (old : FinMap R X) → AreApart ks → HasKeys ks old → ((q : K) → fin.contains_key old q ≡ true → Contains ks q) → fin.len old ≡ length ks
    len_is ks old apart has all =
        let none : IsWithout ks old fin.empty = record {
          gone = λ q there. fin.get-empty R q;
          kept = λ q not. fin.get-empty R q ∙ sym (none_there (fin.get old q) (λ there. not (all q there)));
        } in
        omega (arith, len_without ks old fin.empty apart has none, fin.len-empty R X)

    -- ---- the keys of a map

    none_below : (x : K) (es : List (K × X)) → T (below_all R x es) → Contains (map (λ e. e.0) es) x → ⊥
    none_below x [] below there = contains_none x there
    none_below x (e ∷ es) below there =
        elim (contains_cases e.0 x (map (λ e. e.0) es) there) [
          | inl is ↦ above_itself x (subst (λ y. T (is_lt (R x y))) is (first _ _ below))
          | inr later ↦ none_below x es (second _ _ below) later
        ]

    apart_sorted : (es : List (K × X)) → T (is_sorted R es) → AreApart (map (λ e. e.0) es)
    apart_sorted [] sorted = tt
    apart_sorted (e ∷ es) sorted = (none_below e.0 es (first _ _ sorted), apart_sorted es (second _ _ sorted))

    pub apart-keys : (m : FinMap R X) → AreApart (fin.keys m)
    apart-keys m = apart_sorted (fin.entries m) (fin.entries_sorted m)

    pub length-keys : (m : FinMap R X) → length (fin.keys m) ≡ fin.len m
    length-keys m = length-map (fin.entries m) (λ e. e.0) ∙ sym (fin.len-entries m)

    pub keys_to : (m : FinMap R X) (q : K) → fin.contains_key m q ≡ true → Contains (fin.keys m) q
    keys_to m q there = there_any q (fin.keys m) (sym (fin.contains_key-keys m q) ∙ there)

    pub keys_from : (m : FinMap R X) (q : K) → Contains (fin.keys m) q → fin.contains_key m q ≡ true
    keys_from m q there = fin.contains_key-keys m q ∙ any_there q (fin.keys m) there
