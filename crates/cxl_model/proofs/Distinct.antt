-- Numbers that differ.
use Rattle.std.proofs.Common.{◌≡◌, ℕ, zero, suc, ◌+◌, true, not, refl, arith, List, [], ◌∷◌, sym, ◌∙◌}
use Rattle.std.specs.Prelude.{◌==◌}
use Rattle.std.specs.List.{list_any, range_with_len}
use Rattle.std.proofs.lemmas.Bool.{and_from, not_from_false, eqb-true, false_from_ne_true}
use Rattle.std.proofs.lemmas.List.Folds.{Any-from_list_any}
use Rattle.cxl_enc.proofs.Numbers.{not_before}
use Rattle.cxl_window.specs.Fields.{AreDistinct}
use Rattle.cxl_model.specs.Rules.{are_distinct}

pub numbers_differ : (a n : ℕ) → are_distinct (range_with_len a n) ≡ true
numbers_differ a zero = refl
numbers_differ a (suc n) =
    and_from (not (list_any (λ m. m == a) (range_with_len (a + 1) n))) (are_distinct (range_with_len (a + 1) n))
    (not_from_false (list_any (λ m. m == a) (range_with_len (a + 1) n)) (not_before a (a + 1) n (omega arith))) (numbers_differ (a + 1) n)

-- the test of numbers that differ
pub distinct_test : (ns : List ℕ) → AreDistinct ns → are_distinct ns ≡ true
distinct_test [] distinct = refl
distinct_test (n ∷ ns) distinct =
    and_from (not (list_any (λ m. m == n) ns)) (are_distinct ns)
    (not_from_false (list_any (λ m. m == n) ns) (false_from_ne_true (list_any (λ m. m == n) ns) (λ any.
    let some = Any-from_list_any (λ m. m == n) ns any in
    let k : ℕ = some.0 in
    let within = some.2 in
    distinct 0 (suc k) some.1 (omega arith) (omega arith) (sym (eqb-true some.1 n some.4) ∙ sym some.3))))
    (distinct_test ns (λ i j d less within. distinct (suc i) (suc j) d (omega arith) (omega arith)))
