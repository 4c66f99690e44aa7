-- What is given in a window, target by target, and in rising order.
use Rattle.std.proofs.Common.{◌≡◌, ℕ, suc, ◌+◌, ◌<◌, ◌≤◌, Bool, true, false, cond, List, [], ◌∷◌, ◌++◌, length, get_or, map, drop, Option, Some, None, refl, sym, ap, ◌∙◌, subst, arith, append_assoc}
use Rattle.std.specs.Prelude.{◌==◌, option_map, option_and_then, filter, All}
use Rattle.std.specs.List.{range_with_len}
use Rattle.std.proofs.Math.Seq.{drop-cons}
use Rattle.std.proofs.lemmas.Bool.{eq-eqb}
use Rattle.std.proofs.lemmas.List.Elements.{filter_passes}
use Rattle.std.proofs.lemmas.List.Kept.{AllPairs-filter}
use Rattle.std.proofs.lemmas.List.{append-nil}
use Rattle.cxl_enc.proofs.Lists.{is_in, in_from, in_is, drop_all}
use Rattle.cxl_enc.proofs.Numbers.{is_number, range_more, numbers_rise}
use Rattle.cxl_pick.specs.Picking.{all_given, AreInOrder}
use Rattle.cxl_pick.proofs.Lists.{kept_in}

-- ---- the targets, one by one

next_uid : (f : ℕ → Option (List ℕ)) (i : ℕ) (uids : List ℕ) → i < length uids
    → all_given (map f (drop i uids)) ≡ option_and_then (λ ns. option_map (λ ms. ns ++ ms) (all_given (map f (drop (i + 1) uids)))) (f (get_or uids i 0))
next_uid f i uids within =
    let more : i + 1 ≡ suc i = omega arith in
    ap (λ us. all_given (map f us)) (drop-cons uids i 0 within)
    ∙ ap (λ (k : ℕ). option_and_then (λ ns. option_map (λ ms. ns ++ ms) (all_given (map f (drop k uids)))) (f (get_or uids i 0))) (sym more)

joined_twice : (xs ys : List ℕ) (o : Option (List ℕ)) → option_map (λ ms. (xs ++ ys) ++ ms) o ≡ option_map (λ ms. xs ++ ms) (option_map (λ ms. ys ++ ms) o)
joined_twice xs ys None = refl
joined_twice xs ys (Some ms) = ap Some (append_assoc xs ys ms)

pub uid_step : (f : ℕ → Option (List ℕ)) (i : ℕ) (uids xs ys : List ℕ) (all : Option (List ℕ)) → i < length uids
    → option_map (λ ms. xs ++ ms) (all_given (map f (drop i uids))) ≡ all → f (get_or uids i 0) ≡ Some ys
    → option_map (λ ms. (xs ++ ys) ++ ms) (all_given (map f (drop (i + 1) uids))) ≡ all
uid_step f i uids xs ys all within is gives =
    joined_twice xs ys (all_given (map f (drop (i + 1) uids)))
    ∙ ap (option_map (λ ms. xs ++ ms)) (sym (next_uid f i uids within ∙ ap (option_and_then (λ ns. option_map (λ ms. ns ++ ms) (all_given (map f (drop (i + 1) uids))))) gives))
    ∙ is

pub uid_none : (f : ℕ → Option (List ℕ)) (i : ℕ) (uids xs : List ℕ) (all : Option (List ℕ)) → i < length uids
    → option_map (λ ms. xs ++ ms) (all_given (map f (drop i uids))) ≡ all → f (get_or uids i 0) ≡ None → None ≡ all
uid_none f i uids xs all within is gives =
    ap (option_map (λ ms. xs ++ ms)) (sym (next_uid f i uids within ∙ ap (option_and_then (λ ns. option_map (λ ms. ns ++ ms) (all_given (map f (drop (i + 1) uids))))) gives))
    ∙ is

pub uid_end : (f : ℕ → Option (List ℕ)) (i : ℕ) (uids xs : List ℕ) (all : Option (List ℕ)) → length uids ≤ i → option_map (λ ms. xs ++ ms) (all_given (map f (drop i uids))) ≡ all → Some xs ≡ all
uid_end f i uids xs all past is = ap Some (sym (append-nil xs)) ∙ sym (ap (λ us. option_map (λ ms. xs ++ ms) (all_given (map f us))) (drop_all uids i past)) ∙ is

-- ---- in rising order

filter_append : (p : ℕ → Bool) (xs ys : List ℕ) → filter p (xs ++ ys) ≡ filter p xs ++ filter p ys
filter_append p [] ys = refl
filter_append p (x ∷ xs) ys = ap (λ zs. cond (p x) (x ∷ zs) zs) (filter_append p xs ys) ∙ either (p x)
  where
    either : (b : Bool) → cond b (x ∷ (filter p xs ++ filter p ys)) (filter p xs ++ filter p ys) ≡ cond b (x ∷ filter p xs) (filter p xs) ++ filter p ys
    either true = refl
    either false = refl

node_more : (p : ℕ → Bool) (n : ℕ) → filter p (range_with_len 0 (n + 1)) ≡ filter p (range_with_len 0 n) ++ cond (p n) (n ∷ []) []
node_more p n =
    let more : n + 1 ≡ suc n = omega arith in
    ap (λ (k : ℕ). filter p (range_with_len 0 k)) more ∙ ap (filter p) (range_more 0 n n (omega arith)) ∙ filter_append p (range_with_len 0 n) (n ∷ [])

pub node_in : (p : ℕ → Bool) (n : ℕ) (xs : List ℕ) → xs ≡ filter p (range_with_len 0 n) → p n ≡ true → xs ++ n ∷ [] ≡ filter p (range_with_len 0 (n + 1))
node_in p n xs is passes = ap (λ ys. ys ++ n ∷ []) is ∙ ap (λ b. filter p (range_with_len 0 n) ++ cond b (n ∷ []) []) (sym passes) ∙ sym (node_more p n)

pub node_out : (p : ℕ → Bool) (n : ℕ) (xs : List ℕ) → xs ≡ filter p (range_with_len 0 n) → p n ≡ false → xs ≡ filter p (range_with_len 0 (n + 1))
node_out p n xs is fails = is ∙ sym (append-nil (filter p (range_with_len 0 n))) ∙ ap (λ b. filter p (range_with_len 0 n) ++ cond b (n ∷ []) []) (sym fails) ∙ sym (node_more p n)

pub are_in_order : (count : ℕ) (given : List ℕ) → All (λ n. n < count) given → AreInOrder given (filter (λ n. is_in n given) (range_with_len 0 count))
are_in_order count given low = record {
  order = AllPairs-filter (λ a b. a < b) (λ n. is_in n given) (range_with_len 0 count) (numbers_rise count);
  same = λ n. (
    (λ there.
        let own = in_from given n there in
        let within : n < count = subst (λ (k : ℕ). k < count) there.2 (low there.0 n there.1) in
        in_is (filter (λ k. is_in k given) (range_with_len 0 count)) n
        (kept_in (λ k. is_in k given) (range_with_len 0 count) n (is_number (λ k. k == n) count n within (eq-eqb n n refl)) own)),
    (λ there.
        in_is given n
        (subst (λ (k : ℕ). is_in k given ≡ true) there.2 (filter_passes (λ k. is_in k given) (range_with_len 0 count) there.0 n there.1))),
  );
}
