-- Ports and children as they are gone through.
use Rattle.std.proofs.Common.{◌≡◌, ℕ, zero, suc, ◌+◌, ◌-◌, ◌<◌, ◌≤◌, Bool, true, false, cond, List, [], ◌∷◌, ◌++◌, length, get_or, drop, filter, Option, Some, None, refl, sym, ap, ◌∙◌, arith, append_assoc}
use Rattle.std.specs.Prelude.{take, unwrap_or, is_some}
use Rattle.std.specs.List.{filter_map, flat_map, cons_option, range_with_len}
use Rattle.std.proofs.Math.Seq.{drop-cons}
use Rattle.std.proofs.lemmas.Bool.{false≢true}
use Rattle.std.proofs.lemmas.List.Elements.{filter_map-append}
use Rattle.std.proofs.lemmas.List.{append-nil}
use Rattle.cxl_enc.proofs.Numbers.{range_more}
use Rattle.cxl_enc.proofs.Lists.{drop_all}

-- ---- ranges

-- what one port more gives
pub port_more : (g : ℕ → Option ℕ) (port : ℕ) → filter_map g (range_with_len 0 (port + 1)) ≡ filter_map g (range_with_len 0 port) ++ cons_option (g port) []
port_more g port =
    let more : port + 1 ≡ suc port = omega arith in
    ap (λ (n : ℕ). filter_map g (range_with_len 0 n)) more
    ∙ ap (filter_map g) (range_more 0 port port (omega arith))
    ∙ filter_map-append g (range_with_len 0 port) (port ∷ [])

pub some_port : (g : ℕ → Option ℕ) (port c : ℕ) (xs : List ℕ) → xs ≡ filter_map g (range_with_len 0 port) → g port ≡ Some c → xs ++ c ∷ [] ≡ filter_map g (range_with_len 0 (port + 1))
some_port g port c xs is at = ap (λ ys. ys ++ c ∷ []) is ∙ ap (λ o. filter_map g (range_with_len 0 port) ++ cons_option o []) (sym at) ∙ sym (port_more g port)

pub no_port : (g : ℕ → Option ℕ) (port : ℕ) (xs : List ℕ) → xs ≡ filter_map g (range_with_len 0 port) → g port ≡ None → xs ≡ filter_map g (range_with_len 0 (port + 1))
no_port g port xs is at = is ∙ sym (nothing_more (filter_map g (range_with_len 0 port))) ∙ ap (λ o. filter_map g (range_with_len 0 port) ++ cons_option o []) (sym at) ∙ sym (port_more g port)
  where
    nothing_more : (ys : List ℕ) → ys ++ [] ≡ ys
    nothing_more [] = refl
    nothing_more (y ∷ ys) = ap (λ zs. y ∷ zs) (nothing_more ys)

-- above the last number with something nothing more comes
pub no_more_ports : (g : ℕ → Option ℕ) (a k : ℕ) (xs : List ℕ) → ((port : ℕ) → a ≤ port → g port ≡ None) → xs ≡ filter_map g (range_with_len 0 a) → xs ≡ filter_map g (range_with_len 0 (a + k))
no_more_ports g a zero xs none is = is ∙ ap (λ (n : ℕ). filter_map g (range_with_len 0 n)) (omega arith)
no_more_ports g a (suc k) xs none is =
    no_port g (a + k) xs (no_more_ports g a k xs none is) (none (a + k) (omega arith)) ∙ ap (λ (n : ℕ). filter_map g (range_with_len 0 n)) (omega arith)

-- ---- children that pass a test

next_kept : (p : ℕ → Bool) (i : ℕ) (cs : List ℕ) → i < length cs
    → filter p (drop i cs) ≡ cond (p (get_or cs i 0)) (get_or cs i 0 ∷ filter p (drop (i + 1) cs)) (filter p (drop (i + 1) cs))
next_kept p i cs within =
    let more : i + 1 ≡ suc i = omega arith in
    ap (filter p) (drop-cons cs i 0 within)
    ∙ ap (λ (k : ℕ). cond (p (get_or cs i 0)) (get_or cs i 0 ∷ filter p (drop k cs)) (filter p (drop k cs))) (sym more)

-- how many are left to be counted
pub count_step : (p : ℕ → Bool) (i n all : ℕ) (cs : List ℕ) → i < length cs → n + length (filter p (drop i cs)) ≡ all → p (get_or cs i 0) ≡ true
    → n + 1 + length (filter p (drop (i + 1) cs)) ≡ all
count_step p i n all cs within is passes =
    let next : length (filter p (drop i cs)) ≡ suc (length (filter p (drop (i + 1) cs))) =
    ap (λ ys. length ys) (next_kept p i cs within ∙ ap (λ b. cond b (get_or cs i 0 ∷ filter p (drop (i + 1) cs)) (filter p (drop (i + 1) cs))) passes) in
    omega (arith, is, next)

pub count_skip : (p : ℕ → Bool) (i n all : ℕ) (cs : List ℕ) → i < length cs → n + length (filter p (drop i cs)) ≡ all → p (get_or cs i 0) ≡ false
    → n + length (filter p (drop (i + 1) cs)) ≡ all
count_skip p i n all cs within is fails =
    let next : length (filter p (drop i cs)) ≡ length (filter p (drop (i + 1) cs)) =
    ap (λ ys. length ys) (next_kept p i cs within ∙ ap (λ b. cond b (get_or cs i 0 ∷ filter p (drop (i + 1) cs)) (filter p (drop (i + 1) cs))) fails) in
    omega (arith, is, next)

pub count_end : (p : ℕ → Bool) (i n all : ℕ) (cs : List ℕ) → length cs ≤ i → n + length (filter p (drop i cs)) ≡ all → n ≡ all
count_end p i n all cs past is =
    let none : length (filter p (drop i cs)) ≡ 0 = ap (λ ds. length (filter p ds)) (drop_all cs i past) in
    omega (arith, is, none)

-- ---- children that give something

next_offers : (f : ℕ → Option (List ℕ)) (i : ℕ) (cs : List ℕ) → i < length cs → filter_map f (drop i cs) ≡ cons_option (f (get_or cs i 0)) (filter_map f (drop (i + 1) cs))
next_offers f i cs within =
    let more : i + 1 ≡ suc i = omega arith in
    ap (filter_map f) (drop-cons cs i 0 within) ∙ ap (λ (k : ℕ). cons_option (f (get_or cs i 0)) (filter_map f (drop k cs))) (sym more)

-- the first lists that are still to come
abbrev pub to_come : (ℕ → Option (List ℕ)) → ℕ → List ℕ → ℕ → List ℕ
to_come f left cs i = flat_map (λ ns. ns) (take left (filter_map f (drop i cs)))

pub some_list : (o : Option (List ℕ)) → is_some o ≡ true → o ≡ Some (unwrap_or o [])
some_list None is = absurd (false≢true is)
some_list (Some xs) is = refl

no_list : (o : Option (List ℕ)) → is_some o ≡ false → o ≡ None
no_list None is = refl
no_list (Some xs) is = absurd (false≢true (sym is))

pub take_step : (f : ℕ → Option (List ℕ)) (i left : ℕ) (cs given all : List ℕ) → i < length cs → given ++ to_come f left cs i ≡ all → 0 < left → is_some (f (get_or cs i 0)) ≡ true
    → (given ++ unwrap_or (f (get_or cs i 0)) []) ++ to_come f (left - 1) cs (i + 1) ≡ all
take_step f i zero cs given all within is some gives = absurd (omega arith)
take_step f i (suc left) cs given all within is some gives =
    let own : List ℕ = unwrap_or (f (get_or cs i 0)) [] in
    let fewer : suc left - 1 ≡ left = omega arith in
    let next : to_come f (suc left) cs i ≡ own ++ to_come f left cs (i + 1) =
    ap (λ ys. flat_map (λ ns. ns) (take (suc left) ys)) (next_offers f i cs within ∙ ap (λ o. cons_option o (filter_map f (drop (i + 1) cs))) (some_list (f (get_or cs i 0)) gives)) in
    append_assoc given own (to_come f (suc left - 1) cs (i + 1))
    ∙ ap (λ (k : ℕ). given ++ (own ++ to_come f k cs (i + 1))) fewer
    ∙ ap (λ ys. given ++ ys) (sym next)
    ∙ is

pub take_skip : (f : ℕ → Option (List ℕ)) (i left : ℕ) (cs given all : List ℕ) → i < length cs → given ++ to_come f left cs i ≡ all
    → (0 < left → is_some (f (get_or cs i 0)) ≡ false) → given ++ to_come f left cs (i + 1) ≡ all
take_skip f i zero cs given all within is fails = is
take_skip f i (suc left) cs given all within is fails =
    let next : to_come f (suc left) cs i ≡ to_come f (suc left) cs (i + 1) =
    ap (λ ys. flat_map (λ ns. ns) (take (suc left) ys))
    (next_offers f i cs within ∙ ap (λ o. cons_option o (filter_map f (drop (i + 1) cs))) (no_list (f (get_or cs i 0)) (fails (omega arith)))) in
    ap (λ ys. given ++ ys) (sym next) ∙ is

nothing_taken : (left : ℕ) → flat_map (λ (ns : List ℕ). ns) (take left []) ≡ []
nothing_taken zero = refl
nothing_taken (suc left) = refl

pub take_end : (f : ℕ → Option (List ℕ)) (i left : ℕ) (cs given all : List ℕ) → length cs ≤ i → given ++ to_come f left cs i ≡ all → given ≡ all
take_end f i left cs given all past is =
    sym (append-nil given)
    ∙ ap (λ ys. given ++ ys) (sym (ap (λ ds. flat_map (λ ns. ns) (take left (filter_map f ds))) (drop_all cs i past) ∙ nothing_taken left))
    ∙ is
