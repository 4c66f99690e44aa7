-- A list that is joined from what the numbers of another list give.
use Rattle.std.proofs.Common.{◌≡◌, ℕ, zero, suc, ◌+◌, ◌*◌, ◌≤◌, true, not, ◌||◌, List, [], ◌∷◌, ◌++◌, length, map, Option, Some, None, refl, sym, ap, ◌∙◌, subst, inl, inr, arith}
use Rattle.std.specs.Prelude.{◌==◌, take, option_map, option_and_then}
use Rattle.std.specs.List.{filter_map, flat_map, cons_option}
use Rattle.std.proofs.lemmas.Bool.{and_parts, and_from, or_cases, or_left, or_right, eqb-true, eq-eqb, false≢true, false_from_ne_true, not_from_false, not-true}
use Rattle.std.proofs.lemmas.Option.{none-some, same_Some}
use Rattle.std.proofs.lemmas.List.{length-append}
use Rattle.std.proofs.lemmas.List.Folds.{list_any-append}
use Rattle.cxl_enc.proofs.Lists.{is_in}
use Rattle.cxl_model.specs.Rules.{are_distinct}
use Rattle.cxl_pick.specs.Picking.{all_given}

-- ---- lists that differ, in a row

in_append : (n : ℕ) (xs ys : List ℕ) → is_in n (xs ++ ys) ≡ (is_in n xs || is_in n ys)
in_append n xs ys = list_any-append (λ m. m == n) xs ys

pub differ_append : (xs ys : List ℕ) → are_distinct xs ≡ true → are_distinct ys ≡ true → ((n : ℕ) → is_in n xs ≡ true → is_in n ys ≡ true → ⊥) → are_distinct (xs ++ ys) ≡ true
differ_append [] ys first second apart = second
differ_append (x ∷ xs) ys first second apart =
    let parts = and_parts (not (is_in x xs)) (are_distinct xs) first in
    and_from (not (is_in x (xs ++ ys))) (are_distinct (xs ++ ys))
    (not_from_false (is_in x (xs ++ ys)) (false_from_ne_true (is_in x (xs ++ ys)) (λ any.
    elim (or_cases (is_in x xs) (is_in x ys) (sym (in_append x xs ys) ∙ any)) [
      | inl here ↦ false≢true (sym (not-true (is_in x xs) parts.0) ∙ here)
      | inr there ↦ apart x (or_left (x == x) (is_in x xs) (eq-eqb x x refl)) there
    ])))
    (differ_append xs ys parts.1 second (λ n in_xs in_ys. apart n (or_right (x == n) (is_in n xs) in_xs) in_ys))

-- ---- pieces

-- the piece from which a member comes
pub record Source (f : ℕ → Option (List ℕ)) (cs xs : List ℕ) (x : ℕ) : Type 0 where
  pub piece : ℕ
  pub listed : is_in piece cs ≡ true
  pub ys : List ℕ
  pub gives : f piece ≡ Some ys
  pub there : is_in x ys ≡ true
  pub into : (y : ℕ) → is_in y ys ≡ true → is_in y xs ≡ true

pub record Pieces (f : ℕ → Option (List ℕ)) (cs xs : List ℕ) : Type 0 where
  pub from : (x : ℕ) → is_in x xs ≡ true → Source f cs xs x
  pub distinct : are_distinct xs ≡ true

-- each piece has v members, and no two have one in common
pub record Apart (f : ℕ → Option (List ℕ)) (cs : List ℕ) (v : ℕ) : Type 0 where
  pub long : (c : ℕ) (ys : List ℕ) → is_in c cs ≡ true → f c ≡ Some ys → length ys ≡ v
  pub single : (c : ℕ) (ys : List ℕ) → is_in c cs ≡ true → f c ≡ Some ys → are_distinct ys ≡ true
  pub apart : (c d x : ℕ) (ys zs : List ℕ) → is_in c cs ≡ true → is_in d cs ≡ true → f c ≡ Some ys → f d ≡ Some zs → is_in x ys ≡ true → is_in x zs ≡ true → c ≡ d
  pub differ : are_distinct cs ≡ true

later : (c n : ℕ) (cs : List ℕ) → is_in n cs ≡ true → is_in n (c ∷ cs) ≡ true
later c n cs there = or_right (c == n) (is_in n cs) there

first : (c : ℕ) (cs : List ℕ) → is_in c (c ∷ cs) ≡ true
first c cs = or_left (c == c) (is_in c cs) (eq-eqb c c refl)

pub apart_rest : (f : ℕ → Option (List ℕ)) (c : ℕ) (cs : List ℕ) (v : ℕ) → Apart f (c ∷ cs) v → Apart f cs v
apart_rest f c cs v all = record {
  long = λ d ys there. all.long d ys (later c d cs there);
  single = λ d ys there. all.single d ys (later c d cs there);
  apart = λ d e x ys zs here there. all.apart d e x ys zs (later c d cs here) (later c e cs there);
  differ = (and_parts (not (is_in c cs)) (are_distinct cs) all.differ).1;
}

empty : (f : ℕ → Option (List ℕ)) (cs : List ℕ) → Pieces f cs []
empty f cs = record { from = λ x none. absurd (false≢true none); distinct = refl }

skip : (f : ℕ → Option (List ℕ)) (c : ℕ) (cs xs : List ℕ) → Pieces f cs xs → Pieces f (c ∷ cs) xs
skip f c cs xs pieces = record {
  from = λ x there.
      let source = pieces.from x there in
      record { piece = source.piece; listed = later c source.piece cs source.listed; ys = source.ys; gives = source.gives; there = source.there; into = source.into };
  distinct = pieces.distinct;
}

more : (f : ℕ → Option (List ℕ)) (c : ℕ) (cs : List ℕ) (v : ℕ) (ys xs : List ℕ) → Apart f (c ∷ cs) v → f c ≡ Some ys → Pieces f cs xs → Pieces f (c ∷ cs) (ys ++ xs)
more f c cs v ys xs all gives pieces = record {
  from = λ x there.
      elim (or_cases (is_in x ys) (is_in x xs) (sym (in_append x ys xs) ∙ there)) [
        | inl here ↦ record {
          piece = c;
          listed = first c cs;
          ys = ys;
          gives = gives;
          there = here;
          into = λ y inside. in_append y ys xs ∙ or_left (is_in y ys) (is_in y xs) inside;
        }
        | inr rest ↦
            let source = pieces.from x rest in
            record {
              piece = source.piece;
              listed = later c source.piece cs source.listed;
              ys = source.ys;
              gives = source.gives;
              there = source.there;
              into = λ y inside. in_append y ys xs ∙ or_right (is_in y ys) (is_in y xs) (source.into y inside);
            }
      ];
  distinct = differ_append ys xs (all.single c ys (first c cs) gives) pieces.distinct (λ n here there.
      let source = pieces.from n there in
      let same : c ≡ source.piece = all.apart c source.piece n ys source.ys (first c cs) (later c source.piece cs source.listed) gives source.gives here source.there in
      let new = not-true (is_in c cs) (and_parts (not (is_in c cs)) (are_distinct cs) all.differ).0 in
      false≢true (sym new ∙ ap (λ d. is_in d cs) same ∙ source.listed));
}

-- ---- the first pieces of a list

-- the first u lists of those that are given
abbrev pub first_pieces : (ℕ → Option (List ℕ)) → List ℕ → ℕ → List ℕ
first_pieces f cs u = flat_map (λ ns. ns) (take u (filter_map f cs))

pub taken : (f : ℕ → Option (List ℕ)) (cs : List ℕ) (v u : ℕ) → Apart f cs v → Pieces f cs (first_pieces f cs u)
taken f [] v zero all = empty f []
taken f [] v (suc u) all = empty f []
taken f (c ∷ cs) v u all = go (λ n. taken f cs v n (apart_rest f c cs v all)) (f c) refl
  where
    some : ((n : ℕ) → Pieces f cs (first_pieces f cs n)) → (ys : List ℕ) → f c ≡ Some ys → (n : ℕ) → Pieces f (c ∷ cs) (flat_map (λ ns. ns) (take n (ys ∷ filter_map f cs)))
    some rest ys at zero = empty f (c ∷ cs)
    some rest ys at (suc n) = more f c cs v ys (first_pieces f cs n) all at (rest n)

    go : ((n : ℕ) → Pieces f cs (first_pieces f cs n)) → (o : Option (List ℕ)) → f c ≡ o → Pieces f (c ∷ cs) (flat_map (λ ns. ns) (take u (cons_option o (filter_map f cs))))
    go rest None at = skip f c cs (first_pieces f cs u) (rest u)
    go rest (Some ys) at = some rest ys at u

pub taken_length : (f : ℕ → Option (List ℕ)) (cs : List ℕ) (v u : ℕ) → Apart f cs v → u ≤ length (filter_map f cs) → length (first_pieces f cs u) ≡ u * v
taken_length f [] v zero all enough = omega arith
taken_length f [] v (suc u) all enough = absurd (omega arith)
taken_length f (c ∷ cs) v u all enough = go (λ n less. taken_length f cs v n (apart_rest f c cs v all) less) (f c) refl enough
  where
    some : ((n : ℕ) → n ≤ length (filter_map f cs) → length (first_pieces f cs n) ≡ n * v) → (ys : List ℕ) → f c ≡ Some ys → (n : ℕ) → n ≤ length (ys ∷ filter_map f cs)
        → length (flat_map (λ ns. ns) (take n (ys ∷ filter_map f cs))) ≡ n * v
    some below ys at zero less = omega arith
    some below ys at (suc n) less =
        let long = all.long c ys (first c cs) at in
        let rest = below n (omega arith) in
        let joined = length-append ys (first_pieces f cs n) in
        let out : suc n * v ≡ v + n * v = omega arith in
        omega (arith, long, rest, joined, out)

    go : ((n : ℕ) → n ≤ length (filter_map f cs) → length (first_pieces f cs n) ≡ n * v) → (o : Option (List ℕ)) → f c ≡ o → u ≤ length (cons_option o (filter_map f cs))
        → length (flat_map (λ ns. ns) (take u (cons_option o (filter_map f cs)))) ≡ u * v
    go below None at less = below u less
    go below (Some ys) at less = some below ys at u less

-- ---- all pieces

pub record AllPieces (f : ℕ → Option (List ℕ)) (cs : List ℕ) (v : ℕ) (xs : List ℕ) : Type 0 where
  pub pieces : Pieces f cs xs
  pub long : length xs ≡ length cs * v
  pub each : (c : ℕ) → is_in c cs ≡ true → (ys : List ℕ) × (f c ≡ Some ys) × ((y : ℕ) → is_in y ys ≡ true → is_in y xs ≡ true)

pub all_pieces : (f : ℕ → Option (List ℕ)) (cs : List ℕ) (v : ℕ) (xs : List ℕ) → Apart f cs v → all_given (map f cs) ≡ Some xs → AllPieces f cs v xs
all_pieces f [] v xs all is =
    let none : [] ≡ xs = same_Some [] xs is in
    subst (AllPieces f [] v) none (record { pieces = empty f []; long = omega arith; each = λ c there. absurd (false≢true there) })
all_pieces f (c ∷ cs) v xs all is = go (λ rest others. all_pieces f cs v rest (apart_rest f c cs v all) others) (f c) refl is
  where
    both : ((rest : List ℕ) → all_given (map f cs) ≡ Some rest → AllPieces f cs v rest) → (ys : List ℕ) → f c ≡ Some ys → (rest : List ℕ) → all_given (map f cs) ≡ Some rest → AllPieces f (c ∷ cs) v (ys ++ rest)
    both lower_all ys at rest others =
        let below = lower_all rest others in
        let joined = length-append ys rest in
        let long = all.long c ys (first c cs) at in
        let lower = below.long in
        let out : suc (length cs) * v ≡ v + length cs * v = omega arith in
        record {
          pieces = more f c cs v ys rest all at below.pieces;
          long = omega (arith, joined, long, lower, out);
          each = λ d there.
              elim (or_cases (c == d) (is_in d cs) there) [
                | inl here ↦ (ys, ap f (sym (eqb-true c d here)) ∙ at, λ y inside. in_append y ys rest ∙ or_left (is_in y ys) (is_in y rest) inside)
                | inr later ↦
                    let own = below.each d later in
                    (own.0, own.1, λ y inside. in_append y ys rest ∙ or_right (is_in y ys) (is_in y rest) (own.2 y inside))
              ];
        }

    second : ((rest : List ℕ) → all_given (map f cs) ≡ Some rest → AllPieces f cs v rest) → (ys : List ℕ) → f c ≡ Some ys → (o : Option (List ℕ)) → all_given (map f cs) ≡ o → option_map (λ ms. ys ++ ms) o ≡ Some xs → AllPieces f (c ∷ cs) v xs
    second below ys at None others none = absurd (none-some xs none)
    second below ys at (Some rest) others some = subst (AllPieces f (c ∷ cs) v) (same_Some (ys ++ rest) xs some) (both below ys at rest others)

    go : ((rest : List ℕ) → all_given (map f cs) ≡ Some rest → AllPieces f cs v rest) → (o : Option (List ℕ)) → f c ≡ o → option_and_then (λ ns. option_map (λ ms. ns ++ ms) (all_given (map f cs))) o ≡ Some xs → AllPieces f (c ∷ cs) v xs
    go below None at none = absurd (none-some xs none)
    go below (Some ys) at some = second below ys at (all_given (map f cs)) refl some

-- ---- what a function gives of numbers that differ

pub given_from : (g : ℕ → Option ℕ) (xs : List ℕ) (c : ℕ) → is_in c (filter_map g xs) ≡ true → (e : ℕ) × (g e ≡ Some c) × (is_in e xs ≡ true)
given_from g [] c none = absurd (false≢true none)
given_from g (x ∷ xs) c there = go (given_from g xs c) (g x) refl there
  where
    go : (is_in c (filter_map g xs) ≡ true → (e : ℕ) × (g e ≡ Some c) × (is_in e xs ≡ true)) → (o : Option ℕ) → g x ≡ o → is_in c (cons_option o (filter_map g xs)) ≡ true
        → (e : ℕ) × (g e ≡ Some c) × (is_in e (x ∷ xs) ≡ true)
    go below None at rest = let own = below rest in (own.0, own.1, or_right (x == own.0) (is_in own.0 xs) own.2)
    go below (Some d) at any =
        elim (or_cases (d == c) (is_in c (filter_map g xs)) any) [
          | inl here ↦ (x, at ∙ ap Some (eqb-true d c here), first x xs)
          | inr rest ↦ let own = below rest in (own.0, own.1, or_right (x == own.0) (is_in own.0 xs) own.2)
        ]

pub given_differ : (g : ℕ → Option ℕ) → ((a b c : ℕ) → g a ≡ Some c → g b ≡ Some c → a ≡ b) → (xs : List ℕ) → are_distinct xs ≡ true → are_distinct (filter_map g xs) ≡ true
given_differ g same [] distinct = refl
given_differ g same (x ∷ xs) distinct = go (given_differ g same xs (and_parts (not (is_in x xs)) (are_distinct xs) distinct).1) (g x) refl
  where
    go : are_distinct (filter_map g xs) ≡ true → (o : Option ℕ) → g x ≡ o → are_distinct (cons_option o (filter_map g xs)) ≡ true
    go rest None at = rest
    go rest (Some c) at =
        and_from (not (is_in c (filter_map g xs))) (are_distinct (filter_map g xs))
        (not_from_false (is_in c (filter_map g xs)) (false_from_ne_true (is_in c (filter_map g xs)) (λ any.
        let own = given_from g xs c any in
        let equal : x ≡ own.0 = same x own.0 c at own.1 in
        false≢true (sym (not-true (is_in x xs) (and_parts (not (is_in x xs)) (are_distinct xs) distinct).0) ∙ ap (λ e. is_in e xs) equal ∙ own.2))))
        rest
