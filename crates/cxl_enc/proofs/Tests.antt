-- What tests tell of one another.
use Rattle.std.proofs.Common.{◌≡◌, Bool, true, false, ◌&&◌, refl, ◌||◌, sym, not, if◌then◌else◌, cond}
use Rattle.std.proofs.lemmas.Bool.{false≢true, true≢false, and_from, not_from_true}

pub and_true : (a : Bool) → (a && true) ≡ a
and_true true = refl
and_true false = refl

pub and_false : (b : Bool) → (b && false) ≡ false
and_false true = refl
and_false false = refl

pub or_false : (a : Bool) → (a || false) ≡ a
or_false true = refl
or_false false = refl

pub or_true : (b : Bool) → (b || true) ≡ true
or_true true = refl
or_true false = refl

pub same_test : (a b : Bool) → (a ≡ true → b ≡ true) → (b ≡ true → a ≡ true) → a ≡ b
same_test true b to from = sym (to refl)
same_test false true to from = from refl
same_test false false to from = refl

-- a test that is kept where it is asked for
pub asked : (a b : Bool) → (a && not b) ≡ false → a ≡ true → b ≡ true
asked true true h is = refl
asked true false h is = cc
asked false b h is = cc

-- a test that is kept, where it is asked for or else is not
pub asked_or : (a b : Bool) → (not a || b) ≡ true → a ≡ true → b ≡ true
asked_or true b either is = either
asked_or false b either is = absurd (false≢true is)

pub asked_of : (a b : Bool) → (a || b) ≡ true → a ≡ false → b ≡ true
asked_of true b either fails = absurd (true≢false fails)
asked_of false b either fails = either

-- a test that fails where another passes
pub asked_not : (a b : Bool) → (a && b) ≡ false → a ≡ true → b ≡ false
asked_not true b h t = h
asked_not false b h t = cc

pub not_lacking : (p u a b c : Bool) → (p ≡ true → u ≡ true → (a ≡ true) × (b ≡ true) × (c ≡ true)) → (p && u && not (a && b && c)) ≡ false
not_lacking true true a b c all =
    let are = all refl refl in
    not_from_true (a && b && c) (and_from (a && b) c (and_from a b are.0 are.1) are.2)
not_lacking true false a b c all = refl
not_lacking false u a b c all = refl

pub either : (P : Bool → Type 0) (b : Bool) (x y : Bool) → P x → P y → P (if b then x else y)
either P true x y p q = p
either P false x y p q = q

pub neither : (b x y : Bool) → x ≡ false → y ≡ false → cond b x y ≡ false
neither true x y p q = p
neither false x y p q = q

pub clash : (a : Bool) → a ≡ true → a ≡ false → ⊥
clash a is_true is_false = cc

pub stays_false : (a b c : Bool) → (a && (b || not c)) ≡ false → (a && (b || not true)) ≡ false
stays_false false b c keeps = refl
stays_false true false c keeps = refl
stays_false true true c keeps = keeps
