-- Values that may be there, and results.
use Rattle.std.proofs.Common.{◌≡◌, ◌⊎◌, Option, Some, None, refl, inl, inr, sym, subst, true, is_some, Result, Ok, Err, OnOk, ℕ, Bool, false, cond, OnErr}
use Rattle.std.specs.Prelude.{IsSomeAnd}
use Rattle.std.proofs.lemmas.Bool.{false≢true}
use Rattle.std.specs.Result.{is_err}

pub cases_Option : {X : Type 0} (o : Option X) → (o ≡ None) ⊎ ((x : X) × (o ≡ Some x))
cases_Option None = inl refl
cases_Option (Some x) = inr (x, refl)

-- a value that is there, with what holds of it
pub some_and : {A : Type 0} (o : Option A) (P : A → Type 0) → IsSomeAnd o P → (x : A) × (o ≡ Some x) × P x
some_and None P h = absurd h
some_and (Some x) P h = (x, refl, h)

pub and_some : {A : Type 0} (o : Option A) (P : A → Type 0) (x : A) → o ≡ Some x → P x → IsSomeAnd o P
and_some {A = A} o P x e p = subst (λ (v : Option A). IsSomeAnd v P) (sym e) p

pub some_of : {X : Type 0} (o : Option X) → is_some o ≡ true → (x : X) × (o ≡ Some x)
some_of None there = absurd (false≢true there)
some_of (Some x) there = (x, refl)

-- what holds on success, holds of what follows from it
pub on_ok : {T E : Type 0} (r : Result T E) (P Q : Type 0) → OnOk r P → (P → Q) → OnOk r Q
on_ok (Ok done) P Q p follows = follows p
on_ok (Err e) P Q p follows = tt

pub none_where : {A : Type 0} (o : Option A) → ((x : A) → o ≡ Some x → ⊥) → o ≡ None
none_where None never = refl
none_where (Some x) never = absurd (never x refl)

pub none_if : (b : Bool) (p : ℕ) → cond b (Some p) None ≡ None → b ≡ false
none_if true p e = cc
none_if false p e = refl

pub some_if : (b : Bool) (p q : ℕ) → cond b (Some p) None ≡ Some q → (b ≡ true) × (q ≡ p)
some_if true p q e = (refl, cc)
some_if false p q e = absurd (cc)

-- what holds where a call gives a value, and where it gives none
pub on_ok_at : {T E : Type 0} (result : Result T E) (P : Type 0) → is_err result ≡ false → OnOk result P → P
on_ok_at (Ok x) P e holds = holds
on_ok_at (Err x) P e holds = absurd (cc)

pub on_err_at : {T E : Type 0} (result : Result T E) (P : Type 0) → is_err result ≡ true → OnErr result P → P
on_err_at (Ok x) P e holds = absurd (cc)
on_err_at (Err x) P e holds = holds
