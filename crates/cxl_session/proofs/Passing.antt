-- A value that is handed on where a call passed.
use Rattle.std.proofs.Common.{◌≡◌, true, false, Result, Ok, Err, OnOk, OnErr, refl, sym, subst, ap}
use Rattle.std.specs.Prelude.{IfOk}
use Rattle.std.specs.Result.{is_ok, is_err, result_and}

-- where there is none the call failed, and else it is that value
pub and_failed : {T U E : Type 0} (call : Result T E) (x : U) (e : E) → Err e ≡ result_and call (Ok x) → is_err call ≡ true
and_failed (Ok done) x e is = absurd (cc)
and_failed (Err d) x e is = refl

pub and_passed : {T U E : Type 0} (call : Result T E) (x y : U) → Ok y ≡ result_and call (Ok x) → (is_err call ≡ false) × (y ≡ x)
and_passed (Ok done) x y is = (refl, cc)
and_passed (Err d) x y is = absurd (cc)

-- what holds where the call passed, of that value, and where it failed
pub and_if_ok : {T U E : Type 0} (call : Result T E) (x : U) (both : Result U E) (P : U → Type 0) → both ≡ result_and call (Ok x) → OnOk call (P x) → IfOk both P
and_if_ok {T} {U} {E} (Ok done) x both P is holds = subst (λ (r : Result U E). IfOk r P) (sym is) holds
and_if_ok {T} {U} {E} (Err e) x both P is holds = subst (λ (r : Result U E). IfOk r P) (sym is) tt

pub and_on_err : {T U E : Type 0} (call : Result T E) (x : U) (both : Result U E) (Q : Type 0) → both ≡ result_and call (Ok x) → OnErr call Q → OnErr both Q
and_on_err {T} {U} {E} (Ok done) x both Q is holds = subst (λ (r : Result U E). OnErr r Q) (sym is) tt
and_on_err {T} {U} {E} (Err e) x both Q is holds = subst (λ (r : Result U E). OnErr r Q) (sym is) holds

pub and_is_ok : {T U E : Type 0} (call : Result T E) (x : U) (both : Result U E) → both ≡ result_and call (Ok x) → is_ok call ≡ true → is_ok both ≡ true
and_is_ok (Ok done) x both is passed = ap is_ok is
and_is_ok (Err e) x both is passed = absurd (cc)
