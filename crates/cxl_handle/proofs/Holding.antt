-- What is so of the value of a box is so of what a handle holds.
use Rattle.std.proofs.Common.{◌≡◌, sym, subst}
use Rattle.std.specs.Prelude.{Option, Some, None, Result, Ok, Err, OnOk}
use Rattle.std.specs.Option.{MatchOption}
use Rattle.cxl_handle.specs.Owned.{HoldsSuch}

module _ {A : Type 0} (holds : Option A) where
  pub where_some : (None_is : Type 0) (Some_is : A → Type 0) (value : A) → holds ≡ Some value → Some_is value → MatchOption holds None_is Some_is
  where_some None_is Some_is value is so = subst (λ it. MatchOption it None_is Some_is) (sym is) so

  pub where_none : (None_is : Type 0) (Some_is : A → Type 0) → holds ≡ None → None_is → MatchOption holds None_is Some_is
  where_none None_is Some_is is so = subst (λ it. MatchOption it None_is Some_is) (sym is) so

  pub holds_such : (IsSo : A → Type 0) (value : A) → holds ≡ Some value → IsSo value → HoldsSuch holds IsSo
  holds_such IsSo value is so = subst (λ it. HoldsSuch it IsSo) (sym is) so

-- what is so is so also where a call ended well
pub on_ok : {T E : Type 0} (answer : Result T E) {IsSo : Type 0} → IsSo → OnOk answer IsSo
on_ok (Ok value) so = so
on_ok (Err fault) so = tt
