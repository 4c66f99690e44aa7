-- What is said of each value, or of each error, where a call has failed.
use Rattle.std.proofs.Common.{Result, Ok, Err}
use Rattle.std.specs.Prelude.{IfOk, OnErr, IsErrAnd}

module _ {T E : Type 0} where
  -- an error is no value
  pub not_ok : (Q : E → Type 0) (r : Result T E) (P : T → Type 0) → IsErrAnd r Q → IfOk r P
  not_ok Q (Ok x) P failed = absurd failed
  not_ok Q (Err e) P failed = tt

  -- what holds anyway holds at an error
  pub at_any_err : (r : Result T E) (P : Type 0) → P → OnErr r P
  at_any_err (Ok x) P so = tt
  at_any_err (Err e) P so = so
