-- What calls give.
use Rattle.std.specs.Prelude.{min, max}
use Rattle.std.proofs.Common.{◌≡◌, ℕ, ◌+◌, ◌-◌, ◌^◌, Result, Ok, Err, OnErr, subst}

pub on_err_from : {T E : Type 0} (result : Result T E) (P : Type 0) → P → OnErr result P
on_err_from (Ok x) P holds = tt
on_err_from (Err x) P holds = holds

-- a count that rose by one from where it stayed
pub counted_on : (old now new : ℕ) → now ≡ old → new ≡ max now (min (now + 1) (2 ^ 64 - 1)) → new ≡ max old (min (old + 1) (2 ^ 64 - 1))
counted_on old now new same once = subst (λ (n : ℕ). new ≡ max n (min (n + 1) (2 ^ 64 - 1))) same once
