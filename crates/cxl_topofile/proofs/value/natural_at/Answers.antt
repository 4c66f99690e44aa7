use Rattle.std.proofs.Common.{ℤ, Result, ap, rules}
use Rattle.std.proofs.lemmas.Result.{err_from_is_err_and}
use Rattle.cxl_topofile.specs.declared.fault.Wrong.{Wrong}
use Rattle.cxl_topofile.specs.Values.{◌>>=◌, natural}
use Rattle.cxl_topofile.specs.inner.Steps.{natural_at}
use Rattle.cxl_topofile.proofs.value.natural_at.Goals as goal

pub returns-in_err-z : goal.returns-in_err-z
unfolding natural_at
returns-in_err-z c =
    let p = err_from_is_err_and c.from_residual.result c.from_residual.ensures.1 in
    rw (p.1, p.2) (ap (λ (r : Result ℤ Wrong). r >>= natural c.args.key) c.in_err-z.ensures)

pub returns : goal.returns
unfolding natural_at
returns c = search rules
