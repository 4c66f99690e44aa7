use Rattle.std.proofs.Common.{◌%◌, ℕ, List, sum, ap, ◌∙◌}
use Rattle.cxl_cedt.specs.Reading.{table_in}
use Rattle.cxl_cedt.proofs.Spelled.{sealed}
use Rattle.cxl_cedt.proofs.mending.normal_of.Goals as goal

pub returns-clause-spelling : goal.returns-clause-spelling
returns-clause-spelling c =
    sealed (table_in c.args.bytes.items) c.in_ok-out.out.items c.checksum.result c.in_ok-out.ensures.spelled (c.checksum.ensures ∙ ap (λ (t : List ℕ). sum t % 256) c.deref.ensures.value)
