use Rattle.std.proofs.Common.{◌≤◌, sym, subst}
use Rattle.cxl_enc.specs.Limits.{file_limit}
use Rattle.cxl_table.specs.Records.{table_length, HasFewOfEach}
use Rattle.cxl_gen.proofs.Counts.{few_records, few_bytes}
use Rattle.cxl_gen.proofs.table.made_table.Goals as goal

pub new-requires-clause-few : goal.new-requires-clause-few
new-requires-clause-few c = subst HasFewOfEach (sym c.in_ok-records.ensures) (few_records c.args.n c.requires)

pub new-requires-clause-fits : goal.new-requires-clause-fits
new-requires-clause-fits c = subst (λ records. table_length records ≤ file_limit) (sym c.in_ok-records.ensures) (few_bytes c.args.n c.requires)
