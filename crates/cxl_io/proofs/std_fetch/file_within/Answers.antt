use Rattle.cxl_io.proofs.WholeFiles.{over_limit, file_read}
use Rattle.cxl_io.proofs.std_fetch.file_within.Goals as goal

pub returns-in-Ok-clause-ok : goal.returns-in-Ok-clause-ok
returns-in-Ok-clause-ok g c =
    file_read (g.F.Read.remaining c.args.file) c.in-Ok.bytes.items c.as_file.result c.in-Ok.ensures c.as_file.ensures.ok

pub returns-in-Ok-clause-too_large : goal.returns-in-Ok-clause-too_large
returns-in-Ok-clause-too_large g c = λ over.
    over_limit (g.F.Read.remaining c.args.file) c.in-Ok.bytes.items c.in-Ok.ensures (c.as_file.ensures.too_large over)
