use Rattle.cxl_io.proofs.WholeFiles.{front_read}
use Rattle.cxl_io.proofs.std_fetch.read_to_limit.Goals as goal

pub returns : goal.returns
returns g c = front_read g.F.Read.remaining c.take.result c.args.file _ _ _ c.take.ensures.limit c.take.ensures.inner c.in_ok-bytes.ensures.items c.in_ok-read_to_end.ensures.bytes
