use Rattle.std.proofs.Common.{ap, arith}
use Rattle.cxl_table.specs.Records.{kind_of}
use Rattle.cxl_cedt.proofs.Keeping.{said_by}
use Rattle.cxl_cedt.proofs.decoding.add_judged.Goals as goal

pub push-requires-clause-judged : goal.push-requires-clause-judged
push-requires-clause-judged c = omega (arith, c.requires.judged, ap kind_of c.in_ok-judged_of.ensures, said_by c.args.text.now c.requires.sound)
