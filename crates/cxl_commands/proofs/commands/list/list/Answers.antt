use Rattle.std.proofs.Common.{refl}
use Rattle.cxl_commands.specs.Outside.{outside}
use Rattle.cxl_commands.proofs.Lists.{run-listed, run-behind, run-stopped}
use Rattle.cxl_commands.proofs.commands.list.list.Goals as goal

pub returns-in-Ok-write_lines-clause-run : goal.returns-in-Ok-write_lines-clause-run
returns-in-Ok-write_lines-clause-run g c =
    let of = rw c.in-Ok.table-is at c.in-Ok.ensures.table in
    run-listed c.args.file.now (outside (g.F.Fetch.state c.args.files.now) (g.K.Sink.state c.args.out.now)) (outside (g.F.Fetch.state c.judged.new.files) (g.K.Sink.state c.write_lines.new.out)) c.in-Ok-write_lines.status c.in-Ok.table of c.in-Ok.ensures.asked c.in-Ok-write_lines.ensures.ends

pub returns-in-Ok-clause-run : goal.returns-in-Ok-clause-run
returns-in-Ok-clause-run g c =
    let of = rw c.in-Ok.table-is at c.in-Ok.ensures.table in
    run-behind c.args.file.now (outside (g.F.Fetch.state c.args.files.now) (g.K.Sink.state c.args.out.now)) (outside (g.F.Fetch.state c.judged.new.files) (g.K.Sink.state c.write_lines.new.out)) _ c.in-Ok.table of c.in-Ok.ensures.asked c.in-Ok.ensures.unfailed refl c.in-Err-write_lines.ensures.behind

pub returns-clause-run : goal.returns-clause-run
returns-clause-run g c = run-stopped c.args.file.now _ _ _ c.in-Err.stop c.in-Err.ensures.stops c.finish.ensures.finishes
