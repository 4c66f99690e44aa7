use Rattle.cxl_turns.proofs.Runs.{none_run}
use Rattle.cxl_turns.proofs.lines.carry_out_lines.Goals as goal

pub returns-in-Err : goal.returns-in-Err
returns-in-Err g c =
    let end = none_run record {
      session = c.args.session.now;
      regs = g.R.Regs.state c.args.regs.now;
      media = g.M.Media.state c.args.media.now;
      script = g.S.Source.state c.args.script.now;
      sink = g.K.Sink.state c.args.out.now;
    } in
    record { ends = end.ends; source = end.source; sink = end.sink; bus = end.bus }

pub carry_out_read-ending-requires : goal.carry_out_read-ending-requires
carry_out_read-ending-requires g c = record { stands = c.requires; fresh = c.in-Ok.ensures }

pub returns : goal.returns
returns g c =
    let end = c.carry_out_read-ending.ensures in
    record { ends = end.ends; source = end.source; sink = end.sink; bus = end.bus }
