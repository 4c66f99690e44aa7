use Rattle.cxl_turns.proofs.FirstLines.{still}
use Rattle.cxl_turns.proofs.Runs.{HaveRun}
use Rattle.cxl_turns.proofs.lines.carry_out_read.Given as goal

-- the lines so far are carried out
abbrev pub invariant-lines : goal.invariant-lines
invariant-lines g l =
    HaveRun l.reader
    record {
      session = l.fn.session;
      regs = g.R.Regs.state l.fn.regs;
      media = g.M.Media.state l.fn.media;
      script = g.S.Source.state l.fn.script;
      sink = g.K.Sink.state l.fn.out;
    }
    record {
      session = l.session;
      regs = g.R.Regs.state l.regs;
      media = g.M.Media.state l.media;
      script = g.S.Source.state l.script;
      sink = g.K.Sink.state l.out;
    }

abbrev pub decreases-lines : goal.decreases-lines
decreases-lines g l = still l.reader
