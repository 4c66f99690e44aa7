use Rattle.std.proofs.Common.{◌<◌, Err, refl, ap, ◌∙◌, inl, inr}
use Rattle.std.proofs.Math.Nat.{le_refl}
use Rattle.cxl_io.specs.declared.line_reader.Taken.TheVariants as readers
use Rattle.cxl_machine.specs.Turns.{machine_after}
use Rattle.cxl_turns.specs.declared.stops.LineStop.{LineStop}
use Rattle.cxl_turns.proofs.FirstLines.{still, falls}
use Rattle.cxl_turns.specs.inner.Moments.{Moment}
use Rattle.cxl_turns.proofs.Runs.{Took, took_one, run_begins, reads_line, reads_long, took_so, took_more, took_cut, took_left, run_done, run_fails, run_too_much}
use Rattle.cxl_turns.proofs.lines.carry_out_read.Goals as goal
use Rattle.cxl_turns.proofs.lines.carry_out_read.Goals.{in-Line, in-Long}

pub lines-init : goal.lines-init
lines-init g c =
    rw c.requires.fresh
    (run_begins record {
      session = c.args.session.now;
      regs = g.R.Regs.state c.args.regs.now;
      media = g.M.Media.state c.args.media.now;
      script = g.S.Source.state c.args.script.now;
      sink = g.K.Sink.state c.args.out.now;
    })

pub carry_out_line-carried-requires : goal.carry_out_line-carried-requires
carry_out_line-carried-requires g c =
    let answered = c.lines.invariant.each c.requires.stands.0 c.requires.stands.1 in
    (machine_after c.requires.stands.0 answered.turns, answered.gone.at)

pub returns-in-End : goal.returns-in-End
returns-in-End g c =
    run_done c.lines.reader c.next.new.self _ _ (g.S.Source.state c.next.new.source) c.lines.invariant c.next.ensures.counts (c.next.ensures.unswallowed (λ e. let is = c.in-End.is in absurd (cc))) c.in-End.ensures.next

pub returns-in-Fault : goal.returns-in-Fault
returns-in-Fault g c = run_fails c.lines.reader c.next.new.self _ _ (g.S.Source.state c.next.new.source) c.lines.invariant c.next.ensures.counts c.in-Fault.ensures.next (c.in-Fault.ensures.counted refl)

pub returns-in-TooMuch : goal.returns-in-TooMuch
returns-in-TooMuch g c = run_too_much c.lines.reader c.next.new.self _ _ (g.S.Source.state c.next.new.source) c.lines.invariant c.next.ensures.counts c.in-TooMuch.ensures.next

pub lines-smaller : goal.lines-smaller
lines-smaller g c =
    let less : still c.next.new.self < still c.lines.reader = elim c.match-next.branch [
      | in-Line w ↦ falls c.lines.invariant.passed _ _ _ c.lines.reader c.next.new.self readers.Line (inl refl) c.lines.invariant.read w.in-Line.ensures.next
      | in-Long w ↦ falls c.lines.invariant.passed _ _ _ c.lines.reader c.next.new.self readers.Long (inr refl) c.lines.invariant.read w.in-Long.ensures.next
    ] in
    less

pub lines-preserved : goal.lines-preserved
lines-preserved g c =
    let start : Moment = record {
      session = c.args.session.now;
      regs = g.R.Regs.state c.args.regs.now;
      media = g.M.Media.state c.args.media.now;
      script = g.S.Source.state c.args.script.now;
      sink = g.K.Sink.state c.args.out.now;
    } in
    let now : Moment = record {
      session = c.lines.session;
      regs = g.R.Regs.state c.lines.regs;
      media = g.M.Media.state c.lines.media;
      script = g.S.Source.state c.lines.script;
      sink = g.K.Sink.state c.lines.out;
    } in
    let later : Moment = record {
      session = c.match-next.session;
      regs = g.R.Regs.state c.match-next.regs;
      media = g.M.Media.state c.match-next.media;
      script = g.S.Source.state c.next.new.source;
      sink = g.K.Sink.state c.match-next.out;
    } in
    let took : Took c.lines.invariant.passed c.next.new.self start now later c.match-next.carried = elim c.match-next.branch [
      | in-Line w ↦
          took_so c.lines.invariant.passed c.next.new.self start now _ _ _ _ _ _ _ _ _ _ _ w.session-is (ap g.R.Regs.state w.regs-is) (ap g.M.Media.state w.media-is) (ap g.K.Sink.state w.out-is) w.carried-is
          (took_one c.lines.invariant.passed c.next.new.self start now _ _ _ _ _ _ _
          (reads_line c.lines.invariant.passed c.lines.reader c.next.new.self _ _ _ w.line.result.now w.line.ensures c.lines.invariant.read w.in-Line.ensures.next) c.next.ensures.counts record { carried = w.carry_out_line-carried.ensures.carried; sink = w.carry_out_line-carried.ensures.sink; bus = w.carry_out_line-carried.ensures.bus })
      | in-Long w ↦
          took_so c.lines.invariant.passed c.next.new.self start now _ _ _ _ _ _ _ _ _ _ _ w.session-is (ap g.R.Regs.state w.regs-is) (ap g.M.Media.state w.media-is) (ap g.K.Sink.state w.out-is) w.carried-is
          (took_one c.lines.invariant.passed c.next.new.self start now _ _ _ _ _ _ _
          (reads_long c.lines.invariant.passed c.lines.reader c.next.new.self _ _ _ c.lines.invariant.read w.in-Long.ensures.next) c.next.ensures.counts record { carried = λ m at. w.tell_bad_line-carried.ensures.carried m now.regs now.media at; sink = w.tell_bad_line-carried.ensures.sink; bus = le_refl now.regs.faults })
    ] in
    took_more c.lines.reader c.next.new.self start now later c.match-next.carried c.lines.invariant took c.in-Ok.field-0 c.in-Ok.is c.next.ensures.alone
    (elim c.match-next.branch [
      | in-Line w ↦ c.next.ensures.unswallowed (λ e. let is = w.in-Line.is in absurd (cc))
      | in-Long w ↦ c.next.ensures.unswallowed (λ e. let is = w.in-Long.is in absurd (cc))
    ])

pub returns-in-Err-Sink : goal.returns-in-Err-Sink
returns-in-Err-Sink g c =
    let start : Moment = record {
      session = c.args.session.now;
      regs = g.R.Regs.state c.args.regs.now;
      media = g.M.Media.state c.args.media.now;
      script = g.S.Source.state c.args.script.now;
      sink = g.K.Sink.state c.args.out.now;
    } in
    let now : Moment = record {
      session = c.lines.session;
      regs = g.R.Regs.state c.lines.regs;
      media = g.M.Media.state c.lines.media;
      script = g.S.Source.state c.lines.script;
      sink = g.K.Sink.state c.lines.out;
    } in
    let later : Moment = record {
      session = c.match-next.session;
      regs = g.R.Regs.state c.match-next.regs;
      media = g.M.Media.state c.match-next.media;
      script = g.S.Source.state c.next.new.source;
      sink = g.K.Sink.state c.match-next.out;
    } in
    let took : Took c.lines.invariant.passed c.next.new.self start now later c.match-next.carried = elim c.match-next.branch [
      | in-Line w ↦
          took_so c.lines.invariant.passed c.next.new.self start now _ _ _ _ _ _ _ _ _ _ _ w.session-is (ap g.R.Regs.state w.regs-is) (ap g.M.Media.state w.media-is) (ap g.K.Sink.state w.out-is) w.carried-is
          (took_one c.lines.invariant.passed c.next.new.self start now _ _ _ _ _ _ _
          (reads_line c.lines.invariant.passed c.lines.reader c.next.new.self _ _ _ w.line.result.now w.line.ensures c.lines.invariant.read w.in-Line.ensures.next) c.next.ensures.counts record { carried = w.carry_out_line-carried.ensures.carried; sink = w.carry_out_line-carried.ensures.sink; bus = w.carry_out_line-carried.ensures.bus })
      | in-Long w ↦
          took_so c.lines.invariant.passed c.next.new.self start now _ _ _ _ _ _ _ _ _ _ _ w.session-is (ap g.R.Regs.state w.regs-is) (ap g.M.Media.state w.media-is) (ap g.K.Sink.state w.out-is) w.carried-is
          (took_one c.lines.invariant.passed c.next.new.self start now _ _ _ _ _ _ _
          (reads_long c.lines.invariant.passed c.lines.reader c.next.new.self _ _ _ c.lines.invariant.read w.in-Long.ensures.next) c.next.ensures.counts record { carried = λ m at. w.tell_bad_line-carried.ensures.carried m now.regs now.media at; sink = w.tell_bad_line-carried.ensures.sink; bus = le_refl now.regs.faults })
    ] in
    let which = rw c.in-Err-Sink.is at c.in-Err-Sink.field-0-is in
    took_cut c.lines.reader c.next.new.self start now later c.match-next.carried c.lines.invariant took (c.in-Err-Sink.is ∙ ap (λ (stop : LineStop). Err stop) which)
    (elim c.match-next.branch [
      | in-Line w ↦ c.next.ensures.unswallowed (λ e. let is = w.in-Line.is in absurd (cc))
      | in-Long w ↦ c.next.ensures.unswallowed (λ e. let is = w.in-Long.is in absurd (cc))
    ])

pub returns-in-Err-Memory : goal.returns-in-Err-Memory
returns-in-Err-Memory g c =
    let start : Moment = record {
      session = c.args.session.now;
      regs = g.R.Regs.state c.args.regs.now;
      media = g.M.Media.state c.args.media.now;
      script = g.S.Source.state c.args.script.now;
      sink = g.K.Sink.state c.args.out.now;
    } in
    let now : Moment = record {
      session = c.lines.session;
      regs = g.R.Regs.state c.lines.regs;
      media = g.M.Media.state c.lines.media;
      script = g.S.Source.state c.lines.script;
      sink = g.K.Sink.state c.lines.out;
    } in
    let later : Moment = record {
      session = c.match-next.session;
      regs = g.R.Regs.state c.match-next.regs;
      media = g.M.Media.state c.match-next.media;
      script = g.S.Source.state c.next.new.source;
      sink = g.K.Sink.state c.match-next.out;
    } in
    let took : Took c.lines.invariant.passed c.next.new.self start now later c.match-next.carried = elim c.match-next.branch [
      | in-Line w ↦
          took_so c.lines.invariant.passed c.next.new.self start now _ _ _ _ _ _ _ _ _ _ _ w.session-is (ap g.R.Regs.state w.regs-is) (ap g.M.Media.state w.media-is) (ap g.K.Sink.state w.out-is) w.carried-is
          (took_one c.lines.invariant.passed c.next.new.self start now _ _ _ _ _ _ _
          (reads_line c.lines.invariant.passed c.lines.reader c.next.new.self _ _ _ w.line.result.now w.line.ensures c.lines.invariant.read w.in-Line.ensures.next) c.next.ensures.counts record { carried = w.carry_out_line-carried.ensures.carried; sink = w.carry_out_line-carried.ensures.sink; bus = w.carry_out_line-carried.ensures.bus })
      | in-Long w ↦
          took_so c.lines.invariant.passed c.next.new.self start now _ _ _ _ _ _ _ _ _ _ _ w.session-is (ap g.R.Regs.state w.regs-is) (ap g.M.Media.state w.media-is) (ap g.K.Sink.state w.out-is) w.carried-is
          (took_one c.lines.invariant.passed c.next.new.self start now _ _ _ _ _ _ _
          (reads_long c.lines.invariant.passed c.lines.reader c.next.new.self _ _ _ c.lines.invariant.read w.in-Long.ensures.next) c.next.ensures.counts record { carried = λ m at. w.tell_bad_line-carried.ensures.carried m now.regs now.media at; sink = w.tell_bad_line-carried.ensures.sink; bus = le_refl now.regs.faults })
    ] in
    let which = rw c.in-Err-Memory.is at c.in-Err-Memory.field-0-is in
    took_left c.lines.reader c.next.new.self start now later c.match-next.carried c.lines.invariant took (c.in-Err-Memory.is ∙ ap (λ (stop : LineStop). Err stop) which)
    (elim c.match-next.branch [
      | in-Line w ↦ c.next.ensures.unswallowed (λ e. let is = w.in-Line.is in absurd (cc))
      | in-Long w ↦ c.next.ensures.unswallowed (λ e. let is = w.in-Long.is in absurd (cc))
    ])
