use Rattle.std.proofs.Common.{Some, sym, ap, ◌∙◌, refl, arith}
use Rattle.cxl_io.specs.Lines.{ended_lines}
use Rattle.cxl_io.specs.Reader.{Reader, stopped}
use Rattle.cxl_io.specs.declared.line_reader.Taken.TheVariants.{Fault}
use Rattle.cxl_io.proofs.Reading.{not_over, line_no_fault, last_no_fault, too_much_no_fault, stopped_no_more, first_counted, reading-begin, reading-all, reading-refilled, next-ended, next-too_much, next-at_end, next-fails}
use Rattle.cxl_io.proofs.line_reader.LineReader.next.Goals as goal

-- the same, but that the source failed
abbrev failing : Reader → Reader
failing r = record r { stop = Some Fault }

pub returns-in-Some-clause-next : goal.returns-in-Some-clause-next
returns-in-Some-clause-next g c =
    stopped c.in-Some.answer (sym (ap (λ r. r.stop) c.begin.ensures.after) ∙ sym c.stopped.ensures ∙ c.in-Some.is) c.begin.ensures.after refl refl

pub turns-init : goal.turns-init
turns-init g c = record {
  so_far = reading-begin c.args.self.now c.begin.new.self _ c.begin.ensures.after (sym (ap (λ r. r.stop) c.begin.ensures.after) ∙ sym c.stopped.ensures ∙ c.in_default.is) c.begin.ensures.few;
  counts = omega arith;
  alone = refl;
  unswallowed = λ _. refl;
  first = λ _. (refl, c.begin.ensures.after);
}

pub returns-then-pass_break-clause-next : goal.returns-then-pass_break-clause-next
returns-then-pass_break-clause-next g c =
    next-ended c.args.self.now c.turns.self c.pass_break.new.self c.ended.new.self _ _ c.ended.result c.turns.invariant.so_far c.if-pass_break.ensures.found c.ended.ensures.answer c.ended.ensures.after

pub returns-then-is_over-clause-next : goal.returns-then-is_over-clause-next
returns-then-is_over-clause-next g c =
    let passes = c.if-pass_break.ensures.none in
    next-too_much c.args.self.now c.pass_break.new.self _ _ (reading-all c.args.self.now c.turns.self c.pass_break.new.self _ _ c.turns.invariant.so_far passes) (ap (λ r. r.held) passes.after)
    c.stop.new.self c.stop.result (c.if-is_over.ensures.0 refl) c.stop.ensures.answer c.stop.ensures.after

pub returns-in-Ok-eq0-clause-next : goal.returns-in-Ok-eq0-clause-next
returns-in-Ok-eq0-clause-next g c =
    let passes = c.if-pass_break.ensures.none in
    let few = not_over c.pass_break.new.self.taken (λ over. let e = c.if-is_over.ensures.1 over in cc) in
    next-at_end c.args.self.now c.pass_break.new.self c.refill.new.self c.last.new.self _ _ _ c.in-Ok-eq0.field-0 c.last.result
    (reading-all c.args.self.now c.turns.self c.pass_break.new.self _ _ c.turns.invariant.so_far passes) (ap (λ r. r.held) passes.after) few
    c.in-Ok-eq0.ensures.ok c.in-Ok-eq0.field-0-test (c.in-Ok-eq0.ensures.read.end c.in-Ok-eq0.field-0-test) c.last.ensures.answer c.last.ensures.after

pub turns-preserved : goal.turns-preserved
turns-preserved g c =
    let passes = c.if-pass_break.ensures.none in
    let few = not_over c.pass_break.new.self.taken (λ over. let e = c.if-is_over.ensures.1 over in cc) in
    record {
      so_far =
          reading-refilled c.args.self.now c.pass_break.new.self c.refill.new.self _ _ _ c.in-Ok.field-0
          (reading-all c.args.self.now c.turns.self c.pass_break.new.self _ _ c.turns.invariant.so_far passes) (ap (λ r. r.held) passes.after) few
          c.in-Ok.ensures.ok;
      counts = let so_far = c.turns.invariant.counts in let more = c.in-Ok.ensures.read.counts in omega arith;
      alone = c.in-Ok.ensures.read.alone ∙ c.turns.invariant.alone;
      unswallowed = λ alone. c.in-Ok.ensures.read.unswallowed (c.turns.invariant.alone ∙ alone) ∙ c.turns.invariant.unswallowed alone;
      first = λ holds. absurd (holds (sym (ap (λ (r : Reader). ended_lines r.held) (c.turns.invariant.first holds).1) ∙ passes.unbroken));
    }

pub returns-in-Err-clause-next : goal.returns-in-Err-clause-next
returns-in-Err-clause-next g c =
    let passes = c.if-pass_break.ensures.none in
    let few = not_over c.pass_break.new.self.taken (λ over. let e = c.if-is_over.ensures.1 over in cc) in
    let rose = c.in-Err.ensures.read.cause in
    let so_far = c.turns.invariant.counts in
    next-fails c.args.self.now c.pass_break.new.self _ _
    (reading-all c.args.self.now c.turns.self c.pass_break.new.self _ _ c.turns.invariant.so_far passes) (ap (λ r. r.held) passes.after)
    c.stop-in-Err.new.self _ c.stop-in-Err.result c.in-Err.ensures.read.failed (omega (arith, rose, so_far)) few
    (c.stop-in-Err.ensures.after ∙ ap failing c.in-Err.ensures.err) c.stop-in-Err.ensures.answer

pub returns-in-Some-clause-counts : goal.returns-in-Some-clause-counts
returns-in-Some-clause-counts g c = omega arith

pub returns-in-Some-clause-alone : goal.returns-in-Some-clause-alone
returns-in-Some-clause-alone g c = refl

pub returns-in-Some-clause-unswallowed : goal.returns-in-Some-clause-unswallowed
returns-in-Some-clause-unswallowed g c = λ _ _. refl

pub returns-in-Some-clause-counted : goal.returns-in-Some-clause-counted
returns-in-Some-clause-counted g c =
    let some = sym (ap (λ r. r.stop) c.begin.ensures.after) ∙ sym c.stopped.ensures ∙ c.in-Some.is in
    λ fault none. absurd (stopped_no_more _ c.in-Some.answer some none)

pub returns-in-Some-clause-held : goal.returns-in-Some-clause-held
returns-in-Some-clause-held g c = λ holds. refl

pub returns-in-Some-clause-takes_none : goal.returns-in-Some-clause-takes_none
returns-in-Some-clause-takes_none g c = λ holds. ap (λ r. r.taken) c.begin.ensures.after

pub returns-then-pass_break-clause-counts : goal.returns-then-pass_break-clause-counts
returns-then-pass_break-clause-counts g c = c.turns.invariant.counts

pub returns-then-pass_break-clause-alone : goal.returns-then-pass_break-clause-alone
returns-then-pass_break-clause-alone g c = c.turns.invariant.alone

pub returns-then-pass_break-clause-unswallowed : goal.returns-then-pass_break-clause-unswallowed
returns-then-pass_break-clause-unswallowed g c = λ _. c.turns.invariant.unswallowed

pub returns-then-pass_break-clause-counted : goal.returns-then-pass_break-clause-counted
returns-then-pass_break-clause-counted g c = λ fault none. absurd (line_no_fault _ c.ended.result c.ended.ensures.answer fault)

pub returns-then-pass_break-clause-held : goal.returns-then-pass_break-clause-held
returns-then-pass_break-clause-held g c = λ holds. (c.turns.invariant.first holds).0

pub returns-then-pass_break-clause-takes_none : goal.returns-then-pass_break-clause-takes_none
returns-then-pass_break-clause-takes_none g c = λ holds.
    ap (λ r. r.taken) c.ended.ensures.after ∙ ap (λ r. r.taken) c.if-pass_break.ensures.found.after
    ∙ ap (λ r. r.taken) (c.turns.invariant.first holds).1

pub returns-then-is_over-clause-counts : goal.returns-then-is_over-clause-counts
returns-then-is_over-clause-counts g c = c.turns.invariant.counts

pub returns-then-is_over-clause-alone : goal.returns-then-is_over-clause-alone
returns-then-is_over-clause-alone g c = c.turns.invariant.alone

pub returns-then-is_over-clause-unswallowed : goal.returns-then-is_over-clause-unswallowed
returns-then-is_over-clause-unswallowed g c = λ _. c.turns.invariant.unswallowed

pub returns-then-is_over-clause-counted : goal.returns-then-is_over-clause-counted
returns-then-is_over-clause-counted g c = λ fault none. absurd (too_much_no_fault c.stop.result c.stop.ensures.answer fault)

pub returns-then-is_over-clause-held : goal.returns-then-is_over-clause-held
returns-then-is_over-clause-held g c = λ holds. (c.turns.invariant.first holds).0

pub returns-then-is_over-clause-takes_none : goal.returns-then-is_over-clause-takes_none
returns-then-is_over-clause-takes_none g c = λ holds.
    absurd (holds (sym (ap (λ (r : Reader). ended_lines r.held) (c.turns.invariant.first holds).1) ∙ c.if-pass_break.ensures.none.unbroken))

pub returns-in-Ok-eq0-clause-counts : goal.returns-in-Ok-eq0-clause-counts
returns-in-Ok-eq0-clause-counts g c = let so_far = c.turns.invariant.counts in let more = c.in-Ok-eq0.ensures.read.counts in omega arith

pub returns-in-Ok-eq0-clause-alone : goal.returns-in-Ok-eq0-clause-alone
returns-in-Ok-eq0-clause-alone g c = c.in-Ok-eq0.ensures.read.alone ∙ c.turns.invariant.alone

pub returns-in-Ok-eq0-clause-unswallowed : goal.returns-in-Ok-eq0-clause-unswallowed
returns-in-Ok-eq0-clause-unswallowed g c = λ _ alone.
    c.in-Ok-eq0.ensures.read.unswallowed (c.turns.invariant.alone ∙ alone) ∙ c.turns.invariant.unswallowed alone

pub returns-in-Ok-eq0-clause-counted : goal.returns-in-Ok-eq0-clause-counted
returns-in-Ok-eq0-clause-counted g c = λ fault none. absurd (last_no_fault c.refill.new.self.line c.last.result c.last.ensures.answer fault)

pub returns-in-Ok-eq0-clause-held : goal.returns-in-Ok-eq0-clause-held
returns-in-Ok-eq0-clause-held g c = λ holds.
    absurd (holds (sym (ap (λ (r : Reader). ended_lines r.held) (c.turns.invariant.first holds).1) ∙ c.if-pass_break.ensures.none.unbroken))

pub returns-in-Ok-eq0-clause-takes_none : goal.returns-in-Ok-eq0-clause-takes_none
returns-in-Ok-eq0-clause-takes_none g c = λ holds.
    absurd (holds (sym (ap (λ (r : Reader). ended_lines r.held) (c.turns.invariant.first holds).1) ∙ c.if-pass_break.ensures.none.unbroken))

pub returns-in-Err-clause-counts : goal.returns-in-Err-clause-counts
returns-in-Err-clause-counts g c = let so_far = c.turns.invariant.counts in let more = c.in-Err.ensures.read.counts in omega arith

pub returns-in-Err-clause-alone : goal.returns-in-Err-clause-alone
returns-in-Err-clause-alone g c = c.in-Err.ensures.read.alone ∙ c.turns.invariant.alone

pub returns-in-Err-clause-unswallowed : goal.returns-in-Err-clause-unswallowed
returns-in-Err-clause-unswallowed g c = λ other. absurd (other c.stop-in-Err.ensures.answer)

pub returns-in-Err-clause-counted : goal.returns-in-Err-clause-counted
returns-in-Err-clause-counted g c = λ fault none.
    first_counted _ _ _ _ _ c.turns.invariant.alone c.turns.invariant.unswallowed c.in-Err.ensures.read.counted

pub returns-in-Err-clause-held : goal.returns-in-Err-clause-held
returns-in-Err-clause-held g c = λ holds.
    absurd (holds (sym (ap (λ (r : Reader). ended_lines r.held) (c.turns.invariant.first holds).1) ∙ c.if-pass_break.ensures.none.unbroken))

pub returns-in-Err-clause-takes_none : goal.returns-in-Err-clause-takes_none
returns-in-Err-clause-takes_none g c = λ holds.
    absurd (holds (sym (ap (λ (r : Reader). ended_lines r.held) (c.turns.invariant.first holds).1) ∙ c.if-pass_break.ensures.none.unbroken))

pub refill-requires-clause-held : goal.refill-requires-clause-held
refill-requires-clause-held g c = ap (λ r. r.held) c.if-pass_break.ensures.none.after

pub refill-requires-clause-taken : goal.refill-requires-clause-taken
refill-requires-clause-taken g c = not_over c.pass_break.new.self.taken (λ over. let e = c.if-is_over.ensures.1 over in cc)
