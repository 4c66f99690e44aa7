-- The lines of a script that were carried out so far, one more of them, and how they end.
use Rattle.std.proofs.Common.{◌≡◌, ◌≢◌, ℕ, ◌<◌, ◌≤◌, ◌⊎◌, None, Result, Ok, Err, List, [], ◌∷◌, ◌++◌, length, take, refl, sym, ap, subst, ◌∙◌, inl, inr, arith, true, if◌then◌else◌}
use Rattle.std.proofs.lemmas.Bool.{lt-ltb}
use Rattle.std.proofs.lemmas.List.{append-nil}
use Rattle.cxl_enc.specs.Faults.{Rose, LeavesCount, CountsExactly}
use Rattle.cxl_bus.specs.RegsState.{RegsState}
use Rattle.cxl_io.specs.Reader.{Reader, line_limit, fresh_reader, IsNext, HasStopped, HasRead}
use Rattle.cxl_io.specs.Sink.{SinkState, Takes, TakesPrefix}
use Rattle.cxl_io.specs.Source.{SourceState}
use Rattle.cxl_io.specs.declared.line_reader.Taken.{Taken}
use Rattle.cxl_io.specs.declared.line_reader.Taken.TheVariants as readers
use Rattle.cxl_io.proofs.HasRead.{read-begin, read-line, read-long, read-stop}
use Rattle.cxl_io.proofs.Writes.{Takes-append}
use Rattle.cxl_media.specs.MediaState.{MediaState}
use Rattle.cxl_script.specs.declared.fault.BadLine.{BadLine}
use Rattle.cxl_script.specs.declared.fault.Why.TheVariants as whys
use Rattle.cxl_script.specs.Grammar.{asked_in, asked_by}
use Rattle.cxl_script.specs.Reading.{bad}
use Rattle.cxl_script.specs.Words.{line_words}
use Rattle.cxl_topo.specs.declared.node.Node.{Node}
use Rattle.cxl_reply.specs.declared.reply.Reply.{Reply}
use Rattle.cxl_reply.specs.Replies.{reply_text}
use Rattle.cxl_machine.specs.Machine.{Machine}
use Rattle.cxl_machine.specs.Scripts.{Asked, Turn, asked_before, lines_asked}
use Rattle.cxl_machine.specs.Turns.{AreTurns, machine_after, text_of}
use Rattle.cxl_machine.proofs.GoingOn.{lines_more}
use Rattle.cxl_session.specs.State.{SessionState}
use Rattle.cxl_turns.specs.declared.endings.Ending.{Ending}
use Rattle.cxl_turns.specs.declared.endings.Ending.TheVariants as endings
use Rattle.cxl_turns.specs.declared.stops.LineStop.{LineStop}
use Rattle.cxl_turns.specs.declared.stops.LineStop.TheVariants as stops
use Rattle.cxl_turns.specs.Going.{HasGoneOn}
use Rattle.cxl_turns.specs.Endings.{StopsReading, IsCutBehind, EndsLines, read_out, reply_cut, runs_out}
use Rattle.cxl_turns.specs.inner.Moments.{Moment, EachFrom, IsEnd}
use Rattle.cxl_turns.specs.inner.CarriedOut.{IsAnswered, IsCutOff, IsLeft, IsCarriedOut}
use Rattle.cxl_turns.proofs.FirstLines.{GoesOnOrEnds, first_lines, first_but_last, no_first_lines, goes_on_or_ends, fault_rose, fault_going}
use Rattle.cxl_turns.proofs.Going.{nodes_after, text_both, gone_same, gone_still, gone_both}
use Rattle.cxl_turns.proofs.CarriedOut.{answered_none, takes_none}

-- these lines were read, and all that they ask for is answered
pub record HaveRun (reader : Reader) (start now : Moment) : Type 0 where
  pub passed : List (List ℕ)
  pub read : HasRead passed start.script reader now.script
  pub goes : GoesOnOrEnds reader
  pub alone : now.script.counts_failures_alone ≡ start.script.counts_failures_alone
  pub left : LeavesCount start.script.counts_failures_alone start.script.faults now.script.faults
  pub source : start.script.faults ≤ now.script.faults
  pub sink : start.sink.faults ≤ now.sink.faults
  pub bus : start.regs.faults ≤ now.regs.faults
  pub each : EachFrom start (λ m. IsAnswered m (lines_asked passed) now.session start.regs now.regs now.media start.sink now.sink)

-- ---- before the first line

pub run_begins : (start : Moment) → HaveRun fresh_reader start start
run_begins start = record {
  passed = [];
  read = read-begin start.script;
  goes = inl refl;
  alone = refl;
  left = λ _. refl;
  source = omega arith;
  sink = omega arith;
  bus = omega arith;
  each = λ m at. answered_none m start.session start.regs start.media start.sink at;
}

-- memory ran out there
pub none_run : (start : Moment) → IsEnd start start endings.Memory
none_run start = record {
  ends = λ m at.
      ([], [], gone_same m start.session start.regs start.media at, runs_out [] (no_first_lines start.script) refl refl (takes_none start.sink start.sink refl) (λ _. refl) (λ _. refl));
  source = omega arith;
  sink = omega arith;
  bus = omega arith;
}

-- ---- a line of more than 4,096 bytes

abbrev pub long_fault : BadLine
long_fault = record { at = 4096; why = whys.Long }

pub long_asked : (line : List ℕ) → line_limit < length line → lines_asked (line ∷ []) ≡ Err long_fault ∷ []
long_asked line long = ap (λ asked. asked_before asked []) is_long
  where
    is_long : asked_in line ≡ Err long_fault
    is_long = ap (λ t. if t then bad line_limit whys.Long else asked_by (length line) (line_words line)) (lt-ltb line_limit (length line) long)

-- ---- one answer of the reader

-- the reader has passed on one line more, and this is asked there
pub record ReadsOne (passed : List (List ℕ)) (next : Reader) (start after : SourceState) (asked : List Asked) : Type 0 where
  pub line : List ℕ
  pub asks : lines_asked (line ∷ []) ≡ asked
  pub read : HasRead (passed ++ line ∷ []) start next after
  pub goes : GoesOnOrEnds next

pub reads_line : (passed : List (List ℕ)) (reader next : Reader) (start before after : SourceState) (line : List ℕ) → line ≡ next.line → HasRead passed start reader before → IsNext reader next before after readers.Line
    → ReadsOne passed next start after (lines_asked (line ∷ []))
reads_line passed reader next start before after line same read is = record {
  line = next.line;
  asks = ap (λ l. lines_asked (l ∷ [])) (sym same);
  read = read-line passed start before after reader next read is;
  goes = goes_on_or_ends passed start before after reader next readers.Line (inl refl) read is;
}

pub reads_long : (passed : List (List ℕ)) (reader next : Reader) (start before after : SourceState) → HasRead passed start reader before → IsNext reader next before after readers.Long
    → ReadsOne passed next start after (Err long_fault ∷ [])
reads_long passed reader next start before after read is =
    let (line, long, reads) = read-long passed start before after reader next read is in
    record {
      line = line;
      asks = long_asked line long;
      read = reads;
      goes = goes_on_or_ends passed start before after reader next readers.Long (inr refl) read is;
    }

-- ---- one line more

module _ (reader next : Reader) (start now later : Moment) (run : HaveRun reader start now) (asked : List Asked)
    (one : ReadsOne run.passed next start.script later.script asked) (source : now.script.faults ≤ later.script.faults) (sink : now.sink.faults ≤ later.sink.faults) where
  asks : lines_asked (run.passed ++ one.line ∷ []) ≡ lines_asked run.passed ++ asked
  asks = lines_more run.passed (one.line ∷ []) ∙ ap (λ more. lines_asked run.passed ++ more) one.asks

  pub run_more : (alone : later.script.counts_failures_alone ≡ now.script.counts_failures_alone) → LeavesCount now.script.counts_failures_alone now.script.faults later.script.faults → now.regs.faults ≤ later.regs.faults
      → EachFrom now (λ m. IsAnswered m asked later.session now.regs later.regs later.media now.sink later.sink) → HaveRun next start later
  run_more alone left bus each = record {
    passed = run.passed ++ one.line ∷ [];
    read = one.read;
    goes = one.goes;
    alone = alone ∙ run.alone;
    left = λ only. left (run.alone ∙ only) ∙ run.left only;
    source = (let so_far = run.source in omega (arith, so_far, source));
    sink = (let so_far = run.sink in omega (arith, so_far, sink));
    bus = (let so_far = run.bus in omega (arith, so_far, bus));
    each = λ m at.
        let was = run.each m at in
        let more = each (machine_after m was.turns) was.gone.at in
        both m was more;
  }
    where
      both : (m : Machine) (was : IsAnswered m (lines_asked run.passed) now.session start.regs now.regs now.media start.sink now.sink)
          → IsAnswered (machine_after m was.turns) asked later.session now.regs later.regs later.media now.sink later.sink
          → IsAnswered m (lines_asked (run.passed ++ one.line ∷ [])) later.session start.regs later.regs later.media start.sink later.sink
      both m was more = record {
        turns = was.turns ++ more.turns;
        gone =
            subst (λ all. HasGoneOn m all (was.turns ++ more.turns) later.session start.regs later.regs later.media) (sym asks)
            (gone_both m (lines_asked run.passed) asked was.turns more.turns now.session later.session start.regs now.regs later.regs now.media later.media was.gone more.gone);
        told = text_more m was.turns more.turns was.gone.answered was.told more.told;
        alone = more.alone ∙ was.alone;
        unswallowed = λ only. more.unswallowed (was.alone ∙ only) ∙ was.unswallowed only;
      }
        where
          text_more : (m : Machine) (turns others : List Turn) → AreTurns m (lines_asked run.passed) turns → Takes start.sink now.sink (text_of m.settled.nodes turns)
              → Takes now.sink later.sink (text_of (machine_after m turns).settled.nodes others) → Takes start.sink later.sink (text_of m.settled.nodes (turns ++ others))
          text_more m turns others are first second =
              subst (λ text. Takes start.sink later.sink text) (sym (text_both m.settled.nodes turns others))
              (Takes-append start.sink now.sink later.sink (text_of m.settled.nodes turns) (text_of m.settled.nodes others) first
              (subst (λ nodes. Takes now.sink later.sink (text_of nodes others)) (nodes_after m (lines_asked run.passed) turns are) second))

  ends_so : (ending : Ending) → now.regs.faults ≤ later.regs.faults
      → EachFrom start (λ m. (asked : List Asked) × (turns : List Turn) × HasGoneOn m asked turns later.session start.regs later.regs later.media
      × EndsLines m.settled.nodes asked turns start.script later.script start.sink later.sink ending)
      → IsEnd start later ending
  ends_so ending bus ends = record {
    ends = ends;
    source = (let so_far = run.source in omega (arith, so_far, source));
    sink = (let so_far = run.sink in omega (arith, so_far, sink));
    bus = (let so_far = run.bus in omega (arith, so_far, bus));
  }

  -- the sink failed in its reply
  pub run_cut : LeavesCount now.script.counts_failures_alone now.script.faults later.script.faults → now.regs.faults ≤ later.regs.faults
      → EachFrom now (λ m. IsCutOff m asked later.session now.regs later.regs later.media now.sink later.sink)
      → IsEnd start later endings.WriteFault
  run_cut left bus each = ends_so endings.WriteFault bus (λ m at.
      let was = run.each m at in
      let more = each (machine_after m was.turns) was.gone.at in (
        lines_asked (run.passed ++ one.line ∷ []),
        was.turns ++ more.turn ∷ [],
        subst (λ all. HasGoneOn m all (was.turns ++ more.turn ∷ []) later.session start.regs later.regs later.media) (sym asks)
            (gone_both m (lines_asked run.passed) asked was.turns (more.turn ∷ []) now.session later.session start.regs now.regs later.regs now.media later.media was.gone more.gone),
        reply_cut (run.passed ++ one.line ∷ []) was.turns more.turn (first_lines (run.passed ++ one.line ∷ []) start.script later.script next one.goes one.read) refl refl
            (cut_behind m.settled.nodes (text_of m.settled.nodes was.turns) more.turn.reply was.told
            (subst (λ nodes. TakesPrefix now.sink later.sink (reply_text nodes more.turn.reply)) (nodes_after m (lines_asked run.passed) was.turns was.gone.answered) more.cut) more.rose
            (λ only. subst (λ n. CountsExactly 1 true n later.sink.faults) (was.unswallowed only) (λ _. more.counted (was.alone ∙ only)) refl)) refl
            (λ only. left (run.alone ∙ only) ∙ run.left only),
      ))
    where
      cut_behind : (nodes : List Node) (front : List ℕ) (reply : Reply) → Takes start.sink now.sink front → TakesPrefix now.sink later.sink (reply_text nodes reply)
          → Rose now.sink.faults later.sink.faults → CountsExactly 1 start.sink.counts_failures_alone start.sink.faults later.sink.faults
          → IsCutBehind front (reply_text nodes reply) start.sink later.sink
      cut_behind nodes front reply first cut rose once = record {
        rose = (let so_far = run.sink in omega (arith, so_far, rose));
        count = cut.count;
        short = cut.short;
        taken = Takes-append start.sink now.sink later.sink front (take cut.count (reply_text nodes reply)) first cut.taken;
        counted = once;
      }

  -- memory ran out at it
  pub run_left : LeavesCount now.script.counts_failures_alone now.script.faults later.script.faults → now.regs.faults ≤ later.regs.faults
      → EachFrom now (λ m. IsLeft m later.session now.regs later.regs later.media now.sink later.sink) → IsEnd start later endings.Memory
  run_left left bus each = ends_so endings.Memory bus (λ m at.
      let was = run.each m at in
      let more = each (machine_after m was.turns) was.gone.at in (
        lines_asked run.passed,
        was.turns,
        gone_still m (lines_asked run.passed) was.turns now.session later.session start.regs now.regs later.regs now.media later.media was.gone more.gone,
        runs_out run.passed (first_but_last run.passed one.line start.script later.script (first_lines (run.passed ++ one.line ∷ []) start.script later.script next one.goes one.read))
            refl refl
            (subst (λ text. Takes start.sink later.sink text) (append-nil (text_of m.settled.nodes was.turns))
            (Takes-append start.sink now.sink later.sink (text_of m.settled.nodes was.turns) [] was.told more.told))
            (λ only. left (run.alone ∙ only) ∙ run.left only) (λ only. more.unswallowed (was.alone ∙ only) ∙ was.unswallowed only),
      ))

-- ---- what a line came to, by its result

-- the reader has passed on one line more, and this is what it came to
pub record Took (passed : List (List ℕ)) (next : Reader) (start now later : Moment) (result : Result (Unit {0}) LineStop) : Type 0 where
  pub asked : List Asked
  pub one : ReadsOne passed next start.script later.script asked
  pub carried : EachFrom now (λ m. IsCarriedOut m asked later.session now.regs later.regs later.media now.sink later.sink result)
  pub source : now.script.faults ≤ later.script.faults
  pub sink : now.sink.faults ≤ later.sink.faults
  pub bus : now.regs.faults ≤ later.regs.faults

-- the same where all is known by other names
pub took_so : (passed : List (List ℕ)) (next : Reader) (start now : Moment) (script : SourceState) (session session' : SessionState) (regs regs' : RegsState) (media media' : MediaState) (sink sink' : SinkState) (result result' : Result (Unit {0}) LineStop)
    → session' ≡ session → regs' ≡ regs → media' ≡ media → sink' ≡ sink → result' ≡ result
    → Took passed next start now record { session = session; regs = regs; media = media; script = script; sink = sink } result
    → Took passed next start now record { session = session'; regs = regs'; media = media'; script = script; sink = sink' } result'
took_so passed next start now script session session' regs regs' media media' sink sink' result result' es er em ek e took =
    subst (λ r. Took passed next start now record { session = session'; regs = regs'; media = media'; script = script; sink = sink' } r) (sym e)
    (subst (λ k. Took passed next start now record { session = session'; regs = regs'; media = media'; script = script; sink = k } result) (sym ek)
    (subst (λ d. Took passed next start now record { session = session'; regs = regs'; media = d; script = script; sink = sink } result) (sym em)
    (subst (λ r. Took passed next start now record { session = session'; regs = r; media = media; script = script; sink = sink } result) (sym er)
    (subst (λ s. Took passed next start now record { session = s; regs = regs; media = media; script = script; sink = sink } result) (sym es) took))))

-- what `carry_out_line` and `tell_bad_line` say of one
pub record Carries (now : Moment) (session : SessionState) (regs : RegsState) (media : MediaState) (told : SinkState) (asked : List Asked) (result : Result (Unit {0}) LineStop) : Type 0 where
  pub carried : EachFrom now (λ m. IsCarriedOut m asked session now.regs regs media now.sink told result)
  pub sink : now.sink.faults ≤ told.faults
  pub bus : now.regs.faults ≤ regs.faults

pub took_one : (passed : List (List ℕ)) (next : Reader) (start now : Moment) (script : SourceState) (session : SessionState) (regs : RegsState) (media : MediaState) (sink : SinkState) (asked : List Asked) (result : Result (Unit {0}) LineStop)
    → ReadsOne passed next start.script script asked → now.script.faults ≤ script.faults → Carries now session regs media sink asked result
    → Took passed next start now record { session = session; regs = regs; media = media; script = script; sink = sink } result
took_one passed next start now script session regs media sink asked result one source carries = record {
  asked = asked;
  one = one;
  carried = carries.carried;
  source = source;
  sink = carries.sink;
  bus = carries.bus;
}

module _ (reader next : Reader) (start now later : Moment) (result : Result (Unit {0}) LineStop) (run : HaveRun reader start now) (took : Took run.passed next start now later result) where
  known : (other : Result (Unit {0}) LineStop) → result ≡ other → EachFrom now (λ m. IsCarriedOut m took.asked later.session now.regs later.regs later.media now.sink later.sink other)
  known other is m at = subst (IsCarriedOut m took.asked later.session now.regs later.regs later.media now.sink later.sink) is (took.carried m at)

  pub took_more : (done : Unit {0}) → result ≡ Ok done → later.script.counts_failures_alone ≡ now.script.counts_failures_alone
      → LeavesCount now.script.counts_failures_alone now.script.faults later.script.faults → HaveRun next start later
  took_more done is alone left =
      run_more reader next start now later run took.asked took.one took.source took.sink alone left took.bus (known (Ok done) is)

  pub took_cut : result ≡ Err stops.Sink → LeavesCount now.script.counts_failures_alone now.script.faults later.script.faults
      → IsEnd start later endings.WriteFault
  took_cut is left = run_cut reader next start now later run took.asked took.one took.source took.sink left took.bus (known (Err stops.Sink) is)

  pub took_left : result ≡ Err stops.Memory → LeavesCount now.script.counts_failures_alone now.script.faults later.script.faults → IsEnd start later endings.Memory
  took_left is left = run_left reader next start now later run took.asked took.one took.source took.sink left took.bus (known (Err stops.Memory) is)

-- ---- the end of reading

no_line : (answer : Taken) → (answer ≡ readers.End) ⊎ (answer ≡ readers.Fault) ⊎ (answer ≡ readers.TooMuch) → (answer ≢ readers.Line) × (answer ≢ readers.Long)
no_line answer (inl is) = (λ e. absurd (cc), λ e. absurd (cc))
no_line answer (inr (inl is)) = (λ e. absurd (cc), λ e. absurd (cc))
no_line answer (inr (inr is)) = (λ e. absurd (cc), λ e. absurd (cc))

module _ (reader next : Reader) (start now : Moment) (after : SourceState) (run : HaveRun reader start now) (source : now.script.faults ≤ after.faults) where
  -- with the source as it is later
  abbrev later : Moment
  later = record now { script = after }

  stops_so : (ending : Ending) → StopsReading ending run.passed start.script after → (ending ≡ endings.Done → LeavesCount start.script.counts_failures_alone start.script.faults after.faults)
      → IsEnd start later ending
  stops_so ending stops unswallowed = record {
    ends = λ m at.
        let was = run.each m at in
        (lines_asked run.passed, was.turns, was.gone, read_out run.passed stops refl was.told unswallowed (record { alone = was.alone; unswallowed = was.unswallowed }));
    source = (let so_far = run.source in omega (arith, so_far, source));
    sink = run.sink;
    bus = run.bus;
  }

  stops_at : (answer : Taken) → (answer ≡ readers.End) ⊎ (answer ≡ readers.Fault) ⊎ (answer ≡ readers.TooMuch) → IsNext reader next now.script after answer → HasStopped answer run.passed start.script after
  stops_at answer ends is =
      let others = no_line answer ends in (read-stop run.passed start.script now.script after reader next answer run.read is others.0 others.1).2

  pub run_done : LeavesCount now.script.counts_failures_alone now.script.faults after.faults → IsNext reader next now.script after readers.End → IsEnd start later endings.Done
  run_done left is = stops_so endings.Done (stops_at readers.End (inl refl) is) (λ _ only. left (run.alone ∙ only) ∙ run.left only)

  pub run_fails : IsNext reader next now.script after readers.Fault
      → (reader.stop ≡ None → CountsExactly 1 now.script.counts_failures_alone now.script.faults after.faults) → IsEnd start later endings.ReadFault
  run_fails is once =
      stops_so endings.ReadFault (stops_at readers.Fault (inr (inl refl)) is, rose, counted) (λ e. absurd (cc))
    where
      rose : Rose start.script.faults after.faults
      rose =
          let here = fault_rose run.passed start.script now.script after reader next readers.Fault refl run.goes is in
          let so_far = run.source in
          omega (arith, here, so_far)

      counted : CountsExactly 1 start.script.counts_failures_alone start.script.faults after.faults
      counted only =
          let going = fault_going run.passed start.script now.script after reader next readers.Fault refl run.goes is in
          subst (λ n. CountsExactly 1 true n after.faults) (run.left only) (λ _. once going (run.alone ∙ only)) refl

  pub run_too_much : IsNext reader next now.script after readers.TooMuch → IsEnd start later endings.TooMuch
  run_too_much is = stops_so endings.TooMuch (stops_at readers.TooMuch (inr (inr refl)) is) (λ e. absurd (cc))
