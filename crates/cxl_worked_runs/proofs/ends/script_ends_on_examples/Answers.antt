use Rattle.std.proofs.Common.{◌≡◌, ℕ, ◌<◌, ◌≤◌, List, [], ◌∷◌, ◌++◌, length, refl, sym, ap, subst, arith}
use Rattle.std.specs.Prelude.{codes}
use Rattle.std.proofs.lemmas.List.{length-append}
use Rattle.std.proofs.lemmas.Option.{same_Some}
use Rattle.cxl_inputs.specs.Exit.{exit_code}
use Rattle.cxl_inputs.specs.declared.status.Status.TheVariants as statuses
use Rattle.cxl_io.specs.Sink.{SinkState, Takes}
use Rattle.cxl_io.specs.Source.{SourceState}
use Rattle.cxl_machine.specs.Turns.{text_of}
use Rattle.cxl_shell.specs.Endings.{read_out, ending_cut, reply_cut, runs_out}
use Rattle.cxl_shell.specs.commands.Script.{status_of, ending_text}
use Rattle.cxl_turns.specs.Endings.{AreFirstLines, StopsReading}
use Rattle.cxl_turns.specs.declared.endings.Ending.{Ending}
use Rattle.cxl_turns.specs.declared.endings.Ending.TheVariants as endings
use Rattle.cxl_worked_machines.specs.Examples.{fresh}
use Rattle.cxl_worked_runs.specs.Runs.{sink, source, ended, script, lines, refusal, reply, EndsWith}
use Rattle.cxl_worked_runs.proofs.ends.script_ends_on_examples.Goals as goal

-- ---- what holds

first_line : AreFirstLines lines (source script 0) (source [] 0)
first_line = record { taken = script; given = refl; first = ([], refl) }

pub returns-clause-done : goal.returns-clause-done
returns-clause-done c = read_out endings.Done lines refl (script, refl, omega arith, refl, refl) refl refl (λ done alone. refl) (λ alone. refl)

fails : StopsReading endings.ReadFault lines (source script 0) (source [] 1)
fails = ((script, refl, omega arith, refl), omega arith, λ alone. refl)

pub returns-clause-read_fault : goal.returns-clause-read_fault
returns-clause-read_fault c =
    read_out endings.ReadFault lines refl fails refl refl (λ done. absurd (let wrong : 5 ≡ 0 = ap exit_code done in omega (arith, wrong)))
    (λ alone. refl)

pub returns-clause-cut : goal.returns-clause-cut
returns-clause-cut c = reply_cut lines [] refusal refl first_line refl refl (record { rose = omega arith; count = 7; short = omega arith; taken = refl; counted = λ alone. refl }) (λ alone. refl)

pub returns-clause-cut_behind : goal.returns-clause-cut_behind
returns-clause-cut_behind c = ending_cut endings.ReadFault lines refl fails refl (record { rose = omega arith; count = 5; short = omega arith; taken = refl; counted = λ alone. refl })

pub returns-clause-memory : goal.returns-clause-memory
returns-clause-memory c = runs_out lines refl first_line refl refl (λ alone. refl) (λ alone. refl)

-- ---- what does not

-- the reply is longer than what the sink took
untaken : (bytes behind : List ℕ) → length bytes < 18 → Takes (sink [] 0) (sink bytes 0) (text_of fresh.settled.nodes (refusal ∷ []) ++ behind) → ⊥
untaken bytes behind few taken =
    let lengths : length bytes ≡ length (reply ++ behind) = ap length (same_Some bytes (reply ++ behind) taken) in
    omega (arith, few, lengths, length-append reply behind)

-- the ending of a status
as_done : (end : Ending) → statuses.Done ≡ status_of end → endings.Done ≡ end
as_done endings.Done is = refl
as_done endings.ReadFault is = absurd (let wrong : 0 ≡ 5 = ap exit_code is in omega (arith, wrong))
as_done endings.TooMuch is = absurd (let wrong : 0 ≡ 11 = ap exit_code is in omega (arith, wrong))
as_done endings.WriteFault is = absurd (let wrong : 0 ≡ 6 = ap exit_code is in omega (arith, wrong))
as_done endings.Memory is = absurd (let wrong : 0 ≡ 9 = ap exit_code is in omega (arith, wrong))

-- reading fails only with cause
no_fault : (end : Ending) (lines : List (List ℕ)) → statuses.ReadFault ≡ status_of end → StopsReading end lines (source script 0) (source [] 0) → ⊥
no_fault endings.Done lines is stops = let wrong : 5 ≡ 0 = ap exit_code is in omega (arith, wrong)
no_fault endings.ReadFault lines is stops = let rose : 1 ≤ 0 = stops.1 in omega (arith, rose)
no_fault endings.TooMuch lines is stops = let wrong : 5 ≡ 11 = ap exit_code is in omega (arith, wrong)
no_fault endings.WriteFault lines is stops = stops
no_fault endings.Memory lines is stops = stops

no_done_cut : ¬ (statuses.Done ≡ statuses.WriteFault)
no_done_cut is = let wrong : 0 ≡ 6 = ap exit_code is in omega (arith, wrong)

no_done_memory : ¬ (statuses.Done ≡ statuses.Memory)
no_done_memory is = let wrong : 0 ≡ 9 = ap exit_code is in omega (arith, wrong)

no_fault_cut : ¬ (statuses.ReadFault ≡ statuses.WriteFault)
no_fault_cut is = let wrong : 5 ≡ 6 = ap exit_code is in omega (arith, wrong)

no_fault_memory : ¬ (statuses.ReadFault ≡ statuses.Memory)
no_fault_memory is = let wrong : 5 ≡ 9 = ap exit_code is in omega (arith, wrong)

no_cut_memory : ¬ (statuses.WriteFault ≡ statuses.Memory)
no_cut_memory is = let wrong : 6 ≡ 9 = ap exit_code is in omega (arith, wrong)

unwritten : EndsWith (source [] 0) (sink [] 0) statuses.Done → ⊥
unwritten (read_out end lines is stops asked taken read kept) = untaken [] (ending_text end) (omega arith) taken
unwritten (ending_cut end lines is stops asked cut) = no_done_cut is
unwritten (reply_cut lines earlier last is first asked turns cut source) = no_done_cut is
unwritten (runs_out lines is first asked taken read kept) = no_done_memory is

pub returns-clause-not_unwritten : goal.returns-clause-not_unwritten
returns-clause-not_unwritten c = unwritten

left_over : (end : Ending) (lines : List (List ℕ)) → endings.Done ≡ end → StopsReading end lines (source script 0) (source script 0) → ⊥
left_over end lines is stops =
    let own : StopsReading endings.Done lines (source script 0) (source script 0) = subst (λ (e : Ending). StopsReading e lines (source script 0) (source script 0)) (sym is) stops in
    let wrong : 11 ≡ 0 = ap length own.3 in
    omega (arith, wrong)

unread : EndsWith (source script 0) (sink reply 0) statuses.Done → ⊥
unread (read_out end lines is stops asked taken read kept) = left_over end lines (as_done end is) stops
unread (ending_cut end lines is stops asked cut) = no_done_cut is
unread (reply_cut lines earlier last is first asked turns cut source) = no_done_cut is
unread (runs_out lines is first asked taken read kept) = no_done_memory is

pub returns-clause-not_unread : goal.returns-clause-not_unread
returns-clause-not_unread c = unread

past_source : EndsWith (source [] 1) (sink reply 0) statuses.Done → ⊥
past_source (read_out end lines is stops asked taken read kept) = let wrong : 1 ≡ 0 = read refl refl in omega (arith, wrong)
past_source (ending_cut end lines is stops asked cut) = no_done_cut is
past_source (reply_cut lines earlier last is first asked turns cut source) = no_done_cut is
past_source (runs_out lines is first asked taken read kept) = no_done_memory is

pub returns-clause-not_past_source_fault : goal.returns-clause-not_past_source_fault
returns-clause-not_past_source_fault c = past_source

past_sink : EndsWith (source [] 0) (sink reply 1) statuses.Done → ⊥
past_sink (read_out end lines is stops asked taken read kept) = let wrong : 1 ≡ 0 = kept refl in omega (arith, wrong)
past_sink (ending_cut end lines is stops asked cut) = no_done_cut is
past_sink (reply_cut lines earlier last is first asked turns cut source) = no_done_cut is
past_sink (runs_out lines is first asked taken read kept) = no_done_memory is

pub returns-clause-not_past_sink_fault : goal.returns-clause-not_past_sink_fault
returns-clause-not_past_sink_fault c = past_sink

untold : EndsWith (source [] 1) (sink [] 0) statuses.ReadFault → ⊥
untold (read_out end lines is stops asked taken read kept) = untaken [] (ending_text end) (omega arith) taken
untold (ending_cut end lines is stops asked cut) = no_fault_cut is
untold (reply_cut lines earlier last is first asked turns cut source) = no_fault_cut is
untold (runs_out lines is first asked taken read kept) = no_fault_memory is

pub returns-clause-not_untold : goal.returns-clause-not_untold
returns-clause-not_untold c = untold

unfailing : (taken : SinkState) → EndsWith (source [] 0) taken statuses.ReadFault → ⊥
unfailing sunk (read_out end lines is stops asked taken read kept) = no_fault end lines is stops
unfailing sunk (ending_cut end lines is stops asked cut) = no_fault_cut is
unfailing sunk (reply_cut lines earlier last is first asked turns cut source) = no_fault_cut is
unfailing sunk (runs_out lines is first asked taken read kept) = no_fault_memory is

pub returns-clause-not_read_fault : goal.returns-clause-not_read_fault
returns-clause-not_read_fault c = unfailing (sink (reply ++ ended (codes "error: script read failed")) 0)

-- reading does not end by a fault of the sink or for want of memory
not_by_sink : (end : Ending) (lines : List (List ℕ)) (before after : SourceState) → statuses.WriteFault ≡ status_of end → StopsReading end lines before after → ⊥
not_by_sink endings.Done lines before after is stops = let wrong : 6 ≡ 0 = ap exit_code is in omega (arith, wrong)
not_by_sink endings.ReadFault lines before after is stops = let wrong : 6 ≡ 5 = ap exit_code is in omega (arith, wrong)
not_by_sink endings.TooMuch lines before after is stops = let wrong : 6 ≡ 11 = ap exit_code is in omega (arith, wrong)
not_by_sink endings.WriteFault lines before after is stops = stops
not_by_sink endings.Memory lines before after is stops = stops

not_by_memory : (end : Ending) (lines : List (List ℕ)) (before after : SourceState) → statuses.Memory ≡ status_of end → StopsReading end lines before after → ⊥
not_by_memory endings.Done lines before after is stops = let wrong : 9 ≡ 0 = ap exit_code is in omega (arith, wrong)
not_by_memory endings.ReadFault lines before after is stops = let wrong : 9 ≡ 5 = ap exit_code is in omega (arith, wrong)
not_by_memory endings.TooMuch lines before after is stops = let wrong : 9 ≡ 11 = ap exit_code is in omega (arith, wrong)
not_by_memory endings.WriteFault lines before after is stops = stops
not_by_memory endings.Memory lines before after is stops = stops

uncut : EndsWith (source [] 0) (sink (codes "no such") 0) statuses.WriteFault → ⊥
uncut (read_out end lines is stops asked taken read kept) = not_by_sink end lines (source script 0) (source [] 0) is stops
uncut (ending_cut end lines is stops asked cut) = let rose : 1 ≤ 0 = cut.rose in omega (arith, rose)
uncut (reply_cut lines earlier last is first asked turns cut source) = let rose : 1 ≤ 0 = cut.rose in omega (arith, rose)
uncut (runs_out lines is first asked taken read kept) = no_cut_memory is

pub returns-clause-not_write_fault : goal.returns-clause-not_write_fault
returns-clause-not_write_fault c = uncut

in_reply : EndsWith (source [] 0) (sink (codes "no such") 0) statuses.Memory → ⊥
in_reply (read_out end lines is stops asked taken read kept) = not_by_memory end lines (source script 0) (source [] 0) is stops
in_reply (ending_cut end lines is stops asked cut) = no_cut_memory (sym is)
in_reply (reply_cut lines earlier last is first asked turns cut source) = no_cut_memory (sym is)
in_reply (runs_out lines is first asked taken read kept) = let wrong : 7 ≡ 18 = ap length (same_Some (codes "no such") reply taken) in omega (arith, wrong)

pub returns-clause-not_memory_in_reply : goal.returns-clause-not_memory_in_reply
returns-clause-not_memory_in_reply c = in_reply

behind_source : EndsWith (source [] 1) (sink reply 0) statuses.Memory → ⊥
behind_source (read_out end lines is stops asked taken read kept) = not_by_memory end lines (source script 0) (source [] 1) is stops
behind_source (ending_cut end lines is stops asked cut) = no_cut_memory (sym is)
behind_source (reply_cut lines earlier last is first asked turns cut source) = no_cut_memory (sym is)
behind_source (runs_out lines is first asked taken read kept) = let wrong : 1 ≡ 0 = read refl in omega (arith, wrong)

pub returns-clause-not_memory_behind_source_fault : goal.returns-clause-not_memory_behind_source_fault
returns-clause-not_memory_behind_source_fault c = behind_source

behind_sink : EndsWith (source [] 0) (sink reply 1) statuses.Memory → ⊥
behind_sink (read_out end lines is stops asked taken read kept) = not_by_memory end lines (source script 0) (source [] 0) is stops
behind_sink (ending_cut end lines is stops asked cut) = no_cut_memory (sym is)
behind_sink (reply_cut lines earlier last is first asked turns cut source) = no_cut_memory (sym is)
behind_sink (runs_out lines is first asked taken read kept) = let wrong : 1 ≡ 0 = kept refl in omega (arith, wrong)

pub returns-clause-not_memory_behind_sink_fault : goal.returns-clause-not_memory_behind_sink_fault
returns-clause-not_memory_behind_sink_fault c = behind_sink

past_both : EndsWith (source [] 1) (sink (reply ++ ended (codes "error: script read failed")) 1) statuses.ReadFault → ⊥
past_both (read_out end lines is stops asked taken read kept) = let wrong : 1 ≡ 0 = kept refl in omega (arith, wrong)
past_both (ending_cut end lines is stops asked cut) = no_fault_cut is
past_both (reply_cut lines earlier last is first asked turns cut source) = no_fault_cut is
past_both (runs_out lines is first asked taken read kept) = no_fault_memory is

pub returns-clause-not_read_fault_past_sink_fault : goal.returns-clause-not_read_fault_past_sink_fault
returns-clause-not_read_fault_past_sink_fault c = past_both

-- no ending has the status of the bus
not_by_bus : (end : Ending) → ¬ (statuses.BusFault ≡ status_of end)
not_by_bus endings.Done is = let wrong : 7 ≡ 0 = ap exit_code is in omega (arith, wrong)
not_by_bus endings.ReadFault is = let wrong : 7 ≡ 5 = ap exit_code is in omega (arith, wrong)
not_by_bus endings.TooMuch is = let wrong : 7 ≡ 11 = ap exit_code is in omega (arith, wrong)
not_by_bus endings.WriteFault is = let wrong : 7 ≡ 6 = ap exit_code is in omega (arith, wrong)
not_by_bus endings.Memory is = let wrong : 7 ≡ 9 = ap exit_code is in omega (arith, wrong)

by_bus : EndsWith (source [] 0) (sink reply 0) statuses.BusFault → ⊥
by_bus (read_out end lines is stops asked taken read kept) = not_by_bus end is
by_bus (ending_cut end lines is stops asked cut) = let wrong : 7 ≡ 6 = ap exit_code is in omega (arith, wrong)
by_bus (reply_cut lines earlier last is first asked turns cut source) = let wrong : 7 ≡ 6 = ap exit_code is in omega (arith, wrong)
by_bus (runs_out lines is first asked taken read kept) = let wrong : 7 ≡ 9 = ap exit_code is in omega (arith, wrong)

pub returns-clause-not_bus_fault : goal.returns-clause-not_bus_fault
returns-clause-not_bus_fault c = by_bus
