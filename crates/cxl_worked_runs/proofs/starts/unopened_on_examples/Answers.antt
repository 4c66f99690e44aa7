use Rattle.std.proofs.Common.{◌≡◌, ℕ, zero, suc, ◌+◌, ◌<◌, ◌≤◌, List, [], ◌∷◌, length, get_or, take, Some, inl, inr, refl, ap, arith}
use Rattle.std.specs.Prelude.{codes}
use Rattle.std.proofs.lemmas.Option.{same_Some}
use Rattle.cxl_bus.specs.RegsState.{RegsState}
use Rattle.cxl_inputs.specs.Ends.{Ends, WritesNothing}
use Rattle.cxl_inputs.specs.Exit.{exit_code}
use Rattle.cxl_inputs.specs.declared.status.Status.{Status}
use Rattle.cxl_inputs.specs.declared.status.Status.TheVariants as statuses
use Rattle.cxl_io.specs.Sink.{SinkState}
use Rattle.cxl_media.specs.MediaState.{MediaState}
use Rattle.cxl_opening.specs.Opening.{IsHalfEnabled, enabling, endpoints_in}
use Rattle.cxl_regs.specs.Writes.{after_word}
use Rattle.cxl_shell.specs.commands.Script.{bus, memory, bus_failed}
use Rattle.cxl_worked_runs.specs.Runs.{sink, ended, reset_pair, first_enabled, both_enabled, enables, regs, no_blocks, unread, FailsWith}
use Rattle.cxl_worked_runs.proofs.starts.unopened_on_examples.Goals as goal

-- ---- what holds

first_half : IsHalfEnabled reset_pair unread.regs (regs first_enabled (enables 2 ∷ []) (1 ∷ []) 1)
unfolding after_word
first_half = record {
  n = 1;
  part = omega arith;
  blocks = refl;
  words = refl;
  fails = record { at = refl; faults = omega arith; alone = refl; counted = λ alone. refl };
}

pub returns-clause-bus : goal.returns-clause-bus
returns-clause-bus c starts = bus starts (omega arith) first_half refl (inl (record { status_is = refl; taken = refl; unswallowed = λ alone. refl }))

pub returns-clause-cut : goal.returns-clause-cut
returns-clause-cut c starts =
    bus starts (omega arith) first_half refl (inr (record { status_is = refl; rose = omega arith; taken = record { count = 5; short = omega arith; taken = refl }; counted = λ alone. refl }))

unwritten : WritesNothing (sink [] 0) (sink [] 0)
unwritten = record { taken = refl; unswallowed = λ alone. refl }

pub returns-clause-memory : goal.returns-clause-memory
returns-clause-memory c = memory (inl refl) (inl refl) (λ alone. refl) refl unwritten

pub returns-clause-memory_behind_reset : goal.returns-clause-memory_behind_reset
returns-clause-memory_behind_reset c = memory (inr (refl, refl, refl)) (inr refl) (λ alone. refl) refl unwritten

-- ---- what does not

no_bus_memory : ¬ (statuses.BusFault ≡ statuses.Memory)
no_bus_memory is = let wrong : 7 ≡ 9 = ap exit_code is in omega (arith, wrong)

without_fault : FailsWith (regs first_enabled (enables 2 ∷ []) (1 ∷ []) 0) (no_blocks 2) (sink (ended (codes "error: bus fault")) 0) statuses.BusFault → ⊥
without_fault (bus starts rose half media ends) = let wrong : 1 ≤ 0 = rose in omega (arith, wrong)
without_fault (memory registers media kept is taken) = no_bus_memory is

pub returns-clause-not_without_fault : goal.returns-clause-not_without_fault
returns-clause-not_without_fault c = without_fault

-- not all endpoints are enabled where the bus failed
few_words : (n : ℕ) → n < 2 → Some (enables 2 ∷ enables 3 ∷ []) ≡ Some (enabling (take n (endpoints_in reset_pair.nodes))) → ⊥
few_words zero few words = let wrong : 2 ≡ 0 = ap length (same_Some (enables 2 ∷ enables 3 ∷ []) _ words) in omega (arith, wrong)
few_words (suc zero) few words = let wrong : 2 ≡ 1 = ap length (same_Some (enables 2 ∷ enables 3 ∷ []) _ words) in omega (arith, wrong)
few_words (suc (suc n)) few words = omega (arith, few)

both : FailsWith (regs both_enabled (enables 2 ∷ enables 3 ∷ []) (2 ∷ []) 1) (no_blocks 2) (sink (ended (codes "error: bus fault")) 0) statuses.BusFault → ⊥
both (bus starts rose half media ends) = few_words half.n half.part half.words
both (memory registers media kept is taken) = no_bus_memory is

pub returns-clause-not_both_enabled : goal.returns-clause-not_both_enabled
returns-clause-not_both_enabled c = both

-- it failed behind as many words as were sent
one_place : (n : ℕ) → (place : ℕ) → Some (enables 2 ∷ []) ≡ Some (enabling (take n (endpoints_in reset_pair.nodes))) → n < 2 → place ≡ n → place ≡ 1
one_place zero place words few is = let wrong : 1 ≡ 0 = ap length (same_Some (enables 2 ∷ []) _ words) in absurd (omega (arith, wrong))
one_place (suc zero) place words few is = is
one_place (suc (suc n)) place words few is = absurd (omega (arith, few))

before_word : FailsWith (regs first_enabled (enables 2 ∷ []) (0 ∷ []) 1) (no_blocks 2) (sink (ended (codes "error: bus fault")) 0) statuses.BusFault → ⊥
before_word (bus starts rose half media ends) =
    let place : 0 ≡ 0 + half.n = ap (λ (places : List ℕ). get_or places 0 0) (same_Some (0 ∷ []) ((0 + half.n) ∷ []) half.fails.at) in
    let wrong : 0 ≡ 1 = one_place half.n 0 half.words half.part (omega (arith, place)) in
    omega (arith, wrong)
before_word (memory registers media kept is taken) = no_bus_memory is

pub returns-clause-not_before_its_word : goal.returns-clause-not_before_its_word
returns-clause-not_before_its_word c = before_word

again : FailsWith (regs first_enabled (enables 2 ∷ []) (1 ∷ 1 ∷ []) 2) (no_blocks 2) (sink (ended (codes "error: bus fault")) 0) statuses.BusFault → ⊥
again (bus starts rose half media ends) =
    let wrong : 2 ≡ 1 = ap length (same_Some (1 ∷ 1 ∷ []) ((0 + half.n) ∷ []) half.fails.at) in
    omega (arith, wrong)
again (memory registers media kept is taken) = no_bus_memory is

pub returns-clause-not_called_again : goal.returns-clause-not_called_again
returns-clause-not_called_again c = again

twice : FailsWith (regs first_enabled (enables 2 ∷ []) (1 ∷ []) 2) (no_blocks 2) (sink (ended (codes "error: bus fault")) 0) statuses.BusFault → ⊥
twice (bus starts rose half media ends) = let wrong : 2 ≡ 1 = half.fails.counted refl in omega (arith, wrong)
twice (memory registers media kept is taken) = no_bus_memory is

pub returns-clause-not_counted_twice : goal.returns-clause-not_counted_twice
returns-clause-not_counted_twice c = twice

fewer : FailsWith (regs first_enabled (enables 2 ∷ []) (1 ∷ []) 1) (no_blocks 1) (sink (ended (codes "error: bus fault")) 0) statuses.BusFault → ⊥
fewer (bus starts rose half media ends) = let wrong : 1 ≡ 2 = ap (λ (m : MediaState). m.free) media in omega (arith, wrong)
fewer (memory registers media kept is taken) = no_bus_memory is

pub returns-clause-not_fewer_frames : goal.returns-clause-not_fewer_frames
returns-clause-not_fewer_frames c = fewer

-- a sink without a fault took the whole line
unended : (status : Status) → (exit_code status ≡ 6 → ⊥) → Ends bus_failed status (sink [] 0) (sink [] 0) → ⊥
unended status not_cut (inl written) = let wrong : 0 ≡ 17 = ap length (same_Some [] (ended (codes "error: bus fault")) written.taken) in omega (arith, wrong)
unended status not_cut (inr cut) = not_cut (ap exit_code cut.status_is)

untold : FailsWith (regs first_enabled (enables 2 ∷ []) (1 ∷ []) 1) (no_blocks 2) (sink [] 0) statuses.BusFault → ⊥
untold (bus starts rose half media ends) = unended statuses.BusFault (λ wrong. omega (arith, wrong)) ends
untold (memory registers media kept is taken) = no_bus_memory is

pub returns-clause-not_untold : goal.returns-clause-not_untold
returns-clause-not_untold c = untold

-- want of memory is no status of a fault of the bus
not_memory : (taken : SinkState) → Ends bus_failed statuses.Memory (sink [] 0) taken → ⊥
not_memory taken (inl written) = let wrong : 9 ≡ 7 = ap exit_code written.status_is in omega (arith, wrong)
not_memory taken (inr cut) = let wrong : 9 ≡ 6 = ap exit_code cut.status_is in omega (arith, wrong)

one_word : ¬ (Some (enables 2 ∷ []) ≡ Some [])
one_word same = let wrong : 1 ≡ 0 = ap length (same_Some (enables 2 ∷ []) [] same) in omega (arith, wrong)

memory_half : FailsWith (regs first_enabled (enables 2 ∷ []) (1 ∷ []) 1) (no_blocks 2) (sink [] 0) statuses.Memory → ⊥
memory_half (bus starts rose half media ends) = not_memory (sink [] 0) ends
memory_half (memory (inl same) media kept is taken) = one_word (ap (λ (r : RegsState). r.trail) same)
memory_half (memory (inr on) media kept is taken) = one_word on.1

pub returns-clause-not_memory_half : goal.returns-clause-not_memory_half
returns-clause-not_memory_half c = memory_half

behind_fault : FailsWith (regs reset_pair.blocks [] [] 1) (no_blocks 2) (sink [] 0) statuses.Memory → ⊥
behind_fault (bus starts rose half media ends) = not_memory (sink [] 0) ends
behind_fault (memory registers media kept is taken) = let wrong : 1 ≡ 0 = kept refl in omega (arith, wrong)

pub returns-clause-not_memory_behind_fault : goal.returns-clause-not_memory_behind_fault
returns-clause-not_memory_behind_fault c = behind_fault

memory_told : FailsWith (regs [] [] [] 0) (no_blocks 0) (sink (codes "x") 0) statuses.Memory → ⊥
memory_told (bus starts rose half media ends) = not_memory (sink (codes "x") 0) ends
memory_told (memory registers media kept is nothing) = let wrong : 1 ≡ 0 = ap length (same_Some (codes "x") [] nothing.taken) in omega (arith, wrong)

pub returns-clause-not_memory_told : goal.returns-clause-not_memory_told
returns-clause-not_memory_told c = memory_told

memory_past : FailsWith (regs [] [] [] 0) (no_blocks 0) (sink [] 1) statuses.Memory → ⊥
memory_past (bus starts rose half media ends) = not_memory (sink [] 1) ends
memory_past (memory registers media kept is nothing) = let wrong : 1 ≡ 0 = nothing.unswallowed refl in omega (arith, wrong)

pub returns-clause-not_memory_past_sink_fault : goal.returns-clause-not_memory_past_sink_fault
returns-clause-not_memory_past_sink_fault c = memory_past

-- a sink with a fault has no whole line
past_fault : Ends bus_failed statuses.BusFault (sink [] 0) (sink (ended (codes "error: bus fault")) 1) → ⊥
past_fault (inl written) = let wrong : 1 ≡ 0 = written.unswallowed refl in omega (arith, wrong)
past_fault (inr cut) = let wrong : 7 ≡ 6 = ap exit_code cut.status_is in omega (arith, wrong)

told_past : FailsWith (regs first_enabled (enables 2 ∷ []) (1 ∷ []) 1) (no_blocks 2) (sink (ended (codes "error: bus fault")) 1) statuses.BusFault → ⊥
told_past (bus starts rose half media ends) = past_fault ends
told_past (memory registers media kept is nothing) = no_bus_memory is

pub returns-clause-not_told_past_sink_fault : goal.returns-clause-not_told_past_sink_fault
returns-clause-not_told_past_sink_fault c = told_past

done : FailsWith (regs [] [] [] 0) (no_blocks 0) (sink [] 0) statuses.Done → ⊥
done (bus starts rose half media ends) = unended statuses.Done (λ wrong. omega (arith, wrong)) ends
done (memory registers media kept is taken) = let wrong : 0 ≡ 9 = ap exit_code is in omega (arith, wrong)

pub returns-clause-not_done : goal.returns-clause-not_done
returns-clause-not_done c = done
