use Rattle.std.proofs.Common.{◌≡◌, ℕ, zero, suc, ◌+◌, ◌-◌, ◌<◌, [], ◌∷◌, Ok, refl, sym, ap, ◌∙◌, arith}
use Rattle.std.specs.Prelude.{All, nat_lt}
use Rattle.std.specs.Fmt.{digits}
use Rattle.cxl_script.specs.declared.command.Command.TheVariants as commands
use Rattle.cxl_reply.specs.declared.reply.Reply.TheVariants as replies
use Rattle.cxl_machine.specs.Accesses.{frames_wanted}
use Rattle.cxl_machine.specs.Answers.{Answers}
use Rattle.cxl_machine.specs.Machine.{free_frames}
use Rattle.cxl_machine.specs.Outcomes.{NoFault}
use Rattle.cxl_machine.specs.Replies.{becomes}
use Rattle.cxl_machine.specs.Sound.{IsMachine}
use Rattle.cxl_worked_machines.specs.Examples.{auto, b, create_named, job_b, plan_b, first_byte, stored_piece, opened, opened_with, opened_region_with, making_beside, opened_releasing}
use Rattle.cxl_worked_machines.proofs.ExampleBytes.{where_false, nothing, get-nothing, len-nothing, len-one_piece, small}
use Rattle.cxl_worked_machines.proofs.ExampleMedia.{one_block_is}
use Rattle.cxl_worked_machines.proofs.opening_examples.machines_with_bytes_on_examples.Goals as goal

-- ---- the commands that lead there

two_free : free_frames opened ≡ 2
two_free = ap (λ (n : ℕ). 2 - (0 + n)) len-nothing

wants_one : frames_wanted (opened_region_with nothing) small ≡ 1
wants_one = simp get-nothing refl

stored_so : Answers opened (commands.Store small) NoFault (becomes (opened_with first_byte) (replies.Stored 1))
unfolding digits
stored_so = record { unfailing = refl; told = sym (where_false _ _ _ (ap (λ (n : ℕ). nat_lt n (frames_wanted (opened_region_with nothing) small)) two_free ∙ ap (nat_lt 2) wants_one)) }

one_small : All (λ (byte : ℕ). byte < 256) (0x11 ∷ [])
one_small zero d below = omega arith
one_small (suc k) d below = absurd (omega (arith, below))

begun_create : Answers (opened_with first_byte) (commands.BeginCreate (create_named b)) NoFault (becomes (making_beside 0) (replies.Begun record { name = b; writes = 32 }))
begun_create = (Ok job_b, (Ok plan_b, refl, refl), record { unfailing = refl; told = refl })

stepped_create : Answers (making_beside 0) (commands.Step 5) NoFault (becomes (making_beside 5) (replies.Stepped record { done = 5; total = 32 }))
stepped_create = refl

begun_release : Answers (opened_with first_byte) (commands.BeginDestroy auto) NoFault (becomes (opened_releasing 0) (replies.Begun record { name = auto; writes = 4 }))
unfolding digits
begun_release = record { unfailing = refl; told = refl }

stepped_release : Answers (opened_releasing 0) (commands.Step 2) NoFault (becomes (opened_releasing 2) (replies.Stepped record { done = 2; total = 4 }))
stepped_release = refl

-- ---- the machines

stored : goal.After-commands_keep_machines → IsMachine (opened_with first_byte)
stored c = c.commands_keep_machines.ensures.machine opened (commands.Store small) NoFault _ c.openings_on_examples.ensures.sound.machine one_small stored_so

making : goal.After-commands_keep_machines → IsMachine (making_beside 5)
making c =
    let begun : IsMachine (making_beside 0) = c.commands_keep_machines.ensures.machine (opened_with first_byte) (commands.BeginCreate (create_named b)) NoFault _ (stored c) tt begun_create in
    c.commands_keep_machines.ensures.machine (making_beside 0) (commands.Step 5) NoFault _ begun tt stepped_create

releasing : goal.After-commands_keep_machines → IsMachine (opened_releasing 2)
releasing c =
    let begun : IsMachine (opened_releasing 0) = c.commands_keep_machines.ensures.machine (opened_with first_byte) (commands.BeginDestroy auto) NoFault _ (stored c) tt begun_release in
    c.commands_keep_machines.ensures.machine (opened_releasing 0) (commands.Step 2) NoFault _ begun tt stepped_release

pub returns-clause-stored : goal.returns-clause-stored
returns-clause-stored c = record { machine = stored c; registers = refl; memory = one_block_is; frames = ap (λ (n : ℕ). 1 + (0 + n)) (len-one_piece 0 stored_piece) }

pub returns-clause-making : goal.returns-clause-making
returns-clause-making c = record { machine = making c; registers = refl; memory = one_block_is; frames = ap (λ (n : ℕ). 1 + (0 + n)) (len-one_piece 0 stored_piece) }

pub returns-clause-releasing : goal.returns-clause-releasing
returns-clause-releasing c = record { machine = releasing c; registers = refl; memory = one_block_is; frames = ap (λ (n : ℕ). 1 + (0 + n)) (len-one_piece 0 stored_piece) }
