use Rattle.std.proofs.Common.{◌≡◌, ℕ, List, [], ◌∷◌, refl, sym, ap, ◌∙◌}
use Rattle.std.specs.Prelude.{nat_lt}
use Rattle.cxl_move.specs.Bytes.{piece_after}
use Rattle.cxl_machine.specs.Machine.{free_frames}
use Rattle.cxl_script.specs.declared.command.Store.{Store}
use Rattle.cxl_reply.specs.declared.reply.Reply.TheVariants as replies
use Rattle.cxl_machine.specs.Replies.{stays}
use Rattle.cxl_machine.specs.Accesses.{frames_wanted, store_into}
use Rattle.cxl_worked_machines.specs.Examples.{with_r0, region_r0}
use Rattle.cxl_worked_machines.proofs.ExampleBytes.{where_true, where_false, nothing, one_piece, get-nothing, get-one_piece, small, later, two_free, one_free, wants_one, wants_two_more}
use Rattle.cxl_worked_machines.proofs.access_examples.bytes_on_examples.Goals as goal

abbrev wide : Store
wide = record { h = 0x1000000fe; bytes = 0xaa ∷ 0xbb ∷ 0xcc ∷ 0xdd ∷ [] }

-- each touched piece that is not in the map wants a frame
wants_two : frames_wanted (region_r0 nothing) wide ≡ 2
wants_two = simp get-nothing refl

pub returns-clause-stored : goal.returns-clause-stored
returns-clause-stored c = record { unfailing = refl; told = sym (where_false _ _ _ (ap (λ (n : ℕ). nat_lt n (frames_wanted (region_r0 nothing) small)) two_free ∙ ap (nat_lt 2) wants_one)) }

pub returns-clause-across : goal.returns-clause-across
returns-clause-across c = record { unfailing = refl; told = sym (where_false _ _ _ (ap (λ (n : ℕ). nat_lt n (frames_wanted (region_r0 nothing) wide)) two_free ∙ ap (nat_lt 2) wants_two)) }

-- where one frame is free and two are wanted
full_answer : (piece : List ℕ) → store_into (with_r0 (one_piece 0 piece)) later (region_r0 (one_piece 0 piece)) ≡ stays (with_r0 (one_piece 0 piece)) (replies.Full record { need = 2; free = 1 })
full_answer piece =
    where_true _ _ _ (ap (λ (n : ℕ). nat_lt n (frames_wanted (region_r0 (one_piece 0 piece)) later)) (one_free piece) ∙ ap (nat_lt 1) (wants_two_more piece))
    ∙ ap (λ (n : ℕ). stays (with_r0 (one_piece 0 piece)) (replies.Full record { need = n; free = free_frames (with_r0 (one_piece 0 piece)) })) (wants_two_more piece)
    ∙ ap (λ (n : ℕ). stays (with_r0 (one_piece 0 piece)) (replies.Full record { need = 2; free = n })) (one_free piece)

pub returns-clause-full : goal.returns-clause-full
returns-clause-full c = record { unfailing = refl; told = sym (full_answer (piece_after nothing 0 (0x11 ∷ []) 0)) }

pub returns-clause-loaded : goal.returns-clause-loaded
returns-clause-loaded c = record { unfailing = refl; told = simp (get-one_piece, get-nothing) refl }

pub returns-clause-unwritten : goal.returns-clause-unwritten
returns-clause-unwritten c = record { unfailing = refl; told = simp get-nothing refl }

pub returns-clause-crosses_end : goal.returns-clause-crosses_end
returns-clause-crosses_end c = record { unfailing = refl; told = refl }

pub returns-clause-unmapped : goal.returns-clause-unmapped
returns-clause-unmapped c = record { unfailing = refl; told = refl }
