use Rattle.std.proofs.Common.{◌≡◌, ℕ, ◌+◌, ◌-◌, List, [], ◌∷◌, refl, sym, ap, ◌∙◌}
use Rattle.std.specs.Prelude.{nat_lt}
use Rattle.cxl_reply.specs.declared.reply.Reply.TheVariants as replies
use Rattle.cxl_move.specs.Bytes.{piece_after}
use Rattle.cxl_machine.specs.Copies.{copy_between, move_between, frames_for, pieces_of}
use Rattle.cxl_machine.specs.Replies.{becomes, stays}
use Rattle.cxl_worked_machines.specs.Examples.{with_both, region_r0, region_b, r0, b}
use Rattle.cxl_worked_machines.proofs.ExampleBytes.{where_true, where_false, nothing, one_piece, len-nothing, len-one_piece}
use Rattle.cxl_worked_machines.proofs.access_examples.copies_on_examples.Goals as goal

-- the piece of a store
abbrev written_piece : List ℕ
written_piece = piece_after nothing 0 (0x11 ∷ []) 0

module _ (piece : List ℕ) where
  moved_answer : move_between (with_both 1 (one_piece 0 piece) nothing) (region_r0 (one_piece 0 piece)) (region_b nothing)
      ≡ becomes (with_both 1 nothing (one_piece 0 piece)) (replies.Moved record { from = r0; to = b; pieces = 1 })
  moved_answer = ap (λ (n : ℕ). becomes (with_both 1 nothing (one_piece 0 piece)) (replies.Moved record { from = r0; to = b; pieces = n })) (len-one_piece 0 piece)

  -- of two frames one is free, and of one none
  room : frames_for (with_both 2 (one_piece 0 piece) nothing) (region_b nothing) ≡ 1
  room =
      ap (λ (n : ℕ). 2 - (0 + n + pieces_of (region_b nothing)) + pieces_of (region_b nothing)) (len-one_piece 0 piece)
      ∙ ap (λ (n : ℕ). 2 - (0 + 1 + n) + n) len-nothing

  no_room : frames_for (with_both 1 nothing (one_piece 0 piece)) (region_r0 nothing) ≡ 0
  no_room =
      ap (λ (n : ℕ). 1 - (0 + pieces_of (region_r0 nothing) + n) + pieces_of (region_r0 nothing)) (len-one_piece 0 piece)
      ∙ ap (λ (n : ℕ). 1 - (0 + n + 1) + n) len-nothing

  copied_answer : copy_between (with_both 2 (one_piece 0 piece) nothing) (region_r0 (one_piece 0 piece)) (region_b nothing)
      ≡ becomes (with_both 2 (one_piece 0 piece) (one_piece 0 piece)) (replies.Copied record { from = r0; to = b; pieces = 1 })
  copied_answer =
      where_false _ _ _ (ap (λ (n : ℕ). nat_lt n (pieces_of (region_r0 (one_piece 0 piece)))) room ∙ ap (nat_lt 1) (len-one_piece 0 piece))
      ∙ ap (λ (n : ℕ). becomes (with_both 2 (one_piece 0 piece) (one_piece 0 piece)) (replies.Copied record { from = r0; to = b; pieces = n })) (len-one_piece 0 piece)

  full_answer : copy_between (with_both 1 nothing (one_piece 0 piece)) (region_b (one_piece 0 piece)) (region_r0 nothing)
      ≡ stays (with_both 1 nothing (one_piece 0 piece)) (replies.Full record { need = 1; free = 0 })
  full_answer =
      where_true _ _ _ (ap (λ (n : ℕ). nat_lt n (pieces_of (region_b (one_piece 0 piece)))) no_room ∙ ap (nat_lt 0) (len-one_piece 0 piece))
      ∙ ap (λ (n : ℕ). stays (with_both 1 nothing (one_piece 0 piece)) (replies.Full record { need = n; free = frames_for (with_both 1 nothing (one_piece 0 piece)) (region_r0 nothing) })) (len-one_piece 0 piece)
      ∙ ap (λ (n : ℕ). stays (with_both 1 nothing (one_piece 0 piece)) (replies.Full record { need = 1; free = n })) no_room

pub returns-clause-moved : goal.returns-clause-moved
returns-clause-moved c = record { unfailing = refl; told = sym (moved_answer written_piece) }

pub returns-clause-copied : goal.returns-clause-copied
returns-clause-copied c = record { unfailing = refl; told = sym (copied_answer written_piece) }

pub returns-clause-full : goal.returns-clause-full
returns-clause-full c = record { unfailing = refl; told = sym (full_answer written_piece) }

pub returns-clause-same : goal.returns-clause-same
returns-clause-same c = record { unfailing = refl; told = refl }

pub returns-clause-no_region : goal.returns-clause-no_region
returns-clause-no_region c = record { unfailing = refl; told = refl }

pub returns-clause-unequal : goal.returns-clause-unequal
returns-clause-unequal c = record { unfailing = refl; told = refl }
