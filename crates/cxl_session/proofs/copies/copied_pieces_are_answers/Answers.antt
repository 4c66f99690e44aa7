use Rattle.cxl_model.specs.declared.found.Found.{Found}
use Rattle.cxl_window.specs.Fields.{WindowFields}
use Rattle.cxl_move.specs.Sides.{IsMoved, IsCopied}
use Rattle.cxl_session.proofs.Carrying.{CopyLaws, side_of, of_regions, held_of, is_moved, is_copied, is_full}
use Rattle.cxl_session.proofs.copies.copied_pieces_are_answers.Goals as goal

pub returns-clause-moved : goal.returns-clause-moved
returns-clause-moved c = λ session old new m pair first second from to v w pieces holds two one other held over count.
    let laws : CopyLaws = record {
      count = c.blocks_are_pieces.ensures.all;
      pieces = c.blocks_are_pieces.ensures.one;
      keeps = c.accesses_keep_machines.ensures;
      moved = c.carried_pieces_are_contents.ensures.moved;
      copied = c.carried_pieces_are_contents.ensures.copied;
    } in
    let a = side_of session m first two.from from v holds.stands two.from_at one in
    let b = side_of session m second two.to to w holds.stands two.to_at other in
    is_moved laws session old m pair first second holds two new pieces (held_of m.settled two.from from v old.blocks pieces a held)
    (of_regions m.settled two.from two.to from to v w a b (λ (f : Found) (x : WindowFields) (t : Found) (y : WindowFields). IsMoved f x t y old.blocks new.blocks) over) count

pub returns-clause-copied : goal.returns-clause-copied
returns-clause-copied c = λ session old new m pair first second from to v w pieces others holds two one other held own room over count.
    let laws : CopyLaws = record {
      count = c.blocks_are_pieces.ensures.all;
      pieces = c.blocks_are_pieces.ensures.one;
      keeps = c.accesses_keep_machines.ensures;
      moved = c.carried_pieces_are_contents.ensures.moved;
      copied = c.carried_pieces_are_contents.ensures.copied;
    } in
    let a = side_of session m first two.from from v holds.stands two.from_at one in
    let b = side_of session m second two.to to w holds.stands two.to_at other in
    is_copied laws session old m pair first second holds two new pieces others (held_of m.settled two.from from v old.blocks pieces a held)
    (held_of m.settled two.to to w old.blocks others b own) room
    (of_regions m.settled two.from two.to from to v w a b (λ (f : Found) (x : WindowFields) (t : Found) (y : WindowFields). IsCopied f x t y old.blocks new.blocks) over) count

pub returns-clause-full : goal.returns-clause-full
returns-clause-full c = λ session old m pair first second from to v w pieces others holds two one other held own lacks.
    let laws : CopyLaws = record {
      count = c.blocks_are_pieces.ensures.all;
      pieces = c.blocks_are_pieces.ensures.one;
      keeps = c.accesses_keep_machines.ensures;
      moved = c.carried_pieces_are_contents.ensures.moved;
      copied = c.carried_pieces_are_contents.ensures.copied;
    } in
    let a = side_of session m first two.from from v holds.stands two.from_at one in
    let b = side_of session m second two.to to w holds.stands two.to_at other in
    is_full laws session old m pair first second holds two pieces others (held_of m.settled two.from from v old.blocks pieces a held)
    (held_of m.settled two.to to w old.blocks others b own) lacks
