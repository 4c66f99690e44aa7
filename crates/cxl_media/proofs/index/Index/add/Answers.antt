use Rattle.std.proofs.Common.{◌≡◌, ℕ, ◌*◌, ◌<◌, [], ◌∷◌, ◌++◌, Some, None, length, set, refl, sym, ap, subst, ◌∙◌}
use Rattle.std.specs.FinMap as fin
use Rattle.cxl_media.specs.declared.cell.Cell.{Cell}
use Rattle.cxl_media.specs.Table.{Cells, cell_at, frames_in, IsStop}
use Rattle.cxl_media.specs.Hash.{home_of}
use Rattle.cxl_media.specs.Index.{Table, IsIndex}
use Rattle.cxl_media.proofs.Indexed.{add_within, add_empty, add_room, add_frames, add_index}
use Rattle.cxl_media.proofs.index.Index.add.Goals as goal

-- a block is added, in the words of the code: t is what contracts see
module _ (cells kept : Cells) (room : ℕ) (t : Table) (view : ◌≡◌ {A = Table} (record { cells = kept; room = room }) t) (index : IsIndex cells kept room) (at ep number frame : ℕ) (stop : IsStop cells (home_of (2 * room) (ep, number)) (ep, number) at) (absent : fin.get (frames_in t.cells) (ep, number) ≡ None) (more : fin.len (frames_in t.cells) < t.room) where
  abbrev block : Cell
  block = record { ep = ep; number = number; frame = frame }

  inner_absent : fin.get (frames_in kept) (ep, number) ≡ None
  inner_absent = subst (λ (u : Table). fin.get (frames_in u.cells) (ep, number) ≡ None) (sym view) absent

  inner_more : fin.len (frames_in kept) < room
  inner_more = subst (λ (u : Table). fin.len (frames_in u.cells) < u.room) (sym view) more

  pub adds_within : at < length cells
  adds_within = add_within cells kept room (ep, number) at index stop block refl inner_absent inner_more

  pub adds_empty : cell_at cells at ≡ None
  adds_empty = add_empty cells kept room (ep, number) at index stop block refl inner_absent inner_more

  pub adds_room : 3 * length kept < length cells
  adds_room = add_room cells kept room (ep, number) at index stop block refl inner_absent inner_more

  pub adds_index : IsIndex (set cells at (Some block)) (kept ++ Some block ∷ []) room
  adds_index = add_index cells kept room (ep, number) at index stop block refl inner_absent inner_more

  pub adds_frames : frames_in (kept ++ Some block ∷ []) ≡ fin.insert (frames_in t.cells) (ep, number) frame
  adds_frames = add_frames cells kept room (ep, number) at index stop block refl inner_absent inner_more ∙ ap (λ (u : Table). fin.insert (frames_in u.cells) (ep, number) frame) view

pub put-requires-clause-within : goal.put-requires-clause-within
put-requires-clause-within c = adds_within _ _ _ _ c.self.view_is c.self.invariant c.stop-at.result c.args.ep c.args.number c.args.frame c.stop-at.ensures c.requires.absent c.requires.room

pub put-requires-clause-empty : goal.put-requires-clause-empty
put-requires-clause-empty c = adds_empty _ _ _ _ c.self.view_is c.self.invariant c.stop-at.result c.args.ep c.args.number c.args.frame c.stop-at.ensures c.requires.absent c.requires.room

pub put-requires-clause-room : goal.put-requires-clause-room
put-requires-clause-room c = adds_room _ _ _ _ c.self.view_is c.self.invariant c.stop-at.result c.args.ep c.args.number c.args.frame c.stop-at.ensures c.requires.absent c.requires.room

pub invariant_of-self : goal.invariant_of-self
invariant_of-self c =
    rw (c.put.ensures.cells, c.put.ensures.kept)
    (adds_index _ _ _ _ c.self.view_is c.self.invariant c.stop-at.result c.args.ep c.args.number c.args.frame c.stop-at.ensures c.requires.absent c.requires.room)

pub returns-clause-frames : goal.returns-clause-frames
returns-clause-frames c =
    ap frames_in c.put.ensures.kept
    ∙ adds_frames _ _ _ _ c.self.view_is c.self.invariant c.stop-at.result c.args.ep c.args.number c.args.frame c.stop-at.ensures c.requires.absent c.requires.room
