use Rattle.std.proofs.Common.{◌≡◌, ℕ, ◌+◌, Option, Some, sym, ap, subst, ◌∙◌}
use Rattle.std.specs.Prelude.{IfSome}
use Rattle.std.specs.FinMap.{get, remove}
use Rattle.cxl_media.specs.declared.cell.Cell.{Cell}
use Rattle.cxl_media.specs.Table.{Cells, key_at, cell_at, frames_in, NonePass}
use Rattle.cxl_media.specs.Index.{Table}
use Rattle.cxl_media.proofs.Indexed.{found_at, less_index}
use Rattle.cxl_media.proofs.Kept.{left_later, left_frames}
use Rattle.cxl_media.proofs.index.Index.remove.Goals as goal

-- what is said of the block at a place
at_block : (kept : Cells) (place : ℕ) (p : Cell) (P : Cell → Type 0) → cell_at kept place ≡ Some p → P p → IfSome (cell_at kept place) P
at_block kept place p P is holds = subst (λ (o : Option Cell). IfSome o P) (sym is) holds

pub invariant_of-self : goal.invariant_of-self
invariant_of-self c =
    rw c.take_out.ensures.kept
    (less_index _ _ _ _ c.args.place c.take_out.result c.self.invariant c.take_out.ensures.block c.take_out.ensures.length c.take_out.ensures.table c.take_out.ensures.frames)

pub returns-clause-frame : goal.returns-clause-frame
returns-clause-frame c =
    subst (λ (t : Table). IfSome (cell_at t.cells c.args.place) (λ cell. get (frames_in t.cells) (key_at cell) ≡ Some c.take_out.result.frame)) c.self.view_is
    (at_block c.self.inside.cells.kept c.args.place c.take_out.result (λ cell. get (frames_in c.self.inside.cells.kept) (key_at cell) ≡ Some c.take_out.result.frame) c.take_out.ensures.block
    (found_at _ _ _ c.args.place c.take_out.result c.self.invariant c.take_out.ensures.block))

pub returns-clause-frames : goal.returns-clause-frames
returns-clause-frames c =
    subst (λ (t : Table). IfSome (cell_at t.cells c.args.place) (λ cell. frames_in c.take_out.new.cells.kept ≡ remove (frames_in t.cells) (key_at cell))) c.self.view_is
    (at_block c.self.inside.cells.kept c.args.place c.take_out.result (λ cell. frames_in c.take_out.new.cells.kept ≡ remove (frames_in c.self.inside.cells.kept) (key_at cell)) c.take_out.ensures.block
    (ap frames_in c.take_out.ensures.kept ∙ left_frames c.self.inside.cells.kept c.args.place c.take_out.result c.take_out.ensures.block c.self.invariant.once))

pub returns-clause-later : goal.returns-clause-later
returns-clause-later c test before =
    subst (λ (kept : Cells). NonePass test kept c.args.place) (sym c.take_out.ensures.kept)
    (left_later c.self.inside.cells.kept c.args.place c.take_out.result c.take_out.ensures.block test
    (subst (λ (t : Table). NonePass test t.cells (c.args.place + 1)) (sym c.self.view_is) before))
