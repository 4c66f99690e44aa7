use Rattle.std.proofs.Common.{◌≡◌, ℕ, ◌*◌, ◌<◌, length, Option, None, Some, sym, ◌∙◌, subst, arith}
use Rattle.std.specs.Prelude.{IfSome, IfNone}
use Rattle.std.specs.FinMap.{get}
use Rattle.cxl_media.specs.declared.cell.Cell.{Cell}
use Rattle.cxl_media.specs.Blocks.{Key}
use Rattle.cxl_media.specs.Table.{Cells, key_at, cell_at, frames_in, IsStop}
use Rattle.cxl_media.specs.Hash.{home_of}
use Rattle.cxl_media.specs.Index.{Table, IsIndex}
use Rattle.cxl_media.proofs.Indexed.{stop_key, stop_nothing, stop_past}
use Rattle.cxl_media.proofs.Kept.{whole_at}
use Rattle.cxl_media.proofs.index.Index.place.Goals as goal

pub returns-then-at-len : goal.returns-then-at-len
returns-then-at-len c =
    let past : c.stop-at.result ≡ length c.self.inside.cells.cells = c.if-at-len.true ∙ c.len.ensures in
    let none = subst (λ (t : Table). get (frames_in t.cells) (c.args.ep, c.args.number) ≡ None) c.self.view_is
    (stop_past _ _ _ (c.args.ep, c.args.number) c.stop-at.result c.self.invariant c.stop-at.ensures past) in
    record { there = tt; within = tt; none = none }

pub place_of-requires : goal.place_of-requires
place_of-requires c = omega (arith, c.stop-at.ensures.within, c.if-at-len.false, c.len.ensures)

-- the block at the place is the one that is sought
there_if : (cells kept : Cells) (room : ℕ) (key : Key) (at : ℕ) → IsIndex cells kept room → IsStop cells (home_of (2 * room) key) key at → (r : Option ℕ) → IfSome r (λ place. cell_at kept place ≡ cell_at cells at) → IfSome r (λ place. place < length kept) → IfSome r (λ place. (cell : Cell) × (cell_at kept place ≡ Some cell) × (key_at cell ≡ key))
there_if cells kept room key at index stop None found within = tt
there_if cells kept room key at index stop (Some place) found within =
    let block = whole_at kept place index.whole within in
    (block.0, block.1, stop_key cells kept room key at index stop block.0 (sym found ∙ block.1))

none_if : (cells kept : Cells) (room : ℕ) (key : Key) (at : ℕ) → IsIndex cells kept room → IsStop cells (home_of (2 * room) key) key at → (r : Option ℕ) → IfNone r (cell_at cells at ≡ None) → IfNone r (get (frames_in kept) key ≡ None)
none_if cells kept room key at index stop None none = stop_nothing cells kept room key at index stop none
none_if cells kept room key at index stop (Some place) none = tt

pub returns-clause-there : goal.returns-clause-there
returns-clause-there c =
    subst (λ (t : Table). IfSome c.place_of.result (λ place. (cell : Cell) × (cell_at t.cells place ≡ Some cell) × (key_at cell ≡ (c.args.ep, c.args.number)))) c.self.view_is
    (there_if _ _ _ _ _ c.self.invariant c.stop-at.ensures c.place_of.result c.place_of.ensures.found c.place_of.ensures.within)

pub returns-clause-within : goal.returns-clause-within
returns-clause-within c =
    subst (λ (t : Table). IfSome c.place_of.result (λ place. place < length t.cells)) c.self.view_is c.place_of.ensures.within

pub returns-clause-none : goal.returns-clause-none
returns-clause-none c =
    subst (λ (t : Table). IfNone c.place_of.result (get (frames_in t.cells) (c.args.ep, c.args.number) ≡ None)) c.self.view_is
    (none_if _ _ _ _ _ c.self.invariant c.stop-at.ensures c.place_of.result c.place_of.ensures.none)
