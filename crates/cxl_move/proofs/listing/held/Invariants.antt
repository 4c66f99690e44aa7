use Rattle.cxl_move.proofs.HeldPieces.{AreListed}
use Rattle.cxl_move.proofs.listing.held.Given as goal

-- the pieces of the blocks at the places so far
abbrev pub invariant-loop-i : goal.invariant-loop-i
invariant-loop-i g l = AreListed l.side.found.now l.side.window.now (g.M.Roll.roll l.media) l.i l.pieces.items
