use Rattle.std.proofs.Common.{◌≡◌, ◌+◌, take}
use Rattle.cxl_media.specs.MediaState.{frame_count}
use Rattle.cxl_move.proofs.CarryingOn.{AreCarried}
use Rattle.cxl_move.proofs.copying.copy_bytes.Given as goal

-- the pieces so far are carried over
abbrev pub invariant-loop-n : goal.invariant-loop-n
invariant-loop-n g l = record {
  carried : AreCarried (λ piece. piece) l.from.found.now l.from.window.now l.to.found.now l.to.window.now (take l.n-index l.pieces) (g.M.Media.state l.fn.media).blocks (g.M.Media.state l.media).blocks;
  frames : frame_count (g.M.Media.state l.media) ≡ frame_count (g.M.Media.state l.fn.media);
  free : (g.M.Media.state l.media).free + l.n-index ≡ (g.M.Media.state l.initial.media).free;
}
