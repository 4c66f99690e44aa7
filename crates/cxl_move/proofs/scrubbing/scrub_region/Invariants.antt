use Rattle.std.proofs.Common.{◌≡◌, take}
use Rattle.cxl_media.specs.MediaState.{frame_count}
use Rattle.cxl_move.proofs.Clearing.{AreScrubbed}
use Rattle.cxl_move.proofs.scrubbing.scrub_region.Given as goal

-- the blocks of the spans so far are gone
abbrev pub invariant-loop-place : goal.invariant-loop-place
invariant-loop-place g l = record {
  scrubbed : AreScrubbed l.length (take l.place-index l.spans) (g.M.Media.state l.fn.media).blocks (g.M.Media.state l.media).blocks;
  frames : frame_count (g.M.Media.state l.media) ≡ frame_count (g.M.Media.state l.fn.media);
}
