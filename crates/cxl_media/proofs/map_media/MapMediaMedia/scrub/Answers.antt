use Rattle.std.proofs.Common.{ap}
use Rattle.cxl_media.specs.MapInside.{plain_state}
use Rattle.cxl_media.proofs.Keys.{scrubbed_none}
use Rattle.cxl_media.proofs.Plain.{kept_blocks, kept_inside, kept_frames}
use Rattle.cxl_media.proofs.map_media.MapMediaMedia.scrub.Goals as goal

pub returns-then-from-to-clause-blocks : goal.returns-then-from-to-clause-blocks
returns-then-from-to-clause-blocks c = scrubbed_none _ _ _ _ c.if-from-to.true

pub invariant_of-self : goal.invariant_of-self
invariant_of-self c = kept_inside _ _ _ _ _ _ _ _ (ap plain_state c.self.view_is) c.self.invariant c.keep_outside.ensures.kept _ c.keep_outside.ensures.room

pub returns-clause-blocks : goal.returns-clause-blocks
returns-clause-blocks c = kept_blocks _ _ _ _ _ _ _ _ (ap plain_state c.self.view_is) c.self.invariant c.keep_outside.ensures.kept

pub returns-clause-frames : goal.returns-clause-frames
returns-clause-frames c = kept_frames _ _ _ _ _ _ _ _ (ap plain_state c.self.view_is) c.self.invariant c.keep_outside.ensures.kept
