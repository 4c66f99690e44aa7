-- The frames that the devices of a topology share.
use Rattle.std.specs.Prelude.{ℕ, ◌≤◌}
use Rattle.cxl_enc.specs.Limits.{frame_limit}

-- as many frames as a topology may state
pub record AreFrames (frames : ℕ) : Type 0 where
  pub some : 1 ≤ frames
  pub few : frames ≤ frame_limit
