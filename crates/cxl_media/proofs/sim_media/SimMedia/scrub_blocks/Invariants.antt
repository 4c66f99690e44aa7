use Rattle.std.proofs.Common.{◌≡◌, ℕ, ◌/◌, ◌<◌, ◌≤◌, None}
use Rattle.std.specs.FinMap.{get}
use Rattle.cxl_media.specs.Blocks.{is_between}
use Rattle.cxl_media.specs.Table.{frames_in}
use Rattle.cxl_media.specs.Sim.{sim_of}
use Rattle.cxl_media.proofs.Scrubs.{IsScrubbed}
use Rattle.cxl_media.proofs.sim_media.SimMedia.scrub_blocks.Given as goal

abbrev pub invariant-loop-number : goal.invariant-loop-number
invariant-loop-number l = record {
  scrubbed : IsScrubbed (is_between l.ep l.from l.to) (sim_of l.initial.self-inside.pool l.initial.self-inside.index.cells) l.self-inside.pool l.self-inside.index l.self-inside.zones;
  gone : (m : ℕ) → l.from / 256 ≤ m → m < l.number → get (frames_in l.self-inside.index.cells) (l.ep, m) ≡ None;
}
