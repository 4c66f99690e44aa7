use Rattle.std.proofs.Common.{◌≡◌, None}
use Rattle.std.specs.FinMap.{get}
use Rattle.cxl_media.specs.Blocks.{Key, is_between}
use Rattle.cxl_media.specs.Table.{frames_in}
use Rattle.cxl_media.specs.Sim.{sim_of}
use Rattle.cxl_media.proofs.Scrubs.{IsScrubbed}
use Rattle.cxl_media.proofs.Walks.{IsOnWay}
use Rattle.cxl_media.proofs.sim_media.SimMedia.scrub_zone.Given as goal

abbrev pub invariant-loop : goal.invariant-loop
invariant-loop l = record {
  scrubbed : IsScrubbed (is_between l.ep l.from l.to) (sim_of l.initial.self-inside.pool l.initial.self-inside.index.cells) l.self-inside.pool l.self-inside.index l.self-inside.zones;
  fewer : (key : Key) → get (frames_in l.initial.self-inside.index.cells) key ≡ None → get (frames_in l.self-inside.index.cells) key ≡ None;
  way : IsOnWay l.ep l.from l.to l.zone (frames_in l.self-inside.index.cells) l.self-inside.zones.nodes.items l.at;
}
