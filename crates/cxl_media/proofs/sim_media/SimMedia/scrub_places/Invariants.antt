use Rattle.cxl_media.specs.Blocks.{is_between}
use Rattle.cxl_media.specs.Table.{NonePass}
use Rattle.cxl_media.specs.Sim.{sim_of}
use Rattle.cxl_media.proofs.Scrubs.{IsScrubbed}
use Rattle.cxl_media.proofs.sim_media.SimMedia.scrub_places.Given as goal

abbrev pub invariant-loop-place : goal.invariant-loop-place
invariant-loop-place l = record {
  scrubbed : IsScrubbed (is_between l.ep l.from l.to) (sim_of l.initial.self-inside.pool l.initial.self-inside.index.cells) l.self-inside.pool l.self-inside.index l.self-inside.zones;
  none : NonePass (is_between l.ep l.from l.to) l.self-inside.index.cells l.place;
}
