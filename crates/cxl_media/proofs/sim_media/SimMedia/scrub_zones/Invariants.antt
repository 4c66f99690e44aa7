use Rattle.std.proofs.Common.{◌≡◌, ◌+◌, ◌/◌, ◌^◌, ◌<◌, true, false, None}
use Rattle.std.specs.FinMap.{get, len}
use Rattle.cxl_media.specs.Pool.{free_count}
use Rattle.cxl_media.specs.Blocks.{Key, is_between}
use Rattle.cxl_media.specs.Sim.{shipped_blocks}
use Rattle.cxl_media.proofs.sim_media.SimMedia.scrub_zones.Given as goal

abbrev pub invariant-loop-zone : goal.invariant-loop-zone
invariant-loop-zone l = record {
  kept : (key : Key) → is_between l.ep l.from l.to key ≡ false → get (shipped_blocks l.self) key ≡ get (shipped_blocks l.fn.self) key;
  gone : (key : Key) → is_between l.ep l.from l.to key ≡ true → key.1 / 2 ^ 20 < l.zone → get (shipped_blocks l.self) key ≡ None;
  frames : free_count l.self.pool + len (shipped_blocks l.self) ≡ free_count l.fn.self.pool + len (shipped_blocks l.fn.self);
}
