use Rattle.std.proofs.Common.{◌≡◌, ◌≤◌, ℕ, Some, Vec, Global, length, take}
use Rattle.std.specs.Prelude.{slice_get}
use Rattle.std.specs.Vec.{vec_capacity}
use Rattle.cxl_model.specs.declared.found.Found.{Found}
use Rattle.cxl_model.specs.System.{system_of}
use Rattle.cxl_model.specs.Listed.{region_limit}
use Rattle.cxl_walk.specs.declared.own.Own.{Own}
use Rattle.cxl_walk.specs.Keeping.{own_decoders}
use Rattle.cxl_opening.specs.Opened.{AreRoutesOf}
use Rattle.cxl_opening.proofs.keeping.routes_of.Given as goal

-- those of the first regions are kept, and the others' own decoders are still there
abbrev pub invariant-loop-place : goal.invariant-loop-place
invariant-loop-place l = record {
  routes : AreRoutesOf (system_of l.image l.topo l.windows) (take l.place l.founds) l.kepts.items;
  room : region_limit ≤ vec_capacity l.kepts;
  long : length l.owns.items ≡ length l.founds;
  owned : (k : ℕ) (found : Found) (own : Vec Own Global) → l.place ≤ k → slice_get l.founds k ≡ Some found → slice_get l.owns.items k ≡ Some own
      → own.items ≡ own_decoders (system_of l.image l.topo l.windows) found;
}
