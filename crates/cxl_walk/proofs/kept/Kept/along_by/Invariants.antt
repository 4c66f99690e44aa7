use Rattle.std.proofs.Common.{◌≡◌, ℕ, ◌≤◌, Some, length}
use Rattle.std.specs.Prelude.{slice_get}
use Rattle.std.specs.Vec.{vec_capacity}
use Rattle.cxl_model.specs.System.{System}
use Rattle.cxl_walk.specs.declared.route.Route.{Route}
use Rattle.cxl_walk.specs.Keeping.{IsSlotRoute, IsOwnIn}
use Rattle.cxl_walk.proofs.kept.Kept.along_by.Given as goal

abbrev pub invariant-loop-slot : goal.invariant-loop-slot
invariant-loop-slot l = record {
  count : length l.routes.items ≡ l.slot;
  room : l.found.ways ≤ vec_capacity l.routes;
  each : (s : System) → IsOwnIn s l.topo.nodes l.window l.found l.own.items → (k : ℕ) (route : Route) → slice_get l.routes.items k ≡ Some route → IsSlotRoute s l.window l.found k route;
}
