use Rattle.std.proofs.Common.{ℕ, ◌<◌, Bool, List, length, get_or, Option, sym, ap, subst, ◌∙◌}
use Rattle.std.specs.Prelude.{All}
use Rattle.std.specs.List.{filter_map, range_with_len}
use Rattle.std.proofs.lemmas.Option.{slice_get-get_or}
use Rattle.std.proofs.lemmas.Result.{IfOk-weaker}
use Rattle.cxl_window.specs.Fields.{WindowFields}
use Rattle.cxl_model.specs.declared.found.Found.{Found}
use Rattle.cxl_model.specs.declared.found.Place.{Place}
use Rattle.cxl_model.specs.Regions.{region_range}
use Rattle.cxl_model.specs.System.{System, system_of}
use Rattle.cxl_walk.specs.declared.own.Own.{Own}
use Rattle.cxl_walk.specs.inner.Marks.{MarksWays}
use Rattle.cxl_walk.proofs.Marks.{WayLaws, own_marked}
use Rattle.cxl_model.proofs.RangeServers.{endpoint_inside}
use Rattle.cxl_walk.proofs.owned.own_in.Goals as goal

pub marked_ways-requires : goal.marked_ways-requires
marked_ways-requires c =
    let is = c.requires in
    let found : Found = c.args.found.now in
    let s : System = system_of c.args.image.now c.args.topo.now is.windows in
    subst (All (λ (place : Place). place.endpoint < length s.nodes)) (sym c.items.ensures)
    (λ k d low. endpoint_inside s (region_range found) (get_or found.spans k d).endpoint
    (c.slots_are_endpoints.ensures.endpoint s is.window found k (get_or found.spans k d) is.system is.region (slice_get-get_or found.spans k d low)))

pub returns : goal.returns
returns c =
    let is = c.requires in
    let found : Found = c.args.found.now in
    let w : WindowFields = is.window in
    let s : System = system_of c.args.image.now c.args.topo.now is.windows in
    let marks : List Bool = c.deref.result.now in
    let laws : WayLaws s w found = record {
      under = λ n serving.
          c.endpoints_lie_evenly.ensures.under s (region_range found) w n is.system is.region.whole is.region.window
          (c.endpoints_lie_evenly.ensures.served s (region_range found) n is.system is.region.whole serving);
      each = λ m end. c.slots_are_endpoints.ensures.each s w found m is.system is.region end;
    } in
    let marked : MarksWays s.nodes marks found.spans =
    subst (MarksWays s.nodes marks) c.items.ensures (subst (λ (bs : List Bool). MarksWays s.nodes bs c.items.result.now) (sym c.deref.ensures.value) c.in_ok-marks.ensures) in
    IfOk-weaker c.own_at_marks.result _ _
    (λ own are. are ∙ ap (λ (f : ℕ → Option Own). filter_map f (range_with_len 0 (length s.nodes))) (λ k n. own_marked s w found laws marks marked n k))
    c.own_at_marks.ensures
