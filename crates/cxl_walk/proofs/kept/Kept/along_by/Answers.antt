use Rattle.std.proofs.Common.{◌≡◌, ℕ, List, length, get_or, Some, sym, ap, subst, ◌∙◌, arith, length-append}
use Rattle.std.specs.Prelude.{slice_get}
use Rattle.std.proofs.lemmas.Option.{slice_get_within}
use Rattle.cxl_window.specs.Fields.{WindowFields}
use Rattle.cxl_model.specs.declared.found.Found.{Found}
use Rattle.cxl_model.specs.System.{System, IsSystem}
use Rattle.cxl_model.specs.Regions.{IsRegionIn, weave_fields}
use Rattle.cxl_walk.specs.declared.own.Own.{Own}
use Rattle.cxl_walk.specs.declared.route.Route.{Route}
use Rattle.cxl_walk.specs.Keeping.{IsSlotRoute, IsOwnIn}
use Rattle.cxl_walk.proofs.Keepings.{one_more}
use Rattle.cxl_walk.proofs.SlotRoutes.{window_at}
use Rattle.cxl_walk.proofs.kept.Kept.along_by.Goals as goal

-- the window that is read is the region's
read_window : (s : System) (windows : List WindowFields) (w v : WindowFields) (found : Found) → s.windows ≡ windows → IsSystem s → IsRegionIn s w found → v ≡ get_or windows found.window v → v ≡ w
read_window s windows w v found among system region is = window_at s w v found system region (is ∙ ap (λ (ws : List WindowFields). get_or ws found.window v) (sym among))

pub bounds-windows-found : goal.bounds-windows-found
bounds-windows-found c =
    let s : System = c.requires.0 in
    let has = c.requires.1 in
    let there = c.regions_lie_in_windows.ensures.there s has.w c.args.found.now has.is.system has.is.region in
    slice_get_within c.args.windows.now c.args.found.now.window has.w (ap (λ (ws : List WindowFields). slice_get ws c.args.found.now.window) (sym has.among) ∙ there)

pub weave_in-weave-requires : goal.weave_in-weave-requires
weave_in-weave-requires c =
    let s : System = c.requires.0 in
    let has = c.requires.1 in
    let same = read_window s c.args.windows.now has.w c.index-windows-found.result c.args.found.now has.among has.is.system has.is.region c.index-windows-found.is in
    (s, has.is.system, subst (λ (x : WindowFields). IsRegionIn s x c.args.found.now) (sym same) has.is.region)

pub loop-slot-init : goal.loop-slot-init
loop-slot-init c =
    let none : length c.in_ok-routes.routes.items ≡ 0 = ap length c.in_ok-routes.ensures.items in
    record {
      count = none;
      room = omega (arith, c.in_ok-routes.ensures.exact, c.from.ensures);
      each = λ s is k route at. let low = slice_get_within c.in_ok-routes.routes.items k route at in absurd (omega (arith, low, none));
    }

pub slot_route-route-requires : goal.slot_route-route-requires
slot_route-route-requires c =
    let s : System = c.requires.0 in
    let has = c.requires.1 in
    let w : WindowFields = c.index-windows-found.result in
    let found = c.args.found.now in
    let same = read_window s c.args.windows.now has.w w found has.among has.is.system has.is.region c.index-windows-found.is in
    let own : IsOwnIn s c.args.topo.now.nodes w found c.args.own.items = record { system = has.is.system; tree = has.is.tree; region = subst (λ (x : WindowFields). IsRegionIn s x found) (sym same) has.is.region; are = has.is.are } in
    record {
      region = (s, subst (λ (own : List Own). IsOwnIn s c.args.topo.now.nodes w found own) (sym c.deref-in-loop-slot.ensures.value) own);
      slot = omega (arith, c.loop-slot-test.true);
    }

pub push_reserved-requires : goal.push_reserved-requires
push_reserved-requires c = omega (arith, c.loop-slot.invariant.count, c.loop-slot.invariant.room, c.loop-slot-test.true)

pub returns-in_err-routes-clause-long : goal.returns-in_err-routes-clause-long
returns-in_err-routes-clause-long c = c.put_likely.ensures

pub returns-clause-long : goal.returns-clause-long
returns-clause-long c = c.put_likely.ensures

pub loop-slot-preserved : goal.loop-slot-preserved
loop-slot-preserved c =
    let found = c.args.found.now in
    let w : WindowFields = c.index-windows-found.result in
    let items = c.push_reserved.ensures.items in
    let more = simp length-append at (ap length items) in
    record {
      count = omega (arith, more, c.loop-slot.invariant.count);
      room = omega (arith, c.push_reserved.ensures.capacity, c.loop-slot.invariant.room);
      each = λ s is.
          subst (λ (xs : List Route). (k : ℕ) (route : Route) → slice_get xs k ≡ Some route → IsSlotRoute s w found k route) (sym items)
          (one_more (λ (k : ℕ) (route : Route). IsSlotRoute s w found k route) c.loop-slot.routes.items c.slot_route-route.result (c.loop-slot.invariant.each s is)
          (subst (λ (k : ℕ). IsSlotRoute s w found k c.slot_route-route.result) (sym c.loop-slot.invariant.count)
          (c.slot_route-route.ensures s (subst (λ (own : List Own). IsOwnIn s c.args.topo.now.nodes w found own) (sym c.deref-in-loop-slot.ensures.value) is))));
    }

pub returns-clause-kept : goal.returns-clause-kept
returns-clause-kept c = λ s w has region.
    let found = c.args.found.now in
    let v : WindowFields = c.index-windows-found.result in
    let same : v ≡ w = read_window s c.args.windows.now w v found has.among has.is.system region c.index-windows-found.is in
    let own : IsOwnIn s c.args.topo.now.nodes v found c.args.own.items = record { system = has.is.system; tree = has.is.tree; region = subst (λ (x : WindowFields). IsRegionIn s x found) (sym same) region; are = has.is.are } in
    let routes : c.new.result ≡ c.loop-slot.routes.items = c.new.ensures in
    let many = ap length routes in
    record {
      weave = c.weave_in-weave.ensures.weave ∙ ap (λ (x : WindowFields). weave_fields found x) same;
      count = omega (arith, many, c.loop-slot.invariant.count, c.loop-slot-test.false, c.loop-slot.auto.slot-end);
      each = λ slot route at.
          subst (λ (x : WindowFields). IsSlotRoute s x found slot route) same
          (c.loop-slot.invariant.each s own slot route (ap (λ (rs : List Route). slice_get rs slot) (sym routes) ∙ at));
      own = c.new-2.ensures ∙ has.is.are;
    }
