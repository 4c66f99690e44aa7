use Rattle.std.proofs.Common.{◌≡◌, ◌+◌, ◌<◌, ℕ, List, Some, [], ◌∷◌, ◌++◌, Vec, Global, get_or, length, take, sym, ap, subst, ◌∙◌, arith}
use Rattle.std.specs.Prelude.{slice_get}
use Rattle.std.specs.List.{AllZip}
use Rattle.std.proofs.lemmas.Bool.{eqb-false}
use Rattle.std.proofs.lemmas.List.{length-take, take_all, take_more}
use Rattle.std.proofs.lemmas.Option.{slice_get-get_or}
use Rattle.std.proofs.lemmas.Slice.Zip.{AllZip-long}
use Rattle.cxl_window.specs.Fields.{WindowFields}
use Rattle.cxl_model.specs.declared.found.Found.{Found}
use Rattle.cxl_model.specs.Regions.{IsRegion, IsRegionIn}
use Rattle.cxl_model.specs.System.{System, IsSystem, system_of}
use Rattle.cxl_walk.specs.declared.own.Own.{Own}
use Rattle.cxl_walk.specs.Keeping.{KeptFields, IsKept, own_decoders}
use Rattle.cxl_opening.specs.Opened.{AreRoutesOf}
use Rattle.cxl_opening.proofs.Routes.{has_own, keeps_blocks, routes_long}
use Rattle.cxl_opening.proofs.Zipped.{zip_at, zip_push}
use Rattle.cxl_opening.proofs.keeping.routes_of.Goals as goal

pub own_of_each-requires-clause-blocks : goal.own_of_each-requires-clause-blocks
own_of_each-requires-clause-blocks c =
    let s : System = system_of c.args.image.now c.args.topo.now c.args.windows.now in
    (c.args.windows.now, keeps_blocks s c.args.founds.now (eqb-false (length c.args.founds.now) 0 (sym c.is_empty.ensures ∙ c.if-is_empty.false)) c.requires.regions)

pub loop-place-init : goal.loop-place-init
loop-place-init c =
    let s : System = system_of c.args.image.now c.args.topo.now c.args.windows.now in
    let founds : List Found = c.args.founds.now in
    record {
      routes =
          subst (λ (kepts : List KeptFields). AreRoutesOf s [] kepts) (sym c.in_ok-kepts.ensures.items) tt;
      room = c.in_ok-kepts.ensures.capacity;
      long = AllZip-long (λ (found : Found) (own : Vec Own Global). own.items ≡ own_decoders s found) founds c.in_ok-owns.owns.items c.in_ok-owns.ensures;
      owned = λ k found own le at own_at.
          zip_at (λ (found : Found) (own : Vec Own Global). own.items ≡ own_decoders s found) founds c.in_ok-owns.owns.items k found own c.in_ok-owns.ensures at own_at;
    }

pub take_own-own-requires : goal.take_own-own-requires
take_own-own-requires c = omega (arith, c.loop-place.invariant.long, c.loop-place-test.true)

pub along_by-requires : goal.along_by-requires
along_by-requires c =
    let s : System = system_of c.args.image.now c.args.topo.now c.args.windows.now in
    let system : IsSystem s = record { tree = c.count-nodes.ensures.tree; blocks = c.count-blocks.ensures.image.each; caps = c.requires.caps; made = c.requires.made } in
    let i : ℕ = c.loop-place.place in
    let founds : List Found = c.args.founds.now in
    let found : Found = c.index-founds-place.result in
    let low : i < length founds = omega (arith, c.loop-place-test.true) in
    let at : slice_get founds i ≡ Some found = slice_get-get_or founds i found low ∙ ap Some (sym c.index-founds-place.is) in
    let region = subst (IsRegion s) (sym c.index-founds-place.is) (c.requires.regions i found low) in
    (s, has_own s region.0 found c.take_own-own.result.items system region.1 (c.loop-place.invariant.owned i found c.take_own-own.result (omega arith) at c.take_own-own.ensures.own))

pub push_reserved-requires : goal.push_reserved-requires
push_reserved-requires c =
    let i : ℕ = c.loop-place.place in
    let founds : List Found = c.args.founds.now in
    let size = c.loop-place.kepts.ok.0 in
    let count : length c.loop-place.kepts.items ≡ length (take i founds) = routes_long _ _ _ c.loop-place.invariant.routes in
    let taken = length-take i founds in
    let room = c.loop-place.invariant.room in
    let few = c.requires.few in
    omega (arith, c.loop-place-test.true, size, count, taken, room, few)

pub loop-place-preserved : goal.loop-place-preserved
loop-place-preserved c =
    let s : System = system_of c.args.image.now c.args.topo.now c.args.windows.now in
    let system : IsSystem s = record { tree = c.count-nodes.ensures.tree; blocks = c.count-blocks.ensures.image.each; caps = c.requires.caps; made = c.requires.made } in
    let i : ℕ = c.loop-place.place in
    let founds : List Found = c.args.founds.now in
    let found : Found = c.index-founds-place.result in
    let own : Vec Own Global = c.take_own-own.result in
    let low : i < length founds = omega (arith, c.loop-place-test.true) in
    let is : found ≡ get_or founds i found = c.index-founds-place.is in
    let at : slice_get founds i ≡ Some found = slice_get-get_or founds i found low ∙ ap Some (sym is) in
    let are = c.loop-place.invariant.owned i found own (omega arith) at c.take_own-own.ensures.own in
    let more : take (i + 1) founds ≡ take i founds ++ found ∷ [] = take_more founds i found low ∙ ap (λ (f : Found). take i founds ++ f ∷ []) (sym is) in
    let R : Found → KeptFields → Type 0 = λ f kept. (w : WindowFields) → IsRegionIn s w f → IsKept s w f kept in
    let all = zip_push R (take i founds) c.loop-place.kepts.items found c.in_ok-kept.kept c.loop-place.invariant.routes
    (λ w region. c.in_ok-kept.ensures.kept s w (has_own s w found own.items system region are) region) in
    let room = c.loop-place.invariant.room in
    let stays = c.push_reserved.ensures.capacity in
    record {
      routes =
          subst (λ (kepts : List KeptFields). AreRoutesOf s (take (i + 1) founds) kepts) (sym c.push_reserved.ensures.items)
          (subst (λ (fs : List Found). AllZip R fs (c.loop-place.kepts.items ++ c.in_ok-kept.kept ∷ [])) (sym more) all);
      room = omega (arith, room, stays);
      long = c.take_own-own.ensures.long ∙ c.loop-place.invariant.long;
      owned = λ k f o le f_at o_at.
          c.loop-place.invariant.owned k f o (omega (arith, le)) f_at
          (sym (c.take_own-own.ensures.others k (λ same. omega (arith, le, same))) ∙ o_at);
    }

pub returns-clause-routes : goal.returns-clause-routes
returns-clause-routes c =
    subst (λ (founds : List Found). AreRoutesOf (system_of c.args.image.now c.args.topo.now c.args.windows.now) founds c.loop-place.kepts.items)
    (take_all c.loop-place.place c.args.founds.now (omega (arith, c.loop-place-test.false))) c.loop-place.invariant.routes

pub returns-clause-room : goal.returns-clause-room
returns-clause-room c = c.loop-place.invariant.room
