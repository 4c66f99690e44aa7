use Rattle.std.proofs.Common.{◌≡◌, ℕ, ◌+◌, ◌-◌, true, sym, ap, ◌∙◌, subst, arith}
use Rattle.std.proofs.lemmas.Grind.{common_steps}
use Rattle.std.specs.Prelude.{IsTrue}
use Rattle.cxl_enc.specs.Codes.{is_ways, third_of, bits_of}
use Rattle.cxl_num.specs.Maps.{are_usable_maps}
use Rattle.cxl_window.specs.Fields.{WindowFields}
use Rattle.cxl_model.specs.declared.found.Found.{Found}
use Rattle.cxl_model.specs.System.{System, IsSystem}
use Rattle.cxl_model.specs.Regions.{region_range, IsRegionIn}
use Rattle.cxl_model.proofs.Weaving.{found_ways_known, told, window_divides, few_ways, few_below, found_gran_known, found_maps_usable, usable_front}
use Rattle.cxl_model.proofs.RangeWindows.{has_window}
use Rattle.cxl_model.proofs.Hosting.{region_system}
use Rattle.cxl_model.proofs.found.weave_of.Goals as goal

-- The conditions of a weave hold of the window's base and code as well as of the region's, of no XOR, and of fewer bits, and
-- are proved so: a weave that is not the region's is refused because it is another one.

pub split-all-requires : goal.split-all-requires
split-all-requires c = found_ways_known c.requires.region.0 c.args.window.now c.args.found.now c.requires.region.2

pub overflow_sub-all : goal.overflow_sub-all
overflow_sub-all c =
    let known = subst (λ (n : ℕ). IsTrue (is_ways n)) c.ways.ensures.value c.ways.ensures.known in
    let divided = window_divides c.requires.region.0 c.args.window.now c.args.found.now (region_system c.requires.region.0 c.args.window.now c.args.found.now c.requires.region.1 c.requires.region.2) c.requires.region.2 known in
    let rise = divided.bits in
    let root : c.split-root.result.bits ≡ bits_of c.args.window.now.ways = c.split-root.ensures.bits ∙ ap bits_of c.ways.ensures.value in
    let all = c.split-all.ensures.bits in
    omega (arith, rise, root, all)

pub new-requires-clause-aligned : goal.new-requires-clause-aligned
new-requires-clause-aligned c =
    let s : System = c.requires.region.0 in
    let w : WindowFields = c.args.window.now in
    let found : Found = c.args.found.now in
    let system : IsSystem s = region_system s w found c.requires.region.1 c.requires.region.2 in
    let own = (told s w found system c.requires.region.2).base in
    let also = (has_window s (region_range found) w system c.requires.region.2.window).usable.aligned in
    omega (arith, own, also)

pub new-requires-clause-gran_known : goal.new-requires-clause-gran_known
new-requires-clause-gran_known c =
    let own = found_gran_known c.requires.region.0 c.args.window.now c.args.found.now (region_system c.requires.region.0 c.args.window.now c.args.found.now c.requires.region.1 c.requires.region.2) c.requires.region.2 in
    omega (arith, own)

pub new-requires-clause-few_ways : goal.new-requires-clause-few_ways
new-requires-clause-few_ways c =
    let known = subst (λ (n : ℕ). IsTrue (is_ways n)) c.ways.ensures.value c.ways.ensures.known in
    let divided = window_divides c.requires.region.0 c.args.window.now c.args.found.now (region_system c.requires.region.0 c.args.window.now c.args.found.now c.requires.region.1 c.requires.region.2) c.requires.region.2 known in
    let rise = divided.bits in
    let root : c.split-root.result.bits ≡ bits_of c.args.window.now.ways = c.split-root.ensures.bits ∙ ap bits_of c.ways.ensures.value in
    let all = c.split-all.ensures.bits in
    let few =
    few_ways c.args.window.now.ways c.args.found.now.ways c.split-root.result.third c.split-root.result.bits c.split-all.result.bits divided
    (ap third_of (sym c.ways.ensures.value) ∙ c.split-root.ensures.third) root all in
    few_below c.split-root.result.third _ (c.split-root.result.bits + (c.split-all.result.bits - c.split-root.result.bits)) (omega (arith, rise, root, all)) few

pub new-requires-clause-maps_usable : goal.new-requires-clause-maps_usable
new-requires-clause-maps_usable c = λ xor.
    let s : System = c.requires.region.0 in
    let w : WindowFields = c.args.window.now in
    let found : Found = c.args.found.now in
    let region : IsRegionIn s w found = c.requires.region.2 in
    let system : IsSystem s = region_system s w found c.requires.region.1 region in
    let known = subst (λ (n : ℕ). IsTrue (is_ways n)) c.ways.ensures.value c.ways.ensures.known in
    let on : w.xor ≡ true = cc in
    let root : c.split-root.result.bits ≡ bits_of w.ways = c.split-root.ensures.bits ∙ ap bits_of c.ways.ensures.value in
    let of_window : IsTrue (are_usable_maps w.gran (bits_of w.ways) w.maps) = c.maps-maps.ensures.usable (has_window s (region_range found) w system region.window).verdict on in
    let of_region : IsTrue (are_usable_maps found.gran (bits_of w.ways) w.maps) = found_maps_usable s w found system region known c.maps-maps.ensures.usable on in
    let one = usable_front w.gran (bits_of w.ways) c.split-root.result.bits w.maps c.maps-maps.result.now root c.maps-maps.ensures.value c.maps-maps.ensures.four of_window in
    let other = usable_front found.gran (bits_of w.ways) c.split-root.result.bits w.maps c.maps-maps.result.now root c.maps-maps.ensures.value c.maps-maps.ensures.four of_region in
    cc (one, other)

pub returns : goal.returns
returns c = grind (arith, common_steps)
