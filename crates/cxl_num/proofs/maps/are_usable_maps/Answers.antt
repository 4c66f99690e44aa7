use Rattle.std.proofs.Common.{◌≡◌, ◌<◌, ◌≤◌, length, get_or, sym, ◌∙◌, rules, add-one}
use Rattle.cxl_num.proofs.MapTests.{are_usable_from-there, are_usable_from-past}
use Rattle.cxl_num.proofs.maps.are_usable_maps.Goals as goal

pub returns-in_default : goal.returns-in_default
returns-in_default c =
    let past : length c.args.maps.now ≤ c.loop-i.i = search rules in
    sym (are_usable_from-past c.args.maps.now c.args.gran c.args.bits c.loop-i.i c.loop-i-test.true past) ∙ c.loop-i.invariant

pub returns-then-not-is_usable_map : goal.returns-then-not-is_usable_map
returns-then-not-is_usable_map c =
    let maps = c.args.maps.now in
    let map = c.in-Some.map.now in
    let there : c.loop-i.i < length maps = search rules in
    let map-is : map ≡ get_or maps c.loop-i.i map = search rules in
    let step = are_usable_from-there maps c.args.gran c.args.bits c.loop-i.i map c.loop-i-test.true there map-is in
    let unusable = sym c.is_usable_map.ensures ∙ c.if-not-is_usable_map.true in
    sym (rw unusable at step) ∙ c.loop-i.invariant

pub loop-i-preserved : goal.loop-i-preserved
loop-i-preserved c =
    let maps = c.args.maps.now in
    let map = c.in-Some.map.now in
    let there : c.loop-i.i < length maps = search rules in
    let map-is : map ≡ get_or maps c.loop-i.i map = search rules in
    let step = are_usable_from-there maps c.args.gran c.args.bits c.loop-i.i map c.loop-i-test.true there map-is in
    let usable = sym c.is_usable_map.ensures ∙ c.if-not-is_usable_map.false in
    rw add-one (sym (rw usable at step) ∙ c.loop-i.invariant)
