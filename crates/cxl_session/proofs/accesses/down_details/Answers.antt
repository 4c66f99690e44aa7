use Rattle.std.proofs.Common.{◌≤◌, sym, subst, ap, ◌∙◌, arith}
use Rattle.cxl_deal.specs.Weaves.{WeaveFields, dealt_slot}
use Rattle.cxl_machine.specs.Machine.{region_window}
use Rattle.cxl_live.proofs.Hosts.{host_from, host_below}
use Rattle.cxl_session.proofs.Downs.{downed_is, downed_by_chain}
use Rattle.cxl_session.proofs.accesses.down_details.Goals as goal

pub deal-dealt-requires-clause-from : goal.deal-dealt-requires-clause-from
deal-dealt-requires-clause-from c =
    subst (λ (v : WeaveFields). v.base ≤ c.args.h) (sym (c.weave.ensures ∙ c.requires.is.weave)) c.requires.from

pub deal-dealt-requires-clause-below : goal.deal-dealt-requires-clause-below
deal-dealt-requires-clause-below c =
    omega (arith, c.requires.below, c.regions_lie_in_windows.ensures.low c.requires.s c.requires.w c.requires.found c.requires.system c.requires.region)

pub returns : goal.returns
returns c = λ m region system is kept has named.
    let chain = c.route-route.ensures.chain m.settled (region_window m.settled region.found) region.found system is kept (host_from region.found c.args.h has) (host_below region.found c.args.h has) in
    let dealt = downed_by_chain m region c.args.h c.route-route.result has (λ outcome. c.chain_is_the_dealing.ensures.only m.settled (region_window m.settled region.found) region.found c.args.h outcome system is) chain in
    let slot = c.deal-dealt.ensures.slot ∙ ap (λ (v : WeaveFields). dealt_slot v c.args.h) (c.weave.ensures ∙ kept.weave) in
    downed_is m region c.args.h c.route-route.result c.route-route.result.few c.vias.ensures.five c.route-route.ensures.zeros dealt c.args.name c.deal-dealt.result.slot c.vias.result named slot c.vias.ensures.value
