use Rattle.std.proofs.Common.{length, refl}
use Rattle.std.proofs.lemmas.Result.{IfOk-weaker}
use Rattle.cxl_model.specs.Hosts.{as_system}
use Rattle.cxl_model.specs.Accepted.{breaks}
use Rattle.cxl_check.proofs.Spots.{all_spots}
use Rattle.cxl_check.proofs.FirstOfRule.{first_breaches, none_past}
use Rattle.cxl_check.proofs.places.ranges_spots.Goals as goal

pub returns-in-Some : goal.returns-in-Some
returns-in-Some c =
    let s = as_system c.args.host.now in
    let b = c.in-Some.breach in
    IfOk-weaker c.rule_spots.result _ _
    (λ found spots. first_breaches s b.rule b.node b.decoder c.in-Some.ensures.first found.items
    (all_spots (breaks s b.rule) b.rule s (length s.nodes) found.items (λ m i. refl) (λ m i past. none_past s c.requires b.rule m i past) spots))
    c.rule_spots.ensures

pub returns : goal.returns
returns c = rw c.new.ensures.items c.in-None.ensures.none

pub rule_spots-requires : goal.rule_spots-requires
rule_spots-requires c = record {
  met = c.in-Some.ensures.met;
  ready = c.requires;
  tables = c.in_ok-tables.ensures;
  lower = λ lower n i below. c.in-Some.ensures.first.rules lower n i below;
}
