use Rattle.std.proofs.Common.{ap, ◌∙◌, length, arith}
use Rattle.cxl_cedt.proofs.Places.{length-fields}
use Rattle.cxl_cedt.proofs.decoding.cxims_of.Goals as goal

pub new-requires-clause-maps : goal.new-requires-clause-maps
new-requires-clause-maps c =
    let count = ap length c.in_ok-maps.ensures ∙ length-fields c.args.text.now 8 8 c.u8_at.result in
    omega (arith, count)
