use Rattle.std.proofs.Common.{◌∙◌}
use Rattle.cxl_regs.specs.Reading.{range_of}
use Rattle.cxl_model.specs.Hosts.{as_system}
use Rattle.cxl_cause.proofs.ways.code_cause.Goals as goal

pub returns : goal.returns
returns c =
    let wanted = c.from.ensures ∙ c.range_code.ensures (as_system c.args.host.now) (range_of c.args.d.now) c.requires in
    rw (wanted, c.requires.node) at c.told_code.ensures
