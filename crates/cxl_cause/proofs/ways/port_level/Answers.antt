use Rattle.std.proofs.Common.{◌≡◌, ap, refl, ◌∙◌}
use Rattle.cxl_enc.specs.Codes.{bits_of}
use Rattle.cxl_model.specs.Hosts.{as_system}
use Rattle.cxl_cause.proofs.ways.port_level.Goals as goal

pub returns : goal.returns
returns c =
    let code = c.from.ensures ∙ c.range_code.ensures (as_system c.args.host.now) c.args.range.now c.requires.first in
    let split : c.from-2.result ≡ bits_of c.args.w.now.ways = c.from-2.ensures ∙ c.split.ensures.bits ∙ ap bits_of c.ways.ensures.value in
    rw (code, split, c.ports_above-above.ensures.bits) refl
