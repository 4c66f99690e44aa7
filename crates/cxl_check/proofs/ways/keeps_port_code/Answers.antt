use Rattle.std.proofs.Common.{◌≡◌, false, refl, ◌∙◌}
use Rattle.std.specs.Prelude.{◌==◌}
use Rattle.std.proofs.lemmas.Bool.{ne_eqb}
use Rattle.cxl_regs.specs.Reading.{decoder_ways}
use Rattle.cxl_model.specs.Hosts.{as_system}
use Rattle.cxl_check.proofs.ways.keeps_port_code.Goals as goal

pub returns-else-interleave_ways-eq1 : goal.returns-else-interleave_ways-eq1
returns-else-interleave_ways-eq1 c =
    let many : (decoder_ways c.args.d.now == 1) ≡ false = ne_eqb (decoder_ways c.args.d.now) 1 (λ one. c.if-interleave_ways-eq1.false (c.interleave_ways.ensures.value ∙ one)) in
    let level = c.port_level-level.ensures (as_system c.args.host.now) c.requires.facts in
    rw (many, c.from.ensures, level) refl
