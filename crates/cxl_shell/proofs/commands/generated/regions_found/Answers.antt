use Rattle.std.proofs.Common.{sym, ◌∙◌}
use Rattle.cxl_shell.specs.commands.Gen.{regions_found, breach_found}
use Rattle.cxl_shell.proofs.commands.generated.regions_found.Goals as goal

pub returns-in-Ok : goal.returns-in-Ok
returns-in-Ok c =
    let accepted = rw (c.image.ensures, c.topo.ensures, c.windows.ensures) at c.in-Ok.ensures.accepted in
    let regions = rw (c.image.ensures, c.topo.ensures, c.windows.ensures) at c.in-Ok.ensures.regions in
    regions_found c.len.result (accepted, (c.in-Ok.regions.items, regions, sym (c.len.ensures ∙ c.in-Ok.regions.ok.0)))

pub returns-in-Err-Breach : goal.returns-in-Err-Breach
returns-in-Err-Breach c =
    let b = c.in-Err-Breach.field-0-0 in
    let first = rw (c.image.ensures, c.topo.ensures, c.windows.ensures, c.in-Err-Breach.field-0-is) at c.in-Err-Breach.ensures.breach in
    breach_found (b.rule, b.node, b.decoder, first)
