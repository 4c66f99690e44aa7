use Rattle.std.proofs.Common.{◌≡◌, ◌∙◌, true, false}
use Rattle.cxl_machine.specs.Sound.{auto_name}
use Rattle.cxl_opening.proofs.AutoNames.{named_so}
use Rattle.cxl_opening.proofs.keeping.auto_name.Goals as goal

pub unreachable-requires : goal.unreachable-requires
unreachable-requires c =
    let text : c.as_bytes.result.now ≡ auto_name c.args.i = c.as_bytes.ensures.value ∙ c.in_ok-text.ensures.ok in
    let none : false ≡ true = c.in-None.ensures.name.1 (named_so c.as_bytes.result.now c.args.i c.requires text) in
    cc
