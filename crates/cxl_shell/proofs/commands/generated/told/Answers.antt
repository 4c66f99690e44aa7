use Rattle.std.proofs.Common.{Vec, Global, ℕ, ap, ◌∙◌, append_assoc}
use Rattle.cxl_inputs.specs.Outcome.{one_piece}
use Rattle.cxl_inputs.specs.declared.status.Status.TheVariants.{Done}
use Rattle.cxl_shell.proofs.commands.generated.told.Goals as goal

pub returns : goal.returns
returns c =
    let text = simp append_assoc at c.in_ok-text.ensures.ok in
    c.made.ensures ∙ ap (λ (v : Vec ℕ Global). one_piece Done v.items) c.into_bytes.ensures.value ∙ ap (one_piece Done) (simp append_assoc text)
