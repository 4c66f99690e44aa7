use Rattle.std.proofs.Common.{◌≡◌, ◌∙◌, List, ℕ, inl, subst}
use Rattle.cxl_script.specs.declared.command.Command.TheVariants as commands
use Rattle.cxl_handle.specs.Asking.{HasReplied}
use Rattle.cxl_handle.proofs.asking.store_over.Goals as goal

pub returns-clause-told : goal.returns-clause-told
returns-clause-told c =
    let same : c.new.result ≡ c.args.bytes.now = c.new.ensures ∙ c.in-Ok.ensures.items in
    inl (record {
      reply = c.in-Ok-ask.reply;
      answered = subst (λ (bytes : List ℕ). HasReplied (commands.Store record { h = c.args.h; bytes = bytes }) c.in-Ok-ask.reply c.args.held.now c.ask.new.self)
          same (record { turn = c.in-Ok-ask.ensures.answer; refused = c.in-Ok-ask.ensures.refused });
      tells = c.tell_stored.ensures;
      refusal = c.refusal_of.ensures;
    })
