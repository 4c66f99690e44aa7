use Rattle.std.proofs.Common.{◌≡◌, length, sym, subst}
use Rattle.std.specs.Prelude.{◌⊎◌}
use Rattle.cxl_held.specs.Sessions.{IsKept}
use Rattle.cxl_held.specs.declared.held.Held.{Held}
use Rattle.cxl_script.specs.declared.command.Command.TheVariants as commands
use Rattle.cxl_handle.specs.Asking.{IsReplyTold, IsUnasked, HasRunOut}
use Rattle.cxl_handle.specs.Owned.{HoldsSuch}
use Rattle.cxl_handle.specs.Replies.{TellsBytes}
use Rattle.cxl_handle.proofs.Holding.{where_some, holds_such}
use Rattle.cxl_handle.proofs.handle.SessionHandle.load.Goals as goal

pub load_over-code-requires-clause-kept : goal.load_over-code-requires-clause-kept
load_over-code-requires-clause-kept c = subst IsKept (sym c.deref_mut.ensures.value) c.in-Some.ensures.taken.1

pub returns-in-Some-clause-told : goal.returns-in-Some-clause-told
returns-in-Some-clause-told c access =
    let code = c.load_over-code.result in let now = c.load_over-code.new in let before = c.in-Some.own.value in
    let told : Held → Held → Type 0 = λ old new.
    IsReplyTold (commands.Load record { h = c.args.h; len = length c.args.bytes.now }) (λ reply. TellsBytes reply code c.args.bytes.now now.bytes) now.refusal old new
    ⊎ HasRunOut code c.args.refusal.now now.refusal (now.bytes ≡ c.args.bytes.now) old new in
    where_some c.args.self.now.held (IsUnasked c.args.self.now.held c.put.new.self.held code c.args.refusal.now now.refusal (now.bytes ≡ c.args.bytes.now))
    (λ old. HoldsSuch c.put.new.self.held (told old)) before c.in-Some.ensures.taken.0
    (holds_such c.put.new.self.held (told before) now.held c.put.ensures (subst (λ old. told old now.held) c.deref_mut.ensures.value c.load_over-code.ensures.told))
