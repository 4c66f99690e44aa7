use Rattle.std.proofs.Common.{◌∙◌, ap, sym, subst, refl, List, ℕ}
use Rattle.std.specs.Prelude.{is_none}
use Rattle.std.proofs.lemmas.Bool.{false≢true}
use Rattle.std.proofs.lemmas.Result.{IfOk-weaker}
use Rattle.cxl_poison.specs.declared.fault.Said.{Said}
use Rattle.cxl_poison.specs.Payload.{IsPoisonPayload, IsPoisonFaultOf}
use Rattle.cxl_reply.specs.declared.reply.Reply.TheVariants as replies
use Rattle.cxl_machine.specs.Reports.{told, listed, short, few}
use Rattle.cxl_session.specs.State.{SessionState}
use Rattle.cxl_session.proofs.Poisons.{endpoint_there, short_fault, count_fault}
use Rattle.cxl_session.proofs.session.Session.poison.Goals as goal

pub returns-in-Ok-clause-tells : goal.returns-in-Ok-clause-tells
returns-in-Ok-clause-tells c =
    IfOk-weaker c.report.result _ _ (λ reply made m stands is.
    let own = made m stands is in
    let at = endpoint_there c.args.self.now m stands c.self.inside.topo c.args.poison.now.endpoint c.in-Some.endpoint (ap (λ (s : SessionState). s.topo) c.self.view_is) c.in-Some.ensures.endpoint in
    let reads = subst (λ (bytes : List ℕ). IsPoisonPayload bytes c.in-Ok.list) c.items.ensures c.in-Ok.ensures.list in
    told c.in-Some.endpoint reply at (listed c.in-Ok.list own.0 reads own.1 own.2) refl) c.report.ensures

pub returns-in-Err-Short-clause-tells : goal.returns-in-Err-Short-clause-tells
returns-in-Err-Short-clause-tells c = λ m stands is.
    let at = endpoint_there c.args.self.now m stands c.self.inside.topo c.args.poison.now.endpoint c.in-Some.endpoint (ap (λ (s : SessionState). s.topo) c.self.view_is) c.in-Some.ensures.endpoint in
    let fault = subst (λ (bytes : List ℕ). IsPoisonFaultOf bytes c.in-Err-Short.field-0) c.items.ensures c.in-Err-Short.ensures.fault in
    told c.in-Some.endpoint replies.PoisonShort at (short (short_fault c.args.poison.now.bytes c.in-Err-Short.field-0 c.in-Err-Short.field-0-is fault) refl) refl

pub returns-in-Err-Count-clause-tells : goal.returns-in-Err-Count-clause-tells
returns-in-Err-Count-clause-tells c = λ m stands is.
    let at = endpoint_there c.args.self.now m stands c.self.inside.topo c.args.poison.now.endpoint c.in-Some.endpoint (ap (λ (s : SessionState). s.topo) c.self.view_is) c.in-Some.ensures.endpoint in
    let fault = subst (λ (bytes : List ℕ). IsPoisonFaultOf bytes c.in-Err-Count.field-0) c.items.ensures c.in-Err-Count.ensures.fault in
    let said : Said = c.in-Err-Count.said in
    told c.in-Some.endpoint _ at (few said (count_fault c.args.poison.now.bytes c.in-Err-Count.field-0 said c.in-Err-Count.field-0-is fault)
    (ap (λ (s : Said). replies.PoisonCount record { said = s.said; room = s.room }) c.in-Err-Count.said-is)) refl

pub returns-in-Ok-clause-outright : goal.returns-in-Ok-clause-outright
returns-in-Ok-clause-outright c = λ m stands is refused.
    let at = endpoint_there c.args.self.now m stands c.self.inside.topo c.args.poison.now.endpoint c.in-Some.endpoint (ap (λ (s : SessionState). s.topo) c.self.view_is) c.in-Some.ensures.endpoint in
    absurd (false≢true (ap is_none (sym at) ∙ refused))

pub returns-in-Err-Memory-clause-outright : goal.returns-in-Err-Memory-clause-outright
returns-in-Err-Memory-clause-outright c = λ m stands is refused.
    let at = endpoint_there c.args.self.now m stands c.self.inside.topo c.args.poison.now.endpoint c.in-Some.endpoint (ap (λ (s : SessionState). s.topo) c.self.view_is) c.in-Some.ensures.endpoint in
    absurd (false≢true (ap is_none (sym at) ∙ refused))
