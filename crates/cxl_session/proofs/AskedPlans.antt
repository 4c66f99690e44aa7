-- What a line is answered over the session's image is what its create asks for.
use Rattle.std.proofs.Common.{◌≡◌, Result, Ok, Err, refl, subst}
use Rattle.std.specs.Prelude.{IfOk}
use Rattle.cxl_script.specs.declared.command.Create.{Create}
use Rattle.cxl_model.specs.System.{System}
use Rattle.cxl_model.specs.declared.plan.Plan.{Plan}
use Rattle.cxl_reply.specs.declared.reply.Reply.{Reply}
use Rattle.cxl_request.specs.Requests.{AsksForPlan}
use Rattle.cxl_machine.specs.Machine.{Machine}
use Rattle.cxl_session.specs.inner.Creating.{IsAskedPlan}

pub sought : (m : Machine) (create : Create) (s : System) → s ≡ m.settled → (answer : Result Plan Reply) → AsksForPlan s create answer → IsAskedPlan m create answer
sought m create s same (Ok plan) asks = (Ok plan, subst (λ (t : System). AsksForPlan t create (Ok plan)) same asks, refl)
sought m create s same (Err refusal) asks = (Err refusal, subst (λ (t : System). AsksForPlan t create (Err refusal)) same asks, refl)

pub if_ok-map : {T E : Type 0} (P Q : T → Type 0) → ((x : T) → P x → Q x) → (result : Result T E) → IfOk result P → IfOk result Q
if_ok-map P Q more (Ok x) is = more x is
if_ok-map P Q more (Err e) is = is
