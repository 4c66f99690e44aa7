-- What a run of `plan` comes to.
use Rattle.std.proofs.Common.{◌≡◌, ℕ, ◌⊎◌, List, refl, ap, subst, ◌∙◌, inl, inr}
use Rattle.cxl_table.specs.CedtFields.{CedtFields}
use Rattle.cxl_inputs.specs.Ends.{IsWritten}
use Rattle.cxl_inputs.specs.Outcome.{Outcome}
use Rattle.cxl_inputs.specs.ResetHost.{reset_host_of, AreBothRead}
use Rattle.cxl_inputs.specs.declared.status.Status.{Status}
use Rattle.cxl_inputs.specs.declared.status.Status.TheVariants.{Done, Refused}
use Rattle.cxl_io.specs.Sink.{Takes}
use Rattle.cxl_model.specs.System.{System}
use Rattle.cxl_model.specs.declared.plan.Plan as plans
use Rattle.cxl_reply.specs.declared.reply.Reply.{Reply}
use Rattle.cxl_script.specs.declared.command.Create.{Create}
use Rattle.cxl_topo.specs.Tree.{Tree}
use Rattle.cxl_commands.specs.Stopped.{IsStopped}
use Rattle.cxl_commands.specs.Form.{Plan}
use Rattle.cxl_commands.specs.Outside.{Outside}
use Rattle.cxl_request.specs.Plans.{IsPlanFor, IsRefusal, HasPlan, HasNoPlan}
use Rattle.cxl_commands.specs.commands.Plan.{IsPlanned, plan_told, refusal_told, IsPlanText, IsRefusalText}
use Rattle.cxl_commands.specs.declared.form.ResetAsk.TheVariants as asks
use Rattle.cxl_commands.proofs.Pieces.{one_text}
use Rattle.cxl_commands.proofs.Runs.{Came, reset_done, reset_refused}

module _ (old new : Outside) where
  plan_lines : (cedt topo : List ℕ) (create : Create) (table : CedtFields) (tree : Tree) (outcome : Outcome) → AreBothRead old.files.told cedt topo table tree → IsPlanned (reset_host_of table tree) create outcome → IsWritten outcome Done old.out new.out → (text : List ℕ) × IsPlanText old.files.told cedt topo create text × Takes old.out new.out text
  plan_lines cedt topo create table tree outcome of (plan_told plan is e) written =
      (_, record { table = table; tree = tree; plan = plan; read = of; plans = is; lines = refl }, subst (Takes old.out new.out) (one_text outcome Done _ e) written.taken)
  plan_lines cedt topo create table tree outcome of (refusal_told reply is e) written =
      let own = ap (λ o. o.status) e in let done = written.status_is in absurd (cc)

  refusal_lines : (cedt topo : List ℕ) (create : Create) (table : CedtFields) (tree : Tree) (outcome : Outcome) → AreBothRead old.files.told cedt topo table tree → IsPlanned (reset_host_of table tree) create outcome → IsWritten outcome Refused old.out new.out → (text : List ℕ) × IsRefusalText old.files.told cedt topo create text × Takes old.out new.out text
  refusal_lines cedt topo create table tree outcome of (plan_told plan is e) written =
      let own = ap (λ o. o.status) e in let refused = written.status_is in absurd (cc)
  refusal_lines cedt topo create table tree outcome of (refusal_told reply is e) written =
      (_, record { table = table; tree = tree; reply = reply; read = of; refusal = is; lines = refl }, subst (Takes old.out new.out) (one_text outcome Refused _ e) written.taken)

  pub plan_written : (cedt topo : List ℕ) (create : Create) → Came old new (Plan cedt topo create) Done → (text : List ℕ) × IsPlanText old.files.told cedt topo create text × Takes old.out new.out text
  plan_written cedt topo create came =
      let at = reset_done old new cedt topo (asks.Plan create) came in
      plan_lines cedt topo create at.table at.tree at.outcome at.of at.answer at.written

  pub refusal_written : (cedt topo : List ℕ) (create : Create) → Came old new (Plan cedt topo create) Refused → (text : List ℕ) × IsRefusalText old.files.told cedt topo create text × Takes old.out new.out text
  refusal_written cedt topo create came =
      let at = reset_refused old new cedt topo (asks.Plan create) came in
      refusal_lines cedt topo create at.table at.tree at.outcome at.of at.answer at.written

-- what is known of a line: a plan, or a refusal, and not both
pub record LineLaws (s : System) (create : Create) : Type 0 where
  pub plan : (plan : plans.Plan) → IsPlanFor s create plan → HasPlan s create
  pub refusal : (refusal : Reply) → IsRefusal s create refusal → HasNoPlan s create
  pub one : HasPlan s create → HasNoPlan s create → ⊥

-- a line that has a plan, and one that has none
module _ (s : System) (create : Create) (laws : LineLaws s create) (outcome : Outcome) where
  planned_done : HasPlan s create → IsPlanned s create outcome → outcome.status ≡ Done
  planned_done has (plan_told plan is e) = ap (λ o. o.status) e
  planned_done has (refusal_told reply is e) = absurd (laws.one has (laws.refusal reply is))

  unplanned_refused : HasNoPlan s create → IsPlanned s create outcome → outcome.status ≡ Refused
  unplanned_refused none (plan_told plan is e) = absurd (laws.one (laws.plan plan is) none)
  unplanned_refused none (refusal_told reply is e) = ap (λ o. o.status) e

module _ (old new : Outside) (status : Status) (s : System) (create : Create) (laws : LineLaws s create) where
  pub plan_comes : HasPlan s create → ((o : Outcome) × IsPlanned s create o × IsWritten o status old.out new.out) ⊎ IsStopped status old new → (status ≡ Done) ⊎ IsStopped status old new
  plan_comes has (inl some) = let written = some.2 in inl (written.status_is ∙ planned_done s create laws some.0 has some.1)
  plan_comes has (inr stopped) = inr stopped

  pub refusal_comes : HasNoPlan s create → ((o : Outcome) × IsPlanned s create o × IsWritten o status old.out new.out) ⊎ IsStopped status old new → (status ≡ Refused) ⊎ IsStopped status old new
  refusal_comes none (inl some) = let written = some.2 in inl (written.status_is ∙ unplanned_refused s create laws some.0 none some.1)
  refusal_comes none (inr stopped) = inr stopped
