-- What a create line comes to, from what it is answered.
use Rattle.std.proofs.Common.{◌≡◌, ℕ, Some, List, [], ◌∷◌, Result, Ok, Err, IfOk, subst}
use Rattle.cxl_table.specs.CedtFields.{CedtFields}
use Rattle.cxl_enc.specs.declared.faults.Memory.{Memory}
use Rattle.cxl_image.specs.Images.{reset_blocks}
use Rattle.cxl_inputs.specs.Outcome.{Outcome}
use Rattle.cxl_inputs.specs.ResetHost.{AreBothRead, by_reset_host}
use Rattle.cxl_io.specs.Fetch.{FetchState, AsksFor}
use Rattle.cxl_model.specs.System.{System, system_of, bridge_uids}
use Rattle.cxl_model.specs.declared.plan.Plan.{Plan}
use Rattle.cxl_regs.specs.Registers.{Registers}
use Rattle.cxl_reply.specs.declared.reply.Reply.{Reply}
use Rattle.cxl_request.specs.Plans.{IsPlanFor, IsRefusal}
use Rattle.cxl_script.specs.declared.command.Create.{Create}
use Rattle.cxl_topo.specs.Tree.{Tree}
use Rattle.cxl_window.specs.Fields.{WindowFields}
use Rattle.cxl_window.specs.Windows.{windows_of}
use Rattle.cxl_commands.specs.Answers.{IsOutcomeByFiles}
use Rattle.cxl_commands.specs.Form as forms
use Rattle.cxl_commands.specs.commands.Plan.{plan_outcome, refusal_outcome, IsPlanned, plan_told, refusal_told}

module _ (s : System) (create : Create) where
  -- what is made of a plan, and of a refusal
  pub plan_made : (plan : Plan) → IsPlanFor s create plan → (made : Result Outcome Memory) → IfOk made (λ o. o ≡ plan_outcome s.nodes plan) → IfOk made (IsPlanned s create)
  plan_made plan is (Ok o) e = plan_told plan is e
  plan_made plan is (Err none) e = tt

  pub refusal_made : (refusal : Reply) → IsRefusal s create refusal → (made : Result Outcome Memory) → IfOk made (λ o. o ≡ refusal_outcome s.nodes refusal) → IfOk made (IsPlanned s create)
  refusal_made refusal is (Ok o) e = refusal_told refusal is e
  refusal_made refusal is (Err none) e = tt

-- a plan over the files' host after reset
pub plan-comes : (cedt topo : List ℕ) (create : Create) (old new : FetchState) (table : CedtFields) (tree : Tree) (blocks : List Registers) (windows : List WindowFields) (outcome : Outcome) → AreBothRead old.told cedt topo table tree → windows ≡ windows_of table.records (Some (bridge_uids tree.nodes)) → blocks ≡ reset_blocks tree.nodes → AsksFor old new (cedt ∷ topo ∷ []) → IsPlanned (system_of blocks tree windows) create outcome → IsOutcomeByFiles (forms.Plan cedt topo create) old new outcome
plan-comes cedt topo create old new table tree blocks windows outcome of made reset asks is =
    by_reset_host table tree of (
      asks,
      subst (λ ws. IsPlanned (system_of (reset_blocks tree.nodes) tree ws) create outcome) made
          (subst (λ bs. IsPlanned (system_of bs tree windows) create outcome) reset is),
    )
