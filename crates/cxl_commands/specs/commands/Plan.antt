-- What `plan` comes to.
use Rattle.std.specs.Prelude.{◌≡◌, ℕ, List}
use Rattle.cxl_table.specs.CedtFields.{CedtFields}
use Rattle.cxl_inputs.specs.Outcome.{Outcome, one_piece}
use Rattle.cxl_inputs.specs.ResetHost.{reset_host_of, AreBothRead}
use Rattle.cxl_inputs.specs.declared.status.Status.TheVariants.{Done, Refused}
use Rattle.cxl_io.specs.Told.{Told}
use Rattle.cxl_model.specs.System.{System}
use Rattle.cxl_model.specs.declared.plan.Plan.{Plan}
use Rattle.cxl_reply.specs.Plans.{plan_text}
use Rattle.cxl_reply.specs.Replies.{reply_text}
use Rattle.cxl_reply.specs.declared.reply.Reply.{Reply}
use Rattle.cxl_request.specs.Plans.{IsPlanFor, IsRefusal}
use Rattle.cxl_script.specs.declared.command.Create.{Create}
use Rattle.cxl_topo.specs.Tree.{Tree}
use Rattle.cxl_topo.specs.declared.node.Node.{Node}

-- ---- what it comes to

-- the lines of the plan, and a good status
abbrev pub plan_outcome : List Node → Plan → Outcome
plan_outcome nodes plan = one_piece Done (plan_text nodes plan)

-- the line of the reply, and the status of a refusal
abbrev pub refusal_outcome : List Node → Reply → Outcome
refusal_outcome nodes reply = one_piece Refused (reply_text nodes reply)

-- the plan is told, or why there is none
pub data IsPlanned (s : System) (create : Create) (outcome : Outcome) : Type 0 where
  plan_told : (plan : Plan) → IsPlanFor s create plan → outcome ≡ plan_outcome s.nodes plan → IsPlanned s create outcome
  refusal_told : (reply : Reply) → IsRefusal s create reply → outcome ≡ refusal_outcome s.nodes reply → IsPlanned s create outcome

-- ---- over files

-- the files are a table and a topology, and the text is the lines of a plan over their host after reset
pub record IsPlanText (told : List ℕ → Told) (cedt topo : List ℕ) (create : Create) (text : List ℕ) : Type 0 where
  pub table : CedtFields
  pub tree : Tree
  pub plan : Plan
  pub read : AreBothRead told cedt topo table tree
  pub plans : IsPlanFor (reset_host_of table tree) create plan
  pub lines : text ≡ plan_text tree.nodes plan

-- the files are a table and a topology, and the text says why there is no plan over their host after reset
pub record IsRefusalText (told : List ℕ → Told) (cedt topo : List ℕ) (create : Create) (text : List ℕ) : Type 0 where
  pub table : CedtFields
  pub tree : Tree
  pub reply : Reply
  pub read : AreBothRead told cedt topo table tree
  pub refusal : IsRefusal (reset_host_of table tree) create reply
  pub lines : text ≡ reply_text tree.nodes reply
