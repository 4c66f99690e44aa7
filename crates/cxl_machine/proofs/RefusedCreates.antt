-- Why a create is refused.
use Rattle.std.proofs.Common.{◌≡◌, ◌⊎◌, ℕ, Result, Ok, Err, Option, Some, None, refl, sym, ◌∙◌, subst, inl, inr}
use Rattle.std.proofs.lemmas.Option.{none-some, same_Some}
use Rattle.cxl_script.specs.Grammar.{StatesGranCode}
use Rattle.cxl_script.specs.declared.command.Create.{Create}
use Rattle.cxl_model.specs.declared.plan.Plan.{Plan}
use Rattle.cxl_model.specs.Accepted.{IsAccepted}
use Rattle.cxl_model.specs.System.{System, IsSystem}
use Rattle.cxl_legal.specs.Used.{HasBytePorts}
use Rattle.cxl_reply.specs.declared.reply.Reply.{Reply}
use Rattle.cxl_reply.specs.declared.reply.Reply.TheVariants as replies
use Rattle.cxl_request.specs.Endpoints.{first_unknown}
use Rattle.cxl_request.specs.Plans.{HasNoPlanOver, TellsNoPick, IsRefusal, unknown, faulty, not_picked}
use Rattle.cxl_request.specs.Requests.{request_by_name, want_of, AsksForPlan}
use Rattle.cxl_machine.specs.Machine.{RegionJob, Machine}
use Rattle.cxl_machine.specs.Jobs.{create_job}
use Rattle.cxl_machine.specs.Requests.{busy, name_taken, no_endpoint, regions_full, AsksCreate, AsksUnless, job_of_plan, refusal_of_create}
use Rattle.cxl_machine.specs.Creating.{IsRefusedPlan}
use Rattle.cxl_machine.specs.Sound.{IsMachine}
use Rattle.cxl_machine.proofs.KeepingBegun.{none_there, none_of_map}

-- what is known of the refusal of a line
abbrev pub RefusalLaw : Type 0
RefusalLaw = (s : System) (create : Create) (refusal : Reply) → IsSystem s → HasBytePorts s.nodes → IsAccepted s → (create.ways ≡ None) ⊎ StatesGranCode create → AsksForPlan s create (Err refusal) → IsRefusal s create refusal

same_refusal : (reply other : Reply) → ◌≡◌ {A = Result RegionJob Reply} (Err reply) (Err other) → reply ≡ other
same_refusal reply other e = cc

not_asked : (job : RegionJob) (refusal : Reply) → ◌≡◌ {A = Result RegionJob Reply} (Err refusal) (Ok job) → ⊥
not_asked job refusal e = cc

module _ (m : Machine) (create : Create) (refusal : Reply) (free : refusal_of_create m create ≡ None) (asks : AsksCreate m create (Err refusal)) where
  of_answer : (answer : Result Plan Reply) → AsksForPlan m.settled create answer → Err refusal ≡ job_of_plan m answer → AsksForPlan m.settled create (Err refusal)
  of_answer (Ok plan) is made = absurd (not_asked (create_job m.settled plan) refusal made)
  of_answer (Err own) is made = subst (λ (r : Reply). AsksForPlan m.settled create (Err r)) (sym (same_refusal refusal own made)) is

  pub answered : AsksForPlan m.settled create (Err refusal)
  answered =
      let unrefused = subst (λ (o : Option Reply). AsksUnless m create o (Err refusal)) free asks in
      of_answer unrefused.0 unrefused.1 unrefused.2

  all_known : first_unknown m.settled.nodes create.endpoints ≡ None
  all_known =
      let parts = none_there (busy m) (name_taken m create.name) (no_endpoint m create.endpoints) (regions_full m) free in
      none_of_map replies.NoEndpoint (first_unknown m.settled.nodes create.endpoints) parts.2

  module _ (law : RefusalLaw) (is : IsMachine m) where
    pub cause : (create.ways ≡ None) ⊎ StatesGranCode create → IsRefusal m.settled create refusal
    cause codes = law m.settled create refusal is.settled.system is.settled.ports is.settled.accepted codes answered

    of_named : create.ways ≡ None → (told : Reply) → IsRefusal m.settled create told → IsRefusedPlan m (request_by_name m.settled.nodes create) told
    of_named line told (unknown name names at) = absurd (none-some name (sym all_known ∙ at))
    of_named line told (faulty fault names all none first) = record { fault = fault; told = refl; first = first; none = none }
    of_named line told (not_picked ways reply states none why) = absurd (none-some ways (sym line ∙ states))

    pub named_refused : create.ways ≡ None → IsRefusedPlan m (request_by_name m.settled.nodes create) refusal
    named_refused line = of_named line refusal (cause (inl line))

    of_picked : (ways : ℕ) → create.ways ≡ Some ways → (told : Reply) → IsRefusal m.settled create told → HasNoPlanOver m.settled create ways × TellsNoPick (want_of create ways) told
    of_picked ways states told (unknown name line at) = absurd (none-some ways (sym line ∙ states))
    of_picked ways states told (faulty fault line all none first) = absurd (none-some ways (sym line ∙ states))
    of_picked ways states told (not_picked other reply also none why) =
        subst (λ (k : ℕ). HasNoPlanOver m.settled create k × TellsNoPick (want_of create k) told) (same_Some other ways (sym also ∙ states)) (none, why)

    pub picked_refused : (ways : ℕ) → create.ways ≡ Some ways → StatesGranCode create → HasNoPlanOver m.settled create ways × TellsNoPick (want_of create ways) refusal
    picked_refused ways states code = of_picked ways states refusal (cause (inr code))
