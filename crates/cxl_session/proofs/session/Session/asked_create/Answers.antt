use Rattle.std.proofs.Common.{Result, Ok, Err, Option, refl, sym, ◌∙◌, subst}
use Rattle.cxl_apply.specs.Steps.{HasWordsOf}
use Rattle.cxl_model.specs.declared.plan.Plan.{Plan}
use Rattle.cxl_model.specs.Plans.{IsLegalPlan}
use Rattle.cxl_model.specs.System.{System}
use Rattle.cxl_reply.specs.declared.reply.Reply.{Reply}
use Rattle.cxl_script.specs.declared.command.Command.TheVariants as commands
use Rattle.cxl_machine.specs.Requests.{AsksUnless}
use Rattle.cxl_machine.specs.Sound.{IsSettled}
use Rattle.cxl_session.specs.Inside.{job_fields}
use Rattle.cxl_session.specs.inner.Creating.{IsAskedPlan, IsPrepared}
use Rattle.cxl_session.proofs.AskedCreates.{unrefused, legal_here, create_here, refused_here, sought_unrefused}
use Rattle.cxl_session.proofs.session.Session.asked_create.Goals as goal

pub plan_sought-requires-clause-settled : goal.plan_sought-requires-clause-settled
plan_sought-requires-clause-settled c =
    let (m, stands, is) = c.requires.stands in
    subst IsSettled (sym (unrefused c.args.self.now m stands c.args.create.now (c.in_default.ensures m stands))) is.settled

pub prepared-requires-clause-settled : goal.prepared-requires-clause-settled
prepared-requires-clause-settled c =
    let (m, stands, is) = c.requires.stands in
    subst IsSettled (sym (unrefused c.args.self.now m stands c.args.create.now (c.in_default.ensures m stands)) ∙ sym c.host.ensures) is.settled

pub prepared-requires-clause-legal : goal.prepared-requires-clause-legal
prepared-requires-clause-legal c =
    let (m, stands, is) = c.requires.stands in
    let none = c.in_default.ensures m stands in
    let sought : IsAskedPlan m c.args.create.now (Ok c.in-Ok.plan) =
    subst (λ (a : Result Plan Reply). IsAskedPlan m c.args.create.now a) c.in-Ok.is (c.in_ok-plan.ensures m (sym (unrefused c.args.self.now m stands c.args.create.now none))) in
    let legal = legal_here c.args.self.now m stands c.args.create.now none c.in-Ok.plan sought (c.creates_are_legal.ensures m (commands.Create c.args.create.now) is) in
    (legal.0, subst (λ (s : System). IsLegalPlan s legal.0 c.in-Ok.plan) (sym c.host.ensures) legal.1)

pub returns-in-Some-clause-asked : goal.returns-in-Some-clause-asked
returns-in-Some-clause-asked c = λ m stands is.
    subst (λ (o : Option Reply). AsksUnless m c.args.create.now o (Err c.in-Some.refusal)) (sym (c.in-Some.ensures m stands)) refl

pub returns-in-Err-clause-asked : goal.returns-in-Err-clause-asked
returns-in-Err-clause-asked c = λ m stands is.
    let none = c.in_default.ensures m stands in
    refused_here c.args.self.now m stands c.args.create.now none c.in-Err.refusal
    (subst (λ (a : Result Plan Reply). IsAskedPlan m c.args.create.now a) c.in-Err.is (c.in_ok-plan.ensures m (sym (unrefused c.args.self.now m stands c.args.create.now none))))

pub returns-clause-asked : goal.returns-clause-asked
returns-clause-asked c = λ m stands is.
    let none = c.in_default.ensures m stands in
    let sought : IsAskedPlan m c.args.create.now (Ok c.in-Ok.plan) =
    subst (λ (a : Result Plan Reply). IsAskedPlan m c.args.create.now a) c.in-Ok.is (c.in_ok-plan.ensures m (sym (unrefused c.args.self.now m stands c.args.create.now none))) in
    create_here c.args.self.now m stands c.args.create.now none c.in-Ok.plan sought (c.creates_are_legal.ensures m (commands.Create c.args.create.now) is) (job_fields c.in_ok-pending.pending)
    (subst (λ (s : System). IsPrepared s c.in-Ok.plan (job_fields c.in_ok-pending.pending)) c.host.ensures c.in_ok-pending.ensures.pending)

pub returns-clause-words : goal.returns-clause-words
returns-clause-words c =
    subst (λ (s : System). HasWordsOf s.blocks c.in_ok-pending.pending.job.writes) c.host.ensures c.in_ok-pending.ensures.words

pub returns-in_err-plan-clause-outright : goal.returns-in_err-plan-clause-outright
returns-in_err-plan-clause-outright c = λ m stands is refused. absurd (sought_unrefused m c.args.create.now (c.in_default.ensures m stands) refused)

pub returns-in_err-pending-clause-outright : goal.returns-in_err-pending-clause-outright
returns-in_err-pending-clause-outright c = λ m stands is refused. absurd (sought_unrefused m c.args.create.now (c.in_default.ensures m stands) refused)

pub returns-in-Some-clause-outright : goal.returns-in-Some-clause-outright
returns-in-Some-clause-outright c = λ _ _ _ _. refl
