use Rattle.std.proofs.Common.{◌≡◌, ℕ, List, Option, Some, None, Result, Ok, Err, Vec, Global, arith}
use Rattle.std.specs.Prelude.{IfOk, slice_get}
use Rattle.std.proofs.lemmas.Option.{slice_get_within}
use Rattle.cxl_enc.proofs.Lists.{item}
use Rattle.cxl_window.specs.Fields.{WindowFields}
use Rattle.cxl_model.specs.System.{System, system_of}
use Rattle.cxl_pick.specs.declared.want.Want.{Want}
use Rattle.cxl_pick.specs.Picking.{HasPlanIn, NothingPlans}
use Rattle.cxl_reason.specs.declared.reason.SetReason.{SetReason}
use Rattle.cxl_reason.specs.Reasons.{HasNoPlanIn, IsSetReason}
use Rattle.cxl_reason.specs.inner.Ready.{AreAnswers}
use Rattle.cxl_reason.proofs.answering.reasons.Goals as goal

if_ok : {A E : Type 0} (r : Result A E) (P Q : A → Type 0) → ((x : A) → P x → Q x) → IfOk r P → IfOk r Q
if_ok (Ok x) P Q weaker holds = weaker x holds
if_ok (Err e) P Q weaker holds = holds

all_answered : (s : System) (want : Want) (windows : List WindowFields) (answers : List (Option SetReason)) → AreAnswers s want windows answers → NothingPlans s want → (i : ℕ) → slice_get answers i ≡ Some None → ⊥
all_answered s want windows answers are nothing i at =
    let within = slice_get_within answers i None at in
    let count = are.count in
    let w = item windows i (omega (arith, within, count)) in
    let own = are.each i w.0 None w.1 at in
    nothing w.0 own.0 own.1

-- the answers, and what is made of them
abbrev Told : Type 0
Told = Vec (Option SetReason) Global

pub returns-clause-reason : goal.returns-clause-reason
returns-clause-reason c =
    let s : System = system_of c.args.image.now c.args.topo.now c.args.windows.now in
    let want : Want = c.args.want.now in
    let windows : List WindowFields = c.args.windows.now in
    if_ok c.answers_of-answers.result (λ (told : Told). AreAnswers s want windows told.items)
    (λ (told : Told). (i : ℕ) (w : WindowFields) (reason : SetReason) → slice_get windows i ≡ Some w → slice_get told.items i ≡ Some (Some reason) → IsSetReason s want w reason)
    (λ told are i w reason there at. are.each i w (Some reason) there at) c.answers_of-answers.ensures

pub returns-clause-refused : goal.returns-clause-refused
returns-clause-refused c =
    let s : System = system_of c.args.image.now c.args.topo.now c.args.windows.now in
    let want : Want = c.args.want.now in
    let windows : List WindowFields = c.args.windows.now in
    if_ok c.answers_of-answers.result (λ (told : Told). AreAnswers s want windows told.items)
    (λ (told : Told). (i : ℕ) (w : WindowFields) (reason : SetReason) → slice_get windows i ≡ Some w → slice_get told.items i ≡ Some (Some reason) → HasNoPlanIn s want w)
    (λ told are i w reason there at. c.reasons_hold_of_all_sets.ensures.none s want w reason c.settle.ensures.asked (are.each i w (Some reason) there at).holds) c.answers_of-answers.ensures

pub returns-clause-none : goal.returns-clause-none
returns-clause-none c =
    let s : System = system_of c.args.image.now c.args.topo.now c.args.windows.now in
    let want : Want = c.args.want.now in
    let windows : List WindowFields = c.args.windows.now in
    if_ok c.answers_of-answers.result (λ (told : Told). AreAnswers s want windows told.items)
    (λ (told : Told). (i : ℕ) (w : WindowFields) → slice_get windows i ≡ Some w → slice_get told.items i ≡ Some None → (set : List ℕ) × HasPlanIn s want w set)
    (λ told are i w there at. are.each i w None there at) c.answers_of-answers.ensures

pub returns-clause-all : goal.returns-clause-all
returns-clause-all c =
    let s : System = system_of c.args.image.now c.args.topo.now c.args.windows.now in
    let want : Want = c.args.want.now in
    let windows : List WindowFields = c.args.windows.now in
    if_ok c.answers_of-answers.result (λ (told : Told). AreAnswers s want windows told.items)
    (λ (told : Told). NothingPlans s want → (i : ℕ) → slice_get told.items i ≡ Some None → ⊥)
    (λ told are. all_answered s want windows told.items are) c.answers_of-answers.ensures
