-- Which calls of the bus fail in a command, and in several turns.
use Rattle.std.proofs.Common.{◌≡◌, ℕ, ◌+◌, List, [], ◌∷◌, ◌++◌, length, Result, Ok, Err, refl, sym, ap, ◌∙◌, append_assoc, length-append}
use Rattle.cxl_bus.specs.declared.sent.Sent.{Sent}
use Rattle.cxl_bus.specs.Failed.{behind}
use Rattle.cxl_bus.proofs.Failed.{behind_none, behind_both}
use Rattle.cxl_script.specs.declared.command.Command.{Command}
use Rattle.cxl_script.specs.declared.command.Command.TheVariants as commands
use Rattle.cxl_reply.specs.declared.reply.Reply.{Reply}
use Rattle.cxl_machine.specs.Machine.{RegionJob, Machine}
use Rattle.cxl_machine.specs.Fails.{FailsWhole, FailsAsked, FailsLast, FailsOf}
use Rattle.cxl_machine.specs.Outcomes.{BusOutcome, NoFault, Undone, LeftPending, ReadFailed, faults_of_whole, faults_of_part, faults_of}
use Rattle.cxl_machine.specs.Requests.{asked_release}
use Rattle.cxl_machine.specs.Scripts.{Turn}
use Rattle.cxl_machine.specs.Trails.{TrailOf}
use Rattle.cxl_machine.specs.Turns.{words_sent, failed_in}

-- ---- without a fault

asked_fails : (asked : Result RegionJob Reply) (trail : List Sent) → FailsAsked asked NoFault trail []
asked_fails (Ok job) trail = refl
asked_fails (Err refusal) trail = (refl, refl)

-- no call fails
pub no_call_fails : (m : Machine) (command : Command) (trail : List Sent) → TrailOf m command NoFault trail → FailsOf m command NoFault trail []
no_call_fails m (commands.Create create) trail (asked, asks, sends) = (asked, asks, asked_fails asked trail)
no_call_fails m (commands.Destroy name) trail sends = asked_fails (asked_release m name) trail
no_call_fails m other trail sends = refl

-- ---- back to how the bus let a command go

none_asked : (asked : Result RegionJob Reply) (trail : List Sent) (failed : List ℕ) → FailsAsked asked NoFault trail failed → failed ≡ []
none_asked (Ok job) trail failed is = is
none_asked (Err refusal) trail failed is = is.1

pub none_failed : (m : Machine) (command : Command) (trail : List Sent) (failed : List ℕ) → FailsOf m command NoFault trail failed → failed ≡ []
none_failed m (commands.Create create) trail failed (asked, asks, is) = none_asked asked trail failed is
none_failed m (commands.Destroy name) trail failed is = none_asked (asked_release m name) trail failed is
none_failed m other trail failed is = is

some_failed : (place : ℕ) (places failed : List ℕ) → failed ≡ place ∷ places → failed ≡ [] → ⊥
some_failed place places failed some none = cc

without_whole : (job : RegionJob) (outcome : BusOutcome) (trail : List Sent) (failed : List ℕ) → FailsWhole job outcome trail failed → failed ≡ [] → outcome ≡ NoFault
without_whole job NoFault trail failed is none = refl
without_whole job Undone trail failed (back, is) none = absurd (some_failed back.turn [] failed is none)
without_whole job (LeftPending done) trail failed (back, is) none = absurd (some_failed back.turn (length trail ∷ []) failed is none)
without_whole job ReadFailed trail failed is none = absurd is

without_asked : (asked : Result RegionJob Reply) (outcome : BusOutcome) (trail : List Sent) (failed : List ℕ) → FailsAsked asked outcome trail failed → failed ≡ [] → outcome ≡ NoFault
without_asked (Ok job) outcome trail failed is none = without_whole job outcome trail failed is none
without_asked (Err refusal) outcome trail failed is none = is.0

without_last : (outcome : BusOutcome) (trail : List Sent) (failed : List ℕ) → FailsLast outcome trail failed → failed ≡ [] → outcome ≡ NoFault
without_last NoFault trail failed is none = refl
without_last Undone trail failed is none = absurd is
without_last (LeftPending done) trail failed is none = absurd (some_failed (length trail) [] failed is none)
without_last ReadFailed trail failed is none = absurd (some_failed (length trail) [] failed is none)

-- where none failed, the bus met no fault
pub without_fault : (m : Machine) (command : Command) (outcome : BusOutcome) (trail : List Sent) (failed : List ℕ) → FailsOf m command outcome trail failed → failed ≡ [] → outcome ≡ NoFault
without_fault m (commands.Create create) outcome trail failed (asked, asks, is) none = without_asked asked outcome trail failed is none
without_fault m (commands.Destroy name) outcome trail failed is none = without_asked (asked_release m name) outcome trail failed is none
without_fault m other outcome trail failed is none = without_last outcome trail failed is none

-- ---- how many

number_whole : (job : RegionJob) (outcome : BusOutcome) (trail : List Sent) (failed : List ℕ) → FailsWhole job outcome trail failed → length failed ≡ faults_of_whole outcome
number_whole job NoFault trail failed is = ap (λ (places : List ℕ). length places) is
number_whole job Undone trail failed (back, is) = ap (λ (places : List ℕ). length places) is
number_whole job (LeftPending done) trail failed (back, is) = ap (λ (places : List ℕ). length places) is
number_whole job ReadFailed trail failed is = absurd is

number_asked : (asked : Result RegionJob Reply) (outcome : BusOutcome) (trail : List Sent) (failed : List ℕ) → FailsAsked asked outcome trail failed → length failed ≡ faults_of_whole outcome
number_asked (Ok job) outcome trail failed is = number_whole job outcome trail failed is
number_asked (Err refusal) outcome trail failed is = ap (λ (places : List ℕ). length places) is.1 ∙ sym (ap faults_of_whole is.0)

number_last : (outcome : BusOutcome) (trail : List Sent) (failed : List ℕ) → FailsLast outcome trail failed → length failed ≡ faults_of_part outcome
number_last NoFault trail failed is = ap (λ (places : List ℕ). length places) is
number_last Undone trail failed is = absurd is
number_last (LeftPending done) trail failed is = ap (λ (places : List ℕ). length places) is
number_last ReadFailed trail failed is = ap (λ (places : List ℕ). length places) is

pub numbered : (m : Machine) (command : Command) (outcome : BusOutcome) (trail : List Sent) (failed : List ℕ) → FailsOf m command outcome trail failed → length failed ≡ faults_of command outcome
numbered m (commands.Create create) outcome trail failed (asked, asks, is) = number_asked asked outcome trail failed is
numbered m (commands.Destroy name) outcome trail failed is = number_asked (asked_release m name) outcome trail failed is
numbered m other outcome trail failed is = number_last outcome trail failed is

-- ---- several turns

pub failed_both : (turns others : List Turn) → failed_in (turns ++ others) ≡ failed_in turns ++ behind (length (words_sent turns)) (failed_in others)
failed_both [] others = sym (behind_none (failed_in others))
failed_both (turn ∷ turns) others =
    let k : ℕ = length turn.trail in
    ap (λ (rest : List ℕ). turn.failed ++ behind k rest) (failed_both turns others)
    ∙ ap (λ (rest : List ℕ). turn.failed ++ rest) (behind_both k (length (words_sent turns)) (failed_in turns) (failed_in others))
    ∙ sym (append_assoc turn.failed (behind k (failed_in turns)) (behind (k + length (words_sent turns)) (failed_in others)))
    ∙ ap (λ (n : ℕ). (turn.failed ++ behind k (failed_in turns)) ++ behind n (failed_in others)) (sym (length-append turn.trail (words_sent turns)))
