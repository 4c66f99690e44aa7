use Rattle.std.proofs.Common.{refl}
use Rattle.cxl_machine.specs.Jobs.{finished, undone}
use Rattle.cxl_machine.proofs.KeepingSteps.{step_keeps, abort_keeps, still_pending}
use Rattle.cxl_machine.proofs.keeping.steps_keep_machines.Goals as goal

pub returns-clause-step : goal.returns-clause-step
returns-clause-step c m steps outcome answer left is at stays =
    step_keeps m is answer (λ job pending same. still_pending answer.machine (finished job m) left stays same refl)
    (λ job pending same. still_pending answer.machine (undone job m) left stays same refl) steps outcome at

pub returns-clause-abort : goal.returns-clause-abort
returns-clause-abort c m outcome answer left is at stays =
    abort_keeps m is answer (λ job pending same. still_pending answer.machine (finished job m) left stays same refl)
    (λ job pending same. still_pending answer.machine (undone job m) left stays same refl) outcome at
