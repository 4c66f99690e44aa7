use Rattle.cxl_machine.proofs.LegalCreates.{plan_for_job}
use Rattle.cxl_machine.proofs.keeping.asked_creates_have_their_plans.Goals as goal

pub returns : goal.returns
returns c m create job is codes asks = plan_for_job c.answers_hold_of_lines.ensures.plan m is create job codes asks
