use Rattle.std.proofs.Common.{refl, Ok, Err}
use Rattle.cxl_plan.proofs.room.refusal.Goals as goal

pub returns-in-Ok-clause-none : goal.returns-in-Ok-clause-none
returns-in-Ok-clause-none c endpoint = (c.in-Ok.field-0, (c.in-Ok.ensures (Ok c.in-Ok.field-0)).0 refl)

pub returns-in-Err-clause-refused : goal.returns-in-Err-clause-refused
returns-in-Err-clause-refused c = (c.in-Err.ensures (Err c.in-Err.fault)).0 refl
