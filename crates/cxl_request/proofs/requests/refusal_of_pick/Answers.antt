use Rattle.std.proofs.Common.{rules}
use Rattle.cxl_request.proofs.requests.refusal_of_pick.Goals as goal

pub returns-in-NoSet-clause-refusal : goal.returns-in-NoSet-clause-refusal
returns-in-NoSet-clause-refusal c = search rules
