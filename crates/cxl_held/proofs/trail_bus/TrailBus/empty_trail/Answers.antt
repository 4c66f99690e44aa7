use Rattle.std.proofs.Common.{rules}
use Rattle.cxl_held.proofs.trail_bus.TrailBus.empty_trail.Goals as goal

pub returns : goal.returns
returns c = search rules
