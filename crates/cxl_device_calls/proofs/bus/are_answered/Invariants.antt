use Rattle.cxl_regs.specs.Blocks.{HasPlacesOf}
use Rattle.cxl_device_calls.proofs.bus.are_answered.Given as goal

abbrev pub invariant-loop-call : goal.invariant-loop-call
invariant-loop-call g l = HasPlacesOf l.blocks l.bus.blocks
