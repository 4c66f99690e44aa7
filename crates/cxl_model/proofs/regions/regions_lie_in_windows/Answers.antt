use Rattle.cxl_model.proofs.RegionsInWindows.{window_there, some_bytes, from_window, ends_in_window, lies_low}
use Rattle.cxl_model.proofs.regions.regions_lie_in_windows.Goals as goal

pub returns-clause-there : goal.returns-clause-there
returns-clause-there c = window_there

pub returns-clause-some : goal.returns-clause-some
returns-clause-some c = some_bytes (record { apart = c.ranges_rise.ensures.apart; some = c.ranges_rise.ensures.some })

pub returns-clause-from : goal.returns-clause-from
returns-clause-from c = from_window

pub returns-clause-ends : goal.returns-clause-ends
returns-clause-ends c = ends_in_window

pub returns-clause-low : goal.returns-clause-low
returns-clause-low c = lies_low
