use Rattle.std.proofs.Common.{ap}
use Rattle.cxl_machine.specs.Machine.{RegionJob}
use Rattle.cxl_machine.proofs.KeepingBegun.{asked_begins, asked_is}
use Rattle.cxl_machine.proofs.keeping.releases_begin_as_machines.Goals as goal

pub returns-clause-idle : goal.returns-clause-idle
returns-clause-idle c m name job asks = (asked_is m name job asks).idle

pub returns-clause-fresh : goal.returns-clause-fresh
returns-clause-fresh c m name job asks = ap (λ (j : RegionJob). j.done) (asked_is m name job asks).made

pub returns-clause-machine : goal.returns-clause-machine
returns-clause-machine c = asked_begins c.release_releases_its_rows.ensures.some
