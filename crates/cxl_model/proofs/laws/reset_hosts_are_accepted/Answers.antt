use Rattle.cxl_model.proofs.Resetting.{reset-accepted}
use Rattle.cxl_model.proofs.laws.reset_hosts_are_accepted.Goals as goal

pub returns : goal.returns
returns c = λ tree windows system. reset-accepted tree windows (λ n i. c.hosts_with_caps_are_systems.ensures.caps _ n i system)
