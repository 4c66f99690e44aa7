use Rattle.std.proofs.Common.{◌≤◌, length, subst}
use Rattle.cxl_table.specs.Fields.{CfmwsFields}
use Rattle.cxl_enc.proofs.Ways.{ways_few}
use Rattle.cxl_table.proofs.cfmws.Cfmws.targets.Goals as goal

pub returns-clause-few : goal.returns-clause-few
returns-clause-few c = subst (λ (window : CfmwsFields). length window.targets ≤ 16) c.self.view_is (ways_few c.self.inside.ways (length c.self.inside.targets) c.self.invariant.ways_known)
