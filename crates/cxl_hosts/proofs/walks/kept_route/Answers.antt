use Rattle.std.proofs.Common.{List, All, sym, subst}
use Rattle.cxl_window.specs.Fields.{WindowFields}
use Rattle.cxl_model.specs.declared.found.Found.{Found}
use Rattle.cxl_model.specs.System.{system_of}
use Rattle.cxl_model.specs.Regions.{IsRegion}
use Rattle.cxl_hosts.proofs.walks.kept_route.Goals as goal

pub kept_in-requires-clause-regions : goal.kept_in-requires-clause-regions
kept_in-requires-clause-regions c =
    subst (λ (ws : List WindowFields). All (IsRegion (system_of c.args.host.now.image c.args.host.now.topo ws)) c.deref-in-Ok.result.now) c.deref.ensures.value
    (subst (λ (xs : List Found). All (IsRegion (system_of c.args.host.now.image c.args.host.now.topo c.deref.result.now)) xs) (sym c.deref-in-Ok.ensures.value) c.in-Ok.ensures.regions.listed.each)
