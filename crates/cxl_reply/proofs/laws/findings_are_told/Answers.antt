use Rattle.cxl_reply.proofs.FindingsNamed.{found_told, breach_within}
use Rattle.cxl_reply.proofs.laws.findings_are_told.Goals as goal

pub returns-clause-regions : goal.returns-clause-regions
returns-clause-regions c = λ s found system region.
    let weave = c.weaves_fill_their_regions.ensures.kept s region.0 found system region.1 in
    found_told s found weave.gran_known (λ slot place at. c.slots_are_endpoints.ensures.endpoint s region.0 found slot place system region.1 at)

pub returns-clause-breaches : goal.returns-clause-breaches
returns-clause-breaches c = λ s rule n i system broken. breach_within s rule n i system (c.hosts_with_caps_are_systems.ensures.caps s n i system) broken
