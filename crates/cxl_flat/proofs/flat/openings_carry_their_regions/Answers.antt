use Rattle.cxl_flat.proofs.flat.openings_carry_their_regions.Goals as goal

pub returns : goal.returns
returns c = λ start frames m system ports some most opens.
    let is = c.openings_are_machines.ensures start frames m system ports some most opens in
    (is, c.machines_carry_their_regions.ensures m is)
