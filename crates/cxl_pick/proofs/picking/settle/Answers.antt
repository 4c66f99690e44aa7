use Rattle.cxl_pick.proofs.picking.settle.Goals as goal

pub returns-clause-ready : goal.returns-clause-ready
returns-clause-ready c = record {
  system = c.accepted_image_is_system.ensures;
  blocks = λ rule n i low. c.requires.accepted.each rule n i;
}
