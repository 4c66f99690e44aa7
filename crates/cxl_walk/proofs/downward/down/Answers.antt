use Rattle.cxl_model.specs.System.{system_of}
use Rattle.cxl_walk.proofs.Targets.{chain_of}
use Rattle.cxl_walk.proofs.downward.down.Goals as goal

pub returns-clause-chain : goal.returns-clause-chain
returns-clause-chain c =
    chain_of (system_of c.args.image.now c.args.topo.now c.args.windows.now) c.args.h c.lead.result c.lead.ensures.route c.lead.ensures.miss

pub returns-clause-only : goal.returns-clause-only
returns-clause-only c = λ outcome is.
    c.chains_have_one_end.ensures (system_of c.args.image.now c.args.topo.now c.args.windows.now) c.args.h outcome _ c.requires.made is
    (chain_of (system_of c.args.image.now c.args.topo.now c.args.windows.now) c.args.h c.lead.result c.lead.ensures.route c.lead.ensures.miss)
