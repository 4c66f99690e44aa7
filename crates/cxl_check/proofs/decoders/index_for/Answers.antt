use Rattle.cxl_model.specs.Hosts.{as_system}
use Rattle.cxl_check.proofs.Kept.{holder}
use Rattle.cxl_check.proofs.decoders.index_for.Goals as goal

pub index_in-requires : goal.index_in-requires
index_in-requires c =
    holder (as_system c.args.host.now) c.requires c.one_holder.ensures.range c.args.node c.block.result.now c.args.range.now c.block.ensures.value

pub returns : goal.returns
returns c = rw c.block.ensures.value c.index_in.ensures
