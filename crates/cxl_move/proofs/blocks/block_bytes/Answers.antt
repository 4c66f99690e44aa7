use Rattle.std.proofs.Common.{refl}
use Rattle.cxl_move.proofs.Steps.{read_whole}
use Rattle.cxl_move.proofs.blocks.block_bytes.Goals as goal

pub returns-clause-value : goal.returns-clause-value
returns-clause-value g c =
    read_whole (g.M.Media.state c.args.media.now).blocks c.args.at.ep c.args.at.block 256 c.get.new.into refl c.get.ensures.whole c.get.ensures.filled
