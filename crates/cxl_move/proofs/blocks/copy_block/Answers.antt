use Rattle.std.proofs.Common.{◌≡◌, ◌∙◌, ◌*◌, ◌%◌}
use Rattle.std.specs.FinMap as map
use Rattle.cxl_media.specs.Blocks.{Key, Blocks, key_of, block_at, frames_needed, overwritten}
use Rattle.cxl_move.proofs.Steps.{write_whole, ok_of, not_full, copied}
use Rattle.cxl_move.proofs.blocks.copy_block.Goals as goal

pub returns-clause-carried : goal.returns-clause-carried
returns-clause-carried g c =
    let old : Blocks = (g.M.Media.state c.args.media.now).blocks in
    let new : Blocks = (g.M.Media.state c.put-copied.new.self).blocks in
    let at : Key = key_of c.args.target.ep (256 * c.args.target.block) in
    let put : new ≡ map.insert old at (overwritten (block_at old at) (256 * c.args.target.block % 256) c.block_bytes-bytes.result) =
    ok_of c.put-copied.result _ (not_full (frames_needed old at) _ _ c.put-copied.ensures.full c.requires.room) c.put-copied.ensures.blocks in
    copied old (c.args.source.ep, c.args.source.block) (c.args.target.ep, c.args.target.block) c.requires.there c.requires.absent new c.block_bytes-bytes.result c.block_bytes-bytes.ensures.value
    (put ∙ write_whole old c.args.target.ep c.args.target.block c.block_bytes-bytes.result c.block_bytes-bytes.ensures.whole c.put-copied.ensures.whole)
