use Rattle.std.proofs.Common.{◌≡◌, ◌+◌, ◌∙◌, ◌*◌, ◌%◌, ap, arith}
use Rattle.std.specs.FinMap as map
use Rattle.cxl_media.specs.Blocks.{Key, Blocks, key_of, block_at, frames_needed, overwritten}
use Rattle.cxl_media.specs.MediaState.{MediaState}
use Rattle.cxl_move.proofs.Steps.{own_key, write_whole, ok_of, not_full, needs_one, moved, some_free, still_absent}
use Rattle.cxl_move.proofs.blocks.move_block.Goals as goal

pub returns-clause-carried : goal.returns-clause-carried
returns-clause-carried g c =
    let before : MediaState = g.M.Media.state c.args.media.now in
    let between : MediaState = g.M.Media.state c.scrub.new.self in
    let new : Blocks = (g.M.Media.state c.put-put.new.self).blocks in
    let source : Key = (c.args.source.ep, c.args.source.block) in
    let target : Key = (c.args.target.ep, c.args.target.block) in
    let at : Key = key_of c.args.target.ep (256 * c.args.target.block) in
    let free = some_free before.blocks source target c.requires.there c.requires.absent between.blocks before.free between.free c.scrub.ensures.blocks c.scrub.ensures.frames in
    let put : new ≡ map.insert between.blocks at (overwritten (block_at between.blocks at) (256 * c.args.target.block % 256) c.block_bytes-bytes.result) =
    ok_of c.put-put.result _ (not_full (frames_needed between.blocks at) between.free _ c.put-put.ensures.full (omega (arith, free))) c.put-put.ensures.blocks in
    moved before.blocks source target c.requires.there c.requires.absent between.blocks new c.block_bytes-bytes.result c.block_bytes-bytes.ensures.value c.scrub.ensures.blocks
    (put ∙ write_whole between.blocks c.args.target.ep c.args.target.block c.block_bytes-bytes.result c.block_bytes-bytes.ensures.whole c.put-put.ensures.whole)

pub returns-clause-free : goal.returns-clause-free
returns-clause-free g c =
    let before : MediaState = g.M.Media.state c.args.media.now in
    let between : MediaState = g.M.Media.state c.scrub.new.self in
    let after : MediaState = g.M.Media.state c.put-put.new.self in
    let source : Key = (c.args.source.ep, c.args.source.block) in
    let target : Key = (c.args.target.ep, c.args.target.block) in
    let at : Key = key_of c.args.target.ep (256 * c.args.target.block) in
    let free = some_free before.blocks source target c.requires.there c.requires.absent between.blocks before.free between.free c.scrub.ensures.blocks c.scrub.ensures.frames in
    let taken : after.free + frames_needed between.blocks at ≡ between.free =
    ok_of c.put-put.result _ (not_full (frames_needed between.blocks at) between.free _ c.put-put.ensures.full (omega (arith, free))) c.put-put.ensures.free in
    let one : frames_needed between.blocks at ≡ 1 =
    ap (frames_needed between.blocks) (own_key c.args.target.ep c.args.target.block)
    ∙ needs_one between.blocks target (still_absent before.blocks source target c.requires.there c.requires.absent between.blocks c.scrub.ensures.blocks) in
    omega (arith, free, taken, one)
