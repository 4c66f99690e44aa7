use Rattle.std.proofs.Common.{ℕ, ◌<◌, List, length, get_or, take, refl, sym, subst, ◌∙◌, arith}
use Rattle.std.proofs.lemmas.List.{take_more}
use Rattle.cxl_window.specs.Fields.{WindowFields}
use Rattle.cxl_media.specs.Blocks.{Key, Blocks}
use Rattle.cxl_media.specs.MediaState.{MediaState}
use Rattle.cxl_model.specs.declared.found.Found.{Found}
use Rattle.cxl_move.proofs.Told.{PieceLaws}
use Rattle.cxl_move.proofs.CarryingOn.{AreCarried, carried_none, carried_more, carried_all, fresh_at, first_within, still_there, target_free, freed_pieces}
use Rattle.cxl_move.proofs.copying.copy_bytes.Goals as goal

pub loop-n-init : goal.loop-n-init
loop-n-init g c =
    let from : Found = c.args.from.now.found.now in
    let v : WindowFields = c.args.from.now.window.now in
    let to : Found = c.args.to.now.found.now in
    let w : WindowFields = c.args.to.now.window.now in
    let sides = c.requires.sides in
    let pieces : List ℕ = c.args.pieces.now in
    let old : Blocks = (g.M.Media.state c.args.media.now).blocks in
    let laws : PieceLaws = record {
      each = c.pieces_are_carried_to_blocks.ensures.each;
      within = c.pieces_are_carried_to_blocks.ensures.within;
      one = c.pieces_are_carried_to_blocks.ensures.one;
      apart = c.pieces_are_carried_to_blocks.ensures.apart;
      inside = c.pieces_are_carried_to_blocks.ensures.inside;
      onto = c.pieces_are_carried_to_blocks.ensures.onto;
    } in
    record {
      carried = carried_none laws (λ piece. piece) from v to w sides old (g.M.Media.state c.scrub_region.new.media).blocks c.scrub_region.ensures.cleared;
      frames = c.scrub_region.ensures.frames;
      free = omega arith;
    }

pub block_of-source-requires-clause-within : goal.block_of-source-requires-clause-within
block_of-source-requires-clause-within g c =
    let from : Found = c.args.from.now.found.now in
    let v : WindowFields = c.args.from.now.window.now in
    let to : Found = c.args.to.now.found.now in
    let w : WindowFields = c.args.to.now.window.now in
    let sides = c.requires.sides in
    let pieces : List ℕ = c.args.pieces.now in
    let old : Blocks = (g.M.Media.state c.args.media.now).blocks in
    let laws : PieceLaws = record {
      each = c.pieces_are_carried_to_blocks.ensures.each;
      within = c.pieces_are_carried_to_blocks.ensures.within;
      one = c.pieces_are_carried_to_blocks.ensures.one;
      apart = c.pieces_are_carried_to_blocks.ensures.apart;
      inside = c.pieces_are_carried_to_blocks.ensures.inside;
      onto = c.pieces_are_carried_to_blocks.ensures.onto;
    } in
    let i : ℕ = c.loop-n.n-index in
    let n : ℕ = get_or pieces i 0 in
    let mid : Blocks = (g.M.Media.state c.loop-n.media).blocks in
    let before = c.loop-n.invariant.carried in
    let within : i < length pieces = c.loop-n-test.true in
    first_within laws (λ piece. piece) from v to w sides pieces i n old mid c.requires.held before within refl

pub copy_block-requires-clause-there : goal.copy_block-requires-clause-there
copy_block-requires-clause-there g c =
    let from : Found = c.args.from.now.found.now in
    let v : WindowFields = c.args.from.now.window.now in
    let to : Found = c.args.to.now.found.now in
    let w : WindowFields = c.args.to.now.window.now in
    let sides = c.requires.sides in
    let pieces : List ℕ = c.args.pieces.now in
    let old : Blocks = (g.M.Media.state c.args.media.now).blocks in
    let laws : PieceLaws = record {
      each = c.pieces_are_carried_to_blocks.ensures.each;
      within = c.pieces_are_carried_to_blocks.ensures.within;
      one = c.pieces_are_carried_to_blocks.ensures.one;
      apart = c.pieces_are_carried_to_blocks.ensures.apart;
      inside = c.pieces_are_carried_to_blocks.ensures.inside;
      onto = c.pieces_are_carried_to_blocks.ensures.onto;
    } in
    let i : ℕ = c.loop-n.n-index in
    let n : ℕ = get_or pieces i 0 in
    let mid : Blocks = (g.M.Media.state c.loop-n.media).blocks in
    let before = c.loop-n.invariant.carried in
    let within : i < length pieces = c.loop-n-test.true in
    let source : Key = (c.block_of-source.result.ep, c.block_of-source.result.block) in
    let target : Key = (c.block_of-target.result.ep, c.block_of-target.result.block) in
    still_there laws (λ piece. piece) from v to w sides pieces i n old mid c.requires.held before within refl source target c.block_of-source.ensures.at c.block_of-target.ensures.at

pub copy_block-requires-clause-absent : goal.copy_block-requires-clause-absent
copy_block-requires-clause-absent g c =
    let from : Found = c.args.from.now.found.now in
    let v : WindowFields = c.args.from.now.window.now in
    let to : Found = c.args.to.now.found.now in
    let w : WindowFields = c.args.to.now.window.now in
    let sides = c.requires.sides in
    let pieces : List ℕ = c.args.pieces.now in
    let old : Blocks = (g.M.Media.state c.args.media.now).blocks in
    let laws : PieceLaws = record {
      each = c.pieces_are_carried_to_blocks.ensures.each;
      within = c.pieces_are_carried_to_blocks.ensures.within;
      one = c.pieces_are_carried_to_blocks.ensures.one;
      apart = c.pieces_are_carried_to_blocks.ensures.apart;
      inside = c.pieces_are_carried_to_blocks.ensures.inside;
      onto = c.pieces_are_carried_to_blocks.ensures.onto;
    } in
    let i : ℕ = c.loop-n.n-index in
    let n : ℕ = get_or pieces i 0 in
    let mid : Blocks = (g.M.Media.state c.loop-n.media).blocks in
    let before = c.loop-n.invariant.carried in
    let within : i < length pieces = c.loop-n-test.true in
    let source : Key = (c.block_of-source.result.ep, c.block_of-source.result.block) in
    let target : Key = (c.block_of-target.result.ep, c.block_of-target.result.block) in
    target_free laws (λ piece. piece) from v to w sides (take i pieces) old mid mid n source target before (fresh_at laws (λ piece. piece) from v to w sides pieces i n old mid c.requires.held before within refl) c.block_of-source.ensures.at c.block_of-target.ensures.at

pub copy_block-requires-clause-room : goal.copy_block-requires-clause-room
copy_block-requires-clause-room g c =
    let from : Found = c.args.from.now.found.now in
    let v : WindowFields = c.args.from.now.window.now in
    let to : Found = c.args.to.now.found.now in
    let w : WindowFields = c.args.to.now.window.now in
    let sides = c.requires.sides in
    let laws : PieceLaws = record {
      each = c.pieces_are_carried_to_blocks.ensures.each;
      within = c.pieces_are_carried_to_blocks.ensures.within;
      one = c.pieces_are_carried_to_blocks.ensures.one;
      apart = c.pieces_are_carried_to_blocks.ensures.apart;
      inside = c.pieces_are_carried_to_blocks.ensures.inside;
      onto = c.pieces_are_carried_to_blocks.ensures.onto;
    } in
    let before : MediaState = g.M.Media.state c.args.media.now in
    let cleared : MediaState = g.M.Media.state c.scrub_region.new.media in
    let room = c.requires.room in
    let freed = freed_pieces laws (λ piece. piece) from v to w sides before.blocks cleared.blocks room.0 c.scrub_region.ensures.cleared room.1 before.free cleared.free c.scrub_region.ensures.frames in
    omega (arith, freed, room.2, c.loop-n.invariant.free, c.loop-n-test.true)

pub loop-n-preserved : goal.loop-n-preserved
loop-n-preserved g c =
    let from : Found = c.args.from.now.found.now in
    let v : WindowFields = c.args.from.now.window.now in
    let to : Found = c.args.to.now.found.now in
    let w : WindowFields = c.args.to.now.window.now in
    let sides = c.requires.sides in
    let pieces : List ℕ = c.args.pieces.now in
    let old : Blocks = (g.M.Media.state c.args.media.now).blocks in
    let laws : PieceLaws = record {
      each = c.pieces_are_carried_to_blocks.ensures.each;
      within = c.pieces_are_carried_to_blocks.ensures.within;
      one = c.pieces_are_carried_to_blocks.ensures.one;
      apart = c.pieces_are_carried_to_blocks.ensures.apart;
      inside = c.pieces_are_carried_to_blocks.ensures.inside;
      onto = c.pieces_are_carried_to_blocks.ensures.onto;
    } in
    let i : ℕ = c.loop-n.n-index in
    let n : ℕ = get_or pieces i 0 in
    let mid : Blocks = (g.M.Media.state c.loop-n.media).blocks in
    let before = c.loop-n.invariant.carried in
    let within : i < length pieces = c.loop-n-test.true in
    let source : Key = (c.block_of-source.result.ep, c.block_of-source.result.block) in
    let target : Key = (c.block_of-target.result.ep, c.block_of-target.result.block) in
    let new : Blocks = (g.M.Media.state c.copy_block.new.media).blocks in
    let more = carried_more laws (λ piece. piece) from v to w sides (take i pieces) old mid new n source target before (fresh_at laws (λ piece. piece) from v to w sides pieces i n old mid c.requires.held before within refl) c.block_of-source.ensures.at c.block_of-target.ensures.at c.copy_block.ensures.carried in
    record {
      carried = subst (λ (done : List ℕ). AreCarried (λ piece. piece) from v to w done old new) (sym (take_more pieces i 0 within)) more;
      frames = c.copy_block.ensures.frames ∙ c.loop-n.invariant.frames;
      free = omega (arith, c.copy_block.ensures.free, c.loop-n.invariant.free);
    }

pub returns-clause-copied : goal.returns-clause-copied
returns-clause-copied g c =
    let from : Found = c.args.from.now.found.now in
    let v : WindowFields = c.args.from.now.window.now in
    let to : Found = c.args.to.now.found.now in
    let w : WindowFields = c.args.to.now.window.now in
    let sides = c.requires.sides in
    let pieces : List ℕ = c.args.pieces.now in
    let old : Blocks = (g.M.Media.state c.args.media.now).blocks in
    let laws : PieceLaws = record {
      each = c.pieces_are_carried_to_blocks.ensures.each;
      within = c.pieces_are_carried_to_blocks.ensures.within;
      one = c.pieces_are_carried_to_blocks.ensures.one;
      apart = c.pieces_are_carried_to_blocks.ensures.apart;
      inside = c.pieces_are_carried_to_blocks.ensures.inside;
      onto = c.pieces_are_carried_to_blocks.ensures.onto;
    } in
    carried_all laws (λ piece. piece) from v to w sides pieces c.loop-n.n-index old (g.M.Media.state c.loop-n.media).blocks refl c.requires.held c.loop-n-test.false c.loop-n.invariant.carried
