use Rattle.std.proofs.Common.{sym, ap, ◌∙◌, arith}
use Rattle.std.specs.Prelude.{slice_get}
use Rattle.cxl_regs.proofs.WordPlaces.{word_here}
use Rattle.cxl_regs.proofs.block.Block.word.Goals as goal

pub returns : goal.returns
returns c =
    let there = sym (c.find.ensures.value ∙ ap (slice_get c.args.self.now.decoders) c.index_at.ensures) ∙ c.in_ok-d.was in
    word_here c.args.self.now c.args.off c.in_ok-d.d c.words_of.result c.place_at.result (omega arith) (omega arith) there c.words_of.ensures c.place_at.ensures.place
