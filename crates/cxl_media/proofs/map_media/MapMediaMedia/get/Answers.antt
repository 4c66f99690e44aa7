use Rattle.std.proofs.Common.{◌%◌, ap, sym, ◌∙◌, length}
use Rattle.cxl_media.specs.Blocks.{bytes_from}
use Rattle.cxl_media.specs.MapInside.{plain_state}
use Rattle.cxl_media.proofs.Zeros.{length-zeros}
use Rattle.cxl_media.proofs.Plain.{block_is, block_is_zeros}
use Rattle.cxl_media.proofs.map_media.MapMediaMedia.get.Goals as goal

pub returns-in-Some-clause-filled : goal.returns-in-Some-clause-filled
returns-in-Some-clause-filled c =
    let block = block_is _ _ _ _ _ _ (ap plain_state c.self.view_is) c.deref.ensures.value c.self.invariant _ c.in-Some.ensures.found c.index.result.now c.index.ensures in
    c.read_block.ensures ∙ ap (λ b. bytes_from b (c.args.dpa % 256) (length c.args.into.now)) (c.bytes.ensures.value ∙ sym block)

pub returns-in-Some-clause-whole : goal.returns-in-Some-clause-whole
returns-in-Some-clause-whole c =
    let block = block_is _ _ _ _ _ _ (ap plain_state c.self.view_is) c.deref.ensures.value c.self.invariant _ c.in-Some.ensures.found c.index.result.now c.index.ensures in
    ap length (block ∙ sym c.bytes.ensures.value) ∙ c.bytes.ensures.whole

pub returns-in-None-clause-filled : goal.returns-in-None-clause-filled
returns-in-None-clause-filled c =
    c.read_zeros.ensures ∙ ap (λ b. bytes_from b (c.args.dpa % 256) (length c.args.into.now)) (sym (block_is_zeros _ _ _ _ _ _ (ap plain_state c.self.view_is) c.deref.ensures.value c.self.invariant c.in-None.ensures.none))

pub returns-in-None-clause-whole : goal.returns-in-None-clause-whole
returns-in-None-clause-whole c =
    ap length (block_is_zeros _ _ _ _ _ _ (ap plain_state c.self.view_is) c.deref.ensures.value c.self.invariant c.in-None.ensures.none) ∙ length-zeros
