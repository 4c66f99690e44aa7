use Rattle.std.proofs.Common.{◌%◌, sym, ◌∙◌, ap, length}
use Rattle.cxl_media.specs.Blocks.{bytes_from}
use Rattle.cxl_media.proofs.Zeros.{length-zeros}
use Rattle.cxl_media.proofs.SimCalls.{sim_view, in_block, out_block}
use Rattle.cxl_media.proofs.sim_media.SimMediaMedia.get.Goals as goal

pub returns-in-Some-clause-filled : goal.returns-in-Some-clause-filled
returns-in-Some-clause-filled c =
    let block = in_block _ _ (sim_view _ _ _ c.self.view_is) _ _ c.in-Some.ensures c.bytes.result.now c.bytes.ensures.value in
    c.read_block.ensures ∙ ap (λ b. bytes_from b (c.args.dpa % 256) (length c.args.into.now)) (sym block)

pub returns-in-Some-clause-whole : goal.returns-in-Some-clause-whole
returns-in-Some-clause-whole c =
    ap length (in_block _ _ (sim_view _ _ _ c.self.view_is) _ _ c.in-Some.ensures c.bytes.result.now c.bytes.ensures.value) ∙ c.bytes.ensures.length

pub returns-in-None-clause-filled : goal.returns-in-None-clause-filled
returns-in-None-clause-filled c =
    c.read_zeros.ensures ∙ ap (λ b. bytes_from b (c.args.dpa % 256) (length c.args.into.now)) (sym (out_block _ _ (sim_view _ _ _ c.self.view_is) _ c.in-None.ensures))

pub returns-in-None-clause-whole : goal.returns-in-None-clause-whole
returns-in-None-clause-whole c = ap length (out_block _ _ (sim_view _ _ _ c.self.view_is) _ c.in-None.ensures) ∙ length-zeros
