use Rattle.std.proofs.Common.{◌≡◌, List, length, Some, refl, sym, ap, subst, arith}
use Rattle.std.proofs.lemmas.Option.{slice_get_read}
use Rattle.std.specs.Prelude.{slice_get}
use Rattle.cxl_enc.proofs.Lists.{get_other}
use Rattle.cxl_regs.specs.Registers.{Registers, IsBlock}
use Rattle.cxl_image.proofs.AfterWrite.{after_left, after_told, after_caps, after_image, block_there}
use Rattle.cxl_image.proofs.image.Image.write32.Goals as goal

-- the block that is written stands in the image
here : (c : goal.After-self-1) → slice_get c.self.inside.blocks.items c.args.node ≡ Some c.index_mut.result.now
here c = slice_get_read c.self.inside.blocks.items (length c.self.inside.blocks.items) c.args.node c.index_mut.result.now refl (omega (arith, c.requires, ap length c.self.view_is)) c.index_mut.ensures.value

here_seen : (c : goal.After-self-1) → slice_get c.args.self.now c.args.node ≡ Some c.index_mut.result.now
here_seen c = rw (← c.self.view_is) (here c)

pub invariant_of-self : goal.invariant_of-self
invariant_of-self c =
    let blocks : List Registers = c.self.inside.blocks.items in
    let old = block_there blocks c.args.node c.index_mut.result.now c.self.invariant (here c) in
    let sound : IsBlock c.write32.new.self = subst IsBlock (sym c.write32.ensures.write.left) (c.write_laws.ensures.block c.index_mut.result.now c.args.off c.args.value old (omega arith)) in
    after_image blocks c.args.node c.write32.new.self c.self.invariant sound

pub returns-clause-left : goal.returns-clause-left
returns-clause-left c = rw (← c.self.view_is) (after_left c.self.inside.blocks.items c.args.node c.args.off c.args.value c.index_mut.result.now c.write32.new.self c.write32.result (here c) c.write32.ensures.write)

pub returns-clause-told : goal.returns-clause-told
returns-clause-told c = after_told c.args.self.now c.args.node c.args.off c.args.value c.index_mut.result.now c.write32.new.self c.write32.result (here_seen c) c.write32.ensures.write

pub returns-clause-others : goal.returns-clause-others
returns-clause-others c = rw (← c.self.view_is) (λ i ne. get_other c.self.inside.blocks.items c.args.node i c.write32.new.self ne)

pub returns-clause-same_caps : goal.returns-clause-same_caps
returns-clause-same_caps c = rw (← c.self.view_is) (λ nodes caps. after_caps c.self.inside.blocks.items nodes c.args.node c.index_mut.result.now c.write32.new.self (here c) c.write32.ensures.same_shape caps)
