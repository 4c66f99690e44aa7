-- A block that is there is written over; else one is added, where a frame is free.
use Rattle.std.proofs.Common.{◌≡◌, ◌-◌, ◌/◌, ◌%◌, [], ◌∷◌, ◌++◌, length, set, refl, sym, ap, ◌∙◌, arith}
use Rattle.std.proofs.lemmas.Bool.{false≢true}
use Rattle.std.proofs.lemmas.List.{length-set, length-map, length_push}
use Rattle.std.specs.FinMap.{insert}
use Rattle.cxl_media.specs.declared.map_media.Block.{Block}
use Rattle.cxl_media.specs.Blocks.{key_of, overwritten}
use Rattle.cxl_media.specs.MapInside.{Plain, plain_state, item_of, items_of}
use Rattle.cxl_media.proofs.Items.{put_counts}
use Rattle.cxl_media.proofs.Zeros.{length-zeros}
use Rattle.cxl_media.proofs.Plain.{held, block_is, none_needed, rewritten_blocks, rewritten_inside, block_is_zeros, one_needed, added_blocks, added_inside}
use Rattle.cxl_media.proofs.map_media.MapMediaMedia.put.Goals as goal

pub invariant_of-self : goal.invariant_of-self
invariant_of-self c =
    rewritten_inside _ _ _ _ _ _ (ap plain_state c.self.view_is) c.deref.ensures.value c.self.invariant _ c.in-Some.ensures.found c.index_mut.result.now c.write.new.self c.index_mut.ensures.value
    (ap (λ (b : Block). b.ep) c.write.ensures.written) (ap (λ (b : Block). b.number) c.write.ensures.written)

pub returns-in-Some-clause-full : goal.returns-in-Some-clause-full
returns-in-Some-clause-full c =
    let none = none_needed _ _ _ _ _ _ (ap plain_state c.self.view_is) c.deref.ensures.value c.self.invariant _ c.in-Some.ensures.found c.index_mut.result.now in (
      λ e. absurd (false≢true e),
      λ needed. absurd (omega (arith, none, needed.0)),
    )

pub returns-in-Some-clause-blocks : goal.returns-in-Some-clause-blocks
returns-in-Some-clause-blocks c =
    let block = block_is _ _ _ _ _ _ (ap plain_state c.self.view_is) c.deref.ensures.value c.self.invariant _ c.in-Some.ensures.found c.index_mut.result.now c.index_mut.ensures.value in
    rewritten_blocks _ _ _ _ _ _ (ap plain_state c.self.view_is) c.deref.ensures.value c.self.invariant _ c.in-Some.ensures.found c.index_mut.result.now c.write.new.self c.index_mut.ensures.value
    (ap (λ (b : Block). b.ep) c.write.ensures.written) (ap (λ (b : Block). b.number) c.write.ensures.written)
    ∙ ap (λ (b : Block). insert (plain_state c.args.self.now).blocks (key_of c.args.ep c.args.dpa) b.bytes) c.write.ensures.written
    ∙ ap (λ b. insert (plain_state c.args.self.now).blocks (key_of c.args.ep c.args.dpa) (overwritten b (c.args.dpa % 256) c.args.bytes.now)) (sym block)

pub returns-in-Some-clause-free : goal.returns-in-Some-clause-free
returns-in-Some-clause-free c =
    let none = none_needed _ _ _ _ _ _ (ap plain_state c.self.view_is) c.deref.ensures.value c.self.invariant _ c.in-Some.ensures.found c.index_mut.result.now in
    omega (arith, none, length-set c.self.inside.blocks.items c.in-Some.place c.write.new.self, length-map (set c.self.inside.blocks.items c.in-Some.place c.write.new.self) item_of, length-map c.self.inside.blocks.items item_of, ap (λ (p : Plain). p.frames - length p.items) c.self.view_is)

pub returns-in-Some-clause-whole : goal.returns-in-Some-clause-whole
returns-in-Some-clause-whole c =
    ap length (block_is _ _ _ _ _ _ (ap plain_state c.self.view_is) c.deref.ensures.value c.self.invariant _ c.in-Some.ensures.found c.index_mut.result.now c.index_mut.ensures.value)
    ∙ c.write.ensures.whole

pub returns-then-len-self-clause-full : goal.returns-then-len-self-clause-full
returns-then-len-self-clause-full c =
    let one = one_needed _ _ _ _ _ _ (ap plain_state c.self.view_is) c.deref.ensures.value c.self.invariant c.in_default.ensures.none in
    let free : (plain_state c.args.self.now).free ≡ 0 = omega (arith, ap (λ (p : Plain). p.frames - length p.items) c.self.view_is, c.len.ensures, c.self.inside.blocks.ok.0, length-map c.self.inside.blocks.items item_of) in
    (λ _. (one, free), λ _. refl)

pub returns-then-len-self-clause-whole : goal.returns-then-len-self-clause-whole
returns-then-len-self-clause-whole c =
    ap length (block_is_zeros _ _ _ _ _ _ (ap plain_state c.self.view_is) c.deref.ensures.value c.self.invariant c.in_default.ensures.none) ∙ length-zeros

pub invariant_of-self-2 : goal.invariant_of-self-2
invariant_of-self-2 c =
    let ep : c.write-2.new.self.ep ≡ c.args.ep = ap (λ (b : Block). b.ep) c.write-2.ensures.written ∙ ap (λ (b : Block). b.ep) c.new-block.ensures in
    let number : c.write-2.new.self.number ≡ c.args.dpa / 256 = ap (λ (b : Block). b.number) c.write-2.ensures.written ∙ ap (λ (b : Block). b.number) c.new-block.ensures in
    let added = added_inside _ _ _ _ _ _ (ap plain_state c.self.view_is) c.deref.ensures.value c.self.invariant c.in_default.ensures.none c.write-2.new.self ep number (omega (arith, c.len.ensures, c.self.inside.blocks.ok.0, c.self.invariant.few)) in
    rw (c.push_reserved.ensures.items, c.push_reserved.ensures.capacity) added

pub returns-clause-blocks : goal.returns-clause-blocks
returns-clause-blocks c =
    let ep : c.write-2.new.self.ep ≡ c.args.ep = ap (λ (b : Block). b.ep) c.write-2.ensures.written ∙ ap (λ (b : Block). b.ep) c.new-block.ensures in
    let number : c.write-2.new.self.number ≡ c.args.dpa / 256 = ap (λ (b : Block). b.number) c.write-2.ensures.written ∙ ap (λ (b : Block). b.number) c.new-block.ensures in
    let old = block_is_zeros _ _ _ _ _ _ (ap plain_state c.self.view_is) c.deref.ensures.value c.self.invariant c.in_default.ensures.none in
    ap held c.push_reserved.ensures.items
    ∙ added_blocks _ _ _ _ _ _ (ap plain_state c.self.view_is) c.deref.ensures.value c.self.invariant c.in_default.ensures.none c.write-2.new.self ep number
    ∙ ap (λ (b : Block). insert (plain_state c.args.self.now).blocks (key_of c.args.ep c.args.dpa) b.bytes) c.write-2.ensures.written
    ∙ ap (λ (b : Block). insert (plain_state c.args.self.now).blocks (key_of c.args.ep c.args.dpa) (overwritten b.bytes (c.args.dpa % 256) c.args.bytes.now)) c.new-block.ensures
    ∙ ap (λ b. insert (plain_state c.args.self.now).blocks (key_of c.args.ep c.args.dpa) (overwritten b (c.args.dpa % 256) c.args.bytes.now)) (sym old)

pub returns-clause-free : goal.returns-clause-free
returns-clause-free c =
    let one = one_needed _ _ _ _ _ _ (ap plain_state c.self.view_is) c.deref.ensures.value c.self.invariant c.in_default.ensures.none in
    omega (arith, one, ap (λ bs. length (items_of bs)) c.push_reserved.ensures.items, length-map (c.self.inside.blocks.items ++ c.write-2.new.self ∷ []) item_of, length-map c.self.inside.blocks.items item_of, length_push c.self.inside.blocks.items c.write-2.new.self, c.len.ensures, c.self.inside.blocks.ok.0, c.self.invariant.few, ap (λ (p : Plain). p.frames - length p.items) c.self.view_is)

pub returns-clause-whole : goal.returns-clause-whole
returns-clause-whole c =
    ap length (block_is_zeros _ _ _ _ _ _ (ap plain_state c.self.view_is) c.deref.ensures.value c.self.invariant c.in_default.ensures.none) ∙ length-zeros

pub returns-in-Some-clause-frames : goal.returns-in-Some-clause-frames
returns-in-Some-clause-frames c = put_counts _ _ _ _ _ _ (returns-in-Some-clause-blocks c) (returns-in-Some-clause-free c)

pub returns-clause-frames : goal.returns-clause-frames
returns-clause-frames c = put_counts _ _ _ _ _ _ (returns-clause-blocks c) (returns-clause-free c)
