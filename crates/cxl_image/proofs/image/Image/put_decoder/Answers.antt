use Rattle.std.proofs.Common.{◌≡◌, length, Some, refl, ap, arith}
use Rattle.std.proofs.lemmas.Option.{slice_get_read}
use Rattle.std.specs.Prelude.{slice_get, slice_set}
use Rattle.cxl_image.proofs.AfterWrite.{after_image}
use Rattle.cxl_image.proofs.OtherDecoders.{put_caps, put_within}
use Rattle.cxl_image.proofs.image.Image.put_decoder.Goals as goal

-- the block that is changed stands in the image
here : (c : goal.After-self-1) → slice_get c.self.inside.blocks.items c.args.node ≡ Some c.index.result.now
here c =
    let within = put_within c.args.self.now c.args.node c.args.index c.args.d.now c.requires in
    slice_get_read c.self.inside.blocks.items (length c.self.inside.blocks.items) c.args.node c.index.result.now refl (omega (arith, within, ap length c.self.view_is)) c.index.ensures

here_seen : (c : goal.After-self-1) → slice_get c.args.self.now c.args.node ≡ Some c.index.result.now
here_seen c = rw (← c.self.view_is) (here c)

pub invariant_of-self : goal.invariant_of-self
invariant_of-self c =
    after_image c.self.inside.blocks.items c.args.node c.with_decoder-block.result c.self.invariant c.with_decoder-block.ensures.block

pub returns-clause-left : goal.returns-clause-left
returns-clause-left c = rw (here_seen c) (rw (← c.self.view_is) (ap (slice_set c.self.inside.blocks.items c.args.node) c.with_decoder-block.ensures.value))

pub returns-clause-same_caps : goal.returns-clause-same_caps
returns-clause-same_caps c = rw (← c.self.view_is) (λ nodes caps.
    rw c.with_decoder-block.ensures.value (put_caps c.self.inside.blocks.items nodes c.args.node c.args.index c.args.d.now c.index.result.now (here c) caps))
