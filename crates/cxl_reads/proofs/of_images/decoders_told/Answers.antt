use Rattle.std.proofs.Common.{Err, ap, ◌∙◌, refl}
use Rattle.std.proofs.lemmas.Result.{err_from_is_err_and}
use Rattle.cxl_inputs.specs.Given.{StandForNoTree, HoldNoImage}
use Rattle.cxl_reads.specs.Answers.{told, topology_name, image_name}
use Rattle.cxl_reads.specs.Decoders.{AreDecoders, no_tree, no_image, blocks}
use Rattle.cxl_reads.proofs.Endings.{stops_behind, stops_short}
use Rattle.cxl_reads.proofs.of_images.decoders_told.Goals as goal

pub returns-in_err-topo : goal.returns-in_err-topo
returns-in_err-topo c =
    let p = err_from_is_err_and c.from_residual.result c.from_residual.ensures.1 in
    let topo = c.args.topo.now in
    let image = c.args.image.now in
    stops_behind (StandForNoTree topology_name topo) (AreDecoders topo image) c.from_residual.result _ (p.1 ∙ ap Err p.2) (λ o none. no_tree none) c.in_err-topo.ensures.stops

pub returns-in_err-image : goal.returns-in_err-image
returns-in_err-image c =
    let p = err_from_is_err_and c.from_residual-in_err-image.result c.from_residual-in_err-image.ensures.1 in
    let topo = c.args.topo.now in
    let image = c.args.image.now in
    let tree = c.in_ok-topo.topo in
    stops_behind (HoldNoImage image_name image tree.nodes) (AreDecoders topo image) c.from_residual-in_err-image.result _ (p.1 ∙ ap Err p.2) (λ o none. no_image tree c.in_ok-topo.ensures.tree none) c.in_err-image.ensures.stops

pub returns-in_err-put_blocks : goal.returns-in_err-put_blocks
returns-in_err-put_blocks c =
    let p = err_from_is_err_and c.from_residual-in_err-put_blocks.result c.from_residual-in_err-put_blocks.ensures.1 in
    stops_short (AreDecoders c.args.topo.now c.args.image.now) c.from_residual-in_err-put_blocks.result _ p.1 p.2

pub returns : goal.returns
returns c =
    blocks c.in_ok-topo.topo c.in_ok-image.image c.in_ok-topo.ensures.tree c.in_ok-image.ensures.image
    (c.told.ensures ∙ ap told (c.in_ok-put_blocks.ensures ∙ rw c.new-text.ensures.items refl))
