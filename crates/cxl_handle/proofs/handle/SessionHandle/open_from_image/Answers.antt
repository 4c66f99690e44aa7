use Rattle.std.proofs.Common.{◌≡◌, take}
use Rattle.std.specs.Prelude.{Some}
use Rattle.cxl_library.specs.Slices.{slices}
use Rattle.cxl_reads.specs.Answers.{image_name}
use Rattle.cxl_handle.specs.Told.{OpensOrTells, misused}
use Rattle.cxl_handle.proofs.Holding.{where_none}
use Rattle.cxl_handle.proofs.Opened.{opens_or_tells, opening_full}
use Rattle.cxl_handle.proofs.handle.SessionHandle.open_from_image.Goals as goal

pub returns-in-None-clause-opened : goal.returns-in-None-clause-opened
returns-in-None-clause-opened c =
    where_none c.args.self.now.held (OpensOrTells (slices c.args.cedt.now c.args.topo.now c.args.image.now) (Some image_name) c.keep.new.self.held c.keep.result (take c.from_image-opened.new.written c.from_image-opened.new.out))
    (λ held. (c.keep.result ≡ misused) × (c.from_image-opened.new.written ≡ 0) × (c.keep.new.self.held ≡ Some held)) c.in-None.ensures.taken
    (opens_or_tells (λ box. box.value) (slices c.args.cedt.now c.args.topo.now c.args.image.now) (Some image_name) c.keep.new.self.held c.keep.result c.from_image-opened.new.out c.from_image-opened.new.written c.from_image-opened.result
    c.from_image-opened.ensures.opened c.from_image-opened.ensures.quiet c.from_image-opened.ensures.unopened c.keep.ensures.kept c.keep.ensures.unopened)

pub returns-in-None-clause-full : goal.returns-in-None-clause-full
returns-in-None-clause-full c =
    opening_full (λ box. box.value) (slices c.args.cedt.now c.args.topo.now c.args.image.now) (Some image_name) c.keep.new.self.held c.keep.result c.from_image-opened.new.out c.from_image-opened.new.written c.from_image-opened.result
    c.from_image-opened.ensures.full c.keep.ensures.kept c.keep.ensures.unopened
