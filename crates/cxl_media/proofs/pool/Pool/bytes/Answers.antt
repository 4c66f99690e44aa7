use Rattle.std.proofs.Common.{ap, ◌∙◌, Some, sym, arith}
use Rattle.std.proofs.lemmas.List.{get_or_read}
use Rattle.cxl_media.specs.Pool.{frame_bytes}
use Rattle.cxl_media.proofs.Steps.{out_within, out_bytes}
use Rattle.cxl_media.proofs.Untaken.{out_made, bytes_of}
use Rattle.cxl_media.proofs.pool.Pool.bytes.Goals as goal

pub index-requires : goal.index-requires
index-requires c =
    omega (arith, c.self.inside.frames.ok.0, out_within c.self.inside.frames.items c.self.inside.given c.self.inside.first c.frame.inside.number c.self.invariant.made (out_made _ _ _ _ _ c.self.invariant _ _ _ c.self.view_is c.frame.view_is c.requires))

pub returns-clause-value : goal.returns-clause-value
returns-clause-value c =
    let frames = c.self.inside.frames.items in
    let out = out_made _ _ _ _ _ c.self.invariant _ _ _ c.self.view_is c.frame.view_is c.requires in
    let within = out_within frames c.self.inside.given c.self.inside.first c.frame.inside.number c.self.invariant.made out in
    ap (λ pool. frame_bytes pool c.args.frame.now) (sym c.self.view_is)
    ∙ ap (frame_bytes _) (sym c.frame.view_is)
    ∙ bytes_of _ _ _ _ _ c.self.invariant c.frame.inside.number within
    ∙ out_bytes frames c.self.inside.given c.self.inside.first c.frame.inside.number c.self.invariant.made out
    ∙ ap Some (sym (get_or_read frames c.frame.inside.number c.index.result.now within c.index.ensures _))
