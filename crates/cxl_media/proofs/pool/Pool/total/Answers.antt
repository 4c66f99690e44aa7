use Rattle.std.proofs.Common.{ap, ◌∙◌, sym, length}
use Rattle.cxl_media.proofs.Untaken.{length_of}
use Rattle.cxl_media.proofs.pool.Pool.total.Goals as goal

pub returns : goal.returns
returns c = sym (length_of _ _ _ _ _ c.self.invariant) ∙ ap length c.self.view_is
