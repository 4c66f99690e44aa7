use Rattle.std.proofs.Common.{◌-◌, ◌∙◌, length, arith}
use Rattle.cxl_move.proofs.ReadParts.{whole_read}
use Rattle.cxl_move.proofs.parts.load_bytes.Goals as goal

pub returns : goal.returns
returns g c = λ s w contents woven pieces.
    c.new.ensures ∙ whole_read contents (c.args.load.h - c.args.found.now.base) (length c.deref_mut.result.now) c.args.load.len c.in_ok-bytes.bytes.len c.read.new.into _ (c.read.ensures s w contents woven pieces)
    (omega (arith, c.deref_mut.ensures.len, c.in_ok-bytes.ensures.len)) (omega (arith, c.in_ok-bytes.ensures.len))
