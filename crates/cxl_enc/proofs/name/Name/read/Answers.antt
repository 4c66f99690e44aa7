use Rattle.std.proofs.Common.{refl, rules}
use Rattle.cxl_enc.proofs.NameBytes.{padded_from_name}
use Rattle.cxl_enc.proofs.name.Name.read.Goals as goal

pub invariant_of-result : goal.invariant_of-result
invariant_of-result c =
    padded_from_name c.args.bytes.now c.copy_from_slice.new.self _ (c.is_name.ensures.name.0 (search rules)) c.copy_from_slice.ensures.after refl
