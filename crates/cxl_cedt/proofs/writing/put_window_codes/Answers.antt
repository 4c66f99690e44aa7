use Rattle.std.proofs.Common.{◌≡◌, cond, ◌++◌, rules}
use Rattle.cxl_enc.proofs.Options.{on_ok}
use Rattle.cxl_cedt.specs.Spelling.{number_bytes, window_codes}
use Rattle.cxl_enc.proofs.Lists.{appended}
use Rattle.cxl_cedt.proofs.writing.put_window_codes.Goals as goal

pub returns : goal.returns
unfolding number_bytes window_codes
returns c =
    let bit : c.from.result ≡ cond c.args.xor 1 0 = search rules in
    on_ok c.put_u32.result _ _ c.put_u32.ensures (λ (last : c.put_u32.new.out.items ≡ c.extend_from_slice.new.self.items ++ number_bytes 4 c.from-2.result).
    appended c.args.out.now.items c.extend_from_slice.new.self.items c.put_u32.new.out.items _ _ (rw bit at c.in_ok-extend_from_slice.ensures.items) (rw c.from-2.ensures at last))
