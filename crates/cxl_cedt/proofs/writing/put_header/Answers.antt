use Rattle.std.proofs.Common.{◌≡◌, ◌++◌, arith}
use Rattle.cxl_enc.proofs.Options.{on_ok}
use Rattle.cxl_cedt.specs.Spelling.{number_bytes}
use Rattle.cxl_cedt.proofs.Appended.{always, header_appended}
use Rattle.cxl_cedt.proofs.writing.put_header.Goals as goal

pub returns-clause-spelled : goal.returns-clause-spelled
returns-clause-spelled c =
    on_ok c.put_u32-2.result _ _ c.put_u32-2.ensures (λ (last : c.put_u32-2.new.out.items ≡ c.extend_from_slice-3.new.self.items ++ number_bytes 4 c.args.head.now.creator_revision).
    header_appended c.args.head.now c.args.size c.args.out.now.items c.put_opening.new.out.items c.extend_from_slice.new.self.items c.extend_from_slice-2.new.self.items c.put_u32.new.out.items
    c.extend_from_slice-3.new.self.items c.put_u32-2.new.out.items c.in_ok-put_opening.ensures.spelled c.in_ok-extend_from_slice.ensures.items c.in_ok-extend_from_slice-2.ensures.items
    c.in_ok-put_u32.ensures c.in_ok-extend_from_slice-3.ensures.items last)

pub returns-clause-fits : goal.returns-clause-fits
returns-clause-fits c = always c.put_u32-2.result _ (record {
  revision = c.put_opening.ensures.fits;
  oem_id = omega arith;
  oem_table = omega arith;
  oem_revision = omega arith;
  creator = omega arith;
  creator_revision = omega arith;
})
