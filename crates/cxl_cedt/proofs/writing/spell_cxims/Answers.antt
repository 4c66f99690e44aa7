use Rattle.std.proofs.Common.{◌≡◌, ℕ, ◌^◌, ◌≤◌, ◌++◌, subst}
use Rattle.cxl_enc.proofs.Options.{on_ok}
use Rattle.cxl_cedt.specs.Spelling.{numbers_bytes}
use Rattle.cxl_cedt.specs.inner.Widths.{AreBelow}
use Rattle.cxl_cedt.proofs.Appended.{always, cxims_appended}
use Rattle.cxl_cedt.proofs.writing.spell_cxims.Goals as goal

pub returns-clause-spelled : goal.returns-clause-spelled
returns-clause-spelled c =
    let list = c.maps-list.result.now in
    on_ok c.put_u64s.result _ _ c.put_u64s.ensures.spelled (λ (last : c.put_u64s.new.out.items ≡ c.extend_from_slice.new.self.items ++ numbers_bytes 8 list).
    cxims_appended c.args.maps.now c.gran.result list c.args.out.now.items c.put_frame.new.out.items c.extend_from_slice.new.self.items c.put_u64s.new.out.items c.gran.ensures.value c.maps-list.ensures.value
    c.in_ok-put_frame.ensures c.in_ok-extend_from_slice.ensures.items last)

pub returns-clause-fits : goal.returns-clause-fits
returns-clause-fits c = always c.put_u64s.result _ (record {
  gran = subst (λ (n : ℕ). n ≤ 6) c.gran.ensures.value c.gran.ensures.known;
  few = c.maps-list.ensures.few;
  maps = subst (AreBelow (2 ^ 64)) c.maps-list.ensures.value c.put_u64s.ensures.fits;
})
