use Rattle.std.proofs.Common.{◌≡◌, [], ◌∷◌, ◌++◌}
use Rattle.cxl_enc.proofs.Options.{on_ok}
use Rattle.cxl_cedt.specs.Spelling.{numbers_bytes}
use Rattle.cxl_cedt.proofs.Appended.{always, chbs_appended}
use Rattle.cxl_cedt.proofs.writing.spell_chbs.Goals as goal

pub returns-clause-spelled : goal.returns-clause-spelled
returns-clause-spelled c =
    let chbs = c.args.chbs.now in
    on_ok c.put_u64s.result _ _ c.put_u64s.ensures.spelled (λ (last : c.put_u64s.new.out.items ≡ c.put_u32s.new.out.items ++ numbers_bytes 8 (chbs.base ∷ chbs.length ∷ [])).
    chbs_appended chbs c.args.out.now.items c.put_frame.new.out.items c.put_u32s.new.out.items c.put_u64s.new.out.items c.in_ok-put_frame.ensures c.in_ok-put_u32s.ensures.spelled last)

pub returns-clause-fits : goal.returns-clause-fits
returns-clause-fits c =
    let words = c.in_ok-put_u32s.ensures.fits in
    let longs = c.put_u64s.ensures.fits in
    always c.put_u64s.result _ (record { uid = words 0; version = words 1; base = longs 0; register_length = longs 1 })
