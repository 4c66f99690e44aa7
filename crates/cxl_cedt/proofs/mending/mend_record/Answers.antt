use Rattle.std.proofs.Common.{◌≡◌, ◌++◌, length, ap, ◌∙◌, arith}
use Rattle.cxl_cedt.specs.Spelling.{record_spelling}
use Rattle.cxl_cedt.proofs.Mended.{length-record_spelling}
use Rattle.cxl_cedt.proofs.mending.mend_record.Goals as goal

pub put_over-requires : goal.put_over-requires
put_over-requires c =
    let text : c.deref.result.now ≡ record_spelling c.args.item.now = c.deref.ensures.value ∙ c.in_ok-spell_record.ensures.spelled ∙ ap (λ t. t ++ record_spelling c.args.item.now) c.new-text.ensures.items in
    omega (arith, c.requires, ap length text, length-record_spelling c.args.item.now)
