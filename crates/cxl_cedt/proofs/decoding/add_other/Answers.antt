use Rattle.std.proofs.Common.{sym}
use Rattle.std.proofs.lemmas.List.{append-nil}
use Rattle.cxl_cedt.specs.inner.Decoding.{record_of}
use Rattle.cxl_cedt.proofs.Keeping.{is_other_text, passed_over}
use Rattle.cxl_cedt.proofs.Sound.{of_other}
use Rattle.cxl_cedt.proofs.decoding.add_other.Goals as goal

pub returns-in_ok-other_of-in-Kept-clause-records : goal.returns-in_ok-other_of-in-Kept-clause-records
returns-in_ok-other_of-in-Kept-clause-records c = rw (c.in-Kept.is, of_other c.args.text.now c.requires.other, ← c.in_ok-other_of-in-Kept.ensures) c.push_other.ensures.records

pub returns-in-PassedOver-clause-records : goal.returns-in-PassedOver-clause-records
returns-in-PassedOver-clause-records c =
    let text = c.args.text.now in
    let none = passed_over (record_of text) (is_other_text text c.requires.sound c.requires.other) in
    rw (c.in-PassedOver.is, none) (sym (append-nil c.args.kept.now.records))
