use Rattle.std.proofs.Common.{arith}
use Rattle.std.proofs.lemmas.List.{append-nil}
use Rattle.cxl_cedt.specs.inner.Decoding.{record_of}
use Rattle.cxl_cedt.proofs.Keeping.{is_other_text, is_judged_text, kept_judged, place_of_judged, no_place}
use Rattle.cxl_cedt.proofs.decoding.add_record.Goals as goal

pub returns-then-u8_at-gt-CXIMS_KIND-clause-places : goal.returns-then-u8_at-gt-CXIMS_KIND-clause-places
returns-then-u8_at-gt-CXIMS_KIND-clause-places c =
    let text = c.args.text.now in
    let other = is_other_text text c.requires.sound (omega arith) in
    rw (no_place c.args.at (record_of text) other, append-nil c.args.kept.now.places) c.add_other.ensures.places

pub returns-clause-records : goal.returns-clause-records
returns-clause-records c =
    let text = c.args.text.now in
    let judged = is_judged_text text c.requires.sound (omega arith) in
    rw (kept_judged c.args.others (record_of text) judged) c.add_judged.ensures.records

pub returns-clause-places : goal.returns-clause-places
returns-clause-places c =
    let text = c.args.text.now in
    let judged = is_judged_text text c.requires.sound (omega arith) in
    rw (place_of_judged c.args.at (record_of text) judged) c.add_judged.ensures.places
