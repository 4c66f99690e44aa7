use Rattle.std.proofs.Common.{drop, ap, ◌∙◌}
use Rattle.std.proofs.lemmas.List.{take_rest}
use Rattle.cxl_cedt.specs.Reading.{records_in}
use Rattle.cxl_cedt.proofs.Walks.{walk_begins, records_begin}
use Rattle.cxl_cedt.proofs.table_text.TableText.records.Goals as goal

pub new-requires : goal.new-requires
new-requires c =
    rw (c.deref.ensures.value, take_rest c.self.inside.bytes.items 36, c.records.ensures.records) (walk_begins c.self.inside.bytes.items c.self.inside.judged c.self.invariant)

pub returns : goal.returns
returns c =
    c.new.ensures ∙ ap records_in (take_rest c.deref.result.now 36) ∙ ap (λ t. records_in (drop 36 t)) c.deref.ensures.value
    ∙ records_begin c.self.inside.bytes.items ∙ ap (λ t. t.records) c.self.view_is
