use Rattle.cxl_cedt.proofs.Walks.{text_kept}
use Rattle.cxl_cedt.proofs.table_text.text_of.Goals as goal

pub invariant_of-result : goal.invariant_of-result
invariant_of-result c =
    let held = rw c.deref.ensures.value at c.in_ok-judged.ensures in
    text_kept c.args.bytes.items c.in_ok-judged.judged c.requires held.header held.kept

pub returns-clause-table : goal.returns-clause-table
returns-clause-table c =
    let held = rw c.deref.ensures.value at c.in_ok-judged.ensures in
    (text_kept c.args.bytes.items c.in_ok-judged.judged c.requires held.header held.kept).spells
