use Rattle.std.proofs.Common.{ap, ◌∙◌, refl, sym, length}
use Rattle.cxl_reads.specs.Answers.{told}
use Rattle.cxl_reads.proofs.of_windows.told_over.Goals as goal

pub put_windows-requires : goal.put_windows-requires
put_windows-requires c =
    let groups = rw c.records.ensures.value at c.in_ok-groups.ensures in
    ap length c.deref.ensures.value ∙ c.in_ok-windows.ensures.one_each ∙ sym (ap length (c.deref-2.ensures.value ∙ groups))

pub returns : goal.returns
returns c =
    c.told.ensures
    ∙ ap told (c.in_ok-put_windows.ensures
    ∙ rw (c.new-text.ensures.items, c.records-2.ensures.value, c.deref.ensures.value, c.deref-2.ensures.value, c.in_ok-windows.ensures.windows, c.in_ok-groups.ensures, c.records.ensures.value) refl)
