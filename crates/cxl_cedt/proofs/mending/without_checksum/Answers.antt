use Rattle.std.proofs.Common.{length, sym, ap, ◌∙◌}
use Rattle.std.proofs.lemmas.List.{take_at}
use Rattle.cxl_cedt.specs.Reading.{table_in}
use Rattle.cxl_cedt.specs.Spelling.{spelling_with}
use Rattle.cxl_cedt.proofs.mending.without_checksum.Goals as goal

pub mend-requires : goal.mend-requires
mend-requires c = rw c.deref_mut.ensures.value c.requires

pub returns-clause-spelled : goal.returns-clause-spelled
returns-clause-spelled c =
    take_at c.mend.new.bytes _ c.args.bytes.len (c.in_ok-mend.ensures.size ∙ ap length c.deref_mut.ensures.value ∙ sym c.args.bytes.ok.0)
    ∙ c.in_ok-mend.ensures.spelled ∙ ap (λ t. spelling_with 0 (table_in t)) c.deref_mut.ensures.value
