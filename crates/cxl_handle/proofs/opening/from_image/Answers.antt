use Rattle.std.proofs.Common.{subst}
use Rattle.std.proofs.lemmas.Result.{IfOk-weaker}
use Rattle.std.specs.Prelude.{Some}
use Rattle.cxl_held.specs.Sessions.{IsOpened}
use Rattle.cxl_library.specs.Slices.{told_in}
use Rattle.cxl_reads.specs.Answers.{table_name, topology_name, image_name}
use Rattle.cxl_handle.proofs.opening.from_image.Goals as goal

pub returns-clause-opened : goal.returns-clause-opened
returns-clause-opened c =
    IfOk-weaker c.image_into-opened.result _ _ (λ box is. subst (λ files. IsOpened (told_in files) table_name topology_name (Some image_name) box.value) c.new-files.ensures is)
    c.image_into-opened.ensures.opened
