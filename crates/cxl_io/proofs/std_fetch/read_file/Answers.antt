use Rattle.cxl_io.proofs.WholeFiles.{file_untold}
use Rattle.cxl_io.proofs.std_fetch.read_file.Goals as goal

pub returns-in-Ok : goal.returns-in-Ok
returns-in-Ok g c = file_untold _ c.file_within.result c.file_within.ensures.ok
