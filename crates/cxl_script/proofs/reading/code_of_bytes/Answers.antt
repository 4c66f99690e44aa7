use Rattle.cxl_script.proofs.Grans.{gran_code-in_table}
use Rattle.cxl_script.proofs.reading.code_of_bytes.Goals as goal

pub returns : goal.returns
returns c =
    gran_code-in_table c.args.bytes c.gran_code.result c.gran_code.ensures.code c.gran_code.ensures.only
