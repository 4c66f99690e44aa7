use Rattle.std.proofs.Common.{◌∙◌}
use Rattle.cxl_topofile.proofs.Turns.{are_tables-view}
use Rattle.cxl_topofile.proofs.sections.are_tables.Goals as goal

pub returns : goal.returns
returns c = c.all_tables.ensures ∙ are_tables-view c.args.values.now
