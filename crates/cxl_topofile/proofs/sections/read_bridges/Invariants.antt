use Rattle.cxl_topofile.specs.declared.fault.Section.TheVariants as sections
use Rattle.cxl_topofile.specs.Drafts.{bridge_of}
use Rattle.cxl_topofile.proofs.Turns.{IsRead}
use Rattle.cxl_topofile.proofs.sections.read_bridges.Given as goal

abbrev pub invariant-loop-i : goal.invariant-loop-i
invariant-loop-i l = IsRead sections.Bridge bridge_of l.values l.i l.nodes.items
