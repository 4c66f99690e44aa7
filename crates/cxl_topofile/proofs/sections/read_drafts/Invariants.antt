use Rattle.cxl_topofile.specs.Groups.{section_of, draft_of}
use Rattle.cxl_topofile.proofs.Turns.{IsRead}
use Rattle.cxl_topofile.proofs.sections.read_drafts.Given as goal

abbrev pub invariant-loop-i : goal.invariant-loop-i
invariant-loop-i l = IsRead (section_of l.group) (draft_of l.group) l.values l.i l.drafts.items
