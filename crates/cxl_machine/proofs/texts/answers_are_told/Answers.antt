use Rattle.cxl_machine.proofs.Telling.{TellLaws}
use Rattle.cxl_machine.proofs.TellingAnswers.{answer_told}
use Rattle.cxl_machine.proofs.texts.answers_are_told.Goals as goal

laws : goal.After-releases_begin_as_machines → TellLaws
laws c = record {
  regions = c.findings_are_told.ensures.regions;
  planned_system = c.regions_stay_after_a_create.ensures.system;
  refusal = c.answered_lines_can_be_told.ensures.refusal;
  each = c.bytes_are_carried_one_to_one.ensures.each;
  weave = c.weaves_fill_their_regions.ensures.kept;
  ways = c.weaves_fill_their_regions.ensures.ways;
  extents = c.extents_carry_their_bytes.ensures.carried;
  few_ports = λ s endpoint system. (c.tree_laws.ensures.laws s.nodes system.tree).few_ports endpoint;
  creates = c.asked_creates_begin_as_machines.ensures.machine;
  releases = c.releases_begin_as_machines.ensures.machine;
}

pub returns : goal.returns
returns c m command outcome answer is ranged at = answer_told (laws c) m is command outcome answer ranged at
