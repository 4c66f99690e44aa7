use Rattle.cxl_apply.proofs.Freed.{rows_apart, all_can_release, all_released}
use Rattle.cxl_apply.proofs.After.{range_has_rows}
use Rattle.cxl_apply.proofs.laws.release_releases_its_rows.Goals as goal

pub returns-clause-rows : goal.returns-clause-rows
returns-clause-rows c = all_can_release

pub returns-clause-apart : goal.returns-clause-apart
returns-clause-apart c = rows_apart

pub returns-clause-released : goal.returns-clause-released
returns-clause-released c = λ s found writes system. all_released c.words_stand_for_decoder.ensures s found writes system.blocks

pub returns-clause-some : goal.returns-clause-some
returns-clause-some c = λ s found system. range_has_rows s found system.caps.count
