use Rattle.cxl_apply.proofs.JobWrites.{create_taken_back, release_taken_back}
use Rattle.cxl_apply.proofs.laws.writes_are_taken_back.Goals as goal

pub returns-clause-create : goal.returns-clause-create
returns-clause-create c = create_taken_back c.words_stand_for_decoder.ensures

pub returns-clause-release : goal.returns-clause-release
returns-clause-release c = release_taken_back c.words_stand_for_decoder.ensures
