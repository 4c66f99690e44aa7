use Rattle.cxl_poison.proofs.OneTelling.{one_telling}
use Rattle.cxl_poison.proofs.laws.records_are_told_in_one_way.Goals as goal

pub returns : goal.returns
returns c = λ entry endpoint live windows told other are p q.
    one_telling c.bytes_are_carried_one_to_one.ensures.apart c.regions_lie_in_windows.ensures.there entry endpoint live windows are told other p q
