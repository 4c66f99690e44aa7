use Rattle.cxl_machine.proofs.Alike.{CarriageLaws}
use Rattle.cxl_machine.proofs.AlikeAnswers.{one_answer}
use Rattle.cxl_machine.proofs.PoisonReplies.{OneTelling}
use Rattle.cxl_machine.proofs.laws.one_answer.Goals as goal

pub returns : goal.returns
returns c m command outcome answer other is one two =
    let laws : CarriageLaws = record { apart = c.bytes_are_carried_one_to_one.ensures.apart; inside = c.bytes_are_carried_one_to_one.ensures.inside; shared = c.regions_share_no_byte.ensures.device } in
    let lists : OneTelling = record { list = c.bytes_are_one_list.ensures.one_list; apart = c.bytes_are_one_list.ensures.not_both; entry = c.records_are_told_in_one_way.ensures } in
    one_answer laws lists m is command outcome answer other one two
