use Rattle.cxl_machine.proofs.ToldAnswers.{some_answer}
use Rattle.cxl_machine.proofs.PoisonReplies.{SomeTelling}
use Rattle.cxl_machine.proofs.laws.each_command_is_answered.Goals as goal

pub returns : goal.returns
returns c m command is =
    let lists : SomeTelling = record { reading = c.bytes_are_one_list.ensures.some; entry = c.each_record_has_pieces.ensures } in
    some_answer c.bytes_are_carried_one_to_one.ensures.onto lists m is command
