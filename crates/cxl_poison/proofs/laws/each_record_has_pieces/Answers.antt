use Rattle.cxl_poison.proofs.SomeTelling.{some_telling}
use Rattle.cxl_poison.proofs.laws.each_record_has_pieces.Goals as goal

pub returns : goal.returns
returns c = λ entry endpoint live windows are.
    some_telling c.bytes_are_carried_one_to_one.ensures.onto c.regions_lie_in_windows.ensures.there entry endpoint live windows are (λ a b. c.live_spans_are_apart.ensures.one windows live endpoint a b are)
    (record {
      region = λ dpa a b. c.live_spans_are_apart.ensures.bytes windows live endpoint dpa a b are;
      some = λ a. c.live_spans_are_apart.ensures.some windows live endpoint a are;
    })
