use Rattle.std.proofs.Common.{sym, ◌∙◌}
use Rattle.cxl_num.proofs.ThirdsAndPowers.{Joins-shifted, same_from_remainders}
use Rattle.cxl_num.proofs.remainders.join_thirds.Goals as goal

pub returns : goal.returns
returns c =
    let few = c.requires.few in
    let joins = Joins-shifted c.args.bits c.args.k c.args.third few c.requires.bits_below c.requires.third_below in
    rw c.from.ensures (record {
      below = joins.below;
      low = joins.low;
      thirds = joins.thirds;
      only = λ x below low thirds. same_from_remainders c.args.k x _ few below joins.below (low ∙ sym joins.low) (thirds ∙ sym joins.thirds);
    })
