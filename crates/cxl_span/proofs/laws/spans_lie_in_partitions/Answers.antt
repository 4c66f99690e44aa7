use Rattle.cxl_span.proofs.SpanLaws.{lies_in_some, lies_in_one}
use Rattle.cxl_span.proofs.Cursors.{span_ends}
use Rattle.cxl_span.proofs.laws.spans_lie_in_partitions.Goals as goal

pub returns-clause-some : goal.returns-clause-some
returns-clause-some c = λ block ram pmem i d keeps endpoint here committed. lies_in_some block ram pmem i d keeps endpoint here committed

pub returns-clause-one : goal.returns-clause-one
returns-clause-one c = λ kind other ram pmem start len some one two. lies_in_one kind other ram pmem start len some one two

pub returns-clause-ends : goal.returns-clause-ends
returns-clause-ends c = λ block ram pmem i d keeps endpoint here committed. span_ends block ram pmem i d keeps endpoint here committed
