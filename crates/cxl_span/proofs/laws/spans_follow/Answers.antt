use Rattle.cxl_span.proofs.SpanLaws.{spans_follow}
use Rattle.cxl_span.proofs.laws.spans_follow.Goals as goal

pub returns : goal.returns
returns c = λ decoders i j below within. spans_follow decoders i j below within
