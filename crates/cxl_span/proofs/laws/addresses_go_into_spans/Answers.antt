use Rattle.cxl_span.proofs.Sending.{sent_below}
use Rattle.cxl_span.proofs.laws.addresses_go_into_spans.Goals as goal

pub returns-clause-below : goal.returns-clause-below
returns-clause-below c = sent_below
