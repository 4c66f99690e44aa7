-- What the objects of the outside hold at one moment.
use Rattle.cxl_io.specs.Fetch.{FetchState}
use Rattle.cxl_io.specs.Sink.{SinkState}

-- what files and sink hold at a moment
pub record Outside : Type 0 where
  pub files : FetchState
  pub out : SinkState

-- of these two, what they hold at a moment
abbrev pub outside : FetchState → SinkState → Outside
outside files out = record { files = files; out = out }
