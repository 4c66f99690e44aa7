-- What the first endpoint of a range says of it.
use Rattle.std.specs.Prelude.{◌≡◌, ◌==◌, if◌then◌else◌}
use Rattle.std.specs.Option.{option_map_or}
use Rattle.cxl_regs.specs.declared.reading.Range.{Range}
use Rattle.cxl_regs.specs.Reading.{decoder_ways}
use Rattle.cxl_model.specs.System.{System}
use Rattle.cxl_model.specs.Ranges.{first_endpoint, first_decoder, range_ways, range_kind}
use Rattle.cxl_cause.specs.declared.firsts.First.{First}

-- its number, its ways, its code in a window of one way, which is 0 where it has one way, and its kind
pub record IsFirst (s : System) (r : Range) (first : First) : Type 0 where
  pub node : first.node ≡ first_endpoint s r
  pub ways : first.ways ≡ range_ways s r
  pub code : first.code ≡ option_map_or (λ d. if decoder_ways d == 1 then 0 else d.gran) (first_decoder s r) 0
  pub kind : first.kind ≡ range_kind s r
