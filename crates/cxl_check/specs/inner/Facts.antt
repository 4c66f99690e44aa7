-- What the rules K9 to K12 ask of one decoder, by the number of the rule.
use Rattle.std.specs.Prelude.{◌≡◌, ℕ, ◌==◌, Bool, if◌then◌else◌}
use Rattle.std.specs.Option.{option_map_or}
use Rattle.cxl_regs.specs.declared.decoder.Decoder.{Decoder}
use Rattle.cxl_regs.specs.declared.reading.Range.{Range}
use Rattle.cxl_regs.specs.Reading.{decoder_ways}
use Rattle.cxl_check.specs.declared.facts.RangeFacts.{RangeFacts}
use Rattle.cxl_check.specs.declared.tables.Tables.{Tables}
use Rattle.cxl_check.specs.inner.Children.{AreAllChildren}
use Rattle.cxl_check.specs.inner.DecoderFacts.{AreAllFacts}
use Rattle.cxl_check.specs.inner.Firsts.{ListsFirsts, AreLandings}
use Rattle.std.specs.Prelude.{length}
use Rattle.cxl_model.specs.System.{System}
use Rattle.cxl_model.specs.Ranges.{first_decoder, range_ways, range_kind}
use Rattle.cxl_model.specs.Rules.{keeps_window, keeps_targets, keeps_reach, keeps_ways}

-- the rule of this number, of decoder i of node n
abbrev pub keeps_rule : System → ℕ → ℕ → ℕ → Decoder → Bool
keeps_rule s rule n i d =
    if rule == 9 then keeps_window s n i d
    else (if rule == 10 then keeps_targets s n d
    else (if rule == 11 then keeps_reach s n d
    else keeps_ways s n i d))

-- the code of a range in a window of one way: its first endpoint's, and 0 where that has one way
abbrev pub own_code : System → Range → ℕ
own_code s r = option_map_or (λ d. if decoder_ways d == 1 then 0 else d.gran) (first_decoder s r) 0

-- what the first endpoint says of its range
pub record AreFacts (s : System) (r : Range) (facts : RangeFacts) : Type 0 where
  pub ways : facts.ways ≡ range_ways s r
  pub code : facts.code ≡ own_code s r
  pub kind : facts.kind ≡ range_kind s r

-- the tables are those of the image
pub record AreSystemTables (s : System) (tables : Tables) : Type 0 where
  pub children : AreAllChildren s.nodes tables.children.items
  pub landings : AreLandings s.nodes tables.landings.items
  pub firsts : ListsFirsts s (length s.nodes) tables.firsts
  pub decoders : AreAllFacts s tables.decoders.items
