-- The record that a text without fault spells, field by field.
use Rattle.std.specs.Prelude.{◌≡◌, ℕ, ◌+◌, ◌*◌, ◌≤◌, ◌==◌, if◌then◌else◌, List, length, drop, Some, unwrap_or}
use Rattle.cxl_table.specs.Layout.{chbs_kind, cfmws_kind, cxims_kind, reserved_place, frame_size, uid_place, version_place, register_base_place, register_length_place, chbs_size, window_base_place, window_size_place, ways_place, arithmetic_place, window_gran_place, restrict_place, qtg_place, window_front_size, maps_gran_place, maps_count_place, maps_front_size}
use Rattle.cxl_table.specs.declared.chbs.Chbs as chbs
use Rattle.cxl_table.specs.declared.cedt.Record.{Record}
use Rattle.cxl_table.specs.declared.cedt.Record.TheVariants.{Chbs, Cfmws, Cxims, Other}
use Rattle.cxl_table.specs.Fields.{CfmwsFields, CximsFields, OtherFields}
use Rattle.cxl_cedt.specs.Table.{field, fields, kind_said, length_said, ways_said}

-- the ways of a window's code, 0 where it is unknown
abbrev pub known_ways : List ℕ → ℕ
known_ways text = unwrap_or (ways_said text) 0

-- a window's text without fault: its ways are known, and it is as long as they ask
pub record IsSoundWindow (text : List ℕ) : Type 0 where
  pub ways : ways_said text ≡ Some (known_ways text)
  pub size : length text ≡ window_front_size + 4 * known_ways text
  pub gran : field text window_gran_place 4 ≤ 6
  pub arithmetic : field text arithmetic_place 1 ≤ 1

-- a text of XOR maps without fault: it is as long as their number asks
pub record AreSoundMaps (text : List ℕ) : Type 0 where
  pub size : length text ≡ maps_front_size + 8 * field text maps_count_place 1
  pub gran : field text maps_gran_place 1 ≤ 6

-- a text without fault
pub record IsSoundText (text : List ℕ) : Type 0 where
  pub said : length_said text ≡ length text
  pub long : frame_size ≤ length text
  pub chbs : kind_said text ≡ chbs_kind → length text ≡ chbs_size
  pub window : kind_said text ≡ cfmws_kind → IsSoundWindow text
  pub maps : kind_said text ≡ cxims_kind → AreSoundMaps text

-- the CHBS that a text spells
unfoldable pub chbs_of : List ℕ → chbs.Chbs
chbs_of text = record {
  uid = field text uid_place 4;
  version = field text version_place 4;
  base = field text register_base_place 8;
  length = field text register_length_place 8;
}

-- the CFMWS that a text spells
unfoldable pub cfmws_of : List ℕ → CfmwsFields
cfmws_of text = record {
  base = field text window_base_place 8;
  size = field text window_size_place 8;
  ways = field text ways_place 1;
  xor = field text arithmetic_place 1 == 1;
  gran = field text window_gran_place 4;
  restrict = field text restrict_place 2;
  qtg = field text qtg_place 2;
  targets = fields text window_front_size 4 (known_ways text);
}

-- the CXIMS that a text spells
unfoldable pub cxims_of : List ℕ → CximsFields
cxims_of text = record {
  gran = field text maps_gran_place 1;
  maps = fields text maps_front_size 8 (field text maps_count_place 1);
}

-- the record of another type that a text spells
unfoldable pub other_of : List ℕ → OtherFields
other_of text = record {
  kind = kind_said text;
  reserved = field text reserved_place 1;
  body = drop frame_size text;
}

-- the record that a text spells, by its type
unfoldable pub record_of : List ℕ → Record
record_of text =
    if kind_said text == chbs_kind then Chbs (chbs_of text)
    else (if kind_said text == cfmws_kind then Cfmws (cfmws_of text)
    else (if kind_said text == cxims_kind then Cxims (cxims_of text)
    else Other (other_of text)))
