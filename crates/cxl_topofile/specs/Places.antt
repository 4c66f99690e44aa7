-- The place of a fault as messages name it.
use Rattle.std.specs.Prelude.{ℕ, List, ◌++◌, codes, decimal}
use Rattle.cxl_topofile.specs.declared.fault.TableKey.{TableKey}
use Rattle.cxl_topofile.specs.declared.fault.Section.{Section}
use Rattle.cxl_topofile.specs.declared.fault.Section.TheVariants.{Top, Bridge, Switch, Endpoint}
use Rattle.cxl_topofile.specs.Keys.{shown_key}

-- the top table, or a table by its number among its kind
abbrev pub section_text : Section → ℕ → List ℕ
section_text Top index = codes "top"
section_text Bridge index = codes "bridge " ++ decimal index
section_text Switch index = codes "switch " ++ decimal index
section_text Endpoint index = codes "endpoint " ++ decimal index

-- the table, and the key in it
abbrev pub place_text : TableKey → List ℕ
place_text place = section_text place.section place.index ++ codes " " ++ shown_key place.key
