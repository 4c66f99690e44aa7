-- Sections by their names.
use Rattle.std.specs.Prelude.{ℕ, List, codes}
use Rattle.cxl_topofile.specs.declared.fault.Section.{Section}
use Rattle.cxl_topofile.specs.declared.fault.Section.TheVariants.{Top, Bridge, Switch, Endpoint}

-- a section as a message names it
abbrev pub section_name : Section → List ℕ
section_name Top = codes "top"
section_name Bridge = codes "bridge"
section_name Switch = codes "switch"
section_name Endpoint = codes "endpoint"
