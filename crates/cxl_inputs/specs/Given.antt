-- What bytes come to that are given as those of a file, under its name.
use Rattle.std.specs.Prelude.{◌≡◌, ℕ, ◌<◌, ◌⊎◌, List, length}
use Rattle.cxl_cedt.specs.declared.fault.CedtFault.{CedtFault}
use Rattle.cxl_enc.specs.Limits.{file_limit}
use Rattle.cxl_image.specs.declared.fault.ImageFault.{ImageFault}
use Rattle.cxl_topo.specs.declared.node.Node.{Node}
use Rattle.cxl_topofile.specs.declared.fault.TopoFault.{TopoFault}
use Rattle.cxl_inputs.specs.File.{too_large}
use Rattle.cxl_inputs.specs.Image.{IsFaultyImage, bad_image}
use Rattle.cxl_inputs.specs.Outcome.{Outcome}
use Rattle.cxl_inputs.specs.Table.{IsFaulty, bad_table}
use Rattle.cxl_inputs.specs.Topology.{IsFaultyTree, bad_topology}

-- they are too many
pub record AreTooMany (file bytes : List ℕ) (outcome : Outcome) : Type 0 where
  pub many : file_limit < length bytes
  pub told : outcome ≡ too_large file

-- they spell no table: they are too many, or have this first fault
abbrev pub SpellNoTable : List ℕ → List ℕ → Outcome → Type 0
SpellNoTable file bytes outcome = AreTooMany file bytes outcome ⊎ ((fault : CedtFault) × IsFaulty bytes fault × (outcome ≡ bad_table fault))

-- they stand for no tree
abbrev pub StandForNoTree : List ℕ → List ℕ → Outcome → Type 0
StandForNoTree file bytes outcome =
    AreTooMany file bytes outcome ⊎ ((fault : TopoFault) × IsFaultyTree bytes fault × (outcome ≡ bad_topology fault))

-- they hold no image over these nodes
abbrev pub HoldNoImage : List ℕ → List ℕ → List Node → Outcome → Type 0
HoldNoImage file bytes nodes outcome =
    AreTooMany file bytes outcome ⊎ ((fault : ImageFault) × IsFaultyImage bytes nodes fault × (outcome ≡ bad_image fault))
