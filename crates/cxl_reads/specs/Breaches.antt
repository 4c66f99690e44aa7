-- All places that break the first broken rule of an image, as lines (this project's rule).
use Rattle.std.specs.Prelude.{◌≡◌, ℕ, List, [], ◌∷◌}
use Rattle.std.specs.List.{flat_map}
use Rattle.cxl_table.specs.CedtFields.{CedtFields}
use Rattle.cxl_check.specs.Breaches.{AreFirstBreaches}
use Rattle.cxl_check.specs.declared.fault.Breach.{Breach}
use Rattle.cxl_model.specs.System.{System}
use Rattle.cxl_topo.specs.declared.node.Node.{Node}
use Rattle.cxl_topo.specs.Tree.{Tree}
use Rattle.cxl_regs.specs.Registers.{Registers}
use Rattle.cxl_reply.specs.Plans.{breach_text}
use Rattle.cxl_inputs.specs.Given.{SpellNoTable, StandForNoTree, HoldNoImage}
use Rattle.cxl_inputs.specs.Host.{host_of}
use Rattle.cxl_inputs.specs.Image.{IsImageReading}
use Rattle.cxl_inputs.specs.Outcome.{Outcome, one_piece}
use Rattle.cxl_inputs.specs.Table.{IsReading}
use Rattle.cxl_inputs.specs.Topology.{IsTreeReading}
use Rattle.cxl_inputs.specs.declared.status.Status.{Status}
use Rattle.cxl_inputs.specs.declared.status.Status.TheVariants.{Done, Refused}
use Rattle.cxl_reads.specs.Answers.{table_name, topology_name, image_name}

-- the line of a breach
abbrev pub breach_line : List Node → Breach → List ℕ
breach_line nodes b = breach_text nodes b.rule b.node b.decoder

-- the status of `check` by the breaches of an image
abbrev pub verdict : List Breach → Status
verdict [] = Done
verdict (b ∷ others) = Refused

-- a line for each breach
abbrev pub broken_at : List Node → List Breach → Outcome
broken_at nodes breaches = one_piece (verdict breaches) (flat_map (breach_line nodes) breaches)

-- the outcome tells all places of a system that break its first broken rule
pub record TellsBreaches (s : System) (outcome : Outcome) : Type 0 where
  pub breaches : List Breach
  pub first : AreFirstBreaches s breaches
  pub told : outcome ≡ broken_at s.nodes breaches

-- the table, the tree and the image are those that the bytes spell, stand for and hold
pub record AreGiven (cedt topo image : List ℕ) (table : CedtFields) (tree : Tree) (blocks : List Registers) : Type 0 where
  pub of_table : IsReading cedt table
  pub of_tree : IsTreeReading topo tree
  pub of_image : IsImageReading image tree.nodes blocks

-- the first of the files that has no reading, or a line for each place that breaks the first broken rule
pub data AreBreaches (cedt topo image : List ℕ) (outcome : Outcome) : Type 0 where
  no_table : SpellNoTable table_name cedt outcome → AreBreaches cedt topo image outcome
  no_tree : (table : CedtFields) → IsReading cedt table → StandForNoTree topology_name topo outcome → AreBreaches cedt topo image outcome
  no_image : (table : CedtFields) (tree : Tree) → IsReading cedt table → IsTreeReading topo tree → HoldNoImage image_name image tree.nodes outcome → AreBreaches cedt topo image outcome
  places : (table : CedtFields) (tree : Tree) (blocks : List Registers) → AreGiven cedt topo image table tree blocks → TellsBreaches (host_of table tree blocks) outcome → AreBreaches cedt topo image outcome
