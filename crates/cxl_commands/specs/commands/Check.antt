-- What `check` comes to.
use Rattle.std.specs.Prelude.{◌≡◌, ℕ, List, map, take}
use Rattle.std.specs.List.{concat}
use Rattle.cxl_table.specs.CedtFields.{CedtFields}
use Rattle.cxl_inputs.specs.Host.{host_of, AreRead}
use Rattle.cxl_inputs.specs.Outcome.{Outcome, one_piece}
use Rattle.cxl_inputs.specs.declared.status.Status.TheVariants.{Done, Refused}
use Rattle.cxl_io.specs.Sink.{SinkState, Takes}
use Rattle.cxl_io.specs.Told.{Told}
use Rattle.cxl_model.specs.Accepted.{IsAccepted, IsFirstBreach}
use Rattle.cxl_model.specs.Listed.{AreRegionsByBase}
use Rattle.cxl_model.specs.System.{System, IsSystem}
use Rattle.cxl_model.specs.declared.found.Found.{Found}
use Rattle.cxl_regs.specs.Registers.{Registers}
use Rattle.cxl_reply.specs.Plans.{found_text, breach_text}
use Rattle.cxl_topo.specs.Tree.{Tree}
use Rattle.cxl_topo.specs.declared.node.Node.{Node}

-- a piece for each region, with its slots
abbrev pub accepted : List Node → List Found → Outcome
accepted nodes regions = record { status = Done; pieces = map (found_text nodes) regions }

-- the rule that is broken first, with the node and the decoder that break it
abbrev pub broken : List Node → ℕ → ℕ → ℕ → Outcome
broken nodes rule node decoder = one_piece Refused (breach_text nodes rule node decoder)

-- the image of a system is accepted, and its regions are told by rising base; or its first breach is told
pub data IsChecked (s : System) (outcome : Outcome) : Type 0 where
  regions_told : (regions : List Found) → IsSystem s → IsAccepted s → AreRegionsByBase s regions → outcome ≡ accepted s.nodes regions → IsChecked s outcome
  breach_told : (rule node decoder : ℕ) → IsFirstBreach s rule node decoder → outcome ≡ broken s.nodes rule node decoder → IsChecked s outcome

-- the files are a table, a topology and an image that is accepted, and these are its regions by rising base
pub record AreRegionsIn (told : List ℕ → Told) (cedt topo image : List ℕ) (nodes : List Node) (regions : List Found) : Type 0 where
  pub table : CedtFields
  pub tree : Tree
  pub blocks : List Registers
  pub read : AreRead told cedt topo image table tree blocks
  pub over : nodes ≡ tree.nodes
  pub system : IsSystem (host_of table tree blocks)
  pub accepted : IsAccepted (host_of table tree blocks)
  pub listed : AreRegionsByBase (host_of table tree blocks) regions

-- the text is the lines of the regions of an accepted image
pub record IsRegionsText (told : List ℕ → Told) (cedt topo image text : List ℕ) : Type 0 where
  pub nodes : List Node
  pub regions : List Found
  pub found : AreRegionsIn told cedt topo image nodes regions
  pub lines : text ≡ concat (map (found_text nodes) regions)

-- the lines of some first regions of an accepted image are written
pub record TakesRegions (told : List ℕ → Told) (cedt topo image : List ℕ) (old new : SinkState) : Type 0 where
  pub nodes : List Node
  pub regions : List Found
  pub found : AreRegionsIn told cedt topo image nodes regions
  pub count : ℕ
  pub taken : Takes old new (concat (take count (map (found_text nodes) regions)))

-- the files are a table, a topology and an image, and the text is the line of that image's first breach
pub record IsBreachText (told : List ℕ → Told) (cedt topo image text : List ℕ) : Type 0 where
  pub table : CedtFields
  pub tree : Tree
  pub blocks : List Registers
  pub rule : ℕ
  pub node : ℕ
  pub decoder : ℕ
  pub read : AreRead told cedt topo image table tree blocks
  pub first : IsFirstBreach (host_of table tree blocks) rule node decoder
  pub names : text ≡ breach_text tree.nodes rule node decoder
