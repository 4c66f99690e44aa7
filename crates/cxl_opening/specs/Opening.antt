-- How a session opens on an image, and where it stops before (this project's rule).
use Rattle.std.specs.Prelude.{◌≡◌, ℕ, ◌<◌, List, [], ◌∷◌, length, take, map, filter, option_map}
use Rattle.std.specs.List.{range_with_len}
use Rattle.std.specs.FinMap as finmap
use Rattle.cxl_topo.specs.declared.node.Node.{Node}
use Rattle.cxl_topo.specs.Tree.{is_endpoint_at}
use Rattle.cxl_regs.specs.Registers.{Registers}
use Rattle.cxl_bus.specs.declared.sent.Sent.{Sent}
use Rattle.cxl_bus.specs.Failed.{HasFailed, fresh}
use Rattle.cxl_bus.specs.RegsState.{RegsState}
use Rattle.cxl_bus.specs.Trail.{blocks_sent}
use Rattle.cxl_media.specs.MediaState.{MediaState}
use Rattle.cxl_model.specs.declared.found.Found.{Found}
use Rattle.cxl_model.specs.System.{System}
use Rattle.cxl_model.specs.Accepted.{IsAccepted}
use Rattle.cxl_model.specs.Listed.{AreRegionsByBase}
use Rattle.cxl_machine.specs.declared.fault.OpenFault.{OpenFault}
use Rattle.cxl_machine.specs.declared.fault.OpenFault.TheVariants as faults

-- the endpoints by number
abbrev pub endpoints_in : List Node → List ℕ
endpoints_in nodes = filter (is_endpoint_at nodes) (range_with_len 0 (length nodes))

-- decoding is enabled in these endpoints, a word each: 2 to the offset 4
abbrev pub enabling : List ℕ → List Sent
enabling endpoints = map (λ node. record { node = node; off = 4; value = 2 }) endpoints

-- these blocks are powered on, with nothing sent since, and no call that failed
abbrev pub ArePoweredOn : List Registers → RegsState → RegsState → Type 0
ArePoweredOn blocks old new = (new.blocks ≡ blocks) × (new.trail ≡ option_map (λ _. []) old.trail) × (new.failed_at ≡ option_map (λ _. []) old.failed_at)

-- no block, and so many free frames
abbrev pub empty_media : ℕ → MediaState
empty_media frames = record { blocks = finmap.empty; free = frames }

-- the bus failed behind the first n endpoints, n below their number: these decode, their words are sent, and nothing is called
-- behind the one that failed
pub record IsHalfEnabled (start : System) (old new : RegsState) : Type 0 where
  pub n : ℕ
  pub part : n < length (endpoints_in start.nodes)
  pub blocks : new.blocks ≡ blocks_sent start.blocks (enabling (take n (endpoints_in start.nodes)))
  pub words : new.trail ≡ option_map (λ _. enabling (take n (endpoints_in start.nodes))) old.trail
  pub fails : HasFailed (fresh old) new (n ∷ [])

-- the image is refused, for a breach or for too many regions
abbrev pub IsRefusedImage : OpenFault → Type 0
IsRefusedImage (faults.Breach breach) = Unit {0}
IsRefusedImage (faults.Full n) = Unit {0}
IsRefusedImage faults.Bus = ⊥
IsRefusedImage faults.Memory = ⊥

-- the regions of an accepted image number n
abbrev pub HasRegions : System → ℕ → Type 0
HasRegions s n = IsAccepted s × ((regions : List Found) × AreRegionsByBase s regions × (length regions ≡ n))
