-- The blocks of a system, node by node.
use Rattle.std.proofs.Common.{◌≡◌, ℕ, ◌<◌, false, [], length, Option, Some, None, refl, sym, ap, ◌∙◌, arith}
use Rattle.std.specs.Prelude.{slice_get}
use Rattle.std.specs.Option.{option_map_or}
use Rattle.std.proofs.lemmas.Option.{slice_get_within}
use Rattle.cxl_enc.proofs.Lists.{item}
use Rattle.cxl_topo.specs.Tree.{is_endpoint_at}
use Rattle.cxl_topo.specs.Kinds.{is_endpoint}
use Rattle.cxl_topo.specs.declared.node.Node.{Node}
use Rattle.cxl_regs.specs.Registers.{Registers}
use Rattle.cxl_image.specs.Images.{HasCapsOf}
use Rattle.cxl_model.specs.System.{System, decoders_at}

-- the decoders of a node are those of its block
pub record HasBlock (s : System) (n : ℕ) : Type 0 where
  pub block : Registers
  pub here : slice_get s.blocks n ≡ Some block
  pub decoders : decoders_at s n ≡ block.decoders

-- a node with a decoder has a block
pub block_of : (s : System) (n i : ℕ) → i < length (decoders_at s n) → HasBlock s n
block_of s n i within = go (slice_get s.blocks n) refl
  where
    go : (o : Option Registers) → slice_get s.blocks n ≡ o → HasBlock s n
    go None none =
        let empty : length (decoders_at s n) ≡ 0 = ap (λ (o : Option Registers). length (option_map_or (λ block. block.decoders) o [])) none in
        absurd (omega arith)
    go (Some block) is = record { block = block; here = is; decoders = ap (λ (o : Option Registers). option_map_or (λ b. b.decoders) o []) is }

-- a block is an endpoint's exactly where its node is one
pub endpoint_is : (s : System) (n : ℕ) (block : Registers) → HasCapsOf s.blocks s.nodes → slice_get s.blocks n ≡ Some block → is_endpoint_at s.nodes n ≡ block.endpoint
endpoint_is s n block caps here =
    let low : n < length s.blocks = slice_get_within s.blocks n block here in
    let same : length s.blocks ≡ length s.nodes = caps.count in
    let node = item s.nodes n (omega arith) in
    ap (λ (o : Option Node). option_map_or (λ (x : Node). is_endpoint x.kind) o false) node.1 ∙ sym (caps.each n block node.0 here node.1).endpoint
