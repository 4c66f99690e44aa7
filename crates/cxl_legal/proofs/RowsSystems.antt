-- The blocks of a system, and the rules K1 to K8 of its image as those of each block.
use Rattle.std.proofs.Common.{◌≡◌, ℕ, ◌<◌, false, [], length, Option, Some, None, refl, sym, ap, ◌∙◌, arith}
use Rattle.std.specs.Prelude.{slice_get}
use Rattle.std.specs.Option.{option_map_or}
use Rattle.std.proofs.lemmas.Option.{slice_get_within}
use Rattle.cxl_enc.proofs.Lists.{All-at, item}
use Rattle.cxl_topo.specs.Tree.{is_endpoint_at}
use Rattle.cxl_topo.specs.Kinds.{is_endpoint}
use Rattle.cxl_topo.specs.declared.node.Node.{Node}
use Rattle.cxl_regs.specs.declared.decoder.Decoder.{Decoder}
use Rattle.cxl_regs.specs.Registers.{Registers, IsBlock}
use Rattle.cxl_model.specs.System.{System, IsSystem, decoders_at, decoder_at}
use Rattle.cxl_model.proofs.OtherBlocks.{decoders_are}
use Rattle.cxl_legal.specs.Endpoints.{cap_at}

-- ---- the block of a node

-- a node of a system, with its block
pub record HasBlock (s : System) (n : ℕ) : Type 0 where
  pub node : Node
  pub block : Registers
  pub named : slice_get s.nodes n ≡ Some node
  pub here : slice_get s.blocks n ≡ Some block
  pub decoders : decoders_at s n ≡ block.decoders
  pub cap : cap_at s n ≡ block.cap
  pub endpoint : is_endpoint_at s.nodes n ≡ block.endpoint
  pub is : IsBlock block

pub block_of : (s : System) (n : ℕ) → IsSystem s → n < length s.nodes → HasBlock s n
block_of s n system within =
    let count = system.caps.count in
    let node = item s.nodes n within in
    let block = item s.blocks n (omega arith) in
    let own = system.caps.each n block.0 node.0 block.1 node.1 in
    record {
      node = node.0;
      block = block.0;
      named = node.1;
      here = block.1;
      decoders = decoders_are s n block.0 block.1;
      cap = ap (λ (o : Option Node). option_map_or (λ x. x.cap) o 0) node.1 ∙ sym own.cap;
      endpoint = ap (λ (o : Option Node). option_map_or (λ (x : Node). is_endpoint x.kind) o false) node.1 ∙ sym own.endpoint;
      is = All-at IsBlock s.blocks n block.0 block.1 system.blocks;
    }

-- a node with a decoder is one of the system
pub decoder_within : (s : System) (n i : ℕ) (d : Decoder) → IsSystem s → decoder_at s n i ≡ Some d → n < length s.nodes
decoder_within s n i d system there = go (slice_get s.blocks n) refl there
  where
    go : (o : Option Registers) → slice_get s.blocks n ≡ o → slice_get (option_map_or (λ block. block.decoders) o []) i ≡ Some d → n < length s.nodes
    go None is at = let none = slice_get_within [] i d at in absurd (omega arith)
    go (Some block) is at = let low = slice_get_within s.blocks n block is in let count = system.caps.count in omega arith
