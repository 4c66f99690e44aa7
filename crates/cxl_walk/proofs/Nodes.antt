-- What a node that does not forward does with an address.
use Rattle.std.proofs.Common.{◌≡◌, ℕ, true, false, not, List, [], Option, Some, None, refl, sym, ap, subst, ◌∙◌, inr, arith}
use Rattle.std.specs.Prelude.{slice_get, IsNone, is_some, ◌↔◌}
use Rattle.std.specs.Option.{option_map_or}
use Rattle.std.proofs.lemmas.Bool.{false≢true}
use Rattle.std.proofs.lemmas.Option.{slice_get_within}
use Rattle.cxl_enc.proofs.Options.{and_some}
use Rattle.cxl_enc.proofs.Lists.{item}
use Rattle.cxl_topo.specs.declared.node.Node.{Node}
use Rattle.cxl_topo.specs.Kinds.{is_endpoint}
use Rattle.cxl_topo.specs.Tree.{Tree, forwards_at, is_port_at, is_endpoint_at, child_of}
use Rattle.cxl_regs.specs.declared.decoder.Decoder.{Decoder}
use Rattle.cxl_regs.specs.Registers.{Registers}
use Rattle.cxl_regs.specs.Reading.{holds_address, entry_at, entry_of}
use Rattle.cxl_span.specs.Spans.{span_start_of, endpoint_place_of}
use Rattle.cxl_span.specs.Breaches.{BlockKeeps}
use Rattle.cxl_window.specs.Fields.{WindowFields}
use Rattle.cxl_image.specs.Images.{HasCapsOf}
use Rattle.cxl_model.specs.System.{KeepsBlock, ram_at, pmem_at, decoder_at, system_of}
use Rattle.cxl_model.specs.Chain.{Decodes, IsStep, IsArrival, IsBadBlock, LacksDecoder, LacksChild}

-- a test that an option is a value
pub none_then : {A : Type 0} (o : Option A) (P : Type 0) → IsNone o ↔ P → is_some o ≡ false → P
none_then o P says none = says.0 none

pub some_not : {A : Type 0} (o : Option A) (P : Type 0) → IsNone o ↔ P → is_some o ≡ true → P → ⊥
some_not o P says some p = false≢true (sym (says.1 p) ∙ some)

-- the block of a node that does not forward, and the bytes of the node's device
pub record IsHere (nodes : List Node) (blocks : List Registers) (n : ℕ) (block : Registers) (ram pmem : ℕ) : Type 0 where
  pub own : forwards_at nodes n ≡ false
  pub there : slice_get blocks n ≡ Some block
  pub ram_is : ram ≡ ram_at (system_of [] (record { nodes = nodes; frames = 0 }) []) n
  pub pmem_is : pmem ≡ pmem_at (system_of [] (record { nodes = nodes; frames = 0 }) []) n
  pub endpoint : is_endpoint_at nodes n ≡ block.endpoint
  pub port : is_port_at nodes n ≡ not block.endpoint

pub here : (nodes : List Node) (blocks : List Registers) (n : ℕ) (block : Registers) (ram pmem : ℕ) → HasCapsOf blocks nodes → forwards_at nodes n ≡ false → slice_get blocks n ≡ Some block
    → ram ≡ ram_at (system_of [] (record { nodes = nodes; frames = 0 }) []) n → pmem ≡ pmem_at (system_of [] (record { nodes = nodes; frames = 0 }) []) n
    → IsHere nodes blocks n block ram pmem
here nodes blocks n block ram pmem caps own there ram_same pmem_same =
    let within = slice_get_within blocks n block there in
    let count = caps.count in
    let node = item nodes n (omega arith) in
    let kind = (caps.each n block node.0 there node.1).endpoint in
    record {
      own = own;
      there = there;
      ram_is = ram_same;
      pmem_is = pmem_same;
      endpoint = ap (λ (o : Option Node). option_map_or (λ node. is_endpoint node.kind) o false) node.1 ∙ sym kind;
      port = ap (λ (o : Option Node). option_map_or (λ node. not (is_endpoint node.kind)) o false) node.1 ∙ ap not (sym kind);
    }

module _ (tree : Tree) (blocks : List Registers) (windows : List WindowFields) (h n : ℕ) (block : Registers) (ram pmem : ℕ) (at : IsHere tree.nodes blocks n block ram pmem) where
  keeps : BlockKeeps block ram pmem → KeepsBlock (system_of blocks tree windows) n
  keeps kept =
      rw at.there
      (subst (λ (r : ℕ). BlockKeeps block r (pmem_at (system_of blocks tree windows) n)) at.ram_is
      (subst (λ (p : ℕ). BlockKeeps block ram p) at.pmem_is kept))

  kept_of : KeepsBlock (system_of blocks tree windows) n → BlockKeeps block ram pmem
  kept_of kept =
      subst (λ (p : ℕ). BlockKeeps block ram p) (sym at.pmem_is)
      (subst (λ (r : ℕ). BlockKeeps block r (pmem_at (system_of blocks tree windows) n)) (sym at.ram_is)
      (rw at.there at kept))

  decodes : BlockKeeps block ram pmem → Decodes (system_of blocks tree windows) n
  decodes kept = record { own = at.own; sound = keeps kept }

  decoder_here : (i : ℕ) (d : Decoder) → slice_get block.decoders i ≡ Some d → decoder_at (system_of blocks tree windows) n i ≡ Some d
  decoder_here i d there = rw at.there there

  pub bad_block : (BlockKeeps block ram pmem → ⊥) → IsBadBlock (system_of blocks tree windows) n
  bad_block broken = record { own = at.own; broken = λ kept. broken (kept_of kept) }

  pub lacks_decoder : BlockKeeps block ram pmem → ((i : ℕ) (d : Decoder) → slice_get block.decoders i ≡ Some d → holds_address d h ≡ false) → LacksDecoder (system_of blocks tree windows) h n
  lacks_decoder kept none =
      record { decodes = decodes kept; none = λ i d there. none i d (rw at.there at there) }

  pub arrives : (i : ℕ) (d : Decoder) → BlockKeeps block ram pmem → block.endpoint ≡ true → slice_get block.decoders i ≡ Some d → holds_address d h ≡ true
      → IsArrival (system_of blocks tree windows) h n (record { endpoint = n; decoder = i; base = d.base; dpa = endpoint_place_of (span_start_of block.decoders i) d h })
  arrives i d kept endpoint there holds = record {
    here = refl;
    endpoint = at.endpoint ∙ endpoint;
    decodes = decodes kept;
    place = and_some (decoder_at (system_of blocks tree windows) n i) _ d (decoder_here i d there)
        (record { holds = holds; base = refl; dpa = rw at.there refl });
  }

  is_port : block.endpoint ≡ false → is_port_at tree.nodes n ≡ true
  is_port port = at.port ∙ ap not port

  pub steps : (i entry child : ℕ) (d : Decoder) → BlockKeeps block ram pmem → block.endpoint ≡ false → slice_get block.decoders i ≡ Some d → holds_address d h ≡ true
      → entry ≡ entry_of d h → child_of tree.nodes n (entry_at d entry) ≡ Some child
      → IsStep (system_of blocks tree windows) h n (record { node = n; decoder = i; entry = entry }) child
  steps i entry child d kept port there holds sends listed = record {
    here = refl;
    port = is_port port;
    decodes = decodes kept;
    choice = and_some (decoder_at (system_of blocks tree windows) n i) _ d (decoder_here i d there)
        (record { holds = holds; sends = sends; listed = listed });
  }

  pub lacks_child : (i entry : ℕ) (d : Decoder) → BlockKeeps block ram pmem → block.endpoint ≡ false → slice_get block.decoders i ≡ Some d → holds_address d h ≡ true
      → entry ≡ entry_of d h → child_of tree.nodes n (entry_at d entry) ≡ None
      → LacksChild (system_of blocks tree windows) h n
  lacks_child i entry d kept port there holds sends listed = inr (record {
    port = is_port port;
    decodes = decodes kept;
    choice = (
      i,
      entry,
      and_some (decoder_at (system_of blocks tree windows) n i) _ d (decoder_here i d there)
          (record { holds = holds; sends = sends; listed = listed }),
    );
  })
