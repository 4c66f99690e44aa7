-- Blocks one after the other: those of a file, those after reset, and those after a write.
use Rattle.std.proofs.Common.{◌≡◌, ℕ, zero, suc, ◌+◌, ◌<◌, Bool, IsTrue, List, [], ◌∷◌, ◌++◌, length, map, take, Some, refl, sym, ap, subst, ◌∙◌, inl, inr, arith}
use Rattle.std.proofs.lemmas.Bool.{cases_lt, not_from_false}
use Rattle.std.proofs.lemmas.List.{length-replicate, length_push, take_more, map-append, length-map}
use Rattle.std.proofs.lemmas.List.Elements.{All-nil, All-push, All-replicate}
use Rattle.std.proofs.lemmas.Option.{same_Some, slice_get_within, slice_get-map, get_or_from_slice_get}
use Rattle.std.specs.Option.{option_map}
use Rattle.std.specs.Prelude.{slice_get, All}
use Rattle.cxl_enc.specs.Caps.{is_legal_cap}
use Rattle.cxl_enc.proofs.Lists.{get_last}
use Rattle.cxl_regs.specs.Registers.{Registers, IsBlock, IsDecoder, reset_decoder, reset_block}
use Rattle.cxl_topo.specs.declared.node.Node.{Node}
use Rattle.cxl_image.specs.Images.{reset_block_of, reset_blocks, HasCapsOf}
use Rattle.cxl_image.specs.Fields.{start_of, end_of, block_size, block_from}
use Rattle.cxl_image.specs.File.{AgreesUpTo, IsImageFile}
use Rattle.cxl_image.proofs.Places.{start_next}

-- ---- one more element

pub get_front : {X : Type 0} (xs : List X) (x : X) (k : ℕ) → k < length xs → slice_get (xs ++ x ∷ []) k ≡ slice_get xs k
get_front [] x k h = absurd (omega arith)
get_front (y ∷ xs) x zero h = refl
get_front (y ∷ xs) x (suc k) h = get_front xs x k (omega arith)

-- ---- a file's blocks

-- the blocks of the first `i` nodes, which end at byte place `at`
pub record AreReadTo (bytes : List ℕ) (nodes : List Node) (blocks : List Registers) (i at : ℕ) : Type 0 where
  pub place : at ≡ start_of nodes i
  pub count : length blocks ≡ i
  pub each : (k : ℕ) (node : Node) → k < i → slice_get nodes k ≡ Some node → slice_get blocks k ≡ Some (block_from bytes (start_of nodes k) node)
  pub sound : All IsBlock blocks

pub read_none : (bytes : List ℕ) (nodes : List Node) (blocks : List Registers) → blocks ≡ [] → AreReadTo bytes nodes blocks 0 12
read_none bytes nodes blocks none = subst (λ (bs : List Registers). AreReadTo bytes nodes bs 0 12) (sym none) (record {
  place = refl;
  count = refl;
  each = λ k node lt here. absurd (omega arith);
  sound = All-nil IsBlock;
})

pub read_more : (bytes : List ℕ) (nodes : List Node) (blocks : List Registers) (i at : ℕ) (node : Node) (block : Registers) → AreReadTo bytes nodes blocks i at → slice_get nodes i ≡ Some node → block ≡ block_from bytes at node → IsBlock block
    → AreReadTo bytes nodes (blocks ++ block ∷ []) (i + 1) (at + block_size node)
read_more bytes nodes blocks i at node block so_far here is is_block = record {
  place = omega (arith, so_far.place, start_next nodes i node here);
  count = omega (arith, so_far.count, length_push blocks block);
  each = λ k other lt there. elim (cases_lt k i) [
    | inl below ↦ get_front blocks block k (omega (arith, so_far.count)) ∙ so_far.each k other below there
    | inr above ↦
        let k_is : i ≡ k = omega arith in
        let node_is : node ≡ other = same_Some node other (sym here ∙ ap (slice_get nodes) k_is ∙ there) in
        let block_is : block ≡ block_from bytes (start_of nodes k) other =
        is ∙ ap (λ (p : ℕ). block_from bytes p node) (so_far.place ∙ ap (start_of nodes) k_is) ∙ ap (block_from bytes (start_of nodes k)) node_is in
        ap (slice_get (blocks ++ block ∷ [])) (sym k_is ∙ sym so_far.count) ∙ get_last blocks block ∙ ap Some block_is
  ];
  sound = All-push IsBlock blocks block so_far.sound is_block;
}

pub all_read : (bytes : List ℕ) (nodes : List Node) (blocks : List Registers) (i at : ℕ) → AreReadTo bytes nodes blocks i at → i ≡ length nodes → length bytes ≡ end_of nodes → AgreesUpTo bytes nodes (end_of nodes) → IsImageFile bytes nodes blocks
all_read bytes nodes blocks i at so_far end whole agrees = record {
  whole = whole;
  agrees = agrees;
  count = so_far.count ∙ end;
  each = λ k node here. so_far.each k node (omega (arith, end, slice_get_within nodes k node here)) here;
}

-- a file's image has the topology's capability words
pub file_caps : (bytes : List ℕ) (nodes : List Node) (blocks : List Registers) → IsImageFile bytes nodes blocks → HasCapsOf blocks nodes
file_caps bytes nodes blocks file = record {
  count = file.count;
  each = λ i block node at here.
      let is : block ≡ block_from bytes (start_of nodes i) node = same_Some _ _ (sym at ∙ file.each i node here) in
      record { cap = ap (λ (b : Registers). b.cap) is; endpoint = ap (λ (b : Registers). b.endpoint) is };
}

-- ---- after reset

reset_is_decoder : (endpoint : Bool) → IsDecoder endpoint reset_decoder
reset_is_decoder endpoint = record {
  base = record { multiple = refl; wide = omega arith };
  size = record { multiple = refl; wide = omega arith };
  ways = omega arith;
  gran = omega arith;
  tail = omega arith;
  skip = λ e. refl;
}

pub reset_is_block : (cap : ℕ) (endpoint : Bool) → IsTrue (is_legal_cap cap endpoint) → IsBlock (reset_block cap endpoint)
reset_is_block cap endpoint legal = record {
  cap = legal;
  enabled = not_from_false endpoint;
  count = length-replicate _ reset_decoder;
  each = All-replicate (IsDecoder endpoint) _ reset_decoder (reset_is_decoder endpoint);
}

-- the reset blocks of one node more
pub reset_more : (nodes : List Node) (i : ℕ) (node : Node) (block : Registers) → slice_get nodes i ≡ Some node → block ≡ reset_block_of node → map reset_block_of (take i nodes) ++ block ∷ [] ≡ map reset_block_of (take (i + 1) nodes)
reset_more nodes i node block here is =
    let more : take (i + 1) nodes ≡ take i nodes ++ node ∷ [] =
    take_more nodes i node (slice_get_within nodes i node here) ∙ ap (λ (n : Node). take i nodes ++ n ∷ []) (get_or_from_slice_get nodes i node node here) in
    ap (λ (b : Registers). map reset_block_of (take i nodes) ++ b ∷ []) is ∙ sym (map-append reset_block_of (take i nodes) (node ∷ [])) ∙ ap (map reset_block_of) (sym more)

pub reset_caps : (nodes : List Node) → HasCapsOf (reset_blocks nodes) nodes
reset_caps nodes = record {
  count = length-map nodes reset_block_of;
  each = λ i block node at here.
      let is : block ≡ reset_block_of node = same_Some _ _ (sym at ∙ slice_get-map reset_block_of nodes i ∙ ap (option_map reset_block_of) here) in
      record { cap = ap (λ (b : Registers). b.cap) is; endpoint = ap (λ (b : Registers). b.endpoint) is };
}
