-- The blocks of a host stay blocks of its nodes where rows change their decoders.
use Rattle.std.proofs.Common.{◌≡◌, ℕ, Bool, true, List, [], ◌∷◌, length, get_or, Option, Some, None, refl, sym, ◌∙◌, subst}
use Rattle.std.specs.Prelude.{slice_get, slice_set, All, fold}
use Rattle.std.specs.Option.{option_map_or}
use Rattle.std.proofs.lemmas.List.{length-set}
use Rattle.std.proofs.lemmas.List.Elements.{All-head, All-tail, All-set, Contains-get_or}
use Rattle.std.proofs.lemmas.Option.{slice_get-get_or}
use Rattle.cxl_topo.specs.declared.node.Node.{Node}
use Rattle.cxl_topo.specs.Tree.{is_endpoint_at}
use Rattle.cxl_image.specs.Images.{IsBlockOf}
use Rattle.cxl_regs.specs.Registers.{Registers, IsBlock, IsDecoder}
use Rattle.cxl_model.specs.declared.found.Found.{Found}
use Rattle.cxl_model.specs.declared.plan.Plan.{Plan}
use Rattle.cxl_model.specs.declared.plan.Row.{Row}
use Rattle.cxl_model.specs.declared.request.Request.{Request}
use Rattle.cxl_model.specs.System.{System, IsSystem}
use Rattle.cxl_model.specs.Regions.{region_range}
use Rattle.cxl_model.specs.Plans.{committed_row, block_with_row, blocks_with_row, with_rows, IsLegalPlan}
use Rattle.cxl_apply.specs.Releases.{row_for, rows_of, released, block_without_row, system_without}
use Rattle.cxl_apply.proofs.JobWrites.{AllGood, all_at, good_put}
use Rattle.cxl_apply.proofs.Folds.{change}
use Rattle.cxl_apply.proofs.Systems.{endpoint_is}
use Rattle.cxl_apply.proofs.Freed.{IsRowFor, row_parts, all_rows, in_block}

-- ---- a fact of each block, over rows that change blocks

-- a row keeps it
abbrev pub Keeps : (ℕ → Registers → Type 0) → (Row → Registers → Registers) → Row → Type 0
Keeps Good g row = (block : Registers) → Good row.node block → Good row.node (g row block)

good_changed : (Good : ℕ → Registers → Type 0) (g : Row → Registers → Registers) (blocks : List Registers) (row : Row) (o : Option Registers) → slice_get blocks row.node ≡ o → AllGood Good blocks → Keeps Good g row
    → AllGood Good (option_map_or (λ block. slice_set blocks row.node (g row block)) o blocks)
good_changed Good g blocks row None is all keeps = all
good_changed Good g blocks row (Some block) is all keeps = good_put Good blocks row.node block (g row block) is all (keeps block (all row.node block is))

good_fold : (Good : ℕ → Registers → Type 0) (g : Row → Registers → Registers) (rows : List Row) (blocks : List Registers) → AllGood Good blocks → All (Keeps Good g) rows → AllGood Good (fold (change g) blocks rows)
good_fold Good g [] blocks all keeps = all
good_fold Good g (row ∷ rest) blocks all keeps =
    good_fold Good g rest (change g blocks row) (good_changed Good g blocks row (slice_get blocks row.node) refl all (All-head (Keeps Good g) row rest keeps)) (All-tail (Keeps Good g) row rest keeps)

length_changed : (g : Row → Registers → Registers) (blocks : List Registers) (row : Row) (o : Option Registers) → length (option_map_or (λ block. slice_set blocks row.node (g row block)) o blocks) ≡ length blocks
length_changed g blocks row None = refl
length_changed g blocks row (Some block) = length-set blocks row.node (g row block)

length_fold : (g : Row → Registers → Registers) (rows : List Row) (blocks : List Registers) → length (fold (change g) blocks rows) ≡ length blocks
length_fold g [] blocks = refl
length_fold g (row ∷ rest) blocks = length_fold g rest (change g blocks row) ∙ length_changed g blocks row (slice_get blocks row.node)

-- ---- blocks of nodes

-- what the block of a node is
pub record IsBlockAt (s : System) (n : ℕ) (block : Registers) : Type 0 where
  pub is : IsBlock block
  pub endpoint : is_endpoint_at s.nodes n ≡ block.endpoint
  pub of : (node : Node) → slice_get s.nodes n ≡ Some node → IsBlockOf node block

pub own_blocks : (s : System) → IsSystem s → AllGood (IsBlockAt s) s.blocks
own_blocks s system n block here = record {
  is = all_at IsBlock s.blocks n block system.blocks here;
  endpoint = endpoint_is s n block system.caps here;
  of = λ node there. system.caps.each n block node here there;
}

with_row_at : (s : System) (row : Row) → IsDecoder (is_endpoint_at s.nodes row.node) row.decoder → Keeps (IsBlockAt s) block_with_row row
with_row_at s row is block at =
    let kept : IsDecoder block.endpoint row.decoder = subst (λ (b : Bool). IsDecoder b row.decoder) at.endpoint is in
    let committed : IsDecoder block.endpoint (committed_row row) = record { base = kept.base; size = kept.size; ways = kept.ways; gran = kept.gran; tail = kept.tail; skip = kept.skip } in
    record {
      is = record {
        cap = at.is.cap;
        enabled = λ port. refl;
        count = length-set block.decoders row.index (committed_row row) ∙ at.is.count;
        each = All-set (IsDecoder block.endpoint) block.decoders row.index (committed_row row) committed at.is.each;
      };
      endpoint = at.endpoint;
      of = λ node there. let own = at.of node there in record { cap = own.cap; endpoint = own.endpoint };
    }

without_row_at : (s : System) (row : Row) → IsDecoder (is_endpoint_at s.nodes row.node) row.decoder → Keeps (IsBlockAt s) block_without_row row
without_row_at s row is block at =
    let kept : IsDecoder block.endpoint row.decoder = subst (λ (b : Bool). IsDecoder b row.decoder) at.endpoint is in
    let free : IsDecoder block.endpoint (released row.decoder) = record { base = kept.base; size = kept.size; ways = kept.ways; gran = kept.gran; tail = kept.tail; skip = kept.skip } in
    record {
      is = record {
        cap = at.is.cap;
        enabled = at.is.enabled;
        count = length-set block.decoders row.index (released row.decoder) ∙ at.is.count;
        each = All-set (IsDecoder block.endpoint) block.decoders row.index (released row.decoder) free at.is.each;
      };
      endpoint = at.endpoint;
      of = λ node there. let own = at.of node there in record { cap = own.cap; endpoint = own.endpoint };
    }

-- where its blocks are those of its nodes, another image is one of the same host
pub system_of_blocks : (s : System) (news : List Registers) → IsSystem s → length news ≡ length s.blocks → AllGood (IsBlockAt s) news → IsSystem (record s { blocks = news })
system_of_blocks s news system long good = record {
  tree = system.tree;
  blocks = λ k d within. (good k (get_or news k d) (slice_get-get_or news k d within)).is;
  caps = record { count = long ∙ system.caps.count; each = λ i block node here there. (good i block here).of node there };
  made = system.made;
}

still_system : (s : System) (g : Row → Registers → Registers) (rows : List Row) → IsSystem s → All (Keeps (IsBlockAt s) g) rows → IsSystem (record s { blocks = fold (change g) s.blocks rows })
still_system s g rows system keeps =
    system_of_blocks s (fold (change g) s.blocks rows) system (length_fold g rows s.blocks) (good_fold (IsBlockAt s) g rows s.blocks (own_blocks s system) keeps)

-- ---- the images that whole jobs leave

pub planned_system : (s : System) (request : Request) (plan : Plan) → IsSystem s → IsLegalPlan s request plan → IsSystem (with_rows s plan.rows)
planned_system s request plan system is =
    still_system s block_with_row plan.rows system
    (λ k d within. with_row_at s (get_or plan.rows k d) (is.1.each_row (get_or plan.rows k d) (Contains-get_or plan.rows k d within)).kept)

abbrev pub Decodes : ℕ → Registers → Type 0
Decodes n block = block.enabled ≡ true

pub all_decode : (blocks : List Registers) → AllGood Decodes blocks → All (λ (block : Registers). block.enabled ≡ true) blocks
all_decode blocks good = λ k d within. good k (get_or blocks k d) (slice_get-get_or blocks k d within)

pub planned_enabled : (rows : List Row) (blocks : List Registers) → All (λ (block : Registers). block.enabled ≡ true) blocks → All (λ (block : Registers). block.enabled ≡ true) (fold blocks_with_row blocks rows)
planned_enabled rows blocks enabled =
    all_decode (fold (change block_with_row) blocks rows)
    (good_fold Decodes block_with_row rows blocks (λ n block here. all_at (λ (b : Registers). b.enabled ≡ true) blocks n block enabled here) (λ k d within block at. refl))

-- the decoder of a region's row is one of its node's block
pub row_kept : (s : System) (found : Found) (n : ℕ) (row : Row) → IsSystem s → row_for s (region_range found) n ≡ Some row → IsDecoder (is_endpoint_at s.nodes row.node) row.decoder
row_kept s found n row system is =
    let parts = row_parts s (region_range found) n row is in
    let own : IsRowFor s (region_range found) row.node row = subst (λ (m : ℕ). IsRowFor s (region_range found) m row) (sym parts.node) parts in
    let at = in_block s (region_range found) row own in
    let block : IsBlock at.block = all_at IsBlock s.blocks row.node at.block system.blocks at.block_here in
    subst (λ (b : Bool). IsDecoder b row.decoder) (sym (endpoint_is s row.node at.block system.caps at.block_here)) (all_at (IsDecoder at.block.endpoint) at.block.decoders row.index row.decoder block.each at.here)

pub released_system : (s : System) (found : Found) → IsSystem s → IsSystem (system_without s found)
released_system s found system =
    still_system s block_without_row (rows_of s found) system
    (all_rows s found (Keeps (IsBlockAt s) block_without_row) (λ n row is. without_row_at s row (row_kept s found n row system is)))
