-- Hosts after reset have no region.
use Rattle.std.proofs.Common.{◌≡◌, ℕ, zero, suc, ◌<◌, true, false, List, [], ◌∷◌, length, slice_get, replicate, refl, sym, ◌∙◌, arith}
use Rattle.std.specs.Option.{option_map_or}
use Rattle.std.specs.List.{list_any}
use Rattle.cxl_table.specs.CedtFields.{CedtFields}
use Rattle.cxl_enc.specs.Caps.{decoders_code, decoders_of}
use Rattle.cxl_image.specs.Images.{reset_blocks}
use Rattle.cxl_inputs.specs.ResetHost.{reset_host_of}
use Rattle.cxl_model.specs.Listed.{AreRegionsByBase, region_limit}
use Rattle.cxl_model.specs.Regions.{region_range}
use Rattle.cxl_model.specs.System.{system_of}
use Rattle.cxl_model.specs.declared.found.Found.{Found}
use Rattle.cxl_regs.specs.Reading.{has_range}
use Rattle.cxl_regs.specs.Registers.{Registers, reset_decoder}
use Rattle.cxl_regs.specs.declared.reading.Range.{Range}
use Rattle.cxl_opening.specs.Opening.{HasRegions}
use Rattle.cxl_topo.specs.Tree.{Tree}
use Rattle.cxl_topo.specs.declared.node.Node.{Node}
use Rattle.cxl_window.specs.Fields.{WindowFields}

none_committed : (r : Range) (count : ℕ) → list_any (has_range r) (replicate count reset_decoder) ≡ false
none_committed r zero = refl
none_committed r (suc k) = none_committed r k

none_serves : (r : Range) (nodes : List Node) (n : ℕ) → list_any (has_range r) (option_map_or (λ (block : Registers). block.decoders) (slice_get (reset_blocks nodes) n) []) ≡ false
none_serves r [] zero = refl
none_serves r [] (suc n) = refl
none_serves r (node ∷ nodes) zero = none_committed r (decoders_of (decoders_code node.cap))
none_serves r (node ∷ nodes) (suc n) = none_serves r nodes n

-- so the list of all of them is empty
pub none_listed : (tree : Tree) (windows : List WindowFields) → AreRegionsByBase (system_of (reset_blocks tree.nodes) tree windows) []
none_listed tree windows = record {
  listed = record {
    each = λ k d within. absurd (omega arith);
    all = λ r committed. let clash : false ≡ true = sym (none_serves r tree.nodes committed.0) ∙ committed.1 in absurd (cc);
    once = λ i j d less within. absurd (omega arith);
  };
  rising = λ i j d less within. absurd (omega arith);
}

-- and there are never too many
pub no_regions : (table : CedtFields) (tree : Tree) (n : ℕ) → HasRegions (reset_host_of table tree) n → region_limit < n → ⊥
no_regions table tree n has many = at has.1.0 has.1.1 has.1.2
  where
    at : (regions : List Found) → AreRegionsByBase (reset_host_of table tree) regions → length regions ≡ n → ⊥
    at [] listed count = absurd (omega (arith, count, many))
    at (found ∷ more) listed count =
        let first = listed.listed.each 0 found (omega arith) in
        let clash : false ≡ true = sym (none_serves (region_range found) tree.nodes first.1.committed.0) ∙ first.1.committed.1 in
        absurd (cc)
