-- The lines of regions, one region after another.
use Rattle.std.proofs.Common.{◌≡◌, ℕ, ◌+◌, ◌<◌, ◌≤◌, List, [], ◌∷◌, ◌++◌, map, length, get_or, take, sym, ap, ◌∙◌, arith}
use Rattle.std.specs.List.{concat}
use Rattle.std.proofs.lemmas.List.{take-map, map_more, take_all, append-nil, length-map}
use Rattle.cxl_io.specs.Sink.{SinkState}
use Rattle.cxl_model.specs.declared.found.Found.{Found}
use Rattle.cxl_reply.specs.Plans.{found_text}
use Rattle.cxl_topo.specs.declared.node.Node.{Node}
use Rattle.cxl_commands.proofs.InBlocks.{concat-append, IsInBlocks, blocks-next}

module _ (nodes : List Node) (regions : List Found) where
  abbrev pub region_lines : List (List ℕ)
  region_lines = map (found_text nodes) regions

  -- the region r stands at place i: one piece more
  next : (i : ℕ) (r : Found) → i < length regions → r ≡ get_or regions i r → concat (take (i + 1) region_lines) ≡ concat (take i region_lines) ++ found_text nodes r
  next i r within is =
      ap concat (take-map (found_text nodes) (i + 1) regions ∙ map_more (found_text nodes) regions i r within ∙ ap (λ ts. ts ++ found_text nodes (get_or regions i r) ∷ []) (sym (take-map (found_text nodes) i regions)))
      ∙ concat-append (take i region_lines) (found_text nodes (get_or regions i r) ∷ [])
      ∙ ap (λ t. concat (take i region_lines) ++ t) (append-nil (found_text nodes (get_or regions i r)) ∙ ap (found_text nodes) (sym is))

  pub blocks-region : (i : ℕ) (r : Found) → i < length regions → r ≡ get_or regions i r → (block block' : List ℕ) (old now : SinkState) → block' ≡ block ++ found_text nodes r → IsInBlocks region_lines i block old now → IsInBlocks region_lines (i + 1) block' old now
  blocks-region i r within is block block' old now more so_far =
      blocks-next region_lines i (found_text nodes r) block block' old now (next i r within is) more so_far

  pub length-region_lines : length region_lines ≡ length regions
  length-region_lines = length-map regions (found_text nodes)

  -- all pieces
  pub all_regions : (i : ℕ) → length regions ≤ i → concat (take i region_lines) ≡ concat region_lines
  all_regions i all = ap concat (take_all i region_lines (omega (arith, length-region_lines)))
