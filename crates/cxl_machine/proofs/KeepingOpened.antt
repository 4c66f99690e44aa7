-- The machine with which a session opens is one that a session can stand for.
use Rattle.std.proofs.Common.{◌≡◌, ◌≢◌, ◌↔◌, ℕ, ◌+◌, ◌<◌, ◌≤◌, Bool, true, false, if◌then◌else◌, List, [], ◌∷◌, map, length, get_or, Option, Some, None, refl, sym, ap, ◌∙◌, subst, inl, inr, arith}
use Rattle.std.specs.Prelude.{slice_get, ◌==◌, option_map, codes, decimal, sum_by}
use Rattle.std.specs.Option.{option_map_or}
use Rattle.std.specs.List.{enumerate_from, list_any}
use Rattle.std.proofs.lemmas.Bool.{cases_eq, ne_eqb, lt-ltb}
use Rattle.std.proofs.lemmas.Fmt.{decimal_injective}
use Rattle.std.proofs.lemmas.List.{length-map, get_or-map, append_cancel_left}
use Rattle.std.proofs.lemmas.List.Elements.{All-map}
use Rattle.std.proofs.lemmas.List.FromFn.{length-enumerate_from, get_or-enumerate_from}
use Rattle.std.proofs.lemmas.Option.{none-some, same_Some, slice_get-map}
use Rattle.cxl_enc.specs.Limits.{frame_limit}
use Rattle.cxl_enc.proofs.Tests.{stays_false}
use Rattle.cxl_topo.specs.declared.node.Node.{Node}
use Rattle.cxl_image.specs.Images.{IsBlockOf}
use Rattle.cxl_regs.specs.declared.decoder.Decoder.{Decoder}
use Rattle.cxl_regs.specs.Registers.{Registers, IsBlock}
use Rattle.cxl_regs.specs.declared.reading.Range.{Range}
use Rattle.cxl_regs.specs.Reading.{has_range}
use Rattle.cxl_regs.specs.Rules.{before, breaks_order}
use Rattle.cxl_regs.proofs.DecoderRanges.{decoding}
use Rattle.cxl_span.specs.Breaches.{breaks as block_breaks}
use Rattle.cxl_span.specs.Rules.{breaks_rule}
use Rattle.cxl_span.specs.Spans.{span_start_of}
use Rattle.cxl_window.specs.Fields.{WindowFields}
use Rattle.cxl_model.specs.declared.found.Found.{Found}
use Rattle.cxl_model.specs.Accepted.{breaks, breaks_block, KeepsBlocks, IsWhole, IsAccepted}
use Rattle.cxl_model.specs.Changes.{HaveSameDecoders}
use Rattle.cxl_model.specs.Listed.{AreRegions, region_limit}
use Rattle.cxl_model.specs.Ranges.{IsCommittedRange}
use Rattle.cxl_model.specs.Regions.{region_range, IsRegionIn}
use Rattle.cxl_model.specs.System.{System, IsSystem, decoders_at, ram_at, pmem_at}
use Rattle.cxl_legal.specs.Used.{HasBytePorts}
use Rattle.cxl_machine.specs.Machine.{Live, Machine}
use Rattle.cxl_machine.specs.Sound.{IsMachine, Opens, auto_name, opened_region, enabled_system}
use Rattle.cxl_machine.proofs.KeepingBytes.{HoldsOwn}
use Rattle.cxl_machine.proofs.KeepingLists.{founds, HaveOwnNames}
use Rattle.cxl_machine.proofs.KeepingMachines.{no_contents}
use Rattle.cxl_machine.proofs.KeepingRegions.{kept_beside}
use Rattle.cxl_machine.specs.Copies.{pieces_of}
use Rattle.std.proofs.lemmas.List.Sums.{sum_by-append, sum_by-cons}
use Rattle.std.specs.FinMap.{len-empty}
use Rattle.std.specs.Ordering.{nat_cmp}

-- ---- the rules of a block that decodes

by_rule : (b x later y : Bool) → (x ≡ false → later ≡ false) → (if b then x else y) ≡ false → (if b then later else y) ≡ false
by_rule true x later y first keeps = first keeps
by_rule false x later y first keeps = keeps

rule_decoding : (rule : ℕ) (block : Registers) (ram pmem : ℕ) (below : Option Decoder) (start : ℕ) (d : Decoder) → breaks_rule rule block ram pmem below start d ≡ false → breaks_rule rule (decoding block) ram pmem below start d ≡ false
rule_decoding rule block ram pmem below start d keeps = by_rule (rule == 2) _ _ _ (stays_false d.committed (breaks_order below) block.enabled) keeps

decoder_decoding : (rule : ℕ) (block : Registers) (ram pmem : ℕ) (below : Option Decoder) (start : ℕ) (o : Option Decoder) → option_map_or (breaks_rule rule block ram pmem below start) o false ≡ false
    → option_map_or (breaks_rule rule (decoding block) ram pmem below start) o false ≡ false
decoder_decoding rule block ram pmem below start None keeps = refl
decoder_decoding rule block ram pmem below start (Some d) keeps = rule_decoding rule block ram pmem below start d keeps

block_decoding : (rule : ℕ) (block : Registers) (ram pmem i : ℕ) → block_breaks rule block ram pmem i ≡ false → block_breaks rule (decoding block) ram pmem i ≡ false
unfolding block_breaks
block_decoding rule block ram pmem i keeps = decoder_decoding rule block ram pmem (before block.decoders i) (span_start_of block.decoders i) (slice_get block.decoders i) keeps

-- ---- an image of which every block decodes

-- what is known of images that keep the rules
pub record OpenLaws : Type 0 where
  pub caps : (s : System) (n i : ℕ) → IsSystem s → breaks s 1 n i ≡ false
  pub where_whole : (s : System) → IsAccepted s ↔ (KeepsBlocks s × ((r : Range) → IsCommittedRange s r → IsWhole s r))
  pub region : (s t : System) (w : WindowFields) (found : Found) → HaveSameDecoders s t (region_range found) → KeepsBlocks t → IsRegionIn s w found → IsRegionIn t w found
  pub whole : (s t : System) (r : Range) → HaveSameDecoders s t r → KeepsBlocks t → IsWhole s r → IsWhole t r

module _ (laws : OpenLaws) (s : System) (system : IsSystem s) (accepted : IsAccepted s) where
  abbrev t : System
  t = enabled_system s

  block_of : (i : ℕ) (block : Registers) (node : Node) (o : Option Registers) → slice_get s.blocks i ≡ o → option_map decoding o ≡ Some block → slice_get s.nodes i ≡ Some node → IsBlockOf node block
  block_of i block node None here is there = absurd (none-some block is)
  block_of i block node (Some old) here is there =
      let own = system.caps.each i old node here there in
      subst (IsBlockOf node) (same_Some (decoding old) block is) (record { cap = own.cap; endpoint = own.endpoint })

  still_system : IsSystem t
  still_system = record {
    tree = system.tree;
    blocks = All-map IsBlock decoding s.blocks (λ k d within. let own = system.blocks k d within in record { cap = own.cap; enabled = λ port. refl; count = own.count; each = own.each });
    caps = record {
      count = length-map s.blocks decoding ∙ system.caps.count;
      each = λ i block node here there. block_of i block node (slice_get s.blocks i) refl (sym (slice_get-map decoding s.blocks i) ∙ here) there;
    };
    made = system.made;
  }

  -- K2 to K8
  block_keeps : (rule n i : ℕ) → breaks_block s rule n i ≡ false → breaks_block t rule n i ≡ false
  block_keeps rule n i keeps =
      ap (λ (o : Option Registers). option_map_or (λ block. block_breaks rule block (ram_at s n) (pmem_at s n) i) o false) (slice_get-map decoding s.blocks n) ∙ go (slice_get s.blocks n) keeps
    where
      go : (o : Option Registers) → option_map_or (λ block. block_breaks rule block (ram_at s n) (pmem_at s n) i) o false ≡ false
          → option_map_or (λ block. block_breaks rule block (ram_at s n) (pmem_at s n) i) (option_map decoding o) false ≡ false
      go None keeps = refl
      go (Some block) keeps = block_decoding rule block (ram_at s n) (pmem_at s n) i keeps

  rule_keeps : (rule n i : ℕ) → rule ≢ 1 → rule < 9 → breaks s rule n i ≡ false → breaks t rule n i ≡ false
  unfolding breaks
  rule_keeps rule n i other low keeps =
      rw (ne_eqb rule 1 other, lt-ltb rule 9 low)
      (block_keeps rule n i (rw (ne_eqb rule 1 other, lt-ltb rule 9 low) at keeps))

  keeps_blocks : KeepsBlocks t
  keeps_blocks rule n i low =
      elim (cases_eq rule 1) [
        | inl e ↦ subst (λ (r : ℕ). breaks t r n i ≡ false) (sym e) (laws.caps t n i still_system)
        | inr other ↦ rule_keeps rule n i other low (accepted.each rule n i)
      ]

  -- ---- its decoders

  decoders_same : (n : ℕ) → decoders_at t n ≡ decoders_at s n
  decoders_same n = ap (λ (o : Option Registers). option_map_or (λ block. block.decoders) o []) (slice_get-map decoding s.blocks n) ∙ go (slice_get s.blocks n)
    where
      go : (o : Option Registers) → option_map_or (λ block. block.decoders) (option_map decoding o) [] ≡ option_map_or (λ block. block.decoders) o []
      go None = refl
      go (Some block) = refl

  same : (r : Range) → HaveSameDecoders s t r
  same r = record {
    nodes = refl;
    windows = refl;
    there = λ n i j d at has low. ap (λ (ds : List Decoder). slice_get ds j) (decoders_same n);
    back = λ n i j d at has low. ap (λ (ds : List Decoder). slice_get ds j) (sym (decoders_same n));
  }

  old_range : (r : Range) → IsCommittedRange t r → IsCommittedRange s r
  old_range r committed = (committed.0, ap (list_any (has_range r)) (sym (decoders_same committed.0)) ∙ committed.1)

  still_accepted : IsAccepted t
  still_accepted =
      (laws.where_whole t).1 (keeps_blocks, λ r committed. laws.whole s t r (same r) keeps_blocks (((laws.where_whole s).0 accepted).1 r (old_range r committed)))

  still_regions : (regions : List Found) → AreRegions s regions → AreRegions t regions
  still_regions regions are = record {
    each = λ k d within.
        let own = are.each k d within in
        (own.0, laws.region s t own.0 (get_or regions k d) (same (region_range (get_or regions k d))) keeps_blocks own.1);
    all = λ r committed. are.all r (old_range r committed);
    once = are.once;
  }

-- ---- the regions that it opens with

abbrev opened : List Found → List Live
opened regions = map opened_region (enumerate_from 0 regions)

opened_founds : (from : ℕ) (regions : List Found) → founds (map opened_region (enumerate_from from regions)) ≡ regions
opened_founds from [] = refl
opened_founds from (found ∷ regions) = ap (λ (fs : List Found). found ∷ fs) (opened_founds (from + 1) regions)

length_opened : (regions : List Found) → length (opened regions) ≡ length regions
length_opened regions = length-map (enumerate_from 0 regions) opened_region ∙ length-enumerate_from 0 regions

opened_name : (regions : List Found) (i : ℕ) (d : Live) → i < length regions → (get_or (opened regions) i d).name ≡ auto_name (0 + i)
opened_name regions i d within =
    ap (λ (region : Live). region.name) (get_or-map opened_region (enumerate_from 0 regions) i (0, d.found) d (omega (arith, length-enumerate_from 0 regions)))
    ∙ ap (λ (item : ℕ × Found). auto_name item.0) (get_or-enumerate_from 0 regions i (0, d.found) within)

names_differ : (i j : ℕ) → i < j → j < 256 → auto_name (0 + i) ≢ auto_name (0 + j)
names_differ i j less few same =
    let e : 0 + i ≡ 0 + j = decimal_injective (0 + i) (0 + j) (omega arith) (omega arith) (append_cancel_left (codes "auto") (decimal (0 + i)) (decimal (0 + j)) same) in
    omega arith

own_names : (regions : List Found) → length regions ≤ region_limit → HaveOwnNames (opened regions)
own_names regions few i j d less within same =
    let long = length_opened regions in
    names_differ i j less (omega arith) (sym (opened_name regions i d (omega arith)) ∙ same ∙ opened_name regions j d (omega arith))

-- no piece is held
no_pieces : (from : ℕ) (regions : List Found) → sum_by pieces_of (map opened_region (enumerate_from from regions)) ≡ 0
no_pieces from [] = refl
no_pieces from (found ∷ regions) =
    let rest = no_pieces (from + 1) regions in
    let none = len-empty nat_cmp (List ℕ) in
    let first : sum_by pieces_of (map opened_region (enumerate_from from (found ∷ regions))) ≡ pieces_of (opened_region (from, found)) + sum_by pieces_of (map opened_region (enumerate_from (from + 1) regions)) =
    sum_by-cons pieces_of (opened_region (from, found)) (map opened_region (enumerate_from (from + 1) regions)) in
    omega (arith, rest, none, first)

pub opens_machine : OpenLaws → (start : System) (frames : ℕ) (m : Machine) → IsSystem start → HasBytePorts start.nodes → 1 ≤ frames → frames ≤ frame_limit → Opens start frames m → IsMachine m
opens_machine laws start frames m system ports some few opens =
    subst IsMachine (sym opens.machine) (record {
      settled = record {
        system = still_system laws start system opens.accepted;
        accepted = still_accepted laws start system opens.accepted;
        enabled = All-map (λ (block : Registers). block.enabled ≡ true) decoding start.blocks (λ k d within. refl);
        ports = ports;
      };
      regions = kept_beside n (opened opens.regions) (record {
        all = subst (AreRegions n.settled) (sym (opened_founds 0 opens.regions)) (still_regions laws start system opens.accepted opens.regions opens.listed.listed);
        names = own_names opens.regions opens.few;
        contents = All-map HoldsOwn opened_region (enumerate_from 0 opens.regions) (λ k d within. no_contents (get_or (enumerate_from 0 opens.regions) k d).1);
        few = let few = opens.few in omega (arith, few, length_opened opens.regions);
      });
      job = tt;
      frames = (some, few);
      held =
          let all = sum_by-append pieces_of (opened opens.regions) [] in
          let none = no_pieces 0 opens.regions in
          omega (arith, all, none);
    })
  where
    n : Machine
    n = record { settled = enabled_system start; live = opened opens.regions; frames = frames; job = None }
