-- The regions of a machine that have bytes, and the blocks in which media has them.
use Rattle.std.proofs.Common.{◌≡◌, ◌≢◌, ℕ, ◌<◌, List, [], map, length, get_or, Option, sym, ap, ◌∙◌, subst, arith}
use Rattle.std.specs.Prelude.{All, AllPairs, Contains, unwrap_or}
use Rattle.std.specs.FinMap as fin
use Rattle.std.proofs.lemmas.List.{length-map, get_or-map, get_or_append_left, length-append}
use Rattle.std.proofs.lemmas.List.Elements.{All-map}
use Rattle.cxl_window.specs.Fields.{WindowFields}
use Rattle.cxl_media.specs.MediaState.{MediaState}
use Rattle.cxl_media.specs.Blocks.{Blocks}
use Rattle.cxl_model.specs.declared.found.Found.{Found}
use Rattle.cxl_model.specs.System.{System}
use Rattle.cxl_model.specs.Regions.{IsRegion, IsRegionIn}
use Rattle.cxl_model.specs.Contents.{Holding, AreContents, AreMediaOf}
use Rattle.cxl_poison.proofs.Pieced.{WindowsThere}
use Rattle.cxl_move.specs.Sides.{IsPieceAt}
use Rattle.cxl_move.specs.Holdings.{told_in, AreHoldings}
use Rattle.cxl_machine.specs.Machine.{Live, Machine, absent_window, region_window, under_release, kept_regions, holding_of}
use Rattle.cxl_machine.specs.Sound.{IsMachine}
use Rattle.cxl_session.specs.Standing.{HoldsMemory}
use Rattle.cxl_move.specs.Woven.{HasPieces}

module _ (law : WindowsThere) (m : Machine) (is : IsMachine m) where
  -- the region and its bytes
  abbrev Stays : Holding → Type 0
  Stays one = IsRegionIn m.settled one.window one.found × AreContents one.found one.contents

  in_window : (found : Found) → IsRegion m.settled found → IsRegionIn m.settled (region_window m.settled found) found
  in_window found (w, region) =
      let there : region_window m.settled found ≡ w = ap (λ (o : Option WindowFields). unwrap_or o absent_window) (law m.settled w found is.settled.system region) in
      subst (λ (v : WindowFields). IsRegionIn m.settled v found) (sym there) region

  founds : List Found
  founds = map (λ (region : Live). region.found) (kept_regions m)

  founds_long : length founds ≡ length (kept_regions m)
  unfolding founds
  founds_long = length-map (kept_regions m) (λ (region : Live). region.found)

  found_there : (k : ℕ) (d : Live) (e : Found) → k < length (kept_regions m) → get_or founds k e ≡ (get_or (kept_regions m) k d).found
  unfolding founds
  found_there k d e low = get_or-map (λ (region : Live). region.found) (kept_regions m) k d e low

  each_founds : All (IsRegion m.settled) founds
  unfolding founds
  each_founds = is.regions.all.each

  once_founds : AllPairs (λ (a b : Found). a ≢ b) founds
  unfolding founds
  once_founds = is.regions.all.once

  stays_at : (k : ℕ) (d : Live) → k < length (kept_regions m) → Stays (holding_of m.settled (get_or (kept_regions m) k d))
  stays_at k d low =
      let region : Live = get_or (kept_regions m) k d in
      let own : IsRegion m.settled region.found =
      subst (IsRegion m.settled) (found_there k d region.found low) (each_founds k region.found (omega (arith, low, founds_long))) in
      (in_window region.found own, is.regions.contents k d low)

  pub are_holdings : AreHoldings m.settled (map (holding_of m.settled) (kept_regions m))
  are_holdings = record {
    system = is.settled.system;
    each = All-map Stays (holding_of m.settled) (kept_regions m) stays_at;
    once = λ i j d less within same.
        let none : Live = record { name = []; found = d.found; contents = d.contents } in
        let long = length-map (kept_regions m) (holding_of m.settled) in
        let low : j < length (kept_regions m) = omega (arith, within, long) in
        let first = get_or-map (holding_of m.settled) (kept_regions m) i none d (omega (arith, less, low)) in
        let second = get_or-map (holding_of m.settled) (kept_regions m) j none d low in
        once_founds i j d.found less (omega (arith, low, founds_long))
        (found_there i none d.found (omega (arith, less, low)) ∙ sym (ap (λ (one : Holding). one.found) first) ∙ same ∙ ap (λ (one : Holding). one.found) second
        ∙ sym (found_there j none d.found low));
  }

  -- a live region is one of them
  pub live_is_held : (region : Live) → Contains m.live region → Contains (map (holding_of m.settled) (kept_regions m)) (holding_of m.settled region)
  live_is_held region (k, below, read) =
      let inside : k < length (kept_regions m) = omega (arith, below, length-append m.live (under_release m.job)) in
      let long = length-map (kept_regions m) (holding_of m.settled) in (
        k,
        omega (arith, inside, long),
        get_or-map (holding_of m.settled) (kept_regions m) k region (holding_of m.settled region) inside
            ∙ ap (holding_of m.settled) (get_or_append_left m.live (under_release m.job) region k below ∙ read),
      )

  -- media has its pieces
  pub has_pieces : ((s : System) (holdings : List Holding) (one : Holding) (blocks : Blocks) (n endpoint block : ℕ) → AreHoldings s holdings → AreMediaOf holdings (told_in blocks) → Contains holdings one
      → IsPieceAt one.found one.window n endpoint block → fin.get blocks (endpoint, block) ≡ fin.get one.contents n)
      → (media : MediaState) → HoldsMemory m media → (region : Live) → Contains m.live region → HasPieces region.found (region_window m.settled region.found) region.contents media.blocks
  has_pieces hold media memory region there = λ n endpoint block at.
      hold m.settled (map (holding_of m.settled) (kept_regions m)) (holding_of m.settled region) media.blocks n endpoint block are_holdings memory (live_is_held region there) at
