-- The regions of a machine with their bytes, the blocks of media that hold these, and frames.
use Rattle.std.proofs.Common.{◌≡◌, ◌≢◌, ℕ, ◌+◌, ◌<◌, ◌≤◌, List, [], ◌∷◌, map, length, get_or, Option, refl, sym, ap, ◌∙◌, subst, arith}
use Rattle.std.specs.Prelude.{sum_by, AllPairs, Contains}
use Rattle.std.specs.FinMap as fin
use Rattle.std.specs.List.Sorted.{IsPermutation}
use Rattle.std.proofs.lemmas.List.{get_or-map, length-map}
use Rattle.std.proofs.lemmas.List.Elements.{All-map, Contains-get_or}
use Rattle.std.proofs.lemmas.List.Sorted.{IsPermutation-sym, All-permutation, Contains-permutation, sum_by_popped}
use Rattle.std.proofs.lemmas.List.Sums.{sum_by-cons}
use Rattle.cxl_enc.specs.Limits.{frame_limit}
use Rattle.cxl_window.specs.Fields.{WindowFields}
use Rattle.cxl_media.specs.Blocks.{Blocks}
use Rattle.cxl_media.specs.MediaState.{MediaState, frame_count}
use Rattle.cxl_model.specs.System.{System}
use Rattle.cxl_model.specs.Regions.{IsRegion, IsRegionIn}
use Rattle.cxl_model.specs.Contents.{Holding, AreContents, AreMediaOf}
use Rattle.cxl_move.specs.Sides.{AreHeld}
use Rattle.cxl_move.specs.Holdings.{told_in, AreHoldings}
use Rattle.cxl_move.proofs.Told.{media_of_alike}
use Rattle.cxl_machine.specs.Machine.{Live, Machine, region_window, holding_of, kept_regions, pieces_held}
use Rattle.cxl_machine.specs.Copies.{pieces_of}
use Rattle.cxl_machine.proofs.KeepingBytes.{IsUncounted, uncounted, counted}
use Rattle.cxl_machine.proofs.KeepingOrder.{pairs_again}
use Rattle.cxl_machine.proofs.LiveRegions.{window_there}
use Rattle.cxl_machine.proofs.KeepingMachines.{kept_there}
use Rattle.cxl_session.specs.State.{SessionState}
use Rattle.cxl_session.specs.Standing.{StandsFor, HoldsMemory}
use Rattle.cxl_session.specs.inner.Answering.{HoldsMachine}
use Rattle.cxl_session.proofs.Fronts.{at_front}

-- ---- lists

pub contains_map : {A B : Type 0} (f : A → B) (xs : List A) (x : A) → Contains xs x → Contains (map f xs) (f x)
contains_map f xs x (k, below, read) = (k, omega (arith, below, length-map xs f), get_or-map f xs k x (f x) below ∙ ap f read)

sum_of_map : {A B : Type 0} (f : B → ℕ) (g : A → B) (xs : List A) → sum_by f (map g xs) ≡ sum_by (λ (x : A). f (g x)) xs
sum_of_map f g [] = refl
sum_of_map {A = A} f g (x ∷ xs) =
    sum_by-cons f (g x) (map g xs) ∙ ap (λ (n : ℕ). f (g x) + n) (sum_of_map f g xs) ∙ sym (sum_by-cons (λ (y : A). f (g y)) x xs)

-- ---- the regions of a machine with their bytes

abbrev pub holdings_of : Machine → List Holding
holdings_of m = map (holding_of m.settled) (kept_regions m)

module _ (m : Machine) (is : IsUncounted m) where
  pub kept_region : (region : Live) → Contains (kept_regions m) region → IsRegionIn m.settled (region_window m.settled region.found) region.found
  kept_region region (k, below, read) =
      let there = get_or-map (λ (r : Live). r.found) (kept_regions m) k region region.found below ∙ ap (λ (r : Live). r.found) read in
      let own : IsRegion m.settled region.found =
      subst (IsRegion m.settled) there (is.regions.all.each k region.found (omega (arith, below, length-map (kept_regions m) (λ (r : Live). r.found)))) in
      subst (λ (w : WindowFields). IsRegionIn m.settled w region.found) (sym (window_there m.settled own.0 region.found is.settled.system own.1)) own.1

  once : AllPairs (λ (one other : Holding). one.found ≢ other.found) (holdings_of m)
  once i j d less within same =
      let e : Live = record { name = []; found = d.found; contents = d.contents } in
      let below : j < length (kept_regions m) = omega (arith, within, length-map (kept_regions m) (holding_of m.settled)) in
      let first = ap (λ (x : Holding). x.found) (get_or-map (holding_of m.settled) (kept_regions m) i e d (omega arith)) in
      let second = ap (λ (x : Holding). x.found) (get_or-map (holding_of m.settled) (kept_regions m) j e d below) in
      is.regions.all.once i j d.found less (omega (arith, below, length-map (kept_regions m) (λ (r : Live). r.found)))
      (get_or-map (λ (r : Live). r.found) (kept_regions m) i e d.found (omega arith) ∙ sym first ∙ same ∙ second
      ∙ sym (get_or-map (λ (r : Live). r.found) (kept_regions m) j e d.found below))

  pub are_holdings : AreHoldings m.settled (holdings_of m)
  are_holdings = record {
    system = is.settled.system;
    each =
        All-map (λ (one : Holding). IsRegionIn m.settled one.window one.found × AreContents one.found one.contents) (holding_of m.settled) (kept_regions m)
        (λ k d below. (kept_region (get_or (kept_regions m) k d) (Contains-get_or (kept_regions m) k d below), is.regions.contents k d below));
    once = once;
  }

-- ---- in another order

pub holdings_again : (s : System) (xs ys : List Holding) → IsPermutation xs ys → AreHoldings s xs → AreHoldings s ys
holdings_again s xs ys same are = record {
  system = are.system;
  each = All-permutation (λ (one : Holding). IsRegionIn s one.window one.found × AreContents one.found one.contents) xs ys same are.each;
  once = pairs_again (λ (one other : Holding). one.found ≢ other.found) (λ a b apart e. apart (sym e)) xs ys same are.once;
}

pub media_again : (xs ys : List Holding) (media : ℕ → ℕ → Option (List ℕ)) → IsPermutation xs ys → AreMediaOf xs media → AreMediaOf ys media
media_again xs ys media same are =
    media_of_alike xs ys media are (λ one. (Contains-permutation xs ys one same, Contains-permutation ys xs one (IsPermutation-sym xs ys same)))

-- ---- frames

-- media has as many blocks as its regions have pieces
abbrev pub CountLaw : Type 0
CountLaw =
    (s : System) (holdings : List Holding) (blocks : Blocks) → AreHoldings s holdings → AreMediaOf holdings (told_in blocks)
    → fin.len blocks ≡ sum_by (λ (one : Holding). fin.len one.contents) holdings

-- and of each region those that it has
abbrev pub PieceCountLaw : Type 0
PieceCountLaw =
    (s : System) (holdings : List Holding) (one : Holding) (blocks : Blocks) (pieces : List ℕ) → AreHoldings s holdings
    → AreMediaOf holdings (told_in blocks) → Contains holdings one → AreHeld one.found one.window blocks pieces
    → length pieces ≡ fin.len one.contents

pub blocks_held : CountLaw → (m : Machine) (media : MediaState) → IsUncounted m → HoldsMemory m media → fin.len media.blocks ≡ pieces_held m
blocks_held law m media is memory =
    law m.settled (holdings_of m) media.blocks (are_holdings m is) memory
    ∙ sum_of_map (λ (one : Holding). fin.len one.contents) (holding_of m.settled) (kept_regions m)

-- a machine that has changed holds all frames where there are as many as before
pub holds_next : CountLaw → (session : SessionState) (old new : MediaState) (m next : Machine) → HoldsMachine session old m → StandsFor session next → IsUncounted next → HoldsMemory next new
    → next.frames ≡ m.frames → frame_count new ≡ frame_count old → HoldsMachine session new next
holds_next law session old new m next holds stands is memory same count =
    let before = blocks_held law m old (uncounted m holds.machine) holds.memory in
    let after = blocks_held law next new is memory in
    let frames : new.free + pieces_held next ≡ next.frames = let all = holds.frames in omega (arith, before, after, all, same, count) in
    record { stands = stands; machine = counted next is (omega (arith, frames)); memory = memory; frames = frames }

module _ (law : PieceCountLaw) (session : SessionState) (media : MediaState) (m : Machine) (holds : HoldsMachine session media m) (region : Live) (live : Contains m.live region) where
  -- of a region media has as many blocks as the region has pieces
  pub pieces_are : (pieces : List ℕ) → AreHeld region.found (region_window m.settled region.found) media.blocks pieces → length pieces ≡ pieces_of region
  pieces_are pieces held =
      law m.settled (holdings_of m) (holding_of m.settled region) media.blocks pieces (are_holdings m (uncounted m holds.machine)) holds.memory
      (contains_map (holding_of m.settled) (kept_regions m) region (kept_there m region live)) held

  pub pieces_fit : (pieces : List ℕ) → AreHeld region.found (region_window m.settled region.found) media.blocks pieces → media.free + length pieces ≤ frame_limit
  pieces_fit pieces held =
      let front = at_front (kept_regions m) region (kept_there m region live) in
      let part : sum_by pieces_of front.0 + pieces_of region ≡ pieces_held m = sum_by_popped pieces_of region (kept_regions m) front.0 front.1 in
      let own = pieces_are pieces held in
      let all = holds.frames in
      let few = holds.machine.frames.1 in
      omega (arith, part, own, all, few)
