-- The session that opens on an image stands for the machine that opens.
use Rattle.std.proofs.Common.{◌≡◌, ℕ, ◌+◌, ◌<◌, ◌≤◌, List, [], ◌∷◌, map, length, take, Option, Some, None, Result, Ok, Err, refl, sym, ap, ◌∙◌, subst, arith}
use Rattle.std.specs.Prelude.{All, Contains, IfErr, sum_by, unwrap_or, option_map}
use Rattle.std.specs.List.{AllZip, enumerate_from, range_with_len}
use Rattle.std.specs.FinMap as finmap
use Rattle.std.specs.FinMap.{get-empty, len-empty}
use Rattle.std.specs.Ordering.{nat_cmp}
use Rattle.std.proofs.lemmas.List.{append-nil}
use Rattle.std.proofs.lemmas.List.Elements.{All-map}
use Rattle.std.proofs.lemmas.List.Sums.{sum_by-cons}
use Rattle.std.proofs.lemmas.Option.{none-some}
use Rattle.cxl_enc.specs.Faults.{Rose}
use Rattle.cxl_enc.specs.Limits.{frame_limit}
use Rattle.cxl_regs.specs.Registers.{Registers}
use Rattle.cxl_regs.specs.Blocks.{IsPlace}
use Rattle.cxl_topo.specs.Frames.{AreFrames}
use Rattle.cxl_topo.specs.Tree.{Tree}
use Rattle.cxl_image.specs.Images.{HasCapsOf}
use Rattle.cxl_bus.proofs.Failed.{fails_then}
use Rattle.cxl_bus.specs.Failed.{HasFailed, fresh}
use Rattle.cxl_bus.specs.RegsState.{RegsState}
use Rattle.cxl_bus.specs.declared.sent.Sent.{Sent}
use Rattle.cxl_bus.specs.Trail.{blocks_sent, trail_with}
use Rattle.cxl_media.specs.Blocks.{Blocks, key_cmp}
use Rattle.cxl_media.specs.MediaState.{MediaState}
use Rattle.cxl_window.specs.Fields.{WindowFields}
use Rattle.cxl_legal.specs.Used.{HasBytePorts}
use Rattle.cxl_model.specs.declared.found.Found.{Found}
use Rattle.cxl_model.specs.Contents.{Contents, Holding, AreMediaOf}
use Rattle.cxl_model.specs.Regions.{IsRegion, IsRegionIn}
use Rattle.cxl_model.specs.System.{System, IsSystem, system_of}
use Rattle.cxl_walk.specs.Keeping.{KeptFields, IsKept}
use Rattle.cxl_check.specs.declared.fault.Breach.{Breach}
use Rattle.cxl_machine.specs.declared.fault.OpenFault.{OpenFault}
use Rattle.cxl_machine.specs.declared.fault.OpenFault.TheVariants as faults
use Rattle.cxl_machine.specs.Copies.{pieces_of}
use Rattle.cxl_machine.specs.Machine.{Live, Machine, region_window, absent_window, holding_of, kept_regions, pieces_held}
use Rattle.cxl_model.specs.Listed.{region_limit}
use Rattle.cxl_poison.proofs.Pieced.{WindowsThere}
use Rattle.cxl_machine.specs.Sound.{IsMachine, Opens, auto_name, block_told, opened_region, enabled_blocks}
use Rattle.cxl_session.specs.State.{SessionState}
use Rattle.cxl_session.specs.Standing.{IsKeptIn, StandsFor, IsAt}
use Rattle.cxl_opening.specs.Opening.{endpoints_in, enabling, IsHalfEnabled, HasRegions, IsRefusedImage}
use Rattle.cxl_opening.specs.Opened.{opened_machine, CanOpen, AreRoutesOf, StopsEnabling}
use Rattle.cxl_opening.proofs.Enabling.{enabled_all, endpoints_there, places_there}
use Rattle.cxl_opening.proofs.Zipped.{zip_weaker}

-- ---- regions that are opened

abbrev opened_from : ℕ → List Found → List Live
opened_from from regions = map opened_region (enumerate_from from regions)

opened_names : (from : ℕ) (regions : List Found) → map (λ (r : Live). r.name) (opened_from from regions) ≡ map auto_name (range_with_len from (length regions))
opened_names from [] = refl
opened_names from (found ∷ regions) = ap (λ (names : List (List ℕ)). auto_name from ∷ names) (opened_names (from + 1) regions)

opened_founds : (from : ℕ) (regions : List Found) → map (λ (r : Live). r.found) (opened_from from regions) ≡ regions
opened_founds from [] = refl
opened_founds from (found ∷ regions) = ap (λ (fs : List Found). found ∷ fs) (opened_founds (from + 1) regions)

opened_routes : (P : Found → KeptFields → Type 0) (from : ℕ) (regions : List Found) (kepts : List KeptFields) → AllZip P regions kepts → AllZip (λ (r : Live) kept. P r.found kept) (opened_from from regions) kepts
opened_routes P from [] [] all = all
opened_routes P from [] (kept ∷ kepts) all = all
opened_routes P from (found ∷ regions) [] all = all
opened_routes P from (found ∷ regions) (kept ∷ kepts) all = (all.0, opened_routes P (from + 1) regions kepts all.1)

no_pieces : (from : ℕ) (regions : List Found) → sum_by pieces_of (opened_from from regions) ≡ 0
no_pieces from [] = refl
no_pieces from (found ∷ regions) =
    let rest = no_pieces (from + 1) regions in
    let none = len-empty nat_cmp (List ℕ) in
    let first : sum_by pieces_of (opened_from from (found ∷ regions)) ≡ pieces_of (opened_region (from, found)) + sum_by pieces_of (opened_from (from + 1) regions) =
    sum_by-cons pieces_of (opened_region (from, found)) (opened_from (from + 1) regions) in
    omega (arith, rest, none, first)

-- ---- the machine

pub opens_so : (start : System) (frames : ℕ) (regions : List Found) → CanOpen start regions → Opens start frames (opened_machine start frames regions)
opens_so start frames regions can = record { accepted = can.accepted; regions = regions; listed = can.listed; few = can.few; machine = refl }

abbrev pub OpensMachines : Type 0
OpensMachines = (start : System) (frames : ℕ) (m : Machine) → IsSystem start → HasBytePorts start.nodes → 1 ≤ frames → frames ≤ frame_limit → Opens start frames m → IsMachine m

pub machine_is : OpensMachines → (start : System) (frames : ℕ) (regions : List Found) → CanOpen start regions → HasBytePorts start.nodes → AreFrames frames → IsMachine (opened_machine start frames regions)
machine_is opens start frames regions can ports are =
    opens start frames (opened_machine start frames regions) can.system ports are.some are.few (opens_so start frames regions can)

module _ (start : System) (frames : ℕ) (regions : List Found) where
  abbrev m : Machine
  m = opened_machine start frames regions

  live_founds : map (λ (r : Live). r.found) (kept_regions m) ≡ regions
  live_founds = ap (map (λ (r : Live). r.found)) (append-nil m.live) ∙ opened_founds 0 regions

  -- they are regions of the image in which every block decodes
  pub regions_in : IsMachine m → All (IsRegion m.settled) regions
  regions_in is = subst (All (IsRegion m.settled)) live_founds is.regions.all.each

  own_window : WindowsThere → IsMachine m → (found : Found) → Contains regions found → IsRegionIn m.settled (region_window m.settled found) found
  own_window lies is found (k, low, read) =
      let own : IsRegion m.settled found = subst (IsRegion m.settled) read (regions_in is k found low) in
      let window : region_window m.settled found ≡ own.0 = ap (λ (o : Option WindowFields). unwrap_or o absent_window) (lies m.settled own.0 found is.settled.system own.1) in
      subst (λ (w : WindowFields). IsRegionIn m.settled w found) (sym window) own.1

  routes_kept : WindowsThere → IsMachine m → (kepts : List KeptFields) → AreRoutesOf m.settled regions kepts → AllZip (λ (r : Live) kept. IsKeptIn m.settled r.found kept) m.live kepts
  routes_kept lies is kepts routes =
      opened_routes (IsKeptIn m.settled) 0 regions kepts
      (zip_weaker (λ (found : Found) (kept : KeptFields). (w : WindowFields) → IsRegionIn m.settled w found → IsKept m.settled w found kept) (IsKeptIn m.settled) regions kepts
      (λ found kept inside each. each (region_window m.settled found) (own_window lies is found inside)) routes)

  -- ---- media

  no_contents : All (λ (h : Holding). h.contents ≡ finmap.empty) (map (holding_of m.settled) (kept_regions m))
  no_contents =
      subst (λ (live : List Live). All (λ (h : Holding). h.contents ≡ finmap.empty) (map (holding_of m.settled) live)) (sym (append-nil m.live))
      (All-map (λ (h : Holding). h.contents ≡ finmap.empty) (holding_of m.settled) m.live
      (All-map (λ (r : Live). (holding_of m.settled r).contents ≡ finmap.empty) opened_region (enumerate_from 0 regions) (λ k d low. refl)))

  no_memory : (media : MediaState) → media.blocks ≡ finmap.empty → AreMediaOf (map (holding_of m.settled) (kept_regions m)) (block_told media)
  no_memory media empty = record {
    each = λ holding n endpoint block bytes inside keeps.
        let none : holding.contents ≡ finmap.empty = subst (λ (h : Holding). h.contents ≡ finmap.empty) inside.2 (no_contents inside.0 holding inside.1) in
        absurd (none-some bytes (sym (get-empty nat_cmp n) ∙ ap (λ (c : Contents). finmap.get c n) (sym none) ∙ keeps.piece));
    only = λ endpoint block bytes told. absurd (none-some bytes (sym (get-empty key_cmp (endpoint, block)) ∙ ap (λ (b : Blocks). finmap.get b (endpoint, block)) (sym empty) ∙ told));
  }

  nothing_held : pieces_held m ≡ 0
  nothing_held = ap (sum_by pieces_of) (append-nil m.live) ∙ no_pieces 0 regions

  pub opened_is_at : (session : SessionState) (regs : RegsState) (media : MediaState) → IsMachine m → StandsFor session m → regs.blocks ≡ enabled_blocks start.blocks → media.blocks ≡ finmap.empty
      → media.free ≡ frames → IsAt session regs media m
  opened_is_at session regs media is stands blocks empty free = record {
    stands = stands;
    sound = record {
      machine = is;
      registers = blocks;
      memory = no_memory media empty;
      frames = let none = nothing_held in omega (arith, none, free);
    };
  }

-- ---- the session

-- the words to the endpoints leave the image in which every block decodes
pub image_is : (topo : Tree) (windows : List WindowFields) (start image : List Registers) (endpoints : List ℕ) (regions : List Found) → CanOpen (system_of start topo windows) regions
    → endpoints ≡ endpoints_in topo.nodes → image ≡ blocks_sent start (enabling endpoints) → image ≡ enabled_blocks start
image_is topo windows start image endpoints regions can are sent =
    sent ∙ ap (λ (nodes : List ℕ). blocks_sent start (enabling nodes)) are ∙ enabled_all (system_of start topo windows) can.system

pub caps_are : (topo : Tree) (windows : List WindowFields) (start image : List Registers) (regions : List Found) → IsMachine (opened_machine (system_of start topo windows) topo.frames regions)
    → image ≡ enabled_blocks start → HasCapsOf image topo.nodes
caps_are topo windows start image regions is enabled = subst (λ (blocks : List Registers). HasCapsOf blocks topo.nodes) (sym enabled) is.settled.system.caps

pub regions_are : (topo : Tree) (windows : List WindowFields) (start image : List Registers) (regions : List Found) → IsMachine (opened_machine (system_of start topo windows) topo.frames regions)
    → image ≡ enabled_blocks start → All (IsRegion (system_of image topo windows)) regions
regions_are topo windows start image regions is enabled =
    subst (λ (blocks : List Registers). All (IsRegion (system_of blocks topo windows)) regions) (sym enabled) (regions_in (system_of start topo windows) topo.frames regions is)

pub opened_stands : (lies : WindowsThere) (topo : Tree) (windows : List WindowFields) (start image : List Registers) (regions founds : List Found) (names : List (List ℕ)) (kepts : List KeptFields)
    → IsMachine (opened_machine (system_of start topo windows) topo.frames regions) → image ≡ enabled_blocks start → names ≡ map auto_name (range_with_len 0 (length regions)) → founds ≡ regions
    → AreRoutesOf (system_of image topo windows) regions kepts
    → StandsFor (record { topo = topo; windows = windows; image = image; names = names; founds = founds; kept = kepts; job = None }) (opened_machine (system_of start topo windows) topo.frames regions)
opened_stands lies topo windows start image regions founds names kepts is enabled named same routes =
    let s : System = system_of start topo windows in
    record {
      nodes = refl;
      windows = refl;
      frames = refl;
      image = enabled;
      names = named ∙ sym (opened_names 0 regions);
      founds = same ∙ sym (opened_founds 0 regions);
      kept = routes_kept s topo.frames regions lies is kepts (subst (λ (blocks : List Registers). AreRoutesOf (system_of blocks topo windows) regions kepts) enabled routes);
      job = tt;
    }

-- ---- on the bus

pub trail_from_none : (old now : Option (List Sent)) (words : List Sent) → now ≡ option_map (λ _. []) old → trail_with now words ≡ option_map (λ _. words) old
trail_from_none None now words is = ap (λ (t : Option (List Sent)). trail_with t words) is
trail_from_none (Some sent) now words is = ap (λ (t : Option (List Sent)). trail_with t words) is

-- the bus failed behind the first of the endpoints
pub half_is : (topo : Tree) (windows : List WindowFields) (start : List Registers) (endpoints : List ℕ) (old mid new : RegsState) → endpoints ≡ endpoints_in topo.nodes → mid.blocks ≡ start
    → mid.trail ≡ option_map (λ _. []) old.trail → HasFailed (fresh old) mid [] → StopsEnabling endpoints mid new → IsHalfEnabled (system_of start topo windows) old new
half_is topo windows start endpoints old mid new are holds empties unfailed stops =
    let same : StopsEnabling (endpoints_in topo.nodes) mid new = subst (λ (nodes : List ℕ). StopsEnabling nodes mid new) are stops in
    record {
      n = same.n;
      part = same.part;
      blocks = same.blocks ∙ ap (λ (blocks : List Registers). blocks_sent blocks (enabling (take same.n (endpoints_in topo.nodes)))) holds;
      words = same.words ∙ trail_from_none old.trail mid.trail (enabling (take same.n (endpoints_in topo.nodes))) empties;
      fails = fails_then (fresh old) mid new (same.n ∷ []) empties unfailed same.fails;
    }

-- all of them decode
pub words_are : (topo : Tree) (endpoints : List ℕ) (old mid new : RegsState) → endpoints ≡ endpoints_in topo.nodes → mid.trail ≡ option_map (λ _. []) old.trail
    → new.trail ≡ trail_with mid.trail (enabling endpoints) → new.trail ≡ option_map (λ _. enabling (endpoints_in topo.nodes)) old.trail
words_are topo endpoints old mid new are empties words =
    words ∙ ap (λ (nodes : List ℕ). trail_with mid.trail (enabling nodes)) are ∙ trail_from_none old.trail mid.trail (enabling (endpoints_in topo.nodes)) empties

pub places_are : (topo : Tree) (windows : List WindowFields) (start blocks : List Registers) (endpoints : List ℕ) (regions : List Found) → CanOpen (system_of start topo windows) regions
    → endpoints ≡ endpoints_in topo.nodes → blocks ≡ start → All (λ node. IsPlace blocks node 4) endpoints
places_are topo windows start blocks endpoints regions can are holds =
    places_there blocks endpoints
    (subst (λ (bs : List Registers). All (λ node. node < length bs) endpoints) (sym holds)
    (subst (All (λ node. node < length start)) (sym are) (endpoints_there (system_of start topo windows) can.system)))

-- ---- faults

err_or : {T E : Type 0} → Result T E → E → E
err_or (Ok x) d = d
err_or (Err e) d = e

pub same_fault : {T E : Type 0} (x y : E) (r : Result T E) → r ≡ Err x → r ≡ Err y → x ≡ y
unfolding err_or
same_fault {T} {E} x y r one two = ap (λ (s : Result T E). err_or s x) (sym one ∙ two)

-- an image that can open has no more regions than may live
pub uncrowded : (start : System) (regions : List Found) → CanOpen start regions → (n : ℕ) → HasRegions start n → region_limit < n → ⊥
uncrowded start regions can n has more = let least = can.uncrowded n has in omega (arith, least, more)

-- ---- a result is no refusal of the image

pub none_refused : {T : Type 0} (r : Result T OpenFault) (fault : OpenFault) → IfErr r (λ f. IsRefusedImage f → ⊥) → r ≡ Err fault → IsRefusedImage fault → ⊥
none_refused {T} r fault none is = subst (λ (x : Result T OpenFault). IfErr x (λ f. IsRefusedImage f → ⊥)) is none

pub nothing_refused : {T : Type 0} (r : Result T OpenFault) (P : Type 0) → IfErr r (λ f. IsRefusedImage f → ⊥) → IfErr r (λ f. IsRefusedImage f → P)
nothing_refused (Ok x) P none = tt
nothing_refused (Err f) P none = λ refused. absurd (none refused)

-- ---- a result is no other

module _ {T : Type 0} where
  abbrev stops : OpenFault → Result T OpenFault
  stops fault = Err fault

  pub memory_not_breach : (b : Breach) → stops faults.Memory ≡ stops (faults.Breach b) → ⊥
  memory_not_breach b is = cc

  pub memory_not_full : (n : ℕ) → stops faults.Memory ≡ stops (faults.Full n) → ⊥
  memory_not_full n is = cc

  pub memory_not_bus : stops faults.Memory ≡ stops faults.Bus → ⊥
  memory_not_bus is = cc

  pub bus_not_breach : (b : Breach) → stops faults.Bus ≡ stops (faults.Breach b) → ⊥
  bus_not_breach b is = cc

  pub bus_not_full : (n : ℕ) → stops faults.Bus ≡ stops (faults.Full n) → ⊥
  bus_not_full n is = cc

  pub bus_not_memory : stops faults.Bus ≡ stops faults.Memory → ⊥
  bus_not_memory is = cc

pub ok_not_err : {T E : Type 0} (x : T) (e : E) → Ok x ≡ Err e → ⊥
ok_not_err x e is = cc

-- too many regions are no breach, and no fault of the bus
pub full_not_breach : {T : Type 0} (fault : OpenFault) (n : ℕ) (b : Breach) (r : Result T OpenFault) → fault ≡ faults.Full n → r ≡ Err fault → r ≡ Err (faults.Breach b) → ⊥
full_not_breach fault n b r only one two = cc

pub full_not_bus : {T : Type 0} (fault : OpenFault) (n : ℕ) (r : Result T OpenFault) → fault ≡ faults.Full n → r ≡ Err fault → r ≡ Err faults.Bus → ⊥
full_not_bus fault n r only one two = cc

-- what rose after a count that did not fall rose from there
pub rose_after : (old mid new : ℕ) → old ≤ mid → Rose mid new → Rose old new
rose_after old mid new up rose = omega arith
