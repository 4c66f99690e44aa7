-- The live regions of a machine for which a session stands are regions of the session's image, with their kept routes.
use Rattle.std.proofs.Common.{◌≡◌, ◌↔◌, ℕ, zero, suc, ◌<◌, List, [], ◌∷◌, length, get_or, Some, sym, ap, ◌∙◌, subst, arith}
use Rattle.std.specs.Prelude.{All, Contains, slice_get}
use Rattle.std.proofs.lemmas.Option.{same_Some}
use Rattle.std.specs.List.{AllZip}
use Rattle.std.proofs.lemmas.List.Elements.{All-map}
use Rattle.cxl_regs.specs.Registers.{Registers}
use Rattle.cxl_topo.specs.declared.node.Node.{Node}
use Rattle.cxl_window.specs.Fields.{WindowFields}
use Rattle.cxl_model.specs.declared.found.Found.{Found}
use Rattle.cxl_model.specs.Accepted.{KeepsBlocks}
use Rattle.cxl_model.specs.Changes.{HaveSameDecoders}
use Rattle.cxl_model.specs.Regions.{region_range, IsRegion, IsRegionIn}
use Rattle.cxl_model.specs.System.{System, IsSystem, system_of}
use Rattle.cxl_walk.specs.declared.own.Own.{Own}
use Rattle.cxl_walk.specs.Keeping.{KeptFields, IsKept, own_decoders}
use Rattle.cxl_machine.specs.Machine.{Live, Machine, region_window, image_of, present}
use Rattle.cxl_machine.specs.Sound.{IsMachine}
use Rattle.cxl_machine.proofs.Present.{StaysLaw}
use Rattle.cxl_session.specs.declared.session.Session.TheInside.{Inside}
use Rattle.cxl_session.specs.Inside.{session_view}
use Rattle.cxl_session.specs.State.{SessionState, image_in}
use Rattle.cxl_session.specs.Standing.{IsKeptIn, StandsFor}
use Rattle.cxl_opening.proofs.Zipped.{there, zip_map}

-- ---- what is known of live regions while a job is pending, and of kept routes

abbrev pub StaysSystem : Type 0
StaysSystem = (m : Machine) → IsMachine m → IsSystem (present m) × KeepsBlocks (present m)

abbrev pub KeepsRoutes : Type 0
KeepsRoutes =
    (s t : System) (w : WindowFields) (found : Found) (kept : KeptFields) → IsSystem s → IsSystem t → HaveSameDecoders s t (region_range found) → KeepsBlocks t
    → IsRegionIn s w found → (IsKept s w found kept) ↔ (IsKept t w found kept)

-- what goes together in two lists does so at each place
zip_at : {A B : Type 0} (P : A → B → Type 0) (xs : List A) (ys : List B) → AllZip P xs ys → (k : ℕ) (x : A) (y : B) → slice_get xs k ≡ Some x → slice_get ys k ≡ Some y → P x y
zip_at P [] ys all k x y one two = cc
zip_at P (a ∷ xs) [] all k x y one two = cc
zip_at P (a ∷ xs) (b ∷ ys) all zero x y one two = subst (λ z. P z y) (same_Some a x one) (subst (λ z. P a z) (same_Some b y two) all.0)
zip_at P (a ∷ xs) (b ∷ ys) all (suc k) x y one two = zip_at P xs ys all.1 k x y one two

-- ---- a session and its machine

abbrev system_with : List Node → List Registers → List WindowFields → System
system_with nodes blocks windows = record { nodes = nodes; blocks = blocks; windows = windows }

module _ (session : SessionState) (m : Machine) (stands : StandsFor session m) where
  -- the image that the registers of the machine hold is the session's
  pub present_is : present m ≡ image_in session
  present_is =
      ap (λ nodes. system_with nodes (image_of m) m.settled.windows) stands.nodes
      ∙ ap (λ blocks. system_with session.topo.nodes blocks m.settled.windows) (sym stands.image)
      ∙ ap (λ windows. system_with session.topo.nodes session.image windows) stands.windows

  pub regions_stand : StaysLaw → IsMachine m → All (IsRegion (image_in session)) session.founds
  regions_stand region is =
      subst (All (IsRegion (image_in session))) (sym stands.founds)
      (All-map (IsRegion (image_in session)) (λ (r : Live). r.found) m.live (λ k d low.
      let own = (region m (get_or m.live k d) is (there m.live k d low)).1 in
      subst (λ (s : System). IsRegion s (get_or m.live k d).found) present_is (region_window m.settled (get_or m.live k d).found, own)))

  abbrev HasRoutes : Found → KeptFields → Type 0
  HasRoutes found kept = (w : WindowFields) × IsRegionIn (image_in session) w found × IsKept (image_in session) w found kept

  pub routes_stand : StaysSystem → StaysLaw → KeepsRoutes → IsMachine m → AllZip HasRoutes session.founds session.kept
  routes_stand system region keeps is =
      subst (λ (founds : List Found). AllZip HasRoutes founds session.kept) (sym stands.founds)
      (zip_map (λ (r : Live). r.found) (λ (r : Live) (kept : KeptFields). IsKeptIn m.settled r.found kept) HasRoutes m.live session.kept each stands.kept)
    where
      each : (r : Live) (kept : KeptFields) → Contains m.live r → IsKeptIn m.settled r.found kept → HasRoutes r.found kept
      each r kept inside own =
          let now = system m is in
          let stays = region m r is inside in
          let w = region_window m.settled r.found in
          let moved = (keeps m.settled (present m) w r.found kept is.settled.system now.0 stays.2 now.1 stays.0).0 own in
          subst (λ (s : System). (v : WindowFields) × IsRegionIn s v r.found × IsKept s v r.found kept) present_is (w, stays.1, moved)

  -- what is kept of a live region's own decoders is so in the image that the registers hold
  pub own_kept : StaysSystem → StaysLaw → KeepsRoutes → IsMachine m → (place : ℕ) (found : Found) (kept : KeptFields) → slice_get session.founds place ≡ Some found
      → slice_get session.kept place ≡ Some kept → kept.own ≡ own_decoders (image_in session) found
  own_kept system region keeps is place found kept at own = (zip_at HasRoutes session.founds session.kept (routes_stand system region keeps is) place found kept at own).2.own

-- so by the fields of a session
pub own_there_in : (session : SessionState) (inside : Inside) → session_view inside ≡ session → (m : Machine) → StandsFor session m → StaysSystem → StaysLaw → KeepsRoutes → IsMachine m
    → (place : ℕ) (found : Found) (kept : KeptFields) → slice_get session.founds place ≡ Some found → slice_get session.kept place ≡ Some kept → (own : List Own) → own ≡ kept.own
    → own ≡ own_decoders (system_of inside.image inside.topo []) found
own_there_in session inside view m stands system region keeps is place found kept at kept_there own are =
    are ∙ own_kept session m stands system region keeps is place found kept at kept_there
    ∙ ap (λ (s : SessionState). own_decoders (system_of s.image s.topo []) found) (sym view)

-- a place among the regions is one among what is kept of them
pub place_in_kept : (session : SessionState) (inside : Inside) → session_view inside ≡ session → length inside.founds ≡ length inside.names.items → length inside.kepts.items ≡ length inside.names.items
    → (place : ℕ) → place < length session.founds → place < length session.kept
place_in_kept session inside view founds kepts place low =
    let one : length inside.founds ≡ length session.founds = ap (λ (s : SessionState). length s.founds) view in
    let two : length inside.kepts.items ≡ length session.kept = ap (λ (s : SessionState). length s.kept) view in
    omega (arith, founds, kepts, low, one, two)
