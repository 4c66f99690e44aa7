-- The media that is left behind a job's last write holds the machine that then is.
use Rattle.std.proofs.Common.{◌≡◌, ℕ, List, [], ◌∷◌, ◌++◌, map, Option, Some, None, refl, sym, ap, ◌∙◌, subst, arith}
use Rattle.std.specs.Prelude.{Contains}
use Rattle.std.specs.FinMap as fin
use Rattle.std.specs.List.Sorted.{IsPermutation}
use Rattle.std.proofs.lemmas.List.{append-nil}
use Rattle.std.proofs.lemmas.List.Elements.{Contains-append_left, Contains-push}
use Rattle.std.proofs.lemmas.List.Sorted.{IsPermutation-sym, IsPermutation-middle, IsPermutation-to_front, IsPermutation-map}
use Rattle.cxl_regs.specs.Registers.{Registers}
use Rattle.cxl_media.specs.Blocks.{Blocks}
use Rattle.cxl_media.specs.MediaState.{MediaState, frame_count}
use Rattle.cxl_model.specs.Contents.{Contents, Holding, AreMediaOf}
use Rattle.cxl_model.specs.Regions.{IsRegion}
use Rattle.cxl_model.specs.System.{System, IsSystem}
use Rattle.cxl_move.specs.Holdings.{told_in, AreHoldings}
use Rattle.cxl_move.specs.Sides.{IsCleared}
use Rattle.cxl_machine.specs.Machine.{Live, RegionJob, JobKind, Creates, Releases, Machine, holding_of, region_released, under_release, kept_regions}
use Rattle.cxl_machine.specs.Jobs.{live_when_done, settled_by, finished}
use Rattle.cxl_machine.specs.Sound.{IsMachine, IsSound, block_told}
use Rattle.cxl_machine.proofs.KeepingBytes.{uncounted}
use Rattle.cxl_machine.proofs.Released.{made_holds_none}
use Rattle.cxl_session.specs.Standing.{released_place, HoldsMemory}
use Rattle.cxl_session.specs.inner.Regions.{IsLeftBy}
use Rattle.cxl_session.proofs.Holding.{CountLaw, kept_region, are_holdings, holdings_again, media_again, blocks_held}

pub record MediaLaws : Type 0 where
  pub count : CountLaw
  pub gone : (s : System) (one : Holding) (others : List Holding) (old new : Blocks) → AreHoldings s (one ∷ others) → AreMediaOf (one ∷ others) (told_in old) → IsCleared one.found old new → AreMediaOf others (told_in new)
  pub empty : (one : Holding) (others : List Holding) (media : ℕ → ℕ → Option (List ℕ)) → AreMediaOf others media → AreMediaOf ((record one { contents = fin.empty }) ∷ others) media

module _ (laws : MediaLaws) (m : Machine) (is : IsMachine m) (job : RegionJob) (pending : m.job ≡ Some job) (old new : MediaState) where
  abbrev held : Live → Holding
  held = holding_of m.settled

  abbrev AreHeldAs : List Live → MediaState → Type 0
  AreHeldAs regions media = AreMediaOf (map held regions) (block_told media)

  kept_as : (kind : JobKind) → job.kind ≡ kind → kept_regions m ≡ m.live ++ region_released job kind
  kept_as kind same = ap (λ (o : Option RegionJob). m.live ++ under_release o) pending ∙ ap (λ (k : JobKind). m.live ++ region_released job k) same

  -- the region that was made holds no byte
  created : IsPermutation (job.region ∷ (m.live ++ [])) ((m.live ++ job.region ∷ []) ++ [])
  created =
      subst (IsPermutation (job.region ∷ (m.live ++ []))) (sym (append-nil (m.live ++ job.region ∷ [])))
      (IsPermutation-sym (m.live ++ job.region ∷ []) (job.region ∷ (m.live ++ [])) (IsPermutation-middle m.live job.region []))

  with_empty : job.region.contents ≡ fin.empty → AreHeldAs (m.live ++ []) old → AreHeldAs (job.region ∷ (m.live ++ [])) old
  with_empty none are =
      subst (λ (c : Contents). AreMediaOf ((record (held job.region) { contents = c }) ∷ map held (m.live ++ [])) (block_told old)) (sym none)
      (laws.empty (held job.region) (map held (m.live ++ [])) (block_told old) are)

  -- that which is gone leaves none
  cleared : AreHoldings m.settled (map held (m.live ++ job.region ∷ [])) → AreHeldAs (m.live ++ job.region ∷ []) old → IsCleared job.region.found old.blocks new.blocks → AreHeldAs m.live new
  cleared are told gone =
      let front : IsPermutation (map held (m.live ++ job.region ∷ [])) (map held (job.region ∷ m.live)) =
      IsPermutation-map held (m.live ++ job.region ∷ []) (job.region ∷ m.live) (IsPermutation-to_front m.live job.region) in
      laws.gone m.settled (held job.region) (map held m.live) old.blocks new.blocks
      (holdings_again m.settled (map held (m.live ++ job.region ∷ [])) (map held (job.region ∷ m.live)) front are)
      (media_again (map held (m.live ++ job.region ∷ [])) (map held (job.region ∷ m.live)) (block_told old) front told) gone

  abbrev EndsAs : JobKind → Type 0
  EndsAs kind = AreMediaOf (map (holding_of (settled_by job kind m.settled)) (live_when_done job kind m.live ++ [])) (block_told new)

  ended_by : (kind : JobKind) → job.kind ≡ kind → HoldsMemory m old → IsLeftBy (released_place kind) job.region.found old new → EndsAs kind
  ended_by (Creates rows) same memory left =
      let are : AreHeldAs (m.live ++ []) old = subst (λ (rs : List Live). AreHeldAs rs old) (kept_as (Creates rows) same) memory in
      let none = made_holds_none m job rows is pending same in
      subst (λ (media : MediaState). AreHeldAs ((m.live ++ job.region ∷ []) ++ []) media) (sym left)
      (media_again (map held (job.region ∷ (m.live ++ []))) (map held ((m.live ++ job.region ∷ []) ++ [])) (block_told old)
      (IsPermutation-map held (job.region ∷ (m.live ++ [])) ((m.live ++ job.region ∷ []) ++ []) created) (with_empty none are))
  ended_by (Releases place) same memory left =
      let kept = kept_as (Releases place) same in
      let holdings = subst (λ (rs : List Live). AreHoldings m.settled (map held rs)) kept (are_holdings m (uncounted m is)) in
      let are = subst (λ (rs : List Live). AreHeldAs rs old) kept memory in
      subst (λ (rs : List Live). AreHeldAs rs new) (sym (append-nil m.live)) (cleared holdings are left.0)

  counted_by : (place : Option ℕ) → IsLeftBy place job.region.found old new → frame_count new ≡ frame_count old
  counted_by None left = ap frame_count left
  counted_by (Some place) left = left.1

  pub finished_sound : (before after : List Registers) → IsSound m before old → IsMachine (finished job m) → IsLeftBy (released_place job.kind) job.region.found old new
      → after ≡ (settled_by job job.kind m.settled).blocks → IsSound (finished job m) after new
  finished_sound before after sound next left image =
      let memory : HoldsMemory (finished job m) new = ended_by job.kind refl sound.memory left in
      let first = blocks_held laws.count m old (uncounted m is) sound.memory in
      let second = blocks_held laws.count (finished job m) new (uncounted (finished job m) next) memory in
      let count = counted_by (released_place job.kind) left in
      let frames = sound.frames in
      record { machine = next; registers = image; memory = memory; frames = omega (arith, first, second, count, frames) }

  -- the job's region is one of an image
  region_by : (kind : JobKind) → job.kind ≡ kind → IsMachine (finished job m) → (s : System) × IsSystem s × IsRegion s job.region.found
  region_by (Creates rows) same next =
      let there : Contains (kept_regions (finished job m)) job.region =
      subst (λ (k : JobKind). Contains (live_when_done job k m.live ++ []) job.region) (sym same) (Contains-append_left (m.live ++ job.region ∷ []) [] job.region (Contains-push m.live job.region)) in
      ((finished job m).settled, next.settled.system, (_, kept_region (finished job m) (uncounted (finished job m) next) job.region there))
  region_by (Releases place) same next =
      let there : Contains (kept_regions m) job.region = subst (λ (rs : List Live). Contains rs job.region) (sym (kept_as (Releases place) same)) (Contains-push m.live job.region) in
      (m.settled, is.settled.system, (_, kept_region m (uncounted m is) job.region there))

  pub region_of_job : IsMachine (finished job m) → (s : System) × IsSystem s × IsRegion s job.region.found
  region_of_job next = region_by job.kind refl next
