-- A machine in which the regions that have bytes stand in another order is held by the same media.
use Rattle.std.proofs.Common.{◌≡◌, ℕ, ◌+◌, List, map, sym, ap, ◌∙◌, subst}
use Rattle.std.specs.Prelude.{slice_get, unwrap_or}
use Rattle.std.specs.List.Sorted.{IsPermutation}
use Rattle.std.proofs.lemmas.List.Sorted.{IsPermutation-map, IsPermutation-sym, Contains-permutation, sum_by-IsPermutation}
use Rattle.cxl_regs.specs.Registers.{Registers}
use Rattle.cxl_media.specs.MediaState.{MediaState}
use Rattle.cxl_window.specs.Fields.{WindowFields}
use Rattle.cxl_model.specs.Contents.{Holding, AreMediaOf}
use Rattle.cxl_move.proofs.Told.{media_of_alike}
use Rattle.cxl_machine.specs.Machine.{Live, Machine, absent_window, kept_regions, pieces_held, image_of}
use Rattle.cxl_machine.specs.Copies.{pieces_of}
use Rattle.cxl_machine.specs.Sound.{IsMachine, IsSound, block_told}
use Rattle.cxl_session.specs.Standing.{HoldsMemory}

pub record IsRearranged (m n : Machine) : Type 0 where
  pub windows : n.settled.windows ≡ m.settled.windows
  pub frames : n.frames ≡ m.frames
  pub regions : IsPermutation (kept_regions m) (kept_regions n)

-- a region with its bytes and its window, of these windows
abbrev held_over : List WindowFields → Live → Holding
held_over ws region =
    record { found = region.found; window = unwrap_or (slice_get ws region.found.window) absent_window; contents = region.contents }

abbrev AreHeldBy : MediaState → List WindowFields → List Live → Type 0
AreHeldBy media ws regions = AreMediaOf (map (held_over ws) regions) (block_told media)

memory_again : (ws : List WindowFields) (xs ys : List Live) (media : MediaState) → IsPermutation xs ys → AreHeldBy media ws xs → AreHeldBy media ws ys
memory_again ws xs ys media moved are =
    let both : IsPermutation (map (held_over ws) xs) (map (held_over ws) ys) = IsPermutation-map (held_over ws) xs ys moved in
    let back : IsPermutation (map (held_over ws) ys) (map (held_over ws) xs) = IsPermutation-sym (map (held_over ws) xs) (map (held_over ws) ys) both in
    media_of_alike (map (held_over ws) xs) (map (held_over ws) ys) (block_told media) are
    (λ one. (Contains-permutation _ _ one both, Contains-permutation _ _ one back))

module _ (m n : Machine) (media : MediaState) (is : IsRearranged m n) where
  pub same_memory : HoldsMemory m media → HoldsMemory n media
  same_memory are =
      subst (λ (ws : List WindowFields). AreHeldBy media ws (kept_regions n)) (sym is.windows)
      (memory_again m.settled.windows (kept_regions m) (kept_regions n) media is.regions are)

  pub same_frames : media.free + pieces_held m ≡ m.frames → media.free + pieces_held n ≡ n.frames
  same_frames all =
      ap (λ (k : ℕ). media.free + k) (sum_by-IsPermutation pieces_of (kept_regions m) (kept_regions n) is.regions)
      ∙ all ∙ sym is.frames

  pub rearranged_sound : (old new : List Registers) → IsSound m old media → IsMachine n → new ≡ image_of n → IsSound n new media
  rearranged_sound old new sound machine image =
      record { machine = machine; registers = image; memory = same_memory sound.memory; frames = same_frames sound.frames }
