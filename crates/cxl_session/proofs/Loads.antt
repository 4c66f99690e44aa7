-- What is read of a live region, by what a session keeps of it.
use Rattle.std.proofs.Common.{◌≡◌, ℕ, ◌+◌, ◌-◌, ◌≤◌, true, List, Option, Some, Ok, sym, ap, ◌∙◌, subst}
use Rattle.std.specs.Prelude.{slice_get, Contains}
use Rattle.std.specs.Option.{option_map_or}
use Rattle.std.specs.FinMap as fin
use Rattle.std.proofs.lemmas.Bool.{leb-true}
use Rattle.cxl_script.specs.declared.command.Load.{Load}
use Rattle.cxl_deal.specs.Weaves.{WeaveFields}
use Rattle.cxl_window.specs.Fields.{WindowFields}
use Rattle.cxl_media.specs.MediaState.{MediaState}
use Rattle.cxl_media.specs.Blocks.{Blocks}
use Rattle.cxl_model.specs.declared.found.Found.{Found}
use Rattle.cxl_model.specs.System.{System, IsSystem}
use Rattle.cxl_model.specs.Contents.{Contents, Holding, AreMediaOf}
use Rattle.cxl_model.specs.Regions.{IsRegionIn}
use Rattle.cxl_poison.proofs.Pieced.{WindowsThere}
use Rattle.cxl_walk.specs.Keeping.{KeptFields, IsKeptOf}
use Rattle.cxl_move.specs.Sides.{IsPieceAt}
use Rattle.cxl_move.specs.Holdings.{told_in, AreHoldings}
use Rattle.cxl_reply.specs.declared.details.Downed.{Downed}
use Rattle.cxl_reply.specs.declared.reply.Reply.{Reply}
use Rattle.cxl_reply.specs.declared.reply.Reply.TheVariants as replies
use Rattle.cxl_machine.specs.Machine.{Live, Machine, has_host, region_window}
use Rattle.cxl_machine.specs.Sound.{IsMachine}
use Rattle.cxl_move.specs.Bytes.{bytes_at}
use Rattle.cxl_machine.specs.Replies.{stays}
use Rattle.cxl_machine.specs.Accesses.{load_answer, offset_in, downed, down_answer}
use Rattle.cxl_machine.proofs.LiveRegions.{live_is_region}
use Rattle.cxl_session.specs.State.{SessionState}
use Rattle.cxl_session.specs.Standing.{HoldsMemory, IsKeptIn}
use Rattle.cxl_session.specs.inner.Places.{StandsAt, HoldsAt}
use Rattle.cxl_move.specs.Woven.{IsWovenIn, HasPieces}
use Rattle.cxl_session.specs.inner.Answering.{IsWithin}
use Rattle.cxl_live.proofs.Hosts.{host_from, host_below}
use Rattle.cxl_session.proofs.Held.{has_pieces}
use Rattle.cxl_session.proofs.Within.{holds_host, holds_live, found_is, kept_is, name_is}

-- media has the pieces of each region whose bytes it holds
abbrev pub PiecesLaw : Type 0
PiecesLaw =
    (s : System) (holdings : List Holding) (one : Holding) (blocks : Blocks) (n endpoint block : ℕ) → AreHoldings s holdings → AreMediaOf holdings (told_in blocks) → Contains holdings one
    → IsPieceAt one.found one.window n endpoint block → fin.get blocks (endpoint, block) ≡ fin.get one.contents n

-- ---- a region at a place

module _ (session : SessionState) (m : Machine) (is : IsMachine m) (place : ℕ) (region : Live) (at : StandsAt session m place region) (there : Contains m.live region) where
  pub woven_at : (found : Found) (kept : KeptFields) (weave : WeaveFields) → slice_get session.founds place ≡ Some found → slice_get session.kept place ≡ Some kept → weave ≡ kept.weave
      → IsWovenIn m.settled (region_window m.settled region.found) found weave
  woven_at found kept weave found_there kept_there same =
      let own : IsWovenIn m.settled (region_window m.settled region.found) region.found weave =
      record { system = is.settled.system; region = live_is_region m is region there; dealt = same ∙ (kept_is session m place region at kept kept_there).weave } in
      subst (λ (f : Found). IsWovenIn m.settled (region_window m.settled region.found) f weave) (sym (found_is session m place region at found found_there)) own

  pub kept_of : (kept : KeptFields) (h : ℕ) → slice_get session.kept place ≡ Some kept → has_host region.found h ≡ true → IsKeptOf kept h
  kept_of kept h kept_there has = record {
    s = m.settled;
    w = region_window m.settled region.found;
    found = region.found;
    system = is.settled.system;
    region = live_is_region m is region there;
    is = kept_is session m place region at kept kept_there;
    from = host_from region.found h has;
    below = host_below region.found h has;
  }

-- ---- so many bytes of one

module _ (session : SessionState) (m : Machine) (is : IsMachine m) (h len place : ℕ) (within : IsWithin session m h len (Ok place)) (found : Found) (found_there : slice_get session.founds place ≡ Some found) where
  there : Contains m.live within.0
  there = holds_live m h within.0 within.4

  same : found ≡ within.0.found
  same = found_is session m place within.0 within.1 found found_there

  pub lies_from : found.base ≤ h
  lies_from = subst (λ (f : Found). f.base ≤ h) (sym same) (host_from within.0.found h (holds_host m h within.0 within.4))

  pub lies_ends : h + len ≤ found.base + found.size
  lies_ends = subst (λ (f : Found). h + len ≤ f.base + f.size) (sym same) (leb-true (h + len) (within.0.found.base + within.0.found.size) within.2)

  pub woven_within : (kept : KeptFields) (weave : WeaveFields) → slice_get session.kept place ≡ Some kept → weave ≡ kept.weave → IsWovenIn m.settled (region_window m.settled within.0.found) found weave
  woven_within kept weave kept_there = woven_at session m is place within.0 within.1 there found kept weave found_there kept_there

module _ (law : WindowsThere) (hold : PiecesLaw) (session : SessionState) (m : Machine) (is : IsMachine m) (media : MediaState) (memory : HoldsMemory m media) (load : Load) (place : ℕ)
    (within : IsWithin session m load.h load.len (Ok place)) (found : Found) (found_there : slice_get session.founds place ≡ Some found) (weave : WeaveFields)
    (woven : IsWovenIn m.settled (region_window m.settled within.0.found) found weave) where
  pub loaded : (reply : Reply)
      → ((s : System) (w : WindowFields) (contents : Contents) → IsWovenIn s w found weave → HasPieces found w contents media.blocks → reply ≡ replies.Loaded (bytes_at contents (load.h - found.base) load.len))
      → load_answer m load ≡ stays m reply
  loaded reply read =
      let region : Live = within.0 in
      let alike : found ≡ region.found = found_is session m place region within.1 found found_there in
      let pieces = has_pieces law m is hold media memory region (holds_live m load.h region within.4) in
      let here : HasPieces found (region_window m.settled region.found) region.contents media.blocks =
      subst (λ (f : Found). HasPieces f (region_window m.settled region.found) region.contents media.blocks) (sym alike) pieces in
      within.3 (λ (r : Live). stays m (replies.Loaded (bytes_at r.contents (offset_in r load.h) load.len)))
      ∙ ap (λ (f : Found). stays m (replies.Loaded (bytes_at region.contents (load.h - f.base) load.len))) (sym alike)
      ∙ ap (stays m) (sym (read m.settled (region_window m.settled region.found) region.contents woven here))

-- ---- the way down

module _ (session : SessionState) (m : Machine) (is : IsMachine m) (h place : ℕ) (holds : HoldsAt session m h (Some place)) (kept : KeptFields) (kept_there : slice_get session.kept place ≡ Some kept) where
  pub kept_down : IsKeptOf kept h
  kept_down = kept_of session m is place holds.0 holds.2 (holds_live m h holds.0 holds.1) kept h kept_there (holds_host m h holds.0 holds.1)

  pub told_down : (name : List ℕ) (told : Downed) → slice_get session.names place ≡ Some name
      → ((n : Machine) (region : Live) → IsSystem n.settled → IsRegionIn n.settled (region_window n.settled region.found) region.found → IsKeptIn n.settled region.found kept → has_host region.found h ≡ true → name ≡ region.name
      → told ≡ downed n h region)
      → down_answer m h ≡ stays m (replies.Down told)
  told_down name told name_there tells =
      let region : Live = holds.0 in
      let same = tells m region is.settled.system (live_is_region m is region (holds_live m h region holds.1)) (kept_is session m place region holds.2 kept kept_there) (holds_host m h region holds.1)
      (name_is session m place region holds.2 name name_there) in
      ap (λ (o : Option Live). option_map_or (λ (r : Live). stays m (replies.Down (downed m h r))) o (stays m replies.Unmapped)) holds.1
      ∙ ap (λ (d : Downed). stays m (replies.Down d)) (sym same)
