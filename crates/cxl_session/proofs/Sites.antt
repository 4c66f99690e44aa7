-- The live region into which a store goes, by what a session keeps of it.
use Rattle.std.proofs.Common.{◌≡◌, ℕ, ◌+◌, ◌≤◌, true, List, length, Some, Ok, sym, subst}
use Rattle.std.specs.Prelude.{slice_get}
use Rattle.cxl_script.specs.declared.command.Store.{Store}
use Rattle.cxl_deal.specs.Weaves.{WeaveFields}
use Rattle.cxl_media.specs.MediaState.{MediaState}
use Rattle.cxl_model.specs.declared.found.Found.{Found}
use Rattle.cxl_model.specs.Regions.{Carries}
use Rattle.cxl_reply.specs.declared.reply.Reply.{Reply}
use Rattle.cxl_walk.specs.Keeping.{KeptFields}
use Rattle.cxl_machine.specs.Machine.{Live, Machine, live_at, region_window}
use Rattle.cxl_machine.specs.Replies.{Answer, within_region, ends_within}
use Rattle.cxl_machine.specs.Accesses.{store_answer, store_into}
use Rattle.cxl_machine.specs.Sound.{IsMachine}
use Rattle.cxl_session.specs.State.{SessionState}
use Rattle.cxl_session.specs.inner.Answering.{IsWithin, IsWrittenAs}
use Rattle.cxl_move.specs.Woven.{IsWovenIn}
use Rattle.cxl_session.proofs.Loads.{lies_from, lies_ends, woven_within}
use Rattle.cxl_session.proofs.Within.{found_is}

pub record IsSite (m : Machine) (store : Store) (found : Found) (weave : WeaveFields) : Type 0 where
  pub region : Live
  pub there : live_at m store.h ≡ Some region
  pub fits : ends_within region.found store.h (length store.bytes) ≡ true
  pub answers : (answer : Live → Answer) → within_region m store.h (length store.bytes) answer ≡ answer region
  pub same : found ≡ region.found
  pub woven : IsWovenIn m.settled (region_window m.settled region.found) found weave
  pub from : found.base ≤ store.h
  pub ends : store.h + length store.bytes ≤ found.base + found.size

pub site : (session : SessionState) (m : Machine) → IsMachine m → (store : Store) (bytes : List ℕ) (place : ℕ) → bytes ≡ store.bytes → IsWithin session m store.h (length bytes) (Ok place)
    → (found : Found) → slice_get session.founds place ≡ Some found → (kept : KeptFields) → slice_get session.kept place ≡ Some kept → (weave : WeaveFields) → weave ≡ kept.weave
    → IsSite m store found weave
site session m is store bytes place items own found found_there kept kept_there weave weave_is =
    let within : IsWithin session m store.h (length store.bytes) (Ok place) = subst (λ (xs : List ℕ). IsWithin session m store.h (length xs) (Ok place)) items own in
    record {
      region = within.0;
      there = within.4;
      fits = within.2;
      answers = within.3;
      same = found_is session m place within.0 within.1 found found_there;
      woven = woven_within session m is store.h (length store.bytes) place within found found_there kept weave kept_there weave_is;
      from = lies_from session m is store.h (length store.bytes) place within found found_there;
      ends = lies_ends session m is store.h (length store.bytes) place within found found_there;
    }

module _ (m : Machine) (store : Store) (found : Found) (weave : WeaveFields) (here : IsSite m store found weave) where
  -- what the region carries
  pub region_carries : (h ep dpa : ℕ) → Carries found (region_window m.settled here.region.found) h ep dpa → Carries here.region.found (region_window m.settled here.region.found) h ep dpa
  region_carries h ep dpa carries = subst (λ (f : Found). Carries f (region_window m.settled here.region.found) h ep dpa) here.same carries

  -- what the store is answered
  pub store_written : (session : SessionState) (new : MediaState) (reply : Reply) → IsWrittenAs session new (store_into m store here.region) reply → IsWrittenAs session new (store_answer m store) reply
  store_written session new reply written = subst (λ (a : Answer). IsWrittenAs session new a reply) (sym (here.answers (store_into m store))) written
