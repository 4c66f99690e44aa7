-- Stores into a live region: the bytes put into one block or two, and the machine that answers.
use Rattle.std.proofs.Common.{◌≡◌, ◌≢◌, ℕ, ◌+◌, ◌-◌, ◌/◌, ◌%◌, ◌<◌, ◌≤◌, Bool, true, false, cond, if◌then◌else◌, List, [], ◌∷◌, ◌++◌, map, length, take, drop, min, Option, Some, is_some, refl, sym, ap, ◌∙◌, subst, arith}
use Rattle.std.specs.Prelude.{unwrap_or, replicate, nat_lt, nat_le, Contains}
use Rattle.std.specs.FinMap as fin
use Rattle.std.specs.List.Sorted.{IsPermutation}
use Rattle.std.specs.Str.{bytes_eq}
use Rattle.std.proofs.lemmas.Bool.{cond-true, cond-false, lt-ltb, le-ltb, leb-true, and_parts, false≢true}
use Rattle.std.proofs.lemmas.List.{length-append, length-take, length-drop, take_all, take-append-drop}
use Rattle.std.proofs.lemmas.List.Sorted.{IsPermutation-sym, IsPermutation-map, IsPermutation-append_left}
use Rattle.cxl_script.specs.declared.command.Store.{Store}
use Rattle.cxl_window.specs.Fields.{WindowFields}
use Rattle.cxl_media.specs.Blocks.{Blocks, Key, key_of, block_at, overwritten, IsInOneBlock}
use Rattle.cxl_media.specs.MediaState.{MediaState}
use Rattle.cxl_media.proofs.Zeros.{length-zeros, zeros_from}
use Rattle.cxl_model.specs.declared.found.Found.{Found}
use Rattle.cxl_model.specs.System.{System, IsSystem}
use Rattle.cxl_model.specs.Regions.{IsRegionIn, Carries}
use Rattle.cxl_model.specs.Contents.{Contents, Holding, AreMediaOf}
use Rattle.cxl_move.specs.Sides.{IsPieceAt}
use Rattle.cxl_move.specs.Holdings.{told_in, AreHoldings}
use Rattle.cxl_reply.specs.declared.reply.Reply.{Reply}
use Rattle.cxl_reply.specs.declared.reply.Reply.TheVariants as replies
use Rattle.cxl_machine.specs.Accesses.{offset_in, frames_wanted, store_into}
use Rattle.cxl_move.specs.Bytes.{AreBytes, piece_after, written}
use Rattle.cxl_machine.specs.Machine.{Live, Machine, live_at, has_host, region_window, holding_of, under_release, kept_regions, free_frames, with_contents}
use Rattle.cxl_machine.specs.Replies.{Answer, stays, becomes, ends_within, is_refusal}
use Rattle.cxl_machine.specs.Sound.{block_told}
use Rattle.cxl_machine.proofs.KeepingBytes.{IsUncounted, uncounted}
use Rattle.cxl_machine.proofs.KeepingLists.{changed, HaveOwnNames}
use Rattle.cxl_machine.proofs.KeepingMachines.{TurnsLaw, live_there, store_keeps, kept_there}
use Rattle.cxl_machine.proofs.KeepingOrder.{pairs_front, all_front}
use Rattle.cxl_machine.proofs.LiveRegions.{live_is_region}
use Rattle.cxl_session.specs.State.{SessionState}
use Rattle.cxl_session.specs.Standing.{HoldsMemory}
use Rattle.cxl_session.specs.inner.Answering.{HoldsMachine, IsWrittenAs}
use Rattle.cxl_move.specs.Puts.{need_at, IsPut, PutsOne, PutsTwo}
use Rattle.cxl_move.specs.Puts as puts
use Rattle.cxl_session.proofs.Fronts.{at_front, front_with, own_again, own_changed}
use Rattle.cxl_session.proofs.Holding.{CountLaw, holdings_of, are_holdings, holdings_again, media_again, holds_next, contains_map}
use Rattle.cxl_move.proofs.WrittenPieces.{put_over, written_one, written_two, one_new, two_new}
use Rattle.cxl_session.proofs.Stays.{stands_with}

-- the laws that these rest on
pub record StoreLaws : Type 0 where
  pub count : CountLaw
  pub held : (s : System) (holdings : List Holding) (one : Holding) (blocks : Blocks) (n endpoint block : ℕ) → AreHoldings s holdings → AreMediaOf holdings (told_in blocks) → Contains holdings one
      → IsPieceAt one.found one.window n endpoint block → fin.get blocks (endpoint, block) ≡ fin.get one.contents n
  pub put : (s : System) (one : Holding) (others : List Holding) (blocks : Blocks) (n endpoint block : ℕ) (bytes : List ℕ) → AreHoldings s (one ∷ others) → AreMediaOf (one ∷ others) (told_in blocks)
      → IsPieceAt one.found one.window n endpoint block → AreMediaOf ((record one { contents = fin.insert one.contents n bytes }) ∷ others) (told_in (fin.insert blocks (endpoint, block) bytes))
  pub turns : TurnsLaw
  pub block : (s : System) (w : WindowFields) (found : Found) (h endpoint dpa : ℕ) → IsSystem s → IsRegionIn s w found → Carries found w h endpoint dpa
      → IsPieceAt found w ((h - found.base) / 256) endpoint (dpa / 256)
  pub offset : (s : System) (w : WindowFields) (found : Found) (h endpoint dpa : ℕ) → IsSystem s → IsRegionIn s w found → Carries found w h endpoint dpa → dpa % 256 ≡ (h - found.base) % 256

-- ---- blocks

pub in_one_block : (offset dpa len : ℕ) → dpa % 256 ≡ offset % 256 → 1 ≤ len → offset % 256 + len ≤ 256 → IsInOneBlock dpa len
in_one_block offset dpa len same some fits = record { some = some; fits = omega (arith, same, fits) }

-- two pieces that follow have two blocks
pub keys_differ : (found : Found) (w : WindowFields) (h k ep dpa other place : ℕ) → ((n i endpoint block : ℕ) → IsPieceAt found w n endpoint block → IsPieceAt found w i endpoint block → n ≡ i)
    → IsPieceAt found w ((h - found.base) / 256) ep (dpa / 256) → IsPieceAt found w ((h + k - found.base) / 256) other (place / 256) → found.base ≤ h → (h - found.base) % 256 + k ≡ 256
    → key_of ep dpa ≢ key_of other place
keys_differ found w h k ep dpa other place alone one two from ends same =
    let here : IsPieceAt found w ((h + k - found.base) / 256) ep (dpa / 256) =
    subst (λ (x : Key). IsPieceAt found w ((h + k - found.base) / 256) x.0 x.1) (sym same) two in
    let number = alone ((h - found.base) / 256) ((h + k - found.base) / 256) ep (dpa / 256) one here in
    omega (arith, number, from, ends)

-- ---- where bytes are cut

module _ (bytes front back : List ℕ) (offset n : ℕ) (part : n ≡ min (length bytes) (256 - offset % 256)) (first : front ≡ take n bytes) (rest : back ≡ drop n bytes) where
  pub cut_is : bytes ≡ front ++ back
  cut_is = sym (take-append-drop n bytes) ∙ (λ i. sym first i ++ sym rest i)

  front_long : length front ≡ n
  front_long = let long = ap (λ (xs : List ℕ). length xs) first ∙ length-take n bytes in omega (arith, long, part)

  back_long : length back ≡ length bytes - n
  back_long = ap (λ (xs : List ℕ). length xs) rest ∙ length-drop n bytes

  pub one_fits : length back ≡ 0 → offset % 256 + length bytes ≤ 256
  one_fits none = omega (arith, none, back_long, part)

  pub cut_ends : 1 ≤ length back → offset % 256 + length front ≡ 256
  cut_ends some = omega (arith, some, back_long, front_long, part)

-- ---- bytes that are put into one piece

module _ (laws : StoreLaws) (session : SessionState) (old : MediaState) (m : Machine) (holds : HoldsMachine session old m) (region : Live) (live : Contains m.live region) (h ep dpa : ℕ)
    (carries : Carries region.found (region_window m.settled region.found) h ep dpa) where
  abbrev w : WindowFields
  w = region_window m.settled region.found

  abbrev number : ℕ
  number = offset_in region h / 256

  at_piece : IsPieceAt region.found w number ep (dpa / 256)
  at_piece = laws.block m.settled w region.found h ep dpa holds.machine.settled.system (live_is_region m holds.machine region live) carries

  pub aligned : dpa % 256 ≡ offset_in region h % 256
  aligned = laws.offset m.settled w region.found h ep dpa holds.machine.settled.system (live_is_region m holds.machine region live) carries

  own_piece : fin.get old.blocks (ep, dpa / 256) ≡ fin.get region.contents number
  own_piece =
      laws.held m.settled (holdings_of m) (holding_of m.settled region) old.blocks number ep (dpa / 256) (are_holdings m (uncounted m holds.machine)) holds.memory
      (contains_map (holding_of m.settled) (kept_regions m) region (kept_there m region live)) at_piece

  pub need_is : need_at old ep dpa ≡ cond (fin.contains_key region.contents number) 0 1
  need_is = ap (λ (o : Option (List ℕ)). cond (is_some o) 0 1) own_piece

  own_block : block_at old.blocks (key_of ep dpa) ≡ unwrap_or (fin.get region.contents number) (replicate 256 0)
  own_block =
      ap (unwrap_or (fin.get old.blocks (ep, dpa / 256))) (sym (zeros_from 0 256 (omega arith) ∙ take_all 256 _ (omega (arith, length-zeros))))
      ∙ ap (λ (o : Option (List ℕ)). unwrap_or o (replicate 256 0)) own_piece

  in_front : (rest : List Live) × IsPermutation m.live (region ∷ rest)
  in_front = at_front m.live region live

  abbrev others : List Holding
  others = map (holding_of m.settled) (in_front.0 ++ under_release m.job)

  before : IsPermutation (holdings_of m) (holding_of m.settled region ∷ others)
  before =
      IsPermutation-map (holding_of m.settled) (kept_regions m) (region ∷ in_front.0 ++ under_release m.job)
      (IsPermutation-append_left (under_release m.job) m.live (region ∷ in_front.0) in_front.1)

  own_front : HaveOwnNames (region ∷ in_front.0)
  own_front = own_again m.live (region ∷ in_front.0) in_front.1 (pairs_front (λ (a b : Live). a.name ≢ b.name) m.live (under_release m.job) holds.machine.regions.names)

  behind : (contents : Contents) → IsPermutation (holdings_of (with_contents region.name contents m)) (record (holding_of m.settled region) { contents = contents } ∷ others)
  behind contents =
      IsPermutation-map (holding_of m.settled) (kept_regions (with_contents region.name contents m)) (record region { contents = contents } ∷ in_front.0 ++ under_release m.job)
      (IsPermutation-append_left (under_release m.job) (with_contents region.name contents m).live (record region { contents = contents } ∷ in_front.0)
      (front_with m.live region in_front.0 contents own_front in_front.1))

  module _ (new : MediaState) (bytes : List ℕ) (is : IsPut ep dpa bytes old new) where
    fits : offset_in region h % 256 + length bytes ≤ 256
    fits = let own = is.within.fits in omega (arith, aligned, own)

    abbrev piece : List ℕ
    piece = piece_after region.contents (offset_in region h) bytes number

    piece_is : overwritten (block_at old.blocks (key_of ep dpa)) (dpa % 256) bytes ≡ piece
    piece_is =
        ap (λ (a : ℕ). overwritten (block_at old.blocks (key_of ep dpa)) a bytes) aligned
        ∙ put_over region.contents (block_at old.blocks (key_of ep dpa)) (offset_in region h) bytes is.whole fits own_block

    blocks_are : new.blocks ≡ fin.insert old.blocks (ep, dpa / 256) piece
    blocks_are = is.blocks ∙ ap (fin.insert old.blocks (ep, dpa / 256)) piece_is

    contents_are : written region.contents (offset_in region h) bytes ≡ fin.insert region.contents number piece
    contents_are = written_one region.contents (offset_in region h) bytes is.within.some fits

    abbrev after : Machine
    after = with_contents region.name (written region.contents (offset_in region h) bytes) m

    next_memory : HoldsMemory after new
    next_memory =
        let one : Holding = holding_of m.settled region in
        let first =
        laws.put m.settled one others old.blocks number ep (dpa / 256) piece (holdings_again m.settled (holdings_of m) (one ∷ others) before (are_holdings m (uncounted m holds.machine)))
        (media_again (holdings_of m) (one ∷ others) (told_in old.blocks) before holds.memory) at_piece in
        let second : AreMediaOf (record one { contents = written region.contents (offset_in region h) bytes } ∷ others) (told_in (fin.insert old.blocks (ep, dpa / 256) piece)) =
        subst (λ (c : Contents). AreMediaOf (record one { contents = c } ∷ others) (told_in (fin.insert old.blocks (ep, dpa / 256) piece))) (sym contents_are) first in
        let third : AreMediaOf (record one { contents = written region.contents (offset_in region h) bytes } ∷ others) (told_in new.blocks) =
        subst (λ (b : Blocks). AreMediaOf (record one { contents = written region.contents (offset_in region h) bytes } ∷ others) (told_in b)) (sym blocks_are) second in
        media_again (record one { contents = written region.contents (offset_in region h) bytes } ∷ others) (holdings_of after) (block_told new)
        (IsPermutation-sym (holdings_of after) (record one { contents = written region.contents (offset_in region h) bytes } ∷ others) (behind (written region.contents (offset_in region h) bytes))) third

    pub put_holds : IsUncounted after → HoldsMachine session new after
    put_holds keeps =
        holds_next laws.count session old new m after holds (stands_with region.name (written region.contents (offset_in region h) bytes) m session holds.stands) keeps next_memory refl is.frames

-- ---- other bytes twice

twice : (name : List ℕ) (first second : Contents) (b : Bool) (region : Live) → bytes_eq region.name name ≡ b
    → changed name second (if b then record region { contents = first } else region) ≡ (if b then record region { contents = second } else region)
twice name first second true region is = ap (λ (b : Bool). if b then record region { contents = second } else record region { contents = first }) is
twice name first second false region is = ap (λ (b : Bool). if b then record region { contents = second } else region) is

changed_twice : (name : List ℕ) (first second : Contents) (live : List Live) → map (changed name second) (map (changed name first) live) ≡ map (changed name second) live
changed_twice name first second [] = refl
changed_twice name first second (region ∷ live) =
    ap (λ (r : Live). r ∷ map (changed name second) (map (changed name first) live)) (twice name first second (bytes_eq region.name name) region refl)
    ∙ ap (λ (rs : List Live). changed name second region ∷ rs) (changed_twice name first second live)

with_twice : (name : List ℕ) (first second : Contents) (m : Machine) → with_contents name second (with_contents name first m) ≡ with_contents name second m
with_twice name first second m = ap (λ (live : List Live). record m { live = live }) (changed_twice name first second m.live)

-- ---- the answer

module _ (laws : StoreLaws) (session : SessionState) (old : MediaState) (m : Machine) (holds : HoldsMachine session old m) (store : Store) (region : Live)
    (found : live_at m store.h ≡ Some region) (fits : ends_within region.found store.h (length store.bytes) ≡ true) (small : AreBytes store.bytes) where
  there : Contains m.live region × (has_host region.found store.h ≡ true)
  there = live_there m (λ (r : Live). has_host r.found store.h) region found

  from : region.found.base ≤ store.h
  from = leb-true region.found.base store.h (and_parts (nat_le region.found.base store.h) (nat_lt store.h (region.found.base + region.found.size)) there.1).0

  within : store.h + length store.bytes ≤ region.found.base + region.found.size
  within = leb-true (store.h + length store.bytes) (region.found.base + region.found.size) fits

  abbrev offset : ℕ
  offset = offset_in region store.h

  abbrev next : Machine
  next = with_contents region.name (written region.contents offset store.bytes) m

  next_keeps : IsUncounted next
  next_keeps = store_keeps laws.turns m holds.machine store.h store.bytes small region found within

  free_is : free_frames m ≡ old.free
  free_is = let all = holds.frames in omega (arith, all)

  abbrev lack : Reply
  lack = replies.Full record { need = frames_wanted region store; free = free_frames m }

  abbrev done : Answer
  done = becomes next (replies.Stored (length store.bytes))

  module _ (new : MediaState) (reply : Reply) (need : ℕ) (wanted : frames_wanted region store ≡ need) where
    is_stored : need ≤ old.free → HoldsMachine session new next → reply ≡ replies.Stored (length store.bytes) → IsWrittenAs session new (store_into m store region) reply
    is_stored room next_holds told =
        let enough : nat_lt (free_frames m) (frames_wanted region store) ≡ false = le-ltb (free_frames m) (frames_wanted region store) (omega (arith, wanted, free_is, room)) in
        subst (λ (a : Answer). IsWrittenAs session new a reply) (sym (cond-false (nat_lt (free_frames m) (frames_wanted region store)) (stays m lack) done enough)) (record { told = sym told; holds = next_holds })

    is_full : old.free < need → new ≡ old → reply ≡ replies.Full record { need = need; free = old.free } → IsWrittenAs session new (store_into m store region) reply
    is_full short same told =
        let lacks : nat_lt (free_frames m) (frames_wanted region store) ≡ true = lt-ltb (free_frames m) (frames_wanted region store) (omega (arith, wanted, free_is, short)) in
        subst (λ (a : Answer). IsWrittenAs session new a reply) (sym (cond-true (nat_lt (free_frames m) (frames_wanted region store)) (stays m lack) done lacks))
        (record {
          told = (λ i. replies.Full record { need = wanted i; free = free_is i }) ∙ sym told;
          holds = subst (λ (media : MediaState). HoldsMachine session media m) (sym same) holds;
        })

  -- in one piece
  module _ (new : MediaState) (reply : Reply) (ep dpa : ℕ) (carries : Carries region.found (region_window m.settled region.found) store.h ep dpa) (one : IsInOneBlock dpa (length store.bytes)) where
    one_wanted : frames_wanted region store ≡ need_at old ep dpa
    one_wanted =
        let along = aligned laws session old m holds region there.0 store.h ep dpa carries in
        let fit = one.fits in
        one_new region.contents offset (length store.bytes) one.some (omega (arith, along, fit))
        ∙ sym (need_is laws session old m holds region there.0 store.h ep dpa carries)

    pub stored_one : PutsOne ep dpa store.bytes old new reply → IsWrittenAs session new (store_into m store region) reply
    stored_one (puts.stored room put told) =
        is_stored new reply (need_at old ep dpa) one_wanted room (put_holds laws session old m holds region there.0 store.h ep dpa carries new store.bytes put next_keeps) told
    stored_one (puts.full short same told) = is_full new reply (need_at old ep dpa) one_wanted short same told

  -- in two pieces
  module _ (new : MediaState) (reply : Reply) (ep dpa other place : ℕ) (front back : List ℕ) (cut : store.bytes ≡ front ++ back) (ends : offset % 256 + length front ≡ 256) (some : 1 ≤ length back)
      (few : length store.bytes ≤ 256) (carries : Carries region.found (region_window m.settled region.found) store.h ep dpa)
      (further : Carries region.found (region_window m.settled region.found) (store.h + length front) other place) where
    both_long : length store.bytes ≡ length front + length back
    both_long = ap length cut ∙ length-append front back

    abbrev first : Contents
    first = written region.contents offset front

    abbrev half : Machine
    half = with_contents region.name first m

    abbrev later : Live
    later = record region { contents = first }

    along : offset_in later (store.h + length front) ≡ offset + length front
    along = omega (arith, from)

    two_wanted : frames_wanted region store ≡ need_at old ep dpa + need_at old other place
    two_wanted =
        let one = need_is laws session old m holds region there.0 store.h ep dpa carries in
        let two = need_is laws session old m holds region there.0 (store.h + length front) other place further in
        let place_is : offset_in region (store.h + length front) / 256 ≡ offset / 256 + 1 = omega (arith, along, ends) in
        let second : need_at old other place ≡ cond (fin.contains_key region.contents (offset / 256 + 1)) 0 1 = two ∙ ap (λ (n : ℕ). cond (fin.contains_key region.contents n) 0 1) place_is in
        let all = two_new region.contents offset (length store.bytes) (omega (arith, both_long, ends, some)) few in
        all ∙ (λ i. sym one i + sym second i)

    half_keeps : IsUncounted half
    half_keeps =
        store_keeps laws.turns m holds.machine store.h front (all_front (λ (byte : ℕ). byte < 256) front back (subst AreBytes cut small)) region found (omega (arith, within, both_long))

    later_there : Contains half.live later
    later_there = subst (Contains half.live) (own_changed first region) (contains_map (changed region.name first) m.live region there.0)

    same_next : with_contents later.name (written later.contents (offset_in later (store.h + length front)) back) half ≡ next
    same_next =
        let bytes : written first (offset_in later (store.h + length front)) back ≡ written region.contents offset store.bytes =
        ap (λ (o : ℕ). written first o back) along ∙ sym (written_two region.contents offset front back ends some (omega (arith, few, both_long))) ∙ ap (written region.contents offset) (sym cut) in
        ap (λ (c : Contents). with_contents region.name c half) bytes ∙ with_twice region.name first (written region.contents offset store.bytes) m

    both_hold : (between : MediaState) → IsPut ep dpa front old between → IsPut other place back between new → HoldsMachine session new next
    both_hold between one two =
        let holds_half : HoldsMachine session between half = put_holds laws session old m holds region there.0 store.h ep dpa carries between front one half_keeps in
        subst (HoldsMachine session new) same_next
        (put_holds laws session between half holds_half later later_there (store.h + length front) other place further new back two (subst IsUncounted (sym same_next) next_keeps))

    pub stored_two : PutsTwo ep dpa front other place back old new reply → IsWrittenAs session new (store_into m store region) reply
    stored_two (puts.both_stored between room one two told) =
        is_stored new reply (need_at old ep dpa + need_at old other place) two_wanted room (both_hold between one two) (told ∙ ap replies.Stored (sym both_long))
    stored_two (puts.both_full short same told) = is_full new reply (need_at old ep dpa + need_at old other place) two_wanted short same told

-- ---- a store that is refused

pub refused_one : (ep dpa : ℕ) (bytes : List ℕ) (old new : MediaState) (reply : Reply) → PutsOne ep dpa bytes old new reply → is_refusal reply ≡ true → new ≡ old
refused_one ep dpa bytes old new reply (puts.stored room put told) refuses = absurd (false≢true (sym (ap is_refusal told) ∙ refuses))
refused_one ep dpa bytes old new reply (puts.full short same told) refuses = same

pub refused_two : (ep dpa other place : ℕ) (front back : List ℕ) (old new : MediaState) (reply : Reply) → PutsTwo ep dpa front other place back old new reply → is_refusal reply ≡ true → new ≡ old
refused_two ep dpa other place front back old new reply (puts.both_stored between room one two told) refuses = absurd (false≢true (sym (ap is_refusal told) ∙ refuses))
refused_two ep dpa other place front back old new reply (puts.both_full short same told) refuses = same
