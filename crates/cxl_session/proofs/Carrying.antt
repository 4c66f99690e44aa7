-- Copies and moves between two live regions: the pieces carried over, and the machine that answers.
use Rattle.std.proofs.Common.{◌≡◌, ◌≢◌, ℕ, ◌+◌, ◌<◌, ◌≤◌, true, false, List, ◌∷◌, ◌++◌, map, length, Option, Some, unwrap_or, refl, sym, ap, ◌∙◌, subst, arith}
use Rattle.std.specs.Prelude.{slice_get, nat_lt, Contains, IsSomeAnd}
use Rattle.std.specs.FinMap as fin
use Rattle.std.specs.List.Sorted.{IsPermutation}
use Rattle.std.proofs.lemmas.Bool.{cond-true, cond-false, lt-ltb, le-ltb}
use Rattle.std.proofs.lemmas.List.Sorted.{IsPermutation-sym, IsPermutation-map, IsPermutation-append_left}
use Rattle.std.proofs.lemmas.Option.{slice_get_within}
use Rattle.cxl_enc.proofs.Lists.{contains_at}
use Rattle.cxl_script.specs.declared.command.Command.{Command}
use Rattle.cxl_script.specs.declared.command.Command.TheVariants as commands
use Rattle.cxl_script.specs.declared.command.Pair.{Pair}
use Rattle.cxl_window.specs.Fields.{WindowFields}
use Rattle.cxl_media.specs.Blocks.{Blocks}
use Rattle.cxl_media.specs.MediaState.{MediaState, frame_count}
use Rattle.cxl_model.specs.declared.found.Found.{Found}
use Rattle.cxl_model.specs.System.{System, IsSystem}
use Rattle.cxl_model.specs.Regions.{IsRegionIn}
use Rattle.cxl_model.specs.Bytes.{LiesInSpan}
use Rattle.cxl_model.specs.Contents.{Holding, AreMediaOf}
use Rattle.cxl_model.proofs.RegionsInWindows.{window_there}
use Rattle.cxl_move.specs.Sides.{AreHeld, AreSides, IsMoved, IsCopied}
use Rattle.cxl_move.specs.Holdings.{told_in, AreHoldings}
use Rattle.cxl_reply.specs.declared.reply.Reply.TheVariants as replies
use Rattle.cxl_machine.specs.Machine.{Live, Machine, absent_window, region_window, holding_of, under_release, kept_regions}
use Rattle.cxl_machine.specs.Answers.{Answers}
use Rattle.cxl_machine.specs.Copies.{pieces_of, carried, copied, moved, frames_for, copy_between, move_between, copy_answer, move_answer}
use Rattle.cxl_machine.specs.Outcomes.{BusOutcome, NoFault, is_access, StoresBytes}
use Rattle.cxl_machine.specs.Replies.{Answer, stays, becomes}
use Rattle.cxl_machine.specs.Sound.{IsMachine, block_told}
use Rattle.cxl_machine.proofs.KeepingBytes.{uncounted}
use Rattle.cxl_machine.proofs.KeepingLists.{HaveOwnNames}
use Rattle.cxl_machine.proofs.KeepingOrder.{pairs_front}
use Rattle.cxl_machine.proofs.LiveRegions.{live_is_region, same_live}
use Rattle.cxl_session.specs.State.{SessionState}
use Rattle.cxl_session.specs.Standing.{StandsFor, HoldsMemory}
use Rattle.cxl_session.specs.inner.Answering.{HoldsMachine, IsWrittenAs}
use Rattle.cxl_session.specs.inner.Pairs.{IsSideAt, AreTwo}
use Rattle.cxl_session.specs.inner.Places.{StandsAt}
use Rattle.cxl_session.proofs.Fronts.{two_at_front, second_with, both_with}
use Rattle.cxl_session.proofs.Holding.{CountLaw, PieceCountLaw, holdings_of, are_holdings, holdings_again, media_again, holds_next, pieces_are}
use Rattle.cxl_session.proofs.Stays.{stands_with}

-- ---- sides

-- what is known of a side of a move is known of the region
pub record IsSide (s : System) (region : Live) (found : Found) (w : WindowFields) : Type 0 where
  pub spans : found ≡ region.found
  pub window : w ≡ region_window s region.found

pub side_of : (session : SessionState) (m : Machine) (place : ℕ) (region : Live) (found : Found) (w : WindowFields) → StandsFor session m → StandsAt session m place region → IsSideAt session place found w
    → IsSide m.settled region found w
side_of session m place region found w stands at side =
    let one : slice_get session.founds place ≡ Some found = side.spans in
    let own : slice_get session.founds place ≡ Some region.found = at.found in
    let same : found ≡ region.found = cc in
    let there : slice_get m.settled.windows region.found.window ≡ Some w =
    ap (λ (ws : List WindowFields). slice_get ws region.found.window) stands.windows ∙ ap (λ (f : Found). slice_get session.windows f.window) (sym same) ∙ side.window in
    record { spans = same; window = sym (ap (λ (o : Option WindowFields). unwrap_or o absent_window) there) }

-- the window of a live region is there
pub window_within : (session : SessionState) (m : Machine) (place : ℕ) (region : Live) → StandsFor session m → IsMachine m → StandsAt session m place region
    → IsSomeAnd (slice_get session.founds place) (λ (found : Found). found.window < length session.windows)
window_within session m place region stands is at =
    let here : Contains m.live region = contains_at m.live place region at.there in
    let own = live_is_region m is region here in
    let there = window_there m.settled (region_window m.settled region.found) region.found is.settled.system own in
    let below : region.found.window < length session.windows =
    subst (λ (ws : List WindowFields). region.found.window < length ws) stands.windows (slice_get_within m.settled.windows region.found.window (region_window m.settled region.found) there) in
    subst (λ (o : Option Found). IsSomeAnd o (λ (found : Found). found.window < length session.windows)) (sym at.found) below

module _ (s : System) (a b : Live) (from to : Found) (v w : WindowFields) (one : IsSide s a from v) (other : IsSide s b to w) (P : Found → WindowFields → Found → WindowFields → Type 0) where
  pub of_regions : P from v to w → P a.found (region_window s a.found) b.found (region_window s b.found)
  of_regions p =
      subst (λ (f : Found). P f (region_window s a.found) b.found (region_window s b.found)) one.spans
      (subst (λ (x : WindowFields). P from x b.found (region_window s b.found)) one.window
      (subst (λ (f : Found). P from v f (region_window s b.found)) other.spans (subst (λ (x : WindowFields). P from v to x) other.window p)))

  pub of_sides : P a.found (region_window s a.found) b.found (region_window s b.found) → P from v to w
  of_sides p =
      subst (λ (x : WindowFields). P from v to x) (sym other.window)
      (subst (λ (f : Found). P from v f (region_window s b.found)) (sym other.spans)
      (subst (λ (x : WindowFields). P from x b.found (region_window s b.found)) (sym one.window)
      (subst (λ (f : Found). P f (region_window s a.found) b.found (region_window s b.found)) (sym one.spans) p)))

pub held_of : (s : System) (region : Live) (found : Found) (w : WindowFields) (blocks : Blocks) (pieces : List ℕ) → IsSide s region found w → AreHeld found w blocks pieces
    → AreHeld region.found (region_window s region.found) blocks pieces
held_of s region found w blocks pieces side held =
    subst (λ (f : Found). AreHeld f (region_window s region.found) blocks pieces) side.spans (subst (λ (x : WindowFields). AreHeld found x blocks pieces) side.window held)

-- ---- the laws that these rest on

abbrev pub SharedLaw : Type 0
SharedLaw =
    (s : System) (w v : WindowFields) (found other : Found) (endpoint dpa : ℕ) → IsSystem s → IsRegionIn s w found → IsRegionIn s v other → LiesInSpan found endpoint dpa
    → LiesInSpan other endpoint dpa → found ≡ other

pub record CopyLaws : Type 0 where
  pub count : CountLaw
  pub pieces : PieceCountLaw
  pub keeps : (m : Machine) (command : Command) (outcome : BusOutcome) (answer : Answer) → IsMachine m → is_access command ≡ true → StoresBytes command → Answers m command outcome answer
      → IsMachine answer.machine
  pub moved : (s : System) (from to : Holding) (others : List Holding) (old new : Blocks) → AreHoldings s (from ∷ to ∷ others) → from.found.size ≡ to.found.size
      → AreMediaOf (from ∷ to ∷ others) (told_in old) → IsMoved from.found from.window to.found to.window old new
      → AreMediaOf ((record from { contents = fin.empty }) ∷ (record to { contents = from.contents }) ∷ others) (told_in new)
  pub copied : (s : System) (from to : Holding) (others : List Holding) (old new : Blocks) → AreHoldings s (from ∷ to ∷ others) → from.found.size ≡ to.found.size
      → AreMediaOf (from ∷ to ∷ others) (told_in old) → IsCopied from.found from.window to.found to.window old new
      → AreMediaOf (from ∷ (record to { contents = from.contents }) ∷ others) (told_in new)

-- ---- two regions of a machine

module _ (session : SessionState) (m : Machine) (pair : Pair) (first second : ℕ) (is : IsMachine m) (two : AreTwo session m pair first second) where
  here : Contains m.live two.from
  here = contains_at m.live first two.from two.from_at.there

  there : Contains m.live two.to
  there = contains_at m.live second two.to two.to_at.there

  pub sides_stand : SharedLaw → AreSides two.from.found (region_window m.settled two.from.found) two.to.found (region_window m.settled two.to.found)
  sides_stand law =
      let v : WindowFields = region_window m.settled two.from.found in
      let w : WindowFields = region_window m.settled two.to.found in
      let own = live_is_region m is two.from here in
      let other = live_is_region m is two.to there in
      record {
        s = m.settled;
        system = is.settled.system;
        first = own;
        second = other;
        size = two.size;
        apart = λ endpoint dpa ours theirs.
            let same = law m.settled v w two.from.found two.to.found endpoint dpa is.settled.system own other ours theirs in
            two.apart (ap (λ (r : Live). r.name) (same_live m is two.from two.to here there same));
      }

  front : (rest : List Live) × IsPermutation m.live (two.from ∷ two.to ∷ rest)
  front = two_at_front m.live two.from two.to (λ same. two.apart (ap (λ (r : Live). r.name) same)) here there

  abbrev beside : List Live
  beside = front.0 ++ under_release m.job

  abbrev others : List Holding
  others = map (holding_of m.settled) beside

  own_live : HaveOwnNames m.live
  own_live = pairs_front (λ (a b : Live). a.name ≢ b.name) m.live (under_release m.job) is.regions.names

  before : IsPermutation (holdings_of m) (holding_of m.settled two.from ∷ holding_of m.settled two.to ∷ others)
  before =
      IsPermutation-map (holding_of m.settled) (kept_regions m) (two.from ∷ two.to ∷ beside)
      (IsPermutation-append_left (under_release m.job) m.live (two.from ∷ two.to ∷ front.0) front.1)

  abbrev given : Live
  given = record two.to { contents = two.from.contents }

  abbrev emptied : Live
  emptied = record two.from { contents = fin.empty }

  behind_copy : IsPermutation (holdings_of (copied m two.from two.to)) (holding_of m.settled two.from ∷ holding_of m.settled given ∷ others)
  behind_copy =
      IsPermutation-map (holding_of m.settled) (kept_regions (copied m two.from two.to)) (two.from ∷ given ∷ beside)
      (IsPermutation-append_left (under_release m.job) (copied m two.from two.to).live (two.from ∷ given ∷ front.0)
      (second_with m.live own_live two.from two.to front.0 front.1 two.from.contents))

  behind_move : IsPermutation (holdings_of (moved m two.from two.to)) (holding_of m.settled emptied ∷ holding_of m.settled given ∷ others)
  behind_move =
      IsPermutation-map (holding_of m.settled) (kept_regions (moved m two.from two.to)) (emptied ∷ given ∷ beside)
      (IsPermutation-append_left (under_release m.job) (moved m two.from two.to).live (emptied ∷ given ∷ front.0)
      (both_with m.live own_live two.from two.to front.0 front.1 two.from.contents fin.empty))

  front_holdings : AreHoldings m.settled (holding_of m.settled two.from ∷ holding_of m.settled two.to ∷ others)
  front_holdings = holdings_again m.settled (holdings_of m) (holding_of m.settled two.from ∷ holding_of m.settled two.to ∷ others) before (are_holdings m (uncounted m is))

  front_media : (old : MediaState) → HoldsMemory m old → AreMediaOf (holding_of m.settled two.from ∷ holding_of m.settled two.to ∷ others) (told_in old.blocks)
  front_media old memory = media_again (holdings_of m) (holding_of m.settled two.from ∷ holding_of m.settled two.to ∷ others) (told_in old.blocks) before memory

  module _ (laws : CopyLaws) (old new : MediaState) (memory : HoldsMemory m old) where
    copied_memory : IsCopied two.from.found (region_window m.settled two.from.found) two.to.found (region_window m.settled two.to.found) old.blocks new.blocks
        → HoldsMemory (copied m two.from two.to) new
    copied_memory over =
        media_again (holding_of m.settled two.from ∷ holding_of m.settled given ∷ others) (holdings_of (copied m two.from two.to)) (block_told new)
        (IsPermutation-sym (holdings_of (copied m two.from two.to)) (holding_of m.settled two.from ∷ holding_of m.settled given ∷ others) behind_copy)
        (laws.copied m.settled (holding_of m.settled two.from) (holding_of m.settled two.to) others old.blocks new.blocks front_holdings two.size (front_media old memory) over)

    moved_memory : IsMoved two.from.found (region_window m.settled two.from.found) two.to.found (region_window m.settled two.to.found) old.blocks new.blocks
        → HoldsMemory (moved m two.from two.to) new
    moved_memory over =
        media_again (holding_of m.settled emptied ∷ holding_of m.settled given ∷ others) (holdings_of (moved m two.from two.to)) (block_told new)
        (IsPermutation-sym (holdings_of (moved m two.from two.to)) (holding_of m.settled emptied ∷ holding_of m.settled given ∷ others) behind_move)
        (laws.moved m.settled (holding_of m.settled two.from) (holding_of m.settled two.to) others old.blocks new.blocks front_holdings two.size (front_media old memory) over)

-- ---- the answers

module _ (laws : CopyLaws) (session : SessionState) (old : MediaState) (m : Machine) (pair : Pair) (first second : ℕ) (holds : HoldsMachine session old m) (two : AreTwo session m pair first second) where
  abbrev v : WindowFields
  v = region_window m.settled two.from.found

  abbrev w : WindowFields
  w = region_window m.settled two.to.found

  pieces_from : (pieces : List ℕ) → AreHeld two.from.found v old.blocks pieces → pieces_of two.from ≡ length pieces
  pieces_from pieces held =
      sym (pieces_are laws.pieces session old m holds two.from (here session m pair first second holds.machine two) pieces held)

  pieces_to : (others : List ℕ) → AreHeld two.to.found w old.blocks others → pieces_of two.to ≡ length others
  pieces_to others held =
      sym (pieces_are laws.pieces session old m holds two.to (there session m pair first second holds.machine two) others held)

  room_is : (others : List ℕ) → AreHeld two.to.found w old.blocks others → frames_for m two.to ≡ old.free + length others
  room_is others held =
      let own = pieces_to others held in
      let all = holds.frames in
      omega (arith, own, all)

  -- ---- a move

  pub is_moved : (new : MediaState) (pieces : List ℕ) → AreHeld two.from.found v old.blocks pieces → IsMoved two.from.found v two.to.found w old.blocks new.blocks → frame_count new ≡ frame_count old
      → IsWrittenAs session new (move_answer m pair) (replies.Moved record { from = pair.from; to = pair.to; pieces = length pieces })
  is_moved new pieces held over count =
      let answer : move_answer m pair ≡ move_between m two.from two.to = two.answers (move_between m) in
      let next : Machine = moved m two.from two.to in
      let machine : IsMachine next =
      subst (λ (a : Answer). IsMachine a.machine) answer
      (laws.keeps m (commands.Move pair) NoFault (move_answer m pair) holds.machine refl tt (record { unfailing = refl; told = refl })) in
      let stands : StandsFor session next =
      stands_with two.from.name fin.empty (copied m two.from two.to) session (stands_with two.to.name two.from.contents m session holds.stands) in
      let number = pieces_from pieces held in
      subst (λ (a : Answer). IsWrittenAs session new a (replies.Moved record { from = pair.from; to = pair.to; pieces = length pieces })) (sym answer)
      (record {
        told = λ i. replies.Moved record { from = two.from_named i; to = two.to_named i; pieces = number i };
        holds =
            holds_next laws.count session old new m next holds stands (uncounted next machine)
            (moved_memory session m pair first second holds.machine two laws old new holds.memory over) refl count;
      })

  -- ---- a copy

  copies : (pieces others : List ℕ) → AreHeld two.from.found v old.blocks pieces → AreHeld two.to.found w old.blocks others → length pieces ≤ old.free + length others
      → copy_answer m pair ≡ becomes (copied m two.from two.to) (replies.Copied (carried two.from two.to))
  copies pieces others held own room =
      let number = pieces_from pieces held in
      let free = room_is others own in
      let enough : nat_lt (frames_for m two.to) (pieces_of two.from) ≡ false = le-ltb (frames_for m two.to) (pieces_of two.from) (omega (arith, number, free, room)) in
      two.answers (copy_between m)
      ∙ cond-false (nat_lt (frames_for m two.to) (pieces_of two.from)) (stays m (replies.Full record { need = pieces_of two.from; free = frames_for m two.to }))
      (becomes (copied m two.from two.to) (replies.Copied (carried two.from two.to))) enough

  pub is_copied : (new : MediaState) (pieces others : List ℕ) → AreHeld two.from.found v old.blocks pieces → AreHeld two.to.found w old.blocks others → length pieces ≤ old.free + length others
      → IsCopied two.from.found v two.to.found w old.blocks new.blocks → frame_count new ≡ frame_count old
      → IsWrittenAs session new (copy_answer m pair) (replies.Copied record { from = pair.from; to = pair.to; pieces = length pieces })
  is_copied new pieces others held own room over count =
      let answer = copies pieces others held own room in
      let next : Machine = copied m two.from two.to in
      let machine : IsMachine next =
      subst (λ (a : Answer). IsMachine a.machine) answer
      (laws.keeps m (commands.Copy pair) NoFault (copy_answer m pair) holds.machine refl tt (record { unfailing = refl; told = refl })) in
      let number = pieces_from pieces held in
      subst (λ (a : Answer). IsWrittenAs session new a (replies.Copied record { from = pair.from; to = pair.to; pieces = length pieces })) (sym answer)
      (record {
        told = λ i. replies.Copied record { from = two.from_named i; to = two.to_named i; pieces = number i };
        holds =
            holds_next laws.count session old new m next holds (stands_with two.to.name two.from.contents m session holds.stands) (uncounted next machine)
            (copied_memory session m pair first second holds.machine two laws old new holds.memory over) refl count;
      })

  pub is_full : (pieces others : List ℕ) → AreHeld two.from.found v old.blocks pieces → AreHeld two.to.found w old.blocks others → old.free + length others < length pieces
      → IsWrittenAs session old (copy_answer m pair) (replies.Full record { need = length pieces; free = old.free + length others })
  is_full pieces others held own lacks =
      let number = pieces_from pieces held in
      let free = room_is others own in
      let short : nat_lt (frames_for m two.to) (pieces_of two.from) ≡ true = lt-ltb (frames_for m two.to) (pieces_of two.from) (omega (arith, number, free, lacks)) in
      let answer : copy_answer m pair ≡ stays m (replies.Full record { need = pieces_of two.from; free = frames_for m two.to }) =
      two.answers (copy_between m)
      ∙ cond-true (nat_lt (frames_for m two.to) (pieces_of two.from)) (stays m (replies.Full record { need = pieces_of two.from; free = frames_for m two.to }))
      (becomes (copied m two.from two.to) (replies.Copied (carried two.from two.to))) short in
      subst (λ (a : Answer). IsWrittenAs session old a (replies.Full record { need = length pieces; free = old.free + length others })) (sym answer)
      (record {
        told = λ i. replies.Full record { need = number i; free = free i };
        holds = holds;
      })
