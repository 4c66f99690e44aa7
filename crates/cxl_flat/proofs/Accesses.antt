-- Loads and stores, copies and moves are of one flat memory.
use Rattle.std.proofs.Common.{◌≡◌, ℕ, ◌+◌, ◌<◌, ◌≤◌, ◌⊎◌, Bool, true, false, not, if◌then◌else◌, List, length, Option, Some, None, Ok, inl, inr, refl, sym, ap, ◌∙◌, subst, arith}
use Rattle.std.specs.Prelude.{Contains, nat_lt, ◌==◌}
use Rattle.std.specs.Option.{option_map_or}
use Rattle.std.specs.FinMap as fin
use Rattle.std.specs.Str.{bytes_eq}
use Rattle.std.proofs.lemmas.Bool.{cases_Bool, leb-true, le-leb, le-ltb}
use Rattle.std.proofs.lemmas.List.FromFn.{length-map-range_with_len, get_or-map-range_with_len}
use Rattle.cxl_script.specs.declared.command.Command.TheVariants as commands
use Rattle.cxl_script.specs.declared.command.Load.{Load}
use Rattle.cxl_script.specs.declared.command.Pair.{Pair}
use Rattle.cxl_script.specs.declared.command.Store.{Store}
use Rattle.cxl_model.specs.Contents.{Contents, content_at}
use Rattle.cxl_model.proofs.ImageLaws.{ShareLaw}
use Rattle.cxl_reply.specs.declared.reply.Reply.{Reply}
use Rattle.cxl_reply.specs.declared.reply.Reply.TheVariants as replies
use Rattle.cxl_reply.specs.declared.details.Carried.{Carried}
use Rattle.cxl_machine.specs.Machine.{Live, Machine, has_host, live_at, live_named, free_frames, with_contents}
use Rattle.cxl_machine.specs.Accesses.{offset_in, load_answer, store_into, store_answer, frames_wanted}
use Rattle.cxl_move.specs.Bytes.{bytes_at, written}
use Rattle.cxl_machine.specs.Copies.{pieces_of, copied, moved, frames_for, copy_between, move_between, for_two, copy_answer, move_answer}
use Rattle.cxl_machine.specs.Replies.{Answer, stays, becomes, ends_within}
use Rattle.cxl_machine.specs.Scripts.{Asked, Turn, TakesTurn}
use Rattle.cxl_machine.specs.Sound.{IsMachine}
use Rattle.cxl_machine.proofs.AccessesLeave.{AreTwo, are_two}
use Rattle.cxl_machine.proofs.KeepingLists.{changed, unchanged}
use Rattle.cxl_machine.proofs.KeepingMachines.{live_there}
use Rattle.cxl_flat.specs.Memory.{byte_of, HasBytes, LiesBeside, LieWithin, IsFlatLoad, IsFlatStore, AreNamed, HasBytesOf, IsFlatCopy, IsFlatMove, IsFlatAccess}
use Rattle.cxl_flat.proofs.Addresses.{host_bounds, has_between, has_not, AreApart, live_apart, changed_apart, to_changed, found_at, byte_at, byte_inside, byte_outside}
use Rattle.cxl_flat.proofs.Bytes.{zero_content, stored_there, others_stay}

-- ---- replies

pub loaded_same : (xs ys : List ℕ) → replies.Loaded xs ≡ replies.Loaded ys → xs ≡ ys
loaded_same xs ys same = cc

pub unmapped_loads : (xs : List ℕ) → replies.Unmapped ≡ replies.Loaded xs → ⊥
unmapped_loads xs same = cc

pub crossing_loads : (xs : List ℕ) → replies.CrossesEnd ≡ replies.Loaded xs → ⊥
crossing_loads xs same = cc

pub unmapped_stores : (n : ℕ) → replies.Unmapped ≡ replies.Stored n → ⊥
unmapped_stores n same = cc

pub crossing_stores : (n : ℕ) → replies.CrossesEnd ≡ replies.Stored n → ⊥
crossing_stores n same = cc

pub full_stores : (need free n : ℕ) → replies.Full record { need = need; free = free } ≡ replies.Stored n → ⊥
full_stores need free n same = cc

module _ (m : Machine) (apart : AreApart m) where
  -- ---- loads

  region_at : (region : Live) (h len : ℕ) → Contains m.live region → LieWithin region.found h len → live_at m h ≡ Some region
  region_at region h len there lies = found_at m apart region h there (has_between region.found h lies.from lies.below)

  within : (region : Live) (h len : ℕ) → live_at m h ≡ Some region → ends_within region.found h len ≡ true → Contains m.live region × LieWithin region.found h len
  within region h len at fits =
      let own = live_there m (λ (r : Live). has_host r.found h) region at in
      let bounds = host_bounds region.found h own.1 in
      (own.0, record { from = bounds.0; below = bounds.1; ends = leb-true (h + len) (region.found.base + region.found.size) fits })

  ends : (region : Live) (h len : ℕ) → LieWithin region.found h len → ends_within region.found h len ≡ true
  ends region h len lies = le-leb (h + len) (region.found.base + region.found.size) lies.ends

  has_along : (region : Live) (h len k : ℕ) → LieWithin region.found h len → k < len → has_host region.found (h + k) ≡ true
  has_along region h len k lies below =
      let from = lies.from in
      let upto = lies.ends in
      has_between region.found (h + k) (omega (arith, from)) (omega (arith, below, upto))

  along : (region : Live) (h k : ℕ) → region.found.base ≤ h → offset_in region (h + k) ≡ offset_in region h + k
  along region h k from = omega (arith, from)

  abbrev loaded : Load → Live → List ℕ
  loaded load region = bytes_at region.contents (offset_in region load.h) load.len

  abbrev load_from : Load → Live → Answer
  load_from load region = if ends_within region.found load.h load.len then stays m (replies.Loaded (loaded load region)) else stays m replies.CrossesEnd

  load_bytes : (load : Load) (region : Live) → Contains m.live region → LieWithin region.found load.h load.len → HasBytes m load.h (loaded load region)
  load_bytes load region there lies k low =
      let below : k < load.len = omega (arith, low, length-map-range_with_len (content_at region.contents) (offset_in region load.h) load.len) in
      byte_at m apart region (load.h + k) there (has_along region load.h load.len k lies below)
      ∙ ap (λ (i : ℕ). Some (content_at region.contents i)) (along region load.h k lies.from)
      ∙ ap Some (sym (get_or-map-range_with_len (content_at region.contents) (offset_in region load.h) load.len k (offset_in region load.h + k) 0 below refl))

  -- what a load tells are the bytes of the region that it lies in
  abbrev Tells : Load → List ℕ → Type 0
  Tells load bytes = (region : Live) × Contains m.live region × LieWithin region.found load.h load.len × (loaded load region ≡ bytes)

  tells_in : (load : Load) (region : Live) → live_at m load.h ≡ Some region → (b : Bool) → ends_within region.found load.h load.len ≡ b → (bytes : List ℕ)
      → (if b then stays m (replies.Loaded (loaded load region)) else stays m replies.CrossesEnd).reply ≡ replies.Loaded bytes → Tells load bytes
  tells_in load region at true fits bytes is = let own = within region load.h load.len at fits in (region, own.0, own.1, loaded_same (loaded load region) bytes is)
  tells_in load region at false past bytes is = absurd (crossing_loads bytes is)

  tells_by : (load : Load) (o : Option Live) → live_at m load.h ≡ o → (bytes : List ℕ) → (option_map_or (load_from load) o (stays m replies.Unmapped)).reply ≡ replies.Loaded bytes → Tells load bytes
  tells_by load None at bytes is = absurd (unmapped_loads bytes is)
  tells_by load (Some region) at bytes is = tells_in load region at (ends_within region.found load.h load.len) refl bytes is

  either_stays : (b : Bool) (one other : Reply) → (if b then stays m one else stays m other).machine ≡ m
  either_stays true one other = refl
  either_stays false one other = refl

  load_stays : (load : Load) (o : Option Live) → (option_map_or (load_from load) o (stays m replies.Unmapped)).machine ≡ m
  load_stays load None = refl
  load_stays load (Some region) = either_stays (ends_within region.found load.h load.len) (replies.Loaded (loaded load region)) replies.CrossesEnd

  load_flat : (load : Load) → IsFlatLoad m load (load_answer m load)
  load_flat load = record {
    told = λ region there lies. (
      loaded load region,
      ap (λ (o : Option Live). (option_map_or (load_from load) o (stays m replies.Unmapped)).reply) (region_at region load.h load.len there lies)
          ∙ ap (λ (b : Bool). (if b then stays m (replies.Loaded (loaded load region)) else stays m replies.CrossesEnd).reply) (ends region load.h load.len lies),
    );
    count = λ bytes is.
        let own = tells_by load (live_at m load.h) refl bytes is in
        ap length (sym own.3) ∙ length-map-range_with_len (content_at own.0.contents) (offset_in own.0 load.h) load.len;
    bytes = λ bytes is.
        let own = tells_by load (live_at m load.h) refl bytes is in
        subst (HasBytes m load.h) own.3 (load_bytes load own.0 own.1 own.2);
    machine = load_stays load (live_at m load.h);
  }

  -- ---- stores

  abbrev stored_in : Store → Live → Contents
  stored_in store region = written region.contents (offset_in region store.h) store.bytes

  abbrev with_store : Store → Live → Machine
  with_store store region = with_contents region.name (stored_in store region) m

  store_bytes : (store : Store) (region : Live) → Contains m.live region → LieWithin region.found store.h (length store.bytes) → HasBytes (with_store store region) store.h store.bytes
  store_bytes store region there lies k below =
      byte_inside m apart region there (stored_in store region) (store.h + k) (has_along region store.h (length store.bytes) k lies below)
      ∙ ap (λ (i : ℕ). Some (content_at (stored_in store region) i)) (along region store.h k lies.from)
      ∙ ap Some (stored_there region.contents (offset_in region store.h) store.bytes k below)

  beside_in : (region : Live) (h from len : ℕ) → region.found.base ≤ h → region.found.base ≤ from → LiesBeside h from len → LiesBeside (offset_in region h) (offset_in region from) len
  beside_in region h from len low start (inl before) = inl (omega (arith, low, start, before))
  beside_in region h from len low start (inr past) = inr (omega (arith, low, start, past))

  store_others : (store : Store) (region : Live) → Contains m.live region → LieWithin region.found store.h (length store.bytes) → (h : ℕ) → LiesBeside h store.h (length store.bytes)
      → byte_of (with_store store region) h ≡ byte_of m h
  store_others store region there lies h beside =
      elim (cases_Bool (has_host region.found h)) [
        | inl has ↦
            byte_inside m apart region there (stored_in store region) h has
            ∙ ap Some (others_stay region.contents (offset_in region store.h) store.bytes (offset_in region h) (beside_in region h store.h (length store.bytes) (host_bounds region.found h has).0 lies.from beside))
            ∙ sym (byte_at m apart region h there has)
        | inr none ↦ byte_outside m apart region there (stored_in store region) h none
      ]

  abbrev full : Store → Live → Reply
  full store region = replies.Full record { need = frames_wanted region store; free = free_frames m }

  abbrev store_if : Store → Live → Bool → Answer
  store_if store region b = if b then stays m (full store region) else becomes (with_store store region) (replies.Stored (length store.bytes))

  abbrev store_from : Store → Live → Answer
  store_from store region = if ends_within region.found store.h (length store.bytes) then store_into m store region else stays m replies.CrossesEnd

  -- a store is refused and leaves the machine, or it is made
  abbrev IsStored : Store → Answer → Type 0
  IsStored store answer = (region : Live) × Contains m.live region × LieWithin region.found store.h (length store.bytes) × (answer.machine ≡ with_store store region)

  abbrev IsLeft : Answer → Type 0
  IsLeft answer = (answer.machine ≡ m) × ((n : ℕ) → answer.reply ≡ replies.Stored n → ⊥)

  store_ends : (store : Store) (region : Live) → Contains m.live region → LieWithin region.found store.h (length store.bytes) → (b : Bool) → IsStored store (store_if store region b) ⊎ IsLeft (store_if store region b)
  store_ends store region there lies true = inr (refl, λ n is. full_stores (frames_wanted region store) (free_frames m) n is)
  store_ends store region there lies false = inl (region, there, lies, refl)

  store_within : (store : Store) (region : Live) → live_at m store.h ≡ Some region → (b : Bool) → ends_within region.found store.h (length store.bytes) ≡ b
      → IsStored store (if b then store_into m store region else stays m replies.CrossesEnd) ⊎ IsLeft (if b then store_into m store region else stays m replies.CrossesEnd)
  store_within store region at true fits =
      let own = within region store.h (length store.bytes) at fits in
      store_ends store region own.0 own.1 (nat_lt (free_frames m) (frames_wanted region store))
  store_within store region at false past = inr (refl, λ n is. crossing_stores n is)

  store_by : (store : Store) (o : Option Live) → live_at m store.h ≡ o
      → IsStored store (option_map_or (store_from store) o (stays m replies.Unmapped)) ⊎ IsLeft (option_map_or (store_from store) o (stays m replies.Unmapped))
  store_by store None at = inr (refl, λ n is. unmapped_stores n is)
  store_by store (Some region) at = store_within store region at (ends_within region.found store.h (length store.bytes)) refl

  store_flat : (store : Store) → IsFlatStore m store (store_answer m store)
  store_flat store = record {
    stored = λ region there lies room.
        ap (λ (o : Option Live). (option_map_or (store_from store) o (stays m replies.Unmapped)).reply) (region_at region store.h (length store.bytes) there lies)
        ∙ ap (λ (b : Bool). (if b then store_into m store region else stays m replies.CrossesEnd).reply) (ends region store.h (length store.bytes) lies)
        ∙ ap (λ (b : Bool). (store_if store region b).reply) (le-ltb (free_frames m) (frames_wanted region store) room);
    bytes = λ n is.
        elim (store_by store (live_at m store.h) refl) [
          | inl own ↦ subst (λ (after : Machine). HasBytes after store.h store.bytes) (sym own.3) (store_bytes store own.0 own.1 own.2)
          | inr left ↦ absurd (left.1 n is)
        ];
    others = λ h beside.
        elim (store_by store (live_at m store.h) refl) [
          | inl own ↦ ap (λ (after : Machine). byte_of after h) own.3 ∙ store_others store own.0 own.1 own.2 h beside
          | inr left ↦ ap (λ (after : Machine). byte_of after h) left.0
        ];
  }

  -- ---- copies and moves

  abbrev two : Pair → Live → Live → (Live → Live → Answer) → Answer
  two pair from to answer =
      if bytes_eq pair.from pair.to then stays m (replies.SameRegion pair.from)
      else (if not (from.found.size == to.found.size) then stays m (replies.SizesDiffer record { from = from.found.size; to = to.found.size })
      else answer from to)

  named_two : (pair : Pair) (answer : Live → Live → Answer) (from to : Live) → AreNamed m pair from to → for_two m pair answer ≡ two pair from to answer
  named_two pair answer from to named =
      ap (λ (o : Option Live). option_map_or (λ (one : Live). option_map_or (λ (other : Live). two pair one other answer) (live_named m pair.to) (stays m (replies.NoRegion pair.to))) o (stays m (replies.NoRegion pair.from))) named.first
      ∙ ap (λ (o : Option Live). option_map_or (λ (other : Live). two pair from other answer) o (stays m (replies.NoRegion pair.to))) named.second

  -- the reply tells of no copy and no move
  record IsNoCarry (reply : Reply) : Type 0 where
    copy : (told : Carried) → reply ≡ replies.Copied told → ⊥
    move : (told : Carried) → reply ≡ replies.Moved told → ⊥

  same_region : (name : List ℕ) → IsNoCarry (replies.SameRegion name)
  same_region name = record { copy = λ told is. (cc); move = λ told is. (cc) }

  sizes_differ : (one other : ℕ) → IsNoCarry (replies.SizesDiffer record { from = one; to = other })
  sizes_differ one other = record { copy = λ told is. (cc); move = λ told is. (cc) }

  lacks_frames : (need free : ℕ) → IsNoCarry (replies.Full record { need = need; free = free })
  lacks_frames need free = record { copy = λ told is. (cc); move = λ told is. (cc) }

  by_test : (P : Answer → Type 0) (b : Bool) (answer other : Answer) → (b ≡ true → P answer) → (b ≡ false → P other) → P (if b then answer else other)
  by_test P true answer other first second = first refl
  by_test P false answer other first second = second refl

  by_two : (P : Answer → Type 0) (pair : Pair) (from to : Live) (answer : Live → Live → Answer) → AreNamed m pair from to → (AreTwo m from to → P (answer from to)) → ((reply : Reply) → IsNoCarry reply → P (stays m reply))
      → P (for_two m pair answer)
  by_two P pair from to answer named made refused =
      subst P (sym (named_two pair answer from to named))
      (by_test P (bytes_eq pair.from pair.to) _ _ (λ one. refused (replies.SameRegion pair.from) (same_region pair.from))
      (λ differ. by_test P (not (from.found.size == to.found.size)) _ _ (λ uneven. refused _ (sizes_differ from.found.size to.found.size)) (λ alike. made (are_two m pair from to named.first named.second differ alike))))

  has_byte : (region : Live) (k : ℕ) → k < region.found.size → has_host region.found (region.found.base + k) ≡ true
  has_byte region k below = has_between region.found (region.found.base + k) (omega arith) (omega (arith, below))

  offset_of : (region : Live) (k : ℕ) → offset_in region (region.found.base + k) ≡ k
  offset_of region k = omega arith

  -- the byte of a region at an offset
  byte_in : (region : Live) (k : ℕ) → Contains m.live region → k < region.found.size → byte_of m (region.found.base + k) ≡ Some (content_at region.contents k)
  byte_in region k there below =
      byte_at m apart region (region.found.base + k) there (has_byte region k below) ∙ ap (λ (i : ℕ). Some (content_at region.contents i)) (offset_of region k)

  copied_bytes : (from to : Live) → AreTwo m from to → HasBytesOf m (copied m from to) from to
  copied_bytes from to are k below =
      let sizes = are.sizes in
      byte_inside m apart to are.here from.contents (to.found.base + k) (has_byte to k below) ∙ ap (λ (i : ℕ). Some (content_at from.contents i)) (offset_of to k)
      ∙ sym (byte_in from k are.there (omega (arith, below, sizes)))

  record CopyOf (from to : Live) (answer : Answer) : Type 0 where
    bytes : (told : Carried) → answer.reply ≡ replies.Copied told → HasBytesOf m answer.machine from to
    others : (h : ℕ) → LiesBeside h to.found.base to.found.size → byte_of answer.machine h ≡ byte_of m h

  copy_refused : (from to : Live) (reply : Reply) → IsNoCarry reply → CopyOf from to (stays m reply)
  copy_refused from to reply none = record { bytes = λ told is. absurd (none.copy told is); others = λ h beside. refl }

  copy_made : (from to : Live) → AreTwo m from to → CopyOf from to (copy_between m from to)
  copy_made from to are =
      by_test (CopyOf from to) (nat_lt (frames_for m to) (pieces_of from)) _ _ (λ lack. copy_refused from to _ (lacks_frames (pieces_of from) (frames_for m to)))
      (λ room. record { bytes = λ told is. copied_bytes from to are; others = λ h beside. byte_outside m apart to are.here from.contents h (has_not to.found h beside) })

  copy_of : (pair : Pair) (from to : Live) → AreNamed m pair from to → CopyOf from to (copy_answer m pair)
  copy_of pair from to named = by_two (CopyOf from to) pair from to (copy_between m) named (copy_made from to) (copy_refused from to)

  copy_flat : (pair : Pair) → IsFlatCopy m pair (copy_answer m pair)
  copy_flat pair = record {
    bytes = λ told from to is named. (copy_of pair from to named).bytes told is;
    others = λ from to h named beside. (copy_of pair from to named).others h beside;
  }

  -- ---- moves

  module _ (from to : Live) (are : AreTwo m from to) where
    abbrev between : Machine
    between = copied m from to

    between_apart : AreApart between
    between_apart = changed_apart m to.name from.contents apart

    still_there : Contains between.live from
    still_there = subst (λ (r : Live). Contains between.live r) (unchanged to.name from.contents from are.differ) (to_changed (changed to.name from.contents) m.live from are.there)

    -- an address of the second region is none of the first
    not_first : (h : ℕ) → has_host to.found h ≡ true → has_host from.found h ≡ false
    not_first h has =
        elim (cases_Bool (has_host from.found h)) [
          | inl both ↦ absurd (are.differ (ap (λ (r : Live). r.name) (apart.host from to h are.there are.here both has)))
          | inr none ↦ none
        ]

    moved_bytes : HasBytesOf m (moved m from to) from to
    moved_bytes k below =
        byte_outside between between_apart from still_there fin.empty (to.found.base + k) (not_first (to.found.base + k) (has_byte to k below)) ∙ copied_bytes from to are k below

    moved_zeros : (k : ℕ) → k < from.found.size → byte_of (moved m from to) (from.found.base + k) ≡ Some 0
    moved_zeros k below =
        byte_inside between between_apart from still_there fin.empty (from.found.base + k) (has_byte from k below) ∙ ap Some (zero_content (offset_in from (from.found.base + k)))

    moved_others : (h : ℕ) → LiesBeside h from.found.base from.found.size → LiesBeside h to.found.base to.found.size → byte_of (moved m from to) h ≡ byte_of m h
    moved_others h first second =
        byte_outside between between_apart from still_there fin.empty h (has_not from.found h first) ∙ byte_outside m apart to are.here from.contents h (has_not to.found h second)

  record MoveOf (from to : Live) (answer : Answer) : Type 0 where
    bytes : (told : Carried) → answer.reply ≡ replies.Moved told → HasBytesOf m answer.machine from to
    zeros : (told : Carried) (k : ℕ) → answer.reply ≡ replies.Moved told → k < from.found.size → byte_of answer.machine (from.found.base + k) ≡ Some 0
    others : (h : ℕ) → LiesBeside h from.found.base from.found.size → LiesBeside h to.found.base to.found.size → byte_of answer.machine h ≡ byte_of m h

  move_of : (pair : Pair) (from to : Live) → AreNamed m pair from to → MoveOf from to (move_answer m pair)
  move_of pair from to named =
      by_two (MoveOf from to) pair from to (move_between m) named
      (λ are. record { bytes = λ told is. moved_bytes from to are; zeros = λ told k is below. moved_zeros from to are k below; others = moved_others from to are })
      (λ reply none. record { bytes = λ told is. absurd (none.move told is); zeros = λ told k is below. absurd (none.move told is); others = λ h first second. refl })

  move_flat : (pair : Pair) → IsFlatMove m pair (move_answer m pair)
  move_flat pair = record {
    bytes = λ told from to is named. (move_of pair from to named).bytes told is;
    zeros = λ told from to k is named below. (move_of pair from to named).zeros told k is below;
    others = λ from to h named first second. (move_of pair from to named).others h first second;
  }

  -- ---- answers

  access_flat : (one : Asked) (turn : Turn) → TakesTurn m one turn → IsFlatAccess m one turn
  access_flat (Ok (commands.Load load)) turn takes = subst (IsFlatLoad m load) (sym takes.1.told) (load_flat load)
  access_flat (Ok (commands.Store store)) turn takes = subst (IsFlatStore m store) (sym takes.1.told) (store_flat store)
  access_flat (Ok (commands.Copy pair)) turn takes = subst (IsFlatCopy m pair) (sym takes.1.told) (copy_flat pair)
  access_flat (Ok (commands.Move pair)) turn takes = subst (IsFlatMove m pair) (sym takes.1.told) (move_flat pair)
  access_flat other turn takes = tt

pub turn_flat : ShareLaw → (m : Machine) → IsMachine m → (one : Asked) (turn : Turn) → TakesTurn m one turn → IsFlatAccess m one turn
turn_flat law m is one turn takes = access_flat m (live_apart law m is) one turn takes
