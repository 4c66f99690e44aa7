-- The flat memory of a machine: the byte at each host address, and what the commands do with it (this project's rules).
use Rattle.std.specs.Prelude.{◌≡◌, ◌≢◌, ℕ, ◌+◌, ◌<◌, ◌≤◌, ◌⊎◌, Bool, true, false, List, length, slice_index, Contains, Option, Some, option_map, Ok}
use Rattle.std.specs.FinMap as map
use Rattle.cxl_script.specs.declared.command.Command.TheVariants as commands
use Rattle.cxl_script.specs.declared.command.Load.{Load}
use Rattle.cxl_script.specs.declared.command.Pair.{Pair}
use Rattle.cxl_script.specs.declared.command.Store.{Store}
use Rattle.cxl_model.specs.declared.found.Found.{Found}
use Rattle.cxl_model.specs.Contents.{content_at}
use Rattle.cxl_reply.specs.declared.reply.Reply.TheVariants as replies
use Rattle.cxl_reply.specs.declared.details.Carried.{Carried}
use Rattle.cxl_machine.specs.Machine.{Live, Machine, live_at, live_named, free_frames, kept_regions}
use Rattle.cxl_machine.specs.Accesses.{offset_in, frames_wanted}
use Rattle.cxl_machine.specs.Replies.{Answer}
use Rattle.cxl_machine.specs.Scripts.{Asked, Turn, answer_of}

-- ---- bytes

-- the byte at a host address, where a live region has it
abbrev pub byte_of : Machine → ℕ → Option ℕ
byte_of m h = option_map (λ (region : Live). content_at region.contents (offset_in region h)) (live_at m h)

-- these bytes stand one after the other from a host address on
abbrev pub HasBytes : Machine → ℕ → List ℕ → Type 0
HasBytes m h bytes = (k : ℕ) → k < length bytes → byte_of m (h + k) ≡ Some (slice_index bytes k)

-- the address is none of so many from another on
abbrev pub LiesBeside : ℕ → ℕ → ℕ → Type 0
LiesBeside h from len = (h < from) ⊎ (from + len ≤ h)

-- so many addresses from one on are a region's
pub record LieWithin (found : Found) (h len : ℕ) : Type 0 where
  pub from : found.base ≤ h
  pub below : h < found.base + found.size
  pub ends : h + len ≤ found.base + found.size

-- ---- loads and stores

-- A load of addresses in one live region tells as many bytes as it asks for, as they stand; and it changes nothing.
pub record IsFlatLoad (m : Machine) (load : Load) (answer : Answer) : Type 0 where
  pub told : (region : Live) → Contains m.live region → LieWithin region.found load.h load.len → (bytes : List ℕ) × (answer.reply ≡ replies.Loaded bytes)
  pub count : (bytes : List ℕ) → answer.reply ≡ replies.Loaded bytes → length bytes ≡ load.len
  pub bytes : (bytes : List ℕ) → answer.reply ≡ replies.Loaded bytes → HasBytes m load.h bytes
  pub machine : answer.machine ≡ m

-- A store to addresses in one live region puts its bytes there, where enough frames are free; and it leaves what stands at
-- each other address.
pub record IsFlatStore (m : Machine) (store : Store) (answer : Answer) : Type 0 where
  pub stored : (region : Live) → Contains m.live region → LieWithin region.found store.h (length store.bytes) → frames_wanted region store ≤ free_frames m
      → answer.reply ≡ replies.Stored (length store.bytes)
  pub bytes : (count : ℕ) → answer.reply ≡ replies.Stored count → HasBytes answer.machine store.h store.bytes
  pub others : (h : ℕ) → LiesBeside h store.h (length store.bytes) → byte_of answer.machine h ≡ byte_of m h

-- ---- copies and moves

-- these are the two live regions
pub record AreNamed (m : Machine) (pair : Pair) (from to : Live) : Type 0 where
  pub first : live_named m pair.from ≡ Some from
  pub second : live_named m pair.to ≡ Some to

-- the bytes of the second are those that the first had
abbrev pub HasBytesOf : Machine → Machine → Live → Live → Type 0
HasBytesOf m after from to = (k : ℕ) → k < to.found.size → byte_of after (to.found.base + k) ≡ byte_of m (from.found.base + k)

-- A copy gives the second region the bytes of the first, and leaves what stands at each address outside it.
pub record IsFlatCopy (m : Machine) (pair : Pair) (answer : Answer) : Type 0 where
  pub bytes : (told : Carried) (from to : Live) → answer.reply ≡ replies.Copied told → AreNamed m pair from to → HasBytesOf m answer.machine from to
  pub others : (from to : Live) (h : ℕ) → AreNamed m pair from to → LiesBeside h to.found.base to.found.size → byte_of answer.machine h ≡ byte_of m h

-- A move besides leaves the first one zero.
pub record IsFlatMove (m : Machine) (pair : Pair) (answer : Answer) : Type 0 where
  pub bytes : (told : Carried) (from to : Live) → answer.reply ≡ replies.Moved told → AreNamed m pair from to → HasBytesOf m answer.machine from to
  pub zeros : (told : Carried) (from to : Live) (k : ℕ) → answer.reply ≡ replies.Moved told → AreNamed m pair from to → k < from.found.size → byte_of answer.machine (from.found.base + k) ≡ Some 0
  pub others : (from to : Live) (h : ℕ) → AreNamed m pair from to → LiesBeside h from.found.base from.found.size → LiesBeside h to.found.base to.found.size
      → byte_of answer.machine h ≡ byte_of m h

-- ---- each command

-- what is asked for reads and writes one flat memory
abbrev pub IsFlatAccess : Machine → Asked → Turn → Type 0
IsFlatAccess m (Ok (commands.Load load)) turn = IsFlatLoad m load (answer_of turn)
IsFlatAccess m (Ok (commands.Store store)) turn = IsFlatStore m store (answer_of turn)
IsFlatAccess m (Ok (commands.Copy pair)) turn = IsFlatCopy m pair (answer_of turn)
IsFlatAccess m (Ok (commands.Move pair)) turn = IsFlatMove m pair (answer_of turn)
IsFlatAccess m other turn = Unit {0}

-- commands that write bytes
abbrev pub writes_bytes : Asked → Bool
writes_bytes (Ok (commands.Store store)) = true
writes_bytes (Ok (commands.Copy pair)) = true
writes_bytes (Ok (commands.Move pair)) = true
writes_bytes other = false

-- a region of which the machine has no byte yet, since none that it keeps has the name; it holds zeros
pub record IsNew (m : Machine) (region : Live) : Type 0 where
  pub name : (other : Live) → Contains (kept_regions m) other → other.name ≢ region.name
  pub zeros : region.contents ≡ map.empty

-- Each region that has bytes behind it, live or under release, had the same before it; or it is new.
abbrev pub KeepsBytes : Machine → Machine → Type 0
KeepsBytes m after = (region : Live) → Contains (kept_regions after) region → Contains (kept_regions m) region ⊎ IsNew m region
