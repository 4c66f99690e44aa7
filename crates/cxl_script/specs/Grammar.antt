-- What a line of a script asks for, or its first fault (this project's grammar).
use Rattle.std.specs.Prelude.{ℕ, ◌<◌, ◌≤◌, nat_lt, nat_eq, Bool, if◌then◌else◌, List, [], ◌∷◌, length, All, codes, Option, Some, None, IfSome, Result, Ok, Err}
use Rattle.std.specs.List.{starts_with}
use Rattle.cxl_enc.specs.Codes.{gran_code_in_table}
use Rattle.cxl_enc.specs.Limits.{address_limit}
use Rattle.cxl_enc.specs.Name.{is_name}
use Rattle.cxl_io.specs.Numbers.{number_of}
use Rattle.cxl_io.specs.Reader.{line_limit}
use Rattle.cxl_script.specs.declared.command.Command.{Command}
use Rattle.cxl_script.specs.declared.command.Command.TheVariants as commands
use Rattle.cxl_script.specs.declared.command.Create.{Create}
use Rattle.cxl_script.specs.declared.command.Load.{Load}
use Rattle.cxl_script.specs.declared.command.Poison.{Poison}
use Rattle.cxl_script.specs.declared.command.Store.{Store}
use Rattle.cxl_script.specs.declared.command.Up.{Up}
use Rattle.cxl_script.specs.declared.create.Head.{Head}
use Rattle.cxl_script.specs.declared.command.Pair.{Pair}
use Rattle.cxl_script.specs.declared.command.Reach.{Reach}
use Rattle.cxl_script.specs.declared.fault.BadLine.{BadLine}
use Rattle.cxl_script.specs.declared.fault.Why.TheVariants as whys
use Rattle.cxl_script.specs.declared.verb.Verb.{Verb}
use Rattle.cxl_script.specs.declared.verb.Verb.TheVariants as verbs
use Rattle.cxl_script.specs.Words.{Word, line_words}
use Rattle.cxl_script.specs.Verbs.{verb_of}
use Rattle.cxl_script.specs.Reading.{Read, ◌>>=◌, bad, next_word_in, ends, name_in, kind_in, behind, ranged, with_rest, ranged_in, address_in, hex_bytes_in}

-- the most bytes of a load or a store, of a range and of a spread, and the most steps of one line
abbrev pub access_limit : ℕ
access_limit = 256

-- the most bytes of which the extents are told
abbrev pub range_limit : ℕ
range_limit = 65536

-- the most register writes of one step
abbrev pub step_limit : ℕ
step_limit = 1000000

-- the most endpoints that are picked
abbrev pub ways_limit : ℕ
ways_limit = 16

-- ---- the words of a create line behind its verb

-- a granularity in bytes, told as its code
abbrev pub gran_of_bytes : ℕ → Option ℕ → Result (Option ℕ) BadLine
gran_of_bytes at None = bad at whys.Range
gran_of_bytes at (Some code) = Ok (Some code)

-- the code of a number that was read as a granularity in bytes
abbrev pub gran_of_number : ℕ → Result ℕ BadLine → Result (Option ℕ) BadLine
gran_of_number at (Ok bytes) = gran_of_bytes at (gran_code_in_table bytes)
gran_of_number at (Err fault) = Err fault

-- the granularity in the word behind `gran`, where that comes next
abbrev pub gran_read : List Word → Option (Word × List Word) → Read (Option ℕ)
gran_read words None = Ok (None, words)
gran_read words (Some next) =
    with_rest (gran_of_number next.0.at (ranged next.0.at 0 0xffffffffffffffff (number_of next.0.text))) next.1

-- `gran=G`, where the next word begins so
abbrev pub gran_in : List Word → Read (Option ℕ)
gran_in words = gran_read words (behind (codes "gran=") words)

-- a name before those that were read behind it
abbrev pub name_onto : List ℕ → Result (List (List ℕ)) BadLine → Result (List (List ℕ)) BadLine
name_onto name (Ok names) = Ok (name ∷ names)
name_onto name (Err fault) = Err fault

-- the names of endpoints, to the end of the line
abbrev pub names_in : List Word → Result (List (List ℕ)) BadLine
names_in [] = Ok []
names_in (word ∷ words) = if is_name word.text then name_onto word.text (names_in words) else bad word.at whys.Name

-- what a create line states before its endpoints
abbrev pub head_in : ℕ → List Word → Read Head
head_in len words = do
  name ← name_in len words
  kind ← kind_in len name.1
  size ← address_in len kind.1
  gran ← gran_in size.1
  Ok (record { name = name.0; kind = kind.0; size = size.0; gran = gran.0 }, gran.1)

-- the create of a head, over these endpoints or so many
abbrev pub create_over : Head → List (List ℕ) → Option ℕ → Create
create_over head endpoints ways =
    record { name = head.name; kind = head.kind; size = head.size; gran = head.gran; endpoints = endpoints; ways = ways }

-- a create over as many endpoints as its ways, where the line ends there
abbrev pub over_ways : Head → Result ℕ BadLine → List Word → Result Create BadLine
over_ways head (Ok ways) words = ends (create_over head [] (Some ways)) words
over_ways head (Err fault) words = Err fault

-- a create over the endpoints of these names
abbrev pub over_names : Head → Result (List (List ℕ)) BadLine → Result Create BadLine
over_names head (Ok names) = Ok (create_over head names None)
over_names head (Err fault) = Err fault

-- one endpoint or more
abbrev pub some_names_in : ℕ → List Word → Result (List (List ℕ)) BadLine
some_names_in len words = next_word_in len words >>= λ first. names_in words

-- a create by the word behind `ways`, where that comes next, and else by names
abbrev pub over_read : ℕ → Head → List Word → Option (Word × List Word) → Result Create BadLine
over_read len head words None = over_names head (some_names_in len words)
over_read len head words (Some next) = over_ways head (ranged next.0.at 1 ways_limit (number_of next.0.text)) next.1

-- `ways=N`, where the word in the place of the first endpoint begins so, and else one endpoint or more
abbrev pub names_or_ways_in : ℕ → Head → List Word → Result Create BadLine
names_or_ways_in len head words = over_read len head words (behind (codes "ways=") words)

-- what is asked behind `create`
abbrev pub create_in : ℕ → List Word → Result Create BadLine
create_in len words = head_in len words >>= λ head. names_or_ways_in len head.0 head.1

-- ---- the words behind the other verbs

-- a name, and no word behind it
abbrev pub only_name_in : ℕ → List Word → Result (List ℕ) BadLine
only_name_in len words = name_in len words >>= λ name. ends name.0 name.1

-- a host address, and no word behind it
abbrev pub only_address_in : ℕ → List Word → Result ℕ BadLine
only_address_in len words = address_in len words >>= λ h. ends h.0 h.1

-- what is asked behind `up`: an endpoint and an address of its device
abbrev pub up_in : ℕ → List Word → Result Up BadLine
up_in len words = do
  endpoint ← name_in len words
  dpa ← address_in len endpoint.1
  ends (record { endpoint = endpoint.0; dpa = dpa.0 }) dpa.1

-- what is asked behind `load`: a host address and how many bytes
abbrev pub load_in : ℕ → List Word → Result Load BadLine
load_in len words = do
  h ← address_in len words
  bytes ← ranged_in 1 access_limit len h.1
  ends (record { h = h.0; len = bytes.0 }) bytes.1

-- what is asked behind `store`: a host address and its bytes
abbrev pub store_in : ℕ → List Word → Result Store BadLine
store_in len words = do
  h ← address_in len words
  bytes ← hex_bytes_in access_limit len h.1
  ends (record { h = h.0; bytes = bytes.0 }) bytes.1

-- a line has no room for more bytes than these
abbrev pub poison_in : ℕ → List Word → Result Poison BadLine
poison_in len words = do
  endpoint ← name_in len words
  bytes ← hex_bytes_in line_limit len endpoint.1
  ends (record { endpoint = endpoint.0; bytes = bytes.0 }) bytes.1

-- what is asked behind `step`: how many register writes
abbrev pub step_in : ℕ → List Word → Result ℕ BadLine
step_in len words = ranged_in 1 step_limit len words >>= λ n. ends n.0 n.1

-- an address and a number of bytes, from one to so many
abbrev pub reach_in : ℕ → ℕ → List Word → Result Reach BadLine
reach_in most len words = do
  h ← address_in len words
  bytes ← ranged_in 1 most len h.1
  ends (record { h = h.0; len = bytes.0 }) bytes.1

-- what is asked behind `copy` and `move`: the names of two regions
abbrev pub pair_in : ℕ → List Word → Result Pair BadLine
pair_in len words = do
  from ← name_in len words
  to ← name_in len from.1
  ends (record { from = from.0; to = to.0 }) to.1

-- ---- verbs

-- what was read as a command of its kind
abbrev pub as_command : {A : Type 0} → (A → Command) → Result A BadLine → Result Command BadLine
as_command command (Ok a) = Ok (command a)
as_command command (Err fault) = Err fault

-- what the word after `begin` asks for
abbrev pub begin_of : Option Verb → ℕ → ℕ → List Word → Result Command BadLine
begin_of (Some verbs.Create) at len words = as_command commands.BeginCreate (create_in len words)
begin_of (Some verbs.Destroy) at len words = as_command commands.BeginDestroy (only_name_in len words)
begin_of other at len words = bad at whys.Verb

-- what is asked behind `begin`: a create or a destroy
abbrev pub begin_in : ℕ → List Word → Result Command BadLine
begin_in len words = next_word_in len words >>= λ word. begin_of (verb_of word.0.text) word.0.at len word.1

-- what a verb asks for with the words behind it
abbrev pub asked_of : Verb → ℕ → List Word → Result Command BadLine
asked_of verbs.Create len words = as_command commands.Create (create_in len words)
asked_of verbs.Destroy len words = as_command commands.Destroy (only_name_in len words)
asked_of verbs.Show len words = as_command commands.Show (only_name_in len words)
asked_of verbs.Down len words = as_command commands.Down (only_address_in len words)
asked_of verbs.Up len words = as_command commands.Up (up_in len words)
asked_of verbs.Load len words = as_command commands.Load (load_in len words)
asked_of verbs.Store len words = as_command commands.Store (store_in len words)
asked_of verbs.Poison len words = as_command commands.Poison (poison_in len words)
asked_of verbs.Begin len words = begin_in len words
asked_of verbs.Step len words = as_command commands.Step (step_in len words)
asked_of verbs.Abort len words = ends commands.Abort words
asked_of verbs.Range len words = as_command commands.Range (reach_in range_limit len words)
asked_of verbs.Spread len words = as_command commands.Spread (reach_in address_limit len words)
asked_of verbs.Copy len words = as_command commands.Copy (pair_in len words)
asked_of verbs.Move len words = as_command commands.Move (pair_in len words)

-- ---- a line

-- the command of a verb; a word that is no verb is bad
abbrev pub command_of : Option Verb → ℕ → ℕ → List Word → Result Command BadLine
command_of None at len words = bad at whys.Verb
command_of (Some verb) at len words = asked_of verb len words

-- what a line's first word asks for
abbrev pub command_in : ℕ → Word → List Word → Result Command BadLine
command_in len first words = command_of (verb_of first.text) first.at len words

-- the word begins a comment
abbrev pub begins_comment : List ℕ → Bool
begins_comment text = starts_with nat_eq text (codes "#")

-- a line that asks for something
abbrev pub some_command : Result Command BadLine → Result (Option Command) BadLine
some_command (Ok command) = Ok (Some command)
some_command (Err fault) = Err fault

-- a line without a word, or whose first word begins with `#`, asks for nothing
abbrev pub asked_by : ℕ → List Word → Result (Option Command) BadLine
asked_by len [] = Ok None
asked_by len (verb ∷ words) = if begins_comment verb.text then Ok None else some_command (command_in len verb words)

-- what a line asks for: nothing, a command, or its first fault
abbrev pub asked_in : List ℕ → Result (Option Command) BadLine
asked_in line =
    if nat_lt line_limit (length line) then bad line_limit whys.Long else asked_by (length line) (line_words line)

-- ---- the granularity of a region to be made

-- none is stated, or one by a code of the table
abbrev pub StatesGranCode : Create → Type 0
StatesGranCode create = IfSome create.gran (λ code. code ≤ 6)

-- a granularity that a region's line states is told by a code of the table
abbrev pub StatesGranCodes : Command → Type 0
StatesGranCodes (commands.Create create) = StatesGranCode create
StatesGranCodes (commands.BeginCreate create) = StatesGranCode create
StatesGranCodes command = Unit {0}

-- ---- what every line keeps to

-- the numbers of a command lie where a line can state them, and what it stores are bytes
abbrev pub IsRanged : Command → Type 0
IsRanged (commands.Create create) = StatesGranCode create
IsRanged (commands.BeginCreate create) = StatesGranCode create
IsRanged (commands.Load load) = (1 ≤ load.len) × (load.len ≤ access_limit)
IsRanged (commands.Store store) = (1 ≤ length store.bytes) × (length store.bytes ≤ access_limit) × All (λ byte. byte < 256) store.bytes
IsRanged (commands.Range reach) = (1 ≤ reach.len) × (reach.len ≤ range_limit)
IsRanged (commands.Spread reach) = 1 ≤ reach.len
IsRanged command = Unit {0}
