-- What the words of the command line ask for, in two parts: which files they name, and what is asked of them.
use Rattle.std.specs.Prelude.{ℕ, ◌≤◌, Bool, true, false, ◌&&◌, nat_le, Option, Some, None, List, [], ◌∷◌, codes, bytes_eq, if◌then◌else◌, Result, Ok, Err}
use Rattle.cxl_io.specs.Numbers.{number_of}
use Rattle.cxl_io.specs.declared.number.NumFault.{NumFault}
use Rattle.cxl_script.specs.Grammar.{asked_in, StatesGranCode}
use Rattle.cxl_script.specs.declared.command.Command.{Command}
use Rattle.cxl_script.specs.declared.command.Command.TheVariants as commands
use Rattle.cxl_script.specs.declared.command.Create.{Create}
use Rattle.cxl_script.specs.declared.fault.BadLine.{BadLine}
use Rattle.cxl_commands.specs.declared.form.HostAsk.{HostAsk}
use Rattle.cxl_commands.specs.declared.form.HostAsk.TheVariants as hosts
use Rattle.cxl_commands.specs.declared.form.ResetAsk.{ResetAsk}
use Rattle.cxl_commands.specs.declared.form.ResetAsk.TheVariants as resets
use Rattle.cxl_commands.specs.declared.form.TableAsk.{TableAsk}
use Rattle.cxl_commands.specs.declared.form.TableAsk.TheVariants as tables
use Rattle.cxl_commands.specs.declared.form.WordsAsk.{WordsAsk}
use Rattle.cxl_commands.specs.declared.form.WordsAsk.TheVariants as plains

-- what the words ask for: something of these files
pub data Form : Type 0 where
  -- something of the table in a file
  OfTable : (cedt : List ℕ) (ask : TableAsk) → Form
  -- something of the host of a table and a topology after reset
  OfResetHost : (cedt topo : List ℕ) (ask : ResetAsk) → Form
  -- something of the host of a table, a topology and an image
  OfHost : (cedt topo image : List ℕ) (ask : HostAsk) → Form
  -- something that no file tells
  OfWords : (ask : WordsAsk) → Form

-- ---- the forms

-- which bridge a host address goes to
abbrev pub Route : List ℕ → ℕ → Form
Route file h = OfTable file (tables.Route h)

-- a line for each record
abbrev pub Listing : List ℕ → Form
Listing file = OfTable file tables.Listing

-- the table's bytes, as the writer gives them
abbrev pub Normal : List ℕ → Form
Normal file = OfTable file tables.Normal

-- how the region of a create line would be made
abbrev pub Plan : List ℕ → List ℕ → Create → Form
Plan cedt topo create = OfResetHost cedt topo (resets.Plan create)

-- whether the image is accepted
abbrev pub Check : List ℕ → List ℕ → List ℕ → Form
Check cedt topo image = OfHost cedt topo image hosts.Check

-- the commands of a script, carried out from reset, or from an image where one is named
abbrev pub Script : List ℕ → List ℕ → Option (List ℕ) → Form
Script cedt topo None = OfResetHost cedt topo resets.Script
Script cedt topo (Some image) = OfHost cedt topo image hosts.Script

-- the commands of the generated system of this number
abbrev pub Gen : ℕ → Form
Gen n = OfWords (plains.Gen n)

-- a plan is asked for by a line that does not ask for a region
abbrev pub NoCreate : Form
NoCreate = OfWords plains.NoCreate

-- what the forms are
abbrev pub Help : Form
Help = OfWords plains.Help

-- which release of the program it is
abbrev pub Version : Form
Version = OfWords plains.Version

-- the words are none of the forms, or a word is no number that has to be one
abbrev pub Unreadable : Form
Unreadable = OfWords plains.Unreadable

-- ---- words

-- a route to what was read as the address, where it is a number
abbrev pub route_to : List ℕ → Result ℕ NumFault → Form
route_to file (Ok h) = Route file h
route_to file (Err fault) = Unreadable

-- the words after `route`: a file and a host address
abbrev pub route_form : List (List ℕ) → Form
route_form (file ∷ address ∷ []) = route_to file (number_of address)
route_form words = Unreadable

-- the word after `list` or `normal`: a file
abbrev pub list_form : List (List ℕ) → Form
list_form (file ∷ []) = Listing file
list_form words = Unreadable

-- the word after `normal`: a file
abbrev pub normal_form : List (List ℕ) → Form
normal_form (file ∷ []) = Normal file
normal_form words = Unreadable

-- the words after `check`: the files of a table, a topology and an image
abbrev pub check_form : List (List ℕ) → Form
check_form (cedt ∷ topo ∷ image ∷ []) = Check cedt topo image
check_form words = Unreadable

-- the create command among what a line may be read as
abbrev pub create_asked : Result (Option Command) BadLine → Option Create
create_asked (Ok (Some (commands.Create create))) = Some create
create_asked asked = None

-- the region that a line asks for, where it asks for one
abbrev pub create_on_line : List ℕ → Option Create
create_on_line line = create_asked (asked_in line)

-- a plan over the files of a table and a topology, where a region is asked for
abbrev pub plan_form_over : List ℕ → List ℕ → Option Create → Form
plan_form_over cedt topo (Some create) = Plan cedt topo create
plan_form_over cedt topo None = NoCreate

-- the words after `plan`: the files of a table and a topology, and a create line
abbrev pub plan_form : List (List ℕ) → Form
plan_form (cedt ∷ topo ∷ line ∷ []) = plan_form_over cedt topo (create_on_line line)
plan_form words = Unreadable

-- a form that has no words after its first
abbrev pub alone : Form → List (List ℕ) → Form
alone form [] = form
alone form (word ∷ words) = Unreadable

-- the words after `run`: the files of a table and a topology, and that of an image, where one is named
abbrev pub run_form : List (List ℕ) → Form
run_form (cedt ∷ topo ∷ []) = Script cedt topo None
run_form (cedt ∷ topo ∷ image ∷ []) = Script cedt topo (Some image)
run_form words = Unreadable

-- the word after `gen`: a number from 1 to 32
abbrev pub gen_of : Result ℕ NumFault → Form
gen_of (Ok n) = if nat_le 1 n && nat_le n 32 then Gen n else Unreadable
gen_of (Err fault) = Unreadable

-- the word after `gen`
abbrev pub gen_form : List (List ℕ) → Form
gen_form (number ∷ []) = gen_of (number_of number)
gen_form words = Unreadable

-- what the words ask for, in two parts: which files they name, and what is asked of these
abbrev pub form_of : List (List ℕ) → Form
form_of [] = Unreadable
form_of (word ∷ words) =
    if bytes_eq word (codes "route") then route_form words
    else (if bytes_eq word (codes "list") then list_form words
    else (if bytes_eq word (codes "normal") then normal_form words
    else (if bytes_eq word (codes "check") then check_form words
    else (if bytes_eq word (codes "plan") then plan_form words
    else (if bytes_eq word (codes "run") then run_form words
    else (if bytes_eq word (codes "gen") then gen_form words
    else (if bytes_eq word (codes "--help") then alone Help words
    else (if bytes_eq word (codes "--version") then alone Version words
    else Unreadable))))))))

-- it works on a session
abbrev pub runs_session : Form → Bool
runs_session (OfResetHost cedt topo resets.Script) = true
runs_session (OfHost cedt topo image hosts.Script) = true
runs_session (OfWords (plains.Gen n)) = true
runs_session form = false

-- it reads the script
abbrev pub reads_script : Form → Bool
reads_script (OfResetHost cedt topo resets.Script) = true
reads_script (OfHost cedt topo image hosts.Script) = true
reads_script form = false

-- ---- what a form needs

-- the names of its files, in the order of the words
abbrev pub own_files : Form → List (List ℕ)
own_files (OfTable cedt ask) = cedt ∷ []
own_files (OfResetHost cedt topo ask) = cedt ∷ topo ∷ []
own_files (OfHost cedt topo image ask) = cedt ∷ topo ∷ image ∷ []
own_files (OfWords ask) = []

-- the file with the table, where it reads one
abbrev pub table_file : Form → Option (List ℕ)
table_file (OfTable cedt ask) = Some cedt
table_file (OfResetHost cedt topo ask) = Some cedt
table_file (OfHost cedt topo image ask) = Some cedt
table_file (OfWords ask) = None

-- the file with the topology, where it reads one
abbrev pub topology_file : Form → Option (List ℕ)
topology_file (OfTable cedt ask) = None
topology_file (OfResetHost cedt topo ask) = Some topo
topology_file (OfHost cedt topo image ask) = Some topo
topology_file (OfWords ask) = None

-- the file with the image, where it reads one
abbrev pub image_file : Form → Option (List ℕ)
image_file (OfTable cedt ask) = None
image_file (OfResetHost cedt topo ask) = None
image_file (OfHost cedt topo image ask) = Some image
image_file (OfWords ask) = None

-- its text may have more than one piece
abbrev pub has_many_pieces : Form → Bool
has_many_pieces (OfTable cedt tables.Listing) = true
has_many_pieces (OfHost cedt topo image hosts.Check) = true
has_many_pieces form = false

-- help, version and words that are no form never want for memory
abbrev pub words_take_memory : WordsAsk → Bool
words_take_memory plains.NoCreate = true
words_take_memory (plains.Gen n) = true
words_take_memory ask = false

-- it takes memory
abbrev pub takes_memory : Form → Bool
takes_memory (OfTable cedt ask) = true
takes_memory (OfResetHost cedt topo ask) = true
takes_memory (OfHost cedt topo image ask) = true
takes_memory (OfWords ask) = words_take_memory ask

-- a line that it has states no granularity, or one by a code of the table; a number that it has is one of a generated system
abbrev pub IsRangedForm : Form → Type 0
IsRangedForm (OfResetHost cedt topo (resets.Plan create)) = StatesGranCode create
IsRangedForm (OfWords (plains.Gen n)) = (1 ≤ n) × (n ≤ 32)
IsRangedForm form = Unit {0}
