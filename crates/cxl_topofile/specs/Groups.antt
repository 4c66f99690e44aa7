-- The nodes that the tables of a file state, in order.
use Rattle.std.specs.Prelude.{◌≡◌, ℕ, ◌+◌, Bool, true, ◌&&◌, is_some, List, [], ◌∷◌, ◌++◌, Some, pos, Result, Ok, Err, if◌then◌else◌}
use Rattle.cxl_enc.specs.Limits.{frame_limit}
use Rattle.toml.specs.Data.{Items, no_items, item, Members, table, as_array, as_table}
use Rattle.cxl_topo.specs.declared.node.Node.{Node}
use Rattle.cxl_topofile.specs.declared.key.Key.{Key}
use Rattle.cxl_topofile.specs.declared.key.Key.TheVariants as keys
use Rattle.cxl_topofile.specs.declared.fault.Wrong.{Wrong}
use Rattle.cxl_topofile.specs.declared.fault.Cause.{Cause}
use Rattle.cxl_topofile.specs.declared.fault.Cause.TheVariants as causes
use Rattle.cxl_topofile.specs.declared.fault.Section.{Section}
use Rattle.cxl_topofile.specs.declared.fault.Section.TheVariants as sections
use Rattle.cxl_topofile.specs.declared.fault.TableKey.{TableKey}
use Rattle.cxl_topofile.specs.declared.fault.TopoFault.{TopoFault}
use Rattle.cxl_topofile.specs.declared.fault.TopoFault.TheVariants as faults
use Rattle.cxl_topofile.specs.declared.draft.Draft.{Draft}
use Rattle.cxl_topofile.specs.declared.group.Group.{Group}
use Rattle.cxl_topofile.specs.declared.group.Group.TheVariants as groups
use Rattle.cxl_topofile.specs.Wrongs.{of_other_kind}
use Rattle.cxl_topofile.specs.Values.{◌>>=◌, value_at, number_at, is_within}
use Rattle.cxl_topofile.specs.Drafts.{known_in, bridge_of, switch_of, endpoint_of}

-- ---- faults with their places

-- the fault of its cause at this place
abbrev pub by_cause : Cause → TableKey → TopoFault
by_cause causes.Missing place = faults.Key place
by_cause causes.Kind place = faults.Kind place
by_cause causes.Range place = faults.Range place

-- what is wrong in the table at this index of a section, as a fault
abbrev pub fault_at : Section → ℕ → Wrong → TopoFault
fault_at section index wrong = by_cause wrong.cause (record { section = section; index = index; key = wrong.key })

-- what was read, or the fault at its place
abbrev pub placed : {A : Type 0} → Section → ℕ → Result A Wrong → Result A TopoFault
placed section index (Ok x) = Ok x
placed section index (Err wrong) = Err (fault_at section index wrong)

-- what was returned, seen by view, is what reading gives, unless memory ran out
abbrev pub FailsAs : {A : Type 0} → TopoFault → Result A TopoFault → Type 0
FailsAs faults.Memory read = Unit {0}
FailsAs fault read = read ≡ Err fault

-- it is read as this is, seen so; or with a fault that is told as this one
abbrev pub Reads : {A B : Type 0} → (A → B) → Result A TopoFault → Result B TopoFault → Type 0
Reads view (Ok x) read = read ≡ Ok (view x)
Reads view (Err fault) read = FailsAs fault read

-- ---- the tables of one kind

-- the section in which a group stands
abbrev pub section_of : Group → Section
section_of groups.Switches = sections.Switch
section_of groups.Endpoints = sections.Endpoint

-- a node of a group, as its table says it
abbrev pub draft_of : Group → Members → Result Draft Wrong
draft_of groups.Switches = switch_of
draft_of groups.Endpoints = endpoint_of

-- what all tables from this index on state, or the fault of the first one that has a fault
unfoldable pub all_of : {A : Type 0} → Section → (Members → Result A Wrong) → ℕ → List Members → Result (List A) TopoFault
all_of section read index [] = Ok []
all_of section read index (first ∷ others) = do
  x ← placed section index (read first)
  xs ← all_of section read (index + 1) others
  Ok (x ∷ xs)

-- ---- the top table

-- each of them is a table
abbrev pub are_tables : Items → Bool
are_tables no_items = true
are_tables (item value rest) = is_some (as_table value) && are_tables rest

-- the tables among the items
abbrev pub tables_of : Items → List Members
tables_of no_items = []
tables_of (item (table members) rest) = members ∷ tables_of rest
tables_of (item value rest) = tables_of rest

-- an array of tables, the empty one where the key is missing
unfoldable pub tables_at : Members → Key → Result Items Wrong
tables_at top key = do
  items ← value_at as_array top key (Some no_items)
  if are_tables items then Ok items else Err (of_other_kind key)

-- the keys of the file
abbrev pub top_keys : List Key
top_keys = keys.Frames ∷ keys.Bridge ∷ keys.Switch ∷ keys.Endpoint ∷ []

-- the frames of a file that states none: 16 MiB
abbrev pub default_frames : ℕ
default_frames = 65536

-- what stands under the keys of the file
pub record Top : Type 0 where
  pub frames : ℕ
  pub bridges : Items
  pub switches : Items
  pub endpoints : Items

-- what stands under the keys of the file, or its first fault
unfoldable pub top_of : Members → Result Top Wrong
top_of top = do
  known ← known_in top top_keys
  frames ← number_at top keys.Frames (Some (pos default_frames)) (is_within 1 frame_limit)
  bridges ← tables_at top keys.Bridge
  switches ← tables_at top keys.Switch
  endpoints ← tables_at top keys.Endpoint
  Ok (record { frames = frames; bridges = bridges; switches = switches; endpoints = endpoints })

-- ---- the whole file

-- the bridges, the switches and endpoints before their parents are looked up, and the frames
pub record Stated : Type 0 where
  pub bridges : List Node
  pub drafts : List Draft
  pub frames : ℕ

-- what the top table states, or the first fault: its own first, then table by table
unfoldable pub stated_of : Members → Result Stated TopoFault
stated_of members = do
  top ← placed sections.Top 0 (top_of members)
  bridges ← all_of sections.Bridge bridge_of 0 (tables_of top.bridges)
  switches ← all_of sections.Switch switch_of 0 (tables_of top.switches)
  endpoints ← all_of sections.Endpoint endpoint_of 0 (tables_of top.endpoints)
  Ok (record { bridges = bridges; drafts = switches ++ endpoints; frames = top.frames })
