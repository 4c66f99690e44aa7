-- What was read, without where it lies in memory.
use Rattle.std.specs.Prelude.{◌≡◌, ℕ, ◌≤◌, Bool, IsTrue, is_some, List, [], ◌∷◌, ◌++◌, Some, Result, Ok, Err}
use Rattle.cxl_enc.specs.Limits.{frame_limit}
use Rattle.toml.specs.Data.{Members, as_table}
use Rattle.toml.specs.View.{view, items_view}
use Rattle.toml.specs.declared.value.Value.{Value}
use Rattle.cxl_topofile.specs.declared.stated.Top.{Top as TopRead}
use Rattle.cxl_topofile.specs.declared.stated.Stated.{Stated as StatedRead}
use Rattle.cxl_topofile.specs.declared.fault.Section.{Section}
use Rattle.cxl_topofile.specs.declared.fault.Wrong.{Wrong}
use Rattle.cxl_topofile.specs.declared.fault.TopoFault.{TopoFault}
use Rattle.cxl_topofile.specs.Groups.{Top, Stated, are_tables, placed, FailsAs}

-- a value of a TOML file is a table
abbrev pub is_table : Value → Bool
is_table value = is_some (as_table (view value))

-- what a file's top says, as it was read
abbrev pub seen_top : TopRead → Top
seen_top top = record {
  frames = top.frames;
  bridges = items_view top.bridges.now;
  switches = items_view top.switches.now;
  endpoints = items_view top.endpoints.now;
}

-- its frames are within their limits, and its arrays hold tables alone
pub record IsTop (top : TopRead) : Type 0 where
  pub some : 1 ≤ top.frames
  pub few : top.frames ≤ frame_limit
  pub bridges : IsTrue (are_tables (items_view top.bridges.now))
  pub switches : IsTrue (are_tables (items_view top.switches.now))
  pub endpoints : IsTrue (are_tables (items_view top.endpoints.now))

-- what a file states, as it was read
abbrev pub seen_stated : StatedRead → Stated
seen_stated stated = record { bridges = stated.bridges.items; drafts = stated.drafts.items; frames = stated.frames }

-- what a table states goes to the end, or its fault is answered
abbrev pub Adds : {A : Type 0} → List A → List A → Result (Unit {0}) TopoFault → Result A TopoFault → Type 0
Adds {A} old new (Ok done) read = (x : A) × (read ≡ Ok x) × (new ≡ old ++ x ∷ [])
Adds old new (Err fault) read = FailsAs fault read

-- the same of the table at an index of its section
abbrev pub AddsTable : {A : Type 0} → List A → List A → Result (Unit {0}) TopoFault → Section → (Members → Result A Wrong) → ℕ → Value → Type 0
AddsTable old new result section read index value = (table : Members) × (as_table (view value) ≡ Some table) × Adds old new result (placed section index (read table))
