-- What windows are judged against, as the code holds it, and what it makes of that.
use Rattle.std.specs.Prelude.{◌≡◌, ℕ, ◌==◌, ◌&&◌, not, Bool, if◌then◌else◌, List, [], ◌∷◌, map, length, find, position, Option}
use Rattle.std.specs.Borrow.{Bor}
use Rattle.std.specs.List.{list_any, flat_map, filter_map}
use Rattle.cxl_table.specs.Fields.{CfmwsFields, CximsFields}
use Rattle.cxl_table.specs.declared.cedt.Record.{Record}
use Rattle.cxl_table.specs.declared.cedt.Record.TheVariants.{Chbs, Cfmws, Cxims, Other}
use Rattle.cxl_window.specs.declared.judge.Judge.{Judge}
use Rattle.cxl_window.specs.declared.window.Verdict.{Verdict}
use Rattle.cxl_window.specs.Fields.{WindowFields}
use Rattle.cxl_window.specs.Windows.{cfmws_in, cxims_in, topology_has, first_maps, maps_of, first_verdict, ranges_meet, window_with}

-- none of the bridges has the UID
abbrev pub is_no_bridge : List ℕ → ℕ → Bool
is_no_bridge bridges uid = not (list_any (λ b. b == uid) bridges)

-- the UID of a record that is a bridge of CXL 2.0, one of the topology's where there is one
abbrev pub bridges_in : Option (List ℕ) → Record → List ℕ
bridges_in uids (Chbs c) = if (c.version == 1) && topology_has uids c.uid then c.uid ∷ [] else []
bridges_in uids (Cfmws c) = []
bridges_in uids (Cxims c) = []
bridges_in uids (Other c) = []

-- the tables that the references point to
abbrev pub tables_behind : List (Bor CximsFields) → List CximsFields
tables_behind tables = map (λ c. c.now) tables

-- the windows' records that the references point to
abbrev pub windows_behind : List (Bor CfmwsFields) → List CfmwsFields
windows_behind windows = map (λ c. c.now) windows

-- the judge has the bridges that can be targets, the tables of maps and the windows' records, each in their order
pub record IsJudgeOf (judge : Judge) (records : List Record) (uids : Option (List ℕ)) : Type 0 where
  pub bridges : judge.bridges.items ≡ flat_map (bridges_in uids) records
  pub tables : tables_behind judge.tables.items ≡ filter_map cxims_in records
  pub windows : windows_behind judge.windows.items ≡ filter_map cfmws_in records

-- the maps of a granularity code
abbrev pub maps_known : Judge → ℕ → Option (List ℕ)
maps_known judge gran = first_maps gran (tables_behind judge.tables.items)

-- the verdict of a window behind those before it, and the window with it
abbrev pub verdict_by : Judge → List WindowFields → CfmwsFields → Verdict
verdict_by judge before c =
    first_verdict (position (λ w. ranges_meet c.base c.size w.base w.size) before)
    (find (is_no_bridge judge.bridges.items) c.targets) (maps_known judge c.gran) c

-- a window as the judge sees it, behind those before it
abbrev pub window_by : Judge → List WindowFields → CfmwsFields → WindowFields
window_by judge before c = window_with (length before) (maps_of (maps_known judge c.gran) c) (verdict_by judge before c) c
