-- The windows of a table as lines: each with its verdict by the bridges of a topology, and with what is behind the verdict (this
-- project's rule).
use Rattle.std.specs.Prelude.{◌≡◌, ℕ, ◌==◌, nat_lt, Bool, false, if◌then◌else◌, Option, Some, None, List, ◌++◌, length, codes, decimal}
use Rattle.std.specs.List.{filter_map, flat_map, list_any, zip}
use Rattle.std.specs.Option.{option_map}
use Rattle.cxl_enc.specs.Codes.{bits_of}
use Rattle.cxl_table.specs.CedtFields.{CedtFields}
use Rattle.cxl_table.specs.declared.cedt.Record.{Record}
use Rattle.cxl_table.specs.declared.cedt.Record.TheVariants.{Chbs, Cfmws, Cxims, Other}
use Rattle.cxl_topo.specs.Tree.{Tree, bridge_uids}
use Rattle.cxl_window.specs.Fields.{WindowFields}
use Rattle.cxl_window.specs.Windows.{is_cxl2_bridge, maps_in, windows_of}
use Rattle.cxl_window.specs.declared.window.Verdict.{Verdict}
use Rattle.cxl_window.specs.declared.window.Verdict.TheVariants.{Usable, Align, Size, TooHigh, Overlap, Target, Repeat, Maps}
use Rattle.cxl_reply.specs.Words.{line, hex_text, gran_text}
use Rattle.cxl_reply.specs.Plans.{ports_text}
use Rattle.cxl_inputs.specs.Given.{SpellNoTable, StandForNoTree}
use Rattle.cxl_inputs.specs.Outcome.{Outcome}
use Rattle.cxl_inputs.specs.Table.{IsReading}
use Rattle.cxl_inputs.specs.Topology.{IsTreeReading}
use Rattle.cxl_reads.specs.Answers.{told, table_name, topology_name}
use Rattle.cxl_reads.specs.Decoders.{bit_text}

-- ---- what a table holds

-- the QoS throttling group of a window's record
abbrev pub group_in : Record → Option ℕ
group_in (Chbs c) = None
group_in (Cfmws c) = Some c.qtg
group_in (Cxims c) = None
group_in (Other c) = None

-- the record of a host bridge of this UID, of whichever version
abbrev pub is_bridge_of : ℕ → Record → Bool
is_bridge_of uid (Chbs c) = c.uid == uid
is_bridge_of uid (Cfmws c) = false
is_bridge_of uid (Cxims c) = false
is_bridge_of uid (Other c) = false

-- ---- parts of lines

-- the range of a window
unfoldable pub span_text : WindowFields → List ℕ
span_text w = codes "window " ++ decimal w.index ++ codes " base " ++ hex_text w.base ++ codes " size " ++ hex_text w.size

-- how it interleaves: its ways, its granularity in bytes, and whether by XOR
unfoldable pub dealing_text : WindowFields → List ℕ
dealing_text w = codes " ways " ++ decimal w.ways ++ codes " gran " ++ gran_text w.gran ++ bit_text (codes " xor") w.xor

-- its restriction bits and its throttling group
unfoldable pub policy_text : ℕ → ℕ → List ℕ
policy_text restrict group = codes " restrict " ++ hex_text restrict ++ codes " qtg " ++ decimal group

-- The first that holds of a target which is no bridge: the topology has none of this UID, though the table has; the table has one, but
-- none of CXL 2.0; it has none at all.
abbrev pub missing_text : List Record → ℕ → List ℕ
missing_text records uid =
    if list_any (is_cxl2_bridge uid) records then codes "no-bridge"
    else (if list_any (is_bridge_of uid) records then codes "no-cxl2" else codes "no-chbs")

-- why the maps of a granularity, by how many there are where there are any, do not serve a window that needs so many
abbrev pub lacking_text : Option ℕ → ℕ → List ℕ
lacking_text None needed = codes "no-cxims"
lacking_text (Some count) needed =
    if nat_lt count needed then codes "few " ++ decimal count ++ codes " " ++ decimal needed else codes "unfit"

-- whether a window can be used, and else the first cause, with what it names and what is behind it
abbrev pub verdict_text : List Record → WindowFields → Verdict → List ℕ
verdict_text records w Usable = codes "usable"
verdict_text records w Align = codes "align"
verdict_text records w Size = codes "size"
verdict_text records w TooHigh = codes "too-high"
verdict_text records w (Overlap index) = codes "overlap " ++ decimal index
verdict_text records w (Target uid) = codes "target " ++ decimal uid ++ codes " " ++ missing_text records uid
verdict_text records w (Repeat uid) = codes "repeat " ++ decimal uid
verdict_text records w Maps = codes "maps " ++ lacking_text (option_map length (maps_in w.gran records)) (bits_of w.ways)

-- its targets by their UIDs, with a comma between as ports are told, and its verdict
unfoldable pub use_text : List Record → WindowFields → List ℕ
use_text records w = codes " targets " ++ ports_text w.targets ++ codes " verdict " ++ verdict_text records w w.verdict

-- ---- lines

-- the line of a window of a table, with the throttling group of its record
abbrev pub seen_line : List Record → WindowFields × ℕ → List ℕ
seen_line records (w, group) = line (span_text w ++ dealing_text w ++ policy_text w.restrict group ++ use_text records w)

-- a line for each window in table order, as the bridges of these UIDs let it be used
abbrev pub windows_text : List Record → List ℕ → List ℕ
windows_text records bridges = flat_map (seen_line records) (zip (windows_of records (Some bridges)) (filter_map group_in records))

-- ---- what telling them comes to

-- the first of the files that has no reading, or a line for each window of the table, as the bridges of the tree let it be used
pub data AreWindows (cedt topo : List ℕ) (outcome : Outcome) : Type 0 where
  no_table : SpellNoTable table_name cedt outcome → AreWindows cedt topo outcome
  no_tree : (table : CedtFields) → IsReading cedt table → StandForNoTree topology_name topo outcome → AreWindows cedt topo outcome
  windows : (table : CedtFields) (tree : Tree) → IsReading cedt table → IsTreeReading topo tree → outcome ≡ told (windows_text table.records (bridge_uids tree.nodes)) → AreWindows cedt topo outcome
