-- The text of `list`: a line for each record of a table, in table order.
use Rattle.std.specs.Prelude.{ℕ, ◌+◌, Bool, if◌then◌else◌, None, List, [], ◌∷◌, ◌++◌, length, codes, decimal}
use Rattle.std.specs.List.{filter_map, flat_map}
use Rattle.cxl_table.specs.declared.chbs.Chbs as chbs
use Rattle.cxl_table.specs.declared.cedt.Record.{Record}
use Rattle.cxl_table.specs.declared.cedt.Record.TheVariants.{Chbs, Cfmws, Cxims, Other}
use Rattle.cxl_table.specs.Fields.{CximsFields, OtherFields}
use Rattle.cxl_io.specs.Printed.{padded_hex}
use Rattle.cxl_window.specs.Fields.{WindowFields}
use Rattle.cxl_window.specs.Windows.{cfmws_in, window_of}
use Rattle.cxl_window.specs.declared.window.Verdict.{Verdict}
use Rattle.cxl_window.specs.declared.window.Verdict.TheVariants.{Usable, Align, Size, TooHigh, Overlap, Target, Repeat, Maps}
use Rattle.cxl_reply.specs.Plans.{ports_text}
use Rattle.cxl_reply.specs.Words.{line, hex_text, gran_text}

-- ---- parts of lines

-- XOR maps, each behind a comma
abbrev pub more_maps_text : List ℕ → List ℕ
more_maps_text maps = flat_map (λ map. codes "," ++ hex_text map) maps

-- XOR maps, separated by commas, or the word for none
abbrev pub maps_text : List ℕ → List ℕ
maps_text [] = codes "none"
maps_text (map ∷ maps) = hex_text map ++ more_maps_text maps

-- whether a window interleaves by XOR or modulo
abbrev pub arithmetic_text : Bool → List ℕ
arithmetic_text xor = if xor then codes "xor" else codes "modulo"

-- whether a window can be used, and else the first cause with what it names
abbrev pub verdict_text : Verdict → List ℕ
verdict_text Usable = codes "usable"
verdict_text Align = codes "align"
verdict_text Size = codes "size"
verdict_text TooHigh = codes "too-high"
verdict_text (Overlap index) = codes "overlap " ++ decimal index
verdict_text (Target uid) = codes "target " ++ decimal uid
verdict_text (Repeat uid) = codes "repeat " ++ decimal uid
verdict_text Maps = codes "maps"

-- which bridge it is
unfoldable pub bridge_text : chbs.Chbs → List ℕ
bridge_text c = codes "chbs " ++ decimal c.uid ++ codes " version " ++ decimal c.version

-- the range of its registers
unfoldable pub registers_text : chbs.Chbs → List ℕ
registers_text c = codes " base " ++ hex_text c.base ++ codes " length " ++ hex_text c.length

-- the range of a window
unfoldable pub range_text : WindowFields → List ℕ
range_text w = codes "window " ++ decimal w.index ++ codes " base " ++ hex_text w.base ++ codes " size " ++ hex_text w.size

-- how a window interleaves
unfoldable pub interleave_text : WindowFields → List ℕ
interleave_text w = codes " ways " ++ decimal w.ways ++ codes " gran " ++ gran_text w.gran ++ codes " " ++ arithmetic_text w.xor

-- restriction bits, always four digits
unfoldable pub restrict_text : ℕ → List ℕ
restrict_text restrict = codes "0x" ++ padded_hex restrict 4

-- the restrictions, and the QoS throttling group
unfoldable pub policy_text : ℕ → ℕ → List ℕ
policy_text restrict qtg = codes " restrict " ++ restrict_text restrict ++ codes " qtg " ++ decimal qtg

-- the targets, and whether the window can be used
unfoldable pub use_text : WindowFields → List ℕ
use_text w = codes " targets " ++ ports_text w.targets ++ codes " " ++ verdict_text w.verdict

-- ---- the line of a record

-- a host bridge with its registers
abbrev pub chbs_line : chbs.Chbs → List ℕ
chbs_line c = line (bridge_text c ++ registers_text c)

-- a window with its verdict, and the throttling group of its record
abbrev pub window_line : WindowFields → ℕ → List ℕ
window_line w qtg = line (range_text w ++ interleave_text w ++ policy_text w.restrict qtg ++ use_text w)

-- XOR maps with the granularity that they are for
abbrev pub cxims_line : CximsFields → List ℕ
cxims_line c = line (codes "cxims gran " ++ gran_text c.gran ++ codes " maps " ++ maps_text c.maps)

-- the type, and the length of the whole record, which has these bytes behind its length
abbrev pub other_text : ℕ → List ℕ → List ℕ
other_text kind body = line (codes "other " ++ decimal kind ++ codes " length " ++ decimal (4 + length body))

-- a record of a type that is not read
abbrev pub other_line : OtherFields → List ℕ
other_line c = other_text c.kind c.body

-- the line of a record of a table, `before` being the records before it: a window is judged behind the windows before it
unfoldable pub record_line : List Record → List Record → Record → List ℕ
record_line table before (Chbs c) = chbs_line c
record_line table before (Cfmws c) = window_line (window_of table None (filter_map cfmws_in before) c) c.qtg
record_line table before (Cxims c) = cxims_line c
record_line table before (Other c) = other_line c

-- ---- the lines of a table

-- the lines of records of a table, behind those before them
abbrev pub lines_behind : List Record → List Record → List Record → List (List ℕ)
lines_behind table before [] = []
lines_behind table before (r ∷ rs) = record_line table before r ∷ lines_behind table (before ++ r ∷ []) rs

-- a line for each record
abbrev pub list_lines : List Record → List (List ℕ)
list_lines table = lines_behind table [] table
