-- The windows of a table with their verdicts (CFMWS and CXIMS fields; the verdicts are this project's rule).
use Rattle.std.specs.Prelude.{◌≡◌, ℕ, ◌+◌, ◌-◌, ◌*◌, ◌%◌, ◌<◌, ◌≤◌, min, max, nat_lt, ◌==◌, ◌&&◌, ◌||◌, not, Bool, true, false, if◌then◌else◌, List, [], ◌∷◌, ◌++◌, length, take, replicate, position, find, Contains, slice_get, All, Option, Some, None, unwrap_or}
use Rattle.std.specs.List.{filter_map, list_any}
use Rattle.std.specs.Option.{option_map, option_map_or}
use Rattle.cxl_enc.specs.Codes.{ways_of, bits_of}
use Rattle.cxl_table.specs.Fields.{CfmwsFields, CximsFields}
use Rattle.cxl_table.specs.declared.cedt.Record.{Record}
use Rattle.cxl_table.specs.declared.cedt.Record.TheVariants.{Chbs, Cfmws, Cxims, Other}
use Rattle.cxl_window.specs.declared.window.Verdict.{Verdict}
use Rattle.cxl_window.specs.declared.window.Verdict.TheVariants.{Usable, Align, Size, TooHigh, Overlap, Target, Repeat, Maps}
use Rattle.cxl_enc.specs.Limits.{unit, address_limit}
use Rattle.cxl_num.specs.Maps.{are_usable_maps}
use Rattle.cxl_window.specs.Fields.{WindowFields, IsWindow, IsUsable}

-- ---- the table's records

-- the window's record, where it is one
abbrev pub cfmws_in : Record → Option CfmwsFields
cfmws_in (Chbs c) = None
cfmws_in (Cfmws c) = Some c
cfmws_in (Cxims c) = None
cfmws_in (Other c) = None

-- a CXL 2.0 bridge of this UID
abbrev pub is_cxl2_bridge : ℕ → Record → Bool
is_cxl2_bridge uid (Chbs c) = (c.uid == uid) && (c.version == 1)
is_cxl2_bridge uid (Cfmws c) = false
is_cxl2_bridge uid (Cxims c) = false
is_cxl2_bridge uid (Other c) = false

-- the record of XOR maps, where it is one
abbrev pub cxims_in : Record → Option CximsFields
cxims_in (Chbs c) = None
cxims_in (Cfmws c) = None
cxims_in (Cxims c) = Some c
cxims_in (Other c) = None

-- the maps of the first CXIMS of a granularity code
abbrev pub first_maps : ℕ → List CximsFields → Option (List ℕ)
first_maps gran tables = option_map (λ c. c.maps) (find (λ c. c.gran == gran) tables)

-- the maps of the first record for this granularity
abbrev pub maps_in : ℕ → List Record → Option (List ℕ)
maps_in gran records = first_maps gran (filter_map cxims_in records)

-- ---- one window

-- the ways of a window's record
abbrev pub cfmws_ways : CfmwsFields → ℕ
cfmws_ways c = unwrap_or (ways_of c.ways) 0

-- two ranges of these bases and sizes hold an address in common, their ends as whole numbers
abbrev pub ranges_meet : ℕ → ℕ → ℕ → ℕ → Bool
ranges_meet base size other_base other_size = nat_lt (max base other_base) (min (base + size) (other_base + other_size))

-- two windows share an address
abbrev pub overlaps : CfmwsFields → CfmwsFields → Bool
overlaps c d = ranges_meet c.base c.size d.base d.size

-- the topology has a bridge of this UID, where there is a topology
abbrev pub topology_has : Option (List ℕ) → ℕ → Bool
topology_has None uid = true
topology_has (Some uids) uid = list_any (λ u. u == uid) uids

-- a target that the table does not have as a CXL 2.0 bridge, or that the topology lacks
abbrev pub is_missing : List Record → Option (List ℕ) → ℕ → Bool
is_missing records uids uid = not (list_any (is_cxl2_bridge uid) records) || not (topology_has uids uid)

-- the first target that stands earlier in the list, behind those that stand before it
abbrev pub first_repeat : List ℕ → List ℕ → Option ℕ
first_repeat before [] = None
first_repeat before (u ∷ us) = if list_any (λ v. v == u) before then Some u else first_repeat (before ++ u ∷ []) us

-- under XOR, the maps that the window needs are not among those of its granularity
abbrev pub lacks_maps : Option (List ℕ) → CfmwsFields → Bool
lacks_maps maps c =
    let k = bits_of (cfmws_ways c) in
    c.xor && nat_lt 0 k && not (are_usable_maps c.gran k (unwrap_or maps []))

-- The first verdict that holds of a window, by the earlier window that it overlaps, the target that is missing, and
-- the maps of its granularity, where there are any.
abbrev pub first_verdict : Option ℕ → Option ℕ → Option (List ℕ) → CfmwsFields → Verdict
first_verdict overlapped missing maps c =
    if not (c.base % unit == 0) then Align
    else (if (c.size == 0) || not (c.size % (unit * cfmws_ways c) == 0) then Size
    else (if nat_lt address_limit (c.base + c.size) then TooHigh
    else option_map_or Overlap overlapped
    (option_map_or Target missing
    (option_map_or Repeat (first_repeat [] c.targets)
    (if lacks_maps maps c then Maps else Usable)))))

-- the first verdict that holds of a window behind those before it in the table (the verdicts and their order are this
-- project's rule)
abbrev pub verdict_of : List Record → Option (List ℕ) → List CfmwsFields → CfmwsFields → Verdict
verdict_of records uids before c =
    first_verdict (position (overlaps c) before) (find (is_missing records uids) c.targets) (maps_in c.gran records) c

-- four maps: those that an XOR window uses, and zeros
abbrev pub maps_of : Option (List ℕ) → CfmwsFields → List ℕ
maps_of maps c =
    let used = if c.xor then take (bits_of (cfmws_ways c)) (unwrap_or maps []) else [] in
    used ++ replicate (4 - length used) 0

-- the window of a record with its index, its maps and its verdict
abbrev pub window_with : ℕ → List ℕ → Verdict → CfmwsFields → WindowFields
window_with index maps verdict c = record {
  index = index;
  base = c.base;
  size = c.size;
  ways = cfmws_ways c;
  gran = c.gran;
  xor = c.xor;
  maps = maps;
  restrict = c.restrict;
  targets = c.targets;
  verdict = verdict;
}

-- a window as it is told, behind those before it in the table
abbrev pub window_of : List Record → Option (List ℕ) → List CfmwsFields → CfmwsFields → WindowFields
window_of records uids before c =
    window_with (length before) (maps_of (maps_in c.gran records) c) (verdict_of records uids before c) c

-- ---- the windows in table order

-- the windows of records, behind those before them
abbrev pub windows_from : List Record → Option (List ℕ) → List CfmwsFields → List CfmwsFields → List WindowFields
windows_from records uids before [] = []
windows_from records uids before (c ∷ cs) = window_of records uids before c ∷ windows_from records uids (before ++ c ∷ []) cs

-- each window of a table, with its verdict
abbrev pub windows_of : List Record → Option (List ℕ) → List WindowFields
windows_of records uids = windows_from records uids [] (filter_map cfmws_in records)

-- ---- windows made with a topology's bridges

-- two usable ones share no address
abbrev pub AreApart : WindowFields → WindowFields → Type 0
AreApart w v =
    (h : ℕ) → w.verdict ≡ Usable → v.verdict ≡ Usable → w.base ≤ h → h < w.base + w.size
    → v.base ≤ h → h < v.base + v.size → w.index ≡ v.index

-- Windows as they are made with a topology's bridges: each is a window; each usable one is aligned, below 2 ^ 52, without a
-- repeated target and with its maps, its targets are bridges, and usable ones share no address.
pub record AreMadeWith (windows : List WindowFields) (bridges : List ℕ) : Type 0 where
  pub each : All IsWindow windows
  pub indexed : (i : ℕ) (w : WindowFields) → slice_get windows i ≡ Some w → w.index ≡ i
  pub usable : All (λ w. w.verdict ≡ Usable → IsUsable w × All (λ u. Contains bridges u) w.targets) windows
  pub apart : (w v : WindowFields) → Contains windows w → Contains windows v → AreApart w v
