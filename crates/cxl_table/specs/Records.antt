-- Records in a row: their types, their lengths, and how many of each type there are.
use Rattle.std.specs.Prelude.{ℕ, ◌+◌, ◌*◌, ◌≤◌, nat_le, ◌==◌, ◌&&◌, Bool, List, length, sum_by, count_by}
use Rattle.cxl_table.specs.Layout.{chbs_kind, cfmws_kind, cxims_kind, kind_limit, header_size, frame_size, chbs_size, window_front_size, maps_front_size}
use Rattle.cxl_table.specs.declared.cedt.Record.{Record}
use Rattle.cxl_table.specs.declared.cedt.Record.TheVariants.{Chbs, Cfmws, Cxims, Other}

-- the type of a record
abbrev pub kind_of : Record → ℕ
kind_of (Chbs c) = chbs_kind
kind_of (Cfmws c) = cfmws_kind
kind_of (Cxims c) = cxims_kind
kind_of (Other c) = c.kind

-- how many bytes spell a record
abbrev pub record_length : Record → ℕ
record_length (Chbs c) = chbs_size
record_length (Cfmws c) = window_front_size + 4 * length c.targets
record_length (Cxims c) = maps_front_size + 8 * length c.maps
record_length (Other c) = frame_size + length c.body

-- how many bytes spell the table
abbrev pub table_length : List Record → ℕ
table_length records = header_size + sum_by record_length records

-- how many records of a type there are
abbrev pub count_of : ℕ → List Record → ℕ
count_of kind records = count_by (λ r. kind_of r == kind) records

-- as many of a judged type as there may be
abbrev pub is_kind_full : ℕ → List Record → Bool
is_kind_full kind records = nat_le kind cxims_kind && (count_of kind records == kind_limit)

-- no more of each judged type than there may be
pub record HasFewOfEach (records : List Record) : Type 0 where
  pub chbs : count_of chbs_kind records ≤ kind_limit
  pub cfmws : count_of cfmws_kind records ≤ kind_limit
  pub cxims : count_of cxims_kind records ≤ kind_limit
