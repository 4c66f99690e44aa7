-- The records of a table that are judged by its types: which of a list they are, and where they begin.
use Rattle.std.specs.Prelude.{ℕ, ◌+◌, nat_le, Bool, if◌then◌else◌, List, [], ◌∷◌}
use Rattle.std.specs.List.{filter}
use Rattle.cxl_table.specs.Layout.{cxims_kind}
use Rattle.cxl_table.specs.declared.cedt.Record.{Record}
use Rattle.cxl_table.specs.Records.{kind_of, record_length}

-- it is of one of the three types that are judged
abbrev pub is_judged : Record → Bool
is_judged r = nat_le (kind_of r) cxims_kind

-- those of some records, in their order
abbrev pub judged_of : List Record → List Record
judged_of records = filter is_judged records

-- where these begin, in their order, among records of which the first begins at this place
abbrev pub judged_places : ℕ → List Record → List ℕ
judged_places at [] = []
judged_places at (r ∷ rs) =
    if is_judged r then at ∷ judged_places (at + record_length r) rs else judged_places (at + record_length r) rs
