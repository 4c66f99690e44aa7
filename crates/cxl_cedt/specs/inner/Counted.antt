-- What the reader keeps of the records before the one that it reads.
use Rattle.std.specs.Prelude.{◌≡◌, ℕ, List, [], ◌∷◌}
use Rattle.cxl_table.specs.Layout.{chbs_kind, cfmws_kind, cxims_kind}
use Rattle.cxl_table.specs.declared.cedt.Record.{Record}
use Rattle.cxl_table.specs.Records.{count_of, HasFewOfEach}

-- the counts of the judged types, each at the place of its type, and none of them too many
pub record IsCounted (records : List Record) (counts : List ℕ) : Type 0 where
  pub counted : counts ≡ count_of chbs_kind records ∷ count_of cfmws_kind records ∷ count_of cxims_kind records ∷ []
  pub few : HasFewOfEach records
