-- The throttling groups of a table's windows.
use Rattle.std.proofs.Common.{◌≡◌, ℕ, List, [], ◌∷◌, length, suc, Some, refl, ap, ◌∙◌}
use Rattle.std.specs.List.{filter_map}
use Rattle.cxl_table.specs.declared.cedt.Record.{Record}
use Rattle.cxl_table.specs.declared.cedt.Record.TheVariants.{Chbs, Cfmws, Cxims, Other}
use Rattle.cxl_window.proofs.WindowLists.{length-windows_of}
use Rattle.cxl_window.specs.Windows.{cfmws_in, windows_of}
use Rattle.cxl_reads.specs.Windows.{group_in}

as_many : (records : List Record) → length (filter_map cfmws_in records) ≡ length (filter_map group_in records)
as_many [] = refl
as_many (Chbs c ∷ rs) = as_many rs
as_many (Cfmws c ∷ rs) = ap suc (as_many rs)
as_many (Cxims c ∷ rs) = as_many rs
as_many (Other c ∷ rs) = as_many rs

-- one for each window
pub group_each : (records : List Record) (bridges : List ℕ) → length (windows_of records (Some bridges)) ≡ length (filter_map group_in records)
group_each records bridges = length-windows_of records (Some bridges) ∙ as_many records
