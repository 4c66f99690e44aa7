use Rattle.std.proofs.Common.{◌≡◌, ℕ, List, length, vec_len, IfOk, ap, subst, ◌∙◌}
use Rattle.std.specs.List.{filter_map}
use Rattle.std.specs.Option.{option_copied}
use Rattle.cxl_window.specs.Fields.{WindowFields}
use Rattle.cxl_window.specs.Windows.{cfmws_in, windows_of}
use Rattle.cxl_window.proofs.JudgedRecords.{windows_judged, windows_of_judged}
use Rattle.cxl_inputs.proofs.table_windows.text_windows.Goals as goal

pub windows_by-requires : goal.windows_by-requires
windows_by-requires c = record { few = rw c.judged.ensures.value c.judged.ensures.few.cfmws }

pub returns-clause-windows : goal.returns-clause-windows
returns-clause-windows c =
    let uids = option_copied c.args.uids in
    let same : windows_of c.judged.result.now uids ≡ windows_of c.args.table.now.records uids = ap (λ rs. windows_of rs uids) c.judged.ensures.value ∙ windows_of_judged c.args.table.now.records uids in
    subst (λ (vs : List WindowFields). IfOk c.windows_by.result (λ ws. ws.items ≡ vs)) same c.windows_by.ensures.windows

pub returns-clause-one_each : goal.returns-clause-one_each
returns-clause-one_each c =
    let same : length (filter_map cfmws_in c.judged.result.now) ≡ length (filter_map cfmws_in c.args.table.now.records) = ap (λ rs. length (filter_map cfmws_in rs)) c.judged.ensures.value ∙ ap length (windows_judged c.args.table.now.records) in
    subst (λ (n : ℕ). IfOk c.windows_by.result (λ ws. vec_len ws ≡ n)) same c.windows_by.ensures.one_each
