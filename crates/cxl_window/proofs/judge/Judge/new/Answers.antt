use Rattle.std.proofs.Common.{List, [], ◌++◌, ℕ, sym, ap, ◌∙◌}
use Rattle.std.specs.List.{cons_option}
use Rattle.std.specs.Option.{option_copied}
use Rattle.cxl_table.specs.Fields.{CfmwsFields, CximsFields}
use Rattle.cxl_window.specs.Judging.{bridges_in, tables_behind, windows_behind}
use Rattle.cxl_window.specs.Windows.{cfmws_in, cxims_in}
use Rattle.cxl_window.proofs.FilterMaps.{filter_map_more, flat_map_one_more}
use Rattle.cxl_window.proofs.judge.Judge.new.Goals as goal

pub loop-record-init : goal.loop-record-init
loop-record-init c = record { bridges = c.new.ensures.items; tables = ap tables_behind c.new-2.ensures.items; windows = ap windows_behind c.new-3.ensures.items }

pub loop-record-preserved : goal.loop-record-preserved
loop-record-preserved c =
    let records = c.args.records.now in
    let uids = option_copied c.args.uids in
    let i = c.loop-record.record-index in
    let item = c.record-item.result in
    let there = c.loop-record-test.true in
    let so_far = c.loop-record.invariant in
    let added = c.in_ok-add.ensures in
    record {
      bridges = added.bridges ∙ ap (λ (bs : List ℕ). bs ++ bridges_in uids item) so_far.bridges ∙ sym (flat_map_one_more records i item there c.record-item.is (bridges_in uids));
      tables = added.tables ∙ ap (λ (ts : List CximsFields). ts ++ cons_option (cxims_in item) []) so_far.tables ∙ sym (filter_map_more records i item there c.record-item.is cxims_in);
      windows = added.windows ∙ ap (λ (ws : List CfmwsFields). ws ++ cons_option (cfmws_in item) []) so_far.windows ∙ sym (filter_map_more records i item there c.record-item.is cfmws_in);
    }
