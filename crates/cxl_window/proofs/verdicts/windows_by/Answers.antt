use Rattle.std.proofs.Common.{◌≡◌, List, [], length, take, Some, refl, sym, ap, subst, ◌∙◌}
use Rattle.std.specs.Prelude.{All}
use Rattle.std.proofs.lemmas.List.Elements.{All-nil, All-push}
use Rattle.std.specs.Option.{option_copied}
use Rattle.cxl_window.specs.Fields.{WindowFields, IsWindow}
use Rattle.cxl_window.specs.Judging.{tables_behind, windows_behind}
use Rattle.cxl_window.specs.Windows.{windows_of, AreMadeWith}
use Rattle.cxl_window.proofs.BridgeLists.{no_bridge_missing}
use Rattle.cxl_window.proofs.WindowLists.{windows_from-next, length-windows_from, window_of-judged, few_taken, behind_more, windows_at_end, length-windows_of}
use Rattle.cxl_window.proofs.MadeWith.{windows_made}
use Rattle.cxl_window.proofs.verdicts.windows_by.Goals as goal

pub loop-cfmws-init : goal.loop-cfmws-init
loop-cfmws-init c = rw c.new-windows.ensures.items (record { are = refl; windows = All-nil IsWindow })

pub window-requires : goal.window-requires
window-requires c =
    let records = c.args.records.now in
    let uids = option_copied c.args.uids in
    let i = c.loop-cfmws.cfmws-index in
    let items = c.deref-cfmws-items.result.now in
    let judge = c.in_ok-judge.ensures in
    let are = ap windows_behind c.deref-cfmws-items.ensures.value ∙ judge.windows in
    let few = few_taken records (windows_behind items) i are c.requires.few in
    let same = ap length c.loop-cfmws.invariant.are ∙ length-windows_from records uids [] (take i (windows_behind items)) in
    record { few = rw (c.deref.ensures.value, same) few }

pub loop-cfmws-preserved : goal.loop-cfmws-preserved
loop-cfmws-preserved c =
    let records = c.args.records.now in
    let uids = option_copied c.args.uids in
    let i = c.loop-cfmws.cfmws-index in
    let items = c.deref-cfmws-items.result.now in
    let front = take i (windows_behind items) in
    let cfmws = c.cfmws-item.result.now in
    let ws = c.loop-cfmws.windows.items in
    let w = c.in_ok-window.window in
    let held = c.in_ok-judge.judge in
    let judge = c.in_ok-judge.ensures in
    let more = behind_more items i c.cfmws-item.result c.loop-cfmws-test.true c.cfmws-item.is in
    let window_is =
    window_of-judged records uids front cfmws ws held.bridges.items (tables_behind held.tables.items) w
    c.loop-cfmws.invariant.are (no_bridge_missing records uids held.bridges.items judge.bridges) judge.tables (rw c.deref.ensures.value at c.in_ok-window.ensures.value) in
    rw c.in_ok-push.ensures.items (record {
      are = windows_from-next records uids front _ cfmws ws w c.loop-cfmws.invariant.are window_is more;
      windows = All-push IsWindow ws w c.loop-cfmws.invariant.windows c.in_ok-window.ensures.window;
    })

pub returns-clause-windows : goal.returns-clause-windows
returns-clause-windows c =
    let are = ap windows_behind c.deref-cfmws-items.ensures.value ∙ c.in_ok-judge.ensures.windows in
    windows_at_end c.args.records.now (option_copied c.args.uids) c.deref-cfmws-items.result.now c.loop-cfmws.cfmws-index c.loop-cfmws.windows.items are c.loop-cfmws-test.false c.loop-cfmws.invariant.are

pub returns-clause-one_each : goal.returns-clause-one_each
returns-clause-one_each c =
    let table = c.args.records.now in
    let uids = option_copied c.args.uids in
    let ws = c.loop-cfmws.windows in
    let judge = c.in_ok-judge.ensures in
    let are = ap windows_behind c.deref-cfmws-items.ensures.value ∙ judge.windows in
    let all = windows_at_end table uids c.deref-cfmws-items.result.now c.loop-cfmws.cfmws-index ws.items are c.loop-cfmws-test.false c.loop-cfmws.invariant.are in
    ws.ok.0 ∙ ap length all ∙ length-windows_of table uids

pub returns-clause-made : goal.returns-clause-made
returns-clause-made c = λ bridges given.
    let table = c.args.records.now in
    let uids = option_copied c.args.uids in
    let ws = c.loop-cfmws.windows.items in
    let judge = c.in_ok-judge.ensures in
    let are = ap windows_behind c.deref-cfmws-items.ensures.value ∙ judge.windows in
    let all = windows_at_end table uids c.deref-cfmws-items.result.now c.loop-cfmws.cfmws-index ws are c.loop-cfmws-test.false c.loop-cfmws.invariant.are in
    let same : ws ≡ windows_of table (Some bridges) = all ∙ ap (windows_of table) given in
    subst (λ (vs : List WindowFields). AreMadeWith vs bridges) (sym same)
    (windows_made table bridges (subst (All IsWindow) same c.loop-cfmws.invariant.windows))
