use Rattle.std.proofs.Common.{◌≡◌, ◌<◌, ℕ, List, ◌++◌, length, get_or, sym, subst, arith}
use Rattle.std.proofs.lemmas.List.{get_or_default}
use Rattle.cxl_window.specs.Fields.{WindowFields}
use Rattle.cxl_reads.specs.Windows.{seen_line}
use Rattle.cxl_text.proofs.Lines.{pair_step}
use Rattle.cxl_reads.proofs.of_windows.put_windows.Goals as goal

pub loop-i-preserved : goal.loop-i-preserved
loop-i-preserved c =
    let groups : List ℕ = c.args.groups.now in
    let i : ℕ = c.loop-i.i in
    let group : ℕ = get_or groups i 0 in
    let within : i < length groups = omega (arith, c.loop-i-test.true, c.requires) in
    pair_step (seen_line c.args.records.now) c.args.windows.now groups i c.index-windows-i.result group _ _ _ c.loop-i-test.true within
    (sym (get_or_default groups i group 0 within)) c.loop-i.invariant
    (subst (λ (w : WindowFields). c.put_window_line.new.out.items ≡ c.loop-i.out.items ++ seen_line c.args.records.now (w, group)) c.index-windows-i.is
    c.in_ok-put_window_line.ensures)
