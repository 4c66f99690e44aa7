use Rattle.std.proofs.Common.{◌≡◌, None, Some, sym, subst}
use Rattle.std.specs.FinMap.{get}
use Rattle.cxl_media.specs.Table.{frames_in}
use Rattle.cxl_media.specs.Index.{Table}
use Rattle.cxl_media.proofs.Indexed.{stop_found, stop_nothing}
use Rattle.cxl_media.proofs.index.Index.find.Goals as goal

pub returns-in-Some : goal.returns-in-Some
returns-in-Some c =
    sym (subst (λ (t : Table). get (frames_in t.cells) (c.args.ep, c.args.number) ≡ Some c.in-Some.cell.now.frame) c.self.view_is
    (stop_found _ _ _ (c.args.ep, c.args.number) c.stop.result c.self.invariant c.stop.ensures c.in-Some.cell.now (sym c.in-Some.ensures)))

pub returns-in-None : goal.returns-in-None
returns-in-None c =
    sym (subst (λ (t : Table). get (frames_in t.cells) (c.args.ep, c.args.number) ≡ None) c.self.view_is
    (stop_nothing _ _ _ (c.args.ep, c.args.number) c.stop.result c.self.invariant c.stop.ensures (sym c.in-None.ensures)))
