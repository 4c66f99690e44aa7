use Rattle.std.proofs.Common.{◌≡◌, List, [], ◌∷◌, ◌++◌, map, sym, ap, ◌∙◌}
use Rattle.std.specs.List.{cons_option}
use Rattle.std.proofs.lemmas.List.{append-nil, map-append}
use Rattle.std.specs.Borrow.{Bor}
use Rattle.cxl_table.specs.declared.cedt.Record.{Record}
use Rattle.cxl_enc.proofs.Options.{on_ok}
use Rattle.cxl_window.specs.Judging.{tables_behind, windows_behind}
use Rattle.cxl_window.specs.Windows.{cfmws_in, cxims_in}
use Rattle.cxl_window.proofs.judge.Judge.add.Goals as goal

-- one reference more points to one record more
more_behind : {X : Type 0} (old new : List (Bor X)) (item : Bor X) → new ≡ old ++ item ∷ [] → map (λ (b : Bor X). b.now) new ≡ map (λ (b : Bor X). b.now) old ++ item.now ∷ []
more_behind {X} old new item is = ap (map (λ (b : Bor X). b.now)) is ∙ map-append (λ (b : Bor X). b.now) old (item ∷ [])

-- a record of another type adds nothing
pub returns-in-Other-clause-bridges : goal.returns-in-Other-clause-bridges
returns-in-Other-clause-bridges c = rw c.in-Other.is (sym (append-nil c.args.self.now.bridges.items))

pub returns-in-Other-clause-tables : goal.returns-in-Other-clause-tables
returns-in-Other-clause-tables c = rw c.in-Other.is (sym (append-nil (tables_behind c.args.self.now.tables.items)))

pub returns-in-Other-clause-windows : goal.returns-in-Other-clause-windows
returns-in-Other-clause-windows c = rw c.in-Other.is (sym (append-nil (windows_behind c.args.self.now.windows.items)))

pub returns-in-Chbs-clause-tables : goal.returns-in-Chbs-clause-tables
returns-in-Chbs-clause-tables c =
    rw c.in-Chbs.is (on_ok c.add_bridge.result _ _ c.add_bridge.ensures (λ _. sym (append-nil (tables_behind c.args.self.now.tables.items))))

pub returns-in-Chbs-clause-windows : goal.returns-in-Chbs-clause-windows
returns-in-Chbs-clause-windows c =
    rw c.in-Chbs.is (on_ok c.add_bridge.result _ _ c.add_bridge.ensures (λ _. sym (append-nil (windows_behind c.args.self.now.windows.items))))

pub returns-in_ok-push-in-Cfmws-clause-bridges : goal.returns-in_ok-push-in-Cfmws-clause-bridges
returns-in_ok-push-in-Cfmws-clause-bridges c = rw c.in-Cfmws.is (sym (append-nil c.args.self.now.bridges.items))

pub returns-in_ok-push-in-Cfmws-clause-tables : goal.returns-in_ok-push-in-Cfmws-clause-tables
returns-in_ok-push-in-Cfmws-clause-tables c = rw c.in-Cfmws.is (sym (append-nil (tables_behind c.args.self.now.tables.items)))

pub returns-in_ok-push-in-Cfmws-clause-windows : goal.returns-in_ok-push-in-Cfmws-clause-windows
returns-in_ok-push-in-Cfmws-clause-windows c =
    more_behind _ _ _ c.in_ok-push-in-Cfmws.ensures.items ∙ ap (λ (r : Record). windows_behind c.args.self.now.windows.items ++ cons_option (cfmws_in r) []) (sym c.in-Cfmws.is)

pub returns-in_ok-push-in-Cxims-clause-bridges : goal.returns-in_ok-push-in-Cxims-clause-bridges
returns-in_ok-push-in-Cxims-clause-bridges c = rw c.in-Cxims.is (sym (append-nil c.args.self.now.bridges.items))

pub returns-in_ok-push-in-Cxims-clause-tables : goal.returns-in_ok-push-in-Cxims-clause-tables
returns-in_ok-push-in-Cxims-clause-tables c =
    more_behind _ _ _ c.in_ok-push-in-Cxims.ensures.items ∙ ap (λ (r : Record). tables_behind c.args.self.now.tables.items ++ cons_option (cxims_in r) []) (sym c.in-Cxims.is)

pub returns-in_ok-push-in-Cxims-clause-windows : goal.returns-in_ok-push-in-Cxims-clause-windows
returns-in_ok-push-in-Cxims-clause-windows c = rw c.in-Cxims.is (sym (append-nil (windows_behind c.args.self.now.windows.items)))
