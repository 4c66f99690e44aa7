use Rattle.std.proofs.Common.{ℕ, List, get_or, sym, ap, subst, ◌∙◌}
use Rattle.cxl_window.specs.Fields.{WindowFields}
use Rattle.cxl_model.specs.declared.found.Found.{Found}
use Rattle.cxl_poison.specs.Live.{AreLive}
use Rattle.cxl_poison.specs.Pieces.{AreTouchedPlaces}
use Rattle.cxl_session.specs.State.{SessionState}
use Rattle.cxl_session.proofs.Poisons.{live_founds, places_given, told_given, reported}
use Rattle.cxl_session.proofs.session.Session.report.Goals as goal

pub touched_by_records-requires-clause-live : goal.touched_by_records-requires-clause-live
touched_by_records-requires-clause-live c =
    let (m, stands, is) = c.requires in
    subst (λ (fs : List Found). AreLive c.windows.result.now fs) (sym c.live.ensures.value)
    (subst (λ (ws : List WindowFields). AreLive ws c.args.self.now.founds) (sym c.windows.ensures) (live_founds c.args.self.now m stands is))

pub touched_by_records-requires-clause-places : goal.touched_by_records-requires-clause-places
touched_by_records-requires-clause-places c = λ k d low.
    subst (λ (fs : List Found). AreTouchedPlaces (get_or c.items-records.result.now k d) c.args.endpoint fs c.deref.result.now) (sym c.live.ensures.value)
    (subst (λ (ps : List ℕ). AreTouchedPlaces (get_or c.items-records.result.now k d) c.args.endpoint c.args.self.now.founds ps) (sym c.deref.ensures.value)
    (places_given c.args.self.now c.args.endpoint c.items-records.result.now c.in_ok-places.places.items c.in_ok-places.ensures k d low))

pub returns : goal.returns
returns c = λ m stands is. (
  c.in_ok-pieces.pieces,
  told_given c.args.self.now m stands c.args.endpoint c.args.list.records c.items-records.result.now c.windows.result.now c.live.result.now c.in_ok-pieces.pieces c.items-records.ensures c.windows.ensures c.live.ensures.value
      c.in_ok-pieces.ensures,
  reported c.args.self.now m stands c.args.endpoint c.args.list c.in_ok-pieces.pieces c.in_ok-names.names
      (c.in_ok-names.ensures ∙ c.deref-2.ensures.value ∙ ap (λ (s : SessionState). s.names) c.self.view_is),
)
