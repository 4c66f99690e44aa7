use Rattle.std.proofs.Common.{◌≡◌, ℕ, List, [], None, Err, sym, ap, ◌∙◌, refl}
use Rattle.std.specs.Prelude.{find, position, option_map}
use Rattle.std.specs.List.{filter_map}
use Rattle.std.specs.Str.{bytes_eq}
use Rattle.std.proofs.lemmas.Option.{slice_get_within}
use Rattle.std.proofs.lemmas.Result.{IfOk-from_err}
use Rattle.cxl_apply.specs.Releases.{rows_of}
use Rattle.cxl_reply.specs.declared.reply.Reply.TheVariants as replies
use Rattle.cxl_reply.specs.declared.details.Spot.{Spot}
use Rattle.cxl_model.specs.declared.plan.Row.{Row}
use Rattle.cxl_model.specs.System.{blocks_alone, system_of}
use Rattle.cxl_session.specs.Inside.{job_fields}
use Rattle.cxl_session.specs.State.{SessionState}
use Rattle.cxl_session.specs.inner.Rows.{is_locked, is_not_last, row_at}
use Rattle.cxl_session.proofs.AskedReleases.{found_among, found_inside, found_unnamed, found_locked, found_below, found_asked, found_release, released_unrefused}
use Rattle.cxl_session.proofs.LiveRegions.{own_there_in, place_in_kept}
use Rattle.cxl_session.proofs.NodeRows.{rows_are}
use Rattle.cxl_session.proofs.session.Session.asked_release.Goals as goal

pub returns-in_default-place_among-clause-asked : goal.returns-in_default-place_among-clause-asked
returns-in_default-place_among-clause-asked c = λ m stands is. found_unnamed c.args.self.now m c.args.name stands
    (ap (λ (s : SessionState). s.job) (sym c.self.view_is) ∙ ap (option_map job_fields) c.in_default.is)
    (c.in_default-place_among.ensures ∙ ap (position (λ (own : List ℕ). bytes_eq own c.args.name)) (c.deref.ensures.value ∙ ap (λ (s : SessionState). s.names) c.self.view_is))

pub kept_at-requires : goal.kept_at-requires
kept_at-requires c =
    let here = found_among c.args.self.now c.self.inside c.self.view_is c.self.invariant.founds c.args.name c.in-Some-place_among.place c.deref.result.now c.in-Some-place_among.ensures c.deref.ensures.value in
    place_in_kept c.args.self.now c.self.inside c.self.view_is c.self.invariant.founds c.self.invariant.kepts c.in-Some-place_among.place
    (slice_get_within c.args.self.now.founds c.in-Some-place_among.place here.0 here.1)

pub returns-in-Some-first_locked-clause-asked : goal.returns-in-Some-first_locked-clause-asked
returns-in-Some-first_locked-clause-asked c = λ m stands is.
    let here = found_among c.args.self.now c.self.inside c.self.view_is c.self.invariant.founds c.args.name c.in-Some-place_among.place c.deref.result.now c.in-Some-place_among.ensures c.deref.ensures.value in
    let rows : List Row = filter_map (row_at c.self.inside.image) c.own-own.result.now in
    let own = own_there_in c.args.self.now c.self.inside c.self.view_is m stands c.live_regions_stay.ensures.system c.live_regions_stay.ensures.region c.kept_routes_stay.ensures.below is c.in-Some-place_among.place here.0 c.kept_at.result.now here.1 c.kept_at.ensures c.own-own.result.now c.own-own.ensures in
    let are : rows ≡ rows_of (system_of c.self.inside.image c.self.inside.topo []) here.0 = rows_are (system_of c.self.inside.image c.self.inside.topo []) here.0 c.own-own.result.now rows own refl in
    let finds = found_inside c.args.self.now c.self.inside c.self.view_is c.in_default.is c.args.name c.in-Some-place_among.place c.deref.result.now
    c.in-Some-place_among.ensures c.deref.ensures.value here.0 here.1 rows are in
    found_locked c.args.self.now m c.args.name c.in-Some-place_among.place here.0 rows stands finds c.in-Some-first_locked.row (sym c.in-Some-first_locked.ensures)
    ∙ ap (λ (spot : Spot). Err (replies.Locked spot)) (sym c.spot.ensures)

pub returns-in-Some-first_not_last-clause-asked : goal.returns-in-Some-first_not_last-clause-asked
returns-in-Some-first_not_last-clause-asked c = λ m stands is.
    let here = found_among c.args.self.now c.self.inside c.self.view_is c.self.invariant.founds c.args.name c.in-Some-place_among.place c.deref.result.now c.in-Some-place_among.ensures c.deref.ensures.value in
    let rows : List Row = filter_map (row_at c.self.inside.image) c.own-own.result.now in
    let own = own_there_in c.args.self.now c.self.inside c.self.view_is m stands c.live_regions_stay.ensures.system c.live_regions_stay.ensures.region c.kept_routes_stay.ensures.below is c.in-Some-place_among.place here.0 c.kept_at.result.now here.1 c.kept_at.ensures c.own-own.result.now c.own-own.ensures in
    let are : rows ≡ rows_of (system_of c.self.inside.image c.self.inside.topo []) here.0 = rows_are (system_of c.self.inside.image c.self.inside.topo []) here.0 c.own-own.result.now rows own refl in
    let finds = found_inside c.args.self.now c.self.inside c.self.view_is c.in_default.is c.args.name c.in-Some-place_among.place c.deref.result.now
    c.in-Some-place_among.ensures c.deref.ensures.value here.0 here.1 rows are in
    let free : find is_locked rows ≡ None = sym c.in_default-first_locked.ensures in
    let top = λ (s : SessionState). find (is_not_last (blocks_alone s.image)) rows in
    found_below c.args.self.now m c.args.name c.in-Some-place_among.place here.0 rows stands finds free c.in-Some-first_not_last.row
    (ap top (sym c.self.view_is) ∙ sym c.in-Some-first_not_last.ensures)
    ∙ ap (λ (spot : Spot). Err (replies.NotLast spot)) (sym c.spot-in-Some-first_not_last.ensures)

pub returns-in_err-rows-clause-asked : goal.returns-in_err-rows-clause-asked
returns-in_err-rows-clause-asked c = IfOk-from_err c.from_residual.result _ c.from_residual.ensures.0

-- where memory ran out nothing stood against it
pub returns-in_err-rows-clause-outright : goal.returns-in_err-rows-clause-outright
returns-in_err-rows-clause-outright c = λ m stands is refused.
    let here = found_among c.args.self.now c.self.inside c.self.view_is c.self.invariant.founds c.args.name c.in-Some-place_among.place c.deref.result.now c.in-Some-place_among.ensures c.deref.ensures.value in
    let rows : List Row = filter_map (row_at c.self.inside.image) c.own-own.result.now in
    let own = own_there_in c.args.self.now c.self.inside c.self.view_is m stands c.live_regions_stay.ensures.system c.live_regions_stay.ensures.region c.kept_routes_stay.ensures.below is c.in-Some-place_among.place here.0 c.kept_at.result.now here.1 c.kept_at.ensures c.own-own.result.now c.own-own.ensures in
    let are : rows ≡ rows_of (system_of c.self.inside.image c.self.inside.topo []) here.0 = rows_are (system_of c.self.inside.image c.self.inside.topo []) here.0 c.own-own.result.now rows own refl in
    let finds = found_inside c.args.self.now c.self.inside c.self.view_is c.in_default.is c.args.name c.in-Some-place_among.place c.deref.result.now
    c.in-Some-place_among.ensures c.deref.ensures.value here.0 here.1 rows are in
    let free : find is_locked rows ≡ None = sym c.in_default-first_locked.ensures in
    let top = λ (s : SessionState). find (is_not_last (blocks_alone s.image)) rows in
    let asked = found_asked c.args.self.now m c.args.name c.in-Some-place_among.place here.0 rows stands finds free (ap top (sym c.self.view_is) ∙ sym c.in_default-first_not_last.ensures) in
    absurd (released_unrefused m c.args.name asked.0 asked.1 refused)

pub returns-clause-asked : goal.returns-clause-asked
returns-clause-asked c = λ m stands is.
    let here = found_among c.args.self.now c.self.inside c.self.view_is c.self.invariant.founds c.args.name c.in-Some-place_among.place c.deref.result.now c.in-Some-place_among.ensures c.deref.ensures.value in
    let rows : List Row = filter_map (row_at c.self.inside.image) c.own-own.result.now in
    let own = own_there_in c.args.self.now c.self.inside c.self.view_is m stands c.live_regions_stay.ensures.system c.live_regions_stay.ensures.region c.kept_routes_stay.ensures.below is c.in-Some-place_among.place here.0 c.kept_at.result.now here.1 c.kept_at.ensures c.own-own.result.now c.own-own.ensures in
    let are : rows ≡ rows_of (system_of c.self.inside.image c.self.inside.topo []) here.0 = rows_are (system_of c.self.inside.image c.self.inside.topo []) here.0 c.own-own.result.now rows own refl in
    let finds = found_inside c.args.self.now c.self.inside c.self.view_is c.in_default.is c.args.name c.in-Some-place_among.place c.deref.result.now
    c.in-Some-place_among.ensures c.deref.ensures.value here.0 here.1 rows are in
    let free : find is_locked rows ≡ None = sym c.in_default-first_locked.ensures in
    let top = λ (s : SessionState). find (is_not_last (blocks_alone s.image)) rows in
    found_release c.args.self.now m c.args.name c.in-Some-place_among.place here.0 rows stands finds free
    (record { place = c.in-Some-place_among.place; rows = c.in_ok-rows.rows }) refl c.in_ok-rows.ensures
    (ap top (sym c.self.view_is) ∙ sym c.in_default-first_not_last.ensures)

pub returns-in-Some-clause-outright : goal.returns-in-Some-clause-outright
returns-in-Some-clause-outright c = λ _ _ _ _. refl
