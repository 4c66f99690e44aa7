use Rattle.std.proofs.Common.{◌≡◌, List, [], Some, refl, sym, ap, ◌∙◌, subst}
use Rattle.cxl_script.specs.declared.command.Command.TheVariants as commands
use Rattle.cxl_model.specs.declared.found.Found.{Found}
use Rattle.cxl_model.specs.declared.plan.Row.{Row}
use Rattle.cxl_model.specs.System.{system_of}
use Rattle.std.proofs.Math.Nat.{le_refl}
use Rattle.cxl_apply.specs.Releases.{rows_of}
use Rattle.cxl_reply.specs.declared.reply.Reply.TheVariants as replies
use Rattle.cxl_reply.specs.declared.details.ShownRow.{ShownRow}
use Rattle.cxl_session.specs.State.{SessionState}
use Rattle.cxl_session.specs.inner.Answering.{IsTurnFor}
use Rattle.cxl_session.proofs.Acts.{untouched_by}
use Rattle.cxl_opening.proofs.Errors.{not_ok, at_any_err}
use Rattle.cxl_session.proofs.Shows.{IsShown, HasRead, rows_stand, shown_turn, unread_turn, unnamed_turn, named_unrefused}
use Rattle.cxl_session.proofs.LiveRegions.{own_there_in, place_in_kept}
use Rattle.cxl_session.proofs.NodeRows.{rows_are}
use Rattle.cxl_session.proofs.session.Session.show.Goals as goal

pub returns-in_default-clause-turn : goal.returns-in_default-clause-turn
returns-in_default-clause-turn g c = λ media. unnamed_turn c.args.self.now c.args.name (g.R.Regs.state c.args.regs.now) media c.in_default.ensures.named

pub kept_at-requires : goal.kept_at-requires
kept_at-requires g c = place_in_kept c.args.self.now c.self.inside c.self.view_is c.self.invariant.founds c.self.invariant.kepts c.in-Some.place c.in-Some.ensures.within

pub read_rows-requires-clause-there : goal.read_rows-requires-clause-there
read_rows-requires-clause-there g c =
    let at = c.requires.1.1 in
    let image : (g.R.Regs.state c.args.regs.now).blocks ≡ c.self.inside.image = at.sound.registers ∙ sym at.stands.image ∙ ap (λ (s : SessionState). s.image) (sym c.self.view_is) in
    let there = c.found_at.ensures ∙ ap (λ (f : Found). Some f) (sym c.in_ok-found.ensures) in
    let own = own_there_in c.args.self.now c.self.inside c.self.view_is c.requires.1.0 at.stands c.live_regions_stay.ensures.system c.live_regions_stay.ensures.region c.kept_routes_stay.ensures.below at.sound.machine c.in-Some.place c.in_ok-found.found c.kept_at.result.now there c.kept_at.ensures c.own.result.now c.own.ensures in
    let are = rows_are (system_of c.self.inside.image c.self.inside.topo []) c.in_ok-found.found c.own.result.now c.in_ok-rows.rows.items own c.in_ok-rows.ensures in
    rows_stand (system_of c.self.inside.image c.self.inside.topo []) c.in_ok-found.found c.deref.result.now (g.R.Regs.state c.args.regs.now).blocks (c.deref.ensures.value ∙ are) image

pub returns-in-Ok-clause-turn : goal.returns-in-Ok-clause-turn
returns-in-Ok-clause-turn g c = λ media.
    let session : SessionState = c.args.self.now in
    let found : Found = c.in_ok-found.found in
    let rows : List Row = c.deref.result.now in
    let at = c.requires.1.1 in
    let there = c.found_at.ensures ∙ ap (λ (f : Found). Some f) (sym c.in_ok-found.ensures) in
    let own = own_there_in c.args.self.now c.self.inside c.self.view_is c.requires.1.0 at.stands c.live_regions_stay.ensures.system c.live_regions_stay.ensures.region c.kept_routes_stay.ensures.below at.sound.machine c.in-Some.place c.in_ok-found.found c.kept_at.result.now there c.kept_at.ensures c.own.result.now c.own.ensures in
    let are = rows_are (system_of c.self.inside.image c.self.inside.topo []) c.in_ok-found.found c.own.result.now c.in_ok-rows.rows.items own c.in_ok-rows.ensures in
    let is : IsShown session c.args.name c.in-Some.place found rows = record {
      named = c.in-Some.ensures.named;
      there = there;
      rows_are = c.deref.ensures.value ∙ are ∙ ap (λ (s : SessionState). rows_of (system_of s.image s.topo []) found) c.self.view_is;
    } in
    let read : HasRead (g.R.Regs.state c.args.regs.now) (g.R.Regs.state c.read_rows.new.regs) =
    record { same = c.read_rows.ensures.same; counts = c.read_rows.ensures.counts; unfailed = c.in-Ok.ensures.unfailed } in
    subst (λ (shown : List ShownRow). IsTurnFor session session (g.R.Regs.state c.args.regs.now) (g.R.Regs.state c.read_rows.new.regs) media media (commands.Show c.args.name)
    (replies.Shown record { name = c.args.name; found = found; rows = shown })) (sym c.in-Ok.ensures.shown)
    (shown_turn c.live_regions_stay.ensures.region session c.args.name c.in-Some.place found rows is (g.R.Regs.state c.args.regs.now) (g.R.Regs.state c.read_rows.new.regs) media read)

pub returns-in-Err-clause-turn : goal.returns-in-Err-clause-turn
returns-in-Err-clause-turn g c = λ media.
    let session : SessionState = c.args.self.now in
    let found : Found = c.in_ok-found.found in
    let rows : List Row = c.deref.result.now in
    let at = c.requires.1.1 in
    let there = c.found_at.ensures ∙ ap (λ (f : Found). Some f) (sym c.in_ok-found.ensures) in
    let own = own_there_in c.args.self.now c.self.inside c.self.view_is c.requires.1.0 at.stands c.live_regions_stay.ensures.system c.live_regions_stay.ensures.region c.kept_routes_stay.ensures.below at.sound.machine c.in-Some.place c.in_ok-found.found c.kept_at.result.now there c.kept_at.ensures c.own.result.now c.own.ensures in
    let are = rows_are (system_of c.self.inside.image c.self.inside.topo []) c.in_ok-found.found c.own.result.now c.in_ok-rows.rows.items own c.in_ok-rows.ensures in
    let is : IsShown session c.args.name c.in-Some.place found rows = record {
      named = c.in-Some.ensures.named;
      there = there;
      rows_are = c.deref.ensures.value ∙ are ∙ ap (λ (s : SessionState). rows_of (system_of s.image s.topo []) found) c.self.view_is;
    } in
    unread_turn c.live_regions_stay.ensures.region session c.args.name c.in-Some.place found rows is (g.R.Regs.state c.args.regs.now) (g.R.Regs.state c.read_rows.new.regs) media
    c.read_rows.ensures.same c.in-Err.ensures.failed

pub returns-in_err-found-clause-turn : goal.returns-in_err-found-clause-turn
returns-in_err-found-clause-turn g c = not_ok _ c.from_residual.result _ c.from_residual.ensures.1

pub returns-in_err-found-clause-untouched : goal.returns-in_err-found-clause-untouched
returns-in_err-found-clause-untouched g c = untouched_by (g.R.Regs.state c.args.regs.now) (g.R.Regs.state c.args.regs.now) refl

pub returns-in_err-found-clause-memory : goal.returns-in_err-found-clause-memory
returns-in_err-found-clause-memory g c = at_any_err c.from_residual.result _ refl

pub returns-in_err-found-clause-counts : goal.returns-in_err-found-clause-counts
returns-in_err-found-clause-counts g c = le_refl (g.R.Regs.state c.args.regs.now).faults

pub returns-in_err-rows-clause-turn : goal.returns-in_err-rows-clause-turn
returns-in_err-rows-clause-turn g c = not_ok _ c.from_residual-in_err-rows.result _ c.from_residual-in_err-rows.ensures.1

pub returns-in_err-rows-clause-untouched : goal.returns-in_err-rows-clause-untouched
returns-in_err-rows-clause-untouched g c = untouched_by (g.R.Regs.state c.args.regs.now) (g.R.Regs.state c.args.regs.now) refl

pub returns-in_err-rows-clause-memory : goal.returns-in_err-rows-clause-memory
returns-in_err-rows-clause-memory g c = at_any_err c.from_residual-in_err-rows.result _ refl

pub returns-in_err-rows-clause-counts : goal.returns-in_err-rows-clause-counts
returns-in_err-rows-clause-counts g c = le_refl (g.R.Regs.state c.args.regs.now).faults

pub returns-in_err-room-clause-turn : goal.returns-in_err-room-clause-turn
returns-in_err-room-clause-turn g c = not_ok _ c.from_residual-in_err-room.result _ c.from_residual-in_err-room.ensures.1

pub returns-in_err-room-clause-untouched : goal.returns-in_err-room-clause-untouched
returns-in_err-room-clause-untouched g c = untouched_by (g.R.Regs.state c.args.regs.now) (g.R.Regs.state c.args.regs.now) refl

pub returns-in_err-room-clause-memory : goal.returns-in_err-room-clause-memory
returns-in_err-room-clause-memory g c = at_any_err c.from_residual-in_err-room.result _ refl

pub returns-in_err-room-clause-counts : goal.returns-in_err-room-clause-counts
returns-in_err-room-clause-counts g c = le_refl (g.R.Regs.state c.args.regs.now).faults

pub returns-in_default-clause-untouched : goal.returns-in_default-clause-untouched
returns-in_default-clause-untouched g c = untouched_by (g.R.Regs.state c.args.regs.now) (g.R.Regs.state c.args.regs.now) refl

pub returns-in_default-clause-memory : goal.returns-in_default-clause-memory
returns-in_default-clause-memory g c = tt

pub returns-in_default-clause-counts : goal.returns-in_default-clause-counts
returns-in_default-clause-counts g c = le_refl (g.R.Regs.state c.args.regs.now).faults

pub returns-in-Ok-clause-untouched : goal.returns-in-Ok-clause-untouched
returns-in-Ok-clause-untouched g c = c.read_rows.ensures.same

pub returns-in-Ok-clause-memory : goal.returns-in-Ok-clause-memory
returns-in-Ok-clause-memory g c = tt

pub returns-in-Ok-clause-counts : goal.returns-in-Ok-clause-counts
returns-in-Ok-clause-counts g c = c.read_rows.ensures.counts

pub returns-in-Err-clause-untouched : goal.returns-in-Err-clause-untouched
returns-in-Err-clause-untouched g c = c.read_rows.ensures.same

pub returns-in-Err-clause-memory : goal.returns-in-Err-clause-memory
returns-in-Err-clause-memory g c = tt

pub returns-in-Err-clause-counts : goal.returns-in-Err-clause-counts
returns-in-Err-clause-counts g c = c.read_rows.ensures.counts

pub returns-in_err-found-clause-outright : goal.returns-in_err-found-clause-outright
returns-in_err-found-clause-outright g c = λ m stands is refused. let named = c.in-Some.ensures.named m stands in absurd (named_unrefused m c.args.name named.0 named.1 refused)

pub returns-in_err-rows-clause-outright : goal.returns-in_err-rows-clause-outright
returns-in_err-rows-clause-outright g c = λ m stands is refused. let named = c.in-Some.ensures.named m stands in absurd (named_unrefused m c.args.name named.0 named.1 refused)

pub returns-in_err-room-clause-outright : goal.returns-in_err-room-clause-outright
returns-in_err-room-clause-outright g c = λ m stands is refused. let named = c.in-Some.ensures.named m stands in absurd (named_unrefused m c.args.name named.0 named.1 refused)

pub returns-in_default-clause-outright : goal.returns-in_default-clause-outright
returns-in_default-clause-outright g c = λ _ _ _ _. refl

pub returns-in-Ok-clause-outright : goal.returns-in-Ok-clause-outright
returns-in-Ok-clause-outright g c = λ _ _ _ _. refl

pub returns-in-Err-clause-outright : goal.returns-in-Err-clause-outright
returns-in-Err-clause-outright g c = λ _ _ _ _. refl
