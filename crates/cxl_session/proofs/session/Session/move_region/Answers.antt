use Rattle.std.proofs.Common.{◌≡◌, ◌∙◌, ap, refl, sym, subst, length, List, ℕ, arith}
use Rattle.std.proofs.lemmas.Bool.{false≢true}
use Rattle.cxl_move.specs.Sides.{AreHeld}
use Rattle.cxl_reply.specs.declared.details.Carried.{Carried}
use Rattle.cxl_reply.specs.declared.reply.Reply.TheVariants as replies
use Rattle.cxl_machine.specs.Copies.{move_between, move_answer}
use Rattle.cxl_machine.specs.Replies.{Answer}
use Rattle.cxl_session.specs.inner.Answering.{IsWrittenAs}
use Rattle.cxl_session.proofs.Carrying.{window_within}
use Rattle.cxl_opening.proofs.Errors.{not_ok, at_any_err}
use Rattle.cxl_session.proofs.Pairs.{two_unrefused}
use Rattle.cxl_session.proofs.session.Session.move_region.Goals as goal

pub side-from-requires : goal.side-from-requires
side-from-requires g c =
    let holds = c.requires.1 in
    let two = c.in-Ok.ensures c.requires.0 holds.stands in
    window_within c.args.self.now c.requires.0 c.in-Ok.places.0 two.from holds.stands holds.machine two.from_at

pub side-to-requires : goal.side-to-requires
side-to-requires g c =
    let holds = c.requires.1 in
    let two = c.in-Ok.ensures c.requires.0 holds.stands in
    window_within c.args.self.now c.requires.0 c.in-Ok.places.1 two.to holds.stands holds.machine two.to_at

pub held-requires : goal.held-requires
held-requires g c =
    let holds = c.requires.1 in
    let two = c.in-Ok.ensures c.requires.0 holds.stands in
    let sides =
    c.sides_hold_pieces.ensures.sides c.args.self.now c.requires.0 c.args.pair.now c.in-Ok.places.0 c.in-Ok.places.1 c.side-from.result.found.now c.side-to.result.found.now c.side-from.result.window.now
    c.side-to.result.window.now holds.stands holds.machine two c.side-from.ensures c.side-to.ensures in
    (sides.s, sides.system, sides.first)

pub pair_details-requires : goal.pair_details-requires
pair_details-requires g c =
    let holds = c.requires.1 in
    let two = c.in-Ok.ensures c.requires.0 holds.stands in
    let few =
    c.sides_hold_pieces.ensures.few c.args.self.now (g.M.Media.state c.args.media.now) c.requires.0 two.from c.in-Ok.places.0 c.side-from.result.found.now c.side-from.result.window.now c.in_ok-pieces.pieces.items holds
    two.from_at c.side-from.ensures c.in_ok-pieces.ensures in
    omega (arith, few, ap (λ (ns : List ℕ). length ns) c.deref-2.ensures.value)

pub returns-clause-answer : goal.returns-clause-answer
returns-clause-answer g c = λ m holds.
    let two = c.in-Ok.ensures m holds.stands in
    let pieces : List ℕ = c.in_ok-pieces.pieces.items in
    let written =
    c.copied_pieces_are_answers.ensures.moved c.args.self.now (g.M.Media.state c.args.media.now) (g.M.Media.state c.move_bytes.new.media) m c.args.pair.now c.in-Ok.places.0 c.in-Ok.places.1
    c.side-from.result.found.now c.side-to.result.found.now c.side-from.result.window.now c.side-to.result.window.now pieces holds two c.side-from.ensures c.side-to.ensures c.in_ok-pieces.ensures
    c.move_bytes.ensures.moved c.move_bytes.ensures.frames in
    let told : record { from = c.args.pair.now.from; to = c.args.pair.now.to; pieces = length pieces } ≡ c.pair_details.result =
    sym (c.pair_details.ensures ∙ (λ i. record { from = c.args.pair.now.from; to = c.args.pair.now.to; pieces = length (c.deref-2.ensures.value i) })) in
    subst (λ (x : Carried). IsWrittenAs c.args.self.now (g.M.Media.state c.move_bytes.new.media) (move_answer m c.args.pair.now) (replies.Moved x)) told written

pub returns-in_err-pieces-clause-answer : goal.returns-in_err-pieces-clause-answer
returns-in_err-pieces-clause-answer g c = not_ok _ c.from_residual.result _ c.from_residual.ensures.1

pub returns-in_err-pieces-clause-refused : goal.returns-in_err-pieces-clause-refused
returns-in_err-pieces-clause-refused g c = not_ok _ c.from_residual.result _ c.from_residual.ensures.1

pub returns-in_err-pieces-clause-memory : goal.returns-in_err-pieces-clause-memory
returns-in_err-pieces-clause-memory g c = at_any_err c.from_residual.result _ refl

pub returns-in-Err-clause-answer : goal.returns-in-Err-clause-answer
returns-in-Err-clause-answer g c = λ m holds.
    subst (λ (a : Answer). IsWrittenAs c.args.self.now (g.M.Media.state c.args.media.now) a c.in-Err.refusal) (sym (c.in-Err.ensures m holds.stands (move_between m)))
    (record { told = refl; holds = holds })

pub returns-in-Err-clause-refused : goal.returns-in-Err-clause-refused
returns-in-Err-clause-refused g c = λ _. refl

pub returns-in-Err-clause-memory : goal.returns-in-Err-clause-memory
returns-in-Err-clause-memory g c = tt

pub returns-clause-memory : goal.returns-clause-memory
returns-clause-memory g c = tt

pub returns-clause-refused : goal.returns-clause-refused
returns-clause-refused g c = λ is. absurd (false≢true is)

pub move_bytes-requires-clause-sides : goal.move_bytes-requires-clause-sides
move_bytes-requires-clause-sides g c =
    let holds = c.requires.1 in
    let two = c.in-Ok.ensures c.requires.0 holds.stands in
    c.sides_hold_pieces.ensures.sides c.args.self.now c.requires.0 c.args.pair.now c.in-Ok.places.0 c.in-Ok.places.1 c.side-from.result.found.now c.side-to.result.found.now c.side-from.result.window.now
    c.side-to.result.window.now holds.stands holds.machine two c.side-from.ensures c.side-to.ensures

pub move_bytes-requires-clause-held : goal.move_bytes-requires-clause-held
move_bytes-requires-clause-held g c =
    subst (λ (ns : List ℕ). AreHeld c.side-from.result.found.now c.side-from.result.window.now (g.M.Media.state c.args.media.now).blocks ns) (sym c.deref.ensures.value) c.in_ok-pieces.ensures

pub returns-in_err-pieces-clause-outright : goal.returns-in_err-pieces-clause-outright
returns-in_err-pieces-clause-outright g c = λ m stands is refused. absurd (two_unrefused c.args.self.now m c.args.pair.now c.in-Ok.places.0 c.in-Ok.places.1 (c.in-Ok.ensures m stands) refused)

pub returns-in-Err-clause-outright : goal.returns-in-Err-clause-outright
returns-in-Err-clause-outright g c = λ _ _ _ _. refl

pub returns-clause-outright : goal.returns-clause-outright
returns-clause-outright g c = λ _ _ _ _. refl
