use Rattle.std.proofs.Common.{◌+◌, List, Option, sym, ap, subst, ◌∙◌, arith}
use Rattle.cxl_window.specs.Fields.{WindowFields}
use Rattle.cxl_media.specs.Blocks.{Key}
use Rattle.cxl_model.specs.declared.found.Found.{Found}
use Rattle.cxl_move.proofs.HeldPieces.{OneToOne, AreListed, listed_first, listed_none, listed_more, held_all}
use Rattle.cxl_move.proofs.listing.held.Goals as goal
use Rattle.cxl_move.proofs.listing.held.Goals.{in-Some+in_ok-push, in_default}

pub loop-i-init : goal.loop-i-init
loop-i-init g c = listed_first c.args.side.now.found.now c.args.side.now.window.now (g.M.Roll.roll c.args.media.now) c.new-pieces.result.items c.new-pieces.ensures.items

pub loop-i-preserved : goal.loop-i-preserved
loop-i-preserved g c =
    let found : Found = c.args.side.now.found.now in
    let w : WindowFields = c.args.side.now.window.now in
    let roll : List (Option Key) = g.M.Roll.roll c.args.media.now in
    let r = c.requires in
    let laws : OneToOne found w = record {
      one = λ n endpoint block other place. c.pieces_are_carried_to_blocks.ensures.one r.0 w found n endpoint block other place r.1 r.2;
      apart = λ n other endpoint block. c.pieces_are_carried_to_blocks.ensures.apart r.0 w found n other endpoint block r.1 r.2;
    } in
    elim c.match-piece_at_place.branch [
      | in-Some+in_ok-push x ↦
          subst (AreListed found w roll (c.loop-i.i + 1)) (sym (ap (λ v. v.items) x.pieces-is ∙ x.in_ok-push.ensures.items))
          (listed_more found w roll (g.M.Media.state c.args.media.now).blocks c.places-places.ensures.blocks laws c.loop-i.i c.loop-i.pieces.items x.in-Some.n c.loop-i.invariant x.in-Some.ensures.some)
      | in_default x ↦
          subst (AreListed found w roll (c.loop-i.i + 1)) (sym (ap (λ v. v.items) x.pieces-is))
          (listed_none found w roll c.loop-i.i c.loop-i.pieces.items c.loop-i.invariant x.in_default.ensures.none)
    ]

pub returns : goal.returns
returns g c =
    let found : Found = c.args.side.now.found.now in
    let w : WindowFields = c.args.side.now.window.now in
    let roll : List (Option Key) = g.M.Roll.roll c.args.media.now in
    held_all found w roll (g.M.Media.state c.args.media.now).blocks c.places-places.ensures.blocks c.loop-i.i c.loop-i.pieces.items c.sort_unstable.new.self.items
    (omega (arith, c.loop-i-test.false, c.places-places.ensures.count)) c.loop-i.invariant c.sort_unstable.ensures.permutation c.sort_unstable.ensures.sorted
