use Rattle.std.proofs.Common.{◌≡◌, ◌+◌, ◌*◌, Some, sym, ap, ◌∙◌, length, arith}
use Rattle.std.specs.Prelude.{slice_get}
use Rattle.std.proofs.lemmas.Option.{slice_get_within, slice_get-get_or}
use Rattle.std.proofs.lemmas.List.{length-set}
use Rattle.std.proofs.lemmas.Result.{on_ok_weaker}
use Rattle.cxl_topo.proofs.ChildPlaces.{parent_at, near_entered, near_kept, far_entered, far_kept, least_entered}
use Rattle.cxl_topo.proofs.children.Children.enter.Goals as goal

pub index_mut-requires-then-parent-lt8 : goal.index_mut-requires-then-parent-lt8
index_mut-requires-then-parent-lt8 c =
    let own = c.in-Some.parent in
    let of = parent_at c.args.nodes.now c.args.i c.index-nodes-i.result own c.requires.below c.index-nodes-i.is c.in-Some.is in
    let room = slice_get_within c.args.self.now.near.items (8 * own.node + own.port) _ (c.requires.listed.near own.node own.port (c.requires.within own of) c.if-parent-lt8.true) in
    omega (arith, room, c.from.ensures, c.args.self.now.near.ok.0)

pub returns-then-parent-lt8 : goal.returns-then-parent-lt8
returns-then-parent-lt8 c =
    let nodes = c.args.nodes.now in
    let own = c.in-Some.parent in
    let node = c.index-nodes-i in
    let old = c.args.self.now in
    let listed = c.requires.listed in
    let of = parent_at nodes c.args.i node.result own c.requires.below node.is c.in-Some.is in
    let there = c.requires.within own of in
    let was = c.index.result.now in
    let here : slice_get old.least.items own.node ≡ Some was = slice_get-get_or old.least.items own.node was (omega (arith, there, listed.whole)) ∙ ap Some (sym c.index.ensures) in
    record {
      near = rw c.from.ensures (near_entered (length nodes) nodes c.args.i node.result c.requires.below node.is own c.in-Some.is old.near.items there c.if-parent-lt8.true (c.requires.free own of) listed.near);
      far = far_kept (length nodes) nodes c.args.i node.result c.requires.below node.is own c.in-Some.is old.far c.if-parent-lt8.true listed.far;
      least = rw c.unwrap_or.ensures (least_entered (length nodes) nodes c.args.i node.result c.requires.below node.is own c.in-Some.is old.least.items was there here listed.least);
      whole = length-set old.least.items own.node (Some c.unwrap_or.result) ∙ listed.whole;
    }

pub returns-else-parent-lt8 : goal.returns-else-parent-lt8
returns-else-parent-lt8 c =
    let nodes = c.args.nodes.now in
    let own = c.in-Some.parent in
    let node = c.index-nodes-i in
    let old = c.args.self.now in
    let listed = c.requires.listed in
    let of = parent_at nodes c.args.i node.result own c.requires.below node.is c.in-Some.is in
    let there = c.requires.within own of in
    let was = c.index.result.now in
    let here : slice_get old.least.items own.node ≡ Some was = slice_get-get_or old.least.items own.node was (omega (arith, there, listed.whole)) ∙ ap Some (sym c.index.ensures) in
    on_ok_weaker c.enter_first.result (λ enters. record {
      near = near_kept (length nodes) nodes c.args.i node.result c.requires.below node.is own c.in-Some.is old.near.items c.if-parent-lt8.false listed.near;
      far = far_entered (length nodes) nodes c.args.i node.result c.requires.below node.is own c.in-Some.is old.far c.enter_first.new.table listed.far enters;
      least = rw c.unwrap_or.ensures (least_entered (length nodes) nodes c.args.i node.result c.requires.below node.is own c.in-Some.is old.least.items was there here listed.least);
      whole = length-set old.least.items own.node (Some c.unwrap_or.result) ∙ listed.whole;
    }) c.enter_first.ensures
