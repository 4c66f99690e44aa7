use Rattle.std.proofs.Common.{rules, ◌+◌, ◌*◌, None, refl, arith}
use Rattle.std.proofs.lemmas.List.{length-replicate}
use Rattle.cxl_topo.proofs.ChildPlaces.{filled}
use Rattle.cxl_topo.proofs.children.Children.new.Goals as goal

pub returns : goal.returns
returns c =
    let near = c.in_ok-near.ensures.items_if_clones_equal (search rules) in
    let least = c.in_ok-least.ensures.items_if_clones_equal (search rules) in
    record {
      near = λ n p within few. rw near (filled (8 * c.args.count) (8 * n + p) None (omega arith));
      far = λ parent further. rw c.new.ensures.empty refl;
      least = λ n within. rw least (filled c.args.count n None within);
      whole = rw least (length-replicate c.args.count None);
    }
