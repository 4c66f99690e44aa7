use Rattle.std.proofs.Common.{◌≡◌, ◌∙◌, ◌+◌, ◌*◌, ◌==◌, ℕ, List, Some, ap, subst}
use Rattle.std.specs.List.{IsAnyAnswer}
use Rattle.std.proofs.lemmas.Bool.Decides.{Decides-eqb}
use Rattle.std.proofs.lemmas.Option.{get_or_from_slice_get, slice_get-get_or}
use Rattle.std.proofs.lemmas.List.Elements.{contains_decides}
use Rattle.cxl_topo.specs.declared.node.Node.{Node}
use Rattle.cxl_topo.specs.Tree.{Tree, path_of}
use Rattle.cxl_topo.proofs.Leading.{none_before}
use Rattle.cxl_topo.proofs.topo.Topo.under.Goals as goal

pub path_to-path-requires-clause-sound : goal.path_to-path-requires-clause-sound
path_to-path-requires-clause-sound c = rw c.deref.ensures.value (none_before c.self.inside.nodes.items c.self.invariant.tree (8 * c.args.ep + 9))

pub returns : goal.returns
returns c =
    let path = c.path_to-path.ensures.path ∙ ap (λ (nodes : List Node). path_of nodes c.args.ep) (c.deref.ensures.value ∙ ap (λ (tree : Tree). tree.nodes) c.self.view_is) in
    let nodes = path_of c.args.self.now.nodes c.args.ep in
    let both = contains_decides ◌==◌ Decides-eqb nodes c.args.node c.contains.result (subst (λ (nodes : List ℕ). IsAnyAnswer (λ y same. (y == c.args.node) ≡ same) nodes c.contains.result) path c.contains.ensures.cases) in
    (λ is. let at = both.0 is in (at.0, at.1, at.2 c.args.node), λ at. both.1 (at.0, at.1, λ d. get_or_from_slice_get nodes at.0 c.args.node d (slice_get-get_or nodes at.0 c.args.node at.1 ∙ ap Some at.2)))
