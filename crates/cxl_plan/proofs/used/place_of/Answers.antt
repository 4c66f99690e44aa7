use Rattle.std.proofs.Common.{ℕ, List, Ok, length, get_or, sym, ap, subst, ◌∙◌, arith}
use Rattle.std.specs.Prelude.{Result}
use Rattle.std.specs.Ordering.{nat_cmp}
use Rattle.std.specs.List.Sorted.{IsBinarySearchResult}
use Rattle.cxl_legal.specs.Used.{is_used}
use Rattle.cxl_plan.specs.inner.Uses.{tree_alone}
use Rattle.cxl_plan.proofs.Rising.{sought, sought_there}
use Rattle.cxl_plan.proofs.used.place_of.Goals as goal

pub unwrap-requires : goal.unwrap-requires
unwrap-requires c =
    let nodes = c.args.topo.now.nodes in
    sought_there (is_used (tree_alone nodes) c.args.request.now) (length nodes) c.deref.result.now (c.deref.ensures.value ∙ c.requires.uses.listed) c.args.node c.requires.here c.requires.used c.binary_search.result c.binary_search.ensures.position

pub returns-clause-within : goal.returns-clause-within
returns-clause-within c =
    let nodes = c.args.topo.now.nodes in
    let xs : List ℕ = c.deref.result.now in
    let there = sought (is_used (tree_alone nodes) c.args.request.now) (length nodes) xs (c.deref.ensures.value ∙ c.requires.uses.listed) c.args.node (Ok c.unwrap.result) (subst (λ (r : Result ℕ ℕ). IsBinarySearchResult (λ y. nat_cmp y c.args.node) xs r) c.unwrap.ensures c.binary_search.ensures.position) in
    let long = ap length c.deref.ensures.value in
    omega (arith, there.0, long)

pub returns-clause-node : goal.returns-clause-node
returns-clause-node c =
    let nodes = c.args.topo.now.nodes in
    let xs : List ℕ = c.deref.result.now in
    let there = sought (is_used (tree_alone nodes) c.args.request.now) (length nodes) xs (c.deref.ensures.value ∙ c.requires.uses.listed) c.args.node (Ok c.unwrap.result) (subst (λ (r : Result ℕ ℕ). IsBinarySearchResult (λ y. nat_cmp y c.args.node) xs r) c.unwrap.ensures c.binary_search.ensures.position) in
    ap (λ (ys : List ℕ). get_or ys c.unwrap.result 0) (sym c.deref.ensures.value) ∙ there.1
