use Rattle.std.proofs.Common.{ℕ, List, Ok, Err, subst}
use Rattle.std.specs.Prelude.{nat_lt}
use Rattle.std.specs.Ordering.{nat_cmp}
use Rattle.std.specs.List.Sorted.{IsBinarySearchResult}
use Rattle.cxl_plan.proofs.Rising.{IsGap, sought}
use Rattle.cxl_plan.proofs.Counting.{one_more_there, one_more_new}
use Rattle.cxl_plan.proofs.used.count_one.Goals as goal

pub returns-in-Ok-clause-counted : goal.returns-in-Ok-clause-counted
returns-in-Ok-clause-counted c f limit low known =
    let nodes : List ℕ = c.args.nodes.now.items in
    let place : ℕ = c.in-Ok.place in
    let there = sought (λ n. nat_lt 0 (f n)) limit nodes known.listed c.args.node (Ok place) (subst (λ (xs : List ℕ). IsBinarySearchResult (λ y. nat_cmp y c.args.node) xs (Ok place)) c.deref.ensures.value c.in-Ok.ensures.position) in
    one_more_there f limit nodes c.args.counts.now.items known c.args.node place _ there.0 there.1 c.add_one.ensures.count c.add_one.ensures.here c.add_one.ensures.others

pub returns-in_ok-insert-in-Err-2-clause-counted : goal.returns-in_ok-insert-in-Err-2-clause-counted
returns-in_ok-insert-in-Err-2-clause-counted c f limit low known =
    let nodes : List ℕ = c.args.nodes.now.items in
    let place : ℕ = c.in-Err.place in
    let gap : IsGap nodes place c.args.node = sought (λ n. nat_lt 0 (f n)) limit nodes known.listed c.args.node (Err place) (subst (λ (xs : List ℕ). IsBinarySearchResult (λ y. nat_cmp y c.args.node) xs (Err place)) c.deref.ensures.value c.in-Err.ensures.position) in
    one_more_new f limit nodes c.args.counts.now.items known c.args.node place _ _ low gap c.in_ok-insert-in-Err.ensures.items c.in_ok-insert-in-Err-2.ensures.items
