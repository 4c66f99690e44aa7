use Rattle.std.proofs.Common.{ℕ, List, Ok, Err, subst, ◌∙◌, arith}
use Rattle.std.specs.Ordering.{nat_cmp}
use Rattle.std.specs.List.Sorted.{IsBinarySearchResult}
use Rattle.cxl_plan.proofs.Rising.{IsGap, sought, found_passes, kept, put}
use Rattle.cxl_plan.proofs.used.add_port.Goals as goal

pub returns-in-Ok : goal.returns-in-Ok
returns-in-Ok c p limit le old =
    let ports : List ℕ = c.args.ports.now.items in
    let place : ℕ = c.in-Ok.field-0 in
    let there = sought p limit ports old c.args.port (Ok place) (subst (λ (xs : List ℕ). IsBinarySearchResult (λ y. nat_cmp y c.args.port) xs (Ok place)) c.deref.ensures.value c.in-Ok.ensures.position) in
    kept p limit ports old c.args.port (found_passes p limit ports old place c.args.port there.0 there.1)

pub returns-in_ok-insert-in-Err : goal.returns-in_ok-insert-in-Err
returns-in_ok-insert-in-Err c p limit le old =
    let ports : List ℕ = c.args.ports.now.items in
    let place : ℕ = c.in-Err.place in
    let gap : IsGap ports place c.args.port = sought p limit ports old c.args.port (Err place) (subst (λ (xs : List ℕ). IsBinarySearchResult (λ y. nat_cmp y c.args.port) xs (Err place)) c.deref.ensures.value c.in-Err.ensures.position) in
    c.in_ok-insert-in-Err.ensures.items ∙ put p limit ports old place c.args.port (omega (arith, c.ranges.port, le)) gap
