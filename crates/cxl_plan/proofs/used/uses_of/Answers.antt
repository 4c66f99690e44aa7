use Rattle.std.proofs.Common.{◌≡◌, ℕ, ◌<◌, List, length, filter, sym, subst, ◌∙◌}
use Rattle.std.specs.List.{All}
use Rattle.cxl_model.specs.Counts.{is_under}
use Rattle.cxl_plan.specs.inner.Uses.{used_nodes, AreCounted, ArePorts}
use Rattle.cxl_plan.proofs.Tables.{used_within}
use Rattle.cxl_plan.proofs.Counting.{all_listed, all_counted}
use Rattle.cxl_plan.proofs.used.uses_of.Goals as goal

pub used_ports-requires : goal.used_ports-requires
used_ports-requires c =
    let nodes = c.args.topo.now.nodes in
    let request = c.args.request.now in
    let listed : List ℕ = c.count_all.new.nodes.items in
    let counts : List ℕ = c.count_all.new.counts.items in
    let known : AreCounted (λ n. length (filter (is_under nodes n) request.endpoints)) (length nodes) listed counts = subst (λ (es : List ℕ). AreCounted (λ n. length (filter (is_under nodes n) es)) (length nodes) listed counts) c.items.ensures c.in_ok-count_all.ensures in
    subst (λ (xs : List ℕ). All (λ n. n < length nodes) xs) (sym (c.deref.ensures.value ∙ all_listed nodes request listed counts known)) (used_within nodes request)

pub returns : goal.returns
returns c =
    let nodes = c.args.topo.now.nodes in
    let request = c.args.request.now in
    let listed : List ℕ = c.count_all.new.nodes.items in
    let counts : List ℕ = c.count_all.new.counts.items in
    let known : AreCounted (λ n. length (filter (is_under nodes n) request.endpoints)) (length nodes) listed counts = subst (λ (es : List ℕ). AreCounted (λ n. length (filter (is_under nodes n) es)) (length nodes) listed counts) c.items.ensures c.in_ok-count_all.ensures in
    let is : listed ≡ used_nodes nodes request = all_listed nodes request listed counts known in
    record {
      listed = is;
      counts = all_counted nodes request listed counts known c.requires.few;
      ports = subst (λ (xs : List ℕ). ArePorts nodes request xs c.in_ok-ports.ports.items) c.deref.ensures.value (c.in_ok-ports.ensures request (c.deref.ensures.value ∙ is));
    }
