use Rattle.cxl_enc.specs.Codes.{bits_of}
use Rattle.std.proofs.Common.{◌≡◌, ℕ, ◌/◌, ◌*◌, ◌%◌, ◌^◌, ◌<◌, List, true, length, get_or, sym, ap, subst, ◌∙◌, arith}
use Rattle.std.specs.Prelude.{slice_get, Some}
use Rattle.std.specs.List.{All}
use Rattle.std.proofs.lemmas.Option.{slice_get-get_or}
use Rattle.cxl_enc.proofs.Ways.{some_ways}
use Rattle.cxl_legal.specs.Used.{is_port_used}
use Rattle.cxl_plan.specs.inner.Uses.{tree_alone, ports_at, ways_at, ways_above_at}
use Rattle.cxl_plan.proofs.PlannedWays.{port_ways}
use Rattle.cxl_plan.proofs.Leading.{ports_used}
use Rattle.cxl_plan.proofs.spans.port_of.Goals as goal

pub bounds-ports-from : goal.bounds-ports-from
bounds-ports-from c =
    let nodes = c.args.topo.now.nodes in
    let request = c.args.request.now in
    let count : length c.ports_of-ports.result.now ≡ ways_at nodes request c.args.node = ap length c.ports_of-ports.ensures ∙ sym (port_ways nodes request c.args.node c.requires.port) in
    let ways : c.from-ways.result ≡ ways_at nodes request c.args.node = c.from-ways.ensures ∙ c.requires.own in
    let some : 0 < ways_at nodes request c.args.node = some_ways (ways_at nodes request c.args.node) (c.requires.ways c.args.node c.requires.used) in
    omega arith

pub returns-clause-used : goal.returns-clause-used
returns-clause-used c =
    let nodes = c.args.topo.now.nodes in
    let request = c.args.request.now in
    let count : length c.ports_of-ports.result.now ≡ ways_at nodes request c.args.node = ap length c.ports_of-ports.ensures ∙ sym (port_ways nodes request c.args.node c.requires.port) in
    let ways : c.from-ways.result ≡ ways_at nodes request c.args.node = c.from-ways.ensures ∙ c.requires.own in
    let some : 0 < ways_at nodes request c.args.node = some_ways (ways_at nodes request c.args.node) (c.requires.ways c.args.node c.requires.used) in
    let inside : c.from.result / (c.root_ways.result * c.args.above) % c.from-ways.result < length c.ports_of-ports.result.now = omega arith in
    subst (λ (xs : List ℕ). All (λ p. is_port_used (tree_alone nodes) request c.args.node p ≡ true) xs) (sym c.ports_of-ports.ensures) (ports_used nodes request c.args.node) _ 0 inside

pub returns-clause-port : goal.returns-clause-port
returns-clause-port c =
    let nodes = c.args.topo.now.nodes in
    let request = c.args.request.now in
    let count : length c.ports_of-ports.result.now ≡ ways_at nodes request c.args.node = ap length c.ports_of-ports.ensures ∙ sym (port_ways nodes request c.args.node c.requires.port) in
    let ways : c.from-ways.result ≡ ways_at nodes request c.args.node = c.from-ways.ensures ∙ c.requires.own in
    let some : 0 < ways_at nodes request c.args.node = some_ways (ways_at nodes request c.args.node) (c.requires.ways c.args.node c.requires.used) in
    let inside : c.from.result / (c.root_ways.result * c.args.above) % c.from-ways.result < length c.ports_of-ports.result.now = omega arith in
    let k = c.from.result / (c.root_ways.result * c.args.above) % c.from-ways.result in
    let read : slice_get c.ports_of-ports.result.now k ≡ Some (get_or c.ports_of-ports.result.now k 0) = slice_get-get_or c.ports_of-ports.result.now k 0 inside in
    let above = c.requires.above in
    let place : k ≡ c.args.slot / (2 ^ bits_of c.args.w.now.ways * ways_above_at nodes request c.args.node) % ways_at nodes request c.args.node =
    ap (λ (n : ℕ). n / (c.root_ways.result * c.args.above) % c.from-ways.result) c.from.ensures
    ∙ ap (λ (n : ℕ). c.args.slot / (n * c.args.above) % c.from-ways.result) c.root_ways.ensures.value
    ∙ ap (λ (n : ℕ). c.args.slot / (2 ^ bits_of c.args.w.now.ways * n) % c.from-ways.result) above
    ∙ ap (λ (n : ℕ). c.args.slot / (2 ^ bits_of c.args.w.now.ways * ways_above_at nodes request c.args.node) % n) ways in
    ap (slice_get (ports_at nodes request c.args.node)) (sym place) ∙ ap (λ (xs : List ℕ). slice_get xs k) (sym c.ports_of-ports.ensures) ∙ read
