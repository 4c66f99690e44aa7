use Rattle.std.proofs.Common.{◌≡◌, true, false, sym, ◌∙◌, arith}
use Rattle.std.proofs.lemmas.Bool.{false≢true}
use Rattle.cxl_topo.specs.Tree.{is_endpoint_at}
use Rattle.cxl_span.proofs.Sums.{taken_more}
use Rattle.cxl_model.specs.Hosts.{as_system}
use Rattle.cxl_model.specs.System.{decoders_at}
use Rattle.cxl_check.proofs.Kept.{span_ends, starts_behind}
use Rattle.cxl_check.proofs.kind.span_behind.Goals as goal

pub overflow_add-start : goal.overflow_add-start
overflow_add-start c =
    let s = as_system c.args.host.now in
    let committed = c.requires.committed in
    let endpoint : is_endpoint_at s.nodes c.args.node ≡ true = sym c.is_endpoint.ensures ∙ c.if-not-is_endpoint.false in
    let few = span_ends s c.requires.ready c.spans_lie_in_partitions.ensures.ends c.args.node c.args.i c.args.d.now endpoint committed.there committed.committed in
    let start = starts_behind s c.args.node c.args.i c.args.d.now committed.there in
    omega (arith, few, start, c.requires.taken endpoint)

pub overflow_add-end : goal.overflow_add-end
overflow_add-end c =
    let s = as_system c.args.host.now in
    let committed = c.requires.committed in
    let endpoint : is_endpoint_at s.nodes c.args.node ≡ true = sym c.is_endpoint.ensures ∙ c.if-not-is_endpoint.false in
    let few = span_ends s c.requires.ready c.spans_lie_in_partitions.ensures.ends c.args.node c.args.i c.args.d.now endpoint committed.there committed.committed in
    let start = starts_behind s c.args.node c.args.i c.args.d.now committed.there in
    omega (arith, few, start, c.requires.taken endpoint, c.span_length.ensures)

pub kind_by_end-kind-requires-clause-endpoint : goal.kind_by_end-kind-requires-clause-endpoint
kind_by_end-kind-requires-clause-endpoint c = sym c.is_endpoint.ensures ∙ c.if-not-is_endpoint.false

pub kind_by_end-kind-requires-clause-end : goal.kind_by_end-kind-requires-clause-end
kind_by_end-kind-requires-clause-end c =
    let s = as_system c.args.host.now in
    let endpoint : is_endpoint_at s.nodes c.args.node ≡ true = sym c.is_endpoint.ensures ∙ c.if-not-is_endpoint.false in
    let start = starts_behind s c.args.node c.args.i c.args.d.now c.requires.committed.there in
    omega (arith, start, c.requires.taken endpoint, c.span_length.ensures)

pub returns-then-not-is_endpoint : goal.returns-then-not-is_endpoint
returns-then-not-is_endpoint c =
    let port : is_endpoint_at c.args.host.now.topo.now.nodes c.args.node ≡ false = sym c.is_endpoint.ensures ∙ c.if-not-is_endpoint.true in
    record {
      start = λ endpoint. absurd (false≢true (sym port ∙ endpoint));
      end = λ endpoint. absurd (false≢true (sym port ∙ endpoint));
      kind = λ endpoint. absurd (false≢true (sym port ∙ endpoint));
    }

pub returns : goal.returns
returns c =
    let s = as_system c.args.host.now in
    let start = starts_behind s c.args.node c.args.i c.args.d.now c.requires.committed.there in
    let more = taken_more (decoders_at s c.args.node) c.args.i c.args.d.now c.requires.committed.there in
    record {
      start = λ endpoint. omega (arith, start, c.requires.taken endpoint);
      end = λ endpoint. omega (arith, more, c.requires.taken endpoint, c.span_length.ensures);
      kind = λ endpoint. c.kind_by_end-kind.ensures;
    }
