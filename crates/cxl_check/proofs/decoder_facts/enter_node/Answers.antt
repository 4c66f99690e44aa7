use Rattle.std.proofs.Common.{◌≡◌, ℕ, ◌+◌, ◌*◌, ◌≤◌, length, refl, subst, arith}
use Rattle.cxl_model.specs.Hosts.{as_system}
use Rattle.cxl_check.specs.inner.DecoderFacts.{AreFactsBefore}
use Rattle.cxl_check.proofs.Worked.{idle_rest, node_worked}
use Rattle.cxl_check.proofs.decoder_facts.enter_node.Goals as goal

pub loop-i-init : goal.loop-i-init
loop-i-init c =
    let same : 10 * c.args.node ≡ 10 * c.args.node + 0 = omega arith in
    record {
      before = subst (λ (k : ℕ). AreFactsBefore (as_system c.args.host.now) k c.args.all.now.items) same c.requires.before;
      taken = λ _. refl;
    }

pub block-block-requires : goal.block-block-requires
block-block-requires c =
    let count : length c.args.host.now.image.now ≡ length c.args.host.now.topo.now.nodes = c.requires.ready.system.caps.count in
    omega (arith, count, c.requires.here)

pub decoder-d-requires : goal.decoder-d-requires
decoder-d-requires c = omega (arith, c.loop-i-test.true, c.count-i-end.ensures.value)

pub span_behind-span-requires : goal.span_behind-span-requires
span_behind-span-requires c = record {
  ready = c.requires.ready;
  here = c.requires.here;
  committed = record { there = rw c.block-block.ensures.value c.decoder-d.ensures.value; committed = c.if-not-d.false };
  ram = c.capacity_at-capacity.ensures.ram;
  pmem = c.capacity_at-capacity.ensures.pmem;
  taken = c.loop-i.invariant.taken;
}

pub enter_decoder-requires : goal.enter_decoder-requires
enter_decoder-requires c = record {
  ready = c.requires.ready;
  here = c.requires.here;
  few = omega (arith, c.loop-i-test.true, c.count-i-end.ensures.value, c.count-i-end.ensures.few);
  committed = record { there = rw c.block-block.ensures.value c.decoder-d.ensures.value; committed = c.if-not-d.false };
  span = c.span_behind-span.ensures;
  before = c.loop-i.invariant.before;
}

pub loop-i-preserved : goal.loop-i-preserved
loop-i-preserved c = record { before = c.enter_decoder.ensures; taken = c.span_behind-span.ensures.end }

pub returns-then-not-d : goal.returns-then-not-d
returns-then-not-d c =
    idle_rest (as_system c.args.host.now) c.committed_stand_first.ensures.before c.requires.ready c.args.node c.loop-i.i c.decoder-d.result c.loop-i.all.items
    (rw c.block-block.ensures.value c.decoder-d.ensures.value) c.if-not-d.true c.loop-i.invariant.before

pub returns : goal.returns
returns c =
    let all : length c.block-block.result.now.decoders ≤ c.loop-i.i = omega (arith, c.count-i-end.ensures.value) in
    node_worked (as_system c.args.host.now) c.args.node c.loop-i.i c.loop-i.all.items (rw c.block-block.ensures.value all) c.loop-i.invariant.before
