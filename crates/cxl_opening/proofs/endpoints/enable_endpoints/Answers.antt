use Rattle.std.proofs.Common.{◌<◌, List, ℕ, length, ap, ◌∙◌, arith}
use Rattle.std.proofs.lemmas.List.{take_all}
use Rattle.std.proofs.Math.Nat.{le_trans}
use Rattle.cxl_bus.proofs.Failed.{fails_none, fails_once}
use Rattle.cxl_bus.specs.Trail.{blocks_sent, trail_with}
use Rattle.cxl_opening.specs.Opening.{enabling}
use Rattle.cxl_opening.proofs.Enabling.{enabled_none, enabled_more, enabled_stops}
use Rattle.cxl_opening.proofs.Errors.{not_ok, at_any_err}
use Rattle.cxl_opening.proofs.endpoints.enable_endpoints.Goals as goal

pub loop-node-init : goal.loop-node-init
loop-node-init g c = enabled_none c.args.endpoints.now (g.R.Regs.state c.args.regs.now)

pub write32-requires : goal.write32-requires
write32-requires g c =
    let low : c.loop-node.node-index < length c.args.endpoints.now = omega arith in
    c.loop-node.invariant.places _ _ (c.requires c.loop-node.node-index 0 low)

pub loop-node-preserved : goal.loop-node-preserved
loop-node-preserved g c =
    let low : c.loop-node.node-index < length c.args.endpoints.now = omega arith in
    enabled_more c.args.endpoints.now c.loop-node.node-index (g.R.Regs.state c.args.regs.now) (g.R.Regs.state c.loop-node.regs) (g.R.Regs.state c.write32.new.self) low c.loop-node.invariant
    c.in_ok-write32.ensures.written c.in_ok-write32.ensures.sent c.write32.ensures.counts c.write32.ensures.alone c.in_ok-write32.ensures.unswallowed
    (fails_none (g.R.Regs.state c.loop-node.regs) (g.R.Regs.state c.write32.new.self) c.in_ok-write32.ensures.unfailed c.write32.ensures.counts c.write32.ensures.alone c.in_ok-write32.ensures.unswallowed) c.writes_keep_places.ensures

pub returns : goal.returns
returns g c =
    let old = g.R.Regs.state c.args.regs.now in
    let so_far = c.loop-node.invariant in
    let all = take_all c.loop-node.node-index c.args.endpoints.now (omega arith) in
    record {
      blocks = so_far.blocks ∙ ap (λ (nodes : List ℕ). blocks_sent old.blocks (enabling nodes)) all;
      words = so_far.words ∙ ap (λ (nodes : List ℕ). trail_with old.trail (enabling nodes)) all;
      stopped = tt;
      cause = tt;
      counts = so_far.counts;
      alone = so_far.alone;
      unswallowed = so_far.unswallowed;
      unfailed = so_far.unfailed;
    }

pub returns-in_err-write32 : goal.returns-in_err-write32
returns-in_err-write32 g c =
    let low : c.loop-node.node-index < length c.args.endpoints.now = omega arith in
    let now = g.R.Regs.state c.loop-node.regs in
    let new = g.R.Regs.state c.write32.new.self in
    let so_far = c.loop-node.invariant in
    let failed = c.from_residual in
    let cause = c.in_err-write32.ensures.cause in
    let before = so_far.counts in
    record {
      blocks = not_ok _ failed.result _ failed.ensures.1;
      words = not_ok _ failed.result _ failed.ensures.1;
      stopped =
          at_any_err failed.result _
          (enabled_stops c.args.endpoints.now c.loop-node.node-index (g.R.Regs.state c.args.regs.now) now new low so_far c.in_err-write32.ensures.err
          (fails_once now new c.in_err-write32.ensures.failed cause c.write32.ensures.alone c.in_err-write32.ensures.counted));
      cause = at_any_err failed.result _ (omega (arith, before, cause));
      counts = le_trans before c.write32.ensures.counts;
      alone = c.write32.ensures.alone ∙ so_far.alone;
      unswallowed = not_ok _ failed.result _ failed.ensures.1;
      unfailed = not_ok _ failed.result _ failed.ensures.1;
    }
