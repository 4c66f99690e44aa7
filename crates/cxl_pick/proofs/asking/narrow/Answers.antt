use Rattle.std.proofs.Common.{ℕ, ◌<◌, ◌≤◌, refl, subst, arith}
use Rattle.cxl_model.specs.Hosts.{as_system}
use Rattle.cxl_pick.proofs.Known.{open_alike}
use Rattle.cxl_pick.proofs.asking.narrow.Goals as goal

pub returns : goal.returns
returns c = record {
  gifts =
      λ want are. record {
        count = are.count;
        each = λ n gift w start at asked.
            let from = c.narrowed-gifts.ensures.from in
            let until = c.narrowed-gifts.ensures.until in
            let least = asked.least in
            let most = asked.most in
            are.each n gift w start at record { code = asked.code; third = asked.third; least = omega (arith, from, least); most = omega (arith, until, most) };
        closed = are.closed;
      };
  asked =
      λ want w asked. record {
        code = asked.code;
        third = asked.third;
        least = c.narrowed-gifts.ensures.least asked.least;
        most = c.narrowed-gifts.ensures.most asked.most;
      };
  alike =
      λ want w other asked.
      open_alike (as_system c.args.host.now) c.narrowed-gifts.result.from c.narrowed-gifts.result.until c.args.start other c.args.node
      (subst (λ (end : ℕ). end ≤ c.args.start → end ≤ c.narrowed-gifts.result.from) c.end_of.ensures c.narrowed-gifts.ensures.below)
      (subst (λ (end : ℕ). c.args.start < end → c.narrowed-gifts.result.until ≤ end) c.end_of.ensures c.narrowed-gifts.ensures.above) asked.least asked.most;
  known = refl;
}
