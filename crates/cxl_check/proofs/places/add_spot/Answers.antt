use Rattle.std.proofs.Common.{sym, ◌∙◌}
use Rattle.cxl_check.proofs.Spots.{with_spot, without_spot}
use Rattle.cxl_check.proofs.places.add_spot.Goals as goal

pub returns-then-not-broken : goal.returns-then-not-broken
returns-then-not-broken c = λ test is before. without_spot test c.args.rule c.args.node c.args.decoder c.args.spots.now.items (sym is ∙ c.if-not-broken.true) before

pub returns : goal.returns
returns c = λ test is before.
    rw c.in_ok-push.ensures.items (with_spot test c.args.rule c.args.node c.args.decoder c.args.spots.now.items (sym is ∙ c.if-not-broken.false) before)
