use Rattle.std.proofs.Common.{ℕ, ◌≡◌, sym, ◌∙◌}
use Rattle.cxl_model.specs.Hosts.{as_system}
use Rattle.cxl_pick.specs.inner.Gifts.{used_with}
use Rattle.cxl_pick.proofs.Known.{shut_used, open_used}
use Rattle.cxl_pick.proofs.asking.port_gift.Goals as goal

pub returns-then-not-is_open : goal.returns-then-not-is_open
returns-then-not-is_open c =
    let none : (m : ℕ) → 0 ≡ used_with (as_system c.args.host.now) c.args.want.now c.args.w.now c.args.start c.args.gifts.now.known.items c.args.children.now c.args.node m =
    λ m. shut_used (as_system c.args.host.now) c.args.want.now c.args.w.now c.args.start c.args.gifts.now.known.items c.args.children.now c.args.node m (sym c.is_open.ensures ∙ c.if-not-is_open.true) in
    record { one = none 1; two = none 2; four = none 4; eight = none 8; sixteen = none 16 }

pub returns : goal.returns
returns c =
    let s = as_system c.args.host.now in
    let opened = sym c.is_open.ensures ∙ c.if-not-is_open.false in
    record {
      one = c.ports_used-one.ensures ∙ open_used s c.args.want.now c.args.w.now c.args.start c.args.gifts.now.known.items c.args.children.now c.args.node 1 opened;
      two = c.ports_used-two.ensures ∙ open_used s c.args.want.now c.args.w.now c.args.start c.args.gifts.now.known.items c.args.children.now c.args.node 2 opened;
      four = c.ports_used-four.ensures ∙ open_used s c.args.want.now c.args.w.now c.args.start c.args.gifts.now.known.items c.args.children.now c.args.node 4 opened;
      eight = c.ports_used-eight.ensures ∙ open_used s c.args.want.now c.args.w.now c.args.start c.args.gifts.now.known.items c.args.children.now c.args.node 8 opened;
      sixteen = c.ports_used-sixteen.ensures ∙ open_used s c.args.want.now c.args.w.now c.args.start c.args.gifts.now.known.items c.args.children.now c.args.node 16 opened;
    }
