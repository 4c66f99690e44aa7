use Rattle.std.proofs.Common.{ℕ, length, sym, ◌∙◌}
use Rattle.cxl_model.specs.Hosts.{as_system}
use Rattle.cxl_pick.specs.inner.Gifts.{offers_of}
use Rattle.cxl_reason.proofs.Offers.{open_one, shut_one, counts_same}
use Rattle.cxl_reason.proofs.serving.port_counts.Goals as goal

pub returns-then-not-is_open : goal.returns-then-not-is_open
returns-then-not-is_open c =
    let s = as_system c.args.host.now in
    let offers : ℕ → ℕ = λ v. length (offers_of s c.args.want.now c.args.w.now c.args.start c.args.node v) in
    counts_same c.no_counts.result (λ m. 0) _ (λ m. shut_one s c.args.want.now c.args.w.now c.args.start c.args.node m offers (sym c.is_open.ensures ∙ c.if-not-is_open.true)) c.no_counts.ensures

pub returns : goal.returns
returns c =
    let s = as_system c.args.host.now in
    let offers : ℕ → ℕ = λ v. length (offers_of s c.args.want.now c.args.w.now c.args.start c.args.node v) in
    let opened = sym c.is_open.ensures ∙ c.if-not-is_open.false in
    record {
      one = c.leads.ensures offers c.requires.offers ∙ open_one s c.args.want.now c.args.w.now c.args.start c.args.node 1 offers opened;
      two = c.leads-2.ensures offers c.requires.offers ∙ open_one s c.args.want.now c.args.w.now c.args.start c.args.node 2 offers opened;
      three = c.leads-3.ensures offers c.requires.offers ∙ open_one s c.args.want.now c.args.w.now c.args.start c.args.node 3 offers opened;
      four = c.leads-4.ensures offers c.requires.offers ∙ open_one s c.args.want.now c.args.w.now c.args.start c.args.node 4 offers opened;
      six = c.leads-5.ensures offers c.requires.offers ∙ open_one s c.args.want.now c.args.w.now c.args.start c.args.node 6 offers opened;
      eight = c.leads-6.ensures offers c.requires.offers ∙ open_one s c.args.want.now c.args.w.now c.args.start c.args.node 8 offers opened;
      twelve = c.leads-7.ensures offers c.requires.offers ∙ open_one s c.args.want.now c.args.w.now c.args.start c.args.node 12 offers opened;
      sixteen = c.leads-8.ensures offers c.requires.offers ∙ open_one s c.args.want.now c.args.w.now c.args.start c.args.node 16 offers opened;
    }
