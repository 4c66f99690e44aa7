use Rattle.std.proofs.Common.{◌≡◌, ℕ, ◌/◌, ◌<◌, ◌≤◌, Bool, ◌&&◌, not, sym, ap, ◌∙◌, arith}
use Rattle.std.specs.Prelude.{◌==◌, nat_le, length}
use Rattle.cxl_enc.proofs.Lists.{few_filtered}
use Rattle.cxl_model.specs.Hosts.{as_system}
use Rattle.cxl_model.specs.System.{System}
use Rattle.cxl_pick.specs.inner.Gifts.{can_lead, known_at, willing_of}
use Rattle.cxl_pick.proofs.Numbers.{some_count}
use Rattle.cxl_pick.proofs.Offering.{uneven, too_few, leads_with}
use Rattle.cxl_pick.proofs.asking.leads_by.Goals as goal

pub nonzero_div-m : goal.nonzero_div-m
nonzero_div-m c = some_count c.args.u c.requires.count

pub returns-then-m-u-ne0 : goal.returns-then-m-u-ne0
returns-then-m-u-ne0 c =
    sym (uneven (as_system c.args.host.now) c.args.want.now c.args.w.now c.args.node c.args.m (willing_of c.args.gifts.now.known.items c.args.children.now (c.args.m / c.args.u)) c.args.u c.if-m-u-ne0.true)

pub returns-then-from-children : goal.returns-then-from-children
returns-then-from-children c =
    let willing : ℕ = willing_of c.args.gifts.now.known.items c.args.children.now (c.args.m / c.args.u) in
    let most = few_filtered (λ k. not (known_at c.args.gifts.now.known.items k (c.args.m / c.args.u) == 0)) c.args.children.now in
    sym (too_few (as_system c.args.host.now) c.args.want.now c.args.w.now c.args.node c.args.m willing c.args.u (fewer c.from.result c.args.u (length c.args.children.now) willing c.from.ensures c.if-from-children.true most))
  where
    fewer : (r u all some : ℕ) → r ≡ u → all < r → some ≤ all → some < u
    fewer r u all some is more most = omega (arith, is, more, most)

pub returns-then-not-can_lead : goal.returns-then-not-can_lead
returns-then-not-can_lead c =
    let s : System = as_system c.args.host.now in
    let willing : ℕ = willing_of c.args.gifts.now.known.items c.args.children.now (c.args.m / c.args.u) in
    let fails = ap (λ (k : ℕ). can_lead s c.args.want.now c.args.w.now c.args.node c.args.m k c.args.u) (sym c.from-2.ensures) ∙ sym c.can_lead.ensures ∙ c.if-not-can_lead.true in
    sym (leads_with s c.args.want.now c.args.w.now c.args.node c.args.m willing c.args.u ∙ ap (λ (b : Bool). b && nat_le c.args.u willing) fails)

pub returns : goal.returns
returns c =
    let s : System = as_system c.args.host.now in
    let willing : ℕ = willing_of c.args.gifts.now.known.items c.args.children.now (c.args.m / c.args.u) in
    let can = ap (λ (k : ℕ). can_lead s c.args.want.now c.args.w.now c.args.node c.args.m k c.args.u) (sym c.from-2.ensures) ∙ sym c.can_lead.ensures ∙ c.if-not-can_lead.false in
    (λ i. nat_le (c.from-3.ensures i) (c.willing.ensures i))
    ∙ sym (leads_with s c.args.want.now c.args.w.now c.args.node c.args.m willing c.args.u ∙ ap (λ (b : Bool). b && nat_le c.args.u willing) can)
