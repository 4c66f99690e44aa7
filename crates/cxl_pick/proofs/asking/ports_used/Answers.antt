use Rattle.std.proofs.Common.{ℕ, Bool, ◌/◌, Option, sym, ap, ◌∙◌}
use Rattle.std.specs.Prelude.{unwrap_or}
use Rattle.cxl_model.specs.Hosts.{as_system}
use Rattle.cxl_pick.specs.inner.Gifts.{can_lead, willing_of}
use Rattle.cxl_pick.proofs.Offering.{first_eight, first_four, first_two, first_one, first_none}
use Rattle.cxl_pick.proofs.asking.ports_used.Goals as goal

pub returns-then-leads_by : goal.returns-then-leads_by
returns-then-leads_by c =
    let test : ℕ → Bool = λ u. can_lead (as_system c.args.host.now) c.args.want.now c.args.w.now c.args.node c.args.m (willing_of c.args.gifts.now.known.items c.args.children.now (c.args.m / u)) u in
    ap (λ (o : Option ℕ). unwrap_or o 0) (first_eight test (sym c.leads_by.ensures ∙ c.if-leads_by.true))

pub returns-then-leads_by-2 : goal.returns-then-leads_by-2
returns-then-leads_by-2 c =
    let test : ℕ → Bool = λ u. can_lead (as_system c.args.host.now) c.args.want.now c.args.w.now c.args.node c.args.m (willing_of c.args.gifts.now.known.items c.args.children.now (c.args.m / u)) u in
    ap (λ (o : Option ℕ). unwrap_or o 0) (first_four test (sym c.leads_by.ensures ∙ c.if-leads_by.false) (sym c.leads_by-2.ensures ∙ c.if-leads_by-2.true))

pub returns-then-leads_by-3 : goal.returns-then-leads_by-3
returns-then-leads_by-3 c =
    let test : ℕ → Bool = λ u. can_lead (as_system c.args.host.now) c.args.want.now c.args.w.now c.args.node c.args.m (willing_of c.args.gifts.now.known.items c.args.children.now (c.args.m / u)) u in
    ap (λ (o : Option ℕ). unwrap_or o 0)
    (first_two test (sym c.leads_by.ensures ∙ c.if-leads_by.false) (sym c.leads_by-2.ensures ∙ c.if-leads_by-2.false) (sym c.leads_by-3.ensures ∙ c.if-leads_by-3.true))

pub returns-then-leads_by-4 : goal.returns-then-leads_by-4
returns-then-leads_by-4 c =
    let test : ℕ → Bool = λ u. can_lead (as_system c.args.host.now) c.args.want.now c.args.w.now c.args.node c.args.m (willing_of c.args.gifts.now.known.items c.args.children.now (c.args.m / u)) u in
    ap (λ (o : Option ℕ). unwrap_or o 0)
    (first_one test (sym c.leads_by.ensures ∙ c.if-leads_by.false) (sym c.leads_by-2.ensures ∙ c.if-leads_by-2.false) (sym c.leads_by-3.ensures ∙ c.if-leads_by-3.false) (sym c.leads_by-4.ensures ∙ c.if-leads_by-4.true))

pub returns : goal.returns
returns c =
    let test : ℕ → Bool = λ u. can_lead (as_system c.args.host.now) c.args.want.now c.args.w.now c.args.node c.args.m (willing_of c.args.gifts.now.known.items c.args.children.now (c.args.m / u)) u in
    ap (λ (o : Option ℕ). unwrap_or o 0)
    (first_none test (sym c.leads_by.ensures ∙ c.if-leads_by.false) (sym c.leads_by-2.ensures ∙ c.if-leads_by-2.false) (sym c.leads_by-3.ensures ∙ c.if-leads_by-3.false) (sym c.leads_by-4.ensures ∙ c.if-leads_by-4.false))
