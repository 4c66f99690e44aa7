use Rattle.std.proofs.Common.{ℕ, subst, sym, ◌∙◌, arith, below_more}
use Rattle.cxl_model.specs.System.{system_of}
use Rattle.cxl_walk.specs.Hosts.{ComesTo}
use Rattle.cxl_walk.specs.inner.WaysUp.{way_address}
use Rattle.cxl_walk.proofs.upward.first_way.Goals as goal

pub loop-way-preserved : goal.loop-way-preserved
loop-way-preserved c =
    below_more
    (λ (k : ℕ). (first : ℕ) → ComesTo (system_of c.args.image.now c.args.topo.now c.args.windows.now) c.args.ep c.args.dpa first (way_address c.args.byte.now.decoder c.args.byte.now.along k) → ⊥)
    c.loop-way.way
    c.loop-way.invariant
    (λ first comes.
    c.in_default.ensures.none first
    (subst (λ (a : ℕ). ComesTo (system_of c.args.image.now c.args.topo.now c.args.windows.now) c.args.ep c.args.dpa first a) (sym c.way_address-h.ensures) comes))

pub returns-in-Some-clause-some : goal.returns-in-Some-clause-some
returns-in-Some-clause-some c = record {
  way = c.loop-way.way;
  address = c.in-Some.ensures.same ∙ c.way_address-h.ensures;
  comes = subst (λ (a : ℕ). ComesTo (system_of c.args.image.now c.args.topo.now c.args.windows.now) c.args.ep c.args.dpa c.in-Some.host.base a) (sym c.in-Some.ensures.same) c.in-Some.ensures.some;
  before = λ k first less. c.loop-way.invariant k less first;
}

pub returns-clause-none : goal.returns-clause-none
returns-clause-none c = λ k first less.
    c.loop-way.invariant k (omega (arith, c.interleave_ways-way-end.ensures.value)) first
