use Rattle.std.proofs.Common.{◌≡◌, ◌+◌, ℕ, Option, sym, subst, ◌∙◌, inl, inr, arith, rules}
use Rattle.std.proofs.lemmas.Bool.{cases_Bool}
use Rattle.cxl_span.specs.inner.Least.{IsLeastAt, least_rule}
use Rattle.cxl_span.proofs.Sums.{taken_more}
use Rattle.cxl_span.proofs.BreaksAt.{before_next}
use Rattle.cxl_span.proofs.LeastRules.{least_here, least_of_port, none_of_all, first_of_all}
use Rattle.cxl_span.proofs.breach.block_breach.Goals as goal

pub loop-i-preserved : goal.loop-i-preserved
loop-i-preserved c =
    let block = c.args.block.now in
    let d = c.decoder-d.result in
    let i = c.loop-i.i in
    let start : ℕ = c.loop-i.taken + d.tail in
    let more = taken_more block.decoders i d c.decoder-d.ensures.value in
    let least : IsLeastAt block c.args.ram c.args.pmem i (least_rule block c.args.ram c.args.pmem c.loop-i.below start d) =
    elim (cases_Bool block.endpoint) [
      | inl endpoint ↦ least_here block c.args.ram c.args.pmem i d c.loop-i.below c.loop-i.taken c.decoder-d.ensures.value c.loop-i.invariant.below (c.loop-i.invariant.taken endpoint)
      | inr port ↦ least_of_port block c.args.ram c.args.pmem i d c.loop-i.below start port c.decoder-d.ensures.value c.loop-i.invariant.below
    ] in
    let is : c.least_rule-rule.result ≡ least_rule block c.args.ram c.args.pmem c.loop-i.below start d = search rules in
    record {
      taken = λ endpoint. omega (arith, more, c.loop-i.invariant.taken endpoint, c.span_bytes-len.ensures (c.endpoint-endpoint.ensures.value ∙ endpoint));
      small = omega (arith, c.loop-i.invariant.small, c.span_bytes-len.type_inv, c.decoder-d.ensures.decoder);
      below = sym (before_next block.decoders i d c.decoder-d.ensures.value);
      found = c.earlier-first.ensures block c.args.ram c.args.pmem c.loop-i.invariant.found
          (subst (λ (o : Option ℕ). IsLeastAt block c.args.ram c.args.pmem i o) (sym is) least);
    }

pub returns-clause-none : goal.returns-clause-none
returns-clause-none c =
    none_of_all c.args.block.now c.args.ram c.args.pmem c.loop-i.i c.loop-i.first (omega arith) c.loop-i.invariant.found

pub returns-clause-first : goal.returns-clause-first
returns-clause-first c =
    first_of_all c.args.block.now c.args.ram c.args.pmem c.loop-i.i c.loop-i.first (omega arith) c.loop-i.invariant.found
