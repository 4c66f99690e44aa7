use Rattle.std.proofs.Common.{◌≡◌, ◌-◌, ◌+◌, ◌&&◌, ℕ, true, sym, ap, ◌∙◌, arith}
use Rattle.cxl_topo.specs.Tree.{is_endpoint_at}
use Rattle.cxl_regs.specs.declared.reading.Range.{Range}
use Rattle.cxl_regs.specs.Reading.{has_range, range_of}
use Rattle.cxl_model.specs.Hosts.{as_system}
use Rattle.cxl_model.specs.Ranges.{serves}
use Rattle.cxl_check.proofs.Numbers.{some_before}
use Rattle.cxl_check.proofs.Searches.{list_any_one}
use Rattle.cxl_check.proofs.firsts.has_earlier.Goals as goal

pub returns-then-i-count : goal.returns-then-i-count
returns-then-i-count c = λ is.
    let s = as_system c.args.host.now in
    let r = range_of c.args.d.now in
    let before = c.args.node - 1 in
    let has : has_range r c.decoder.result ≡ true = ap (λ (q : Range). has_range q c.decoder.result) (sym c.range.ensures) ∙ sym c.has_range.ensures ∙ is in
    let there : serves s r before ≡ true = rw c.block-block.ensures.value (list_any_one (has_range r) c.block-block.result.now.decoders c.args.i c.decoder.result c.decoder.ensures.value has) in
    let endpoint : is_endpoint_at s.nodes before ≡ true = sym c.is_endpoint.ensures ∙ c.if-not-is_endpoint.false in
    let next : c.args.node ≡ before + 1 = omega (arith, c.if-node-eq0.false) in
    some_before (λ (n : ℕ). is_endpoint_at s.nodes n && serves s r n) c.args.node before next (rw endpoint there)
