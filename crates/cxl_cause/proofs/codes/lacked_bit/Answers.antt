use Rattle.std.proofs.Common.{◌≡◌, ◌+◌, ◌-◌, ◌<◌, ◌≤◌, ℕ, Bool, true, false, not, Some, sym, ap, ◌∙◌, arith}
use Rattle.std.specs.Prelude.{find}
use Rattle.std.specs.List.{range_with_len}
use Rattle.cxl_regs.specs.Reading.{select_bits}
use Rattle.cxl_regs.specs.Rules.{selects}
use Rattle.cxl_cause.proofs.Searches.{found_here, found_later, found_none}
use Rattle.cxl_cause.proofs.codes.lacked_bit.Goals as goal

pub loop-k-init : goal.loop-k-init
loop-k-init c =
    let lacks : ℕ → Bool = λ (bit : ℕ). not (selects c.args.cap bit) in
    let first : c.args.d.now.gran + 8 ≡ c.args.d.now.gran + 8 + 0 = omega arith in
    let all : select_bits c.args.d.now.ways ≡ select_bits c.args.d.now.ways - 0 = omega arith in
    ap (λ (m : ℕ). find lacks (range_with_len m (select_bits c.args.d.now.ways))) first ∙ ap (λ (n : ℕ). find lacks (range_with_len (c.args.d.now.gran + 8 + 0) n)) all

pub returns-then-not-selects : goal.returns-then-not-selects
returns-then-not-selects c =
    let lacks : ℕ → Bool = λ (bit : ℕ). not (selects c.args.cap bit) in
    let gran : ℕ = c.args.d.now.gran in
    let k : ℕ = c.loop-k.k in
    let bit_is : c.from.result + 8 + c.from-in-loop-k.result ≡ gran + 8 + k = omega (arith, c.from.ensures, c.from-in-loop-k.ensures) in
    let less : k < select_bits c.args.d.now.ways = omega (arith, c.select_bits-k-end.ensures) in
    let fails : lacks (gran + 8 + k) ≡ true = ap lacks (sym bit_is) ∙ ap not (sym c.selects.ensures ∙ c.if-not-selects.true) in
    ap (λ (bit : ℕ). Some bit) bit_is ∙ sym (c.loop-k.invariant ∙ found_here lacks (gran + 8) k (select_bits c.args.d.now.ways) less fails)

pub loop-k-preserved : goal.loop-k-preserved
loop-k-preserved c =
    let lacks : ℕ → Bool = λ (bit : ℕ). not (selects c.args.cap bit) in
    let gran : ℕ = c.args.d.now.gran in
    let k : ℕ = c.loop-k.k in
    let bit_is : c.from.result + 8 + c.from-in-loop-k.result ≡ gran + 8 + k = omega (arith, c.from.ensures, c.from-in-loop-k.ensures) in
    let less : k < select_bits c.args.d.now.ways = omega (arith, c.select_bits-k-end.ensures) in
    let passes : lacks (gran + 8 + k) ≡ false = ap lacks (sym bit_is) ∙ ap not (sym c.selects.ensures ∙ c.if-not-selects.false) in
    c.loop-k.invariant ∙ found_later lacks (gran + 8) k (select_bits c.args.d.now.ways) less passes

pub returns : goal.returns
returns c =
    let lacks : ℕ → Bool = λ (bit : ℕ). not (selects c.args.cap bit) in
    let past : select_bits c.args.d.now.ways ≤ c.loop-k.k = omega (arith, c.loop-k-test.false, c.select_bits-k-end.ensures) in
    sym (c.loop-k.invariant ∙ found_none lacks (c.args.d.now.gran + 8) c.loop-k.k (select_bits c.args.d.now.ways) past)
