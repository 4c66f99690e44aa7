use Rattle.std.proofs.Common.{◌≡◌, ◌≤◌, ℕ, length, eqb, unwrap_or, Option, Some, sym, ap, subst, ◌∙◌, arith}
use Rattle.cxl_enc.specs.Codes.{ways_of}
use Rattle.cxl_cedt.specs.Table.{fields}
use Rattle.cxl_cedt.specs.inner.Decoding.{known_ways, cfmws_of}
use Rattle.cxl_cedt.proofs.Places.{length-fields}
use Rattle.cxl_cedt.proofs.Sound.{same_cfmws}
use Rattle.cxl_cedt.proofs.decoding.cfmws_of.Goals as goal

pub u8_at-ways-requires : goal.u8_at-ways-requires
u8_at-ways-requires c = omega (arith, c.requires.size)

pub u32s_at-requires : goal.u32s_at-requires
u32s_at-requires c =
    let count : c.unwrap_or-count.result ≡ known_ways c.args.text.now = c.unwrap_or-count.ensures ∙ ap (λ (o : Option ℕ). unwrap_or o 0) (c.ways_of.ensures.exact ∙ ap ways_of c.u8_at-ways.ensures) in
    omega (arith, c.requires.size, count)

pub u64_at-requires : goal.u64_at-requires
u64_at-requires c = omega (arith, c.requires.size)

pub u64_at-requires-2 : goal.u64_at-requires-2
u64_at-requires-2 c = omega (arith, c.requires.size)

pub u8_at-requires : goal.u8_at-requires
u8_at-requires c = omega (arith, c.requires.size)

pub u32_at-requires : goal.u32_at-requires
u32_at-requires c = omega (arith, c.requires.size)

pub u16_at-requires : goal.u16_at-requires
u16_at-requires c = omega (arith, c.requires.size)

pub u16_at-requires-2 : goal.u16_at-requires-2
u16_at-requires-2 c = omega (arith, c.requires.size)

pub new-requires-clause-ways : goal.new-requires-clause-ways
new-requires-clause-ways c =
    let count : c.unwrap_or-count.result ≡ known_ways c.args.text.now = c.unwrap_or-count.ensures ∙ ap (λ (o : Option ℕ). unwrap_or o 0) (c.ways_of.ensures.exact ∙ ap ways_of c.u8_at-ways.ensures) in
    let targets : length c.in_ok-targets.targets.items ≡ known_ways c.args.text.now = ap length c.in_ok-targets.ensures ∙ length-fields c.args.text.now 36 4 c.unwrap_or-count.result ∙ count in
    ap ways_of c.u8_at-ways.ensures ∙ c.requires.ways ∙ ap Some (sym targets)

pub new-requires-clause-gran : goal.new-requires-clause-gran
new-requires-clause-gran c = subst (λ (n : ℕ). n ≤ 6) (sym c.u32_at.ensures) c.requires.gran

pub returns : goal.returns
unfolding cfmws_of
returns c =
    let count : c.unwrap_or-count.result ≡ known_ways c.args.text.now = c.unwrap_or-count.ensures ∙ ap (λ (o : Option ℕ). unwrap_or o 0) (c.ways_of.ensures.exact ∙ ap ways_of c.u8_at-ways.ensures) in
    c.new.ensures ∙ same_cfmws c.u64_at.ensures c.u64_at-2.ensures c.u8_at-ways.ensures (ap (λ (n : ℕ). eqb n 1) c.u8_at.ensures) c.u32_at.ensures c.u16_at.ensures c.u16_at-2.ensures
    (c.in_ok-targets.ensures ∙ ap (fields c.args.text.now 36 4) count)
