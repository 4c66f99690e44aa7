-- The ports above a node, one after the other.
use Rattle.std.proofs.Common.{◌≡◌, ℕ, suc, ◌+◌, ◌*◌, ◌≤◌, true, [], ◌∷◌, length, Some, None, refl, sym, ap, ◌∙◌, arith}
use Rattle.std.specs.Prelude.{nat_le}
use Rattle.std.proofs.lemmas.Bool.{agree_below_at, leb-true}
use Rattle.cxl_enc.proofs.Numbers.{sixteens, times}
use Rattle.cxl_topo.specs.declared.node.Parent.{Parent}
use Rattle.cxl_topo.specs.Tree.{ports_above}
use Rattle.cxl_regs.specs.declared.decoder.Decoder.{Decoder}
use Rattle.cxl_regs.specs.declared.reading.Range.{Range}
use Rattle.cxl_regs.specs.Reading.{decoder_ways, select_bits}
use Rattle.cxl_model.specs.System.{System}
use Rattle.cxl_model.specs.Ranges.{decoder_for, ways_above, bits_above}
use Rattle.cxl_check.proofs.WaysUp.{few_ways, few_bits, top_ways, top_bits, more_ways, more_bits, same_ways, same_bits}

few_sixteens : (k : ℕ) → k ≤ 5 → sixteens k ≤ 1048576
few_sixteens k few = leb-true (sixteens k) 1048576 (agree_below_at (λ (n : ℕ). nat_le (sixteens n) 1048576) (λ n. true) 6 k refl (omega (arith, few)))

regroup : (a b c : ℕ) → a * (b * c) ≡ a * b * c
regroup a b c = grind arith

-- how many ports were passed
pub record AreFew (ways bits left : ℕ) : Type 0 where
  pub passed : ℕ
  pub ways_few : ways ≤ sixteens passed
  pub bits_few : bits ≤ 4 * passed
  pub all : passed + left ≤ 5

-- the ports between node n and one above it have these ways and bits
pub record ArePassed (s : System) (r : Range) (n below ways bits : ℕ) : Type 0 where
  pub ways_are : ways_above s r n ≡ ways * ways_above s r below
  pub bits_are : bits_above s r n ≡ bits + bits_above s r below
  pub few : AreFew ways bits (length (ports_above s.nodes below))
  pub up : below ≤ n

pub few_now : (ways bits left : ℕ) → AreFew ways bits left → (ways ≤ 1048576) × (bits ≤ 20)
few_now ways bits left few =
    let most = few_sixteens few.passed (omega (arith, few.all)) in
    (omega (arith, most, few.ways_few), omega (arith, few.all, few.bits_few))

pub one_few : (ways bits left : ℕ) (d : Decoder) → AreFew ways bits (suc left) → AreFew (ways * decoder_ways d) (bits + select_bits d.ways) left
one_few ways bits left d few =
    let product = times ways (sixteens few.passed) (decoder_ways d) 16 few.ways_few (few_ways d) in
    record {
      passed = suc few.passed;
      ways_few = omega (arith, product);
      bits_few = omega (arith, few.bits_few, few_bits d);
      all = omega (arith, few.all);
    }

fewer : (ways bits left : ℕ) → AreFew ways bits (suc left) → AreFew ways bits left
fewer ways bits left few = record { passed = few.passed; ways_few = few.ways_few; bits_few = few.bits_few; all = omega (arith, few.all) }

module _ (s : System) (r : Range) (n below : ℕ) (parent : Parent) (ports : ports_above s.nodes below ≡ parent ∷ ports_above s.nodes parent.node) (later : parent.node ≤ below) where
  pub left : (ways bits : ℕ) → ArePassed s r n below ways bits → AreFew ways bits (suc (length (ports_above s.nodes parent.node)))
  left ways bits passed = rw ports at passed.few

  pub with_port : (ways bits : ℕ) (d : Decoder) → ArePassed s r n below ways bits → decoder_for s r parent.node ≡ Some d
      → ArePassed s r n parent.node (ways * decoder_ways d) (bits + select_bits d.ways)
  with_port ways bits d passed has =
      let more = more_bits s r below parent ports d has in
      record {
        ways_are = passed.ways_are ∙ ap (λ (k : ℕ). ways * k) (more_ways s r below parent ports d has) ∙ regroup ways (decoder_ways d) (ways_above s r parent.node);
        bits_are = omega (arith, more, passed.bits_are);
        few = one_few ways bits (length (ports_above s.nodes parent.node)) d (left ways bits passed);
        up = omega (arith, later, passed.up);
      }

  pub without_port : (ways bits : ℕ) → ArePassed s r n below ways bits → decoder_for s r parent.node ≡ None → ArePassed s r n parent.node ways bits
  without_port ways bits passed lacks = record {
    ways_are = passed.ways_are ∙ ap (λ (k : ℕ). ways * k) (same_ways s r below parent ports lacks);
    bits_are = passed.bits_are ∙ ap (λ (k : ℕ). bits + k) (same_bits s r below parent ports lacks);
    few = fewer ways bits (length (ports_above s.nodes parent.node)) (left ways bits passed);
    up = omega (arith, later, passed.up);
  }

-- none are passed as it begins, and all where no port is left
pub none_passed : (s : System) (r : Range) (n : ℕ) → length (ports_above s.nodes n) ≤ 5 → ArePassed s r n n 1 0
none_passed s r n few = record {
  ways_are = once (ways_above s r n);
  bits_are = plain (bits_above s r n);
  few = record { passed = 0; ways_few = omega arith; bits_few = omega arith; all = omega (arith, few) };
  up = omega arith;
}
  where
    once : (k : ℕ) → k ≡ 1 * k
    once k = omega arith

    plain : (k : ℕ) → k ≡ 0 + k
    plain k = omega arith

pub all_passed : (s : System) (r : Range) (n below ways bits : ℕ) → ports_above s.nodes below ≡ [] → ArePassed s r n below ways bits → (ways ≡ ways_above s r n) × (bits ≡ bits_above s r n)
all_passed s r n below ways bits top passed =
    let w = top_ways s r below top in
    let b = top_bits s r below top in
    (sym (passed.ways_are ∙ ap (λ (k : ℕ). ways * k) w ∙ once ways), sym (passed.bits_are ∙ ap (λ (k : ℕ). bits + k) b ∙ plain bits))
  where
    once : (k : ℕ) → k * 1 ≡ k
    once k = omega arith

    plain : (k : ℕ) → k + 0 ≡ k
    plain k = omega arith

-- the product of one more port fits
pub product_fits : (ways bits left : ℕ) (d : Decoder) → AreFew ways bits (suc left) → ways * decoder_ways d ≤ 1048576
product_fits ways bits left d few = (few_now (ways * decoder_ways d) (bits + select_bits d.ways) left (one_few ways bits left d few)).0
