use Rattle.std.proofs.Common.{◌-◌, false, refl, ap, ◌∙◌, arith, length-set}
use Rattle.std.proofs.lemmas.List.{drop_all}
use Rattle.std.specs.Fmt.{digits_onto}
use Rattle.cxl_io.proofs.HexText.{quotient_fits, has_digit, digits_onto-whole, written_last, written_more, written_before}
use Rattle.cxl_io.proofs.print.write_hex.Goals as goal

pub loop-left-init : goal.loop-left-init
loop-left-init c = record {
  all = c.told-text;
  room = omega arith;
  within = omega arith;
  small = omega arith;
  digits =
      ap (digits_onto 64 16 false c.args.n) (drop_all 16 c.args.text.now (omega (arith, c.told-text)))
      ∙ digits_onto-whole c.args.n;
  before = refl;
}

pub returns-then-left-eq0-clause-written : goal.returns-then-left-eq0-clause-written
returns-then-left-eq0-clause-written c =
    let l = c.loop-left in
    written_last l.text l.at l.left _ l.invariant.room (omega arith) c.hex_digit.ensures c.args.n c.if-left-eq0.true l.invariant.digits

pub returns-then-left-eq0-clause-before : goal.returns-then-left-eq0-clause-before
returns-then-left-eq0-clause-before c =
    written_before c.loop-left.text c.args.text.now c.loop-left.at _ c.loop-left.invariant.before

pub loop-left-preserved : goal.loop-left-preserved
loop-left-preserved c =
    let l = c.loop-left in
    let small = quotient_fits l.at l.left l.invariant.room l.invariant.small in
    record {
      all = length-set l.text (l.at - 1) c.hex_digit.result ∙ l.invariant.all;
      room = has_digit (l.at - 1) _ c.if-left-eq0.false small;
      within = let h = l.invariant.within in omega arith;
      small = small;
      digits = written_more l.text l.at l.left _ l.invariant.room (omega arith) c.hex_digit.ensures c.args.n c.if-left-eq0.false l.invariant.digits;
      before = written_before l.text c.args.text.now l.at _ l.invariant.before;
    }
