use Rattle.std.proofs.Common.{◌-◌, length, drop, ap, ◌∙◌, arith, length-drop}
use Rattle.std.proofs.lemmas.List.{take-replicate, take_all}
use Rattle.cxl_io.proofs.HexText.{padded_from}
use Rattle.cxl_io.proofs.ReadBack.{number_of-padded_hex, padded_hex-one}
use Rattle.cxl_io.proofs.print.put_hex.Goals as goal

pub returns-clause-ok : goal.returns-clause-ok
returns-clause-ok c =
    let start = c.write_hex.result in
    let from = c.min-start.result in
    let text = c.write_hex.new.text in
    let digits = c.write_hex.ensures.start in
    let width = c.from.ensures in
    let least = c.min-start.ensures in
    let few = c.requires.width.1 in
    let zeros = c.write_hex.ensures.before ∙ take-replicate start 16 48 (omega arith) in
    let padded = padded_from text c.args.n start from c.args.width zeros c.write_hex.ensures.written (omega arith) (omega arith) in
    let whole = take_all (16 - from) (drop from text) (omega (arith, length-drop from text, length-drop start text, ap length c.write_hex.ensures.written)) in
    rw (whole ∙ padded) at c.put_digits.ensures.ok

pub returns-clause-plain : goal.returns-clause-plain
returns-clause-plain c = padded_hex-one c.args.n (omega arith)

pub returns-clause-read_back : goal.returns-clause-read_back
returns-clause-read_back c = number_of-padded_hex c.args.n c.args.width (omega arith)
