use Rattle.std.proofs.Common.{◌≡◌, true, sym, ◌∙◌, rules}
use Rattle.cxl_script.specs.Reading.{is_hex}
use Rattle.cxl_script.proofs.HexBytes.{too_many, few_enough}
use Rattle.cxl_script.proofs.reading.word_as_bytes.Goals as goal

pub returns-then-word-most : goal.returns-then-word-most
returns-then-word-most c =
    let hex : is_hex c.args.word.text.now ≡ true = sym c.is_hex.ensures ∙ c.if-not-is_hex.false in
    rw (too_many c.args.most c.args.word.at c.args.word.text.now hex c.if-word-most.true) (search rules)

pub returns : goal.returns
returns c =
    let hex : is_hex c.args.word.text.now ≡ true = sym c.is_hex.ensures ∙ c.if-not-is_hex.false in
    rw (few_enough c.args.most c.args.word.at c.args.word.text.now hex c.if-word-most.false) (search rules)
