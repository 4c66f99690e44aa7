use Rattle.std.proofs.Common.{◌+◌, ◌<◌, ◌≤◌, length, drop, ap, ◌∙◌, arith, length-drop}
use Rattle.cxl_script.proofs.WordLemmas.{blanks, upto, from_place, no_word, some_word}
use Rattle.cxl_script.proofs.words.next_word.Goals as goal

pub returns-then-start-line : goal.returns-then-start-line
returns-then-start-line c =
    let before = c.blank_len.ensures.count ∙ ap blanks (from_place c.args.line.now c.args.at) in
    no_word c.args.line.now c.args.at (c.args.at + c.blank_len.result) (ap (λ n. c.args.at + n) before) c.if-start-line.true

pub returns : goal.returns
returns c =
    let line = c.args.line.now in
    let start = c.args.at + c.blank_len.result in
    let before = c.blank_len.ensures.count ∙ ap blanks (from_place line c.args.at) in
    let len = c.word_len.ensures.count ∙ ap upto (from_place line start) in
    let blank_bound : c.blank_len.result ≤ length (drop c.args.at line) = omega (arith, c.blank_len.ensures.within, ap length (from_place line c.args.at)) in
    let within : start < length line = omega (arith, length-drop c.args.at line) in
    let word_bound : c.word_len.result ≤ length (drop start line) = omega (arith, c.word_len.ensures.within, ap length (from_place line start)) in
    let next = some_word line c.args.at start (ap (λ n. c.args.at + n) before) c.word_len.result within len in
    (omega (arith, next.0), omega (arith, length-drop start line), next.1)
