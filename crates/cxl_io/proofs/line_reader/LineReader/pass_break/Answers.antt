use Rattle.std.proofs.Common.{◌≡◌, ◌+◌, ◌-◌, [], ◌∷◌, ◌++◌, take, drop, sym, ap, subst, ◌∙◌, arith}
use Rattle.cxl_io.specs.Lines.{ended_lines}
use Rattle.cxl_io.specs.ReaderSteps.{PassesBreak, PassesAll, kept_with}
use Rattle.cxl_io.proofs.LineBreaks.{break_found, break_none, later-unbroken}
use Rattle.cxl_io.proofs.Reading.{held-split, reader_with}
use Rattle.cxl_io.proofs.line_reader.LineReader.pass_break.Goals as goal

pub returns-in-Some-clause-found : goal.returns-in-Some-clause-found
unfolding reader_with
returns-in-Some-clause-found c =
    let r = c.self.inside in
    let n = c.in-Some.n in
    let block = c.deref.result.now in
    let held = take (r.end - r.at) (drop r.at block) in
    let found = break_found held n (sym c.first_break.ensures ∙ c.in-Some.is) in
    let same = c.deref.ensures.value in
    let rest = take (r.end - (r.at + (n + 1))) (drop (r.at + (n + 1)) r.block.items) in
    let order = c.self.invariant.0 in
    subst (λ old. PassesBreak old (reader_with r.taken rest c.keep.new.line.items r.stop)) c.self.view_is (record {
      piece = take n held;
      rest = rest;
      split =
          ap (λ b. take (r.end - r.at) (drop r.at b)) (sym same) ∙ held-split block r.at r.end n order found.0 found.1
          ∙ ap (λ b. take n held ++ 10 ∷ take (r.end - (r.at + (n + 1))) (drop (r.at + (n + 1)) b)) same;
      unbroken = later-unbroken (take n held) found.1.unbroken;
      after = ap (λ line. reader_with r.taken rest line r.stop) c.keep.ensures.kept;
    })

pub returns-in-None-clause-none : goal.returns-in-None-clause-none
unfolding reader_with
returns-in-None-clause-none c =
    let r = c.self.inside in
    let block = c.deref.result.now in
    let held = take (r.end - r.at) (drop r.at block) in
    let same : held ≡ take (r.end - r.at) (drop r.at r.block.items) = ap (λ b. take (r.end - r.at) (drop r.at b)) c.deref.ensures.value in
    let none : r.end - r.end ≡ 0 = omega arith in
    subst (λ old. PassesAll old (reader_with r.taken (take (r.end - r.end) (drop r.end r.block.items)) c.keep-in-None.new.line.items r.stop)) c.self.view_is (record {
      unbroken = ap ended_lines (sym same) ∙ break_none held (sym c.first_break.ensures ∙ c.in-None.is);
      after =
          ap (λ k. reader_with r.taken (take k (drop r.end r.block.items)) c.keep-in-None.new.line.items r.stop) none
          ∙ ap (λ line. reader_with r.taken [] line r.stop) (c.keep-in-None.ensures.kept ∙ ap (kept_with r.line.items) same);
    })
