use Rattle.std.proofs.Common.{◌≡◌, ◌<◌, ℕ, List, Some, sym, ◌∙◌, subst, arith}
use Rattle.std.proofs.lemmas.List.{length-set}
use Rattle.cxl_bus.proofs.Failed.{fails_none, fails_once}
use Rattle.cxl_regs.specs.Registers.{Registers}
use Rattle.cxl_regs.specs.Words.{offset_of}
use Rattle.cxl_regs.specs.Blocks.{IsPlace, word_in}
use Rattle.cxl_model.specs.declared.plan.Row.{Row}
use Rattle.cxl_opening.proofs.Errors.{at_any_err}
use Rattle.cxl_session.proofs.Shows.{read_more, read_stops, place_there, word_is, word_more}
use Rattle.cxl_session.proofs.showing.read_row.Goals as goal

pub read32-requires : goal.read32-requires
read32-requires g c =
    let row : Row = c.args.row.now in
    let place : ℕ = c.loop-place.place in
    let low : place < 8 = omega arith in
    subst (λ (off : ℕ). IsPlace (g.R.Regs.state c.loop-place.regs).blocks row.node off) (sym c.offset_of.ensures.offset)
    (subst (λ (blocks : List Registers). IsPlace blocks row.node (offset_of row.index place)) (sym c.loop-place.invariant.read.same.blocks)
    (place_there (g.R.Regs.state c.args.regs.now).blocks row c.requires place low))

pub loop-place-preserved : goal.loop-place-preserved
loop-place-preserved g c =
    let row : Row = c.args.row.now in
    let place : ℕ = c.loop-place.place in
    let word : ℕ = c.in_ok-words.field-0 in
    let low : place < 7 = omega arith in
    let long = c.loop-place.invariant.long in
    let read : word_in (g.R.Regs.state c.args.regs.now).blocks row.node (offset_of row.index place) ≡ Some word =
    subst (λ (blocks : List Registers). word_in blocks row.node (offset_of row.index place) ≡ Some word) c.loop-place.invariant.read.same.blocks
    (subst (λ (off : ℕ). word_in (g.R.Regs.state c.loop-place.regs).blocks row.node off ≡ Some word) c.offset_of.ensures.offset c.in_ok-words.ensures.word) in
    record {
      long = length-set c.loop-place.words place word ∙ long;
      few = omega arith;
      are =
          word_more row place c.loop-place.words word low long c.loop-place.invariant.are
          (word_is (g.R.Regs.state c.args.regs.now).blocks row c.requires place word (omega (arith, low)) read);
      read =
          read_more (g.R.Regs.state c.args.regs.now) (g.R.Regs.state c.loop-place.regs) (g.R.Regs.state c.read32.new.self) c.loop-place.invariant.read c.read32.ensures.same
          c.read32.ensures.counts
          (fails_none (g.R.Regs.state c.loop-place.regs) (g.R.Regs.state c.read32.new.self) c.in_ok-words.ensures.unfailed c.read32.ensures.counts c.read32.ensures.alone c.in_ok-words.ensures.unswallowed);
    }

pub returns-in_err-words-clause-failed : goal.returns-in_err-words-clause-failed
returns-in_err-words-clause-failed g c =
    let now = g.R.Regs.state c.loop-place.regs in
    let new = g.R.Regs.state c.read32.new.self in
    at_any_err c.from_residual.result _
    (read_stops (g.R.Regs.state c.args.regs.now) now new c.loop-place.invariant.read (fails_once now new c.in_err-words.ensures.failed c.in_err-words.ensures.cause c.read32.ensures.alone c.in_err-words.ensures.counted))
