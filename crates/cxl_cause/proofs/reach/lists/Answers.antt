use Rattle.std.proofs.Common.{ℕ, ◌&&◌, sym, arith, ◌∙◌}
use Rattle.std.specs.Prelude.{◌==◌}
use Rattle.std.specs.List.{list_any}
use Rattle.std.proofs.lemmas.Option.{slice_get_within}
use Rattle.cxl_regs.specs.declared.decoder.Decoder.{Decoder}
use Rattle.cxl_regs.specs.Reading.{has_range, entries_of}
use Rattle.cxl_check.proofs.Searches.{list_any_one, list_any_no, none_more}
use Rattle.cxl_cause.proofs.reach.lists.Goals as goal

pub returns-then-lists_in_range : goal.returns-then-lists_in_range
returns-then-lists_in_range c =
    rw c.block-block.ensures.value
    (sym (list_any_one (λ (d : Decoder). has_range c.args.range.now d && list_any (λ (port : ℕ). port == c.args.parent.port) (entries_of d)) c.block-block.result.now.decoders c.loop-i.i c.decoder.result c.decoder.ensures.value (sym c.lists_in_range.ensures ∙ c.if-lists_in_range.true)))

pub loop-i-preserved : goal.loop-i-preserved
loop-i-preserved c =
    none_more (λ (d : Decoder). has_range c.args.range.now d && list_any (λ (port : ℕ). port == c.args.parent.port) (entries_of d)) c.block-block.result.now.decoders c.loop-i.i c.decoder.result c.decoder.ensures.value (sym c.lists_in_range.ensures ∙ c.if-lists_in_range.false) c.loop-i.invariant

pub returns : goal.returns
returns c =
    let none = c.loop-i.invariant in
    rw c.block-block.ensures.value
    (sym (list_any_no (λ (d : Decoder). has_range c.args.range.now d && list_any (λ (port : ℕ). port == c.args.parent.port) (entries_of d)) c.block-block.result.now.decoders
    (λ k y is. let within = slice_get_within c.block-block.result.now.decoders k y is in none k y (omega arith) is)))
