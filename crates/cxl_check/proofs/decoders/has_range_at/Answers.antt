use Rattle.std.proofs.Common.{ℕ, ◌≤◌, false, Option, sym, ap, subst, ◌∙◌}
use Rattle.std.specs.Option.{option_map_or}
use Rattle.std.proofs.lemmas.Bool.{le-ltb}
use Rattle.std.proofs.lemmas.Option.{slice_get_past}
use Rattle.cxl_regs.specs.declared.decoder.Decoder.{Decoder}
use Rattle.cxl_regs.specs.Reading.{has_range}
use Rattle.cxl_check.proofs.decoders.has_range_at.Goals as goal

pub returns-else-i-count : goal.returns-else-i-count
returns-else-i-count c =
    let past = subst (λ (n : ℕ). n ≤ c.args.i) c.count.ensures.value c.if-i-count.false in
    le-ltb c.args.i c.count.result c.if-i-count.false
    ∙ sym (ap (λ (o : Option Decoder). option_map_or (has_range c.args.range.now) o false) (slice_get_past c.args.block.now.decoders c.args.i past))
