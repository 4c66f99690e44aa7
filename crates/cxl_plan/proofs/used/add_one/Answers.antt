use Rattle.std.proofs.Common.{ℕ, List, ◌+◌, min, ap, ◌∙◌}
use Rattle.std.proofs.lemmas.List.{get_or_read, length-set, get_or-set_same, get_or-set_other}
use Rattle.cxl_plan.proofs.used.add_one.Goals as goal

pub returns : goal.returns
returns c =
    let counts : List ℕ = c.args.counts.now.items in
    let read = get_or_read counts c.args.place c.index.result.now c.requires c.index.ensures 0 in
    record {
      count = length-set counts c.args.place c.saturating_add.result;
      here = get_or-set_same counts c.args.place c.saturating_add.result 0 c.requires ∙ c.saturating_add.ensures ∙ ap (λ (n : ℕ). min (n + 1) 255) read;
      others = λ k other. get_or-set_other counts c.args.place k c.saturating_add.result 0 other;
    }
