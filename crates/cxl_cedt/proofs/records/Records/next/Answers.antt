use Rattle.std.proofs.Common.{◌<◌, ◌≤◌, sym, ◌∙◌, arith}
use Rattle.cxl_cedt.specs.Table.{kind_said}
use Rattle.cxl_cedt.proofs.Walks.{no_records, meets_some, cut, cut_sound, cut_other, cut_other_walk, some_judged, cut_judged, cut_judged_walk}
use Rattle.cxl_cedt.proofs.records.Records.next.Goals as goal

pub returns-then-is_empty : goal.returns-then-is_empty
returns-then-is_empty c = sym c.self.view_is ∙ no_records c.self.inside.rest.now (sym c.is_empty.ensures ∙ c.if-is_empty.true)

pub length_said-requires : goal.length_said-requires
length_said-requires c =
    let m = meets_some c.self.inside.rest.now c.self.inside.judged.now (sym c.is_empty.ensures ∙ c.if-is_empty.false) c.self.invariant in
    omega (arith, m.begin.long, m.begin.within)

pub split_at-requires : goal.split_at-requires
split_at-requires c =
    let m = meets_some c.self.inside.rest.now c.self.inside.judged.now (sym c.is_empty.ensures ∙ c.if-is_empty.false) c.self.invariant in
    omega (arith, c.length_said.ensures, m.begin.within)

pub u8_at-requires : goal.u8_at-requires
u8_at-requires c =
    let m = meets_some c.self.inside.rest.now c.self.inside.judged.now (sym c.is_empty.ensures ∙ c.if-is_empty.false) c.self.invariant in
    omega (arith, c.split_at.ensures.front_len, c.length_said.ensures, m.begin.long)

pub invariant_of-result : goal.invariant_of-result
invariant_of-result c =
    let rest = c.self.inside.rest.now in
    let judged = c.self.inside.judged.now in
    let text = c.split_at.result.0.now in
    let after = c.split_at.result.1.now in
    let here = cut rest judged c.length_said.result text after (sym c.is_empty.ensures ∙ c.if-is_empty.false) c.self.invariant c.length_said.ensures c.split_at.ensures.front c.split_at.ensures.back in
    let said : 2 < kind_said text = omega (arith, c.u8_at.ensures, c.if-u8_at-gt-CXIMS_KIND.true) in
    record { sound = cut_sound rest judged text after here; other = said; few = omega (arith, c.split_at.ensures.front_len) }

pub invariant_of-self : goal.invariant_of-self
invariant_of-self c =
    let rest = c.self.inside.rest.now in
    let judged = c.self.inside.judged.now in
    let text = c.split_at.result.0.now in
    let after = c.split_at.result.1.now in
    let here = cut rest judged c.length_said.result text after (sym c.is_empty.ensures ∙ c.if-is_empty.false) c.self.invariant c.length_said.ensures c.split_at.ensures.front c.split_at.ensures.back in
    let said : 2 < kind_said text = omega (arith, c.u8_at.ensures, c.if-u8_at-gt-CXIMS_KIND.true) in
    cut_other_walk rest judged text after here said

pub returns-then-u8_at-gt-CXIMS_KIND : goal.returns-then-u8_at-gt-CXIMS_KIND
returns-then-u8_at-gt-CXIMS_KIND c =
    let rest = c.self.inside.rest.now in
    let judged = c.self.inside.judged.now in
    let text = c.split_at.result.0.now in
    let after = c.split_at.result.1.now in
    let here = cut rest judged c.length_said.result text after (sym c.is_empty.ensures ∙ c.if-is_empty.false) c.self.invariant c.length_said.ensures c.split_at.ensures.front c.split_at.ensures.back in
    let said : 2 < kind_said text = omega (arith, c.u8_at.ensures, c.if-u8_at-gt-CXIMS_KIND.true) in
    sym c.self.view_is ∙ cut_other rest judged text after here said

pub unwrap-requires : goal.unwrap-requires
unwrap-requires c =
    let rest = c.self.inside.rest.now in
    let judged = c.self.inside.judged.now in
    let text = c.split_at.result.0.now in
    let after = c.split_at.result.1.now in
    let here = cut rest judged c.length_said.result text after (sym c.is_empty.ensures ∙ c.if-is_empty.false) c.self.invariant c.length_said.ensures c.split_at.ensures.front c.split_at.ensures.back in
    let said : kind_said text ≤ 2 = omega (arith, c.u8_at.ensures, c.if-u8_at-gt-CXIMS_KIND.false) in
    c.split_first.ensures.variant.1 (some_judged rest judged text after here said)

pub invariant_of-self-2 : goal.invariant_of-self-2
invariant_of-self-2 c =
    let rest = c.self.inside.rest.now in
    let judged = c.self.inside.judged.now in
    let text = c.split_at.result.0.now in
    let after = c.split_at.result.1.now in
    let here = cut rest judged c.length_said.result text after (sym c.is_empty.ensures ∙ c.if-is_empty.false) c.self.invariant c.length_said.ensures c.split_at.ensures.front c.split_at.ensures.back in
    let said : kind_said text ≤ 2 = omega (arith, c.u8_at.ensures, c.if-u8_at-gt-CXIMS_KIND.false) in
    let parts = rw c.unwrap.ensures at c.split_first.ensures.cases in
    cut_judged_walk rest judged text after here c.unwrap.result.0.now c.unwrap.result.1.now said parts.0

pub returns : goal.returns
returns c =
    let rest = c.self.inside.rest.now in
    let judged = c.self.inside.judged.now in
    let text = c.split_at.result.0.now in
    let after = c.split_at.result.1.now in
    let here = cut rest judged c.length_said.result text after (sym c.is_empty.ensures ∙ c.if-is_empty.false) c.self.invariant c.length_said.ensures c.split_at.ensures.front c.split_at.ensures.back in
    let said : kind_said text ≤ 2 = omega (arith, c.u8_at.ensures, c.if-u8_at-gt-CXIMS_KIND.false) in
    let parts = rw c.unwrap.ensures at c.split_first.ensures.cases in
    sym c.self.view_is ∙ cut_judged rest judged text after here c.unwrap.result.0.now c.unwrap.result.1.now said parts.0
