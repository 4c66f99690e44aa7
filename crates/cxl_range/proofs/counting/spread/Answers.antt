use Rattle.std.proofs.Common.{◌≡◌, ℕ, ◌+◌, ◌-◌, ◌≢◌, List, sym, ap, subst, ◌∙◌, inl, inr, arith, length-set, get_or-set_same, get_or-set_other}
use Rattle.std.specs.Prelude.{slice_index, slice_set}
use Rattle.std.proofs.lemmas.Bool.{cases_eq}
use Rattle.std.proofs.lemmas.List.FromFn.{fill_by_all}
use Rattle.cxl_window.specs.Fields.{WindowFields}
use Rattle.cxl_deal.specs.Weaves.{WeaveFields, weave_ways}
use Rattle.cxl_model.specs.declared.found.Found.{Found}
use Rattle.cxl_model.specs.Regions.{weave_fields}
use Rattle.cxl_range.specs.Extents.{bytes_on}
use Rattle.cxl_range.specs.inner.Woven.{bytes_before, AreCountsBefore}
use Rattle.cxl_range.proofs.Turns.{none_past, bytes_more}
use Rattle.cxl_range.proofs.counting.spread.Goals as goal

-- the counts by the region's own weave
counted : (found : Found) (w : WindowFields) (v : WeaveFields) (end : ℕ) (counts : List ℕ) → v ≡ weave_fields found w → AreCountsBefore v end counts → AreCountsBefore (weave_fields found w) end counts
counted found w v end counts is are = subst (λ (u : WeaveFields). AreCountsBefore u end counts) is are

pub loop-slot-init : goal.loop-slot-init
loop-slot-init c =
    let are = counted c.args.found.now c.args.window.now c.region_weave-weave.result (c.args.h + c.args.len) c.counts_before-counts.result c.region_weave-weave.ensures.value c.counts_before-counts.ensures in
    record {
      sixteen = are.sixteen;
      own = λ k below. absurd (omega arith);
      later = λ k from below. are.each k below;
    }

pub overflow_sub-counts : goal.overflow_sub-counts
overflow_sub-counts c =
    let v : WeaveFields = weave_fields c.args.found.now c.args.window.now in
    let k : ℕ = c.loop-slot.slot in
    let few = c.loop-slot-test.true in
    let are = counted c.args.found.now c.args.window.now c.region_weave-weave.result c.args.h c.counts_before-before.result c.region_weave-weave.ensures.value c.counts_before-before.ensures in
    let first : slice_index c.counts_before-before.result k ≡ bytes_before v c.args.h k = are.each k few in
    let last : slice_index c.loop-slot.counts k ≡ bytes_before v (c.args.h + c.args.len) k = c.loop-slot.invariant.later k (omega arith) few in
    let r = c.requires in
    omega (arith, first, last, bytes_more v c.args.h c.args.len k r.from)

pub loop-slot-preserved : goal.loop-slot-preserved
loop-slot-preserved c =
    let found : Found = c.args.found.now in
    let w : WindowFields = c.args.window.now in
    let v : WeaveFields = weave_fields found w in
    let slot : ℕ = c.loop-slot.slot in
    let few = c.loop-slot-test.true in
    let inv = c.loop-slot.invariant in
    let counts : List ℕ = c.loop-slot.counts in
    let are = counted found w c.region_weave-weave.result c.args.h c.counts_before-before.result c.region_weave-weave.ensures.value c.counts_before-before.ensures in
    let first : slice_index c.counts_before-before.result slot ≡ bytes_before v c.args.h slot = are.each slot few in
    let last : slice_index counts slot ≡ bytes_before v (c.args.h + c.args.len) slot = inv.later slot (omega arith) few in
    let r = c.requires in
    let x : ℕ = slice_index counts slot - slice_index c.counts_before-before.result slot in
    let own : x ≡ bytes_on found w c.args.h c.args.len slot = omega (arith, first, last, bytes_more v c.args.h c.args.len slot r.from) in
    let sixteen = inv.sixteen in
    record {
      sixteen = length-set counts slot x ∙ sixteen;
      own = λ k below. elim (cases_eq k slot) [
        | inl same ↦ ap (λ (y : ℕ). slice_index (slice_set counts slot x) y) same ∙ get_or-set_same counts slot x 0 (omega (arith, few, sixteen)) ∙ own ∙ ap (bytes_on found w c.args.h c.args.len) (sym same)
        | inr other ↦ get_or-set_other counts slot k x 0 other ∙ inv.own k (omega (arith, below, other))
      ];
      later = λ k from below. let other : k ≢ slot = omega (arith, from) in get_or-set_other counts slot k x 0 other ∙ inv.later k (omega (arith, from)) below;
    }

pub returns-clause-exact : goal.returns-clause-exact
returns-clause-exact c =
    let inv = c.loop-slot.invariant in
    let end = c.loop-slot-test.false in
    fill_by_all (bytes_on c.args.found.now c.args.window.now c.args.h c.args.len) c.loop-slot.counts 16 0 inv.sixteen (λ k below. inv.own k (omega (arith, end, below)))

pub returns-clause-past : goal.returns-clause-past
returns-clause-past c = λ slot from below.
    let v : WeaveFields = weave_fields c.args.found.now c.args.window.now in
    let inv = c.loop-slot.invariant in
    let end = c.loop-slot-test.false in
    let ways : weave_ways v ≡ c.args.found.now.ways = ap (λ (u : WeaveFields). weave_ways u) (sym c.region_weave-weave.ensures.value) ∙ c.region_weave-weave.ensures.woven.ways in
    inv.own slot (omega (arith, end, below)) ∙ none_past v (c.region_fills_slots.ensures.slot v) c.args.h c.args.len slot (omega (arith, ways, from))
