use Rattle.std.proofs.Common.{rules, ◌≡◌, ℕ, ◌+◌, List, length, Some, sym, ap, subst, ◌∙◌, arith}
use Rattle.std.specs.Prelude.{slice_get}
use Rattle.std.proofs.lemmas.Option.{slice_get-get_or}
use Rattle.std.proofs.lemmas.List.Sorted.{IsNonDecreasingBy-from_sort_by_key}
use Rattle.cxl_model.specs.declared.found.Found.{Found}
use Rattle.cxl_model.specs.Regions.{IsRegion}
use Rattle.cxl_poison.specs.declared.live.LiveSpan.{LiveSpan}
use Rattle.cxl_poison.proofs.LiveLists.{AreSpansTo, no_more, one_more, in_order}
use Rattle.cxl_poison.proofs.live.live_spans.Goals as goal
use Rattle.cxl_poison.proofs.live.live_spans.Goals.{in-Some+in_ok-push, in_default}

pub overflow_cast-region : goal.overflow_cast-region
overflow_cast-region c =
    let few = c.live_spans_are_apart.ensures.few c.requires.0 c.args.live.now c.requires.1 in
    let at = c.loop-region-test.true in
    omega (arith, few, at)

pub span_on-requires : goal.span_on-requires
span_on-requires c =
    let is = c.requires.1 in (
      is.s,
      is.system,
      subst (IsRegion is.s) (sym c.index-live-region.is) (is.each c.loop-region.region c.index-live-region.result c.loop-region-test.true),
    )

pub loop-region-preserved : goal.loop-region-preserved
loop-region-preserved c =
    let live = c.args.live.now in
    let n = c.loop-region.region in
    let found : Found = c.index-live-region.result in
    let there : slice_get live n ≡ Some found = slice_get-get_or live n found c.loop-region-test.true ∙ ap (λ (f : Found). Some f) (sym c.index-live-region.is) in
    elim c.match-span_on.branch [
      | in-Some+in_ok-push w ↦
          subst (λ (spans : List LiveSpan). AreSpansTo live c.args.endpoint (n + 1) spans) (sym (ap (λ v. v.items) w.spans-is ∙ w.in_ok-push.ensures.items))
          (one_more live c.args.endpoint n c.loop-region.spans.items found w.in-Some.span (λ a b. c.live_spans_are_apart.ensures.one c.requires.0 live c.args.endpoint a b c.requires.1) c.loop-region.invariant there
          w.in-Some.ensures.region w.in-Some.ensures.some)
      | in_default w ↦
          subst (λ (spans : List LiveSpan). AreSpansTo live c.args.endpoint (n + 1) spans) (sym (ap (λ v. v.items) w.spans-is))
          (no_more live c.args.endpoint n c.loop-region.spans.items found c.loop-region.invariant there w.in_default.ensures.none)
    ]

pub returns : goal.returns
returns c =
    let live = c.args.live.now in
    let all : c.loop-region.region ≡ length live = omega (arith, c.loop-region.auto.region-end, c.loop-region-test.false) in
    in_order live c.args.endpoint c.loop-region.spans.items c.sort_by_key.new.self.items
    (record {
      region = λ dpa a b. c.live_spans_are_apart.ensures.bytes c.requires.0 live c.args.endpoint dpa a b c.requires.1;
      some = λ a. c.live_spans_are_apart.ensures.some c.requires.0 live c.args.endpoint a c.requires.1;
    })
    (subst (λ (n : ℕ). AreSpansTo live c.args.endpoint n c.loop-region.spans.items) all c.loop-region.invariant)
    c.in_ok-sort_by_key.ensures.permutation
    (IsNonDecreasingBy-from_sort_by_key (λ (span : LiveSpan). span.start) _ c.in_ok-sort_by_key.ensures.sorted (λ a r q k. search rules))
