use Rattle.std.proofs.Common.{rules, ◌≡◌, ℕ, ◌+◌, List, length, get_or, Some, sym, ap, subst, ◌∙◌, arith}
use Rattle.std.specs.Prelude.{slice_get}
use Rattle.std.proofs.lemmas.Option.{slice_get-get_or}
use Rattle.std.proofs.lemmas.List.{get_or_default}
use Rattle.std.proofs.lemmas.List.Sorted.{IsNonDecreasingBy-from_sort_by_key}
use Rattle.cxl_model.specs.declared.found.Found.{Found}
use Rattle.cxl_model.specs.Regions.{IsRegion}
use Rattle.cxl_poison.specs.declared.live.LiveSpan.{LiveSpan}
use Rattle.cxl_poison.proofs.SpansAt.{AreSpansOf, no_more, one_more, none_yet, in_order}
use Rattle.cxl_poison.proofs.live.spans_at.Goals as goal
use Rattle.cxl_poison.proofs.live.spans_at.Goals.{in-Some+in_ok-push, in_default}

pub loop-place-init : goal.loop-place-init
loop-place-init c = subst (λ (spans : List LiveSpan). AreSpansOf c.args.live.now c.args.endpoint c.args.places.now 0 spans) (sym c.new-spans.ensures.items) (none_yet c.args.live.now c.args.endpoint c.args.places.now)

pub bounds-live-place : goal.bounds-live-place
bounds-live-place c = c.requires.each c.loop-place.place-index 0 c.loop-place-test.true

pub span_on-requires : goal.span_on-requires
span_on-requires c =
    let is = c.requires.live.1 in
    let place : ℕ = get_or c.args.places.now c.loop-place.place-index 0 in (
      is.s,
      is.system,
      subst (IsRegion is.s) (sym c.index-live-place.is) (is.each place c.index-live-place.result (c.requires.each c.loop-place.place-index 0 c.loop-place-test.true)),
    )

pub loop-place-preserved : goal.loop-place-preserved
loop-place-preserved c =
    let live = c.args.live.now in
    let places : List ℕ = c.args.places.now in
    let n : ℕ = c.loop-place.place-index in
    let place : ℕ = get_or places n 0 in
    let found : Found = c.index-live-place.result in
    let low = c.requires.each n 0 c.loop-place-test.true in
    let own : (d : ℕ) → get_or places n d ≡ place = λ d. get_or_default places n d 0 c.loop-place-test.true in
    let there : slice_get live place ≡ Some found = slice_get-get_or live place found low ∙ ap (λ (f : Found). Some f) (sym c.index-live-place.is) in
    elim c.match-span_on.branch [
      | in-Some+in_ok-push w ↦
          subst (λ (spans : List LiveSpan). AreSpansOf live c.args.endpoint places (n + 1) spans) (sym (ap (λ v. v.items) w.spans-is ∙ w.in_ok-push.ensures.items))
          (one_more live c.args.endpoint places n place c.loop-place.spans.items found c.loop-place.invariant c.loop-place-test.true own there (λ a b. c.live_spans_are_apart.ensures.one c.requires.live.0 live c.args.endpoint a b c.requires.live.1)
          c.requires.once w.in-Some.span w.in-Some.ensures.region w.in-Some.ensures.some)
      | in_default w ↦
          subst (λ (spans : List LiveSpan). AreSpansOf live c.args.endpoint places (n + 1) spans) (sym (ap (λ v. v.items) w.spans-is))
          (no_more live c.args.endpoint places n place c.loop-place.spans.items found c.loop-place.invariant c.loop-place-test.true own there w.in_default.ensures.none)
    ]

pub returns : goal.returns
returns c =
    let live = c.args.live.now in
    let places : List ℕ = c.args.places.now in
    let all : c.loop-place.place-index ≡ length places = omega (arith, c.loop-place.auto.place-index-end, c.loop-place-test.false) in
    in_order live c.args.endpoint places c.loop-place.spans.items c.sort_by_key.new.self.items
    (record {
      region = λ dpa a b. c.live_spans_are_apart.ensures.bytes c.requires.live.0 live c.args.endpoint dpa a b c.requires.live.1;
      some = λ a. c.live_spans_are_apart.ensures.some c.requires.live.0 live c.args.endpoint a c.requires.live.1;
    })
    (subst (λ (n : ℕ). AreSpansOf live c.args.endpoint places n c.loop-place.spans.items) all c.loop-place.invariant)
    c.in_ok-sort_by_key.ensures.permutation
    (IsNonDecreasingBy-from_sort_by_key (λ (span : LiveSpan). span.start) _ c.in_ok-sort_by_key.ensures.sorted (λ a r q k. search rules))
