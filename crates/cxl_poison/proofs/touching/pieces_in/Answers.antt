use Rattle.std.proofs.Common.{◌≡◌, ◌<◌, ℕ, ◌*◌, List, [], ◌∷◌, ◌++◌, length, take, get_or, sym, ap, subst, ◌∙◌, arith}
use Rattle.std.specs.Prelude.{All}
use Rattle.std.proofs.lemmas.List.{take_more, take_all}
use Rattle.cxl_window.specs.Fields.{WindowFields}
use Rattle.cxl_model.specs.declared.found.Found.{Found}
use Rattle.cxl_model.specs.declared.poison.Entry.{Entry}
use Rattle.cxl_model.specs.declared.poison.Part.{Part}
use Rattle.cxl_model.specs.Poison.{region_of}
use Rattle.cxl_poison.specs.declared.live.LiveSpan.{LiveSpan}
use Rattle.cxl_poison.specs.Pieces.{ArePartsInAll, unmapped_count}
use Rattle.cxl_poison.proofs.Named.{all_named}
use Rattle.cxl_poison.proofs.Unmapped.{all_unmapped}
use Rattle.cxl_poison.proofs.Pieced.{more_parts, none_so_far, next_mapped}
use Rattle.cxl_poison.proofs.Untouched.{told_of_all}
use Rattle.cxl_poison.proofs.touching.pieces_in.Goals as goal

pub loop-span-init : goal.loop-span-init
loop-span-init c = record {
  parts = subst (λ (xs : List Part). ArePartsInAll c.args.entry.now c.args.endpoint c.args.live.now c.args.windows.now [] xs) (sym c.new-parts.ensures.items) (none_so_far c.args.entry.now c.args.endpoint c.args.live.now c.args.windows.now);
  unmapped = ap (λ (n : ℕ). 64 * n) c.from-unmapped.ensures ∙ sym (all_unmapped c.args.entry.now);
}

pub put_touched-requires-clause-span : goal.put_touched-requires-clause-span
put_touched-requires-clause-span c = c.requires.spans.some.each c.loop-span.span-index (record { region = 0; slot = 0; start = 0; len = 0 }) c.loop-span-test.true

pub overflow_sub-unmapped : goal.overflow_sub-unmapped
overflow_sub-unmapped c =
    let next = next_mapped c.args.entry.now c.args.live.now c.args.endpoint c.args.spans.now c.loop-span.span-index (record { region = 0; slot = 0; start = 0; len = 0 }) (record {
      one = λ a b. c.live_spans_are_apart.ensures.one c.args.windows.now c.args.live.now c.args.endpoint a b c.requires.live;
      bytes = λ dpa a b. c.live_spans_are_apart.ensures.bytes c.args.windows.now c.args.live.now c.args.endpoint dpa a b c.requires.live;
    }) c.requires.spans.some c.loop-span-test.true in
    omega (arith, next, c.in_ok-unmapped.ensures.count, c.loop-span.invariant.unmapped)

pub loop-span-preserved : goal.loop-span-preserved
loop-span-preserved c =
    let spans : List LiveSpan = c.args.spans.now in
    let k : ℕ = c.loop-span.span-index in
    let none : LiveSpan = record { region = 0; slot = 0; start = 0; len = 0 } in
    let next = next_mapped c.args.entry.now c.args.live.now c.args.endpoint spans k none (record {
      one = λ a b. c.live_spans_are_apart.ensures.one c.args.windows.now c.args.live.now c.args.endpoint a b c.requires.live;
      bytes = λ dpa a b. c.live_spans_are_apart.ensures.bytes c.args.windows.now c.args.live.now c.args.endpoint dpa a b c.requires.live;
    }) c.requires.spans.some c.loop-span-test.true in
    let adds = c.in_ok-unmapped.ensures.added in
    record {
      parts =
          subst (λ (xs : List LiveSpan). ArePartsInAll c.args.entry.now c.args.endpoint c.args.live.now c.args.windows.now xs c.put_touched.new.parts.items) (sym (take_more spans k none c.loop-span-test.true))
          (subst (λ (xs : List Part). ArePartsInAll c.args.entry.now c.args.endpoint c.args.live.now c.args.windows.now (take k spans ++ get_or spans k none ∷ []) xs) (sym adds.added)
          (more_parts c.args.entry.now c.args.endpoint c.args.live.now c.args.windows.now (take k spans) c.loop-span.parts.items (get_or spans k none) adds.own c.loop-span.invariant.parts adds.are));
      unmapped = omega (arith, next, c.in_ok-unmapped.ensures.count, c.loop-span.invariant.unmapped);
    }

pub returns-clause-pieces : goal.returns-clause-pieces
returns-clause-pieces c =
    let spans : List LiveSpan = c.args.spans.now in
    let entry : Entry = c.args.entry.now in
    let live : List Found = c.args.live.now in
    let endpoint : ℕ = c.args.endpoint in
    let windows : List WindowFields = c.args.windows.now in
    let all : take c.loop-span.span-index spans ≡ spans = take_all c.loop-span.span-index spans (omega arith) in
    told_of_all c.regions_lie_in_windows.ensures.there entry endpoint live windows c.requires.live (λ a b. c.live_spans_are_apart.ensures.one windows live endpoint a b c.requires.live)
    (record {
      region = λ dpa a b. c.live_spans_are_apart.ensures.bytes windows live endpoint dpa a b c.requires.live;
      some = λ a. c.live_spans_are_apart.ensures.some windows live endpoint a c.requires.live;
    })
    spans c.new.result c.loop-span.unmapped c.requires.spans
    (subst (λ (xs : List LiveSpan). ArePartsInAll entry endpoint live windows xs c.new.result) all
    (subst (λ (xs : List Part). ArePartsInAll entry endpoint live windows (take c.loop-span.span-index spans) xs) (sym c.new.ensures) c.loop-span.invariant.parts))
    (c.loop-span.invariant.unmapped ∙ ap (λ (xs : List LiveSpan). unmapped_count entry xs) all)

pub returns-clause-regions : goal.returns-clause-regions
returns-clause-regions c =
    subst (λ (xs : List Part). All (λ part. region_of part < length c.args.live.now) xs) (sym c.new.ensures)
    (all_named c.args.entry.now c.args.endpoint c.args.live.now c.args.windows.now (take c.loop-span.span-index c.args.spans.now) c.loop-span.parts.items c.loop-span.invariant.parts)
