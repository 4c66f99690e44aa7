use Rattle.std.proofs.Common.{ℕ, List, subst, arith}
use Rattle.std.proofs.lemmas.Option.{slice_get_within, same_Some}
use Rattle.cxl_model.specs.declared.found.Found.{Found}
use Rattle.cxl_window.specs.Fields.{WindowFields}
use Rattle.cxl_poison.specs.declared.live.LiveSpan.{LiveSpan}
use Rattle.cxl_poison.specs.Live.{IsSpanOf}
use Rattle.cxl_poison.specs.Pieces.{Cut, ArePartsOf}
use Rattle.cxl_poison.proofs.Pieced.{found_read, window_read, span_read, same_cuts, window_within}
use Rattle.cxl_poison.proofs.touching.put_touched.Goals as goal
use Rattle.std.proofs.Common.{◌∙◌, sym}

pub bounds-live-span : goal.bounds-live-span
bounds-live-span c = slice_get_within c.args.live.now c.args.span.now.region c.requires.span.found c.requires.span.there

pub bounds-windows-found : goal.bounds-windows-found
bounds-windows-found c =
    window_within c.regions_lie_in_windows.ensures.there c.args.windows.now c.args.live.now c.requires.live c.args.span.now.region c.index-live-span.result
    (found_read c.args.live.now c.args.endpoint c.args.span.now c.index-live-span.result c.requires.span c.index-live-span.is)

pub touched-touched-requires : goal.touched-touched-requires
touched-touched-requires c =
    span_read c.regions_lie_in_windows.ensures.there c.args.windows.now c.args.live.now c.requires.live c.args.endpoint c.args.span.now c.index-live-span.result c.index-windows-found.result
    c.requires.span c.index-live-span.is c.index-windows-found.is

pub put_span-requires-clause-span : goal.put_span-requires-clause-span
put_span-requires-clause-span c =
    span_read c.regions_lie_in_windows.ensures.there c.args.windows.now c.args.live.now c.requires.live c.args.endpoint c.args.span.now c.index-live-span.result c.index-windows-found.result
    c.requires.span c.index-live-span.is c.index-windows-found.is

pub returns-clause-count : goal.returns-clause-count
returns-clause-count c = omega (arith, c.touched-touched.ensures.from, c.touched-touched.ensures.end, c.saturating_sub.ensures)

pub returns-clause-added : goal.returns-clause-added
returns-clause-added c =
    let live : List Found = c.args.live.now in
    let endpoint : ℕ = c.args.endpoint in
    let x : LiveSpan = c.args.span.now in
    let found : Found = c.index-live-span.result in
    let w : WindowFields = c.index-windows-found.result in
    let is = c.requires.span in
    let there = found_read live endpoint x found is c.index-live-span.is in
    let here : IsSpanOf found endpoint x = subst (λ (f : Found). IsSpanOf f endpoint x) (same_Some is.found found (sym is.there ∙ there)) is.here in
    let adds = c.in_ok-put_span.ensures endpoint here in
    record {
      own = adds.own;
      added = adds.added;
      are = record {
        found = found;
        w = w;
        there = there;
        window = window_read c.regions_lie_in_windows.ensures.there c.args.windows.now live c.requires.live endpoint x found w is c.index-live-span.is c.index-windows-found.is;
        are =
            subst (λ (cuts : List Cut). ArePartsOf found w endpoint x cuts adds.own)
            (same_cuts c.args.entry.now found x c.touched-touched.result c.touched-touched.ensures.from c.touched-touched.ensures.end c.touched-touched.ensures.size) adds.are;
      };
    }
