use Rattle.std.proofs.Common.{◌≡◌, Some, sym, ap, ◌∙◌, arith}
use Rattle.std.specs.Prelude.{slice_get}
use Rattle.std.proofs.lemmas.Option.{slice_get-get_or, slice_get_within}
use Rattle.cxl_window.specs.Fields.{WindowFields}
use Rattle.cxl_model.specs.Hosts.{as_system}
use Rattle.cxl_plan.proofs.Choices.{found_first, one_without_more, passed_over}
use Rattle.cxl_plan.proofs.choosing.first_taking.Goals as goal

pub base_in-requires : goal.base_in-requires
base_in-requires c = record {
  uses = c.requires.uses;
  stages = c.requires.stages;
  known = c.requires.sound.ways;
  named = c.requires.ready.named;
  size = c.requires.sound.low;
  floor = c.requires.floor.low;
}

pub returns-in-Ok : goal.returns-in-Ok
returns-in-Ok c = record {
  taken =
      let w : WindowFields = c.index-windows-i.result in
      let i = c.loop-i.i in
      let here : slice_get c.args.host.now.windows.now i ≡ Some w = slice_get-get_or c.args.host.now.windows.now i w (omega arith) ∙ ap Some (sym c.index-windows-i.is) in
      let index : w.index ≡ i = c.requires.ready.system.made.indexed i w here in
      let there : slice_get c.args.host.now.windows.now w.index ≡ Some w = ap (slice_get c.args.host.now.windows.now) index ∙ here in
      let takes = c.in-Ok.ensures.takes c.args.host.now.image.now c.args.host.now.windows.now c.requires.floor there in
      (w, here, found_first (as_system c.args.host.now) c.args.request.now i w c.in-Ok.base index c.loop-i.invariant takes);
  none = tt;
}

pub loop-i-preserved-then-lacks : goal.loop-i-preserved-then-lacks
loop-i-preserved-then-lacks c =
    let w : WindowFields = c.index-windows-i.result in
    let i = c.loop-i.i in
    let here : slice_get c.args.host.now.windows.now i ≡ Some w = slice_get-get_or c.args.host.now.windows.now i w (omega arith) ∙ ap Some (sym c.index-windows-i.is) in
    one_without_more (as_system c.args.host.now) c.args.request.now i w here c.loop-i.invariant
    (passed_over (as_system c.args.host.now) c.args.request.now w c.used_uid-uid.result c.used_uid-uid.ensures (sym c.lacks.ensures ∙ c.if-lacks.true))

pub loop-i-preserved : goal.loop-i-preserved
loop-i-preserved c =
    let w : WindowFields = c.index-windows-i.result in
    let i = c.loop-i.i in
    let here : slice_get c.args.host.now.windows.now i ≡ Some w = slice_get-get_or c.args.host.now.windows.now i w (omega arith) ∙ ap Some (sym c.index-windows-i.is) in
    let reason = c.in_default.ensures.reason c.args.host.now.image.now c.args.host.now.windows.now c.requires.floor in
    one_without_more (as_system c.args.host.now) c.args.request.now i w here c.loop-i.invariant (c.in_default.field-0, reason)

pub returns : goal.returns
returns c = record {
  none = λ i w there.
      let within = slice_get_within c.args.host.now.windows.now i w there in
      c.loop-i.invariant i w (omega arith) there;
  taken = tt;
}
