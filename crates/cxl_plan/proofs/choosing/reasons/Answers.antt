use Rattle.std.proofs.Common.{◌≡◌, Some, length, sym, ap, ◌∙◌, arith}
use Rattle.std.specs.Prelude.{slice_get}
use Rattle.std.proofs.lemmas.Option.{slice_get-get_or}
use Rattle.cxl_window.specs.Fields.{WindowFields}
use Rattle.cxl_model.specs.Hosts.{as_system}
use Rattle.cxl_plan.proofs.Choices.{no_reasons, one_reason_more, all_reasons}
use Rattle.cxl_plan.proofs.choosing.reasons.Goals as goal

pub loop-w-init : goal.loop-w-init
loop-w-init c = no_reasons (as_system c.args.host.now) c.args.request.now c.in_ok-reasons.reasons.items c.in_ok-reasons.ensures.items

pub reason_in-requires : goal.reason_in-requires
reason_in-requires c =
    let w : WindowFields = c.w-item.result in
    let i = c.loop-w.w-index in
    let at : slice_get c.args.host.now.windows.now i ≡ Some w = slice_get-get_or c.args.host.now.windows.now i w (omega arith) ∙ ap Some (sym c.w-item.is) in
    record {
      ready = c.requires.ready;
      sound = c.requires.sound;
      uses = c.requires.uses;
      stages = c.requires.stages;
      floor = c.requires.floor;
      here = ap (slice_get c.args.host.now.windows.now) (c.requires.ready.system.made.indexed i w at) ∙ at;
      none = c.requires.none i w at;
    }

pub loop-w-preserved : goal.loop-w-preserved
loop-w-preserved c =
    let w : WindowFields = c.w-item.result in
    let i = c.loop-w.w-index in
    let here : slice_get c.args.host.now.windows.now i ≡ Some w = slice_get-get_or c.args.host.now.windows.now i w (omega arith) ∙ ap Some (sym c.w-item.is) in
    one_reason_more (as_system c.args.host.now) c.args.request.now i w c.loop-w.reasons.items c.push.new.self.items c.reason_in.result here c.loop-w.invariant c.in_ok-push.ensures.items c.reason_in.ensures

pub returns : goal.returns
returns c =
    let whole : c.loop-w.w-index ≡ length c.args.host.now.windows.now = omega arith in
    all_reasons (as_system c.args.host.now) c.args.request.now c.loop-w.w-index c.loop-w.reasons.items whole c.loop-w.invariant
