use Rattle.std.proofs.Common.{[], ◌∷◌, take, ap, subst, refl, arith}
use Rattle.cxl_commands.specs.Form.{form_of}
use Rattle.cxl_commands.specs.Words.{bytes_of}
use Rattle.cxl_io.specs.Sink.{SinkState}
use Rattle.cxl_shell.specs.Devices.{Devices}
use Rattle.cxl_library.specs.Answered.{IsRunFrom, IsRunOver, devices_of}
use Rattle.cxl_library.specs.Rooms.{sink_of, room_state}
use Rattle.cxl_library.proofs.Runs as runs
use Rattle.cxl_library.proofs.running.run_into.Goals as goal

abbrev Ran : goal.After-drop-regs-inside → Type 0
Ran c = IsRunFrom (form_of (bytes_of c.args.words.now)) c.args.files (devices_of c.args.script.now) c.run.result
    (sink_of (c.args.room.now.bytes.ghost_name ∷ [])) (room_state c.run.new.out)

ran : (c : goal.After-drop-regs-inside) → Ran c
ran c =
    let form = form_of (bytes_of c.args.words.now) in
    let fresh = c.requires.fresh in
    let none = ap (λ (s : SinkState). s.faults) fresh in
    let from = runs.run_from form c.args.files _ _ c.run.result _ _ _ c.run.ensures.run c.run.ensures.headline c.run.ensures.complete
    refl refl refl refl refl refl none in
    let off = runs.same_devices c.args.script.now c.new-script.result c.new-regs.result _ c.new-script.ensures c.new-regs.ensures
    c.new-media.ensures.blocks c.new-media.ensures.free in
    subst (λ (s : SinkState). IsRunFrom form c.args.files (devices_of c.args.script.now) c.run.result s (room_state c.run.new.out)) fresh
    (subst (λ (d : Devices). IsRunFrom form c.args.files d c.run.result (room_state c.args.room.now) (room_state c.run.new.out)) off from)

pub returns-clause-same_reference : goal.returns-clause-same_reference
returns-clause-same_reference c = runs.same_room (form_of (bytes_of c.args.words.now)) c.args.files c.args.script.now c.run.result _ c.run.new.out (runs.room_grows _ _ _ _ _ _ (ran c))

pub returns-clause-answered : goal.returns-clause-answered
returns-clause-answered c form is =
    subst (λ f. IsRunOver f c.args.files c.args.script.now c.run.result (take c.run.new.out.taken c.run.new.out.bytes.now)) is (runs.run_over (form_of (bytes_of c.args.words.now)) c.args.files c.args.script.now c.run.result _ c.run.new.out (ran c))

pub returns-clause-full : goal.returns-clause-full
returns-clause-full c is =
    let none = ap (λ (s : SinkState). s.faults) c.requires.fresh in
    let rose = c.run_ends.ensures.write_fault _ _ _ _ _ _ c.run.ensures.run is in
    c.run.new.out.full (omega (arith, rose, none))
