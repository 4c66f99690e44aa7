use Rattle.std.proofs.Common.{Ok, sym, ap, ◌∙◌}
use Rattle.std.proofs.Math.Nat.{le_refl}
use Rattle.cxl_topo.specs.Tree.{Tree}
use Rattle.cxl_turns.proofs.CarriedOut.{reply_told, carried_one, left_untouched}
use Rattle.cxl_turns.proofs.carrying_out.carry_out_command.Goals as goal

pub write_reply-requires : goal.write_reply-requires
write_reply-requires g c =
    let at = c.requires.stands.1 in
    let one = c.in-Ok.ensures.answer c.requires.stands.0 at in
    reply_told c.answers_are_told.ensures c.requires.stands.0 c.args.command.now one.0 c.act_into.new.reply c.topo.result.now.nodes c.act_into.new.self _ _ _ at.sound.machine c.requires.ranged one.1 one.2
    (at.stands.nodes ∙ sym (ap (λ (t : Tree). t.nodes) c.in-Ok.ensures.host.0) ∙ sym (ap (λ (t : Tree). t.nodes) c.topo.ensures))

pub returns-in-Ok : goal.returns-in-Ok
returns-in-Ok g c = record {
  carried = λ m at.
      let one = c.in-Ok.ensures.answer m at in
      carried_one m (Ok c.args.command.now) one.0 c.act_into.new.reply c.topo.result.now.nodes c.act_into.new.self _ _ _ _ _ one.1 one.2
      (at.stands.nodes ∙ sym (ap (λ (t : Tree). t.nodes) c.in-Ok.ensures.host.0) ∙ sym (ap (λ (t : Tree). t.nodes) c.topo.ensures)) c.write_reply.result c.write_reply.ensures.told;
  sink = c.write_reply.ensures.counts;
  bus = c.in-Ok.ensures.counts;
}

pub returns-in-Err : goal.returns-in-Err
returns-in-Err g c = record {
  carried = λ m at. left_untouched m c.args.session.now c.act_into.new.self _ _ _ _ _ at c.in-Err.ensures.memory.0 c.in-Err.ensures.memory.1 c.in-Err.ensures.memory.2 c.in-Err.ensures.unfailed;
  sink = le_refl (g.K.Sink.state c.args.out.now).faults;
  bus = c.in-Err.ensures.counts;
}
