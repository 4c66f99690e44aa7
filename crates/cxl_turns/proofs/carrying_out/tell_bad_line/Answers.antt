use Rattle.std.proofs.Common.{Err, refl, sym, ap, ◌∙◌}
use Rattle.cxl_topo.specs.Tree.{Tree}
use Rattle.cxl_reply.specs.declared.reply.Reply.TheVariants as replies
use Rattle.cxl_turns.proofs.CarriedOut.{carried_one, bad_turn, bad_taken}
use Rattle.cxl_turns.proofs.carrying_out.tell_bad_line.Goals as goal

pub write_reply-told-requires : goal.write_reply-told-requires
write_reply-told-requires g c = tt

pub returns : goal.returns
returns g c = record {
  carried = λ m regs media at.
      carried_one m (Err c.args.fault) (bad_turn m c.args.fault) (replies.BadLine c.args.fault) c.topo.result.now.nodes c.args.session.now regs regs media _ _ refl
      (bad_taken m c.args.fault c.args.session.now regs media at) (at.stands.nodes ∙ sym (ap (λ (t : Tree). t.nodes) c.topo.ensures)) c.write_reply-told.result c.write_reply-told.ensures.told;
  sink = c.write_reply-told.ensures.counts;
}
