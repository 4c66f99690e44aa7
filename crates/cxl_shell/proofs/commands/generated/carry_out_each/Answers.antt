use Rattle.std.proofs.lemmas.Result.{IfOk-from_err}
use Rattle.std.proofs.Common.{arith}
use Rattle.std.proofs.lemmas.List.{take_all}
use Rattle.cxl_gen.specs.Made.{made_commands}
use Rattle.cxl_gen.proofs.Growing.{take_next}
use Rattle.cxl_turns.proofs.Counting.{none_counted, one_counted, all_counted, stands_there}
use Rattle.cxl_shell.proofs.Generated.{next_ranged, before_next, at_next}
use Rattle.cxl_commands.proofs.Results.{on_err_from}
use Rattle.cxl_shell.proofs.commands.generated.carry_out_each.Goals as goal

pub returns-in_err-make_command-clause-all : goal.returns-in_err-make_command-clause-all
returns-in_err-make_command-clause-all g c = IfOk-from_err c.from_residual.result _ c.from_residual.ensures.0

pub returns-in_err-carry_out_counted-clause-all : goal.returns-in_err-carry_out_counted-clause-all
returns-in_err-carry_out_counted-clause-all g c = IfOk-from_err c.from_residual-in_err-carry_out_counted.result _ c.from_residual-in_err-carry_out_counted.ensures.0

pub loop-k-init : goal.loop-k-init
loop-k-init g c = record {
  each =
      none_counted (made_commands c.args.n) c.args.session.now (g.R.Regs.state c.args.regs.now) (g.M.Media.state c.args.media.now) c.none-counts.result
      c.none-counts.ensures.counts;
  within = c.none-counts.ensures.within;
  bus = omega arith;
}

pub carry_out_counted-requires-clause-stands : goal.carry_out_counted-requires-clause-stands
carry_out_counted-requires-clause-stands g c = stands_there _ _ _ _ _ _ _ _ _ c.loop-k.invariant.each c.requires.stands

pub carry_out_counted-requires-clause-ranged : goal.carry_out_counted-requires-clause-ranged
carry_out_counted-requires-clause-ranged g c =
    next_ranged c.args.n c.loop-k.k c.make_command.new.command c.made_systems_are_sound.ensures.ranged c.in_ok-make_command.ensures.ok

pub carry_out_counted-requires-clause-few : goal.carry_out_counted-requires-clause-few
carry_out_counted-requires-clause-few g c = (c.loop-k.k, omega arith, c.loop-k.invariant.within)

pub returns-in_err-make_command-clause-some : goal.returns-in_err-make_command-clause-some
returns-in_err-make_command-clause-some g c =
    on_err_from c.from_residual.result _
    (before_next c.args.n c.loop-k.k c.args.session.now c.loop-k.session (g.R.Regs.state c.args.regs.now) (g.R.Regs.state c.loop-k.regs)
    (g.M.Media.state c.args.media.now) (g.M.Media.state c.loop-k.media) c.loop-k.counts c.loop-k.invariant.each)

pub returns-in_err-carry_out_counted-clause-some : goal.returns-in_err-carry_out_counted-clause-some
returns-in_err-carry_out_counted-clause-some g c =
    on_err_from c.from_residual-in_err-carry_out_counted.result _
    (at_next c.args.n c.loop-k.k c.args.session.now c.loop-k.session c.carry_out_counted.new.session (g.R.Regs.state c.args.regs.now)
    (g.R.Regs.state c.loop-k.regs) (g.R.Regs.state c.carry_out_counted.new.regs) (g.M.Media.state c.args.media.now) (g.M.Media.state c.loop-k.media)
    (g.M.Media.state c.carry_out_counted.new.media) c.loop-k.counts c.loop-k.invariant.each c.in_err-carry_out_counted.ensures.left)

pub loop-k-preserved : goal.loop-k-preserved
loop-k-preserved g c = record {
  each =
      one_counted c.loop-k.k (made_commands c.args.n) c.make_command.new.command c.args.session.now c.loop-k.session c.carry_out_counted.new.session
      (g.R.Regs.state c.args.regs.now) (g.R.Regs.state c.loop-k.regs) (g.R.Regs.state c.carry_out_counted.new.regs) (g.M.Media.state c.args.media.now)
      (g.M.Media.state c.loop-k.media) (g.M.Media.state c.carry_out_counted.new.media) c.loop-k.counts c.carry_out_counted.new.counts c.carry_out_counted.new.reply
      c.loop-k.invariant.each
      (take_next (made_commands c.args.n) c.loop-k.k c.make_command.new.command c.in_ok-make_command.ensures.ok) c.in_ok-carry_out_counted.ensures.taken;
  within = c.in_ok-carry_out_counted.ensures.within c.loop-k.k c.loop-k.invariant.within;
  bus = (let so_far = c.loop-k.invariant.bus in let more = c.in_ok-carry_out_counted.ensures.bus in omega (arith, so_far, more));
}

pub returns-clause-all : goal.returns-clause-all
returns-clause-all g c =
    all_counted c.loop-k.k (made_commands c.args.n) c.args.session.now c.loop-k.session (g.R.Regs.state c.args.regs.now) (g.R.Regs.state c.loop-k.regs)
    (g.M.Media.state c.args.media.now) (g.M.Media.state c.loop-k.media) c.loop-k.counts c.loop-k.invariant.each
    (take_all c.loop-k.k (made_commands c.args.n) (omega (arith, c.command_count-k-end.ensures)))
