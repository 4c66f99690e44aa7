use Rattle.std.proofs.Common.{◌≤◌}
use Rattle.cxl_gen.specs.Made.{made_commands}
use Rattle.cxl_turns.specs.Counts.{AreWithin}
use Rattle.cxl_turns.proofs.Counting.{AreCounted}
use Rattle.cxl_shell.proofs.commands.generated.carry_out_each.Given as goal

-- the commands so far are carried out and counted
abbrev pub invariant-loop-k : goal.invariant-loop-k
invariant-loop-k g l = record {
  each :
      AreCounted l.k (made_commands l.n) l.fn.session l.session (g.R.Regs.state l.fn.regs) (g.R.Regs.state l.regs)
      (g.M.Media.state l.fn.media) (g.M.Media.state l.media) l.counts;
  within : AreWithin l.counts l.k;
  bus : (g.R.Regs.state l.fn.regs).faults ≤ (g.R.Regs.state l.regs).faults;
}
