-- What the registers of a system hold, as a bus reaches them.
use Rattle.std.specs.Prelude.{◌≡◌, ℕ, Bool, List, Option}
use Rattle.cxl_regs.specs.Registers.{Registers}
use Rattle.cxl_bus.specs.declared.sent.Sent.{Sent}

-- what a bus holds, and what it tells
pub record RegsState : Type 0 where
  -- a block a node, in node order
  pub blocks : List Registers
  -- the writes that were answered Ok since it was powered on, in order, where it tells them
  pub trail : Option (List Sent)
  -- behind how many of these each call failed, in order, of the first 65,536 that did; where it tells them
  pub failed_at : Option (List ℕ)
  -- how many faults there were; a count that has reached 2 ^ 64 - 1 stays there
  pub faults : ℕ
  -- whether its count rises at calls that fail and at no others
  pub counts_failures_alone : Bool

-- nothing but the faults may differ, by count and by place
pub record IsUntouched (old new : RegsState) : Type 0 where
  pub blocks : new.blocks ≡ old.blocks
  pub trail : new.trail ≡ old.trail
  pub alone : new.counts_failures_alone ≡ old.counts_failures_alone
