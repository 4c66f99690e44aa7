use Rattle.std.proofs.Common.{◌≡◌, ℕ, ◌<◌, ◌≤◌, length}
use Rattle.std.specs.Prelude.{slice_index}
use Rattle.cxl_range.proofs.counting.whole_turns.Given as goal

-- the slots so far have a chunk a turn, and the others nothing
abbrev pub invariant-loop-slot : goal.invariant-loop-slot
invariant-loop-slot l = record {
  sixteen : length l.counts ≡ 16;
  dealt : (k : ℕ) → k < l.slot → slice_index l.counts k ≡ l.each;
  past : (k : ℕ) → l.slot ≤ k → k < 16 → slice_index l.counts k ≡ 0;
}
