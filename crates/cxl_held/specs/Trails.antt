-- The simulator's bus with the words that it was sent.
use Rattle.std.specs.Prelude.{ℕ, ◌+◌, nat_le, min, Bool, true, if◌then◌else◌, List, [], ◌∷◌, ◌++◌, length, replicate, Some}
use Rattle.cxl_bus.specs.Failed.{place_limit}
use Rattle.cxl_bus.specs.RegsState.{RegsState}
use Rattle.cxl_bus.specs.declared.sent.Sent.{Sent}
use Rattle.cxl_enc.specs.Counters.{next_count}
use Rattle.cxl_regs.specs.Registers.{Registers}
use Rattle.cxl_regs.specs.Blocks.{blocks_after}

-- its blocks, the words since its trail was last emptied, and how many writes found the trail full
pub record Trailed : Type 0 where
  pub blocks : List Registers
  pub trail : List Sent
  -- since then, as far as 65,536
  pub overruns : ℕ
  -- in all
  pub faults : ℕ

-- the most words that are told
abbrev pub room : ℕ
room = 65536

-- these blocks with an empty trail
abbrev pub untrailed : List Registers → Trailed
untrailed blocks = record { blocks = blocks; trail = []; overruns = 0; faults = 0 }

-- with the trail emptied
abbrev pub emptied : Trailed → Trailed
emptied bus = record bus { trail = []; overruns = 0 }

-- as a bus that tells its trail, and that each call that failed did so behind as many words as there is room for
abbrev pub trailed_state : Trailed → RegsState
trailed_state bus = record {
  blocks = bus.blocks;
  trail = Some bus.trail;
  failed_at = Some (replicate bus.overruns room);
  faults = bus.faults;
  counts_failures_alone = true;
}

-- no more words are told than there is room for
abbrev pub is_full : Trailed → Bool
is_full bus = nat_le room (length bus.trail)

-- a write that finds the trail full only counts; any other is carried out and told
abbrev pub after_write : Trailed → ℕ → ℕ → ℕ → Trailed
after_write bus node off value =
    if is_full bus then record bus { overruns = min (bus.overruns + 1) place_limit; faults = next_count bus.faults }
    else record bus { blocks = blocks_after bus.blocks node off value; trail = bus.trail ++ record { node = node; off = off; value = value } ∷ [] }
