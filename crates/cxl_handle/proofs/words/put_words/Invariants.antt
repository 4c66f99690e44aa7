use Rattle.std.proofs.Common.{◌≡◌, map, length, take, drop}
use Rattle.cxl_handle.specs.Facts.{fact_of}
use Rattle.cxl_handle.proofs.words.put_words.Given as goal

-- the words so far are told, and the rows behind them are as they were
abbrev pub invariant-loop-i : goal.invariant-loop-i
invariant-loop-i l = (take l.i l.rows ≡ map fact_of (take l.i l.fn.words)) × (drop l.i l.rows ≡ drop l.i l.fn.rows) × (length l.rows ≡ length l.fn.rows)
