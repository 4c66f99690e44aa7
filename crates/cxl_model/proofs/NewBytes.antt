-- Bytes that are not there.
use Rattle.std.proofs.Common.{ℕ, Bool, not}
use Rattle.cxl_model.specs.Contents.{Contents}
use Rattle.std.specs.FinMap as fin

abbrev pub absent : Contents → ℕ → Bool
absent contents n = not (fin.contains_key contents n)
