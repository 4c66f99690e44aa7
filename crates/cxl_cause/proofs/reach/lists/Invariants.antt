use Rattle.std.proofs.Common.{◌≡◌, ℕ, ◌<◌, ◌&&◌, false, Some}
use Rattle.std.specs.Prelude.{slice_get, ◌==◌}
use Rattle.std.specs.List.{list_any}
use Rattle.cxl_regs.specs.declared.decoder.Decoder.{Decoder}
use Rattle.cxl_regs.specs.Reading.{has_range, entries_of}
use Rattle.cxl_cause.proofs.reach.lists.Given as goal

abbrev pub invariant-loop-i : goal.invariant-loop-i
invariant-loop-i l =
    (k : ℕ) (d : Decoder) → k < l.i → slice_get l.block.decoders k ≡ Some d
    → (has_range l.range d && list_any (λ port. port == l.parent.port) (entries_of d)) ≡ false
