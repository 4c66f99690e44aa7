use Rattle.std.proofs.Common.{◌≡◌}
use Rattle.cxl_media.specs.Hash.{home_of}
use Rattle.cxl_media.proofs.Gap.{IsClosing}
use Rattle.cxl_media.proofs.probe.close.Given as goal

abbrev pub invariant-loop-at : goal.invariant-loop-at
invariant-loop-at l = record {
  closing : IsClosing (home_of l.homes) l.fn.cells.cells l.cells.cells l.from l.hole l.at;
  kept : l.cells.kept ≡ l.fn.cells.kept;
}
