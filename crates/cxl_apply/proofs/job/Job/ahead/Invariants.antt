use Rattle.std.proofs.Common.{◌≡◌, length, take}
use Rattle.cxl_apply.specs.Jobs.{blocks_after_writes}
use Rattle.cxl_apply.proofs.job.Job.ahead.Given as goal

abbrev pub invariant-loop-write : goal.invariant-loop-write
invariant-loop-write l = record {
  after : l.after ≡ blocks_after_writes l.image (take l.write-index l.write-items);
  long : length l.after ≡ length l.image;
}
