use Rattle.std.proofs.Common.{◌≡◌, ℕ, ◌-◌, ◌<◌, ◌≤◌, ◌⊎◌, Some, List, get_or, ap, inl, inr, arith, leb, rules}
use Rattle.std.specs.Prelude.{slice_get}
use Rattle.std.proofs.lemmas.Bool.{leb-true, leb-false}
use Rattle.std.proofs.lemmas.List.Sorted.{IsPartitionPoint-from_clause, IsPartitionedBy-leb}
use Rattle.std.proofs.lemmas.Option.{get_or_from_slice_get, slice_get_within}
use Rattle.cxl_enc.proofs.Tests.{clash}
use Rattle.cxl_regs.specs.declared.reading.Range.{Range}
use Rattle.cxl_model.specs.declared.found.Found.{Found}
use Rattle.cxl_model.specs.Regions.{region_range}
use Rattle.cxl_walk.proofs.RegionLists.{no_fall, not_behind}
use Rattle.cxl_walk.proofs.gathering.region_with.Goals as goal
use Rattle.cxl_walk.proofs.gathering.region_with.Goals.{else-behind-gt0-via-then-behind-gt0+else-has_range-2, else-behind-gt0-via-else-behind-gt0}

pub returns-clause-none : goal.returns-clause-none
returns-clause-none c =
    let founds : List Found = c.args.founds.now in
    let r : Range = c.args.range.now in
    let behind : ℕ = c.partition_point-behind.result in
    let parted = IsPartitionedBy-leb (λ (found : Found). found.base) founds r.base (no_fall founds c.requires) in
    let point = IsPartitionPoint-from_clause (λ (found : Found). leb found.base r.base) founds behind c.partition_point-behind.ensures.partitioned parted (λ a b q k. search rules) in
    let last : (behind ≡ 0) ⊎ ((f : Found) → slice_get founds (behind - 1) ≡ Some f → region_range f ≡ r → ⊥) =
    elim c.else-behind-gt0.branch [
      | else-behind-gt0-via-then-behind-gt0+else-has_range-2 w ↦ inr (λ f at same. clash w.has_range-then-behind-gt0.result (w.has_range-then-behind-gt0.ensures.only f at same) w.if-has_range-2.false)
      | else-behind-gt0-via-else-behind-gt0 w ↦ inl (omega (arith, w.if-behind-gt0.false))
    ] in
    not_behind founds c.requires r behind c.partition_point-behind.ensures.bound
    (λ k f at less.
    let low : (get_or founds k f).base ≤ r.base = leb-true (get_or founds k f).base r.base (point.0 k f (omega arith) less) in
    let one = ap (λ (x : Found). x.base) (get_or_from_slice_get founds k f f at) in
    omega (arith, low, one))
    (λ k f at past.
    let high : r.base < (get_or founds k f).base = leb-false (get_or founds k f).base r.base (point.1 k f past (slice_get_within founds k f at)) in
    let one = ap (λ (x : Found). x.base) (get_or_from_slice_get founds k f f at) in
    omega (arith, high, one))
    last

pub returns-then-has_range-2-clause-some : goal.returns-then-has_range-2-clause-some
returns-then-has_range-2-clause-some c = search rules
