-- The decoders of every other range are the same in the image that a whole job leaves, and its rows are some.
use Rattle.std.proofs.Common.{◌≡◌, ◌≢◌, ◌⊎◌, ℕ, ◌<◌, List, [], ◌∷◌, length, reverse, Option, Some, None, refl, sym, ap, ◌∙◌, subst, inl, inr, arith}
use Rattle.std.specs.Prelude.{AllPairs}
use Rattle.std.specs.List.{flat_map}
use Rattle.std.proofs.lemmas.Bool.{false≢true}
use Rattle.std.proofs.lemmas.List.{take_all}
use Rattle.std.proofs.lemmas.List.Folds.{Any-from_list_any}
use Rattle.std.proofs.lemmas.Option.{slice_get-get_or, slice_get_within}
use Rattle.cxl_regs.specs.declared.decoder.Decoder.{Decoder}
use Rattle.cxl_regs.specs.Registers.{Registers}
use Rattle.cxl_window.specs.Fields.{WindowFields}
use Rattle.cxl_model.specs.declared.found.Found.{Found}
use Rattle.cxl_model.specs.declared.plan.Plan.{Plan}
use Rattle.cxl_model.specs.declared.plan.Row.{Row}
use Rattle.cxl_model.specs.declared.request.Request.{Request}
use Rattle.cxl_model.specs.System.{System, decoders_at}
use Rattle.cxl_regs.specs.declared.reading.Range.{Range}
use Rattle.cxl_regs.specs.Reading.{has_range}
use Rattle.cxl_model.specs.Ranges.{serves, index_for, IsCommittedRange}
use Rattle.cxl_model.specs.Accepted.{KeepsBlocks}
use Rattle.cxl_model.specs.Changes.{HaveSameDecoders}
use Rattle.cxl_model.specs.Plans.{with_rows, IsLegalPlan}
use Rattle.cxl_model.specs.Regions.{region_range, IsRegionIn}
use Rattle.cxl_apply.specs.declared.write.Write.{Write}
use Rattle.cxl_apply.specs.Jobs.{row_writes, AreCreateWrites, blocks_after_writes, blocks_done}
use Rattle.cxl_apply.specs.Releases.{rows_of, blocks_without, system_without}
use Rattle.cxl_apply.proofs.Words.{WordsLaw}
use Rattle.cxl_apply.proofs.JobWrites.{AllGood}
use Rattle.cxl_apply.proofs.Bounds.{length_done}
use Rattle.cxl_apply.proofs.BlockRules.{FirstLaw}
use Rattle.cxl_apply.proofs.Order.{falls}
use Rattle.cxl_apply.proofs.Planned.{Planned, all_committed}
use Rattle.cxl_apply.proofs.Freed.{no_position, row_there}
use Rattle.cxl_apply.proofs.Staying.{StaysAt, stays_keep, stays_same, create_good}
use Rattle.cxl_apply.proofs.Systems.{block_of}
use Rattle.cxl_apply.proofs.Again.{CanGo, RowAt, row_at, without_good, old_range, same_range}

-- what is known of an image that a job leaves
pub record Left (s t : System) (r : Range) : Type 0 where
  pub keeps : KeepsBlocks t
  pub same : (other : Range) → other ≢ r → HaveSameDecoders s t other

-- a committed range is the job's, or one of before
pub left_ranges : (s t : System) (r : Range) → Left s t r → (other : Range) → IsCommittedRange t other → (other ≡ r) ⊎ IsCommittedRange s other
left_ranges s t r left other committed =
    elim (same_range other r) [
      | inl e ↦ inl e
      | inr apart ↦ inr (old_range s t other (left.same other apart) committed)
    ]

-- ---- a create

-- a plan's rows make the writes of its create
own_create : (s : System) (rows : List Row) → AllPairs (λ (row next : Row). row.node < next.node) rows → AreCreateWrites s.blocks rows (flat_map (row_writes s.blocks) (reverse rows))
own_create s rows rising = record {
  falling = reverse rows;
  order = falls rows rows (record { order = rising; same = λ row. ((λ there. there), (λ there. there)) });
  each = refl;
}

pub left_by_create : WordsLaw → FirstLaw → (s : System) (r : Range) (rows : List Row) → AllPairs (λ (row next : Row). row.node < next.node) rows → Planned s r rows → Left s (with_rows s rows) r
left_by_create law first s r rows rising is =
    let writes : List Write = flat_map (row_writes s.blocks) (reverse rows) in
    let create : AreCreateWrites s.blocks rows writes = own_create s rows rising in
    let whole : blocks_done s.blocks writes (length writes) ≡ (with_rows s rows).blocks =
    ap (blocks_after_writes s.blocks) (take_all (length writes) writes (omega arith)) ∙ all_committed law first s r rows writes is create in
    let good : AllGood (StaysAt s r) (with_rows s rows).blocks = subst (AllGood (StaysAt s r)) whole (create_good law first s r rows writes (length writes) is create) in
    let long : length (with_rows s rows).blocks ≡ length s.blocks = ap (λ (b : List Registers). length b) (sym whole) ∙ length_done s.blocks writes (length writes) in
    record {
      keeps = stays_keep s r (with_rows s rows).blocks is.keeps long good;
      same = λ other apart. stays_same s r other (with_rows s rows).blocks long good apart;
    }

-- a region of the image has another range than the one that is new
pub planned_elsewhere : (s : System) (request : Request) (plan : Plan) (w : WindowFields) (found : Found) → IsLegalPlan s request plan → IsRegionIn s w found → region_range found ≢ region_range plan.found
planned_elsewhere s request plan w found is region e =
    false≢true (sym (is.1.new region.committed.0) ∙ ap (λ (r : Range). serves s r region.committed.0) (sym e) ∙ region.committed.1)

-- a legal plan has rows: its range is new, and committed with them
pub plan_has_rows : (s : System) (request : Request) (plan : Plan) → IsLegalPlan s request plan → 0 < length plan.rows
plan_has_rows s request plan is = some_row plan.rows is.1.region.committed
  where
    some_row : (rows : List Row) → IsCommittedRange (with_rows s rows) (region_range plan.found) → 0 < length rows
    some_row [] committed = absurd (false≢true (sym (is.1.new committed.0) ∙ committed.1))
    some_row (row ∷ rest) committed = omega arith

-- ---- a release

pub left_by_release : WordsLaw → (s : System) (found : Found) → CanGo s found → Left s (system_without s found) (region_range found)
left_by_release law s found can =
    let good = without_good law s found can in
    record {
      keeps = stays_keep s (region_range found) (blocks_without s found) can.keeps good.1 good.0;
      same = λ other apart. stays_same s (region_range found) other (blocks_without s found) good.1 good.0 apart;
    }

-- a committed range has a row
pub range_has_rows : (s : System) (found : Found) → length s.blocks ≡ length s.nodes → IsCommittedRange s (region_range found) → 0 < length (rows_of s found)
range_has_rows s found count committed = by_index (index_for s r n) refl
  where
    r : Range
    r = region_range found

    n : ℕ
    n = committed.0

    by_index : (o : Option ℕ) → index_for s r n ≡ o → 0 < length (rows_of s found)
    by_index None none =
        let at = Any-from_list_any (has_range r) (decoders_at s n) committed.1 in
        absurd (no_position (has_range r) (decoders_at s n) at.0 at.1 none (slice_get-get_or (decoders_at s n) at.0 at.1 at.2 ∙ ap (λ (x : Decoder). Some x) at.3) at.4)
    by_index (Some i) at =
        let row : RowAt s r n = row_at s r n i at in
        let some = Any-from_list_any (has_range r) (decoders_at s n) committed.1 in
        let own = block_of s n some.0 some.2 in
        let low : n < length s.blocks = slice_get_within s.blocks n own.block own.here in
        let there = row_there s found n row.row (omega (arith, low, count)) row.is in
        omega (arith, there.1)
