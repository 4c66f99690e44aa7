-- A request that fits, the image with its stated rows committed, and what lower laws say of both.
use Rattle.std.proofs.Common.{◌≡◌, ℕ, true, false, if◌then◌else◌, Some, None}
use Rattle.std.specs.Prelude.{Contains}
use Rattle.cxl_topo.specs.Tree.{is_endpoint_at}
use Rattle.cxl_regs.specs.Reading.{committed_count}
use Rattle.cxl_span.specs.Spans.{span_start_of}
use Rattle.cxl_window.specs.Fields.{WindowFields}
use Rattle.cxl_topo.proofs.Trees.{KnownTree}
use Rattle.cxl_model.specs.declared.plan.Row.{Row}
use Rattle.cxl_model.specs.declared.request.Request.{Request}
use Rattle.cxl_model.specs.System.{System, IsSystem, decoders_at}
use Rattle.cxl_model.specs.Ranges.{serves, decoder_for, index_for, window_for, span_kind}
use Rattle.cxl_model.specs.Accepted.{KeepsBlocks}
use Rattle.cxl_model.specs.Plans.{AreRowsOf, IsRow, committed_row, with_rows}
use Rattle.cxl_model.proofs.RangeRules.{RangesRise}
use Rattle.cxl_legal.specs.Used.{is_used}
use Rattle.cxl_legal.specs.Stated.{has_row, stated_row, stated_rows, stated_start, planned_range, Fits}
use Rattle.cxl_legal.proofs.RowsRanges.{Lower}
use Rattle.cxl_legal.proofs.RowsSpans.{SpanLaw}

-- the image with the stated rows committed
abbrev pub stated_image : System → Request → WindowFields → ℕ → System
stated_image s request w base = with_rows s (stated_rows s request w base)

pub record Stated (s : System) (request : Request) (w : WindowFields) (base : ℕ) : Type 0 where
  pub lower : Lower
  pub spans : SpanLaw
  pub rise : RangesRise
  pub known : KnownTree s.nodes
  pub fits : Fits s request w base
  pub rows : AreRowsOf s request (stated_rows s request w base)
  pub each : (row : Row) → Contains (stated_rows s request w base) row → IsRow s (planned_range request base) row
  pub new : (n : ℕ) → serves s (planned_range request base) n ≡ false
  pub decoders : (n : ℕ) → decoder_for (stated_image s request w base) (planned_range request base) n ≡ (if has_row s request n then Some (committed_row (stated_row s request w base n)) else None)
  pub indices : (n : ℕ) → index_for (stated_image s request w base) (planned_range request base) n ≡ (if has_row s request n then Some (committed_count (decoders_at s n)) else None)
  pub blocks : KeepsBlocks (stated_image s request w base)
  pub system : IsSystem (stated_image s request w base)
  pub window : window_for (stated_image s request w base) (planned_range request base) ≡ Some w
  pub starts : (m : ℕ) → is_endpoint_at s.nodes m ≡ true → is_used s request m ≡ true → span_start_of (decoders_at (stated_image s request w base) m) (committed_count (decoders_at s m)) ≡ stated_start s request m
  pub kinds : (m : ℕ) → is_endpoint_at s.nodes m ≡ true → is_used s request m ≡ true → span_kind (stated_image s request w base) m (committed_count (decoders_at s m)) ≡ request.kind
