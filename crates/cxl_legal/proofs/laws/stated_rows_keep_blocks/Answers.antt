use Rattle.cxl_legal.proofs.RowsRanges.{Lower, known_tree, new_range}
use Rattle.cxl_legal.proofs.RowsUsed.{rows_of}
use Rattle.cxl_legal.proofs.RowsImages.{decoder_for_range, index_for_range}
use Rattle.cxl_legal.proofs.RowsSpans.{SpanLaw}
use Rattle.cxl_legal.proofs.RowsDecoders.{is_row}
use Rattle.cxl_legal.proofs.RowsKept.{blocks_kept, system_kept}
use Rattle.cxl_legal.proofs.RowsOthers.{same_decoders, in_window, new_starts, new_kinds}
use Rattle.cxl_legal.proofs.laws.stated_rows_keep_blocks.Goals as goal

known : goal.After-one_window → Lower
known c = record {
  trees = c.tree_laws.ensures.laws;
  counted = c.committed_stand_first.ensures.counted;
  apart = c.ranges_rise.ensures.apart;
  window = c.one_window.ensures;
}

spans : goal.After-one_window → SpanLaw
spans c = record { starts = c.spans_are_whole.ensures.start_aligned; lengths = c.spans_are_whole.ensures.length_aligned }

pub returns-clause-rows : goal.returns-clause-rows
returns-clause-rows c = λ s request w base fits. rows_of s request w base (known_tree (known c) s request w base fits) fits.named

pub returns-clause-each : goal.returns-clause-each
returns-clause-each c = λ s request w base row fits. is_row (known c) (spans c) s request w base fits row

pub returns-clause-new : goal.returns-clause-new
returns-clause-new c = λ s request w base n fits. new_range (known c) s request w base fits n

pub returns-clause-decoders : goal.returns-clause-decoders
returns-clause-decoders c = λ s request w base n fits. decoder_for_range (known c) s request w base fits n

pub returns-clause-indices : goal.returns-clause-indices
returns-clause-indices c = λ s request w base n fits. index_for_range (known c) s request w base fits n

pub returns-clause-blocks : goal.returns-clause-blocks
returns-clause-blocks c = λ s request w base fits. blocks_kept (known c) (spans c) s request w base fits

pub returns-clause-system : goal.returns-clause-system
returns-clause-system c = λ s request w base fits. system_kept (known c) (spans c) s request w base fits

pub returns-clause-others : goal.returns-clause-others
returns-clause-others c = λ s request w base r fits. same_decoders (known c) s request w base fits r

pub returns-clause-window : goal.returns-clause-window
returns-clause-window c = λ s request w base fits. in_window (known c) s request w base fits

pub returns-clause-starts : goal.returns-clause-starts
returns-clause-starts c = λ s request w base m fits. new_starts (known c) s request w base fits m

pub returns-clause-kinds : goal.returns-clause-kinds
returns-clause-kinds c = λ s request w base m fits. new_kinds (known c) (spans c) c.spans_lie_in_partitions.ensures.one s request w base fits m
