-- What decoders skip and take, one decoder more at a time.
use Rattle.std.proofs.Common.{◌≡◌, ℕ, ◌+◌, List, take, Some, sum_by, ap, ◌∙◌}
use Rattle.std.specs.Prelude.{slice_get}
use Rattle.std.proofs.lemmas.Option.{slice_get_within, get_or_from_slice_get}
use Rattle.std.proofs.lemmas.List.Sums.{sum_by_more}
use Rattle.cxl_regs.specs.declared.decoder.Decoder.{Decoder}
use Rattle.cxl_span.specs.Spans.{span_step}

pub taken_more : (decoders : List Decoder) (i : ℕ) (d : Decoder) → slice_get decoders i ≡ Some d
    → sum_by span_step (take (i + 1) decoders) ≡ sum_by span_step (take i decoders) + span_step d
taken_more decoders i d at =
    sum_by_more span_step decoders i d (slice_get_within decoders i d at)
    ∙ ap (λ (x : Decoder). sum_by span_step (take i decoders) + span_step x) (get_or_from_slice_get decoders i d d at)
