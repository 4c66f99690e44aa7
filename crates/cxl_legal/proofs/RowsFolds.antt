-- Lists of decoders with one set, of which none has the range before, and the first that is not committed.
use Rattle.std.proofs.Common.{◌≡◌, ◌<◌, false, List, length, sym, ◌∙◌, inl, inr, arith}
use Rattle.std.proofs.lemmas.Bool.{cases_lt, false≢true}
use Rattle.std.proofs.lemmas.List.Sums.{prefix_len_passes, list_all-from_AllPass}
use Rattle.cxl_regs.specs.declared.decoder.Decoder.{Decoder}
use Rattle.cxl_regs.specs.Reading.{committed_count}
use Rattle.cxl_span.specs.Allotting.{all_committed}

-- a decoder is left where not all are committed
pub count_below : (ds : List Decoder) → all_committed ds ≡ false → committed_count ds < length ds
count_below ds left =
    elim (cases_lt (committed_count ds) (length ds)) [
      | inl low ↦ low
      | inr all ↦
          absurd (false≢true (sym left ∙ list_all-from_AllPass (λ (d : Decoder). d.committed) ds (λ k d within. prefix_len_passes (λ (x : Decoder). x.committed) ds k d (omega arith))))
    ]
