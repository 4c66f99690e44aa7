-- Committed decoders stand before all others, and their ranges rise.
use Rattle.std.proofs.Common.{◌≡◌, ℕ, zero, suc, ◌+◌, ◌<◌, ◌≤◌, true, false, List, length, get_or, Some, sym, ap, ◌∙◌, inl, inr, arith}
use Rattle.std.specs.Prelude.{slice_get}
use Rattle.std.proofs.lemmas.Bool.{cases_lt}
use Rattle.std.proofs.lemmas.Option.{slice_get_within, slice_get-get_or, get_or_from_slice_get}
use Rattle.std.proofs.lemmas.List.Sums.{prefix_len_passes, prefix_len_stops}
use Rattle.cxl_enc.proofs.Tests.{clash}
use Rattle.cxl_regs.specs.declared.decoder.Decoder.{Decoder}
use Rattle.cxl_regs.specs.Registers.{Registers}
use Rattle.cxl_regs.specs.Reading.{committed_count}
use Rattle.cxl_span.specs.Breaches.{BlockKeeps}
use Rattle.cxl_span.proofs.KeptRules.{committed_before_one, rises_from_one}

-- one decoder stands at a place
pub same_decoder : (decoders : List Decoder) (i j : ℕ) (d e : Decoder) → i ≡ j → slice_get decoders i ≡ Some d → slice_get decoders j ≡ Some e → d ≡ e
same_decoder decoders i j d e same at_d at_e =
    let there : slice_get decoders j ≡ Some d = ap (slice_get decoders) (sym same) ∙ at_d in
    sym (get_or_from_slice_get decoders j d d there) ∙ get_or_from_slice_get decoders j e d at_e

-- there is one before another
pub one_below : (decoders : List Decoder) (j : ℕ) (e : Decoder) → slice_get decoders (suc j) ≡ Some e → slice_get decoders j ≡ Some (get_or decoders j e)
one_below decoders j e at_e =
    let within = slice_get_within decoders (suc j) e at_e in
    slice_get-get_or decoders j e (omega arith)

pub committed_before : (block : Registers) (ram pmem : ℕ) → BlockKeeps block ram pmem → (j : ℕ) (e : Decoder) → slice_get block.decoders j ≡ Some e
    → e.committed ≡ true → (i : ℕ) (d : Decoder) → slice_get block.decoders i ≡ Some d → i < j → d.committed ≡ true
committed_before block ram pmem keeps zero e at_e committed i d at_d below = absurd (omega arith)
committed_before block ram pmem keeps (suc j) e at_e committed i d at_d below =
    let b : Decoder = get_or block.decoders j e in
    let at_b = one_below block.decoders j e at_e in
    let b_committed = committed_before_one block ram pmem j (suc j) b e keeps (omega arith) at_b at_e committed in
    elim (cases_lt i j) [
      | inl lower ↦ committed_before block ram pmem keeps j b at_b b_committed i d at_d lower
      | inr last ↦ ap (λ (x : Decoder). x.committed) (same_decoder block.decoders i j d b (omega arith) at_d at_b) ∙ b_committed
    ]

pub ranges_rise : (block : Registers) (ram pmem : ℕ) → BlockKeeps block ram pmem → (j : ℕ) (e : Decoder) → slice_get block.decoders j ≡ Some e
    → e.committed ≡ true → (i : ℕ) (d : Decoder) → slice_get block.decoders i ≡ Some d → i < j → d.base + d.size ≤ e.base
ranges_rise block ram pmem keeps zero e at_e committed i d at_d below = absurd (omega arith)
ranges_rise block ram pmem keeps (suc j) e at_e committed i d at_d below =
    let b : Decoder = get_or block.decoders j e in
    let at_b = one_below block.decoders j e at_e in
    let b_committed = committed_before_one block ram pmem j (suc j) b e keeps (omega arith) at_b at_e committed in
    let step = rises_from_one block ram pmem j (suc j) b e keeps (omega arith) at_b at_e committed in
    elim (cases_lt i j) [
      | inl lower ↦ (let lower_rise = ranges_rise block ram pmem keeps j b at_b b_committed i d at_d lower in omega arith)
      | inr last ↦ (let end : d.base + d.size ≡ b.base + b.size = ap (λ (x : Decoder). x.base + x.size) (same_decoder block.decoders i j d b (omega arith) at_d at_b) in omega arith)
    ]

-- those before the first that is not committed are the committed ones
pub counted_is_committed : (decoders : List Decoder) (i : ℕ) (d : Decoder) → slice_get decoders i ≡ Some d → i < committed_count decoders → d.committed ≡ true
counted_is_committed decoders i d at_d below =
    ap (λ (x : Decoder). x.committed) (sym (get_or_from_slice_get decoders i d d at_d)) ∙ prefix_len_passes (λ (x : Decoder). x.committed) decoders i d below

pub committed_is_counted : (block : Registers) (ram pmem : ℕ) → BlockKeeps block ram pmem → (i : ℕ) (d : Decoder) → slice_get block.decoders i ≡ Some d
    → d.committed ≡ true → i < committed_count block.decoders
committed_is_counted block ram pmem keeps i d at_d committed =
    let n : ℕ = committed_count block.decoders in
    let within = slice_get_within block.decoders i d at_d in
    elim (cases_lt i n) [
      | inl lower ↦ lower
      | inr past ↦
          (let room : n < length block.decoders = omega arith in
          let stop : Decoder = get_or block.decoders n d in
          let at_stop = slice_get-get_or block.decoders n d room in
          let not_committed : stop.committed ≡ false = prefix_len_stops (λ (x : Decoder). x.committed) block.decoders d room in
          elim (cases_lt n i) [
            | inl above ↦ absurd (clash stop.committed (committed_before block ram pmem keeps i d at_d committed n stop at_stop above) not_committed)
            | inr at ↦ absurd (clash stop.committed (ap (λ (x : Decoder). x.committed) (same_decoder block.decoders n i stop d (omega arith) at_stop at_d) ∙ committed) not_committed)
          ])
    ]
