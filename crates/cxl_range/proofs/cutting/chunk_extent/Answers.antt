use Rattle.std.proofs.Common.{◌≡◌, ℕ, ◌+◌, ◌-◌, ◌*◌, ◌/◌, ◌<◌, ◌≤◌, min, max, ap, ◌∙◌, arith}
use Rattle.cxl_num.specs.Interleave.{chunk_size}
use Rattle.cxl_deal.specs.Weaves.{WeaveFields, dealt_chunk}
use Rattle.cxl_deal.proofs.Ways.{chunk_size-pos}
use Rattle.cxl_model.specs.declared.found.Found.{Found}
use Rattle.cxl_range.specs.Extents.{extent_at, chunk_start}
use Rattle.cxl_range.specs.inner.Woven.{IsWoven}
use Rattle.cxl_range.proofs.Chunks.{small_chunk, TouchedAt, touched_at}
use Rattle.cxl_range.proofs.cutting.chunk_extent.Goals as goal

-- the chunk, with the bytes of one as the code has them
record CutAt (found : Found) (h end chunk size : ℕ) : Type 0 where
  start : chunk * size ≡ chunk * chunk_size found.gran
  next : found.base + chunk * size + size ≡ chunk_start found (chunk + 1)
  touched : TouchedAt found.base (chunk_size found.gran) h end chunk
  small : size ≤ 16384

cut_at : (found : Found) (v : WeaveFields) (h end chunk size : ℕ) → IsWoven found v → found.base ≤ h → h < end → dealt_chunk v h ≤ chunk → chunk ≤ dealt_chunk v (end - 1) → size ≡ chunk_size v.gran → CutAt found h end chunk size
cut_at found v h end chunk size woven from any first last is =
    let g : ℕ = chunk_size found.gran in
    let same : chunk_size v.gran ≡ g = ap chunk_size woven.gran in
    let own : size ≡ g = is ∙ same in
    let at : (x : ℕ) → dealt_chunk v x ≡ (x - found.base) / g = λ x. ap (λ (b : ℕ). (x - b) / chunk_size v.gran) woven.base ∙ ap (λ (b : ℕ). (x - found.base) / b) same in
    let touched = touched_at found.base g h end chunk (chunk_size-pos found.gran) from any (omega (arith, first, at h)) (omega (arith, last, at (end - 1))) in
    let start : chunk * size ≡ chunk * g = ap (λ (x : ℕ). chunk * x) own in
    record {
      start = start;
      next = omega (arith, start, own, touched.one);
      touched = touched;
      small = omega (arith, is, small_chunk v.gran woven.is.gran_known);
    }

pub overflow_add-start-2 : goal.overflow_add-start-2
overflow_add-start-2 c =
    let r = c.requires in
    let cut = cut_at c.args.found.now c.args.weave.now c.args.h c.args.end c.args.chunk c.chunk_bytes-size.result r.woven r.from r.some r.first r.last c.chunk_bytes-size.ensures.value in
    omega (arith, cut.start, cut.small, cut.touched.begins, r.ends, r.woven.low)

pub overflow_sub-to : goal.overflow_sub-to
overflow_sub-to c =
    let r = c.requires in
    let cut = cut_at c.args.found.now c.args.weave.now c.args.h c.args.end c.args.chunk c.chunk_bytes-size.result r.woven r.from r.some r.first r.last c.chunk_bytes-size.ensures.value in
    omega (arith, cut.start, cut.next, cut.touched.begins, cut.touched.past, r.some, c.max-from.ensures, c.min-to.ensures)

pub extent_at-requires-clause-below : goal.extent_at-requires-clause-below
extent_at-requires-clause-below c =
    let r = c.requires in
    let cut = cut_at c.args.found.now c.args.weave.now c.args.h c.args.end c.args.chunk c.chunk_bytes-size.result r.woven r.from r.some r.first r.last c.chunk_bytes-size.ensures.value in
    omega (arith, cut.start, cut.touched.begins, r.some, r.ends, c.max-from.ensures)

pub returns : goal.returns
returns c = λ w is.
    let found : Found = c.args.found.now in
    let r = c.requires in
    let cut = cut_at found c.args.weave.now c.args.h c.args.end c.args.chunk c.chunk_bytes-size.result r.woven r.from r.some r.first r.last c.chunk_bytes-size.ensures.value in
    let first : ℕ = max c.args.h (chunk_start found c.args.chunk) in
    let some = r.some in
    let whole : c.args.end ≡ c.args.h + (c.args.end - c.args.h) = omega (arith, some) in
    let from : c.max-from.result ≡ first = c.max-from.ensures ∙ ap (λ (n : ℕ). max c.args.h (found.base + n)) cut.start in
    let to : c.min-to.result ≡ min (c.args.h + (c.args.end - c.args.h)) (chunk_start found (c.args.chunk + 1)) =
    c.min-to.ensures ∙ ap (λ (n : ℕ). min c.args.end n) cut.next ∙ ap (λ (n : ℕ). min n (chunk_start found (c.args.chunk + 1))) whole in
    c.extent_at.ensures w is ∙ ap (λ (x : ℕ). extent_at found w x (c.min-to.result - x)) from ∙ ap (λ (x : ℕ). extent_at found w first (x - first)) to
