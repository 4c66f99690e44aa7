use Rattle.std.proofs.Common.{◌≡◌, ℕ, ◌+◌, ◌-◌, ◌%◌, ◌<◌, ◌≤◌, min, refl, ap, ◌∙◌, arith, rules}
use Rattle.std.specs.Prelude.{slice_index, slice_set}
use Rattle.std.proofs.Math.Nat.{mod-lt}
use Rattle.cxl_num.specs.Interleave.{chunk_size}
use Rattle.cxl_deal.specs.Weaves.{WeaveFields}
use Rattle.cxl_deal.proofs.Ways.{chunk_size-pos}
use Rattle.cxl_range.specs.inner.Woven.{bytes_before}
use Rattle.cxl_range.proofs.Turns.{before_few}
use Rattle.cxl_range.proofs.Slots.{next_chunk}
use Rattle.cxl_range.proofs.counting.with_chunks.Goals as goal

-- the bytes that a step takes end with the chunk
fits_chunk : (v : WeaveFields) (size base at end len : ℕ) → size ≡ chunk_size v.gran → base ≡ v.base → len ≡ min (size - (at - base) % size) (end - at) → (at - v.base) % chunk_size v.gran + len ≤ chunk_size v.gran
fits_chunk v size base at end len is base_is len_is =
    let g : ℕ = chunk_size v.gran in
    let rest : (at - base) % size ≡ (at - v.base) % g = ap (λ (b : ℕ). (at - b) % size) base_is ∙ ap (λ (s : ℕ). (at - v.base) % s) is in
    let below : (at - v.base) % g < g = mod-lt (at - v.base) (chunk_size-pos v.gran) in
    omega (arith, len_is, rest, below, is)

pub overflow_add-counts : goal.overflow_add-counts
overflow_add-counts c =
    let v : WeaveFields = c.args.weave.now in
    let inv = c.loop-at.invariant in
    let slot : ℕ = c.deal.result.slot in
    let few : slot < 16 = omega arith in
    let own : slice_index c.loop-at.counts slot ≡ bytes_before v c.loop-at.at slot = inv.are.each slot few in
    omega (arith, own, before_few v c.loop-at.at slot, inv.up, c.requires.low, c.min-len.ensures)

pub loop-at-preserved : goal.loop-at-preserved
loop-at-preserved c =
    let v : WeaveFields = c.args.weave.now in
    let inv = c.loop-at.invariant in
    let slot : ℕ = c.deal.result.slot in
    let few : slot < 16 = omega arith in
    let fits = fits_chunk v c.chunk_bytes-size.result c.base.result c.loop-at.at c.args.end c.min-len.result c.chunk_bytes-size.ensures.value c.base.ensures.value c.min-len.ensures in
    record {
      from = omega (arith, inv.from);
      up = omega (arith, inv.up, c.min-len.ensures);
      are = next_chunk v (λ h d. c.chunks_deal_whole.ensures.slot v h d c.base.ensures.weave) c.loop-at.at c.min-len.result slot c.loop-at.counts
          (slice_set c.loop-at.counts slot (slice_index c.loop-at.counts slot + c.min-len.result)) inv.from fits c.deal.ensures.slot few inv.are refl;
    }

pub returns : goal.returns
returns c = search rules
