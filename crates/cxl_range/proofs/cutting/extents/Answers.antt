use Rattle.std.proofs.Common.{◌≡◌, ℕ, ◌+◌, ◌-◌, ◌/◌, ◌≤◌, sym, ap, subst, ◌∙◌, arith}
use Rattle.std.specs.Prelude.{All, sum_by}
use Rattle.cxl_num.specs.Interleave.{chunk_size}
use Rattle.cxl_window.specs.Fields.{WindowFields}
use Rattle.cxl_deal.specs.Weaves.{WeaveFields}
use Rattle.cxl_model.specs.declared.extent.Extent.{Extent}
use Rattle.cxl_model.specs.declared.found.Found.{Found}
use Rattle.cxl_range.specs.Extents.{chunk_extent}
use Rattle.cxl_range.specs.Carried.{IsCarried, Follow}
use Rattle.cxl_range.proofs.Lists.{one_extent, more_chunks, chunks_rise, all_chunks}
use Rattle.cxl_range.proofs.cutting.extents.Goals as goal

pub returns-then-found-eq1-clause-exact : goal.returns-then-found-eq1-clause-exact
returns-then-found-eq1-clause-exact c =
    one_extent c.args.found.now c.args.window.now c.args.h c.args.len c.new-extents.result.items c.push.new.self.items c.extent_at.result c.if-found-eq1.true c.new-extents.ensures.items c.in_ok-push.ensures.items
    (c.extent_at.ensures c.args.window.now c.region_weave-weave.ensures.value)

pub returns-then-found-eq1-clause-carried : goal.returns-then-found-eq1-clause-carried
returns-then-found-eq1-clause-carried c =
    let r = c.requires in
    subst (All (IsCarried c.args.found.now c.args.window.now)) (sym (returns-then-found-eq1-clause-exact c))
    (c.extents_carry_their_bytes.ensures.carried r.region.0 c.args.window.now c.args.found.now c.args.h c.args.len r.region.1 r.region.2 r.some r.from r.ends)

pub returns-then-found-eq1-clause-follow : goal.returns-then-found-eq1-clause-follow
returns-then-found-eq1-clause-follow c =
    let r = c.requires in
    subst (Follow c.args.h (c.args.h + c.args.len)) (sym (returns-then-found-eq1-clause-exact c))
    (c.extents_carry_their_bytes.ensures.follow r.region.0 c.args.window.now c.args.found.now c.args.h c.args.len r.region.1 r.region.2 r.some r.from r.ends)

pub returns-then-found-eq1-clause-lengths : goal.returns-then-found-eq1-clause-lengths
returns-then-found-eq1-clause-lengths c =
    let r = c.requires in
    ap (sum_by (λ (e : Extent). e.len)) (returns-then-found-eq1-clause-exact c)
    ∙ c.extents_carry_their_bytes.ensures.lengths r.region.0 c.args.window.now c.args.found.now c.args.h c.args.len r.region.1 r.region.2 r.some r.from r.ends

-- the code's chunk size is that of the region
size_is : (found : Found) (w : WindowFields) (v : WeaveFields) (size : ℕ) → v.gran ≡ found.gran → size ≡ chunk_size v.gran → size ≡ chunk_size found.gran
size_is found w v size gran is = is ∙ ap chunk_size gran

pub loop-chunk-preserved : goal.loop-chunk-preserved
loop-chunk-preserved c =
    let found : Found = c.args.found.now in
    let w : WindowFields = c.args.window.now in
    let size = size_is found w c.region_weave-weave.result c.chunk_bytes-size.result c.region_weave-weave.ensures.woven.gran c.chunk_bytes-size.ensures.value in
    let long : c.args.h + c.from.result - c.args.h ≡ c.args.len = omega (arith, c.from.ensures) in
    let own = c.chunk_extent.ensures w c.region_weave-weave.ensures.value ∙ ap (λ (n : ℕ). chunk_extent found w c.args.h n c.loop-chunk.chunk) long in
    more_chunks found w c.args.h c.args.len c.chunk_bytes-size.result size c.loop-chunk.extents.items c.push-in-loop-chunk.new.self.items c.chunk_extent.result c.loop-chunk.chunk c.loop-chunk.auto.chunk c.loop-chunk.invariant c.in_ok-push-2.ensures.items own

pub returns-clause-exact : goal.returns-clause-exact
returns-clause-exact c =
    let found : Found = c.args.found.now in
    let w : WindowFields = c.args.window.now in
    let r = c.requires in
    let h : ℕ = c.args.h in
    let n : ℕ = c.chunk_bytes-size.result in
    let size = size_is found w c.region_weave-weave.result n c.region_weave-weave.ensures.woven.gran c.chunk_bytes-size.ensures.value in
    let last : ℕ = (h + c.from.result - 1 - found.base) / n in
    let last_is : last ≡ (h + c.args.len - 1 - found.base) / n = ap (λ (x : ℕ). (h + x - 1 - found.base) / n) c.from.ensures in
    let up = chunks_rise found w h c.args.len n size last r.some r.from last_is in
    let top : c.loop-chunk.chunk ≤ last + 1 = c.loop-chunk.auto.chunk-end (omega (arith, up)) in
    let end : c.loop-chunk.chunk ≡ last + 1 = omega (arith, top, c.loop-chunk-test.false) in
    all_chunks found w h c.args.len n size c.loop-chunk.extents.items c.loop-chunk.chunk last c.if-found-eq1.false last_is end c.loop-chunk.invariant

pub returns-clause-carried : goal.returns-clause-carried
returns-clause-carried c =
    let r = c.requires in
    subst (All (IsCarried c.args.found.now c.args.window.now)) (sym (returns-clause-exact c))
    (c.extents_carry_their_bytes.ensures.carried r.region.0 c.args.window.now c.args.found.now c.args.h c.args.len r.region.1 r.region.2 r.some r.from r.ends)

pub returns-clause-follow : goal.returns-clause-follow
returns-clause-follow c =
    let r = c.requires in
    subst (Follow c.args.h (c.args.h + c.args.len)) (sym (returns-clause-exact c))
    (c.extents_carry_their_bytes.ensures.follow r.region.0 c.args.window.now c.args.found.now c.args.h c.args.len r.region.1 r.region.2 r.some r.from r.ends)

pub returns-clause-lengths : goal.returns-clause-lengths
returns-clause-lengths c =
    let r = c.requires in
    ap (sum_by (λ (e : Extent). e.len)) (returns-clause-exact c)
    ∙ c.extents_carry_their_bytes.ensures.lengths r.region.0 c.args.window.now c.args.found.now c.args.h c.args.len r.region.1 r.region.2 r.some r.from r.ends
