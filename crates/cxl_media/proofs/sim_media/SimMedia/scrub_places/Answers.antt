-- All blocks are gone through from the last place down.
use Rattle.std.proofs.Common.{◌≡◌, ℕ, ◌+◌, ◌-◌, ◌∙◌, subst, sym, ap, arith}
use Rattle.std.specs.FinMap.{len}
use Rattle.cxl_media.specs.Pool.{Frames, free_count}
use Rattle.cxl_media.specs.Blocks.{is_between, scrubbed}
use Rattle.cxl_media.specs.Table.{NonePass}
use Rattle.cxl_media.specs.Sim.{Sim, sim_of, blocks_of}
use Rattle.cxl_media.proofs.SimCalls.{sim_view}
use Rattle.cxl_media.proofs.Scrubs.{IsScrubbed, passes_at, at_number, some_homes, scrub_drops, none_left, scrubbed_blocks, scrubbed_frames}
use Rattle.cxl_media.proofs.sim_media.SimMedia.scrub_places.Goals as goal

pub remove-requires : goal.remove-requires
remove-requires c =
    let test = is_between c.args.ep c.args.from c.args.to in
    let block = passes_at test _ (sym c.has_between.ensures ∙ c.if-has_between.true) in
    record {
      some = some_homes test _ c.loop-place.self-inside.pool _ _ c.loop-place.invariant.scrubbed (c.loop-place.place - 1) c.remove-frame.result block.0 block.1 c.remove-frame.new.self c.remove-frame.ensures.frame c.remove-frame.ensures.frames;
      size = c.loop-place.invariant.scrubbed.shipped.zoned.size;
    }

pub loop-place-preserved-then-has_between : goal.loop-place-preserved-then-has_between
loop-place-preserved-then-has_between c =
    let test = is_between c.args.ep c.args.from c.args.to in
    let at = c.loop-place.place - 1 in
    let next : c.loop-place.place ≡ c.loop-place.place - 1 + 1 = omega (arith, c.loop-place-test.true) in
    let block = passes_at test _ (sym c.has_between.ensures ∙ c.if-has_between.true) in
    let dropped = scrub_drops test _ c.loop-place.self-inside.pool _ _ c.loop-place.invariant.scrubbed at c.remove-frame.result block.0 block.1 c.remove-frame.new.self c.remove-frame.ensures.frame c.remove-frame.ensures.frames c.remove-frame.ensures.room block.2 c.remove.new.self (at_number c.number.result c.remove-frame.result c.loop-place.self-inside.zones c.remove.new.self c.number.ensures c.remove.ensures.zoned) c.remove.ensures.homes c.remove.ensures.capacity in
    record {
      scrubbed = subst (λ (pool : Frames). IsScrubbed test (sim_of c.self.inside.pool c.self.inside.index.cells) pool c.remove-frame.new.self c.remove.new.self) (sym c.give.ensures) dropped;
      none = c.remove-frame.ensures.later test (subst (λ (n : ℕ). NonePass test c.loop-place.self-inside.index.cells n) next c.loop-place.invariant.none);
    }

pub returns-clause-blocks : goal.returns-clause-blocks
returns-clause-blocks c =
    let test = is_between c.args.ep c.args.from c.args.to in
    scrubbed_blocks _ _ _ _ _ c.loop-place.invariant.scrubbed (none_left test _ c.loop-place.place c.loop-place.invariant.none c.loop-place-test.false)
    ∙ ap (λ (s : Sim). scrubbed (blocks_of s) c.args.ep c.args.from c.args.to) (sim_view _ _ _ c.self.view_is)

pub returns-clause-frames : goal.returns-clause-frames
returns-clause-frames c =
    scrubbed_frames _ _ _ _ _ c.loop-place.invariant.scrubbed _ c.self.invariant.sim ∙ ap (λ (s : Sim). free_count s.pool + len (blocks_of s)) (sim_view _ _ _ c.self.view_is)
