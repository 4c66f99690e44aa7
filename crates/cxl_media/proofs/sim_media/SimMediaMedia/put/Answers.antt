-- A block that has a frame is written over; else one takes a free frame, where there is one.
use Rattle.std.proofs.Common.{◌≢◌, ℕ, ◌/◌, ◌%◌, Some, is_some, refl, sym, ap, subst, ◌∙◌, length, arith}
use Rattle.std.proofs.lemmas.Bool.{false≢true}
use Rattle.std.specs.FinMap.{FinMap, get, insert}
use Rattle.cxl_media.specs.Blocks.{Key, key_cmp, key_of, overwritten}
use Rattle.cxl_media.specs.Table.{Cells, frames_in}
use Rattle.cxl_media.specs.Zones.{AreZoned}
use Rattle.cxl_media.specs.Sim.{shipped_blocks}
use Rattle.cxl_media.proofs.Items.{put_counts}
use Rattle.cxl_media.proofs.Zeros.{length-zeros}
use Rattle.cxl_media.proofs.SimCalls.{sim_view, in_block, in_needed, out_block, rewrites_blocks, rewrites_free, adds_sim, adds_blocks, adds_free, fresh_bytes, full_where}
use Rattle.cxl_media.proofs.sim_media.SimMediaMedia.put.Goals as goal

pub returns-in-Some-clause-full : goal.returns-in-Some-clause-full
returns-in-Some-clause-full c =
    let none = in_needed _ _ (sim_view _ _ _ c.self.view_is) _ _ c.in-Some.ensures in (
      λ e. absurd (false≢true e),
      λ needed. absurd (omega (arith, none, needed.0)),
    )

pub returns-in-Some-clause-blocks : goal.returns-in-Some-clause-blocks
returns-in-Some-clause-blocks c =
    let old = in_block _ _ (sim_view _ _ _ c.self.view_is) _ _ c.in-Some.ensures c.bytes_mut.result.now c.bytes_mut.ensures.value in
    rewrites_blocks _ _ (sim_view _ _ _ c.self.view_is) _ c.self.invariant.sim _ _ c.in-Some.ensures c.overwrite.new.block
    ∙ ap (insert (shipped_blocks c.args.self.now) (key_of c.args.ep c.args.dpa)) c.overwrite.ensures
    ∙ ap (λ b. insert (shipped_blocks c.args.self.now) (key_of c.args.ep c.args.dpa) (overwritten b (c.args.dpa % 256) c.args.bytes.now)) (sym old)

pub returns-in-Some-clause-free : goal.returns-in-Some-clause-free
returns-in-Some-clause-free c = rewrites_free _ _ (sim_view _ _ _ c.self.view_is) _ c.self.invariant.sim _ _ c.in-Some.ensures c.overwrite.new.block

pub returns-in-Some-clause-whole : goal.returns-in-Some-clause-whole
returns-in-Some-clause-whole c =
    ap length (in_block _ _ (sim_view _ _ _ c.self.view_is) _ _ c.in-Some.ensures c.bytes_mut.result.now c.bytes_mut.ensures.value) ∙ c.bytes_mut.ensures.length

pub returns-in_default-take-clause-full : goal.returns-in_default-take-clause-full
returns-in_default-take-clause-full c =
    (λ _. full_where _ _ (sim_view _ _ _ c.self.view_is) _ c.in_default.ensures (c.in_default-take.ensures.none.0 refl), λ _. refl)

pub returns-in_default-take-clause-whole : goal.returns-in_default-take-clause-whole
returns-in_default-take-clause-whole c = ap length (out_block _ _ (sim_view _ _ _ c.self.view_is) _ c.in_default.ensures) ∙ length-zeros

pub add-requires-2 : goal.add-requires-2
add-requires-2 c =
    let within = c.in-Some-take.ensures.was_free.0 in
    record {
      some = omega (arith, within, c.self.invariant.sim.size, c.self.invariant.homes);
      size = c.self.invariant.zoned.size;
      room = omega (arith, c.number-place.ensures, within, c.self.invariant.sim.size, c.self.invariant.places);
      small = omega (arith, c.number-place.ensures, within, c.self.invariant.sim.size, c.self.invariant.small);
    }

pub invariant_of-self-2 : goal.invariant_of-self-2
invariant_of-self-2 c =
    let free = c.in-Some-take.ensures.was_free in
    let cells : Cells = c.self.inside.index.cells in
    let fresh : (key : Key) → get (frames_in cells) key ≢ Some c.number-place.result = λ key is.
    false≢true (sym (ap is_some free.1) ∙ c.self.invariant.sim.out key c.in-Some-take.frame (is ∙ ap (λ (n : ℕ). Some n) c.number-place.ensures)) in
    let zoned = c.add-2.ensures.zoned (frames_in cells) c.self.invariant.zoned (sym c.in_default.ensures) fresh in
    record {
      sim = adds_sim _ _ (sim_view _ _ _ c.self.view_is) _ c.self.invariant.sim _ c.in_default.ensures _ c.in-Some-take.ensures.was_free _ c.in-Some-take.ensures.taken _ c.add.ensures.frames c.overwrite-2.new.block _ c.add.ensures.room;
      zoned =
          subst (λ (frames : FinMap key_cmp ℕ). AreZoned frames c.add-2.new.self.homes c.add-2.new.self.firsts c.add-2.new.self.nodes.items)
          (ap (insert (frames_in cells) (c.args.ep, c.args.dpa / 256)) c.number-place.ensures ∙ sym c.add.ensures.frames) zoned;
      homes = omega (arith, c.add-2.ensures.homes, c.add.ensures.room, c.self.invariant.homes);
      places = omega (arith, c.add-2.ensures.capacity, c.add.ensures.room, c.self.invariant.places);
      small = omega (arith, c.add.ensures.room, c.self.invariant.small);
    }

pub returns-clause-blocks : goal.returns-clause-blocks
returns-clause-blocks c =
    let fresh = fresh_bytes _ _ (sim_view _ _ _ c.self.view_is) _ c.self.invariant.sim _ c.in_default.ensures _ c.in-Some-take.ensures.was_free _ c.in-Some-take.ensures.taken _ c.add.ensures.frames c.overwrite-2.new.block c.bytes_mut-2.result.now c.bytes_mut-2.ensures.value in
    let old = out_block _ _ (sim_view _ _ _ c.self.view_is) _ c.in_default.ensures in
    adds_blocks _ _ (sim_view _ _ _ c.self.view_is) _ c.self.invariant.sim _ c.in_default.ensures _ c.in-Some-take.ensures.was_free _ c.in-Some-take.ensures.taken _ c.add.ensures.frames c.overwrite-2.new.block
    ∙ ap (insert (shipped_blocks c.args.self.now) (key_of c.args.ep c.args.dpa)) c.overwrite-2.ensures
    ∙ ap (λ b. insert (shipped_blocks c.args.self.now) (key_of c.args.ep c.args.dpa) (overwritten b (c.args.dpa % 256) c.args.bytes.now)) (fresh ∙ sym old)

pub returns-clause-free : goal.returns-clause-free
returns-clause-free c =
    adds_free _ _ (sim_view _ _ _ c.self.view_is) _ c.self.invariant.sim _ c.in_default.ensures _ c.in-Some-take.ensures.was_free _ c.in-Some-take.ensures.taken _ c.add.ensures.frames c.overwrite-2.new.block

pub returns-clause-whole : goal.returns-clause-whole
returns-clause-whole c = ap length (out_block _ _ (sim_view _ _ _ c.self.view_is) _ c.in_default.ensures) ∙ length-zeros

pub returns-in-Some-clause-frames : goal.returns-in-Some-clause-frames
returns-in-Some-clause-frames c = put_counts _ _ _ _ _ _ (returns-in-Some-clause-blocks c) (returns-in-Some-clause-free c)

pub returns-clause-frames : goal.returns-clause-frames
returns-clause-frames c = put_counts _ _ _ _ _ _ (returns-clause-blocks c) (returns-clause-free c)
