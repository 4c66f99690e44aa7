-- The chain of the zone's home is gone through.
use Rattle.std.proofs.Common.{◌≡◌, ℕ, suc, ◌+◌, ◌-◌, List, None, Some, refl, ◌∙◌, subst, sym, ap, arith}
use Rattle.std.specs.FinMap.{FinMap, get, len, remove}
use Rattle.cxl_media.specs.Pool.{Frames, free_count}
use Rattle.cxl_media.specs.Blocks.{key_cmp, Blocks, is_between}
use Rattle.cxl_media.specs.Table.{Cells, key_at, frames_in}
use Rattle.cxl_media.specs.Sim.{Sim, sim_of, blocks_of}
use Rattle.cxl_media.specs.declared.zones.Node.{Node}
use Rattle.cxl_media.specs.Zones.{node_at, key_of_node, nexts, IsAhead}
use Rattle.cxl_media.proofs.Keys.{same_some}
use Rattle.cxl_media.proofs.SimCalls.{sim_view}
use Rattle.cxl_media.proofs.Scrubs.{IsScrubbed, scrubbed_first, there, left, some_homes, scrub_drops, still_gone, at_number, scrubbed_frames}
use Rattle.cxl_media.proofs.Walks.{IsOnWay, way_begins, way_passes, way_drops, way_ends, block_none, frame_none, scrubbed_kept, scrubbed_gone, scrubbed_fewer}
use Rattle.cxl_media.proofs.sim_media.SimMedia.scrub_zone.Goals as goal
use Rattle.cxl_media.proofs.sim_media.SimMedia.scrub_zone.Goals.{then-is_between+in-Some, then-is_between+in_default, else-is_between}

pub loop-init : goal.loop-init
loop-init c = record {
  scrubbed = scrubbed_first (is_between c.args.ep c.args.from c.args.to) c.self.inside.pool c.self.inside.index c.self.inside.zones c.self.invariant;
  fewer = λ key none. none;
  way =
      way_begins c.args.ep c.args.from c.args.to c.args.zone (frames_in c.self.inside.index.cells) c.self.inside.zones.homes c.self.inside.zones.firsts c.self.inside.zones.nodes.items
      c.self.invariant.zoned c.first-at.result c.requires.to c.first-at.ensures;
}

pub returns-then-at-eq0-clause-fewer : goal.returns-then-at-eq0-clause-fewer
returns-then-at-eq0-clause-fewer c key none =
    let first : Sim = sim_of c.self.inside.pool c.self.inside.index.cells in
    block_none (sim_of c.loop.self-inside.pool c.loop.self-inside.index.cells) key
    (c.loop.invariant.fewer key (frame_none first key (ap (λ (s : Sim). get (blocks_of s) key) (sim_view _ _ _ c.self.view_is) ∙ none)))

pub returns-then-at-eq0-clause-gone : goal.returns-then-at-eq0-clause-gone
returns-then-at-eq0-clause-gone c key passed here =
    let cells : Cells = c.loop.self-inside.index.cells in
    let nodes : List Node = c.loop.self-inside.zones.nodes.items in
    let way = subst (λ (at : ℕ). IsOnWay c.args.ep c.args.from c.args.to c.args.zone (frames_in cells) nodes at) c.if-at-eq0.true c.loop.invariant.way in
    block_none (sim_of c.loop.self-inside.pool c.loop.self-inside.index.cells) key
    (way_ends c.args.ep c.args.from c.args.to c.args.zone (frames_in cells) c.loop.self-inside.zones.homes c.loop.self-inside.zones.firsts nodes c.loop.invariant.scrubbed.shipped.zoned way key passed here)

pub returns-then-at-eq0-clause-frames : goal.returns-then-at-eq0-clause-frames
returns-then-at-eq0-clause-frames c =
    scrubbed_frames _ _ _ _ _ c.loop.invariant.scrubbed _ c.self.invariant.sim ∙ ap (λ (s : Sim). free_count s.pool + len (blocks_of s)) (sim_view _ _ _ c.self.view_is)

pub remove-requires-clause-some : goal.remove-requires-clause-some
remove-requires-clause-some c =
    let block = c.in-Some.ensures.there in
    some_homes (is_between c.args.ep c.args.from c.args.to) _ c.loop.self-inside.pool _ _ c.loop.invariant.scrubbed c.in-Some.place c.remove-frame.result block.0 block.1 c.remove-frame.new.self c.remove-frame.ensures.frame c.remove-frame.ensures.frames

pub loop-preserved : goal.loop-preserved
loop-preserved c =
    let ep : ℕ = c.args.ep in
    let from : ℕ = c.args.from in
    let to : ℕ = c.args.to in
    let zone : ℕ = c.args.zone in
    let test = is_between c.args.ep c.args.from c.args.to in
    let before = c.loop.invariant.scrubbed in
    let frames : FinMap key_cmp ℕ = frames_in c.loop.self-inside.index.cells in
    let nodes : List Node = c.loop.self-inside.zones.nodes.items in
    let zoned = c.loop.invariant.scrubbed.shipped.zoned in
    let a : ℕ = c.loop.at - 1 in
    let at : c.loop.at ≡ suc (c.loop.at - 1) = omega (arith, c.if-at-eq0.false) in
    let way = subst (λ (n : ℕ). IsOnWay c.args.ep c.args.from c.args.to c.args.zone (frames_in c.loop.self-inside.index.cells) c.loop.self-inside.zones.nodes.items n) at c.loop.invariant.way in
    let node_is : c.node-node.result ≡ node_at c.loop.self-inside.zones.nodes.items (c.loop.at - 1) = c.node-node.ensures in
    let next_is = ap (λ (n : Node). n.next) node_is in
    elim c.if-is_between.branch [
      | then-is_between+in-Some w ↦
          let block = w.in-Some.ensures.there in
          let tested = ap test block.2 ∙ sym c.is_between.ensures ∙ w.if-is_between.true in
          let n : ℕ = w.remove-frame.result in
          let after = w.remove-frame.new.self in
          let less = w.remove.new.self in
          let has = there test _ c.loop.self-inside.pool _ _ before w.in-Some.place w.remove-frame.result block.0 block.1 w.remove-frame.new.self w.remove-frame.ensures.frame w.remove-frame.ensures.frames in
          let fewer = left test _ c.loop.self-inside.pool _ _ before w.in-Some.place w.remove-frame.result block.0 block.1 w.remove-frame.new.self w.remove-frame.ensures.frame w.remove-frame.ensures.frames in
          let dropped = scrub_drops test _ c.loop.self-inside.pool _ _ before w.in-Some.place w.remove-frame.result block.0 block.1 w.remove-frame.new.self w.remove-frame.ensures.frame w.remove-frame.ensures.frames w.remove-frame.ensures.room tested w.remove.new.self (at_number w.number.result w.remove-frame.result c.loop.self-inside.zones w.remove.new.self w.number.ensures w.remove.ensures.zoned) w.remove.ensures.homes w.remove.ensures.capacity in
          let still = still_gone test _ c.loop.self-inside.pool _ _ before w.in-Some.place w.remove-frame.result block.0 block.1 w.remove-frame.new.self w.remove-frame.ensures.frame w.remove-frame.ensures.frames in
          let key_is : key_at block.0 ≡ key_of_node (node_at nodes a) = block.2 ∙ ap key_of_node node_is in
          let its : w.remove-frame.result ≡ a = same_some w.remove-frame.result a (sym has ∙ ap (get frames) key_is ∙ way.standing a refl) in
          let number : w.number.result ≡ a = w.number.ensures ∙ its in
          let met : (m : ℕ) → IsAhead (nexts nodes) (nexts nodes a) m → IsAhead (nexts w.remove.new.self.nodes.items) (nexts nodes a) m = λ m ahead.
          subst (λ (k : ℕ). IsAhead (nexts w.remove.new.self.nodes.items) (nexts nodes k) m) number
          (w.remove.ensures.ahead frames (key_at block.0) zoned (has ∙ ap (λ (k : ℕ). Some k) (sym w.number.ensures)) m
          (subst (λ (k : ℕ). IsAhead (nexts nodes) (nexts nodes k) m) (sym number) ahead)) in
          let further = way_drops ep from to zone frames c.loop.self-inside.zones.homes c.loop.self-inside.zones.firsts nodes zoned a way (frames_in w.remove-frame.new.self.cells) (fewer ∙ ap (remove frames) key_is) w.remove.new.self.firsts w.remove.new.self.homes w.remove.new.self.nodes.items dropped.shipped.zoned met in
          rw w.self-inside-is (record {
            scrubbed = subst (λ (pool : Frames). IsScrubbed test (sim_of c.self.inside.pool c.self.inside.index.cells) pool w.remove-frame.new.self w.remove.new.self) (sym w.give.ensures) dropped;
            fewer = λ key none. still key (c.loop.invariant.fewer key none);
            way = subst (λ (k : ℕ). IsOnWay ep from to zone (frames_in w.remove-frame.new.self.cells) w.remove.new.self.nodes.items k) (sym next_is) further;
          })
      | then-is_between+in_default w ↦
          let none = sym (way.standing a refl) ∙ ap (λ (n : Node). get frames (key_of_node n)) (sym node_is) ∙ w.in_default.ensures.none in
          absurd (some_none (c.loop.at - 1) none)
      | else-is_between w ↦
          let outside = ap (λ (n : Node). is_between ep from to (key_of_node n)) (sym node_is) ∙ sym c.is_between.ensures ∙ w.if-is_between.false in
          rw w.self-inside-is (record {
            scrubbed = before;
            fewer = c.loop.invariant.fewer;
            way =
                subst (λ (k : ℕ). IsOnWay ep from to zone (frames_in c.loop.self-inside.index.cells) c.loop.self-inside.zones.nodes.items k) (sym next_is)
                (way_passes ep from to zone frames c.loop.self-inside.zones.homes c.loop.self-inside.zones.firsts nodes zoned a way outside);
          })
    ]
  where
    some_none : (n : ℕ) → Some n ≡ None → ⊥
    some_none n e = cc

-- where the end was not met
pub returns-clause-kept : goal.returns-clause-kept
returns-clause-kept c key outside =
    ap (λ (b : Blocks). get b key) c.scrub_places.ensures.blocks
    ∙ scrubbed_kept (blocks_of (sim_of c.loop.self-inside.pool c.loop.self-inside.index.cells)) c.args.ep c.args.from c.args.to key outside
    ∙ c.loop.invariant.scrubbed.kept key outside
    ∙ ap (λ (s : Sim). get (blocks_of s) key) (sim_view _ _ _ c.self.view_is)

pub returns-clause-fewer : goal.returns-clause-fewer
returns-clause-fewer c key none =
    let first : Sim = sim_of c.self.inside.pool c.self.inside.index.cells in
    let mid = block_none (sim_of c.loop.self-inside.pool c.loop.self-inside.index.cells) key (c.loop.invariant.fewer key (frame_none first key (ap (λ (s : Sim). get (blocks_of s) key) (sim_view _ _ _ c.self.view_is) ∙ none))) in
    ap (λ (b : Blocks). get b key) c.scrub_places.ensures.blocks
    ∙ scrubbed_fewer (blocks_of (sim_of c.loop.self-inside.pool c.loop.self-inside.index.cells)) c.args.ep c.args.from c.args.to key mid

pub returns-clause-gone : goal.returns-clause-gone
returns-clause-gone c key passed here =
    ap (λ (b : Blocks). get b key) c.scrub_places.ensures.blocks
    ∙ scrubbed_gone (blocks_of (sim_of c.loop.self-inside.pool c.loop.self-inside.index.cells)) c.args.ep c.args.from c.args.to key passed

pub returns-clause-frames : goal.returns-clause-frames
returns-clause-frames c =
    c.scrub_places.ensures.frames ∙ scrubbed_frames _ _ _ _ _ c.loop.invariant.scrubbed _ c.self.invariant.sim
    ∙ ap (λ (s : Sim). free_count s.pool + len (blocks_of s)) (sim_view _ _ _ c.self.view_is)
