-- Each block that there could be is sought.
use Rattle.std.proofs.Common.{◌≡◌, ℕ, ◌+◌, ◌/◌, ◌<◌, ◌≤◌, None, inl, inr, ◌∙◌, subst, sym, ap, arith}
use Rattle.std.proofs.lemmas.Bool.{cases_eq}
use Rattle.std.specs.FinMap.{get, len}
use Rattle.cxl_media.specs.Pool.{Frames, free_count}
use Rattle.cxl_media.specs.Blocks.{Key, is_between, scrubbed}
use Rattle.cxl_media.specs.Table.{frames_in}
use Rattle.cxl_media.specs.Sim.{Sim, sim_of, blocks_of}
use Rattle.cxl_media.proofs.SimCalls.{sim_view}
use Rattle.cxl_media.proofs.Scrubs.{IsScrubbed, between_here, between_numbers, at_number, some_homes, scrub_drops, gone_out, now_gone, still_gone, scrubbed_blocks, scrubbed_frames}
use Rattle.cxl_media.proofs.sim_media.SimMedia.scrub_blocks.Goals as goal
use Rattle.cxl_media.proofs.sim_media.SimMedia.scrub_blocks.Goals.{in-Some, in_default}

pub remove-requires : goal.remove-requires
remove-requires c =
    let block = c.in-Some.ensures.there in
    record {
      some = some_homes (is_between c.args.ep c.args.from c.args.to) _ c.loop-number.self-inside.pool _ _ c.loop-number.invariant.scrubbed c.in-Some.place c.remove-frame.result block.0 block.1 c.remove-frame.new.self c.remove-frame.ensures.frame c.remove-frame.ensures.frames;
      size = c.loop-number.invariant.scrubbed.shipped.zoned.size;
    }

pub give-requires : goal.give-requires
give-requires c =
    let block = c.in-Some.ensures.there in
    gone_out (is_between c.args.ep c.args.from c.args.to) _ c.loop-number.self-inside.pool _ _ c.loop-number.invariant.scrubbed c.in-Some.place c.remove-frame.result block.0 block.1 c.remove-frame.new.self c.remove-frame.ensures.frame c.remove-frame.ensures.frames

-- the next number is none of those before it, or is the last
next_number : (P : ℕ → Type 0) (from n : ℕ) → ((m : ℕ) → from ≤ m → m < n → P m) → P n → (m : ℕ) → from ≤ m → m < n + 1 → P m
next_number P from n before here m low high =
    elim (cases_eq m n) [ inl same ↦ subst P (sym same) here | inr other ↦ before m low (omega (arith, high, other)) ]

pub loop-number-preserved : goal.loop-number-preserved
loop-number-preserved c =
    let test = is_between c.args.ep c.args.from c.args.to in
    let before = c.loop-number.invariant.scrubbed in
    elim c.match-place.branch [
      | in-Some w ↦
          let block = w.in-Some.ensures.there in
          let high : c.loop-number.number < c.args.to / 256 = omega (arith, c.loop-number-test.true) in
          let low : c.args.from / 256 ≤ c.loop-number.number = omega (arith, c.loop-number.auto.number) in
          let tested = ap test block.2 ∙ between_here c.args.ep c.args.from c.args.to c.loop-number.number c.requires.from low high in
          let dropped = scrub_drops test _ c.loop-number.self-inside.pool _ _ before w.in-Some.place w.remove-frame.result block.0 block.1 w.remove-frame.new.self w.remove-frame.ensures.frame w.remove-frame.ensures.frames w.remove-frame.ensures.room tested w.remove.new.self (at_number w.number.result w.remove-frame.result c.loop-number.self-inside.zones w.remove.new.self w.number.ensures w.remove.ensures.zoned) w.remove.ensures.homes w.remove.ensures.capacity in
          let still = still_gone test _ c.loop-number.self-inside.pool _ _ before w.in-Some.place w.remove-frame.result block.0 block.1 w.remove-frame.new.self w.remove-frame.ensures.frame w.remove-frame.ensures.frames in
          let now = now_gone test _ c.loop-number.self-inside.pool _ _ before w.in-Some.place w.remove-frame.result block.0 block.1 w.remove-frame.new.self w.remove-frame.ensures.frame w.remove-frame.ensures.frames in
          rw w.self-inside-is (record {
            scrubbed = subst (λ (pool : Frames). IsScrubbed test (sim_of c.self.inside.pool c.self.inside.index.cells) pool w.remove-frame.new.self w.remove.new.self) (sym w.give.ensures) dropped;
            gone =
                next_number (λ m. get (frames_in w.remove-frame.new.self.cells) (c.args.ep, m) ≡ None) (c.args.from / 256) c.loop-number.number
                (λ m from_on below. still (c.args.ep, m) (c.loop-number.invariant.gone m from_on below))
                (now (c.args.ep, c.loop-number.number) (sym block.2));
          })
      | in_default w ↦
          rw w.self-inside-is (record {
            scrubbed = before;
            gone =
                next_number (λ m. get (frames_in c.loop-number.self-inside.index.cells) (c.args.ep, m) ≡ None) (c.args.from / 256) c.loop-number.number
                c.loop-number.invariant.gone w.in_default.ensures.none;
          })
    ]

pub returns-clause-blocks : goal.returns-clause-blocks
returns-clause-blocks c =
    scrubbed_blocks _ _ _ _ _ c.loop-number.invariant.scrubbed (λ q passed.
    let its = between_numbers c.args.ep c.args.from c.args.to q c.requires.to passed in
    ap (λ (k : Key). get (frames_in c.loop-number.self-inside.index.cells) k) its.its ∙ c.loop-number.invariant.gone q.1 its.low (omega (arith, its.high, c.loop-number-test.false)))
    ∙ ap (λ (s : Sim). scrubbed (blocks_of s) c.args.ep c.args.from c.args.to) (sim_view _ _ _ c.self.view_is)

pub returns-clause-frames : goal.returns-clause-frames
returns-clause-frames c =
    scrubbed_frames _ _ _ _ _ c.loop-number.invariant.scrubbed _ c.self.invariant.sim ∙ ap (λ (s : Sim). free_count s.pool + len (blocks_of s)) (sim_view _ _ _ c.self.view_is)
