use Rattle.std.proofs.Common.{◌*◌, ap, sym, ◌∙◌, length, get_or, arith}
use Rattle.std.proofs.lemmas.List.{length-replicate}
use Rattle.cxl_media.specs.Pool.{free_count}
use Rattle.cxl_media.specs.Table.{frames_in}
use Rattle.cxl_media.proofs.Sims.{no_blocks, new_sim, all_free}
use Rattle.cxl_enc.proofs.Lists.{zeros_at}
use Rattle.cxl_media.proofs.Zoned.{new_zoned}
use Rattle.cxl_media.proofs.sim_media.SimMedia.with_frames.Goals as goal

pub invariant_of-result : goal.invariant_of-result
invariant_of-result c =
    let zones = c.in_ok-zones.ensures in
    record {
      sim =
          new_sim c.in_ok-pool.pool (frames_in c.in_ok-index.index.cells) c.in_ok-index.index.room c.in_ok-index.ensures.frames
          (ap free_count c.in_ok-pool.ensures ∙ all_free c.args.frames ∙ sym (ap length c.in_ok-pool.ensures))
          (ap length c.in_ok-pool.ensures ∙ length-replicate c.args.frames _ ∙ sym c.in_ok-index.ensures.room);
      zoned =
          new_zoned (frames_in c.in_ok-index.index.cells) c.in_ok-zones.zones.homes c.in_ok-zones.zones.firsts c.in_ok-zones.zones.nodes.items c.in_ok-index.ensures.frames
          (ap length zones.firsts ∙ length-replicate (2 * c.args.frames) 0 ∙ sym zones.homes) (λ k. ap (λ fs. get_or fs k 0) zones.firsts ∙ zeros_at (2 * c.args.frames) k);
      homes = omega (arith, zones.homes, c.in_ok-index.ensures.room);
      places = omega (arith, zones.room, c.in_ok-index.ensures.room);
      small = omega (arith, c.requires.few, c.in_ok-index.ensures.room);
    }

pub returns-clause-blocks : goal.returns-clause-blocks
returns-clause-blocks c = no_blocks c.in_ok-pool.pool (frames_in c.in_ok-index.index.cells) c.in_ok-index.ensures.frames

pub returns-clause-free : goal.returns-clause-free
returns-clause-free c = ap free_count c.in_ok-pool.ensures ∙ all_free c.args.frames ∙ length-replicate c.args.frames _
