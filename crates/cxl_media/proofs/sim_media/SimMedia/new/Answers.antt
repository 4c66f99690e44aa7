use Rattle.std.proofs.Common.{ap, sym, ◌∙◌, length, get_or, arith}
use Rattle.cxl_media.specs.Pool.{free_count}
use Rattle.cxl_media.specs.Table.{frames_in}
use Rattle.cxl_media.proofs.Sims.{no_blocks, new_sim}
use Rattle.cxl_media.proofs.Zoned.{new_zoned}
use Rattle.cxl_media.proofs.sim_media.SimMedia.new.Goals as goal

pub invariant_of-result : goal.invariant_of-result
invariant_of-result c = record {
  sim =
      new_sim c.empty.result (frames_in c.empty-2.result.cells) c.empty-2.result.room (ap frames_in c.empty-2.ensures.cells)
      (ap free_count c.empty.ensures ∙ sym (ap length c.empty.ensures)) (ap length c.empty.ensures ∙ sym c.empty-2.ensures.room);
  zoned =
      new_zoned (frames_in c.empty-2.result.cells) c.empty-3.result.homes c.empty-3.result.firsts c.empty-3.result.nodes.items (ap frames_in c.empty-2.ensures.cells)
      (ap length c.empty-3.ensures.firsts ∙ sym c.empty-3.ensures.homes) (λ k. ap (λ fs. get_or fs k 0) c.empty-3.ensures.firsts);
  homes = omega (arith, c.empty-3.ensures.homes, c.empty-2.ensures.room);
  places = omega (arith, c.empty-2.ensures.room);
  small = omega (arith, c.empty-2.ensures.room);
}

pub returns-clause-blocks : goal.returns-clause-blocks
returns-clause-blocks c = no_blocks c.empty.result (frames_in c.empty-2.result.cells) (ap frames_in c.empty-2.ensures.cells)
