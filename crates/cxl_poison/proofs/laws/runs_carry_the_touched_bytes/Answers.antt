use Rattle.std.proofs.Common.{arith}
use Rattle.cxl_window.specs.Fields.{WindowFields}
use Rattle.cxl_model.specs.declared.found.Found.{Found}
use Rattle.cxl_model.specs.System.{System, IsSystem}
use Rattle.cxl_model.specs.Regions.{IsRegionIn, weave_fields}
use Rattle.cxl_poison.specs.Pieces.{touched_from, touched_end, stretch_size}
use Rattle.cxl_poison.proofs.RunBytes.{Dealt, stretched, cut_touched, each_cut, run_carried}
use Rattle.cxl_poison.proofs.laws.runs_carry_the_touched_bytes.Goals as goal
use Rattle.cxl_poison.proofs.laws.runs_carry_the_touched_bytes.Goals.{After-chunks_deal_whole}

dealt : (c : After-chunks_deal_whole) (s : System) (w : WindowFields) (found : Found) → IsSystem s → IsRegionIn s w found → Dealt found w
dealt c s w found system region =
    let weave = c.weaves_fill_their_regions.ensures.kept s w found system region in
    record {
      filled = record {
        ways = c.weaves_fill_their_regions.ensures.ways s w found system region;
        shares = c.weaves_fill_their_regions.ensures.shares s w found system region;
        turns = c.weaves_fill_their_regions.ensures.turns s w found system region;
        some = c.regions_lie_in_windows.ensures.some s w found system region;
        low = c.regions_lie_in_windows.ensures.low s w found system region;
      };
      within = c.region_fills_slots.ensures.within (weave_fields found w);
      below = c.region_fills_slots.ensures.slot (weave_fields found w);
      slot = λ h d. c.chunks_deal_whole.ensures.slot (weave_fields found w) h d weave;
      offset = λ h d. c.chunks_deal_whole.ensures.offset (weave_fields found w) h d weave;
      apart = λ a b p q. c.slots_are_endpoints.ensures.apart s w found a b p q system region;
    }

pub returns-clause-within : goal.returns-clause-within
returns-clause-within c = λ entry found span cut. cut_touched (touched_from entry span) (touched_end entry span) (stretch_size found span) span.len cut

pub returns-clause-each : goal.returns-clause-each
returns-clause-each c = λ s w found endpoint span entry offset system region is from below.
    let size = stretched found w (dealt c s w found system region).filled endpoint span is in
    each_cut (touched_from entry span) (touched_end entry span) (stretch_size found span) span.len offset size.some size.whole (omega arith) from below

pub returns-clause-carried : goal.returns-clause-carried
returns-clause-carried c = λ s w found endpoint span entry cut run k system region is.
    run_carried found w (dealt c s w found system region) endpoint span is entry cut run k
