use Rattle.cxl_model.specs.Regions.{weave_fields}
use Rattle.cxl_range.proofs.RegionLaws.{RegionLaws, woven_by}
use Rattle.cxl_range.proofs.Lists.{ChunkLaws, told, lengths}
use Rattle.cxl_range.proofs.laws.extents_carry_their_bytes.Goals as goal

pub returns-clause-carried : goal.returns-clause-carried
returns-clause-carried c = λ s w found h len system region some from ends.
    let regions : RegionLaws = record {
      kept = c.weaves_fill_their_regions.ensures.kept;
      ways = c.weaves_fill_their_regions.ensures.ways;
      turns = c.weaves_fill_their_regions.ensures.turns;
      low = c.regions_lie_in_windows.ensures.low;
      spans = c.slots_are_endpoints.ensures.low;
    } in
    let chunks : ChunkLaws (weave_fields found w) = record {
      below = c.region_fills_slots.ensures.slot (weave_fields found w);
      slot = λ x d. c.chunks_deal_whole.ensures.slot (weave_fields found w) x d (regions.kept s w found system region);
      offset = λ x d. c.chunks_deal_whole.ensures.offset (weave_fields found w) x d (regions.kept s w found system region);
    } in
    (told found w h len (woven_by regions s w found system region) chunks some from ends).0

pub returns-clause-follow : goal.returns-clause-follow
returns-clause-follow c = λ s w found h len system region some from ends.
    let regions : RegionLaws = record {
      kept = c.weaves_fill_their_regions.ensures.kept;
      ways = c.weaves_fill_their_regions.ensures.ways;
      turns = c.weaves_fill_their_regions.ensures.turns;
      low = c.regions_lie_in_windows.ensures.low;
      spans = c.slots_are_endpoints.ensures.low;
    } in
    let chunks : ChunkLaws (weave_fields found w) = record {
      below = c.region_fills_slots.ensures.slot (weave_fields found w);
      slot = λ x d. c.chunks_deal_whole.ensures.slot (weave_fields found w) x d (regions.kept s w found system region);
      offset = λ x d. c.chunks_deal_whole.ensures.offset (weave_fields found w) x d (regions.kept s w found system region);
    } in
    (told found w h len (woven_by regions s w found system region) chunks some from ends).1

pub returns-clause-lengths : goal.returns-clause-lengths
returns-clause-lengths c = λ s w found h len system region some from ends.
    let regions : RegionLaws = record {
      kept = c.weaves_fill_their_regions.ensures.kept;
      ways = c.weaves_fill_their_regions.ensures.ways;
      turns = c.weaves_fill_their_regions.ensures.turns;
      low = c.regions_lie_in_windows.ensures.low;
      spans = c.slots_are_endpoints.ensures.low;
    } in
    let chunks : ChunkLaws (weave_fields found w) = record {
      below = c.region_fills_slots.ensures.slot (weave_fields found w);
      slot = λ x d. c.chunks_deal_whole.ensures.slot (weave_fields found w) x d (regions.kept s w found system region);
      offset = λ x d. c.chunks_deal_whole.ensures.offset (weave_fields found w) x d (regions.kept s w found system region);
    } in
    lengths found w h len (woven_by regions s w found system region) chunks some from ends
