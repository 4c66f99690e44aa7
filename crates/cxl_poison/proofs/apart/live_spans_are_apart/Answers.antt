use Rattle.cxl_model.specs.System.{System, IsSystem}
use Rattle.cxl_poison.proofs.Filled.{some_length}
use Rattle.cxl_poison.proofs.LiveLists.{RegionLaws, few_live, one_span, same_region, some_len}
use Rattle.cxl_poison.proofs.apart.live_spans_are_apart.Goals as goal
use Rattle.cxl_poison.proofs.apart.live_spans_are_apart.Goals.{After-slots_are_endpoints}

laws : (c : After-slots_are_endpoints) (s : System) → IsSystem s → RegionLaws s
laws c s system = record {
  host = λ w v found other h. c.regions_share_no_byte.ensures.host s w v found other h system;
  device = λ w v found other endpoint dpa. c.regions_share_no_byte.ensures.device s w v found other endpoint dpa system;
  some = λ w found. c.regions_lie_in_windows.ensures.some s w found system;
  low = λ w found. c.regions_lie_in_windows.ensures.low s w found system;
  aligned = λ w found region. (c.weaves_fill_their_regions.ensures.kept s w found system region).aligned;
  length = λ w found region.
      some_length found w (record {
        ways = c.weaves_fill_their_regions.ensures.ways s w found system region;
        shares = c.weaves_fill_their_regions.ensures.shares s w found system region;
        turns = c.weaves_fill_their_regions.ensures.turns s w found system region;
        some = c.regions_lie_in_windows.ensures.some s w found system region;
        low = c.regions_lie_in_windows.ensures.low s w found system region;
      });
  apart = λ w found a b p q. c.slots_are_endpoints.ensures.apart s w found a b p q system;
}

pub returns-clause-few : goal.returns-clause-few
returns-clause-few c = λ windows live is. few_live is.s (laws c is.s is.system) live is.each is.once

pub returns-clause-one : goal.returns-clause-one
returns-clause-one c = λ windows live endpoint a b is. one_span is.s (laws c is.s is.system) live is.each is.once endpoint a b

pub returns-clause-some : goal.returns-clause-some
returns-clause-some c = λ windows live endpoint a is. some_len is.s (laws c is.s is.system) live is.each is.once endpoint a

pub returns-clause-bytes : goal.returns-clause-bytes
returns-clause-bytes c = λ windows live endpoint dpa a b is. same_region is.s (laws c is.s is.system) live is.each is.once endpoint dpa a b
