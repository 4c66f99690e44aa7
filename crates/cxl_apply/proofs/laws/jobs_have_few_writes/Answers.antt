use Rattle.std.proofs.Common.{◌≡◌, true, ◌<◌, List, length, get_or, All, ap, ◌∙◌, arith}
use Rattle.std.proofs.lemmas.List.{length-map}
use Rattle.std.proofs.lemmas.List.Elements.{Contains-get_or}
use Rattle.cxl_enc.proofs.Numbers.{some_first_factor}
use Rattle.cxl_regs.specs.declared.reading.Range.{Range}
use Rattle.cxl_window.specs.Fields.{WindowFields}
use Rattle.cxl_model.specs.declared.found.Found.{Found}
use Rattle.cxl_model.specs.declared.plan.Row.{Row}
use Rattle.cxl_model.specs.Counts.{endpoints_under}
use Rattle.cxl_model.specs.Plans.{with_rows}
use Rattle.cxl_model.specs.Ranges.{range_ways, serves, ways_above}
use Rattle.cxl_model.specs.Regions.{region_range, IsRegionIn}
use Rattle.cxl_model.specs.System.{System, IsSystem}
use Rattle.cxl_apply.specs.declared.write.Write.{Write}
use Rattle.cxl_apply.specs.Jobs.{release_write}
use Rattle.cxl_apply.specs.Releases.{rows_of}
use Rattle.cxl_apply.proofs.Bounds.{length_created}
use Rattle.cxl_apply.proofs.FewWrites.{ServersLaw, few_servers, some_of_factor, released_rows_serve, created_row_serves}
use Rattle.cxl_apply.proofs.JobWrites.{all_falling, falling_apart, all_rising, rising_apart}
use Rattle.cxl_apply.proofs.Planned.{plan_apart}
use Rattle.cxl_apply.proofs.Shapes.{planned_system}
use Rattle.cxl_apply.proofs.laws.jobs_have_few_writes.Goals as goal

servers : (c : goal.After-regions_lie_in_windows) (s : System) (w : WindowFields) (found : Found) → IsSystem s → IsRegionIn s w found → ServersLaw s (region_range found)
servers c s w found system region =
    let r : Range = region_range found in
    let few = (c.weaves_fill_their_regions.ensures.kept s w found system region).few_ways in
    let same = c.weaves_fill_their_regions.ensures.ways s w found system region in
    let ways = region.ways in
    let some : 0 < found.ways = some_of_factor _ found.ways found.size (c.weaves_fill_their_regions.ensures.shares s w found system region) (c.regions_lie_in_windows.ensures.some s w found system region) in
    let all = c.endpoints_lie_evenly.ensures.all s r system region.whole region.committed in
    record {
      under = λ n serving.
          some_first_factor (length (endpoints_under s r n)) (ways_above s r n) w.ways (range_ways s r)
          (c.endpoints_lie_evenly.ensures.under s r w n system region.whole region.window (c.endpoints_lie_evenly.ensures.served s r n system region.whole serving)) (omega arith);
      few = omega arith;
    }

pub returns-clause-create : goal.returns-clause-create
returns-clause-create c = λ s request plan writes system is create.
    let t : System = with_rows s plan.rows in
    let r : Range = region_range plan.found in
    let apart = plan_apart s request plan is in
    let serving : All (λ (row : Row). serves t r row.node ≡ true) plan.rows = (λ k d within.
    let there = Contains-get_or plan.rows k d within in created_row_serves s r plan.rows (get_or plan.rows k d) apart there (is.1.each_row (get_or plan.rows k d) there)) in
    let few = few_servers t r create.falling (c.tree_laws.ensures.laws s.nodes system.tree) (servers c t is.0 plan.found (planned_system s request plan system is) is.1.region)
    (falling_apart plan.rows create.falling create.order) (all_falling (λ (row : Row). serves t r row.node ≡ true) plan.rows create.falling create.order serving) in
    let long = ap (λ (ws : List Write). length ws) create.each ∙ length_created s.blocks create.falling in
    omega arith

pub returns-clause-release : goal.returns-clause-release
returns-clause-release c = λ s w found writes system region is.
    let r : Range = region_range found in
    let few = few_servers s r is.rising (c.tree_laws.ensures.laws s.nodes system.tree) (servers c s w found system region)
    (rising_apart (rows_of s found) is.rising is.order) (all_rising (λ (row : Row). serves s r row.node ≡ true) (rows_of s found) is.rising is.order (released_rows_serve s found)) in
    let long = ap (λ (ws : List Write). length ws) is.each ∙ length-map is.rising release_write in
    omega arith
