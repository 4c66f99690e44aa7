use Rattle.std.proofs.Common.{◌≡◌, true, refl, sym, subst}
use Rattle.std.proofs.lemmas.Map.Keys.{any_passes_from_place}
use Rattle.cxl_regs.specs.declared.reading.Range.{Range}
use Rattle.cxl_regs.specs.Reading.{range_of, has_range}
use Rattle.cxl_window.specs.Fields.{WindowFields}
use Rattle.cxl_regs.proofs.DecoderRanges.{has_own_range}
use Rattle.cxl_model.specs.declared.found.Found.{Found}
use Rattle.cxl_model.specs.System.{decoders_at}
use Rattle.cxl_model.specs.Ranges.{serves}
use Rattle.cxl_model.specs.Regions.{region_range}
use Rattle.cxl_model.specs.Counts.{is_endpoint_of}
use Rattle.cxl_model.proofs.SpansCommitted.{in_decoder, in_slot}
use Rattle.cxl_model.proofs.regions.committed_spans_are_of_regions.Goals as goal

pub returns-clause-committed : goal.returns-clause-committed
returns-clause-committed c = λ s w found endpoint dpa is lies. in_decoder s w found is endpoint dpa lies

pub returns-clause-region : goal.returns-clause-region
returns-clause-region c = λ s endpoint dpa system accepted end own.
    let r : Range = range_of own.d in
    let own_range : has_range r own.d ≡ true = has_own_range own.d own.committed in
    let serving : serves s r endpoint ≡ true = any_passes_from_place (has_range r) (decoders_at s endpoint) own.i own.d own.there own_range in
    let whole = ((c.accepted_where_whole.ensures s).0 accepted).1 r (endpoint, serving) in
    let region = c.whole_ranges_have_one_region.ensures.some s r system (endpoint, serving) whole in
    let w : WindowFields = region.0 in
    let found : Found = region.1 in
    let both : is_endpoint_of s r endpoint ≡ true = rw (end, serving) refl in
    let ends : is_endpoint_of s (region_range found) endpoint ≡ true = subst (λ (q : Range). is_endpoint_of s q endpoint ≡ true) (sym region.3) both in
    let has : has_range (region_range found) own.d ≡ true = subst (λ (q : Range). has_range q own.d ≡ true) (sym region.3) own_range in
    let slot = c.slots_are_endpoints.ensures.each s w found endpoint system region.2 ends in
    (w, found, region.2, in_slot c.one_holder.ensures.range s w found endpoint dpa slot.0 slot.1 own region.2 has slot.2 slot.3)
