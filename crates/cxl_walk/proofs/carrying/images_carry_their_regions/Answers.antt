use Rattle.std.proofs.Common.{◌≡◌, ℕ, Contains, arith}
use Rattle.std.proofs.lemmas.List.Elements.{All-contains}
use Rattle.cxl_window.specs.Fields.{WindowFields}
use Rattle.cxl_model.specs.declared.found.Found.{Found}
use Rattle.cxl_model.specs.System.{System, IsSystem}
use Rattle.cxl_model.specs.Regions.{IsRegion, IsRegionIn, Carries}
use Rattle.cxl_model.specs.Bytes.{LiesInSpan}
use Rattle.cxl_walk.specs.Hosts.{ComesTo}
use Rattle.cxl_walk.specs.Carrying.{IsCarriedTo}
use Rattle.cxl_walk.proofs.carrying.images_carry_their_regions.Goals as goal

module _ (c : goal.After-regions_share_no_byte) (s : System) (system : IsSystem s) where
  -- what comes to a byte of a region's span is the host byte that the region carries there
  only_it : (w : WindowFields) (found : Found) (h i first endpoint dpa : ℕ) → IsRegionIn s w found → Carries found w h endpoint dpa → ComesTo s endpoint dpa first i → h ≡ i
  only_it w found h i first endpoint dpa is carries comes =
      let lies = c.bytes_are_carried_one_to_one.ensures.inside s w found h endpoint dpa system is carries in
      let own = c.chains_to_spans_are_of_regions.ensures s w found i endpoint dpa comes.routing system is lies comes.chain comes.endpoint comes.byte in
      c.bytes_are_carried_one_to_one.ensures.apart s w found h i endpoint dpa system is carries own.0

  carried : (w : WindowFields) (found : Found) (h endpoint dpa : ℕ) → IsRegionIn s w found → Carries found w h endpoint dpa → IsCarriedTo s found h endpoint dpa
  carried w found h endpoint dpa is carries =
      let route = c.carries_where_chain_ends.ensures.ends s w found h endpoint dpa system is carries in
      let lies = c.bytes_are_carried_one_to_one.ensures.inside s w found h endpoint dpa system is carries in
      let own = c.chains_to_spans_are_of_regions.ensures s w found h endpoint dpa route.0 system is lies route.1 route.2 route.3 in
      record {
        window = w;
        region = is;
        carried = carries;
        back = record {
          comes = record { routing = route.0; chain = route.1; endpoint = route.2; byte = route.3; base = own.1 };
          least = λ first i comes. let same = only_it w found h i first endpoint dpa is carries comes in omega (arith, same);
        };
      }

  inside : (found : Found) (h endpoint dpa : ℕ) → IsCarriedTo s found h endpoint dpa → LiesInSpan found endpoint dpa
  inside found h endpoint dpa is = c.bytes_are_carried_one_to_one.ensures.inside s is.window found h endpoint dpa system is.region is.carried

  shared : (found other : Found) (endpoint dpa : ℕ) → IsRegion s found → IsRegion s other → LiesInSpan found endpoint dpa → LiesInSpan other endpoint dpa → found ≡ other
  shared found other endpoint dpa one two in_found in_other = c.regions_share_no_byte.ensures.device s one.0 two.0 found other endpoint dpa system one.1 two.1 in_found in_other

pub returns : goal.returns
returns c = λ s regions system all.
    let region : (found : Found) → Contains regions found → IsRegion s found = λ found there. All-contains (IsRegion s) regions found all there in
    record {
      each = λ found h there from below.
          let own = region found there in
          let at = c.bytes_are_carried_one_to_one.ensures.each s own.0 found h system own.1 from below in
          (at.0, at.1, carried c s system own.0 found h at.0 at.1 own.1 at.2);
      inside = λ found h endpoint dpa there is. inside c s system found h endpoint dpa is;
      onto = λ found endpoint dpa there lies.
          let own = region found there in
          let at = c.bytes_are_carried_one_to_one.ensures.onto s own.0 found endpoint dpa system own.1 lies in
          (at.0, carried c s system own.0 found at.0 endpoint dpa own.1 at.1);
      apart = λ found other h i endpoint dpa there also one two. (
        shared c s system found other endpoint dpa (region found there) (region other also) (inside c s system found h endpoint dpa one) (inside c s system other i endpoint dpa two),
        only_it c s system one.window found h i other.base endpoint dpa one.region one.carried two.back.comes,
      );
      shared = λ found other endpoint dpa there also. shared c s system found other endpoint dpa (region found there) (region other also);
    }
