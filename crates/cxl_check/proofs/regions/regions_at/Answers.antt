use Rattle.std.proofs.Common.{◌≡◌, ◌+◌, ◌≤◌, ◌<◌, List, [], length, get_or, take, sym, subst, arith}
use Rattle.std.proofs.lemmas.List.{take_all}
use Rattle.std.proofs.lemmas.Option.{slice_get-get_or, get_or_from_slice_get}
use Rattle.cxl_model.specs.declared.found.Found.{Found}
use Rattle.cxl_model.specs.Hosts.{as_system}
use Rattle.cxl_check.specs.declared.firsts.RangeKey.{RangeKey}
use Rattle.cxl_check.specs.inner.Listing.{AreListed}
use Rattle.cxl_check.proofs.Listing.{none_listed, one_listed}
use Rattle.cxl_check.proofs.regions.regions_at.Goals as goal

pub known_of-known-requires-clause-met : goal.known_of-known-requires-clause-met
known_of-known-requires-clause-met c = c.loop-key.invariant.met

pub region_of-requires-clause-committed : goal.region_of-requires-clause-committed
region_of-requires-clause-committed c = (c.requires.whole c.loop-key.key-index (record { base = 0; size = 0 }) (omega arith)).committed

pub region_of-requires-clause-whole : goal.region_of-requires-clause-whole
region_of-requires-clause-whole c = (c.requires.whole c.loop-key.key-index (record { base = 0; size = 0 }) (omega arith)).whole

pub loop-key-preserved : goal.loop-key-preserved
loop-key-preserved c =
    let s = as_system c.args.host.now in
    let none : RangeKey = record { base = 0; size = 0 } in
    let keys : List RangeKey = c.args.keys.now in
    let i = c.loop-key.key-index in
    let below : i < length keys = omega arith in
    let key : RangeKey = get_or keys i none in
    let is : key ≡ get_or keys i key = sym (get_or_from_slice_get keys i key key (slice_get-get_or keys i none below)) in
    record {
      met = c.known_of-known.ensures.met;
      listed = subst (λ (regions : List Found). AreListed s (take (i + 1) keys) regions) (sym c.in_ok-push.ensures.items)
          (one_listed s keys i key c.loop-key.regions.items c.in_ok-region.region c.loop-key.invariant.listed below is c.in_ok-region.ensures.region c.in_ok-region.ensures.range);
    }

pub returns : goal.returns
returns c =
    let keys : List RangeKey = c.args.keys.now in
    let past : length keys ≤ c.loop-key.key-index = omega arith in
    subst (λ (ks : List RangeKey). AreListed (as_system c.args.host.now) ks c.loop-key.regions.items) (take_all c.loop-key.key-index keys past) c.loop-key.invariant.listed

pub loop-key-init : goal.loop-key-init
loop-key-init c =
    let s = as_system c.args.host.now in
    record {
      met = c.requires.met;
      listed = subst (λ (regions : List Found). AreListed s [] regions) (sym c.in_ok-regions.ensures.items) (none_listed s c.args.keys.now);
    }
