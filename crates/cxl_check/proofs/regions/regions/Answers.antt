use Rattle.std.proofs.Common.{◌≡◌, List, sym, subst, ◌∙◌}
use Rattle.std.specs.Prelude.{All}
use Rattle.std.specs.BTreeMap.{keys}
use Rattle.std.proofs.lemmas.Result.{IfOk-weaker}
use Rattle.cxl_model.specs.Hosts.{as_system}
use Rattle.cxl_check.specs.declared.firsts.RangeKey.{RangeKey}
use Rattle.cxl_check.specs.inner.Listing.{IsWholeKey, AreListed}
use Rattle.cxl_check.proofs.Listing.{whole_keys, are_regions}
use Rattle.cxl_check.proofs.regions.regions.Goals as goal

pub regions_at-requires-clause-whole : goal.regions_at-requires-clause-whole
regions_at-requires-clause-whole c =
    let s = as_system c.args.host.now in
    let same : c.deref.result.now ≡ keys c.args.tables.now.firsts = c.deref.ensures.value ∙ c.in_ok-keys.ensures.keys in
    subst (λ (ks : List RangeKey). All (IsWholeKey s) ks) (sym same)
    (whole_keys s c.requires.ready c.requires.accepted c.args.tables.now.firsts c.requires.tables.firsts c.accepted_where_whole.ensures c.in_ok-keys.ensures.found)

pub returns : goal.returns
returns c =
    let s = as_system c.args.host.now in
    let same : c.deref.result.now ≡ keys c.args.tables.now.firsts = c.deref.ensures.value ∙ c.in_ok-keys.ensures.keys in
    IfOk-weaker c.regions_at.result _ _
    (λ regions listed.
    are_regions s c.requires.ready c.requires.accepted c.args.tables.now.firsts c.requires.tables.firsts c.in_ok-keys.ensures.ordered c.accepted_where_whole.ensures c.endpoints_lie_evenly.ensures.all c.regions_share_no_byte.ensures.host c.ranges_rise.ensures.some regions.items
    (subst (λ (ks : List RangeKey). AreListed s ks regions.items) same listed))
    c.regions_at.ensures
