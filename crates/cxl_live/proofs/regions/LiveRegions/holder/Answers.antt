use Rattle.std.proofs.Common.{◌≡◌, List, Some, None, sym, subst, arith}
use Rattle.std.specs.Prelude.{position}
use Rattle.cxl_model.specs.declared.found.Found.{Found}
use Rattle.cxl_machine.specs.Machine.{has_host}
use Rattle.cxl_live.specs.Apart.{LieApart}
use Rattle.cxl_live.proofs.Holders.{are_reached, held_by_none, last_within, found_from, held_here, held_nowhere}
use Rattle.cxl_live.proofs.regions.LiveRegions.holder.Goals as goal

pub returns-then-reached-eq0 : goal.returns-then-reached-eq0
returns-then-reached-eq0 c =
    let are = are_reached c.self.inside.founds.items c.self.inside.bases.items c.deref.result.now c.args.h c.bases_up_to-reached.result c.self.invariant.order c.deref.ensures.value c.bases_up_to-reached.ensures.bound c.bases_up_to-reached.ensures.point in
    let same : c.self.inside.founds.items ≡ c.args.self.now = c.self.view_is in
    subst (λ (regions : List Found). LieApart regions → None ≡ position (λ (found : Found). has_host found c.args.h) regions) same
    (λ apart. sym (held_by_none c.self.inside.founds.items c.self.inside.bases.items c.args.h c.bases_up_to-reached.result are c.if-reached-eq0.true))

pub index-found-requires : goal.index-found-requires
index-found-requires c =
    let are = are_reached c.self.inside.founds.items c.self.inside.bases.items c.deref.result.now c.args.h c.bases_up_to-reached.result c.self.invariant.order c.deref.ensures.value c.bases_up_to-reached.ensures.bound c.bases_up_to-reached.ensures.point in
    let within = last_within c.self.inside.founds.items c.self.inside.bases.items c.args.h c.bases_up_to-reached.result are (omega (arith, c.if-reached-eq0.false)) c.index.result.now c.index.ensures in
    let long = c.self.inside.founds.ok.0 in
    omega (arith, within, long)

pub overflow_sub-h : goal.overflow_sub-h
overflow_sub-h c =
    let are = are_reached c.self.inside.founds.items c.self.inside.bases.items c.deref.result.now c.args.h c.bases_up_to-reached.result c.self.invariant.order c.deref.ensures.value c.bases_up_to-reached.ensures.bound c.bases_up_to-reached.ensures.point in
    found_from c.self.inside.founds.items c.self.inside.bases.items c.args.h c.bases_up_to-reached.result are (omega (arith, c.if-reached-eq0.false)) c.index.result.now c.index.ensures c.index-found.result.now c.index-found.ensures

pub returns-then-h-found : goal.returns-then-h-found
returns-then-h-found c =
    let are = are_reached c.self.inside.founds.items c.self.inside.bases.items c.deref.result.now c.args.h c.bases_up_to-reached.result c.self.invariant.order c.deref.ensures.value c.bases_up_to-reached.ensures.bound c.bases_up_to-reached.ensures.point in
    let same : c.self.inside.founds.items ≡ c.args.self.now = c.self.view_is in
    subst (λ (regions : List Found). LieApart regions → Some c.index.result.now.place ≡ position (λ (found : Found). has_host found c.args.h) regions) same
    (λ apart. sym (held_here c.self.inside.founds.items c.self.inside.bases.items c.args.h c.bases_up_to-reached.result are (omega (arith, c.if-reached-eq0.false)) c.index.result.now c.index.ensures c.index-found.result.now c.index-found.ensures apart c.if-h-found.true))

pub returns-else-h-found : goal.returns-else-h-found
returns-else-h-found c =
    let are = are_reached c.self.inside.founds.items c.self.inside.bases.items c.deref.result.now c.args.h c.bases_up_to-reached.result c.self.invariant.order c.deref.ensures.value c.bases_up_to-reached.ensures.bound c.bases_up_to-reached.ensures.point in
    let same : c.self.inside.founds.items ≡ c.args.self.now = c.self.view_is in
    subst (λ (regions : List Found). LieApart regions → None ≡ position (λ (found : Found). has_host found c.args.h) regions) same
    (λ apart. sym (held_nowhere c.self.inside.founds.items c.self.inside.bases.items c.args.h c.bases_up_to-reached.result are (omega (arith, c.if-reached-eq0.false)) c.index.result.now c.index.ensures c.index-found.result.now c.index-found.ensures apart c.if-h-found.false))
