use Rattle.std.proofs.Common.{◌≡◌, ℕ, ◌<◌, ◌≤◌, List, length, sym, ap, subst, ◌∙◌, arith}
use Rattle.cxl_model.specs.Listed.{region_limit}
use Rattle.cxl_session.specs.State.{SessionState}
use Rattle.cxl_session.proofs.Removed.{begun_as_removed}
use Rattle.cxl_session.proofs.Rooms.{removed_together, few_removed}
use Rattle.cxl_session.proofs.session.Session.begin_release.Goals as goal

pub returns-clause-begun : goal.returns-clause-begun
returns-clause-begun c = λ name found kept named there routed.
    c.keep.ensures
    ∙ begun_as_removed c.args.self.now c.args.place c.args.job c.remove-name.new.self.items c.remove-found.new.self c.remove-kept.new.self.items
    c.remove-name.result c.remove-found.result c.remove-kept.result c.self.inside c.self.view_is c.remove-name.ensures.items c.remove-found.ensures.items c.remove-kept.ensures.items
    c.remove-name.ensures.value c.remove-found.ensures.value c.remove-kept.ensures.value name found kept named there routed

pub remove-name-requires : goal.remove-name-requires
remove-name-requires c =
    let count : length c.self.inside.names.items ≡ length c.args.self.now.names = ap (λ (s : SessionState). length s.names) c.self.view_is in
    let size = c.self.inside.names.ok.0 in
    let here = c.requires.here in
    omega (arith, count, size, here)

pub remove-found-requires : goal.remove-found-requires
remove-found-requires c =
    let count : length c.self.inside.names.items ≡ length c.args.self.now.names = ap (λ (s : SessionState). length s.names) c.self.view_is in
    let same = c.self.invariant.founds in
    let here = c.requires.here in
    omega (arith, count, same, here)

pub remove-kept-requires : goal.remove-kept-requires
remove-kept-requires c =
    let count : length c.self.inside.names.items ≡ length c.args.self.now.names = ap (λ (s : SessionState). length s.names) c.self.view_is in
    let size = c.self.inside.kepts.ok.0 in
    let same = c.self.invariant.kepts in
    let here = c.requires.here in
    omega (arith, count, size, same, here)

pub overflow_cast-kind : goal.overflow_cast-kind
overflow_cast-kind c =
    let count : length c.self.inside.names.items ≡ length c.args.self.now.names = ap (λ (s : SessionState). length s.names) c.self.view_is in
    let few = c.self.invariant.few in
    let here = c.requires.here in
    omega (arith, count, few, here)

pub invariant_of-self : goal.invariant_of-self
invariant_of-self c =
    let own = c.self.invariant in
    let names = c.remove-name.ensures in
    let kepts = c.remove-kept.ensures in
    let low = subst (λ (ns : List (List ℕ)). c.args.place < length ns) (ap (λ (s : SessionState). s.names) (sym c.self.view_is)) c.requires.here in
    record {
      founds = removed_together _ _ _ _ own.founds c.args.place low names.items c.remove-found.ensures.items;
      kepts = removed_together _ _ _ _ own.kepts c.args.place low names.items kepts.items;
      few = few_removed _ _ region_limit c.args.place low names.items own.few;
      names_room = subst (λ (n : ℕ). region_limit ≤ n) (sym names.capacity) own.names_room;
      kepts_room = subst (λ (n : ℕ). region_limit ≤ n) (sym kepts.capacity) own.kepts_room;
      words = own.words;
    }

pub returns-clause-host : goal.returns-clause-host
returns-clause-host c =
    let topo = λ (s : SessionState). s.topo in
    let windows = λ (s : SessionState). s.windows in
    (ap topo c.keep.ensures ∙ ap topo c.self.view_is, ap windows c.keep.ensures ∙ ap windows c.self.view_is)
