use Rattle.std.proofs.Common.{◌≡◌, ℕ, ◌<◌, ◌≤◌, List, [], ◌∷◌, ◌++◌, length, sym, ap, subst, ◌∙◌, arith}
use Rattle.cxl_model.specs.Listed.{region_limit}
use Rattle.cxl_session.specs.Inside.{session_view}
use Rattle.cxl_session.specs.State.{SessionState}
use Rattle.cxl_session.proofs.Rooms.{pushed_together, few_pushed}
use Rattle.cxl_session.proofs.session.Session.push.Goals as goal

pub push_reserved-requires : goal.push_reserved-requires
push_reserved-requires c =
    let count : length c.self.inside.names.items ≡ length c.args.self.now.names = ap (λ (s : SessionState). length s.names) c.self.view_is in
    let size = c.self.inside.names.ok.0 in
    let room = c.self.invariant.names_room in
    let few = c.requires in
    omega (arith, count, size, room, few)

pub push-requires : goal.push-requires
push-requires c =
    let count : length c.self.inside.names.items ≡ length c.args.self.now.names = ap (λ (s : SessionState). length s.names) c.self.view_is in
    let same = c.self.invariant.founds in
    let few = c.requires in
    omega (arith, count, same, few)

pub push_reserved-requires-2 : goal.push_reserved-requires-2
push_reserved-requires-2 c =
    let count : length c.self.inside.names.items ≡ length c.args.self.now.names = ap (λ (s : SessionState). length s.names) c.self.view_is in
    let same = c.self.invariant.kepts in
    let size = c.self.inside.kepts.ok.0 in
    let room = c.self.invariant.kepts_room in
    let few = c.requires in
    omega (arith, count, same, size, room, few)

pub invariant_of-self : goal.invariant_of-self
invariant_of-self c =
    let own = c.self.invariant in
    let names = c.push_reserved.ensures in
    let kepts = c.push_reserved-2.ensures in
    let low = subst (λ (ns : List (List ℕ)). length ns < region_limit) (ap (λ (s : SessionState). s.names) (sym c.self.view_is)) c.requires in
    record {
      founds = pushed_together _ _ _ _ own.founds c.args.name c.args.found names.items c.push.ensures;
      kepts = pushed_together _ _ _ _ own.kepts c.args.name c.args.kept names.items kepts.items;
      few = few_pushed _ _ region_limit c.args.name names.items low;
      names_room = subst (λ (n : ℕ). region_limit ≤ n) (sym names.capacity) own.names_room;
      kepts_room = subst (λ (n : ℕ). region_limit ≤ n) (sym kepts.capacity) own.kepts_room;
      words = own.words;
    }

pub returns : goal.returns
returns c =
    (λ i. record (session_view c.self.inside) { names = c.push_reserved.ensures.items i; founds = c.push.ensures i; kept = c.push_reserved-2.ensures.items i })
    ∙ ap (λ (s : SessionState). record s {
      names = s.names ++ c.args.name ∷ [];
      founds = s.founds ++ c.args.found ∷ [];
      kept = s.kept ++ c.args.kept ∷ [];
    }) c.self.view_is
