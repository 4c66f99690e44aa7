use Rattle.std.proofs.Common.{◌≡◌, ℕ, ◌<◌, ◌≤◌, true, Bool, if◌then◌else◌, List, length, sym, ap, subst, ◌∙◌, arith}
use Rattle.std.specs.Prelude.{insert}
use Rattle.std.specs.Result.{is_ok}
use Rattle.std.proofs.Math.Nat.{le_trans}
use Rattle.cxl_model.specs.Listed.{region_limit}
use Rattle.cxl_session.specs.Inside.{session_view}
use Rattle.cxl_session.specs.State.{SessionState}
use Rattle.cxl_session.proofs.Rooms.{inserted_together, few_inserted}
use Rattle.cxl_session.proofs.session.Session.insert.Goals as goal

pub insert-name-requires : goal.insert-name-requires
insert-name-requires c =
    let count : length c.self.inside.names.items ≡ length c.args.self.now.names = ap (λ (s : SessionState). length s.names) c.self.view_is in
    let size = c.self.inside.names.ok.0 in
    let place = c.requires.place in
    omega (arith, count, size, place)

pub insert-requires-clause-place : goal.insert-requires-clause-place
insert-requires-clause-place c =
    let names : length c.self.inside.names.items ≡ length c.args.self.now.names = ap (λ (s : SessionState). length s.names) c.self.view_is in
    let same = c.self.invariant.founds in
    let place = c.requires.place in
    omega (arith, names, same, place)

pub insert-requires-clause-room : goal.insert-requires-clause-room
insert-requires-clause-room c =
    let names : length c.self.inside.names.items ≡ length c.args.self.now.names = ap (λ (s : SessionState). length s.names) c.self.view_is in
    let same = c.self.invariant.founds in
    let room = c.requires.room in
    omega (arith, names, same, room)

pub insert-kept-requires : goal.insert-kept-requires
insert-kept-requires c =
    let names : length c.self.inside.names.items ≡ length c.args.self.now.names = ap (λ (s : SessionState). length s.names) c.self.view_is in
    let size = c.self.inside.kepts.ok.0 in
    let same = c.self.invariant.kepts in
    let place = c.requires.place in
    omega (arith, names, size, same, place)

-- both find room
named : (c : goal.Joined-kept) → c.insert-name.new.self.items ≡ insert c.self.inside.names.items c.args.place c.args.name
named c =
    let count : length c.self.inside.names.items ≡ length c.args.self.now.names = ap (λ (s : SessionState). length s.names) c.self.view_is in
    let size = c.self.inside.names.ok.0 in
    let room = c.self.invariant.names_room in
    let few = c.requires.room in
    let ok : is_ok c.insert-name.result ≡ true = c.insert-name.ensures.succeeds (omega (arith, count, size, room, few)) in
    c.insert-name.ensures.items ∙ ap (λ (b : Bool). if b then insert c.self.inside.names.items c.args.place c.args.name else c.self.inside.names.items) ok

routed : (c : goal.Joined-kept) → c.insert-kept.new.self.items ≡ insert c.self.inside.kepts.items c.args.place c.args.kept
routed c =
    let count : length c.self.inside.names.items ≡ length c.args.self.now.names = ap (λ (s : SessionState). length s.names) c.self.view_is in
    let same = c.self.invariant.kepts in
    let size = c.self.inside.kepts.ok.0 in
    let room = c.self.invariant.kepts_room in
    let few = c.requires.room in
    let ok : is_ok c.insert-kept.result ≡ true = c.insert-kept.ensures.succeeds (omega (arith, count, same, size, room, few)) in
    c.insert-kept.ensures.items ∙ ap (λ (b : Bool). if b then insert c.self.inside.kepts.items c.args.place c.args.kept else c.self.inside.kepts.items) ok

pub invariant_of-self : goal.invariant_of-self
invariant_of-self c =
    let own = c.self.invariant in
    let view = ap (λ (s : SessionState). s.names) (sym c.self.view_is) in
    let low = subst (λ (ns : List (List ℕ)). c.args.place ≤ length ns) view c.requires.place in
    let room = subst (λ (ns : List (List ℕ)). length ns < region_limit) view c.requires.room in
    record {
      founds = inserted_together _ _ _ _ own.founds c.args.place c.args.name c.args.found low (named c) c.insert.ensures;
      kepts = inserted_together _ _ _ _ own.kepts c.args.place c.args.name c.args.kept low (named c) (routed c);
      few = few_inserted _ _ region_limit c.args.place c.args.name low (named c) room;
      names_room = le_trans own.names_room c.insert-name.ensures.capacity;
      kepts_room = le_trans own.kepts_room c.insert-kept.ensures.capacity;
      words = own.words;
    }

pub returns : goal.returns
returns c =
    (λ i. record (session_view c.self.inside) { names = named c i; founds = c.insert.ensures i; kept = routed c i })
    ∙ ap (λ (s : SessionState). record s {
      names = insert s.names c.args.place c.args.name;
      founds = insert s.founds c.args.place c.args.found;
      kept = insert s.kept c.args.place c.args.kept;
    }) c.self.view_is
