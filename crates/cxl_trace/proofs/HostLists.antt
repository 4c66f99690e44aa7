-- What the list of all addresses of a byte says of its first, and of none.
use Rattle.std.proofs.Common.{◌≡◌, ℕ, zero, suc, ◌≤◌, List, [], ◌∷◌, length, Some, refl, ap, arith}
use Rattle.std.specs.Prelude.{slice_get, Contains}
use Rattle.cxl_enc.proofs.Lists.{contains_none, contains_head, contains_tail}
use Rattle.cxl_model.specs.System.{System}
use Rattle.cxl_walk.specs.declared.upward.HostByte.{HostByte}
use Rattle.cxl_walk.specs.Hosts.{HasNoHost, IsLeastHost}
use Rattle.cxl_trace.specs.HostLists.{Reaches, AreHostsOf}

pub first_is_least : (s : System) (ep dpa : ℕ) (hosts : List ℕ) (host : HostByte) → AreHostsOf s ep dpa hosts → IsLeastHost s ep dpa host → slice_get hosts 0 ≡ Some host.h
first_is_least s ep dpa [] host are least = absurd (contains_none host.h ((are.each host.h).1 (host.base, least.comes)))
first_is_least s ep dpa (x ∷ xs) host are least =
    let reached = (are.each x).0 (contains_head x xs) in
    let at_most = least.least reached.0 x reached.1 in
    go ((are.each host.h).1 (host.base, least.comes)) at_most
  where
    go : Contains (x ∷ xs) host.h → host.h ≤ x → Some x ≡ Some host.h
    go (zero, within, is) at_most = ap Some is
    go (suc i, within, is) at_most =
        let above = are.rising 0 (suc i) host.h (omega arith) within in
        absurd (omega (arith, above, is, at_most))

pub none_where_none : (s : System) (ep dpa : ℕ) (hosts : List ℕ) → AreHostsOf s ep dpa hosts → (hosts ≡ [] → HasNoHost s ep dpa) × (HasNoHost s ep dpa → hosts ≡ [])
none_where_none s ep dpa [] are = (λ is first h comes. contains_none h ((are.each h).1 (first, comes)), λ none. refl)
none_where_none s ep dpa (x ∷ xs) are = (
  λ is. absurd cc,
  λ none. let reached = (are.each x).0 (contains_head x xs) in absurd (none reached.0 x reached.1),
)

pub one_where_apart : (s : System) (ep dpa : ℕ) (hosts : List ℕ) → ((a b : ℕ) → Reaches s ep dpa a → Reaches s ep dpa b → a ≡ b) → AreHostsOf s ep dpa hosts → length hosts ≤ 1
one_where_apart s ep dpa [] apart are = omega arith
one_where_apart s ep dpa (x ∷ []) apart are = omega arith
one_where_apart s ep dpa (x ∷ y ∷ xs) apart are =
    let same = apart x y ((are.each x).0 (contains_head x (y ∷ xs))) ((are.each y).0 (contains_tail x y (y ∷ xs) (contains_head y xs))) in
    let above = are.rising 0 1 0 (omega arith) (omega arith) in
    absurd (omega (arith, same, above))
