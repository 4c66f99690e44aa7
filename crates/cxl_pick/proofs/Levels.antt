-- What a node gives does not depend on the level, and is told by what its children give.
use Rattle.std.proofs.Common.{◌≡◌, ℕ, zero, suc, ◌+◌, ◌/◌, ◌<◌, ◌≤◌, true, false, ◌&&◌, if◌then◌else◌, List, [], ◌∷◌, length, Option, Some, None, refl, sym, ap, ◌∙◌, inl, inr, arith}
use Rattle.std.specs.Prelude.{◌==◌}
use Rattle.std.specs.List.{filter_map, cons_option}
use Rattle.std.proofs.lemmas.Bool.{cases_Bool, or_left, or_right, eq-eqb}
use Rattle.cxl_enc.proofs.Lists.{is_in}
use Rattle.cxl_topo.specs.Tree.{is_endpoint_at}
use Rattle.cxl_window.specs.Fields.{WindowFields}
use Rattle.cxl_topo.proofs.Trees.{KnownTree, parent_within, parent_is_port}
use Rattle.cxl_model.specs.System.{System}
use Rattle.cxl_pick.specs.declared.want.Want.{Want}
use Rattle.cxl_pick.specs.Picking.{can_serve_itself, children_of, port_gives, gives_within, gives}
use Rattle.cxl_pick.proofs.Giving.{at_endpoint, at_port}
use Rattle.cxl_pick.proofs.Taking.{child_from}

pub filter_map-same : {Y : Type 0} (f g : ℕ → Option Y) (xs : List ℕ) → ((x : ℕ) → is_in x xs ≡ true → f x ≡ g x) → filter_map f xs ≡ filter_map g xs
filter_map-same f g [] same = refl
filter_map-same f g (x ∷ xs) same =
    ap (λ o. cons_option o (filter_map f xs)) (same x (or_left (x == x) (is_in x xs) (eq-eqb x x refl)))
    ∙ ap (cons_option (g x)) (filter_map-same f g xs (λ y there. same y (or_right (x == y) (is_in y xs) there)))

-- a child comes after its parent, and is one of the nodes
pub child_later : (s : System) → KnownTree s.nodes → (n c : ℕ) → is_in c (children_of s n) ≡ true → (n < c) × (c < length s.nodes)
child_later s known n c there =
    let own = child_from s known n c there in
    ((parent_is_port known c (record { node = n; port = own.0 }) own.1).0, parent_within s.nodes c (record { node = n; port = own.0 }) own.1)

pub levels : (s : System) → KnownTree s.nodes → (want : Want) (w : WindowFields) (start : ℕ) → (k j n m : ℕ) → n < length s.nodes → length s.nodes ≤ n + k → length s.nodes ≤ n + j
    → gives_within k s want w start n m ≡ gives_within j s want w start n m
levels s known want w start zero j n m within more enough = absurd (omega (arith, within, more))
levels s known want w start (suc k) zero n m within more enough = absurd (omega (arith, within, enough))
levels s known want w start (suc k) (suc j) n m within more enough =
    elim (cases_Bool (is_endpoint_at s.nodes n)) [
      | inl endpoint ↦ at_endpoint k s want w start n m endpoint ∙ sym (at_endpoint j s want w start n m endpoint)
      | inr port ↦
          let each : (u : ℕ) → filter_map (λ child. gives_within k s want w start child (m / u)) (children_of s n) ≡ filter_map (λ child. gives_within j s want w start child (m / u)) (children_of s n) =
          λ u. filter_map-same (λ child. gives_within k s want w start child (m / u)) (λ child. gives_within j s want w start child (m / u)) (children_of s n) (λ c there.
          let at = child_later s known n c there in
          let lower = at.0 in
          levels s known want w start k j c (m / u) at.1 (omega (arith, lower, more)) (omega (arith, lower, enough))) in
          at_port k s want w start n m port
          ∙ (λ i. port_gives s want w start n m (λ u. each u i))
          ∙ sym (at_port j s want w start n m port)
    ]

-- what a port gives, by what its children give
pub gives_at_port : (s : System) → KnownTree s.nodes → (want : Want) (w : WindowFields) (start n m : ℕ) → n < length s.nodes → is_endpoint_at s.nodes n ≡ false
    → gives s want w start n m ≡ port_gives s want w start n m (λ u. filter_map (λ child. gives s want w start child (m / u)) (children_of s n))
gives_at_port s known want w start n m within port =
    levels s known want w start (length s.nodes) (suc (length s.nodes)) n m within (omega arith) (omega arith)
    ∙ at_port (length s.nodes) s want w start n m port

pub gives_at_endpoint : (s : System) → KnownTree s.nodes → (want : Want) (w : WindowFields) (start n m : ℕ) → n < length s.nodes → is_endpoint_at s.nodes n ≡ true
    → gives s want w start n m ≡ (if (m == 1) && can_serve_itself s want w start n then Some (n ∷ []) else None)
gives_at_endpoint s known want w start n m within endpoint =
    levels s known want w start (length s.nodes) (suc (length s.nodes)) n m within (omega arith) (omega arith)
    ∙ at_endpoint (length s.nodes) s want w start n m endpoint
