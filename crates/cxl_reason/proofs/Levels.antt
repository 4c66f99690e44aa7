-- What a node gives does not depend on the level, and is told by what its children give.
use Rattle.std.proofs.Common.{◌≡◌, ℕ, zero, suc, ◌+◌, ◌/◌, ◌<◌, ◌≤◌, Bool, true, false, ◌&&◌, if◌then◌else◌, [], ◌∷◌, length, Some, None, refl, sym, ap, ◌∙◌, inl, inr, arith}
use Rattle.std.specs.Prelude.{◌==◌, find}
use Rattle.std.specs.List.{filter_map, range_with_len}
use Rattle.std.proofs.lemmas.Bool.{cases_Bool}
use Rattle.cxl_enc.proofs.Lists.{is_in}
use Rattle.cxl_topo.specs.Tree.{is_endpoint_at, child_of}
use Rattle.cxl_window.specs.Fields.{WindowFields}
use Rattle.cxl_topo.proofs.Trees.{KnownTree, parent_within, parent_is_port}
use Rattle.cxl_model.specs.System.{System}
use Rattle.cxl_pick.specs.declared.want.Want.{Want}
use Rattle.cxl_pick.specs.Picking.{can_serve_itself, can_serve_by, children_of, port_gives, gives_within, gives}
use Rattle.cxl_pick.specs.inner.Gifts.{offers_of}
use Rattle.cxl_reason.specs.inner.Gifts.{one_if}
use Rattle.cxl_reason.proofs.Lists.{given_from, filter_map-same, one_mapped}

-- ---- one level at a time

gives_step : (k : ℕ) (s : System) (want : Want) (w : WindowFields) (start n m : ℕ)
    → gives_within (suc k) s want w start n m
    ≡ (if is_endpoint_at s.nodes n then (if (m == 1) && can_serve_itself s want w start n then Some (n ∷ []) else None)
    else port_gives s want w start n m (λ u. filter_map (λ child. gives_within k s want w start child (m / u)) (children_of s n)))
unfolding gives_within
gives_step k s want w start n m = refl

pub at_endpoint : (k : ℕ) (s : System) (want : Want) (w : WindowFields) (start n m : ℕ) → is_endpoint_at s.nodes n ≡ true
    → gives_within (suc k) s want w start n m ≡ (if (m == 1) && can_serve_itself s want w start n then Some (n ∷ []) else None)
at_endpoint k s want w start n m is =
    gives_step k s want w start n m
    ∙ ap (λ (b : Bool). if b then (if (m == 1) && can_serve_itself s want w start n then Some (n ∷ []) else None)
    else port_gives s want w start n m (λ u. filter_map (λ child. gives_within k s want w start child (m / u)) (children_of s n))) is

pub at_port : (k : ℕ) (s : System) (want : Want) (w : WindowFields) (start n m : ℕ) → is_endpoint_at s.nodes n ≡ false
    → gives_within (suc k) s want w start n m ≡ port_gives s want w start n m (λ u. filter_map (λ child. gives_within k s want w start child (m / u)) (children_of s n))
at_port k s want w start n m is =
    gives_step k s want w start n m
    ∙ ap (λ (b : Bool). if b then (if (m == 1) && can_serve_itself s want w start n then Some (n ∷ []) else None)
    else port_gives s want w start n m (λ u. filter_map (λ child. gives_within k s want w start child (m / u)) (children_of s n))) is

-- ---- at any level

-- a child comes after its parent, and is one of the nodes
pub child_later : (s : System) → KnownTree s.nodes → (n c : ℕ) → is_in c (children_of s n) ≡ true → (n < c) × (c < length s.nodes)
child_later s known n c there =
    let own = given_from (child_of s.nodes n) (range_with_len 0 256) c there in
    let parent = (known.laws.children n own.0 c).0 own.1 in
    ((parent_is_port known c (record { node = n; port = own.0 }) parent).0, parent_within s.nodes c (record { node = n; port = own.0 }) parent)

pub levels : (s : System) → KnownTree s.nodes → (want : Want) (w : WindowFields) (start : ℕ) → (k j n m : ℕ) → n < length s.nodes → length s.nodes ≤ n + k → length s.nodes ≤ n + j
    → gives_within k s want w start n m ≡ gives_within j s want w start n m
levels s known want w start zero j n m within more enough = absurd (omega (arith, within, more))
levels s known want w start (suc k) zero n m within more enough = absurd (omega (arith, within, enough))
levels s known want w start (suc k) (suc j) n m within more enough =
    elim (cases_Bool (is_endpoint_at s.nodes n)) [
      | inl endpoint ↦ at_endpoint k s want w start n m endpoint ∙ sym (at_endpoint j s want w start n m endpoint)
      | inr port ↦
          let each : (u : ℕ) → filter_map (λ child. gives_within k s want w start child (m / u)) (children_of s n) ≡ filter_map (λ child. gives_within j s want w start child (m / u)) (children_of s n) =
          λ u. filter_map-same (λ child. gives_within k s want w start child (m / u)) (λ child. gives_within j s want w start child (m / u)) (children_of s n) (λ c there.
          let at = child_later s known n c there in
          let lower = at.0 in
          levels s known want w start k j c (m / u) at.1 (omega (arith, lower, more)) (omega (arith, lower, enough))) in
          at_port k s want w start n m port
          ∙ (λ i. port_gives s want w start n m (λ u. each u i))
          ∙ sym (at_port j s want w start n m port)
    ]

-- a port gives something where it could serve by what its children offer
pub port_one : (s : System) → KnownTree s.nodes → (want : Want) (w : WindowFields) (start n m : ℕ) → n < length s.nodes → is_endpoint_at s.nodes n ≡ false
    → one_if (find (λ u. can_serve_by s want w start n m (length (offers_of s want w start n (m / u))) u) (8 ∷ 4 ∷ 2 ∷ 1 ∷ [])) ≡ one_if (gives s want w start n m)
port_one s known want w start n m within port =
    sym (one_mapped _ (find (λ u. can_serve_by s want w start n m (length (offers_of s want w start n (m / u))) u) (8 ∷ 4 ∷ 2 ∷ 1 ∷ [])))
    ∙ ap one_if (sym (levels s known want w start (length s.nodes) (suc (length s.nodes)) n m within (omega arith) (omega arith)
    ∙ at_port (length s.nodes) s want w start n m port))

-- and an endpoint where it could serve itself
pub endpoint_one : (s : System) → KnownTree s.nodes → (want : Want) (w : WindowFields) (start n m : ℕ) → n < length s.nodes → is_endpoint_at s.nodes n ≡ true
    → (if (m == 1) && can_serve_itself s want w start n then 1 else 0) ≡ one_if (gives s want w start n m)
endpoint_one s known want w start n m within endpoint =
    either ((m == 1) && can_serve_itself s want w start n)
    ∙ ap one_if (sym (levels s known want w start (length s.nodes) (suc (length s.nodes)) n m within (omega arith) (omega arith)
    ∙ at_endpoint (length s.nodes) s want w start n m endpoint))
  where
    either : (b : Bool) → (if b then 1 else 0) ≡ one_if (if b then Some (n ∷ []) else None)
    either true = refl
    either false = refl
