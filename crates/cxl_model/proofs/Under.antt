-- Who stands under whom in a legal tree.
use Rattle.std.proofs.Common.{◌≡◌, ℕ, ◌||◌, List, ◌∷◌, map, None, ap, ◌∙◌, Some, sym, true, refl, inl, inr, ◌≤◌, arith, ◌&&◌, subst, false}
use Rattle.std.specs.Prelude.{◌==◌}
use Rattle.std.specs.List.{list_any}
use Rattle.std.proofs.lemmas.Bool.{or_left, eq-eqb, or_cases, or_right, eqb-true, and_parts, and_from, ne_eqb, false≢true, false_from_ne_true}
use Rattle.std.proofs.lemmas.Option.{none-some, same_Some}
use Rattle.cxl_enc.proofs.Tests.{or_false, same_test}
use Rattle.cxl_enc.proofs.Lists.{list_any-reverse}
use Rattle.cxl_topo.specs.declared.node.Node.{Node}
use Rattle.cxl_topo.specs.declared.node.Parent.{Parent}
use Rattle.cxl_topo.specs.Tree.{parent_of, ports_above, forwards_at, is_endpoint_at}
use Rattle.cxl_topo.proofs.Trees.{KnownTree, ports_none, ports_some, up_tree, is_above, above_root, above_step, parent_is_port, leaves_at, leaves_root, leaves_step, above_port, port_no_endpoint, root_of, root_root, root_step}
use Rattle.cxl_model.specs.Counts.{is_under}

pub under_root : {nodes : List Node} → KnownTree nodes → (n i : ℕ) → parent_of nodes i ≡ None → is_under nodes n i ≡ (i == n)
under_root {nodes} known n i none =
    list_any-reverse (λ q. q == n) (i ∷ map (λ parent. parent.node) (ports_above nodes i))
    ∙ ap (λ (ps : List Parent). (i == n) || list_any (λ q. q == n) (map (λ parent. parent.node) ps)) (ports_none known i none)
    ∙ or_false (i == n)

pub under_step : {nodes : List Node} → KnownTree nodes → (n i : ℕ) (p : Parent) → parent_of nodes i ≡ Some p → is_under nodes n i ≡ ((i == n) || is_under nodes n p.node)
under_step {nodes} known n i p some =
    list_any-reverse (λ q. q == n) (i ∷ map (λ parent. parent.node) (ports_above nodes i))
    ∙ ap (λ (ps : List Parent). (i == n) || list_any (λ q. q == n) (map (λ parent. parent.node) ps)) (ports_some known i p some)
    ∙ ap (λ b. (i == n) || b) (sym (list_any-reverse (λ q. q == n) (p.node ∷ map (λ parent. parent.node) (ports_above nodes p.node))))

pub under_is : {nodes : List Node} → KnownTree nodes → (n i : ℕ) → is_under nodes n i ≡ ((i == n) || is_above nodes n i)
under_is {nodes} known n =
    up_tree known (λ i. is_under nodes n i ≡ ((i == n) || is_above nodes n i))
    (λ i none. under_root known n i none ∙ sym (or_false (i == n)) ∙ ap (λ b. (i == n) || b) (sym (above_root known n i none)))
    (λ i p some rest. under_step known n i p some ∙ ap (λ b. (i == n) || b) (rest ∙ sym (above_step known n i p some)))

pub under_self : {nodes : List Node} → KnownTree nodes → (n : ℕ) → is_under nodes n n ≡ true
under_self {nodes} known =
    up_tree known (λ n. is_under nodes n n ≡ true)
    (λ n none. under_root known n n none ∙ eq-eqb n n refl)
    (λ n p some rest. under_step known n n p some ∙ or_left (n == n) (is_under nodes n p.node) (eq-eqb n n refl))

-- what stands under a node stands under its parent
pub under_parent : {nodes : List Node} → KnownTree nodes → (i : ℕ) (p : Parent) → parent_of nodes i ≡ Some p → (m : ℕ) → is_under nodes i m ≡ true → is_under nodes p.node m ≡ true
under_parent {nodes} known i p some =
    up_tree known (λ m. is_under nodes i m ≡ true → is_under nodes p.node m ≡ true)
    (λ m none under. absurd (none-some p (sym none ∙ ap (parent_of nodes) (eqb-true m i (sym (under_root known i m none) ∙ under)) ∙ some)))
    (λ m q own rest under. under_step known p.node m q own ∙ or_right (m == p.node) (is_under nodes p.node q.node)
    (elim (or_cases (m == i) (is_under nodes i q.node) (sym (under_step known i m q own) ∙ under)) [
      | inl here ↦
          let same : q ≡ p = same_Some q p (sym own ∙ ap (parent_of nodes) (eqb-true m i here) ∙ some) in
          ap (λ (x : Parent). is_under nodes p.node x.node) same ∙ under_self known p.node
      | inr higher ↦ rest higher
    ]))

-- a node has no greater number than what stands under it
pub under_later : {nodes : List Node} → KnownTree nodes → (n i : ℕ) → is_under nodes n i ≡ true → n ≤ i
under_later {nodes} known n =
    up_tree known (λ i. is_under nodes n i ≡ true → n ≤ i)
    (λ i none under. let same = eqb-true i n (sym (under_root known n i none) ∙ under) in omega (arith, same))
    (λ i p some rest under.
    let lower = (parent_is_port known i p some).0 in
    elim (or_cases (i == n) (is_under nodes n p.node) (sym (under_step known n i p some) ∙ under)) [
      | inl here ↦ let same = eqb-true i n here in omega (arith, same)
      | inr higher ↦ let before = rest higher in omega (arith, before, lower)
    ])

-- under the child of node n at port e stands what leaves node n there
pub under_child : {nodes : List Node} → KnownTree nodes → (n e c : ℕ) → parent_of nodes c ≡ Some (record { node = n; port = e })
    → (i : ℕ) → is_under nodes c i ≡ leaves_at nodes n e i
under_child {nodes} known n e c child =
    up_tree known (λ i. is_under nodes c i ≡ leaves_at nodes n e i)
    (λ i none. under_root known c i none ∙ ne_eqb i c (λ same. none-some own (sym none ∙ ap (parent_of nodes) same ∙ child)) ∙ sym (leaves_root known n e i none))
    (λ i p some rest.
    under_step known c i p some ∙ ap (λ b. (i == c) || b) rest ∙ ap (λ b. b || leaves_at nodes n e p.node) (turn i p some) ∙ sym (leaves_step known n e i p some))
  where
    own : Parent
    own = record { node = n; port = e }

    turn : (i : ℕ) (p : Parent) → parent_of nodes i ≡ Some p → (i == c) ≡ ((p.node == n) && (p.port == e))
    turn i p some =
        same_test (i == c) ((p.node == n) && (p.port == e))
        (λ here.
        let same : p ≡ own = same_Some p own (sym some ∙ ap (parent_of nodes) (eqb-true i c here) ∙ child) in
        and_from (p.node == n) (p.port == e) (eq-eqb p.node n (ap (λ (q : Parent). q.node) same)) (eq-eqb p.port e (ap (λ (q : Parent). q.port) same)))
        (λ there.
        let parts = and_parts (p.node == n) (p.port == e) there in
        let node = eqb-true p.node n parts.0 in
        let port = eqb-true p.port e parts.1 in
        let same : p ≡ own = λ k. record { node = node k; port = port k } in
        eq-eqb i c (known.tree.ports i c own (some ∙ ap Some same) child))

-- under the only child of a node that forwards stands what that node stands above
pub under_only : {nodes : List Node} → KnownTree nodes → (c : ℕ) (own : Parent) → parent_of nodes c ≡ Some own → forwards_at nodes own.node ≡ true
    → (i : ℕ) → is_under nodes c i ≡ is_above nodes own.node i
under_only {nodes} known c own child forwards =
    up_tree known (λ i. is_under nodes c i ≡ is_above nodes own.node i)
    (λ i none. under_root known c i none ∙ ne_eqb i c (λ same. none-some own (sym none ∙ ap (parent_of nodes) same ∙ child)) ∙ sym (above_root known own.node i none))
    (λ i p some rest.
    under_step known c i p some ∙ ap (λ b. (i == c) || b) rest ∙ ap (λ b. b || is_above nodes own.node p.node) (turn i p some) ∙ sym (above_step known own.node i p some))
  where
    turn : (i : ℕ) (p : Parent) → parent_of nodes i ≡ Some p → (i == c) ≡ (p.node == own.node)
    turn i p some =
        same_test (i == c) (p.node == own.node)
        (λ here. eq-eqb p.node own.node (ap (λ (q : Parent). q.node) (same_Some p own (sym some ∙ ap (parent_of nodes) (eqb-true i c here) ∙ child))))
        (λ there. eq-eqb i c (known.tree.forwarding i c p own some child (eqb-true p.node own.node there) (subst (λ (m : ℕ). forwards_at nodes m ≡ true) (sym (eqb-true p.node own.node there)) forwards)))

-- under an endpoint stands that endpoint alone
pub under_endpoint : {nodes : List Node} → KnownTree nodes → (n i : ℕ) → is_endpoint_at nodes n ≡ true → is_under nodes n i ≡ (i == n)
under_endpoint {nodes} known n i endpoint =
    under_is known n i ∙ ap (λ b. (i == n) || b) none ∙ or_false (i == n)
  where
    none : is_above nodes n i ≡ false
    none = false_from_ne_true (is_above nodes n i) (λ above. false≢true (sym (port_no_endpoint nodes n (above_port known n i above)) ∙ endpoint))

-- a node without a parent stands above those whose path begins with it
pub under_top : {nodes : List Node} → KnownTree nodes → (b : ℕ) → parent_of nodes b ≡ None → (i : ℕ) → (is_under nodes b i ≡ true → root_of nodes i ≡ Some b) × (root_of nodes i ≡ Some b → is_under nodes b i ≡ true)
under_top {nodes} known b top =
    up_tree known (λ i. (is_under nodes b i ≡ true → root_of nodes i ≡ Some b) × (root_of nodes i ≡ Some b → is_under nodes b i ≡ true))
    (λ i none. (
      (λ under. root_root known i none ∙ ap Some (eqb-true i b (sym (under_root known b i none) ∙ under))),
      (λ root. under_root known b i none ∙ eq-eqb i b (same_Some i b (sym (root_root known i none) ∙ root))),
    ))
    (λ i p some rest.
    let other : (i == b) ≡ false = ne_eqb i b (λ same. none-some p (sym top ∙ ap (parent_of nodes) (sym same) ∙ some)) in
    let step : is_under nodes b i ≡ is_under nodes b p.node = under_step known b i p some ∙ ap (λ t. t || is_under nodes b p.node) other in (
      (λ under. root_step known i p some ∙ rest.0 (sym step ∙ under)),
      (λ root. step ∙ rest.1 (sym (root_step known i p some) ∙ root)),
    ))
