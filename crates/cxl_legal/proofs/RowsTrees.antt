-- Decoding parents in a legal tree, and that a node below which all is passed on has one way down.
use Rattle.std.proofs.Common.{◌≡◌, ℕ, ◌<◌, ◌⊎◌, true, List, Some, None, sym, ◌∙◌, subst, inl, inr, arith}
use Rattle.std.specs.Prelude.{◌==◌}
use Rattle.std.proofs.lemmas.Bool.{cases_Bool, or_cases, or_left, or_right, eqb-true, eq-eqb, false≢true}
use Rattle.std.proofs.lemmas.Option.{none-some, same_Some}
use Rattle.cxl_topo.specs.declared.node.Node.{Node}
use Rattle.cxl_topo.specs.declared.node.Parent.{Parent}
use Rattle.cxl_topo.specs.Tree.{forwards_at, is_port_at, is_endpoint_at, parent_of, decoding_port_of}
use Rattle.cxl_topo.proofs.Trees.{KnownTree, parent_is_port, up_tree, is_above, above_port, port_no_endpoint, root_of, root_root, root_step, decoding_none, decoding_here, decoding_past}
use Rattle.cxl_model.specs.Counts.{is_under}
use Rattle.cxl_model.proofs.Under.{under_root, under_step, under_is}

-- what stands on a path is its end, or a port
pub on_path : {nodes : List Node} → KnownTree nodes → (n m : ℕ) → is_under nodes n m ≡ true → (m ≡ n) ⊎ (is_port_at nodes n ≡ true)
on_path {nodes} known n m under =
    elim (or_cases (m == n) (is_above nodes n m) (sym (under_is known n m) ∙ under)) [
      | inl here ↦ inl (eqb-true m n here)
      | inr above ↦ inr (above_port known n m above)
    ]

-- a decoding parent comes before its node
pub decoding_earlier : {nodes : List Node} → KnownTree nodes → (i : ℕ) (q : Parent) → decoding_port_of nodes i ≡ Some q → q.node < i
decoding_earlier {nodes} known =
    up_tree known (λ i. (q : Parent) → decoding_port_of nodes i ≡ Some q → q.node < i)
    (λ i none q is. absurd (none-some q (sym (decoding_none known i none) ∙ is)))
    (λ i p some rest q is.
    let up : p.node < i = (parent_is_port known i p some).0 in
    elim (cases_Bool (forwards_at nodes p.node)) [
      | inl forwards ↦ let higher = rest q (sym (decoding_past known i p some forwards) ∙ is) in omega arith
      | inr own ↦ subst (λ (x : Parent). x.node < i) (same_Some p q (sym (decoding_here known i p some own) ∙ is)) up
    ])

-- what stands under a node that forwards is that node, or stands under its only child
only_way : {nodes : List Node} → KnownTree nodes → (n : ℕ) (p : Parent) → parent_of nodes n ≡ Some p → forwards_at nodes p.node ≡ true → (m : ℕ) → is_under nodes p.node m ≡ true → (m ≡ p.node) ⊎ (is_under nodes n m ≡ true)
only_way {nodes} known n p child forwards =
    up_tree known (λ m. is_under nodes p.node m ≡ true → (m ≡ p.node) ⊎ (is_under nodes n m ≡ true))
    (λ m none under. inl (eqb-true m p.node (sym (under_root known p.node m none) ∙ under)))
    (λ m q some rest under.
    elim (or_cases (m == p.node) (is_under nodes p.node q.node) (sym (under_step known p.node m q some) ∙ under)) [
      | inl here ↦ inl (eqb-true m p.node here)
      | inr higher ↦ inr (under_step known n m q some ∙ elim (rest higher) [
        | inl same ↦
            let one : m ≡ n = known.tree.forwarding m n q p some child same (subst (λ (k : ℕ). forwards_at nodes k ≡ true) (sym same) forwards) in
            or_left (m == n) (is_under nodes n q.node) (eq-eqb m n one)
        | inr both ↦ or_right (m == n) (is_under nodes n q.node) both
      ])
    ])

-- where all above a node forwards, each endpoint under its bridge stands under it
pub under_landing : {nodes : List Node} → KnownTree nodes → (m : ℕ) → is_endpoint_at nodes m ≡ true → (n b : ℕ) → decoding_port_of nodes n ≡ None → root_of nodes n ≡ Some b → is_under nodes b m ≡ true → is_under nodes n m ≡ true
under_landing {nodes} known m endpoint =
    up_tree known (λ n. (b : ℕ) → decoding_port_of nodes n ≡ None → root_of nodes n ≡ Some b → is_under nodes b m ≡ true → is_under nodes n m ≡ true)
    (λ n none b passes root under. subst (λ (k : ℕ). is_under nodes k m ≡ true) (sym (same_Some n b (sym (root_root known n none) ∙ root))) under)
    (λ n p some rest b passes root under.
    elim (cases_Bool (forwards_at nodes p.node)) [
      | inl forwards ↦
          let higher = rest b (sym (decoding_past known n p some forwards) ∙ passes) (sym (root_step known n p some) ∙ root) under in
          elim (only_way known n p some forwards m higher) [
            | inl same ↦
                absurd (false≢true (sym (port_no_endpoint nodes p.node (parent_is_port known n p some).1) ∙ subst (λ (k : ℕ). is_endpoint_at nodes k ≡ true) same endpoint))
            | inr down ↦ down
          ]
      | inr own ↦ absurd (none-some p (sym passes ∙ decoding_here known n p some own))
    ])
