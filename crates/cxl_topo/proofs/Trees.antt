-- What stands above a node of a legal tree, up to the node without a parent.
use Rattle.std.proofs.Common.{List, ◌≡◌, ℕ, ◌<◌, length, Some, sym, ap, ◌∙◌, inl, inr, true, subst, None, [], ◌∷◌, Option, Bool, ◌&&◌, false, ◌||◌, arith, refl, not, ◌≤◌, zero, suc, map, reverse, cond}
use Rattle.std.specs.Option.{option_and_then, option_map_or}
use Rattle.std.proofs.lemmas.Bool.{cases_lt, cases_Bool, or_cases, eqb-true, false≢true, and_parts, or_left, or_right, and_from, eq-eqb, not-true}
use Rattle.std.proofs.lemmas.Option.{slice_get_past, none-some, same_Some}
use Rattle.std.specs.Prelude.{◌==◌, slice_get, option_map, find}
use Rattle.std.specs.List.{list_any}
use Rattle.std.proofs.lemmas.List.{reverse-append, length-reverse}
use Rattle.cxl_enc.proofs.Numbers.{from_lower}
use Rattle.cxl_enc.proofs.Options.{cases_Option}
use Rattle.cxl_enc.proofs.Lists.{first-append}
use Rattle.cxl_topo.specs.declared.node.Node.{Node}
use Rattle.cxl_topo.specs.Faults.{IsTree}
use Rattle.cxl_topo.specs.Laws.{AreTreeLaws}
use Rattle.cxl_topo.specs.declared.node.Parent.{Parent}
use Rattle.cxl_topo.specs.Tree.{parent_of, is_bridge_at, is_port_at, ports_above, is_endpoint_at, forwards_at, least_child_of, path_of, uid_at, decoding_port_of}
use Rattle.cxl_topo.specs.Kinds.{is_endpoint, is_bridge, uid_of}
use Rattle.cxl_topo.specs.declared.node.NodeKind.{NodeKind}
use Rattle.cxl_topo.specs.declared.node.NodeKind.TheVariants.{Bridge, Switch, Endpoint}

-- a legal tree, with what is known of one
pub record KnownTree (nodes : List Node) : Type 0 where
  pub tree : IsTree nodes
  pub laws : AreTreeLaws nodes

-- ---- parents

pub parent_within : (nodes : List Node) (i : ℕ) (p : Parent) → parent_of nodes i ≡ Some p → i < length nodes
parent_within nodes i p is =
    elim (cases_lt i (length nodes)) [
      | inl within ↦ within
      | inr past ↦ absurd (none-some p (sym (ap (option_and_then (λ (node : Node). node.parent)) (slice_get_past nodes i past)) ∙ is))
    ]

pub parent_is_port : {nodes : List Node} → KnownTree nodes → (i : ℕ) (p : Parent) → parent_of nodes i ≡ Some p → (p.node < i) × (is_port_at nodes p.node ≡ true)
parent_is_port {nodes} known i p is =
    elim (cases_Bool (is_bridge_at nodes i)) [
      | inl bridge ↦ absurd (none-some p (sym (known.tree.bridges i bridge) ∙ is))
      | inr other ↦
          let own = known.tree.others i (parent_within nodes i p is) other in
          let same : own.0 ≡ p = same_Some own.0 p (sym own.1 ∙ is) in
          let earlier : p.node < i = subst (λ (q : Parent). q.node < i) same own.2.earlier in
          let port : is_port_at nodes p.node ≡ true = subst (λ (q : Parent). is_port_at nodes q.node ≡ true) same own.2.port in
          (earlier, port)
    ]

-- what holds of a node without a parent, and of each node of whose parent it holds, holds of all
pub up_tree : {nodes : List Node} → KnownTree nodes → (P : ℕ → Type 0) → ((i : ℕ) → parent_of nodes i ≡ None → P i)
    → ((i : ℕ) (p : Parent) → parent_of nodes i ≡ Some p → P p.node → P i) → (i : ℕ) → P i
up_tree {nodes} known P root step =
    from_lower P (λ i lower. elim (cases_Option (parent_of nodes i)) [
      | inl none ↦ root i none
      | inr some ↦ step i some.0 some.1 (lower some.0.node (parent_is_port known i some.0 some.1).0)
    ])

-- ---- the ports above a node

pub ports_none : {nodes : List Node} → KnownTree nodes → (i : ℕ) → parent_of nodes i ≡ None → ports_above nodes i ≡ []
ports_none {nodes} known i none =
    known.laws.ports i ∙ ap (λ (o : Option Parent). option_map_or (λ parent. parent ∷ ports_above nodes parent.node) o []) none

pub ports_some : {nodes : List Node} → KnownTree nodes → (i : ℕ) (p : Parent) → parent_of nodes i ≡ Some p → ports_above nodes i ≡ p ∷ ports_above nodes p.node
ports_some {nodes} known i p some =
    known.laws.ports i ∙ ap (λ (o : Option Parent). option_map_or (λ parent. parent ∷ ports_above nodes parent.node) o []) some

-- node n stands above node i, and is not i
abbrev pub is_above : List Node → ℕ → ℕ → Bool
is_above nodes n i = list_any (λ parent. parent.node == n) (ports_above nodes i)

-- the path of node i leaves node n at port e
abbrev pub leaves_at : List Node → ℕ → ℕ → ℕ → Bool
leaves_at nodes n e i = list_any (λ parent. (parent.node == n) && (parent.port == e)) (ports_above nodes i)

pub above_root : {nodes : List Node} → KnownTree nodes → (n i : ℕ) → parent_of nodes i ≡ None → is_above nodes n i ≡ false
above_root known n i none = ap (list_any (λ (parent : Parent). parent.node == n)) (ports_none known i none)

pub above_step : {nodes : List Node} → KnownTree nodes → (n i : ℕ) (p : Parent) → parent_of nodes i ≡ Some p
    → is_above nodes n i ≡ ((p.node == n) || is_above nodes n p.node)
above_step known n i p some = ap (list_any (λ (parent : Parent). parent.node == n)) (ports_some known i p some)

pub leaves_root : {nodes : List Node} → KnownTree nodes → (n e i : ℕ) → parent_of nodes i ≡ None → leaves_at nodes n e i ≡ false
leaves_root known n e i none = ap (list_any (λ (parent : Parent). (parent.node == n) && (parent.port == e))) (ports_none known i none)

pub leaves_step : {nodes : List Node} → KnownTree nodes → (n e i : ℕ) (p : Parent) → parent_of nodes i ≡ Some p
    → leaves_at nodes n e i ≡ (((p.node == n) && (p.port == e)) || leaves_at nodes n e p.node)
leaves_step known n e i p some = ap (list_any (λ (parent : Parent). (parent.node == n) && (parent.port == e))) (ports_some known i p some)

pub above_earlier : {nodes : List Node} → KnownTree nodes → (n i : ℕ) → is_above nodes n i ≡ true → n < i
above_earlier {nodes} known n =
    up_tree known (λ i. is_above nodes n i ≡ true → n < i)
    (λ i none above. absurd (false≢true (sym (above_root known n i none) ∙ above)))
    (λ i p some rest above.
    let up : p.node < i = (parent_is_port known i p some).0 in
    elim (or_cases (p.node == n) (is_above nodes n p.node) (sym (above_step known n i p some) ∙ above)) [
      | inl here ↦ let same = eqb-true p.node n here in omega arith
      | inr higher ↦ let lower = rest higher in omega arith
    ])

pub above_port : {nodes : List Node} → KnownTree nodes → (n i : ℕ) → is_above nodes n i ≡ true → is_port_at nodes n ≡ true
above_port {nodes} known n =
    up_tree known (λ i. is_above nodes n i ≡ true → is_port_at nodes n ≡ true)
    (λ i none above. absurd (false≢true (sym (above_root known n i none) ∙ above)))
    (λ i p some rest above.
    elim (or_cases (p.node == n) (is_above nodes n p.node) (sym (above_step known n i p some) ∙ above)) [
      | inl here ↦ subst (λ (m : ℕ). is_port_at nodes m ≡ true) (eqb-true p.node n here) (parent_is_port known i p some).1
      | inr higher ↦ rest higher
    ])

pub leaves_above : {nodes : List Node} → KnownTree nodes → (n e i : ℕ) → leaves_at nodes n e i ≡ true → is_above nodes n i ≡ true
leaves_above {nodes} known n e =
    up_tree known (λ i. leaves_at nodes n e i ≡ true → is_above nodes n i ≡ true)
    (λ i none leaves. absurd (false≢true (sym (leaves_root known n e i none) ∙ leaves)))
    (λ i p some rest leaves. above_step known n i p some ∙
    elim (or_cases ((p.node == n) && (p.port == e)) (leaves_at nodes n e p.node) (sym (leaves_step known n e i p some) ∙ leaves)) as (λ x. ((p.node == n) || is_above nodes n p.node) ≡ true) [
      | inl here ↦ or_left (p.node == n) (is_above nodes n p.node) (and_parts (p.node == n) (p.port == e) here).0
      | inr higher ↦ or_right (p.node == n) (is_above nodes n p.node) (rest higher)
    ])

-- it leaves each node above at one port
pub above_leaves : {nodes : List Node} → KnownTree nodes → (n i : ℕ) → is_above nodes n i ≡ true → (e : ℕ) × (leaves_at nodes n e i ≡ true)
above_leaves {nodes} known n =
    up_tree known (λ i. is_above nodes n i ≡ true → (e : ℕ) × (leaves_at nodes n e i ≡ true))
    (λ i none above. absurd (false≢true (sym (above_root known n i none) ∙ above)))
    (λ i p some rest above.
    elim (or_cases (p.node == n) (is_above nodes n p.node) (sym (above_step known n i p some) ∙ above)) [
      | inl here ↦
          let now : ((p.node == n) && (p.port == p.port)) ≡ true = and_from (p.node == n) (p.port == p.port) here (eq-eqb p.port p.port refl) in
          (p.port, leaves_step known n p.port i p some ∙ or_left ((p.node == n) && (p.port == p.port)) (leaves_at nodes n p.port p.node) now)
      | inr higher ↦
          let more = rest higher in
          (more.0, leaves_step known n more.0 i p some ∙ or_right ((p.node == n) && (p.port == more.0)) (leaves_at nodes n more.0 p.node) more.1)
    ])

here_not_above : {nodes : List Node} → KnownTree nodes → (n e m : ℕ) → (m == n) ≡ true → leaves_at nodes n e m ≡ true → ⊥
here_not_above known n e m here leaves =
    let same = eqb-true m n here in
    let lower = above_earlier known n m (leaves_above known n e m leaves) in
    omega arith

pub leaves_once : {nodes : List Node} → KnownTree nodes → (n e f i : ℕ) → leaves_at nodes n e i ≡ true → leaves_at nodes n f i ≡ true → e ≡ f
leaves_once {nodes} known n e f =
    up_tree known (λ i. leaves_at nodes n e i ≡ true → leaves_at nodes n f i ≡ true → e ≡ f)
    (λ i none one other. absurd (false≢true (sym (leaves_root known n e i none) ∙ one)))
    (λ i p some rest one other.
    elim (or_cases ((p.node == n) && (p.port == e)) (leaves_at nodes n e p.node) (sym (leaves_step known n e i p some) ∙ one)) [
      | inl here ↦
          let parts = and_parts (p.node == n) (p.port == e) here in
          elim (or_cases ((p.node == n) && (p.port == f)) (leaves_at nodes n f p.node) (sym (leaves_step known n f i p some) ∙ other)) [
            | inl there ↦ sym (eqb-true p.port e parts.1) ∙ eqb-true p.port f (and_parts (p.node == n) (p.port == f) there).1
            | inr higher ↦ absurd (here_not_above known n f p.node parts.0 higher)
          ]
      | inr higher ↦
          elim (or_cases ((p.node == n) && (p.port == f)) (leaves_at nodes n f p.node) (sym (leaves_step known n f i p some) ∙ other)) [
            | inl there ↦ absurd (here_not_above known n e p.node (and_parts (p.node == n) (p.port == f) there).0 higher)
            | inr both ↦ rest higher both
          ]
    ])

-- ---- ports and endpoints

pub port_no_endpoint : (nodes : List Node) (n : ℕ) → is_port_at nodes n ≡ true → is_endpoint_at nodes n ≡ false
port_no_endpoint nodes n port = go (slice_get nodes n) port
  where
    go : (o : Option Node) → option_map_or (λ node. not (is_endpoint node.kind)) o false ≡ true → option_map_or (λ node. is_endpoint node.kind) o false ≡ false
    go None h = refl
    go (Some node) h = not-true (is_endpoint node.kind) h

-- a node that forwards is no endpoint, and the parent of its only child
pub only_child : {nodes : List Node} → KnownTree nodes → (n c : ℕ) → forwards_at nodes n ≡ true → least_child_of nodes n ≡ Some c → (own : Parent) × (parent_of nodes c ≡ Some own) × (own.node ≡ n)
only_child {nodes} known n c forwards first = go (parent_of nodes c) refl ((known.laws.only_children n c forwards).0 first)
  where
    go : (o : Option Parent) → parent_of nodes c ≡ o → option_map (λ parent. parent.node) o ≡ Some n → (own : Parent) × (parent_of nodes c ≡ Some own) × (own.node ≡ n)
    go None at is = absurd (none-some n is)
    go (Some own) at is = (own, at, same_Some own.node n is)

pub forwards_no_endpoint : {nodes : List Node} → KnownTree nodes → (n : ℕ) → forwards_at nodes n ≡ true → is_endpoint_at nodes n ≡ false
forwards_no_endpoint {nodes} known n forwards = go (slice_get nodes n) refl forwards
  where
    go : (o : Option Node) → slice_get nodes n ≡ o → option_map_or (λ node. node.forwards) o false ≡ true → option_map_or (λ node. is_endpoint node.kind) o false ≡ false
    go None at is = refl
    go (Some node) at is = (known.tree.placeholders n node at is).1

pub forwards_within : (nodes : List Node) (n : ℕ) → length nodes ≤ n → forwards_at nodes n ≡ false
forwards_within nodes n past = ap (λ (o : Option Node). option_map_or (λ node. node.forwards) o false) (slice_get_past nodes n past)

pub endpoint_within : (nodes : List Node) (m : ℕ) → is_endpoint_at nodes m ≡ true → m < length nodes
endpoint_within nodes m is =
    elim (cases_lt m (length nodes)) [
      | inl within ↦ within
      | inr past ↦ absurd (false≢true (sym (ap (λ (o : Option Node). option_map_or (λ node. is_endpoint node.kind) o false) (slice_get_past nodes m past)) ∙ is))
    ]

pub inside_port : (nodes : List Node) (n : ℕ) → n < length nodes → is_endpoint_at nodes n ≡ false → is_port_at nodes n ≡ true
inside_port [] n below is = absurd (omega arith)
inside_port (x ∷ xs) zero below is = ap not is
inside_port (x ∷ xs) (suc n) below is = inside_port xs n (omega arith) is

pub same_port : (p : Parent) (n e : ℕ) → p.node ≡ n → p.port ≡ e → p ≡ record { node = n; port = e }
same_port p n e node port = λ k. record { node = node k; port = port k }

-- ---- the bridge on a path

-- the first node of a path
abbrev pub root_of : List Node → ℕ → Option ℕ
root_of nodes i = slice_get (path_of nodes i) 0

pub root_root : {nodes : List Node} → KnownTree nodes → (i : ℕ) → parent_of nodes i ≡ None → root_of nodes i ≡ Some i
root_root {nodes} known i none = ap (λ (ps : List Parent). slice_get (reverse (i ∷ map (λ parent. parent.node) ps)) 0) (ports_none known i none)

pub root_step : {nodes : List Node} → KnownTree nodes → (i : ℕ) (p : Parent) → parent_of nodes i ≡ Some p → root_of nodes i ≡ root_of nodes p.node
root_step {nodes} known i p some =
    ap (λ (ps : List Parent). slice_get (reverse (i ∷ map (λ parent. parent.node) ps)) 0) (ports_some known i p some)
    ∙ ap (λ (ns : List ℕ). slice_get ns 0) (reverse-append (i ∷ []) rest)
    ∙ first-append (reverse rest) (reverse (i ∷ [])) (subst (λ (k : ℕ). 0 < k) (sym (length-reverse rest)) (omega arith))
  where
    rest : List ℕ
    rest = p.node ∷ map (λ parent. parent.node) (ports_above nodes p.node)

uid_of_bridge : (kind : NodeKind) (uid : ℕ) → uid_of kind ≡ Some uid → is_bridge kind ≡ true
uid_of_bridge (Bridge own) uid is = refl
uid_of_bridge Switch uid is = absurd (none-some uid is)
uid_of_bridge (Endpoint capacity) uid is = absurd (none-some uid is)

-- a node with a UID is a bridge, and has no parent
pub uid_top : {nodes : List Node} → KnownTree nodes → (b uid : ℕ) → uid_at nodes b ≡ Some uid → (is_bridge_at nodes b ≡ true) × (parent_of nodes b ≡ None)
uid_top {nodes} known b uid is =
    let bridge = go (slice_get nodes b) is in
    (bridge, known.tree.bridges b bridge)
  where
    go : (o : Option Node) → option_and_then (λ node. uid_of node.kind) o ≡ Some uid → option_map_or (λ node. is_bridge node.kind) o false ≡ true
    go None none = absurd (none-some uid none)
    go (Some node) some = uid_of_bridge node.kind uid some

-- ---- the port above that decodes

pub decoding_none : {nodes : List Node} → KnownTree nodes → (i : ℕ) → parent_of nodes i ≡ None → decoding_port_of nodes i ≡ None
decoding_none {nodes} known i none = ap (find (λ parent. not (forwards_at nodes parent.node))) (ports_none known i none)

pub decoding_here : {nodes : List Node} → KnownTree nodes → (i : ℕ) (p : Parent) → parent_of nodes i ≡ Some p → forwards_at nodes p.node ≡ false → decoding_port_of nodes i ≡ Some p
decoding_here {nodes} known i p some own =
    ap (find (λ parent. not (forwards_at nodes parent.node))) (ports_some known i p some) ∙ ap (λ b. cond (not b) (Some p) (decoding_port_of nodes p.node)) own

pub decoding_past : {nodes : List Node} → KnownTree nodes → (i : ℕ) (p : Parent) → parent_of nodes i ≡ Some p → forwards_at nodes p.node ≡ true
    → decoding_port_of nodes i ≡ decoding_port_of nodes p.node
decoding_past {nodes} known i p some forwards =
    ap (find (λ parent. not (forwards_at nodes parent.node))) (ports_some known i p some) ∙ ap (λ b. cond (not b) (Some p) (decoding_port_of nodes p.node)) forwards
