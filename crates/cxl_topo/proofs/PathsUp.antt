-- Paths up in nodes with nothing wrong up to one of them.
use Rattle.std.proofs.Common.{◌≡◌, ℕ, zero, suc, ◌+◌, ◌<◌, ◌≤◌, Bool, true, false, cond, not, List, [], ◌∷◌, ◌++◌, length, take, map, reverse, Option, Some, None, is_some, refl, sym, ap, ◌∙◌, inl, inr, arith}
use Rattle.std.specs.Prelude.{slice_get, count_by, slice_get}
use Rattle.std.specs.Option.{option_map_or, option_and_then}
use Rattle.std.proofs.lemmas.Bool.{cases_Bool, false≢true, not-false, not-true}
use Rattle.std.proofs.lemmas.List.{reverse-append, length-map, length-reverse}
use Rattle.std.proofs.lemmas.List.Sums.{sum_by-cons}
use Rattle.std.proofs.Math.Numerals.{one-add}
use Rattle.std.proofs.lemmas.Option.{none-some}
use Rattle.cxl_topo.specs.declared.node.Node.{Node}
use Rattle.cxl_topo.specs.declared.node.Parent.{Parent}
use Rattle.cxl_topo.specs.declared.node.NodeKind.{NodeKind}
use Rattle.cxl_topo.specs.declared.node.NodeKind.TheVariants.{Bridge, Switch, Endpoint}
use Rattle.cxl_topo.specs.Kinds.{is_bridge, is_switch, is_endpoint}
use Rattle.cxl_topo.specs.Tree.{holds_at, is_switch_at, is_port_at, parent_of, ports_up, ports_above, path_of}
use Rattle.cxl_topo.specs.Faults.{lacks_parent, switches_above, IsUnder}

-- what holds of an earlier node is said of an earlier one
pub holds_at-take : (nodes : List Node) (k i : ℕ) (test : Node → Bool) → holds_at (take k nodes) i test ≡ true → (i < k) × (holds_at nodes i test ≡ true)
holds_at-take nodes zero i test h = absurd (false≢true h)
holds_at-take [] (suc k) i test h = absurd (false≢true h)
holds_at-take (node ∷ nodes) (suc k) zero test h = (omega arith, h)
holds_at-take (node ∷ nodes) (suc k) (suc i) test h = let more = holds_at-take nodes k i test h in (omega arith, more.1)

-- ---- the parent of a node that does not lack one

some_is : {A : Type 0} (x y : A) → ◌≡◌ {A = Option A} (Some x) (Some y) → x ≡ y
some_is x y e = cc

under : (nodes : List Node) (i : ℕ) (node : Node) (parent : Parent) → lacks_parent (take i nodes) node ≡ false → node.parent ≡ Some parent → (is_bridge node.kind ≡ false) × IsUnder nodes i parent
under nodes i node parent sound is = go (is_bridge node.kind) refl (rw is at sound)
  where
    go : (b : Bool) → b ≡ is_bridge node.kind → cond b true (not (is_port_at (take i nodes) parent.node)) ≡ false → (is_bridge node.kind ≡ false) × IsUnder nodes i parent
    go true e h = absurd (false≢true (sym h))
    go false e h =
        let earlier = holds_at-take nodes i parent.node (λ node. not (is_endpoint node.kind)) (not-false _ h) in
        (sym e, record { earlier = earlier.0; port = earlier.1 })

-- what a node's parent is, in nodes that lack none
pub parent_under : (nodes : List Node) (i : ℕ) (parent : Parent) → holds_at nodes i (lacks_parent (take i nodes)) ≡ false → parent_of nodes i ≡ Some parent → (holds_at nodes i (λ node. is_bridge node.kind) ≡ false) × IsUnder nodes i parent
parent_under nodes i parent sound is = go (slice_get nodes i) refl
  where
    go : (o : Option Node) → slice_get nodes i ≡ o → (holds_at nodes i (λ node. is_bridge node.kind) ≡ false) × IsUnder nodes i parent
    go None e = absurd (none-some parent (sym (ap (option_and_then (λ (node : Node). node.parent)) e) ∙ is))
    go (Some node) e =
        let one = under nodes i node parent (rw e at sound) (rw e at is) in
        (rw e one.0, one.1)

-- a bridge has no parent
pub bridge_has_none : (nodes : List Node) (i : ℕ) → holds_at nodes i (lacks_parent (take i nodes)) ≡ false → holds_at nodes i (λ node. is_bridge node.kind) ≡ true → parent_of nodes i ≡ None
bridge_has_none nodes i sound bridge = go (slice_get nodes i) refl
  where
    is_none_of : (o : Option Parent) → is_some o ≡ false → o ≡ None
    is_none_of None h = refl
    is_none_of (Some parent) h = absurd (false≢true (sym h))

    go : (o : Option Node) → slice_get nodes i ≡ o → parent_of nodes i ≡ None
    go None e = rw e
    go (Some node) e =
        let no_bridge : is_bridge node.kind ≡ true = rw e at bridge in
        let lacks : lacks_parent (take i nodes) node ≡ false = rw e at sound in
        rw e (is_none_of node.parent (rw no_bridge at lacks))

-- another node has one
pub other_has_one : (nodes : List Node) (i : ℕ) → holds_at nodes i (lacks_parent (take i nodes)) ≡ false → holds_at nodes i (λ node. not (is_bridge node.kind)) ≡ true → (parent : Parent) × (parent_of nodes i ≡ Some parent)
other_has_one nodes i sound other = go (slice_get nodes i) refl
  where
    find_one : (o : Option Parent) (test : Parent → Bool) → not (option_map_or test o false) ≡ false → (parent : Parent) × (o ≡ Some parent)
    find_one None test h = absurd (false≢true (sym h))
    find_one (Some parent) test h = (parent, refl)

    go : (o : Option Node) → slice_get nodes i ≡ o → (parent : Parent) × (parent_of nodes i ≡ Some parent)
    go None e = absurd (false≢true (rw e at other))
    go (Some node) e =
        let no_bridge : is_bridge node.kind ≡ false = not-true _ (rw e at other) in
        let lacks : lacks_parent (take i nodes) node ≡ false = rw e at sound in
        rw e (find_one node.parent (λ parent. is_port_at (take i nodes) parent.node) (rw no_bridge at lacks))

-- ---- paths up

-- the ports from this one up, and the nodes down to this one
abbrev pub ports_from : List Node → Option Parent → List Parent
ports_from nodes None = []
ports_from nodes (Some parent) = parent ∷ ports_above nodes parent.node

abbrev pub path_from : List Node → Option Parent → List ℕ
path_from nodes None = []
path_from nodes (Some parent) = path_of nodes parent.node

-- one more than the node of the port, which falls on the way up
abbrev pub height_of : Option Parent → ℕ
height_of None = 0
height_of (Some parent) = suc parent.node

module _ (nodes : List Node) (top : ℕ) (sound : (k : ℕ) → k ≤ top → holds_at nodes k (lacks_parent (take k nodes)) ≡ false) where
  pub height_falls : (i : ℕ) → i ≤ top → height_of (parent_of nodes i) ≤ i
  height_falls i le = go (parent_of nodes i) refl
    where
      go : (o : Option Parent) → parent_of nodes i ≡ o → height_of o ≤ i
      go None e = omega arith
      go (Some parent) e = (parent_under nodes i parent (sound i le) e).1.earlier

  enough : (f g : ℕ) (o : Option Parent) → height_of o ≤ top + 1 → height_of o ≤ f → height_of o ≤ g → ports_up f nodes o ≡ ports_up g nodes o
  enough zero zero None le hf hg = refl
  enough zero (suc g) None le hf hg = refl
  enough (suc f) zero None le hf hg = refl
  enough (suc f) (suc g) None le hf hg = refl
  enough zero g (Some parent) le hf hg = absurd (omega arith)
  enough (suc f) zero (Some parent) le hf hg = absurd (omega arith)
  enough (suc f) (suc g) (Some parent) le hf hg =
      let falls = height_falls parent.node (omega arith) in
      ap (λ (ports : List Parent). parent ∷ ports) (enough f g (parent_of nodes parent.node) (omega arith) (omega arith) (omega arith))

  -- the ports above a node are its parent's port and those above it
  pub ports_above-more : (i : ℕ) → i ≤ top → ports_above nodes i ≡ ports_from nodes (parent_of nodes i)
  ports_above-more i le = go (parent_of nodes i) (height_falls i le) i (omega arith)
    where
      go : (o : Option Parent) → height_of o ≤ i → (n : ℕ) → n ≡ i → ports_up n nodes o ≡ ports_from nodes o
      go None falls zero e = refl
      go None falls (suc n) e = refl
      go (Some parent) falls zero e = absurd (omega arith)
      go (Some parent) falls (suc n) e =
          let again = height_falls parent.node (omega arith) in
          ap (λ (ports : List Parent). parent ∷ ports) (enough n parent.node (parent_of nodes parent.node) (omega arith) (omega arith) again)

  -- the path of a node is that of its parent and the node itself
  pub path_of-more : (i : ℕ) → i ≤ top → path_of nodes i ≡ path_from nodes (parent_of nodes i) ++ i ∷ []
  path_of-more i le = ap (λ (ports : List Parent). reverse (i ∷ map (λ (p : Parent). p.node) ports)) (ports_above-more i le) ∙ go (parent_of nodes i)
    where
      go : (o : Option Parent) → reverse (i ∷ map (λ (p : Parent). p.node) (ports_from nodes o)) ≡ path_from nodes o ++ i ∷ []
      go None = refl
      go (Some parent) = reverse-append (i ∷ []) (parent.node ∷ map (λ (p : Parent). p.node) (ports_above nodes parent.node))

  pub length-path_of : (i : ℕ) → length (path_of nodes i) ≡ suc (length (ports_above nodes i))
  length-path_of i = length-reverse (i ∷ map (λ (p : Parent). p.node) (ports_above nodes i)) ∙ ap suc (length-map (ports_above nodes i) (λ (p : Parent). p.node))

  -- what stands above is a switch or a bridge
  bridge_or_switch : (n : ℕ) → is_port_at nodes n ≡ true → is_switch_at nodes n ≡ false → holds_at nodes n (λ node. is_bridge node.kind) ≡ true
  bridge_or_switch n port other = go (slice_get nodes n) port other
    where
      by_kind : (kind : NodeKind) → not (is_endpoint kind) ≡ true → is_switch kind ≡ false → is_bridge kind ≡ true
      by_kind (Bridge uid) p s = refl
      by_kind Switch p s = absurd (false≢true (sym s))
      by_kind (Endpoint capacity) p s = absurd (false≢true p)

      go : (o : Option Node) → option_map_or (λ (node : Node). not (is_endpoint node.kind)) o false ≡ true → option_map_or (λ (node : Node). is_switch node.kind) o false ≡ false → option_map_or (λ (node : Node). is_bridge node.kind) o false ≡ true
      go None p s = absurd (false≢true p)
      go (Some node) p s = by_kind node.kind p s

  switch_is_other : (n : ℕ) → is_switch_at nodes n ≡ true → holds_at nodes n (λ node. not (is_bridge node.kind)) ≡ true
  switch_is_other n h = go (slice_get nodes n) h
    where
      by_kind : (kind : NodeKind) → is_switch kind ≡ true → not (is_bridge kind) ≡ true
      by_kind (Bridge uid) s = absurd (false≢true s)
      by_kind Switch s = refl
      by_kind (Endpoint capacity) s = refl

      go : (o : Option Node) → option_map_or (λ (node : Node). is_switch node.kind) o false ≡ true → option_map_or (λ (node : Node). not (is_bridge node.kind)) o false ≡ true
      go None s = absurd (false≢true s)
      go (Some node) s = by_kind node.kind s

  -- one more switch above, where the parent is one
  switches_above-more : (i : ℕ) (parent : Parent) → i ≤ top → parent_of nodes i ≡ Some parent → switches_above nodes i ≡ cond (is_switch_at nodes parent.node) 1 0 + switches_above nodes parent.node
  switches_above-more i parent le is = ap (count_by (λ (p : Parent). is_switch_at nodes p.node)) (ports_above-more i le ∙ ap (ports_from nodes) is) ∙ sum_by-cons (λ (p : Parent). cond (is_switch_at nodes p.node) 1 0) parent (ports_above nodes parent.node)

  -- the ports above a node are those of the switches above it, and the bridge's
  pub length-ports_above : (n i : ℕ) (parent : Parent) → i < n → i ≤ top → parent_of nodes i ≡ Some parent → length (ports_above nodes i) ≡ suc (switches_above nodes i)
  length-ports_above zero i parent lt le is = absurd (omega arith)
  length-ports_above (suc n) i parent lt le is =
      let up = (parent_under nodes i parent (sound i le) is).1 in
      let earlier = up.earlier in
      let longer : length (ports_above nodes i) ≡ suc (length (ports_above nodes parent.node)) = ap length (ports_above-more i le ∙ ap (ports_from nodes) is) in
      let more = switches_above-more i parent le is in
      elim (cases_Bool (is_switch_at nodes parent.node)) [
        | inl s ↦
            let next = other_has_one nodes parent.node (sound parent.node (omega arith)) (switch_is_other parent.node s) in
            let again = length-ports_above n parent.node next.0 (omega arith) (omega arith) next.1 in
            longer ∙ ap suc (again ∙ sym (more ∙ rw s (one-add (switches_above nodes parent.node))))
        | inr s ↦
            let none = bridge_has_none nodes parent.node (sound parent.node (omega arith)) (bridge_or_switch parent.node up.port s) in
            let nothing : ports_above nodes parent.node ≡ [] = ports_above-more parent.node (omega arith) ∙ ap (ports_from nodes) none in
            longer ∙ ap (λ (ports : List Parent). suc (length ports)) nothing ∙ ap suc (sym (more ∙ rw (s, nothing)))
      ]

  -- at most four switches and a bridge stand above a node, where no switch has four switches above it
  pub ports_above-few : (i : ℕ) → i ≤ top → ((k : ℕ) → k < i → is_switch_at nodes k ≡ true → switches_above nodes k < 4) → length (ports_above nodes i) ≤ 5
  ports_above-few i le shallow = go (parent_of nodes i) refl
    where
      go : (o : Option Parent) → parent_of nodes i ≡ o → length (ports_above nodes i) ≤ 5
      go None e = let nothing = ap length (ports_above-more i le ∙ ap (ports_from nodes) e) in omega arith
      go (Some parent) e =
          let up = (parent_under nodes i parent (sound i le) e).1 in
          let long = length-ports_above (suc i) i parent (omega arith) le e in
          let more = switches_above-more i parent le e in
          elim (cases_Bool (is_switch_at nodes parent.node)) [
            | inl s ↦ let few = shallow parent.node up.earlier s in let one : switches_above nodes i ≡ 1 + switches_above nodes parent.node = more ∙ rw s in omega arith
            | inr s ↦
                let none = bridge_has_none nodes parent.node (sound parent.node (omega (arith, up.earlier))) (bridge_or_switch parent.node up.port s) in
                let nothing : ports_above nodes parent.node ≡ [] = ports_above-more parent.node (omega (arith, up.earlier)) ∙ ap (ports_from nodes) none in
                let zero_more : switches_above nodes i ≡ 0 = more ∙ rw (s, nothing) in
                omega arith
          ]
