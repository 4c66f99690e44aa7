-- Which node of a generated topology stands at a number.
use Rattle.std.proofs.Common.{◌≡◌, ℕ, ◌+◌, ◌-◌, ◌*◌, ◌<◌, inl, inr, List, length, get_or, Option, Some, None, refl, sym, ap, ◌∙◌, subst, arith}
use Rattle.std.specs.Prelude.{map, slice_get}
use Rattle.std.specs.List.{range_with_len}
use Rattle.std.specs.Option.{option_and_then}
use Rattle.std.proofs.lemmas.Bool.{cases_lt}
use Rattle.std.proofs.lemmas.List.{get_or_append_left, get_or-append_right, length-append}
use Rattle.std.proofs.lemmas.List.FromFn.{length-map-range_with_len, get_or-map-range_with_len}
use Rattle.std.proofs.lemmas.Option.{slice_get-get_or, slice_get_within, get_or_from_slice_get}
use Rattle.cxl_topo.specs.declared.node.Node.{Node}
use Rattle.cxl_gen.specs.Made.{made_bridge, made_endpoint, made_nodes}

module _ (n : ℕ) where
  abbrev bridges : List Node
  bridges = map made_bridge (range_with_len 0 (2 * n))

  abbrev endpoints : List Node
  endpoints = map made_endpoint (range_with_len 0 (4 * n))

  bridge_count : length bridges ≡ 2 * n
  bridge_count = length-map-range_with_len made_bridge 0 (2 * n)

  endpoint_count : length endpoints ≡ 4 * n
  endpoint_count = length-map-range_with_len made_endpoint 0 (4 * n)

  pub node_count : length (made_nodes n) ≡ 6 * n
  node_count = omega (arith, length-append bridges endpoints, bridge_count, endpoint_count)

  bridge_here : (i : ℕ) (d : Node) → i < 2 * n → get_or (made_nodes n) i d ≡ made_bridge i
  bridge_here i d low =
      let within : i < length bridges = omega (arith, bridge_count) in
      get_or_append_left bridges endpoints d i within ∙ get_or-map-range_with_len made_bridge 0 (2 * n) i i d low (omega arith)

  endpoint_here : (k : ℕ) (d : Node) → k < 4 * n → get_or (made_nodes n) (2 * n + k) d ≡ made_endpoint k
  endpoint_here k d low =
      let same : 2 * n + k - 2 * n ≡ k = omega arith in
      get_or-append_right bridges endpoints (2 * n) (2 * n + k) d bridge_count (omega arith) ∙ ap (λ (i : ℕ). get_or endpoints i d) same
      ∙ get_or-map-range_with_len made_endpoint 0 (4 * n) k k d low (omega arith)

  pub bridge_at : (i : ℕ) → i < 2 * n → slice_get (made_nodes n) i ≡ Some (made_bridge i)
  bridge_at i low =
      slice_get-get_or (made_nodes n) i (made_bridge i) (omega (arith, node_count)) ∙ ap (λ (node : Node). Some node) (bridge_here i (made_bridge i) low)

  -- what holds of each bridge and of each endpoint holds of each node
  pub each_node : (P : ℕ → Node → Type 0) → ((i : ℕ) → i < 2 * n → P i (made_bridge i)) → ((k : ℕ) → k < 4 * n → P (2 * n + k) (made_endpoint k))
      → (i : ℕ) (node : Node) → slice_get (made_nodes n) i ≡ Some node → P i node
  each_node P of_bridge of_endpoint i node there =
      let within = slice_get_within (made_nodes n) i node there in
      let is : get_or (made_nodes n) i node ≡ node = get_or_from_slice_get (made_nodes n) i node node there in
      elim (cases_lt i (2 * n)) [
        | inl low ↦ subst (P i) (sym (bridge_here i node low) ∙ is) (of_bridge i low)
        | inr high ↦
            let k = i - 2 * n in
            let fits : k < 4 * n = omega (arith, node_count) in
            let same : 2 * n + k ≡ i = omega arith in
            let here : made_endpoint k ≡ node = sym (endpoint_here k node fits) ∙ ap (λ (j : ℕ). get_or (made_nodes n) j node) same ∙ is in
            subst (λ (j : ℕ). P j node) same (subst (P (2 * n + k)) here (of_endpoint k fits))
      ]

  -- where something is told of a node, the node is there
  pub told_of : {A : Type 0} (f : Node → Option A) (o : Option Node) (a : A) → option_and_then f o ≡ Some a → (node : Node) × (o ≡ Some node) × (f node ≡ Some a)
  told_of f (Some node) a e = (node, refl, e)
  told_of f None a e = absurd cc
