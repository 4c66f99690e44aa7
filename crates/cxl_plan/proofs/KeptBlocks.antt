-- What is known of an endpoint's node.
use Rattle.std.proofs.Common.{◌≡◌, ℕ, ◌+◌, ◌%◌, ◌^◌, ◌<◌, ◌≤◌, ◌&&◌, true, false, length, Option, Some, None, refl, ◌∙◌, arith}
use Rattle.std.specs.Prelude.{slice_get, ◌==◌}
use Rattle.std.specs.Option.{option_map_or, option_and_then}
use Rattle.std.proofs.lemmas.Bool.{and_parts, leb-true, false≢true}
use Rattle.std.proofs.lemmas.Option.{slice_get_within}
use Rattle.cxl_topo.specs.declared.node.Node.{Node}
use Rattle.cxl_enc.specs.Limits.{address_limit}
use Rattle.cxl_topo.specs.declared.node.Capacity.{Capacity}
use Rattle.cxl_topo.specs.Kinds.{is_endpoint, capacity_of}
use Rattle.cxl_topo.specs.Tree.{is_endpoint_at}
use Rattle.cxl_regs.specs.Registers.{Registers}
use Rattle.cxl_model.specs.System.{System, ram_at, pmem_at}
use Rattle.cxl_model.specs.declared.request.Request.{Request}
use Rattle.cxl_plan.specs.inner.Judging.{AsksOrderlySystem}

module _ (s : System) (request : Request) (ready : AsksOrderlySystem s request) where
  endpoint_node : (n : ℕ) → is_endpoint_at s.nodes n ≡ true → (node : Node) × (slice_get s.nodes n ≡ Some node) × (is_endpoint node.kind ≡ true)
  endpoint_node n endpoint = go (slice_get s.nodes n) refl endpoint
    where
      go : (o : Option Node) → slice_get s.nodes n ≡ o → option_map_or (λ node. is_endpoint node.kind) o false ≡ true → (node : Node) × (slice_get s.nodes n ≡ Some node) × (is_endpoint node.kind ≡ true)
      go None e h = absurd (false≢true h)
      go (Some node) e h = (node, e, h)

  -- a block of an endpoint is an endpoint's
  pub endpoint_at : (n : ℕ) (block : Registers) → is_endpoint_at s.nodes n ≡ true → slice_get s.blocks n ≡ Some block → block.endpoint ≡ true
  endpoint_at n block endpoint here =
      let node = endpoint_node n endpoint in
      (ready.system.caps.each n block node.0 here node.1).endpoint ∙ node.2

  pub node_inside : (n : ℕ) → is_endpoint_at s.nodes n ≡ true → n < length s.blocks
  node_inside n endpoint =
      let node = endpoint_node n endpoint in
      let count = ready.system.caps.count in
      let within = slice_get_within s.nodes n node.0 node.1 in
      omega arith

  pub capacity_few : (n : ℕ) → ram_at s n + pmem_at s n ≤ address_limit
  capacity_few n = go (slice_get s.nodes n) refl
    where
      of_kind : (node : Node) → slice_get s.nodes n ≡ Some node → (o : Option Capacity) → capacity_of node.kind ≡ o
          → option_map_or (λ (c : Capacity). c.ram) o 0 + option_map_or (λ (c : Capacity). c.pmem) o 0 ≤ address_limit
      of_kind node here None e = omega arith
      of_kind node here (Some c) e =
          leb-true (c.ram + c.pmem) (2 ^ 52) (and_parts ((c.ram % 2 ^ 28 == 0) && (c.pmem % 2 ^ 28 == 0)) _ (ready.system.tree.capacities n node c here e)).1

      go : (o : Option Node) → slice_get s.nodes n ≡ o
          → option_map_or (λ (c : Capacity). c.ram) (option_and_then (λ (node : Node). capacity_of node.kind) o) 0
          + option_map_or (λ (c : Capacity). c.pmem) (option_and_then (λ (node : Node). capacity_of node.kind) o) 0
          ≤ address_limit
      go None e = omega arith
      go (Some node) e = of_kind node e (capacity_of node.kind) refl
