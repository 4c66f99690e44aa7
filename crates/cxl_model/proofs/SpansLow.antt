-- A span ends below the limit of device addresses.
use Rattle.std.proofs.Common.{◌≡◌, ℕ, ◌+◌, ◌%◌, ◌^◌, ◌≤◌, true, Option, Some, None, refl, arith}
use Rattle.std.specs.Prelude.{slice_get, nat_le, ◌==◌, ◌&&◌, IsTrue}
use Rattle.std.specs.Option.{option_map_or, option_and_then}
use Rattle.std.proofs.lemmas.Bool.{and_parts, leb-true}
use Rattle.cxl_enc.specs.declared.caps.MemKind.{MemKind}
use Rattle.cxl_enc.specs.Limits.{address_limit}
use Rattle.cxl_topo.specs.declared.node.Node.{Node}
use Rattle.cxl_topo.specs.declared.node.Capacity.{Capacity}
use Rattle.cxl_topo.specs.Kinds.{capacity_of}
use Rattle.cxl_topo.specs.Faults.{IsTree, is_capacity}
use Rattle.cxl_span.specs.Partitions.{partition_start, partition_end, lies_in}
use Rattle.cxl_span.proofs.Ends.{partition_ends}
use Rattle.cxl_model.specs.System.{System, capacity_at, ram_at, pmem_at}

device_bytes : (o : Option Capacity) → ((cap : Capacity) → o ≡ Some cap → IsTrue (is_capacity cap)) → option_map_or (λ c. c.ram) o 0 + option_map_or (λ c. c.pmem) o 0 ≤ 2 ^ 52
device_bytes None each = omega arith
device_bytes (Some cap) each =
    leb-true (cap.ram + cap.pmem) (2 ^ 52) (and_parts ((cap.ram % 2 ^ 28 == 0) && (cap.pmem % 2 ^ 28 == 0)) (nat_le (cap.ram + cap.pmem) (2 ^ 52)) (each cap refl)).1

pub device_low : (s : System) (n : ℕ) → IsTree s.nodes → ram_at s n + pmem_at s n ≤ 2 ^ 52
device_low s n tree = device_bytes (capacity_at s n) (λ cap is. of_node (slice_get s.nodes n) refl cap is)
  where
    of_node : (o : Option Node) → slice_get s.nodes n ≡ o → (cap : Capacity) → option_and_then (λ node. capacity_of node.kind) o ≡ Some cap → IsTrue (is_capacity cap)
    of_node None e cap is = cc
    of_node (Some node) e cap is = tree.capacities n node cap e is

pub span_ends_low : (s : System) (kind : MemKind) (n start len : ℕ) → IsTree s.nodes → lies_in kind (ram_at s n) (pmem_at s n) start len ≡ true → start + len ≤ address_limit
span_ends_low s kind n start len tree inside =
    let last : ℕ = partition_end kind (ram_at s n) (pmem_at s n) in
    let ends : start + len ≤ last = leb-true (start + len) last (and_parts (nat_le (partition_start kind (ram_at s n)) start) (nat_le (start + len) last) inside).1 in
    omega (arith, ends, partition_ends kind (ram_at s n) (pmem_at s n), device_low s n tree)
