-- Where blocks begin, and that none ends past the longest file.
use Rattle.std.proofs.Common.{◌≡◌, ℕ, ◌+◌, ◌/◌, ◌%◌, ◌<◌, ◌≤◌, Bool, IsTrue, leb, ltb, eqb, ◌&&◌, List, length, take, get_or, sum_by, Some, ap, inl, inr, arith}
use Rattle.std.proofs.lemmas.List.{take-take, take_all}
use Rattle.std.proofs.lemmas.Bool.{and_parts, leb-true, ne_eqb, cases_eq}
use Rattle.std.proofs.lemmas.List.Sums.{sum_by_more, sum_by-take-le, sum_by-le}
use Rattle.std.proofs.lemmas.Option.{slice_get_within, slice_get-get_or, get_or_from_slice_get}
use Rattle.std.specs.Prelude.{slice_get, All}
use Rattle.cxl_enc.specs.Caps.{is_legal_cap, has_named_bits, has_own_bits, decoders_code, decoders_of}
use Rattle.cxl_topo.specs.declared.node.Node.{Node}
use Rattle.cxl_topo.specs.Kinds.{is_endpoint}
use Rattle.cxl_topo.specs.Faults.{IsTree}
use Rattle.cxl_image.specs.Fields.{block_size, start_of, end_of, image_limit}

-- the next block begins where one ends
pub start_next : (nodes : List Node) (i : ℕ) (node : Node) → slice_get nodes i ≡ Some node → start_of nodes (i + 1) ≡ start_of nodes i + block_size node
start_next nodes i node here =
    let more = sum_by_more block_size nodes i node (slice_get_within nodes i node here) in
    let size : block_size (get_or nodes i node) ≡ block_size node = ap block_size (get_or_from_slice_get nodes i node node here) in
    omega (arith, more, size)

pub start_le : (nodes : List Node) (i j : ℕ) → i ≤ j → start_of nodes i ≤ start_of nodes j
start_le nodes i j le =
    let within : sum_by block_size (take i (take j nodes)) ≤ sum_by block_size (take j nodes) = sum_by-take-le block_size (take j nodes) i in
    let same : sum_by block_size (take i (take j nodes)) ≡ sum_by block_size (take i nodes) = ap (sum_by block_size) (take-take i j nodes le) in
    omega (arith, within, same)

-- an earlier block ends where a later one begins, or before
pub start_before : (nodes : List Node) (i j : ℕ) (node : Node) → slice_get nodes i ≡ Some node → i < j → start_of nodes i + block_size node ≤ start_of nodes j
start_before nodes i j node here lt =
    let next = start_next nodes i node here in
    let le = start_le nodes (i + 1) j (omega arith) in
    omega (arith, next, le)

-- each block ends where the last does, or before
pub ends_within : (nodes : List Node) (i : ℕ) (node : Node) → slice_get nodes i ≡ Some node → start_of nodes i + block_size node ≤ end_of nodes
ends_within nodes i node here = start_before nodes i (length nodes) node here (slice_get_within nodes i node here)

some_decoders : (code : ℕ) → 1 ≤ decoders_of code
some_decoders code = elim (cases_eq code 0) [
  | inl none ↦ rw none (omega arith)
  | inr other ↦ rw (ne_eqb code 0 other) (omega arith)
]

-- a block has 48 bytes at least
pub block_long : (node : Node) → 48 ≤ block_size node
block_long node = omega (arith, some_decoders (decoders_code node.cap))

-- ---- and few

-- a block has ten decoders at the most
pub few_decoders : (cap : ℕ) (endpoint : Bool) → IsTrue (is_legal_cap cap endpoint) → decoders_of (decoders_code cap) ≤ 10
few_decoders cap endpoint legal =
    let named = (and_parts (has_named_bits cap) (has_own_bits cap endpoint) legal).0 in
    let code = and_parts (leb (decoders_code cap) 5 && eqb (cap / 1024 % 2) 0) (ltb cap 8192) named in
    let small = leb-true (decoders_code cap) 5 (and_parts (leb (decoders_code cap) 5) (eqb (cap / 1024 % 2) 0) code.0).0 in
    go (decoders_code cap) small
  where
    go : (code : ℕ) → code ≤ 5 → decoders_of code ≤ 10
    go code small = elim (cases_eq code 0) [
      | inl none ↦ rw none (omega arith)
      | inr other ↦ rw (ne_eqb code 0 other) (omega arith)
    ]

module _ (nodes : List Node) (tree : IsTree nodes) where
  -- a topology's blocks end within the longest file
  pub end_few : end_of nodes ≤ image_limit
  end_few =
      let each : All (λ node. block_size node ≤ 336) nodes = λ k d lt.
      let few = few_decoders (get_or nodes k d).cap (is_endpoint (get_or nodes k d).kind) (tree.caps k (get_or nodes k d) (slice_get-get_or nodes k d lt)) in omega arith in
      let sum = sum_by-le block_size 336 nodes each in
      let all : sum_by block_size (take (length nodes) nodes) ≡ sum_by block_size nodes = ap (sum_by block_size) (take_all (length nodes) nodes (omega arith)) in
      let few = tree.few_nodes in
      omega (arith, sum, all)

  -- and so does the block of each node
  pub place_few : (i : ℕ) (node : Node) → slice_get nodes i ≡ Some node → start_of nodes i + block_size node ≤ image_limit
  place_few i node here =
      let within = ends_within nodes i node here in
      let few = end_few in
      omega arith
