-- What K1 to K8 give of one node.
use Rattle.std.proofs.Common.{◌≡◌, ℕ, ◌+◌, ◌%◌, ◌^◌, ◌<◌, ◌≤◌, ◌&&◌, Bool, true, false, List, length, take, sum_by, Option, Some, None, refl, sym, ap, ◌∙◌, if◌then◌else◌, arith}
use Rattle.std.specs.Prelude.{slice_get, ◌==◌, nat_le}
use Rattle.std.specs.Option.{option_map_or, option_and_then}
use Rattle.std.proofs.lemmas.Bool.{and_parts, leb-true, le-leb, lt-leb, false≢true}
use Rattle.std.proofs.lemmas.Option.{slice_get_within}
use Rattle.cxl_topo.specs.declared.node.Node.{Node}
use Rattle.cxl_enc.specs.Limits.{address_limit}
use Rattle.cxl_enc.specs.declared.caps.MemKind.TheVariants.{Ram, Pmem}
use Rattle.cxl_topo.specs.declared.node.Capacity.{Capacity}
use Rattle.cxl_topo.specs.Kinds.{is_endpoint, capacity_of}
use Rattle.cxl_topo.specs.Tree.{is_endpoint_at}
use Rattle.cxl_regs.specs.declared.decoder.Decoder.{Decoder}
use Rattle.cxl_regs.specs.Registers.{Registers}
use Rattle.cxl_regs.specs.declared.reading.Range.{Range}
use Rattle.cxl_regs.specs.Reading.{span_length}
use Rattle.cxl_span.specs.Spans.{span_step, span_start_of}
use Rattle.cxl_span.specs.Breaches.{BlockKeeps}
use Rattle.cxl_model.specs.System.{System, decoders_at, decoder_at, ram_at, pmem_at}
use Rattle.cxl_model.specs.Ranges.{span_kind}
use Rattle.cxl_model.specs.Accepted.{IsOrderlySystem}
use Rattle.cxl_model.proofs.RangeRules.{block_keeps}
use Rattle.cxl_model.proofs.RangeServers.{in_block}
use Rattle.cxl_model.proofs.SpansCommitted.{OneHolder}
use Rattle.cxl_check.specs.inner.Holders.{HasOneHolder}

-- what is said of the ends of spans
abbrev pub SpansEnd : Type 0
SpansEnd =
    (block : Registers) (ram pmem i : ℕ) (d : Decoder) → BlockKeeps block ram pmem → block.endpoint ≡ true → slice_get block.decoders i ≡ Some d → d.committed ≡ true
    → span_start_of block.decoders i + span_length d ≤ ram + pmem

-- the node of an endpoint, which is there
endpoint_there : (nodes : List Node) (n : ℕ) → is_endpoint_at nodes n ≡ true → (node : Node) × (slice_get nodes n ≡ Some node) × (is_endpoint node.kind ≡ true)
endpoint_there nodes n endpoint = go (slice_get nodes n) refl endpoint
  where
    go : (o : Option Node) → slice_get nodes n ≡ o → option_map_or (λ node. is_endpoint node.kind) o false ≡ true → (node : Node) × (slice_get nodes n ≡ Some node) × (is_endpoint node.kind ≡ true)
    go None e h = absurd (false≢true h)
    go (Some node) e h = (node, e, h)

-- of which kind the span of a committed decoder is, by where it ends
module _ (s : System) (n i end : ℕ) (d : Decoder) (there : decoder_at s n i ≡ Some d) (end_is : end ≡ span_start_of (decoders_at s n) i + span_length d) where
  kind_by : (b : Bool) → nat_le end (ram_at s n) ≡ b → span_kind s n i ≡ (if b then Ram else Pmem)
  kind_by b e =
      let start : ℕ = span_start_of (decoders_at s n) i in
      let length_is : option_map_or span_length (decoder_at s n i) 0 ≡ span_length d = rw there refl in
      let from : nat_le 0 start ≡ true = le-leb 0 start (omega arith) in
      let within : nat_le (start + span_length d) (ram_at s n) ≡ b = ap (λ (k : ℕ). nat_le k (ram_at s n)) (sym end_is) ∙ e in
      rw (length_is, from, within) refl

  pub ram_span : end ≤ ram_at s n → Ram ≡ span_kind s n i
  ram_span below = sym (kind_by true (le-leb end (ram_at s n) below))

  pub pmem_span : ram_at s n < end → Pmem ≡ span_kind s n i
  pmem_span above = sym (kind_by false (lt-leb end (ram_at s n) above))

-- where the span of a decoder starts, and what it and those before it skip and take
pub starts_behind : (s : System) (n i : ℕ) (d : Decoder) → decoder_at s n i ≡ Some d → span_start_of (decoders_at s n) i ≡ sum_by span_step (take i (decoders_at s n)) + d.tail
starts_behind s n i d there = rw there refl

module _ (s : System) (ready : IsOrderlySystem s) where
  -- a range is that of one decoder of a block at the most
  pub holder : OneHolder → (n : ℕ) (block : Registers) (r : Range) → slice_get s.blocks n ≡ Some block → HasOneHolder r block.decoders
  holder one n block r here = λ i j d e. one block (ram_at s n) (pmem_at s n) i j r d e (block_keeps s ready.blocks n block here)

  -- a block of an endpoint is an endpoint's
  pub endpoint_at : (n : ℕ) (block : Registers) → is_endpoint_at s.nodes n ≡ true → slice_get s.blocks n ≡ Some block → block.endpoint ≡ true
  endpoint_at n block endpoint here =
      let node = endpoint_there s.nodes n endpoint in
      (ready.system.caps.each n block node.0 here node.1).endpoint ∙ node.2

  pub node_inside : (n : ℕ) → is_endpoint_at s.nodes n ≡ true → n < length s.blocks
  node_inside n endpoint =
      let node = endpoint_there s.nodes n endpoint in
      let count = ready.system.caps.count in
      let within = slice_get_within s.nodes n node.0 node.1 in
      omega arith

  capacity_few : (n : ℕ) → ram_at s n + pmem_at s n ≤ address_limit
  capacity_few n = go (slice_get s.nodes n) refl
    where
      of_kind : (node : Node) → slice_get s.nodes n ≡ Some node → (o : Option Capacity) → capacity_of node.kind ≡ o
          → option_map_or (λ (c : Capacity). c.ram) o 0 + option_map_or (λ (c : Capacity). c.pmem) o 0 ≤ address_limit
      of_kind node here None e = omega arith
      of_kind node here (Some c) e =
          leb-true (c.ram + c.pmem) (2 ^ 52) (and_parts ((c.ram % 2 ^ 28 == 0) && (c.pmem % 2 ^ 28 == 0)) _ (ready.system.tree.capacities n node c here e)).1

      go : (o : Option Node) → slice_get s.nodes n ≡ o
          → option_map_or (λ (c : Capacity). c.ram) (option_and_then (λ (node : Node). capacity_of node.kind) o) 0
          + option_map_or (λ (c : Capacity). c.pmem) (option_and_then (λ (node : Node). capacity_of node.kind) o) 0
          ≤ address_limit
      go None e = omega arith
      go (Some node) e = of_kind node e (capacity_of node.kind) refl

  -- the span of a committed decoder of an endpoint ends where a device may end
  pub span_few : SpansEnd → (n i : ℕ) (block : Registers) (d : Decoder) → is_endpoint_at s.nodes n ≡ true → slice_get s.blocks n ≡ Some block → slice_get block.decoders i ≡ Some d → d.committed ≡ true
      → span_start_of block.decoders i + span_length d ≤ address_limit
  span_few ends n i block d endpoint here there committed =
      let inside = ends block (ram_at s n) (pmem_at s n) i d (block_keeps s ready.blocks n block here) (endpoint_at n block endpoint here) there committed in
      let few = capacity_few n in
      omega arith

  -- the same by the decoder alone
  pub span_ends : SpansEnd → (n i : ℕ) (d : Decoder) → is_endpoint_at s.nodes n ≡ true → decoder_at s n i ≡ Some d → d.committed ≡ true
      → span_start_of (decoders_at s n) i + span_length d ≤ address_limit
  span_ends ends n i d endpoint there committed =
      let own = in_block s n i d there in
      rw own.at (span_few ends n i own.block d endpoint own.at own.there committed)

  -- the span of a committed decoder of an endpoint without pmem lies in ram
  pub ram_only : SpansEnd → (n i end : ℕ) (d : Decoder) → is_endpoint_at s.nodes n ≡ true → decoder_at s n i ≡ Some d → d.committed ≡ true
      → end ≡ span_start_of (decoders_at s n) i + span_length d → pmem_at s n ≡ 0 → Ram ≡ span_kind s n i
  ram_only ends n i end d endpoint there committed end_is none =
      let own = in_block s n i d there in
      let inside = ends own.block (ram_at s n) (pmem_at s n) i d (block_keeps s ready.blocks n own.block own.at) (endpoint_at n own.block endpoint own.at) own.there committed in
      let start : span_start_of (decoders_at s n) i ≡ span_start_of own.block.decoders i = rw own.at refl in
      ram_span s n i end d there end_is (omega (arith, inside, none, end_is, start))
