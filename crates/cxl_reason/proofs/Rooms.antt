-- Whether there is room is whether a span can be allotted.
use Rattle.std.proofs.Common.{◌≡◌, ℕ, ◌+◌, ◌≤◌, Bool, true, false, max, Ok, Err, Option, Some, None, refl, sym, ◌∙◌, arith}
use Rattle.std.specs.Prelude.{nat_le, List, slice_get}
use Rattle.std.specs.Option.{option_map_or}
use Rattle.cxl_topo.specs.declared.node.Node.{Node}
use Rattle.cxl_topo.specs.Kinds.{is_endpoint}
use Rattle.cxl_topo.specs.Tree.{is_endpoint_at}
use Rattle.cxl_regs.specs.Registers.{Registers}
use Rattle.cxl_model.specs.System.{System}
use Rattle.cxl_model.specs.Accepted.{IsOrderlySystem}
use Rattle.std.proofs.lemmas.Bool.{and_parts, leb-true, le-leb, false≢true, false_from_ne_true}
use Rattle.cxl_enc.specs.declared.caps.MemKind.{MemKind}
use Rattle.cxl_enc.specs.declared.caps.MemKind.TheVariants.{Ram, Pmem}
use Rattle.cxl_regs.specs.declared.decoder.Decoder.{Decoder}
use Rattle.cxl_span.specs.declared.allotting.Span.{Span}
use Rattle.cxl_span.specs.declared.allotting.SpanFault.{SpanFault}
use Rattle.cxl_span.specs.declared.allotting.SpanFault.TheVariants.{NoDecoder, PastRam, NoRoom}
use Rattle.cxl_span.specs.Allotting.{all_committed, cursor_of, Allots, IsPastRam}
use Rattle.cxl_span.specs.Partitions.{partition_start, partition_end}

-- from the end of what is committed on, so many bytes end in the kind's partition
abbrev pub is_roomy : List Decoder → ℕ → ℕ → MemKind → ℕ → Bool
is_roomy decoders ram pmem kind len = nat_le (max (cursor_of decoders) (partition_start kind ram) + len) (partition_end kind ram pmem)

pub roomy_where_allotted : (decoders : List Decoder) (ram pmem : ℕ) (kind : MemKind) (len : ℕ) (span : Span) → Allots decoders ram pmem kind len (Ok span) → true ≡ is_roomy decoders ram pmem kind len
roomy_where_allotted decoders ram pmem kind len span is =
    let parts = and_parts (nat_le (partition_start kind ram) span.start) (nat_le (span.start + len) (partition_end kind ram pmem)) is.can_start.inside in
    let low = leb-true (partition_start kind ram) span.start parts.0 in
    let high = leb-true (span.start + len) (partition_end kind ram pmem) parts.1 in
    let after = is.can_start.after in
    sym (le-leb (max (cursor_of decoders) (partition_start kind ram) + len) (partition_end kind ram pmem) (omega (arith, low, high, after)))

past : (decoders : List Decoder) (ram pmem : ℕ) (kind : MemKind) (len cursor : ℕ) → IsPastRam decoders ram kind cursor → max (cursor_of decoders) (partition_start kind ram) + len ≤ partition_end kind ram pmem → ⊥
past decoders ram pmem Ram len cursor is fits = let over = is.past in let told = is.told in omega (arith, over, told, fits)
past decoders ram pmem Pmem len cursor is fits = let not_ram = is.of_ram in cc

pub full_where_refused : (decoders : List Decoder) (ram pmem : ℕ) (kind : MemKind) (len : ℕ) (fault : SpanFault) → all_committed decoders ≡ false → Allots decoders ram pmem kind len (Err fault) → false ≡ is_roomy decoders ram pmem kind len
full_where_refused decoders ram pmem kind len NoDecoder left is = absurd (false≢true (sym left ∙ is))
full_where_refused decoders ram pmem kind len (PastRam cursor) left is =
    sym (false_from_ne_true (is_roomy decoders ram pmem kind len) (λ fits. past decoders ram pmem kind len cursor is (leb-true (max (cursor_of decoders) (partition_start kind ram) + len) (partition_end kind ram pmem) fits)))
full_where_refused decoders ram pmem kind len (NoRoom room) left is =
    sym (false_from_ne_true (is_roomy decoders ram pmem kind len) (λ fits.
    let less = leb-true (max (cursor_of decoders) (partition_start kind ram) + len) (partition_end kind ram pmem) fits in
    let start = is.start in
    let limit = is.limit in
    let short = is.short in
    omega (arith, less, start, limit, short)))

-- ---- endpoints

module _ (s : System) (ready : IsOrderlySystem s) where
  endpoint_node : (n : ℕ) → is_endpoint_at s.nodes n ≡ true → (node : Node) × (slice_get s.nodes n ≡ Some node) × (is_endpoint node.kind ≡ true)
  endpoint_node n endpoint = go (slice_get s.nodes n) refl endpoint
    where
      go : (o : Option Node) → slice_get s.nodes n ≡ o → option_map_or (λ node. is_endpoint node.kind) o false ≡ true → (node : Node) × (slice_get s.nodes n ≡ Some node) × (is_endpoint node.kind ≡ true)
      go None e h = absurd (false≢true h)
      go (Some node) e h = (node, e, h)

  -- a block of an endpoint is an endpoint's
  pub endpoint_at : (n : ℕ) (block : Registers) → is_endpoint_at s.nodes n ≡ true → slice_get s.blocks n ≡ Some block → block.endpoint ≡ true
  endpoint_at n block endpoint here =
      let node = endpoint_node n endpoint in
      (ready.system.caps.each n block node.0 here node.1).endpoint ∙ node.2
