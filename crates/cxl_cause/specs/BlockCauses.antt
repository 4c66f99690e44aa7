-- Why a decoder breaks one of the rules K1 to K8: of each rule the first part of its test that fails (this project's rules).
use Rattle.std.specs.Prelude.{ℕ, ◌+◌, ◌-◌, ◌/◌, ◌%◌, ◌^◌, ◌==◌, nat_lt, nat_le, Bool, not, ◌&&◌, ◌||◌, if◌then◌else◌, List, [], ◌∷◌, length, find, slice_get, Option, Some, None, is_some, option_map, option_and_then}
use Rattle.std.specs.List.{range_with_len}
use Rattle.cxl_enc.specs.declared.caps.MemKind.TheVariants.{Ram, Pmem}
use Rattle.cxl_enc.specs.Bits.{cap_ways3, cap_ways16}
use Rattle.cxl_enc.specs.Caps.{has_bit, targets_of}
use Rattle.cxl_enc.specs.Codes.{ways_of}
use Rattle.cxl_enc.specs.Limits.{address_limit}
use Rattle.cxl_topo.specs.declared.node.Node.{Node}
use Rattle.cxl_regs.specs.declared.decoder.Decoder.{Decoder}
use Rattle.cxl_regs.specs.Registers.{Registers}
use Rattle.cxl_regs.specs.Reading.{select_bits, span_length, range_of}
use Rattle.cxl_regs.specs.Rules.{selects, before, breaks_order}
use Rattle.cxl_span.specs.Partitions.{lies_in}
use Rattle.cxl_span.specs.Spans.{span_start_of}
use Rattle.cxl_span.specs.Rules.{size_unit}
use Rattle.cxl_model.specs.System.{System, ram_at, pmem_at}
use Rattle.cxl_cause.specs.declared.cause.Cause.{Cause}
use Rattle.cxl_cause.specs.declared.cause.Cause.TheVariants.{BlockCount, Capability, NotCommittedBelow, NotDecoding, ErrorSet, CommitAlone, CommittedAlone, NotHostOnly, GranularityCode, WaysCode, WaysLacked, WaysOfNoPort, TooFewTargets, SelectBit, NoBytes, PastLimit, Uneven, Under, PastRam, AcrossPartitions, PastPmem}

-- ---- K1

-- the block's capability word is not the node's
abbrev pub cap_cause : Option Registers → Option Node → Option Cause
cap_cause None None = None
cap_cause None (Some node) = None
cap_cause (Some block) None = None
cap_cause (Some block) (Some node) = if block.cap == node.cap then None else Some (Capability block.cap node.cap)

-- K1: another number of blocks, told of node 0, or another capability word, each at decoder 0
abbrev pub caps_cause : System → ℕ → ℕ → Option Cause
caps_cause s n i =
    if i == 0
    then (if length s.blocks == length s.nodes then cap_cause (slice_get s.blocks n) (slice_get s.nodes n)
    else (if n == 0 then Some (BlockCount (length s.blocks) (length s.nodes)) else None))
    else None

-- ---- K2 to K7

-- K2: the decoder below is not committed, or the block does not decode
abbrev pub commit_order_cause : Registers → Option Decoder → Decoder → Option Cause
commit_order_cause block below d =
    if d.committed then (if breaks_order below then Some NotCommittedBelow else (if block.enabled then None else Some NotDecoding)) else None

-- K3: the error bit, then one of commit and committed without the other, then host-only
abbrev pub flags_cause : Decoder → Option Cause
flags_cause d =
    if d.error then Some ErrorSet
    else (if d.committed then (if d.commit then (if d.host_only then None else Some NotHostOnly) else Some CommittedAlone)
    else (if d.commit then Some CommitAlone else None))

-- ways that an endpoint's capability word lacks, and codes that stand for none
abbrev pub endpoint_ways_cause : ℕ → ℕ → Option Cause
endpoint_ways_cause cap ways =
    if nat_le ways 3 then None
    else (if ways == 4 then (if has_bit cap cap_ways16 then None else Some (WaysLacked ways cap))
    else (if nat_le 8 ways && nat_le ways 10 then (if has_bit cap cap_ways3 then None else Some (WaysLacked ways cap))
    else Some (WaysCode ways cap)))

-- more ways than a port's targets, ways that no port has, and codes that stand for none
abbrev pub port_ways_cause : ℕ → ℕ → Option Cause
port_ways_cause cap ways =
    if nat_le ways 3 then (if nat_le (2 ^ ways) (targets_of cap) then None else Some (TooFewTargets ways cap))
    else (if is_some (ways_of ways) then Some (WaysOfNoPort ways cap) else Some (WaysCode ways cap))

-- K4: the granularity code, then that of the ways
abbrev pub codes_cause : Registers → Decoder → Option Cause
codes_cause block d =
    if d.committed
    then (if nat_le d.gran 6
    then (if block.endpoint then endpoint_ways_cause block.cap d.ways else port_ways_cause block.cap d.ways)
    else Some (GranularityCode d.gran block.cap))
    else None

-- the first address bit of a decoder that its block does not select on
abbrev pub lacked_bit : ℕ → Decoder → Option ℕ
lacked_bit cap d = find (λ bit. not (selects cap bit)) (range_with_len (d.gran + 8) (select_bits d.ways))

-- K5: an address bit that the block does not select on
abbrev pub select_cause : Registers → Decoder → Option Cause
select_cause block d = if d.committed then option_map (λ bit. SelectBit bit block.cap) (lacked_bit block.cap d) else None

-- the greatest multiple of 256 MiB for each way below a size, where it has some bytes
abbrev pub size_below : Decoder → Option ℕ
size_below d = if nat_lt d.size (size_unit d) then None else Some (d.size - d.size % size_unit d)

-- the least multiple above it, where a range of so many bytes ends at or below the address limit
abbrev pub size_above : Decoder → Option ℕ
size_above d =
    let above = d.size - d.size % size_unit d + size_unit d in
    if nat_le (d.base + above) address_limit then Some above else None

-- K6: no bytes, then an end past the address limit, then an endpoint's shares
abbrev pub size_cause : Registers → Decoder → Option Cause
size_cause block d =
    if d.committed
    then (if d.size == 0 then Some NoBytes
    else (if nat_lt address_limit (d.base + d.size) then Some (PastLimit d.base d.size)
    else (if block.endpoint && not (d.size % size_unit d == 0) then Some (Uneven d.size (size_unit d) (size_below d) (size_above d)) else None)))
    else None

-- K7: the base lies under the end of the decoder below
abbrev pub base_order_cause : Option Decoder → Decoder → Option Cause
base_order_cause below d =
    if d.committed then option_and_then (λ b. if nat_lt d.base (b.base + b.size) then Some (Under (range_of b)) else None) below else None

-- ---- K8

-- so many bytes from a device address on lie in one of its partitions
abbrev pub fits_device : ℕ → ℕ → ℕ → ℕ → Bool
fits_device ram pmem start len = lies_in Ram ram pmem start len || lies_in Pmem ram pmem start len

-- the numbers of ways that there are
abbrev pub all_ways : List ℕ
all_ways = 1 ∷ 2 ∷ 3 ∷ 4 ∷ 6 ∷ 8 ∷ 12 ∷ 16 ∷ []

-- the least ways at which a share of the decoder's bytes would fit where its span starts
abbrev pub fitting_ways : ℕ → ℕ → ℕ → Decoder → Option ℕ
fitting_ways ram pmem start d = find (λ ways. fits_device ram pmem start (d.size / ways)) all_ways

-- where a span stands that fits in no partition: a device without pmem has one
abbrev pub span_cause : ℕ → ℕ → ℕ → Decoder → Cause
span_cause ram pmem start d =
    if pmem == 0 then PastRam start (span_length d) ram (fitting_ways ram pmem start d)
    else (if nat_lt start ram then AcrossPartitions start (span_length d) ram (fitting_ways ram pmem start d)
    else PastPmem start (span_length d) (ram + pmem) (fitting_ways ram pmem start d))

-- K8: an endpoint's span that fits in no partition
abbrev pub capacity_cause : Registers → ℕ → ℕ → ℕ → Decoder → Option Cause
capacity_cause block ram pmem start d =
    if block.endpoint && d.committed && not (fits_device ram pmem start (span_length d)) then Some (span_cause ram pmem start d) else None

-- ---- all of a block

-- why a decoder with this one before it, and with a span that starts there, breaks the rule of this number
abbrev pub rule_cause : ℕ → Registers → ℕ → ℕ → Option Decoder → ℕ → Decoder → Option Cause
rule_cause rule block ram pmem below start d =
    if rule == 2 then commit_order_cause block below d
    else (if rule == 3 then flags_cause d
    else (if rule == 4 then codes_cause block d
    else (if rule == 5 then select_cause block d
    else (if rule == 6 then size_cause block d
    else (if rule == 7 then base_order_cause below d
    else (if rule == 8 then capacity_cause block ram pmem start d
    else None))))))

-- K2 to K8, of decoder i of the node's own block
abbrev pub block_cause : System → ℕ → ℕ → ℕ → Option Cause
block_cause s rule n i =
    option_and_then
    (λ block. option_and_then (rule_cause rule block (ram_at s n) (pmem_at s n) (before block.decoders i) (span_start_of block.decoders i)) (slice_get block.decoders i))
    (slice_get s.blocks n)
