-- The rules K2 to K8 of a block, each as a test whether one of its decoders breaks it (this project's rules).
use Rattle.std.specs.Prelude.{ℕ, ◌+◌, ◌*◌, ◌%◌, ◌==◌, nat_lt, Bool, false, not, ◌&&◌, ◌||◌, if◌then◌else◌, Option}
use Rattle.cxl_enc.specs.declared.caps.MemKind.TheVariants.{Ram, Pmem}
use Rattle.cxl_enc.specs.Limits.{unit, address_limit}
use Rattle.cxl_regs.specs.declared.decoder.Decoder.{Decoder}
use Rattle.cxl_regs.specs.Registers.{Registers}
use Rattle.cxl_regs.specs.Rules.{codes_ok, select_ok, breaks_order, breaks_rise}
use Rattle.cxl_regs.specs.Reading.{select_bits, decoder_ways, span_length}
use Rattle.cxl_span.specs.Partitions.{lies_in}

-- K2: a committed decoder whose predecessor is not committed, or whose block does not decode
abbrev pub breaks_commit_order : Registers → Option Decoder → Decoder → Bool
breaks_commit_order block below d = d.committed && (breaks_order below || not block.enabled)

-- K3: the error bit is set, or a committed decoder lacks commit or host-only, or another one has commit
abbrev pub breaks_flags : Decoder → Bool
breaks_flags d = d.error || (if d.committed then not (d.commit && d.host_only) else d.commit)

-- K4: a committed decoder with codes that its block has not
abbrev pub breaks_codes : Registers → Decoder → Bool
breaks_codes block d = d.committed && not (codes_ok block.cap block.endpoint d)

-- K5: a committed decoder that selects on address bits on which its block cannot
abbrev pub breaks_select : Registers → Decoder → Bool
breaks_select block d = d.committed && not (select_ok block.cap d.gran (select_bits d.ways))

-- 256 MiB for each of the ways
abbrev pub size_unit : Decoder → ℕ
size_unit d = unit * decoder_ways d

-- K6: a committed decoder with no bytes, or that ends past the address limit, or an endpoint's with uneven shares
abbrev pub breaks_size : Registers → Decoder → Bool
breaks_size block d =
    d.committed && ((d.size == 0) || nat_lt address_limit (d.base + d.size) || (block.endpoint && not (d.size % size_unit d == 0)))

-- K7: a committed decoder whose base lies below the end of the one before
abbrev pub breaks_base_order : Option Decoder → Decoder → Bool
breaks_base_order below d = d.committed && breaks_rise below d

-- K8: a committed decoder of an endpoint whose span lies neither in ram nor in pmem
abbrev pub breaks_capacity : Registers → ℕ → ℕ → ℕ → Decoder → Bool
breaks_capacity block ram pmem start d =
    block.endpoint && d.committed && not (lies_in Ram ram pmem start (span_length d) || lies_in Pmem ram pmem start (span_length d))

-- a decoder with this one before it, and with a span that starts there, breaks the rule of this number
abbrev pub breaks_rule : ℕ → Registers → ℕ → ℕ → Option Decoder → ℕ → Decoder → Bool
breaks_rule rule block ram pmem below start d =
    if rule == 2 then breaks_commit_order block below d
    else (if rule == 3 then breaks_flags d
    else (if rule == 4 then breaks_codes block d
    else (if rule == 5 then breaks_select block d
    else (if rule == 6 then breaks_size block d
    else (if rule == 7 then breaks_base_order below d
    else (if rule == 8 then breaks_capacity block ram pmem start d
    else false))))))
