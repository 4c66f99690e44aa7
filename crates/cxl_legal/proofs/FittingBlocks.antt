-- What K2 to K8 say of a committed decoder of a node.
use Rattle.std.proofs.Common.{◌≡◌, ℕ, ◌+◌, ◌*◌, ◌%◌, ◌^◌, ◌<◌, ◌≤◌, Bool, true, false, not, ◌&&◌, ◌||◌, if◌then◌else◌, length, Option, Some, refl, sym, ap, ◌∙◌, arith}
use Rattle.std.specs.Prelude.{slice_get, ◌==◌, nat_le, nat_lt, unwrap_or}
use Rattle.std.specs.Option.{option_map_or}
use Rattle.std.proofs.lemmas.Bool.{and_parts, eqb-true, leb-true, agree_below_at, false≢true, true≢false}
use Rattle.std.proofs.lemmas.Option.{slice_get_within}
use Rattle.cxl_enc.specs.Caps.{targets_of, is_target_count}
use Rattle.cxl_enc.specs.Codes.{ways_of}
use Rattle.cxl_enc.specs.Limits.{unit, address_limit}
use Rattle.cxl_enc.proofs.Lists.{All-at, item}
use Rattle.cxl_enc.proofs.Tests.{asked}
use Rattle.cxl_topo.specs.declared.node.Node.{Node}
use Rattle.cxl_topo.specs.Kinds.{is_endpoint}
use Rattle.cxl_topo.specs.Tree.{is_endpoint_at}
use Rattle.cxl_regs.specs.declared.decoder.Decoder.{Decoder}
use Rattle.cxl_regs.specs.Registers.{Registers, IsBlock, IsDecoder}
use Rattle.cxl_regs.specs.Rules.{codes_ok, select_ok, port_ways_ok, endpoint_ways_ok}
use Rattle.cxl_regs.specs.Reading.{decoder_ways, select_bits}
use Rattle.cxl_span.specs.Breaches.{breaks as block_breaks, BlockKeeps}
use Rattle.cxl_span.specs.Rules.{breaks_select, breaks_size, size_unit}
use Rattle.cxl_span.proofs.RulesBroken.{codes_here}
use Rattle.cxl_model.specs.System.{System, IsSystem, decoder_at, ram_at, pmem_at}
use Rattle.cxl_model.specs.Accepted.{KeepsBlocks}
use Rattle.cxl_model.proofs.RangeServers.{in_block}
use Rattle.cxl_model.proofs.RangeRules.{block_keeps}
use Rattle.cxl_legal.specs.Endpoints.{cap_at}

select_here : (block : Registers) (ram pmem i : ℕ) (d : Decoder) → slice_get block.decoders i ≡ Some d
    → block_breaks 5 block ram pmem i ≡ breaks_select block d
unfolding block_breaks
select_here block ram pmem i d at = rw at refl

size_here : (block : Registers) (ram pmem i : ℕ) (d : Decoder) → slice_get block.decoders i ≡ Some d
    → block_breaks 6 block ram pmem i ≡ breaks_size block d
unfolding block_breaks
size_here block ram pmem i d at = rw at refl

not_any : (a b c d e : Bool) → (a && (b || c || (d && not e))) ≡ false → a ≡ true → d ≡ true → e ≡ true
not_any true true c d e is one two = absurd (true≢false is)
not_any true false true d e is one two = absurd (true≢false is)
not_any true false false true true is one two = refl
not_any true false false true false is one two = absurd (true≢false is)
not_any true false false false e is one two = absurd (false≢true two)
not_any false b c d e is one two = absurd (false≢true one)

-- ---- a committed decoder

-- a block is its node's
pub record OfNode (s : System) (n : ℕ) (block : Registers) : Type 0 where
  pub cap : block.cap ≡ cap_at s n
  pub endpoint : block.endpoint ≡ is_endpoint_at s.nodes n

pub of_node : (s : System) (n : ℕ) (block : Registers) → IsSystem s → slice_get s.blocks n ≡ Some block → OfNode s n block
of_node s n block system here =
    let low : n < length s.blocks = slice_get_within s.blocks n block here in
    let count : length s.blocks ≡ length s.nodes = system.caps.count in
    let node = item s.nodes n (omega (arith, low, count)) in
    let own = system.caps.each n block node.0 here node.1 in
    record {
      cap = own.cap ∙ sym (ap (λ (o : Option Node). option_map_or (λ x. x.cap) o 0) node.1);
      endpoint = own.endpoint ∙ sym (ap (λ (o : Option Node). option_map_or (λ x. is_endpoint x.kind) o false) node.1);
    }

pub record Kept (s : System) (n : ℕ) (d : Decoder) : Type 0 where
  pub codes : codes_ok (cap_at s n) (is_endpoint_at s.nodes n) d ≡ true
  pub select : select_ok (cap_at s n) d.gran (select_bits d.ways) ≡ true
  pub even : is_endpoint_at s.nodes n ≡ true → d.size % (unit * decoder_ways d) ≡ 0
  pub base : d.base % unit ≡ 0

pub kept_of : (s : System) (n i : ℕ) (d : Decoder) → IsSystem s → KeepsBlocks s → decoder_at s n i ≡ Some d → d.committed ≡ true → Kept s n d
kept_of s n i d system keeps there committed =
    let own = in_block s n i d there in
    let block : Registers = own.block in
    let rules : BlockKeeps block (ram_at s n) (pmem_at s n) = block_keeps s keeps n block own.at in
    let node = of_node s n block system own.at in
    let is = All-at IsBlock s.blocks n block own.at system.blocks in
    let each = All-at (IsDecoder block.endpoint) block.decoders i d own.there is.each in
    let codes : codes_ok block.cap block.endpoint d ≡ true = asked d.committed (codes_ok block.cap block.endpoint d) (sym (codes_here block (ram_at s n) (pmem_at s n) i d own.there) ∙ rules.each 4 i) committed in
    let select : select_ok block.cap d.gran (select_bits d.ways) ≡ true = asked d.committed (select_ok block.cap d.gran (select_bits d.ways)) (sym (select_here block (ram_at s n) (pmem_at s n) i d own.there) ∙ rules.each 5 i) committed in
    let size : breaks_size block d ≡ false = sym (size_here block (ram_at s n) (pmem_at s n) i d own.there) ∙ rules.each 6 i in
    record {
      codes = ap (λ (c : ℕ). codes_ok c (is_endpoint_at s.nodes n) d) (sym node.cap) ∙ ap (λ (b : Bool). codes_ok block.cap b d) (sym node.endpoint) ∙ codes;
      select = ap (λ (c : ℕ). select_ok c d.gran (select_bits d.ways)) (sym node.cap) ∙ select;
      even = λ endpoint. eqb-true (d.size % size_unit d) 0
          (not_any d.committed (d.size == 0) (nat_lt address_limit (d.base + d.size)) block.endpoint (d.size % size_unit d == 0) size committed (node.endpoint ∙ endpoint));
      base = each.base.multiple;
    }

-- ---- its codes

-- a port's ways are 1, 2, 4 or 8, and no more than its targets
pub record PortWays (s : System) (n : ℕ) (d : Decoder) : Type 0 where
  pub count : is_target_count (decoder_ways d) ≡ true
  pub few : nat_le (decoder_ways d) (targets_of (cap_at s n)) ≡ true

abbrev ways_test : ℕ → Bool
ways_test code = (unwrap_or (ways_of code) 1 == 2 ^ code) && is_target_count (2 ^ code)

ways_tested : (code : ℕ) → code < 4 → ways_test code ≡ true
ways_tested code low = agree_below_at ways_test (λ n. true) 4 code refl low

pub gran_of : (s : System) (n : ℕ) (d : Decoder) → Kept s n d → nat_le d.gran 6 ≡ true
gran_of s n d kept =
    (and_parts (nat_le d.gran 6) (if is_endpoint_at s.nodes n then endpoint_ways_ok (cap_at s n) d.ways else port_ways_ok (cap_at s n) d.ways) kept.codes).0

ways_code_of : (s : System) (n : ℕ) (d : Decoder) → Kept s n d → (if is_endpoint_at s.nodes n then endpoint_ways_ok (cap_at s n) d.ways else port_ways_ok (cap_at s n) d.ways) ≡ true
ways_code_of s n d kept =
    (and_parts (nat_le d.gran 6) (if is_endpoint_at s.nodes n then endpoint_ways_ok (cap_at s n) d.ways else port_ways_ok (cap_at s n) d.ways) kept.codes).1

pub port_ways : (s : System) (n : ℕ) (d : Decoder) → Kept s n d → is_endpoint_at s.nodes n ≡ false → PortWays s n d
port_ways s n d kept port =
    let ok : port_ways_ok (cap_at s n) d.ways ≡ true = sym (ap (λ (b : Bool). if b then endpoint_ways_ok (cap_at s n) d.ways else port_ways_ok (cap_at s n) d.ways) port) ∙ ways_code_of s n d kept in
    let parts = and_parts (nat_le d.ways 3) (nat_le (2 ^ d.ways) (targets_of (cap_at s n))) ok in
    let low : d.ways ≤ 3 = leb-true d.ways 3 parts.0 in
    let tested = and_parts (decoder_ways d == 2 ^ d.ways) (is_target_count (2 ^ d.ways)) (ways_tested d.ways (omega (arith, low))) in
    let same : decoder_ways d ≡ 2 ^ d.ways = eqb-true (decoder_ways d) (2 ^ d.ways) tested.0 in
    record {
      count = ap is_target_count same ∙ tested.1;
      few = ap (λ (k : ℕ). nat_le k (targets_of (cap_at s n))) same ∙ parts.1;
    }

pub endpoint_ways : (s : System) (n : ℕ) (d : Decoder) → Kept s n d → is_endpoint_at s.nodes n ≡ true → endpoint_ways_ok (cap_at s n) d.ways ≡ true
endpoint_ways s n d kept endpoint = sym (ap (λ (b : Bool). if b then endpoint_ways_ok (cap_at s n) d.ways else port_ways_ok (cap_at s n) d.ways) endpoint) ∙ ways_code_of s n d kept
