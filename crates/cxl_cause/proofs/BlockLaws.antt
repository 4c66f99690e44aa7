-- A decoder has a cause for K1 to K8 exactly where it breaks the rule.
use Rattle.std.proofs.Common.{◌≡◌, ℕ, ◌+◌, ◌%◌, Bool, true, false, not, ◌&&◌, ◌||◌, List, [], ◌∷◌, length, Option, Some, None, if◌then◌else◌, refl, sym, ◌∙◌, inl, inr, arith}
use Rattle.std.specs.Prelude.{slice_get, ◌==◌, nat_le, find, is_some, option_map}
use Rattle.std.specs.List.{list_all, range_with_len}
use Rattle.std.specs.Option.{option_and_then, option_map_or, option_eq}
use Rattle.std.proofs.lemmas.Bool.{cases_Bool, eqb-true, lt-leb}
use Rattle.std.proofs.lemmas.Option.{none-some, slice_get_within}
use Rattle.cxl_enc.proofs.Lists.{item}
use Rattle.cxl_enc.specs.Bits.{cap_ways3, cap_ways16}
use Rattle.cxl_enc.specs.Caps.{has_bit}
use Rattle.cxl_enc.specs.Codes.{ways_of}
use Rattle.cxl_topo.specs.declared.node.Node.{Node}
use Rattle.cxl_regs.specs.declared.decoder.Decoder.{Decoder}
use Rattle.cxl_regs.specs.Registers.{Registers}
use Rattle.cxl_regs.specs.Reading.{select_bits, span_length}
use Rattle.cxl_regs.specs.Rules.{before, breaks_order, selects, endpoint_ways_ok, port_ways_ok}
use Rattle.cxl_span.specs.Spans.{span_start_of}
use Rattle.cxl_span.specs.Rules.{size_unit, breaks_commit_order, breaks_flags, breaks_codes, breaks_select, breaks_size, breaks_base_order, breaks_capacity, breaks_rule}
use Rattle.cxl_span.specs.Breaches.{breaks as block_breaks}
use Rattle.cxl_model.specs.System.{System, ram_at, pmem_at}
use Rattle.cxl_model.specs.Accepted.{breaks_caps, breaks_block}
use Rattle.cxl_cause.specs.declared.cause.Cause.{Cause}
use Rattle.cxl_cause.specs.declared.cause.Cause.TheVariants.{NotCommittedBelow, NotDecoding, SelectBit}
use Rattle.cxl_cause.specs.BlockCauses.{cap_cause, caps_cause, commit_order_cause, flags_cause, endpoint_ways_cause, port_ways_cause, codes_cause, select_cause, size_cause, base_order_cause, fits_device, span_cause, capacity_cause, rule_cause, block_cause}

-- ---- tests

-- one test or another, each with a cause
pub branch : (a : Bool) (X Y : Option Cause) (x y : Bool) → is_some X ≡ x → is_some Y ≡ y → is_some (if a then X else Y) ≡ (if a then x else y)
branch true X Y x y h k = h
branch false X Y x y h k = k

order_test : (c o e : Bool) (A B : Cause) → is_some (if c then (if o then Some A else (if e then None else Some B)) else None) ≡ (c && (o || not e))
order_test true true e A B = refl
order_test true false true A B = refl
order_test true false false A B = refl
order_test false o e A B = refl

flags_test : (e c k h : Bool) (A B C D : Cause) → is_some (if e then Some A else (if c then (if k then (if h then None else Some B) else Some C) else (if k then Some D else None))) ≡ (e || (if c then not (k && h) else k))
flags_test true c k h A B C D = refl
flags_test false true true true A B C D = refl
flags_test false true true false A B C D = refl
flags_test false true false h A B C D = refl
flags_test false false true h A B C D = refl
flags_test false false false h A B C D = refl

codes_test : (c g e : Bool) (E P : Option Cause) (own port : Bool) (A : Cause) → is_some E ≡ not own → is_some P ≡ not port
    → is_some (if c then (if g then (if e then E else P) else Some A) else None) ≡ (c && not (g && (if e then own else port)))
codes_test true true true E P own port A h k = h
codes_test true true false E P own port A h k = k
codes_test true false e E P own port A h k = refl
codes_test false g e E P own port A h k = refl

endpoint_test : (low four wide from to thrice : Bool) (A B C : Cause) → (four ≡ true → from ≡ false)
    → is_some (if low then None else (if four then (if wide then None else Some A) else (if from && to then (if thrice then None else Some B) else Some C)))
    ≡ not (low || (four && wide) || (from && to && thrice))
endpoint_test true four wide from to thrice A B C h = refl
endpoint_test false true true from to thrice A B C h = refl
endpoint_test false true false from to thrice A B C h = rw (h refl) refl
endpoint_test false false wide true true true A B C h = refl
endpoint_test false false wide true true false A B C h = refl
endpoint_test false false wide true false thrice A B C h = refl
endpoint_test false false wide false to thrice A B C h = refl

port_test : (low few known : Bool) (A B C : Cause) → is_some (if low then (if few then None else Some A) else (if known then Some B else Some C)) ≡ not (low && few)
port_test true true known A B C = refl
port_test true false known A B C = refl
port_test false few true A B C = refl
port_test false few false A B C = refl

size_test : (c z l u : Bool) (A B C : Cause) → is_some (if c then (if z then Some A else (if l then Some B else (if u then Some C else None))) else None) ≡ (c && (z || l || u))
size_test true true l u A B C = refl
size_test true false true u A B C = refl
size_test true false false true A B C = refl
size_test true false false false A B C = refl
size_test false z l u A B C = refl

some_test : (x : Bool) (A : Cause) → is_some (if x then Some A else None) ≡ x
some_test true A = refl
some_test false A = refl

both_test : (c x : Bool) (A : Cause) → is_some (if c then (if x then Some A else None) else None) ≡ (c && x)
both_test true true A = refl
both_test true false A = refl
both_test false x A = refl

-- where one of some numbers fails a test, one is found
find_fails : (p : ℕ → Bool) (f : ℕ → Cause) (xs : List ℕ) → is_some (option_map f (find (λ x. not (p x)) xs)) ≡ not (list_all p xs)
find_fails p f [] = refl
find_fails p f (x ∷ xs) =
    elim (cases_Bool (p x)) [
      | inl passes ↦ rw passes (find_fails p f xs)
      | inr fails ↦ rw fails refl
    ]

-- ---- K1

module _ (s : System) (n : ℕ) where
  words : length s.blocks ≡ length s.nodes → (b : Option Registers) (m : Option Node) → slice_get s.blocks n ≡ b → slice_get s.nodes n ≡ m
      → is_some (cap_cause b m) ≡ not (option_eq ◌==◌ (option_map (λ block. block.cap) b) (option_map (λ node. node.cap) m))
  words count None None e f = refl
  words count None (Some node) e f =
      let within = slice_get_within s.nodes n node f in
      let block = item s.blocks n (omega (arith, count, within)) in
      absurd (none-some block.0 (sym e ∙ block.1))
  words count (Some block) None e f =
      let within = slice_get_within s.blocks n block e in
      let node = item s.nodes n (omega (arith, count, within)) in
      absurd (none-some node.0 (sym f ∙ node.1))
  words count (Some block) (Some node) e f =
      elim (cases_Bool (block.cap == node.cap)) [
        | inl same ↦ rw same refl
        | inr other ↦ rw other refl
      ]

  pub caps_law : (i : ℕ) → is_some (caps_cause s n i) ≡ breaks_caps s n i
  caps_law i =
      elim (cases_Bool (i == 0)) [
        | inl first ↦ elim (cases_Bool (length s.blocks == length s.nodes)) [
          | inl same ↦ rw (first, same) (words (eqb-true (length s.blocks) (length s.nodes) same) (slice_get s.blocks n) (slice_get s.nodes n) refl refl)
          | inr other ↦ elim (cases_Bool (n == 0)) [
            | inl zero ↦ rw (first, other, zero) refl
            | inr later ↦ rw (first, other, later) refl
          ]
        ]
        | inr later ↦ rw later refl
      ]

-- ---- K2 to K8

module _ (block : Registers) (d : Decoder) where
  order_law : (below : Option Decoder) → is_some (commit_order_cause block below d) ≡ breaks_commit_order block below d
  order_law below = order_test d.committed (breaks_order below) block.enabled NotCommittedBelow NotDecoding

  flags_law : is_some (flags_cause d) ≡ breaks_flags d
  flags_law = flags_test d.error d.committed d.commit d.host_only _ _ _ _

  four_is_low : (d.ways == 4) ≡ true → nat_le 8 d.ways ≡ false
  four_is_low four = let is : d.ways ≡ 4 = eqb-true d.ways 4 four in lt-leb 8 d.ways (omega (arith, is))

  endpoint_law : is_some (endpoint_ways_cause block.cap d.ways) ≡ not (endpoint_ways_ok block.cap d.ways)
  endpoint_law = endpoint_test (nat_le d.ways 3) (d.ways == 4) (has_bit block.cap cap_ways16) (nat_le 8 d.ways) (nat_le d.ways 10) (has_bit block.cap cap_ways3) _ _ _ four_is_low

  port_law : is_some (port_ways_cause block.cap d.ways) ≡ not (port_ways_ok block.cap d.ways)
  port_law = port_test (nat_le d.ways 3) _ (is_some (ways_of d.ways)) _ _ _

  codes_law : is_some (codes_cause block d) ≡ breaks_codes block d
  codes_law = codes_test d.committed (nat_le d.gran 6) block.endpoint _ _ (endpoint_ways_ok block.cap d.ways) (port_ways_ok block.cap d.ways) _ endpoint_law port_law

  select_law : is_some (select_cause block d) ≡ breaks_select block d
  select_law =
      elim (cases_Bool d.committed) [
        | inl held ↦ rw held (find_fails (selects block.cap) (λ bit. SelectBit bit block.cap) (range_with_len (d.gran + 8) (select_bits d.ways)))
        | inr idle ↦ rw idle refl
      ]

  size_law : is_some (size_cause block d) ≡ breaks_size block d
  size_law = size_test d.committed (d.size == 0) _ (block.endpoint && not (d.size % size_unit d == 0)) _ _ _

  rise_law : (below : Option Decoder) → is_some (base_order_cause below d) ≡ breaks_base_order below d
  rise_law None = elim (cases_Bool d.committed) [ inl held ↦ rw held refl | inr idle ↦ rw idle refl ]
  rise_law (Some b) = both_test d.committed _ _

  capacity_law : (ram pmem start : ℕ) → is_some (capacity_cause block ram pmem start d) ≡ breaks_capacity block ram pmem start d
  capacity_law ram pmem start = some_test (block.endpoint && d.committed && not (fits_device ram pmem start (span_length d))) (span_cause ram pmem start d)

  rule_law : (rule ram pmem : ℕ) (below : Option Decoder) (start : ℕ) → is_some (rule_cause rule block ram pmem below start d) ≡ breaks_rule rule block ram pmem below start d
  rule_law rule ram pmem below start =
      branch (rule == 2) _ _ _ _ (order_law below)
      (branch (rule == 3) _ _ _ _ flags_law
      (branch (rule == 4) _ _ _ _ codes_law
      (branch (rule == 5) _ _ _ _ select_law
      (branch (rule == 6) _ _ _ _ size_law
      (branch (rule == 7) _ _ _ _ (rise_law below)
      (branch (rule == 8) _ _ _ _ (capacity_law ram pmem start) refl))))))

module _ (s : System) (rule n i : ℕ) where
  of_decoder : (block : Registers) (o : Option Decoder)
      → is_some (option_and_then (rule_cause rule block (ram_at s n) (pmem_at s n) (before block.decoders i) (span_start_of block.decoders i)) o)
      ≡ option_map_or (breaks_rule rule block (ram_at s n) (pmem_at s n) (before block.decoders i) (span_start_of block.decoders i)) o false
  of_decoder block None = refl
  of_decoder block (Some d) = rule_law block d rule (ram_at s n) (pmem_at s n) (before block.decoders i) (span_start_of block.decoders i)

  of_block : (o : Option Registers)
      → is_some (option_and_then (λ block. option_and_then (rule_cause rule block (ram_at s n) (pmem_at s n) (before block.decoders i) (span_start_of block.decoders i)) (slice_get block.decoders i)) o)
      ≡ option_map_or (λ block. block_breaks rule block (ram_at s n) (pmem_at s n) i) o false
  unfolding block_breaks
  of_block None = refl
  of_block (Some block) = of_decoder block (slice_get block.decoders i)

  pub block_law : is_some (block_cause s rule n i) ≡ breaks_block s rule n i
  block_law = of_block (slice_get s.blocks n)
