-- What the rules of a whole range say of the nodes on its ways, and what stands above a child.
use Rattle.std.proofs.Common.{◌≡◌, ℕ, zero, suc, ◌+◌, ◌^◌, ◌≤◌, ◌⊎◌, Bool, true, false, not, cond, if◌then◌else◌, List, [], ◌∷◌, Option, Some, None, refl, sym, ap, ◌∙◌, subst, inl, inr, arith}
use Rattle.std.specs.Prelude.{slice_get, ◌==◌, nat_lt, nat_le, length, reverse, option_map, IfSome}
use Rattle.std.specs.Option.{option_map_or}
use Rattle.std.specs.List.{filter_map, cons_option, position_or_len}
use Rattle.std.proofs.lemmas.Bool.{and_parts, eqb-true, leb-true, lt-ltb, or_cases}
use Rattle.std.proofs.lemmas.Option.{slice_get_within, slice_get-get_or, get_or_from_slice_get}
use Rattle.std.proofs.lemmas.List.Folds.{find_at}
use Rattle.std.proofs.lemmas.List.Quantifiers.{position-Some}
use Rattle.std.proofs.lemmas.Map.Keys.{any_passes_from_place}
use Rattle.cxl_topo.specs.declared.node.Node.{Node}
use Rattle.cxl_topo.specs.declared.node.Parent.{Parent}
use Rattle.cxl_topo.specs.Kinds.{is_endpoint}
use Rattle.cxl_topo.specs.Tree.{forwards_at, is_port_at, is_endpoint_at, parent_of, child_of, least_child_of, ports_above}
use Rattle.cxl_topo.specs.Laws.{AreTreeLaws}
use Rattle.cxl_regs.specs.declared.decoder.Decoder.{Decoder}
use Rattle.cxl_regs.specs.Registers.{Registers, reset_decoder}
use Rattle.cxl_enc.specs.Codes.{bits_of}
use Rattle.cxl_enc.proofs.Tests.{clash, asked}
use Rattle.cxl_regs.specs.declared.reading.Range.{Range}
use Rattle.cxl_regs.specs.Reading.{select_bits, decoder_ways, range_of, has_range}
use Rattle.cxl_regs.specs.Rules.{codes_ok, endpoint_ways_ok, port_ways_ok}
use Rattle.cxl_image.specs.Images.{HasCapsOf}
use Rattle.cxl_span.specs.Breaches.{BlockKeeps}
use Rattle.cxl_window.specs.Fields.{WindowFields}
use Rattle.cxl_regs.proofs.DecoderRanges.{has_parts, same_range}
use Rattle.cxl_span.proofs.RulesBroken.{codes_here}
use Rattle.cxl_model.specs.System.{System, KeepsBlock, decoders_at, decoder_at, ram_at, pmem_at}
use Rattle.cxl_model.specs.Ranges.{decoder_for, index_for, window_for, ports_for, bits_above, range_code}
use Rattle.cxl_model.specs.Rules.{keeps_ways, keeps_port_code}
use Rattle.cxl_model.specs.Accepted.{KeepsBlocks, IsWhole}
use Rattle.cxl_model.specs.Dealing.{slot_step, slot_steps}
use Rattle.cxl_model.proofs.Outcomes.{no_endpoint}
use Rattle.cxl_model.proofs.RangeServers.{in_block, block_keeps as block_kept, rule_twelve, ways_test}
use Rattle.cxl_model.proofs.RangeRules.{block_keeps, reached}
use Rattle.cxl_model.proofs.RangeCounts.{forwards_none}

-- ---- a node's decoder of a range

-- decoder d of node n, with number i, is the first that is committed with the range
pub record Owns (s : System) (r : Range) (n i : ℕ) (d : Decoder) : Type 0 where
  pub index : index_for s r n ≡ Some i
  pub there : decoder_at s n i ≡ Some d
  pub has : has_range r d ≡ true

abbrev pub OwnsSome : System → Range → ℕ → Decoder → Type 0
OwnsSome s r n d = (i : ℕ) × Owns s r n i d

owns_at : (s : System) (r : Range) (n i : ℕ) (d : Decoder) → index_for s r n ≡ Some i → decoder_at s n i ≡ Some d → Owns s r n i d
owns_at s r n i d index there =
    let found = position-Some (has_range r) (decoders_at s n) i d index in
    record { index = index; there = there; has = subst (λ (e : Decoder). has_range r e ≡ true) (get_or_from_slice_get (decoders_at s n) i d d there) found.1 }

pub owns_decoder : (s : System) (r : Range) (n : ℕ) (d : Decoder) → decoder_for s r n ≡ Some d → OwnsSome s r n d
owns_decoder s r n d is =
    let own : List Decoder = decoders_at s n in
    let i : ℕ = position_or_len (has_range r) own in
    let there : slice_get own i ≡ Some d = sym (find_at (has_range r) own) ∙ is in
    let within : nat_lt i (length own) ≡ true = lt-ltb i (length own) (slice_get_within own i d there) in
    let index : index_for s r n ≡ Some i = ap (λ (b : Bool). cond b (Some i) None) within in
    (i, owns_at s r n i d index there)

pub owns_index : (s : System) (r : Range) (n i : ℕ) → index_for s r n ≡ Some i → (d : Decoder) × Owns s r n i d
owns_index s r n i index =
    let found = position-Some (has_range r) (decoders_at s n) i reset_decoder index in
    let there = slice_get-get_or (decoders_at s n) i reset_decoder found.0 in
    (_, owns_at s r n i _ index there)

-- ---- K2 to K8

pub keeps_own_block : (s : System) (n : ℕ) → KeepsBlocks s → KeepsBlock s n
keeps_own_block s n keeps = go (slice_get s.blocks n) refl
  where
    go : (o : Option Registers) → slice_get s.blocks n ≡ o → IfSome o (λ block. BlockKeeps block (ram_at s n) (pmem_at s n))
    go None at = tt
    go (Some block) at = block_keeps s keeps n block at

-- ---- K11: a node that forwards has no decoder of the range

pub own_node : (s : System) (r : Range) (n i : ℕ) (d : Decoder) → IsWhole s r → Owns s r n i d → forwards_at s.nodes n ≡ false
own_node s r n i d whole owns = (reached s r whole n (any_passes_from_place (has_range r) (decoders_at s n) i d owns.there owns.has)).0

pub record OwnsNone (s : System) (r : Range) (n : ℕ) : Type 0 where
  pub decoder : decoder_for s r n ≡ None
  pub index : index_for s r n ≡ None

pub owns_none : (s : System) (r : Range) (n : ℕ) → IsWhole s r → forwards_at s.nodes n ≡ true → OwnsNone s r n
owns_none s r n whole forwards = record { decoder = forwards_none s r n whole forwards; index = none (index_for s r n) refl }
  where
    none : (o : Option ℕ) → index_for s r n ≡ o → o ≡ None
    none None is = refl
    none (Some i) is = let own = owns_index s r n i is in absurd (clash (forwards_at s.nodes n) forwards (own_node s r n i own.0 whole own.1))

-- ---- K4 and K12 of a port

port_block : (node : Node) (o : Option Node) (endpoint : Bool) → o ≡ Some node → option_map_or (λ (n : Node). is_endpoint n.kind) o false ≡ false
    → endpoint ≡ is_endpoint node.kind → endpoint ≡ false
port_block node o endpoint at port is = is ∙ sym (ap (λ (x : Option Node). option_map_or (λ (n : Node). is_endpoint n.kind) x false) at) ∙ port

node_at : (s : System) (n : ℕ) → is_port_at s.nodes n ≡ true → (node : Node) × (slice_get s.nodes n ≡ Some node)
node_at s n port = go (slice_get s.nodes n) refl port
  where
    go : (o : Option Node) → slice_get s.nodes n ≡ o → option_map_or (λ (node : Node). not (is_endpoint node.kind)) o false ≡ true → (node : Node) × (slice_get s.nodes n ≡ Some node)
    go None at h = cc
    go (Some node) at h = (node, at)

-- ways of a code of at most 3 are a power of two
power_of_code : (d : Decoder) (code : ℕ) → d.ways ≡ code → code ≤ 3 → decoder_ways d ≡ 2 ^ select_bits d.ways
power_of_code d zero is low = rw is refl
power_of_code d (suc zero) is low = rw is refl
power_of_code d (suc (suc zero)) is low = rw is refl
power_of_code d (suc (suc (suc zero))) is low = rw is refl
power_of_code d (suc (suc (suc (suc code)))) is low = absurd (omega arith)

pub port_ways : (s : System) (r : Range) (n i : ℕ) (d : Decoder) → HasCapsOf s.blocks s.nodes → IsWhole s r → is_port_at s.nodes n ≡ true → Owns s r n i d
    → decoder_ways d ≡ 2 ^ select_bits d.ways
port_ways s r n i d caps whole port owns =
    let has = has_parts r d owns.has in
    let own = in_block s n i d owns.there in
    let block : Registers = own.block in
    let node = node_at s n port in
    let endpoint : block.endpoint ≡ false = port_block node.0 (slice_get s.nodes n) block.endpoint node.1 (no_endpoint s n port) (caps.each n block node.0 own.at node.1).endpoint in
    let kept = block_kept s n i block own.at (whole.blocks 4 n i (omega arith)) in
    let codes = asked d.committed (codes_ok block.cap block.endpoint d) (sym (codes_here block (ram_at s n) (pmem_at s n) i d own.there) ∙ kept) has.committed in
    let parts = and_parts (nat_le d.gran 6) (if block.endpoint then endpoint_ways_ok block.cap d.ways else port_ways_ok block.cap d.ways) codes in
    let ways : port_ways_ok block.cap d.ways ≡ true = sym (ap (λ (b : Bool). if b then endpoint_ways_ok block.cap d.ways else port_ways_ok block.cap d.ways) endpoint) ∙ parts.1 in
    let low = and_parts (nat_le d.ways 3) _ ways in
    power_of_code d d.ways refl (leb-true d.ways 3 low.0)

pub port_code : (s : System) (w : WindowFields) (r : Range) (n i : ℕ) (d : Decoder) → IsWhole s r → window_for s r ≡ Some w → is_port_at s.nodes n ≡ true → Owns s r n i d
    → (decoder_ways d ≡ 1) ⊎ (d.gran ≡ range_code s w r + bits_of w.ways + bits_above s r n)
port_code s w r n i d whole window port owns =
    let has = has_parts r d owns.has in
    let kept = rule_twelve s n i d owns.there (whole.range 12 n i d (omega arith) owns.there owns.has) in
    let keeps = asked d.committed (keeps_ways s n i d) kept has.committed in
    let endpoint = no_endpoint s n port in
    let test : keeps_port_code s w n d ≡ true =
    sym (ap (λ (b : Bool). ways_test s n i d (range_of d) (Some w) b) endpoint)
    ∙ sym (ap (λ (o : Option WindowFields). ways_test s n i d (range_of d) o (is_endpoint_at s.nodes n)) (ap (window_for s) (same_range r d has) ∙ window))
    ∙ keeps in
    elim (or_cases (decoder_ways d == 1) (d.gran == range_code s w (range_of d) + bits_of w.ways + bits_above s (range_of d) n) test) [
      | inl one ↦ inl (eqb-true (decoder_ways d) 1 one)
      | inr same ↦ inr (eqb-true d.gran (range_code s w (range_of d) + bits_of w.ways + bits_above s (range_of d) n) same
          ∙ ap (λ (q : Range). range_code s w q + bits_of w.ways + bits_above s q n) (same_range r d has))
    ]

-- ---- what stands above a child

-- the child's parent is node n
pub record IsUnder (s : System) (n child : ℕ) : Type 0 where
  pub parent : Parent
  pub is : parent_of s.nodes child ≡ Some parent
  pub at : parent.node ≡ n

pub under_port : (s : System) (n port child : ℕ) → AreTreeLaws s.nodes → child_of s.nodes n port ≡ Some child → IsUnder s n child
under_port s n port child laws is = record { parent = record { node = n; port = port }; is = (laws.children n port child).0 is; at = refl }

parent_is : (s : System) (n child : ℕ) (o : Option Parent) → parent_of s.nodes child ≡ o → option_map (λ (parent : Parent). parent.node) o ≡ Some n → IsUnder s n child
parent_is s n child None is at = cc
parent_is s n child (Some parent) is at = record { parent = parent; is = is; at = cc }

pub under_forwarding : (s : System) (n child : ℕ) → AreTreeLaws s.nodes → forwards_at s.nodes n ≡ true → least_child_of s.nodes n ≡ Some child → IsUnder s n child
under_forwarding s n child laws forwards is = parent_is s n child (parent_of s.nodes child) refl ((laws.only_children n child forwards).0 is)

-- what is gathered of the nodes above a child begins with its parent's
above_child : {Y : Type 0} (f : ℕ → Option Y) (s : System) (n child : ℕ) → AreTreeLaws s.nodes → IsUnder s n child
    → filter_map (λ (p : Parent). f p.node) (ports_above s.nodes child) ≡ cons_option (f n) (filter_map (λ (p : Parent). f p.node) (ports_above s.nodes n))
above_child f s n child laws under =
    let nodes : List Node = s.nodes in
    ap (filter_map (λ (p : Parent). f p.node)) (laws.ports child ∙ ap (λ (o : Option Parent). option_map_or (λ parent. parent ∷ ports_above nodes parent.node) o []) under.is)
    ∙ ap (λ (m : ℕ). cons_option (f m) (filter_map (λ (p : Parent). f p.node) (ports_above nodes m))) under.at

pub ports_below : (s : System) (r : Range) (n child : ℕ) → AreTreeLaws s.nodes → IsUnder s n child → ports_for s r child ≡ cons_option (decoder_for s r n) (ports_for s r n)
ports_below s r n child laws under = above_child (decoder_for s r) s n child laws under

pub steps_below : (s : System) (w : WindowFields) (r : Range) (slot n child : ℕ) → AreTreeLaws s.nodes → IsUnder s n child
    → slot_steps s w r slot child ≡ reverse (cons_option (slot_step s w r slot n) (filter_map (λ parent. slot_step s w r slot parent.node) (ports_above s.nodes n)))
steps_below s w r slot n child laws under = ap reverse (above_child (slot_step s w r slot) s n child laws under)
