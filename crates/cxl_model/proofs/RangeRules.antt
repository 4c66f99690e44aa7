-- What the rules of a whole range say of a node that serves it.
use Rattle.std.proofs.Common.{◌≡◌, ℕ, ◌+◌, ◌<◌, ◌≤◌, Bool, true, false, not, ◌&&◌, ◌||◌, cond, List, [], ◌∷◌, Option, Some, None, refl, sym, ap, ◌∙◌, subst, inl, inr, arith}
use Rattle.std.specs.Prelude.{slice_get, ◌==◌, find}
use Rattle.std.specs.Option.{option_map_or, option_and_then}
use Rattle.std.specs.List.{list_any, list_all}
use Rattle.std.proofs.lemmas.Bool.{cases_lt, cases_Bool, and_parts, or_cases, or_parts, eqb-true, false≢true, not-true, not_from_true, true≢false}
use Rattle.std.proofs.lemmas.Option.{same_Some}
use Rattle.std.proofs.lemmas.Map.Keys.{any_passes_from_place}
use Rattle.cxl_enc.proofs.Lists.{first_of}
use Rattle.cxl_enc.proofs.Tests.{asked, asked_of}
use Rattle.cxl_topo.specs.declared.node.Parent.{Parent}
use Rattle.cxl_topo.specs.Tree.{forwards_at, is_endpoint_at, uid_at, parent_of, decoding_port_of}
use Rattle.cxl_regs.specs.declared.decoder.Decoder.{Decoder}
use Rattle.cxl_regs.specs.Registers.{Registers, reset_decoder}
use Rattle.cxl_span.specs.Breaches.{breaks as block_breaks, BlockKeeps}
use Rattle.cxl_window.specs.Fields.{WindowFields}
use Rattle.cxl_topo.proofs.Trees.{KnownTree, up_tree, leaves_at, leaves_root, leaves_step, root_step, decoding_none, decoding_here, decoding_past, same_port}
use Rattle.cxl_regs.specs.declared.reading.Range.{Range}
use Rattle.cxl_regs.specs.Reading.{entries_of, range_of, has_range}
use Rattle.cxl_regs.proofs.DecoderRanges.{Holds, has_parts, same_range, range_held}
use Rattle.cxl_span.proofs.RulesBroken.{no_rule}
use Rattle.cxl_model.specs.System.{System, decoders_at, decoder_at, ram_at, pmem_at}
use Rattle.cxl_model.specs.Ranges.{serves, decoder_for, index_for, window_for}
use Rattle.cxl_model.specs.Rules.{keeps_window, keeps_targets, keeps_reach, are_distinct, leads_on, is_bridge_landing, targets_land, lists, is_targeted}
use Rattle.cxl_model.specs.Accepted.{breaks, breaks_at, KeepsBlocks, IsWhole}
use Rattle.cxl_model.proofs.OtherBlocks.{block_rule}
use Rattle.cxl_model.proofs.RangeServers.{in_block}

-- ---- blocks

-- each block keeps the rules K2 to K8
pub block_keeps : (s : System) → KeepsBlocks s → (n : ℕ) (block : Registers) → slice_get s.blocks n ≡ Some block → BlockKeeps block (ram_at s n) (pmem_at s n)
block_keeps s keeps n block at = record {
  each = λ rule i. elim (cases_lt rule 2) [
    | inl low ↦ no_rule rule block (ram_at s n) (pmem_at s n) i (inl low)
    | inr past ↦ elim (cases_lt rule 9) [
      | inl within ↦
          sym (ap (λ (o : Option Registers). option_map_or (λ b. block_breaks rule b (ram_at s n) (pmem_at s n) i) o false) at)
          ∙ sym (block_rule s rule n i (λ e. omega arith) within) ∙ keeps rule n i within
      | inr high ↦ no_rule rule block (ram_at s n) (pmem_at s n) i (inr high)
    ]
  ];
}

-- a decoder of a node is one of the node's block
pub at_in_block : (s : System) (n : ℕ) (block : Registers) → slice_get s.blocks n ≡ Some block → (i : ℕ) (d : Decoder) → decoder_at s n i ≡ Some d → slice_get block.decoders i ≡ Some d
at_in_block s n block at i d there = sym (ap (λ (o : Option Registers). slice_get (option_map_or (λ b. b.decoders) o []) i) at) ∙ there

-- ---- the decoder of the range

-- decoder d, with number i, is the first of node n with the range
pub record ServesAt (s : System) (r : Range) (n : ℕ) : Type 0 where
  pub i : ℕ
  pub d : Decoder
  pub there : decoder_at s n i ≡ Some d
  pub has : has_range r d ≡ true
  pub first : decoder_for s r n ≡ Some d
  pub number : index_for s r n ≡ Some i

pub served : (s : System) (r : Range) (n : ℕ) → serves s r n ≡ true → ServesAt s r n
served s r n is =
    let at = first_of reset_decoder (has_range r) (decoders_at s n) is in
    record { i = at.i; d = at.x; there = at.at; has = at.passes; first = at.found; number = at.place }

-- a node that does not serve the range has no decoder of it
pub no_decoder : (s : System) (r : Range) (n : ℕ) → serves s r n ≡ false → decoder_for s r n ≡ None
no_decoder s r n other = go (decoders_at s n) other
  where
    go : (ds : List Decoder) → list_any (has_range r) ds ≡ false → find (has_range r) ds ≡ None
    go [] none = refl
    go (d ∷ ds) none =
        let parts = or_parts (has_range r d) (list_any (has_range r) ds) none in
        ap (λ b. cond b (Some d) (find (has_range r) ds)) parts.0 ∙ go ds parts.1

-- what the laws of ranges say of blocks that keep K2 to K8
pub record RangesRise : Type 0 where
  pub apart : (block : Registers) (ram pmem i j : ℕ) (d e : Decoder) → BlockKeeps block ram pmem → slice_get block.decoders i ≡ Some d
      → slice_get block.decoders j ≡ Some e → i < j → e.committed ≡ true → d.base + d.size ≤ e.base
  pub some : (block : Registers) (ram pmem i : ℕ) (d : Decoder) → BlockKeeps block ram pmem → slice_get block.decoders i ≡ Some d → d.committed ≡ true → 0 < d.size

-- the same of the decoders of a node
pub rise_at : RangesRise → (s : System) → KeepsBlocks s → (n i j : ℕ) (d e : Decoder) → decoder_at s n i ≡ Some d → decoder_at s n j ≡ Some e → i < j → e.committed ≡ true → d.base + d.size ≤ e.base
rise_at rise s keeps n i j d e d_there e_there less committed =
    let own = in_block s n i d d_there in
    rise.apart own.block (ram_at s n) (pmem_at s n) i j d e (block_keeps s keeps n own.block own.at) own.there (at_in_block s n own.block own.at j e e_there) less committed

pub bytes_at : RangesRise → (s : System) → KeepsBlocks s → (n i : ℕ) (d : Decoder) → decoder_at s n i ≡ Some d → d.committed ≡ true → 0 < d.size
bytes_at rise s keeps n i d there committed =
    let own = in_block s n i d there in
    rise.some own.block (ram_at s n) (pmem_at s n) i d (block_keeps s keeps n own.block own.at) own.there committed

-- committed decoders of a node that hold an address in common are one
pub one_holder : RangesRise → (s : System) → KeepsBlocks s → (h n i j : ℕ) (d e : Decoder) → decoder_at s n i ≡ Some d → decoder_at s n j ≡ Some e → Holds d h → Holds e h → i ≡ j
one_holder rise s keeps h n i j d e d_there e_there one other =
    let d_from = one.from in
    let d_below = one.below in
    let e_from = other.from in
    let e_below = other.below in
    elim (cases_lt i j) [
      | inl less ↦ let apart = rise_at rise s keeps n i j d e d_there e_there less other.committed in absurd (omega (arith, apart, d_below, e_from))
      | inr past ↦ elim (cases_lt j i) [
        | inl more ↦ let apart = rise_at rise s keeps n j i e d e_there d_there more one.committed in absurd (omega (arith, apart, e_below, d_from))
        | inr at ↦ omega arith
      ]
    ]

-- a node has one decoder of a range
pub one_of_range : RangesRise → (s : System) (r : Range) → KeepsBlocks s → (n i j : ℕ) (d e : Decoder) → decoder_at s n i ≡ Some d → decoder_at s n j ≡ Some e
    → has_range r d ≡ true → has_range r e ≡ true → i ≡ j
one_of_range rise s r keeps n i j d e d_there e_there d_has e_has =
    let own = has_parts r d d_has in
    let size = own.size in
    let bytes = bytes_at rise s keeps n i d d_there own.committed in
    let below : r.base < r.base + r.size = omega (arith, bytes, size) in
    one_holder rise s keeps r.base n i j d e d_there e_there (range_held r d r.base d_has (omega arith) below) (range_held r e r.base e_has (omega arith) below)

-- ---- the rules

-- a rule that is kept of a committed decoder
pub kept : (s : System) (n i : ℕ) (d : Decoder) (keeps : Decoder → Bool) → decoder_at s n i ≡ Some d → d.committed ≡ true → breaks_at s n i keeps ≡ false → keeps d ≡ true
kept s n i d keeps there committed unbroken =
    asked d.committed (keeps d) (sym (ap (λ (o : Option Decoder). option_map_or (λ e. e.committed && not (keeps e)) o false) there) ∙ unbroken) committed

pub rule_nine : (s : System) (n i : ℕ) → breaks s 9 n i ≡ breaks_at s n i (keeps_window s n i)
unfolding breaks
rule_nine s n i = refl

pub rule_ten : (s : System) (n i : ℕ) → breaks s 10 n i ≡ breaks_at s n i (keeps_targets s n)
unfolding breaks
rule_ten s n i = refl

pub rule_eleven : (s : System) (n i : ℕ) → breaks s 11 n i ≡ breaks_at s n i (keeps_reach s n)
unfolding breaks
rule_eleven s n i = refl

-- K9: the range lies in a window
pub in_window : (s : System) (r : Range) → IsWhole s r → (n i : ℕ) (d : Decoder) → decoder_at s n i ≡ Some d → has_range r d ≡ true
    → (w : WindowFields) × (window_for s r ≡ Some w)
in_window s r whole n i d there has =
    let own = has_parts r d has in
    let keeps : keeps_window s n i d ≡ true = kept s n i d (keeps_window s n i) there own.committed (sym (rule_nine s n i) ∙ whole.range 9 n i d (omega arith) there has) in
    go _ (window_for s (range_of d)) (ap (window_for s) (sym (same_range r d own))) keeps
  where
    go : (P : WindowFields → Bool) (o : Option WindowFields) → window_for s r ≡ o → option_map_or P o false ≡ true → (w : WindowFields) × (window_for s r ≡ Some w)
    go P None is keeps = absurd (false≢true keeps)
    go P (Some w) is keeps = (w, is)

-- K10: a port's entries differ, and each leads on; the targets of the window land on the range, where the node is the landing of a bridge
pub record Leads (s : System) (r : Range) (n : ℕ) (d : Decoder) : Type 0 where
  pub ways : is_endpoint_at s.nodes n ≡ false → (are_distinct (entries_of d) ≡ true) × (list_all (leads_on s r n) (entries_of d) ≡ true)
  pub targets : is_bridge_landing s.nodes n ≡ true → option_map_or (targets_land s r) (window_for s r) true ≡ true

-- K10's test, by its range
abbrev targets_test : System → ℕ → Decoder → Range → Bool
targets_test s n d r =
    (is_endpoint_at s.nodes n || (are_distinct (entries_of d) && list_all (leads_on s r n) (entries_of d)))
    && (not (is_bridge_landing s.nodes n) || option_map_or (targets_land s r) (window_for s r) true)

pub leads : (s : System) (r : Range) → IsWhole s r → (n i : ℕ) (d : Decoder) → decoder_at s n i ≡ Some d → has_range r d ≡ true → Leads s r n d
leads s r whole n i d there has =
    let own = has_parts r d has in
    let keeps : keeps_targets s n d ≡ true = kept s n i d (keeps_targets s n) there own.committed (sym (rule_ten s n i) ∙ whole.range 10 n i d (omega arith) there has) in
    let moved : targets_test s n d r ≡ true = ap (targets_test s n d) (sym (same_range r d own)) ∙ keeps in
    let ways : Bool = are_distinct (entries_of d) && list_all (leads_on s r n) (entries_of d) in
    let land : Bool = option_map_or (targets_land s r) (window_for s r) true in
    let parts = and_parts (is_endpoint_at s.nodes n || ways) (not (is_bridge_landing s.nodes n) || land) moved in
    record {
      ways = λ port. and_parts (are_distinct (entries_of d)) (list_all (leads_on s r n) (entries_of d)) (asked_of (is_endpoint_at s.nodes n) ways parts.0 port);
      targets = λ landing. asked_of (not (is_bridge_landing s.nodes n)) land parts.1 (not_from_true (is_bridge_landing s.nodes n) landing);
    }

-- K11: its decoding parent lists it, or its bridge is targeted
abbrev pub is_reached : System → Range → ℕ → Bool
is_reached s r n = option_map_or (lists s r) (decoding_port_of s.nodes n) (is_targeted s r n)

pub reached : (s : System) (r : Range) → IsWhole s r → (n : ℕ) → serves s r n ≡ true → (forwards_at s.nodes n ≡ false) × (is_reached s r n ≡ true)
reached s r whole n is =
    let at = served s r n is in
    let own = has_parts r at.d at.has in
    let keeps : keeps_reach s n at.d ≡ true = kept s n at.i at.d (keeps_reach s n) at.there own.committed (sym (rule_eleven s n at.i) ∙ whole.range 11 n at.i at.d (omega arith) at.there at.has) in
    let moved : (not (forwards_at s.nodes n) && is_reached s r n) ≡ true = ap (λ (q : Range). not (forwards_at s.nodes n) && is_reached s q n) (sym (same_range r at.d own)) ∙ keeps in
    let parts = and_parts (not (forwards_at s.nodes n)) (is_reached s r n) moved in
    (not-true (forwards_at s.nodes n) parts.0, parts.1)

-- ---- who is listed

-- a port that is listed for the range stands in the entries of its node's decoder of it
pub record ListedBy (s : System) (r : Range) (p : Parent) : Type 0 where
  pub serves : serves s r p.node ≡ true
  pub entry : (i : ℕ) (d : Decoder) → decoder_at s p.node i ≡ Some d → has_range r d ≡ true → list_any (λ port. port == p.port) (entries_of d) ≡ true

pub listed_by : RangesRise → (s : System) (r : Range) → KeepsBlocks s → (p : Parent) → lists s r p ≡ true → ListedBy s r p
listed_by rise s r keeps p listed =
    let some = first_of reset_decoder (λ d. has_range r d && list_any (λ port. port == p.port) (entries_of d)) (decoders_at s p.node) listed in
    let d : Decoder = some.x in
    let parts = and_parts (has_range r d) (list_any (λ port. port == p.port) (entries_of d)) some.passes in
    record {
      serves = any_passes_from_place (has_range r) (decoders_at s p.node) some.i d some.at parts.0;
      entry = λ i e there has.
          let same : some.i ≡ i = one_of_range rise s r keeps p.node some.i i d e some.at there parts.0 has in
          let here : d ≡ e = same_Some d e (sym some.at ∙ ap (slice_get (decoders_at s p.node)) same ∙ there) in
          subst (λ (x : Decoder). list_any (λ port. port == p.port) (entries_of x) ≡ true) here parts.1;
    }

-- ---- ways up

targeted_step : (s : System) (r : Range) → KnownTree s.nodes → (i : ℕ) (p : Parent) → parent_of s.nodes i ≡ Some p → is_targeted s r i ≡ is_targeted s r p.node
targeted_step s r known i p some =
    ap (λ (o : Option ℕ). option_map_or (λ w. option_map_or (λ uid. list_any (λ target. target == uid) w.targets) (option_and_then (uid_at s.nodes) o) false) (window_for s r) false)
    (root_step known i p some)

-- where the parent decodes, it lists the node and is reached itself; else it is reached as the node is
pub parent_reached : RangesRise → (s : System) (r : Range) → KnownTree s.nodes → IsWhole s r → (i : ℕ) (p : Parent) → parent_of s.nodes i ≡ Some p → is_reached s r i ≡ true
    → (is_reached s r p.node ≡ true) × (forwards_at s.nodes p.node ≡ false → lists s r p ≡ true)
parent_reached rise s r known whole i p some is =
    elim (cases_Bool (forwards_at s.nodes p.node)) [
      | inl forwards ↦
          let same : is_reached s r i ≡ is_reached s r p.node =
          ap (λ (o : Option Parent). option_map_or (lists s r) o (is_targeted s r i)) (decoding_past known i p some forwards)
          ∙ ap (λ b. option_map_or (lists s r) (decoding_port_of s.nodes p.node) b) (targeted_step s r known i p some) in
          (sym same ∙ is, λ own. absurd (true≢false (sym forwards ∙ own)))
      | inr own ↦
          let listed : lists s r p ≡ true = sym (ap (λ (o : Option Parent). option_map_or (lists s r) o (is_targeted s r i)) (decoding_here known i p some own)) ∙ is in
          ((reached s r whole p.node (listed_by rise s r whole.blocks p listed).serves).1, λ same. listed)
    ]

-- each node above that does not forward lists the port by which it is left
pub all_listed : RangesRise → (s : System) (r : Range) → KnownTree s.nodes → IsWhole s r → (n e : ℕ) → forwards_at s.nodes n ≡ false
    → (i : ℕ) → is_reached s r i ≡ true → leaves_at s.nodes n e i ≡ true → lists s r (record { node = n; port = e }) ≡ true
all_listed rise s r known whole n e own =
    up_tree known (λ i. is_reached s r i ≡ true → leaves_at s.nodes n e i ≡ true → lists s r (record { node = n; port = e }) ≡ true)
    (λ i none is leaves. absurd (false≢true (sym (leaves_root known n e i none) ∙ leaves)))
    (λ i p some rest is leaves.
    let up = parent_reached rise s r known whole i p some is in
    elim (or_cases ((p.node == n) && (p.port == e)) (leaves_at s.nodes n e p.node) (sym (leaves_step known n e i p some) ∙ leaves)) [
      | inl here ↦
          let parts = and_parts (p.node == n) (p.port == e) here in
          let node = eqb-true p.node n parts.0 in
          let port = eqb-true p.port e parts.1 in
          let listed : lists s r p ≡ true = up.1 (ap (forwards_at s.nodes) node ∙ own) in
          ap (λ (q : Parent). lists s r q) (sym (same_port p n e node port)) ∙ listed
      | inr higher ↦ rest up.0 higher
    ])

-- the window targets the bridge above each node that is reached
pub all_targeted : RangesRise → (s : System) (r : Range) → KnownTree s.nodes → IsWhole s r → (i : ℕ) → is_reached s r i ≡ true → is_targeted s r i ≡ true
all_targeted rise s r known whole =
    up_tree known (λ i. is_reached s r i ≡ true → is_targeted s r i ≡ true)
    (λ i none is. sym (ap (λ (o : Option Parent). option_map_or (lists s r) o (is_targeted s r i)) (decoding_none known i none)) ∙ is)
    (λ i p some rest is. targeted_step s r known i p some ∙ rest (parent_reached rise s r known whole i p some is).0)
