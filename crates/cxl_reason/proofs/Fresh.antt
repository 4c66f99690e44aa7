-- A host after reset, under one window that has the ways and targets of another.
use Rattle.std.proofs.Common.{◌≡◌, ℕ, zero, suc, ◌+◌, ◌-◌, ◌*◌, ◌/◌, ◌%◌, ◌<◌, ◌≤◌, Bool, true, false, not, ◌&&◌, max, if◌then◌else◌, List, [], ◌∷◌, length, map, Option, Some, None, refl, sym, ap, ◌∙◌, subst, inl, inr, arith}
use Rattle.std.specs.Prelude.{◌==◌, nat_le, nat_lt, slice_get, All, Contains, replicate}
use Rattle.std.specs.Option.{option_map_or, option_and_then}
use Rattle.std.specs.List.{list_all}
use Rattle.std.proofs.Math.Nat.{mul-mod_left, mod_self, mul-div_left}
use Rattle.std.proofs.lemmas.Bool.{cases_Bool, and_parts, and_from, eqb-true, eqb-false, leb-true, le-leb, ltb-true, lt-ltb, not-true, false≢true}
use Rattle.std.proofs.lemmas.Option.{none-some, same_Some}
use Rattle.cxl_enc.specs.Bits.{window_fixed}
use Rattle.cxl_enc.specs.Caps.{decoders_code, decoders_of}
use Rattle.cxl_enc.specs.Codes.{is_ways}
use Rattle.cxl_enc.specs.Limits.{unit}
use Rattle.cxl_enc.specs.declared.caps.MemKind.{MemKind}
use Rattle.cxl_enc.specs.declared.caps.MemKind.TheVariants.{Ram, Pmem}
use Rattle.cxl_enc.proofs.Lists.{All-at, All-one, contains_cases, contains_none}
use Rattle.cxl_enc.proofs.Ways.{some_ways, few_ways}
use Rattle.cxl_topo.specs.declared.node.Node.{Node}
use Rattle.cxl_topo.specs.declared.node.Capacity.{Capacity}
use Rattle.cxl_topo.specs.Kinds.{capacity_of}
use Rattle.cxl_topo.specs.Tree.{is_endpoint_at, bridge_uids}
use Rattle.cxl_topo.specs.Faults.{IsTree}
use Rattle.cxl_topo.proofs.Trees.{KnownTree, endpoint_within}
use Rattle.cxl_regs.specs.Registers.{reset_decoder}
use Rattle.cxl_regs.specs.Reading.{committed_count}
use Rattle.cxl_regs.specs.Words.{has_bit}
use Rattle.cxl_image.specs.Images.{reset_block_of}
use Rattle.cxl_span.specs.declared.allotting.Span.{Span}
use Rattle.cxl_span.specs.Allotting.{all_committed, cursor_of}
use Rattle.cxl_span.specs.Spans.{span_end_of}
use Rattle.cxl_span.specs.Partitions.{partition_start, partition_end}
use Rattle.cxl_window.specs.Fields.{WindowFields, IsWindow, IsUsable}
use Rattle.cxl_window.specs.Position.{is_usable}
use Rattle.cxl_window.specs.declared.window.Verdict.{Verdict}
use Rattle.cxl_window.specs.declared.window.Verdict.TheVariants.{Usable, Align, Size, TooHigh, Overlap, Target, Repeat, Maps}
use Rattle.cxl_model.specs.System.{System, IsSystem, decoders_at, ram_at, pmem_at}
use Rattle.cxl_model.specs.Rules.{permits}
use Rattle.cxl_model.proofs.Under.{under_later}
use Rattle.cxl_legal.specs.Used.{is_used, AreEndpoints}
use Rattle.cxl_legal.specs.Bases.{last_end}
use Rattle.cxl_legal.specs.Endpoints.{HasRoom, share_of, lacks_decoder}
use Rattle.cxl_legal.specs.Sizes.{IsSizeFor}
use Rattle.cxl_legal.specs.Windows.{agrees_on_gran}
use Rattle.cxl_legal.proofs.UsedNodes.{requested_under}
use Rattle.cxl_pick.specs.declared.want.Want.{Want}
use Rattle.cxl_pick.specs.Picking.{asked, is_open}
use Rattle.cxl_reason.specs.Reasons.{IsAskedOf, has_kind}
use Rattle.cxl_reason.specs.inner.Asked.{HasResetBlocks, after_reset, least_want, is_open_to}
use Rattle.cxl_reason.proofs.Opens.{under, moved}

-- ---- blocks after reset

replicated : (k : ℕ) → committed_count (replicate k reset_decoder) ≡ 0
replicated zero = refl
replicated (suc k) = refl

fresh_count : (nodes : List Node) (n : ℕ) → committed_count (option_map_or (λ block. block.decoders) (slice_get (map reset_block_of nodes) n) []) ≡ 0
fresh_count [] zero = refl
fresh_count [] (suc n) = refl
fresh_count (node ∷ nodes) zero = replicated (decoders_of (decoders_code node.cap))
fresh_count (node ∷ nodes) (suc n) = fresh_count nodes n

some_decoders : (code : ℕ) → 0 < decoders_of code
some_decoders code = go (code == 0) refl
  where
    go : (b : Bool) → (code == 0) ≡ b → 0 < (if b then 1 else 2 * code)
    go true at = omega arith
    go false at = let other = eqb-false code 0 at in omega (arith, other)

some_left : (k : ℕ) → 0 < k → list_all (λ d. d.committed) (replicate k reset_decoder) ≡ false
some_left zero some = absurd (omega (arith, some))
some_left (suc k) some = refl

fresh_left : (nodes : List Node) (n : ℕ) → n < length nodes → all_committed (option_map_or (λ block. block.decoders) (slice_get (map reset_block_of nodes) n) []) ≡ false
fresh_left [] n within = absurd (omega (arith, within))
fresh_left (node ∷ nodes) zero within = some_left (decoders_of (decoders_code node.cap)) (some_decoders (decoders_code node.cap))
fresh_left (node ∷ nodes) (suc n) within = fresh_left nodes n (omega (arith, within))

pub fresh_end : (s : System) (n : ℕ) → last_end (after_reset s) n ≡ 0
fresh_end s n = ap (λ (k : ℕ). if k == 0 then 0 else option_map_or (λ d. d.base + d.size) (slice_get (decoders_at (after_reset s) n) (committed_count (decoders_at (after_reset s) n) - 1)) 0) (fresh_count s.nodes n)

fresh_cursor : (s : System) (n : ℕ) → cursor_of (decoders_at (after_reset s) n) ≡ 0
fresh_cursor s n = ap (λ (k : ℕ). if k == 0 then 0 else span_end_of (decoders_at (after_reset s) n) (committed_count (decoders_at (after_reset s) n) - 1)) (fresh_count s.nodes n)

-- nodes are open from any start
pub open_alike : (s : System) (a b n : ℕ) → is_open (after_reset s) a n ≡ is_open (after_reset s) b n
open_alike s a b n =
    ap (λ (k : ℕ). not (all_committed (decoders_at (after_reset s) n)) && nat_le k a) (fresh_end s n)
    ∙ ap (λ (b : Bool). not (all_committed (decoders_at (after_reset s) n)) && b) (le-leb 0 a (omega arith) ∙ sym (le-leb 0 b (omega arith)))
    ∙ sym (ap (λ (k : ℕ). not (all_committed (decoders_at (after_reset s) n)) && nat_le k b) (fresh_end s n))

-- ---- the window

usable_verdict : (v : Verdict) → is_usable v ≡ true → v ≡ Usable
usable_verdict Usable is = refl
usable_verdict Align is = absurd (false≢true is)
usable_verdict Size is = absurd (false≢true is)
usable_verdict TooHigh is = absurd (false≢true is)
usable_verdict (Overlap i) is = absurd (false≢true is)
usable_verdict (Target u) is = absurd (false≢true is)
usable_verdict (Repeat u) is = absurd (false≢true is)
usable_verdict Maps is = absurd (false≢true is)

-- the conditions of a window that can be taken, one by one
pub record OpenParts (want : Want) (w : WindowFields) : Type 0 where
  pub usable : is_usable w.verdict ≡ true
  pub kind : permits w want.kind ≡ true
  pub not_fixed : has_bit w.restrict window_fixed ≡ false
  pub gran : agrees_on_gran want.gran w ≡ true

pub open_parts : (want : Want) (w : WindowFields) → is_open_to want w ≡ true → OpenParts want w
open_parts want w is =
    let a = and_parts (is_usable w.verdict && permits w want.kind && not (has_bit w.restrict window_fixed)) (agrees_on_gran want.gran w) is in
    let b = and_parts (is_usable w.verdict && permits w want.kind) (not (has_bit w.restrict window_fixed)) a.0 in
    let c = and_parts (is_usable w.verdict) (permits w want.kind) b.0 in
    record { usable = c.0; kind = c.1; not_fixed = not-true (has_bit w.restrict window_fixed) b.1; gran = a.1 }

-- the window's size, of which there is enough for any ways
abbrev pub ample : WindowFields → ℕ
ample w = 16 * (unit * w.ways)

abbrev pub alone : WindowFields → WindowFields
alone w = moved w 0 0 (ample w)

-- the host after reset, under that window alone
abbrev pub reset_under : System → WindowFields → System
reset_under s w = under (after_reset s) (alone w ∷ [])

module _ (s : System) (want : Want) (w : WindowFields) (is : IsAskedOf s want) (fresh : HasResetBlocks s) (there : slice_get s.windows w.index ≡ Some w) (opened : is_open_to want w ≡ true) where
  parts : OpenParts want w
  parts = open_parts want w opened

  own : IsWindow w
  own = All-at IsWindow s.windows w.index w there is.system.made.each

  targets : IsUsable w × All (λ u. Contains (bridge_uids s.nodes) u) w.targets
  targets = All-at (λ v. v.verdict ≡ Usable → IsUsable v × All (λ u. Contains (bridge_uids s.nodes) u) v.targets) s.windows w.index w there is.system.made.usable (usable_verdict w.verdict parts.usable)

  pub some_way : 0 < w.ways
  some_way = some_ways w.ways own.ways_known

  alone_usable : IsUsable (alone w)
  alone_usable =
      let some = some_way in
      let few = few_ways w.ways own.ways_known in
      record {
        aligned = refl;
        some = omega (arith, some);
        even = mul-mod_left 16 (unit * w.ways);
        low = omega (arith, few);
        distinct = targets.0.distinct;
        maps = λ none. absurd (false≢true none);
      }

  alone_window : IsWindow (alone w)
  alone_window = record {
    ways_known = own.ways_known;
    gran_known = own.gran_known;
    four_maps = own.four_maps;
    target_each_way = own.target_each_way;
    usable = λ _. alone_usable;
  }

  only : (v : WindowFields) → Contains (alone w ∷ []) v → alone w ≡ v
  only v in_all = elim (contains_cases (alone w) v [] in_all) [ inl same ↦ same | inr none ↦ absurd (contains_none v none) ]

  indexed : (i : ℕ) (v : WindowFields) → slice_get (alone w ∷ []) i ≡ Some v → v.index ≡ i
  indexed zero v at = sym (ap (λ (x : WindowFields). x.index) (same_Some (alone w) v at))
  indexed (suc zero) v none = absurd (none-some v none)
  indexed (suc (suc i)) v none = absurd (none-some v none)

  pub reset_system : IsSystem (reset_under s w)
  reset_system = record {
    tree = is.system.tree;
    blocks = fresh.blocks;
    caps = fresh.caps;
    made = record {
      each = All-one IsWindow (alone w) alone_window;
      indexed = indexed;
      usable = All-one (λ v. v.verdict ≡ Usable → IsUsable v × All (λ u. Contains (bridge_uids s.nodes) u) v.targets) (alone w) (λ _. (alone_usable, targets.1));
      apart = λ a b first second h _ _ _ _ _ _. sym (ap (λ (x : WindowFields). x.index) (only a first)) ∙ ap (λ (x : WindowFields). x.index) (only b second);
    };
  }

  pub least_size : IsSizeFor (unit * want.ways) want.ways
  least_size =
      let some = some_ways want.ways is.ways in
      let few = few_ways want.ways is.ways in
      record { some = omega (arith, some); even = mod_self (unit * want.ways); low = omega (arith, few) }

  pub enough : unit * want.ways ≤ ample w
  enough =
      let some = some_way in
      let few = few_ways want.ways is.ways in
      omega (arith, some, few)

-- ---- room

-- where so many bytes lie in a partition
room_of_kind : (kind : MemKind) (ram pmem : ℕ) → ram % unit ≡ 0 → pmem % unit ≡ 0 → nat_lt (partition_start kind ram) (partition_end kind ram pmem) ≡ true → partition_start kind ram + unit ≤ partition_end kind ram pmem
room_of_kind Ram ram pmem even other some = let less = ltb-true 0 ram some in omega (arith, even, less)
room_of_kind Pmem ram pmem even other some = let less = ltb-true ram (ram + pmem) some in omega (arith, other, less)

module _ (nodes : List Node) (tree : IsTree nodes) where
  record Whole (c : Option Capacity) : Type 0 where
    pub ram : option_map_or (λ (d : Capacity). d.ram) c 0 % unit ≡ 0
    pub pmem : option_map_or (λ (d : Capacity). d.pmem) c 0 % unit ≡ 0

  whole_at : (n : ℕ) → Whole (option_and_then (λ (node : Node). capacity_of node.kind) (slice_get nodes n))
  whole_at n = go (slice_get nodes n) refl
    where
      of_kind : (node : Node) → slice_get nodes n ≡ Some node → (o : Option Capacity) → capacity_of node.kind ≡ o → Whole o
      of_kind node here None e = record { ram = refl; pmem = refl }
      of_kind node here (Some c) e =
          let all = and_parts ((c.ram % unit == 0) && (c.pmem % unit == 0)) _ (tree.capacities n node c here e) in
          let both = and_parts (c.ram % unit == 0) (c.pmem % unit == 0) all.0 in
          record { ram = eqb-true (c.ram % unit) 0 both.0; pmem = eqb-true (c.pmem % unit) 0 both.1 }

      go : (o : Option Node) → slice_get nodes n ≡ o → Whole (option_and_then (λ (node : Node). capacity_of node.kind) o)
      go None e = record { ram = refl; pmem = refl }
      go (Some node) e = of_kind node e (capacity_of node.kind) refl

-- the share of the least size is 256 MiB
pub least_share : (want : Want) (set : List ℕ) → is_ways want.ways ≡ true → length set ≡ want.ways → share_of (asked (least_want want) set) ≡ unit
least_share want set known count =
    ap (λ (k : ℕ). unit * want.ways / k) count ∙ mul-div_left unit (some_ways want.ways known)

-- an endpoint of the kind has room for it after reset
pub fresh_room : (s : System) (want : Want) (set : List ℕ) (m : ℕ) (windows : List WindowFields) → IsTree s.nodes → is_ways want.ways ≡ true → length set ≡ want.ways → is_endpoint_at s.nodes m ≡ true → has_kind s want.kind m ≡ true
    → HasRoom (under (after_reset s) windows) (asked (least_want want) set) m
fresh_room s want set m windows tree known count endpoint kind =
    let whole = whole_at s.nodes tree m in
    let low : ℕ = partition_start want.kind (ram_at s m) in
    let high : ℕ = partition_end want.kind (ram_at s m) (pmem_at s m) in
    let start : ℕ = max (cursor_of (decoders_at (after_reset s) m)) low in
    let cursor = fresh_cursor s m in
    let share : ℕ = share_of (asked (least_want want) set) in
    let least = least_share want set known count in
    let fits = room_of_kind want.kind (ram_at s m) (pmem_at s m) whole.ram whole.pmem kind in
    let ends : start + share ≤ high = omega (arith, cursor, least, fits) in
    let span : Span = record { start = start; skip = start - cursor_of (decoders_at (after_reset s) m); len = share } in (
      span,
      record {
        left = fresh_left s.nodes m (endpoint_within s.nodes m endpoint);
        can_start = record {
          after = omega arith;
          inside = and_from (nat_le low start) (nat_le (start + share) high) (le-leb low start (omega arith)) (le-leb (start + share) high ends);
        };
        least = λ other can.
            let past = can.after in
            let both = and_parts (nat_le low other) (nat_le (other + share) high) can.inside in
            let above = leb-true low other both.0 in
            omega (arith, past, above);
        skip = omega arith;
        length = refl;
      },
    )

-- an endpoint with room for some bytes is one of the kind
pub kind_where_room : (s : System) (want : Want) (set : List ℕ) (m : ℕ) → 0 < share_of (asked want set) → HasRoom s (asked want set) m → has_kind s want.kind m ≡ true
kind_where_room s want set m some room =
    let low : ℕ = partition_start want.kind (ram_at s m) in
    let high : ℕ = partition_end want.kind (ram_at s m) (pmem_at s m) in
    let both = and_parts (nat_le low room.0.start) (nat_le (room.0.start + share_of (asked want set)) high) room.1.can_start.inside in
    let from = leb-true low room.0.start both.0 in
    let until = leb-true (room.0.start + share_of (asked want set)) high both.1 in
    lt-ltb low high (omega (arith, some, from, until))

-- ---- decoders

-- a used node is one of the tree's
pub used_within : (s : System) (want : Want) (set : List ℕ) → KnownTree s.nodes → AreEndpoints s (asked want set) → (n : ℕ) → is_used s (asked want set) n ≡ true → n < length s.nodes
used_within s want set known named n used =
    let one = requested_under s (asked want set) n used in
    let low = under_later known n one.m one.under in
    let there = one.there in
    let endpoint = named there.0 one.m there.1 in
    let within = endpoint_within s.nodes one.m (subst (λ (k : ℕ). is_endpoint_at s.nodes k ≡ true) there.2 endpoint) in
    omega (arith, low, within)

-- and has a decoder left after reset
pub fresh_decoder : (s : System) (want : Want) (set : List ℕ) (windows : List WindowFields) → KnownTree s.nodes → AreEndpoints s (asked want set) → (n : ℕ) → lacks_decoder (under (after_reset s) windows) (asked (least_want want) set) n ≡ false
fresh_decoder s want set windows known named n =
    elim (cases_Bool (is_used s (asked want set) n)) [
      | inl used ↦ ap (λ (b : Bool). is_used s (asked want set) n && b) (fresh_left s.nodes n (used_within s want set known named n used)) ∙ neither (is_used s (asked want set) n)
      | inr other ↦ ap (λ (b : Bool). b && all_committed (decoders_at (after_reset s) n)) other
    ]
  where
    neither : (b : Bool) → (b && false) ≡ false
    neither true = refl
    neither false = refl
