-- Where a request fits, no node has a committed decoder of its range.
use Rattle.std.proofs.Common.{◌≡◌, ◌↔◌, ℕ, ◌+◌, ◌-◌, ◌<◌, ◌≤◌, Bool, true, false, cond, ◌&&◌, List, length, get_or, Option, Some, None, refl, sym, ap, ◌∙◌, inl, inr, arith}
use Rattle.std.specs.Prelude.{slice_get, ◌==◌, nat_le, Contains, find}
use Rattle.std.specs.Option.{option_map_or, option_and_then}
use Rattle.std.specs.List.{list_any, list_all, position_or_len}
use Rattle.std.proofs.lemmas.Bool.{cases_lt, and_parts, and_from, le-leb, eqb-true, ne_eqb, false≢true, false_from_ne_true}
use Rattle.std.proofs.lemmas.Option.{slice_get_within, slice_get-get_or, get_or_from_slice_get, none-some, same_Some}
use Rattle.std.proofs.lemmas.List.Elements.{All-contains}
use Rattle.std.proofs.lemmas.List.Folds.{Any-from_list_any, list_any-from_Any, find_at}
use Rattle.std.proofs.lemmas.List.Sums.{AllPass-from_list_all, passes_at_first, prefix_len-le-length}
use Rattle.cxl_enc.proofs.Numbers.{from_lower}
use Rattle.cxl_topo.specs.declared.node.Node.{Node}
use Rattle.cxl_topo.specs.declared.node.Parent.{Parent}
use Rattle.cxl_topo.specs.Faults.{IsTree}
use Rattle.cxl_topo.specs.Laws.{AreTreeLaws}
use Rattle.cxl_topo.specs.Tree.{is_endpoint_at, uid_at, bridge_with, bridge_uids, decoding_port_of}
use Rattle.cxl_regs.specs.declared.decoder.Decoder.{Decoder}
use Rattle.cxl_regs.specs.declared.reading.Range.{Range}
use Rattle.cxl_regs.specs.Registers.{Registers}
use Rattle.cxl_regs.specs.Reading.{committed_count, has_range, entries_of}
use Rattle.cxl_span.specs.Breaches.{BlockKeeps}
use Rattle.cxl_window.specs.Fields.{WindowFields}
use Rattle.cxl_window.specs.Position.{is_usable}
use Rattle.cxl_window.specs.Windows.{AreMadeWith}
use Rattle.cxl_topo.proofs.Trees.{KnownTree, root_of}
use Rattle.cxl_regs.proofs.DecoderRanges.{has_parts}
use Rattle.cxl_model.specs.declared.request.Request.{Request}
use Rattle.cxl_model.specs.System.{System, IsSystem, decoders_at, decoder_at, ram_at, pmem_at}
use Rattle.cxl_model.specs.Ranges.{serves, lies_within, window_for}
use Rattle.cxl_model.specs.Rules.{lists, is_targeted}
use Rattle.cxl_model.specs.Accepted.{IsAccepted, IsWhole}
use Rattle.cxl_model.specs.Counts.{is_under}
use Rattle.cxl_model.proofs.Outcomes.{RisingLaw}
use Rattle.cxl_model.proofs.RangeRules.{block_keeps, served, reached}
use Rattle.cxl_legal.specs.Used.{is_used}
use Rattle.cxl_legal.specs.Windows.{is_used_bridge}
use Rattle.cxl_legal.specs.Bases.{last_end}
use Rattle.cxl_legal.specs.Stated.{Fits, planned_range}
use Rattle.cxl_legal.proofs.RowsTrees.{decoding_earlier, under_landing}
use Rattle.cxl_legal.proofs.RowsSystems.{block_of, decoder_within}

-- ---- what lower laws say

abbrev pub CountedLaw : Type 0
CountedLaw = (block : Registers) (ram pmem i : ℕ) (d : Decoder) → BlockKeeps block ram pmem → slice_get block.decoders i ≡ Some d → (d.committed ≡ true) ↔ (i < committed_count block.decoders)

abbrev pub OneWindowLaw : Type 0
OneWindowLaw =
    (s : System) (r : Range) (w v : WindowFields) → AreMadeWith s.windows (bridge_uids s.nodes) → 0 < r.size → Contains s.windows w → Contains s.windows v
    → lies_within r w ≡ true → lies_within r v ≡ true → w ≡ v

pub record Lower : Type 0 where
  pub trees : (nodes : List Node) → IsTree nodes → AreTreeLaws nodes
  pub counted : CountedLaw
  pub apart : RisingLaw
  pub window : OneWindowLaw

-- ---- the end of all that is committed

pub end_at : (n : ℕ) (o : Option Decoder) (d : Decoder) → 0 < n → o ≡ Some d → cond (n == 0) 0 (option_map_or (λ e. e.base + e.size) o 0) ≡ d.base + d.size
end_at n o d some is =
    ap (λ b. cond b 0 (option_map_or (λ e. e.base + e.size) o 0)) (ne_eqb n 0 (λ e. omega (arith, e))) ∙ ap (λ (x : Option Decoder). option_map_or (λ e. e.base + e.size) x 0) is

-- each committed range of a node ends at or below it
ends_below : Lower → (s : System) (n i : ℕ) (d : Decoder) → IsSystem s → IsAccepted s → decoder_at s n i ≡ Some d → d.committed ≡ true → d.base + d.size ≤ last_end s n
ends_below lower s n i d system accepted there committed =
    let own = block_of s n system (decoder_within s n i d system there) in
    let ds : List Decoder = own.block.decoders in
    let count : ℕ = committed_count ds in
    let keeps = block_keeps s (λ rule m j low. accepted.each rule m j) n own.block own.here in
    let mine : slice_get ds i ≡ Some d = sym (ap (λ (xs : List Decoder). slice_get xs i) own.decoders) ∙ there in
    let low : i < count = (lower.counted own.block (ram_at s n) (pmem_at s n) i d keeps mine).0 committed in
    let few : count ≤ length ds = prefix_len-le-length (λ (x : Decoder). x.committed) ds in
    let last : Decoder = get_or ds (count - 1) d in
    let at : slice_get ds (count - 1) ≡ Some last = slice_get-get_or ds (count - 1) d (omega arith) in
    let set : last.committed ≡ true = (lower.counted own.block (ram_at s n) (pmem_at s n) (count - 1) last keeps at).1 (omega arith) in
    let end : last_end s n ≡ last.base + last.size =
    ap (λ (xs : List Decoder). cond (committed_count xs == 0) 0 (option_map_or (λ e. e.base + e.size) (slice_get xs (committed_count xs - 1)) 0)) own.decoders
    ∙ end_at count (slice_get ds (count - 1)) last (omega arith) at in
    elim (cases_lt i (count - 1)) [
      | inl less ↦ let rise = lower.apart own.block (ram_at s n) (pmem_at s n) i (count - 1) d last keeps mine at less set in omega arith
      | inr top ↦
          let here : i ≡ count - 1 = omega arith in
          let same : d ≡ last = same_Some d last (sym mine ∙ ap (slice_get ds) here ∙ at) in
          let ends : d.base + d.size ≡ last.base + last.size = ap (λ (x : Decoder). x.base + x.size) same in
          omega arith
    ]

-- ---- who is reached

-- each range of an accepted image is whole
all_whole : (s : System) (r : Range) → IsAccepted s → IsWhole s r
all_whole s r accepted = record { blocks = λ rule n i low. accepted.each rule n i; range = λ rule n i d past there has. accepted.each rule n i }

listed : (s : System) (r : Range) (p : Parent) → lists s r p ≡ true → serves s r p.node ≡ true
listed s r p is =
    let some = Any-from_list_any (λ d. has_range r d && list_any (λ port. port == p.port) (entries_of d)) (decoders_at s p.node) is in
    list_any-from_Any (has_range r) (decoders_at s p.node) (some.0, some.1, some.2, some.3, (and_parts (has_range r some.1) (list_any (λ port. port == p.port) (entries_of some.1)) some.4).0)

-- ---- the window's targets

some_of : {X : Type 0} (p : X → Bool) (o : Option X) → option_map_or p o false ≡ true → (x : X) × (o ≡ Some x) × (p x ≡ true)
some_of p None is = absurd (false≢true is)
some_of p (Some x) is = (x, refl, is)

pub some_first : {X : Type 0} (p : X → Bool) (xs : List X) (x : X) → find p xs ≡ Some x → Contains xs x × (p x ≡ true)
some_first p xs x is =
    let i : ℕ = position_or_len p xs in
    let at : slice_get xs i ≡ Some x = sym (find_at p xs) ∙ is in
    let within : i < length xs = slice_get_within xs i x at in
    let read : get_or xs i x ≡ x = get_or_from_slice_get xs i x x at in
    ((i, within, read), sym (ap p read) ∙ passes_at_first p xs x within)

module _ (lower : Lower) (s : System) (request : Request) (w : WindowFields) (base : ℕ) (fits : Fits s request w base) where
  abbrev pub r : Range
  r = planned_range request base

  pub known_tree : KnownTree s.nodes
  known_tree = record { tree = fits.system.tree; laws = lower.trees s.nodes fits.system.tree }

  pub window_there : Contains s.windows w
  window_there = (w.index, slice_get_within s.windows w.index w fits.window.there, get_or_from_slice_get s.windows w.index w w fits.window.there)

  pub lies_in_window : lies_within r w ≡ true
  lies_in_window =
      and_from (is_usable w.verdict && nat_le w.base base) (nat_le (base + request.size) (w.base + w.size))
      (and_from (is_usable w.verdict) (nat_le w.base base) fits.window.usable (le-leb w.base base fits.starts.can.from)) (le-leb (base + request.size) (w.base + w.size) fits.starts.inside)

  -- the bridge above a node at which addresses of the range arrive is used
  top_used : (n : ℕ) → is_targeted s r n ≡ true → (b : ℕ) × (root_of s.nodes n ≡ Some b) × (is_used s request b ≡ true)
  top_used n is =
      let v = some_of (λ (v : WindowFields). option_map_or (λ uid. list_any (λ target. target == uid) v.targets) (option_and_then (uid_at s.nodes) (root_of s.nodes n)) false) (window_for s r) is in
      let first = some_first (lies_within r) s.windows v.0 v.1 in
      let same : v.0 ≡ w = lower.window s r v.0 w fits.system.made fits.endpoints.size.some first.0 window_there first.1 lies_in_window in
      let uid = some_of (λ (uid : ℕ). list_any (λ target. target == uid) v.0.targets) (option_and_then (uid_at s.nodes) (root_of s.nodes n)) v.2 in
      let target : list_any (λ t. t == uid.0) w.targets ≡ true = ap (λ (x : WindowFields). list_any (λ t. t == uid.0) x.targets) (sym same) ∙ uid.2 in
      go (root_of s.nodes n) refl uid.0 uid.1 target
    where
      go : (o : Option ℕ) → root_of s.nodes n ≡ o → (uid : ℕ) → option_and_then (uid_at s.nodes) o ≡ Some uid → list_any (λ t. t == uid) w.targets ≡ true
          → (b : ℕ) × (root_of s.nodes n ≡ Some b) × (is_used s request b ≡ true)
      go None root uid is target = absurd (none-some uid is)
      go (Some b) root uid is target =
          let some = Any-from_list_any (λ t. t == uid) w.targets target in
          let all = (and_parts (list_all (is_used_bridge s request) w.targets) _ fits.window.bridges).0 in
          let passes : is_used_bridge s request some.1 ≡ true = ap (is_used_bridge s request) (sym some.3) ∙ AllPass-from_list_all (is_used_bridge s request) w.targets all some.0 some.1 some.2 in
          let found : bridge_with s.nodes some.1 ≡ Some b = (known_tree.laws.bridges some.1 b).1 (is ∙ ap Some (sym (eqb-true some.1 uid some.4))) in
          (b, root, sym (ap (λ (o : Option ℕ). option_map_or (is_used s request) o false) found) ∙ passes)

  -- a node of the range above which all is passed on is used
  landing_used : (n : ℕ) → decoding_port_of s.nodes n ≡ None → is_targeted s r n ≡ true → is_used s request n ≡ true
  landing_used n passes is =
      let top = top_used n is in
      let some = Any-from_list_any (is_under s.nodes top.0) request.endpoints top.2 in
      let endpoint : is_endpoint_at s.nodes some.1 ≡ true = All-contains (λ m. is_endpoint_at s.nodes m ≡ true) request.endpoints some.1 fits.named (some.0, some.2, some.3) in
      list_any-from_Any (is_under s.nodes n) request.endpoints
      (some.0, some.1, some.2, some.3, under_landing known_tree some.1 endpoint n top.0 passes top.1 some.4)

  -- and all that is committed there ends at or below the base
  none_at_landing : (n : ℕ) → decoding_port_of s.nodes n ≡ None → is_targeted s r n ≡ true → serves s r n ≡ true → ⊥
  none_at_landing n passes is serves_it =
      let at = served s r n serves_it in
      let ends = ends_below lower s n at.i at.d fits.system fits.accepted at.there (has_parts r at.d at.has).committed in
      let after = fits.starts.can.after n (landing_used n passes is) in
      let some = fits.endpoints.size.some in
      let own = has_parts r at.d at.has in
      let from = own.base in
      let long = own.size in
      omega arith

  none_serves : (n : ℕ) → serves s r n ≡ true → ⊥
  none_serves = from_lower (λ n. serves s r n ≡ true → ⊥) (λ n earlier is. go n earlier is (decoding_port_of s.nodes n) refl (reached s r (all_whole s r fits.accepted) n is).1)
    where
      go : (n : ℕ) → ((m : ℕ) → m < n → serves s r m ≡ true → ⊥) → serves s r n ≡ true → (o : Option Parent) → decoding_port_of s.nodes n ≡ o → option_map_or (lists s r) o (is_targeted s r n) ≡ true → ⊥
      go n earlier is None passes targeted = none_at_landing n passes targeted is
      go n earlier is (Some p) up lists_it = earlier p.node (decoding_earlier known_tree n p up) (listed s r p lists_it)

  -- the range is new
  pub new_range : (n : ℕ) → serves s r n ≡ false
  new_range n = false_from_ne_true (serves s r n) (none_serves n)
