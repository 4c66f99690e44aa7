-- With the stated rows committed an address of the new range that comes to a used node comes to a decoder of it, and each such decoder is reached.
use Rattle.std.proofs.Common.{◌≡◌, ℕ, zero, suc, ◌+◌, ◌<◌, ◌≤◌, Bool, true, false, not, ◌&&◌, ◌||◌, if◌then◌else◌, length, get_or, Option, Some, None, refl, sym, ap, ◌∙◌, subst, inl, inr, arith}
use Rattle.std.specs.Prelude.{◌==◌, option_map}
use Rattle.std.specs.Option.{option_map_or, option_and_then}
use Rattle.std.specs.List.{list_any, list_all}
use Rattle.std.proofs.lemmas.Bool.{cases_Bool, and_parts, and_from, or_left, or_right, cond-true, cond-false, false≢true, not-true, not_from_false}
use Rattle.std.proofs.lemmas.Option.{none-some, same_Some}
use Rattle.std.proofs.lemmas.List.Sums.{AllPass-from_list_all, list_all-from_AllPass}
use Rattle.std.proofs.lemmas.Map.Keys.{any_passes_from_place}
use Rattle.cxl_topo.specs.declared.node.Parent.{Parent}
use Rattle.cxl_topo.specs.Tree.{forwards_at, is_endpoint_at, is_port_at, uid_at, least_child_of, landing_of, bridge_with, decoding_port_of}
use Rattle.cxl_regs.specs.declared.decoder.Decoder.{Decoder}
use Rattle.cxl_regs.specs.Reading.{committed_count, has_range, entries_of}
use Rattle.cxl_window.specs.Fields.{WindowFields}
use Rattle.cxl_topo.proofs.Trees.{parent_is_port, up_tree, forwards_no_endpoint, port_no_endpoint, root_of, decoding_none, decoding_here, decoding_past}
use Rattle.cxl_model.specs.declared.request.Request.{Request}
use Rattle.cxl_model.specs.System.{System, decoders_at, decoder_at}
use Rattle.cxl_model.specs.Ranges.{serves, decoder_for, index_for, window_for}
use Rattle.cxl_model.specs.Rules.{are_distinct, lands_on, leads_on, is_bridge_landing, targets_land, keeps_targets, keeps_reach, lists, is_targeted}
use Rattle.cxl_model.specs.Plans.{committed_row}
use Rattle.cxl_model.proofs.RangeRules.{served, no_decoder, one_of_range, is_reached}
use Rattle.cxl_model.proofs.RangeCounts.{lands_here}
use Rattle.cxl_legal.specs.Used.{is_used, is_port_used, used_ports}
use Rattle.cxl_legal.specs.Windows.{is_used_bridge}
use Rattle.cxl_legal.specs.Stated.{has_row, stated_row, planned_range}
use Rattle.cxl_legal.proofs.RowsUsed.{used_within}
use Rattle.cxl_legal.proofs.UsedNodes.{used_child, used_parent, used_root}
use Rattle.cxl_legal.proofs.StatedImages.{stated_image, Stated}
use Rattle.cxl_legal.proofs.UsedPorts.{port_used, port_child, listed_port, ports_pass, ports_distinct}
use Rattle.cxl_legal.proofs.StatedPorts.{entries_stated}
use Rattle.cxl_legal.proofs.StatedCounts.{targeted}

-- ---- the decoders of the new range

pub gets_row : (s : System) (request : Request) (n : ℕ) → is_used s request n ≡ true → forwards_at s.nodes n ≡ false → has_row s request n ≡ true
gets_row s request n used own = and_from (is_used s request n) (not (forwards_at s.nodes n)) used (not_from_false (forwards_at s.nodes n) own)

pub row_parts : (s : System) (request : Request) (n : ℕ) → has_row s request n ≡ true → (is_used s request n ≡ true) × (forwards_at s.nodes n ≡ false)
row_parts s request n row =
    let parts = and_parts (is_used s request n) (not (forwards_at s.nodes n)) row in
    (parts.0, not-true (forwards_at s.nodes n) parts.1)

pub row_decoder : {s : System} {request : Request} {w : WindowFields} {base : ℕ} → Stated s request w base → (n : ℕ) → has_row s request n ≡ true
    → decoder_for (stated_image s request w base) (planned_range request base) n ≡ Some (committed_row (stated_row s request w base n))
row_decoder {s} {request} {w} {base} c n row = c.decoders n ∙ cond-true (has_row s request n) (Some (committed_row (stated_row s request w base n))) None row

pub no_row_decoder : {s : System} {request : Request} {w : WindowFields} {base : ℕ} → Stated s request w base → (n : ℕ) → has_row s request n ≡ false
    → decoder_for (stated_image s request w base) (planned_range request base) n ≡ None
no_row_decoder {s} {request} {w} {base} c n none = c.decoders n ∙ cond-false (has_row s request n) (Some (committed_row (stated_row s request w base n))) None none

pub row_index : {s : System} {request : Request} {w : WindowFields} {base : ℕ} → Stated s request w base → (n : ℕ) → has_row s request n ≡ true
    → index_for (stated_image s request w base) (planned_range request base) n ≡ Some (committed_count (decoders_at s n))
row_index {s} {request} {w} {base} c n row = c.indices n ∙ cond-true (has_row s request n) (Some (committed_count (decoders_at s n))) None row

-- a node serves the new range where it has a row
pub serves_row : {s : System} {request : Request} {w : WindowFields} {base : ℕ} → Stated s request w base → (n : ℕ) → serves (stated_image s request w base) (planned_range request base) n ≡ has_row s request n
serves_row {s} {request} {w} {base} c n =
    elim (cases_Bool (has_row s request n)) [
      | inl row ↦ elim (cases_Bool (serves (stated_image s request w base) (planned_range request base) n)) [
        | inl is ↦ is ∙ sym row
        | inr none ↦
            absurd (none-some (committed_row (stated_row s request w base n)) (sym (no_decoder (stated_image s request w base) (planned_range request base) n none) ∙ row_decoder c n row))
      ]
      | inr other ↦ elim (cases_Bool (serves (stated_image s request w base) (planned_range request base) n)) [
        | inl is ↦
            let at = served (stated_image s request w base) (planned_range request base) n is in
            absurd (none-some at.d (sym (no_row_decoder c n other) ∙ at.first))
        | inr none ↦ none ∙ sym other
      ]
    ]

-- a decoder of the new range is that of the node's row
pub record IsStatedAt (s : System) (request : Request) (w : WindowFields) (base n i : ℕ) (d : Decoder) : Type 0 where
  pub row : has_row s request n ≡ true
  pub index : i ≡ committed_count (decoders_at s n)
  pub decoder : d ≡ committed_row (stated_row s request w base n)

pub stated_at : {s : System} {request : Request} {w : WindowFields} {base : ℕ} → Stated s request w base → (n i : ℕ) (d : Decoder) → decoder_at (stated_image s request w base) n i ≡ Some d
    → has_range (planned_range request base) d ≡ true → IsStatedAt s request w base n i d
stated_at {s} {request} {w} {base} c n i d there has =
    let is : serves (stated_image s request w base) (planned_range request base) n ≡ true = any_passes_from_place (has_range (planned_range request base)) (decoders_at (stated_image s request w base) n) i d there has in
    let row : has_row s request n ≡ true = sym (serves_row c n) ∙ is in
    let at = served (stated_image s request w base) (planned_range request base) n is in
    let same : i ≡ at.i = one_of_range c.rise (stated_image s request w base) (planned_range request base) c.blocks n i at.i d at.d there at.there has at.has in
    record {
      row = row;
      index = same ∙ same_Some at.i (committed_count (decoders_at s n)) (sym at.number ∙ row_index c n row);
      decoder = same_Some d at.d (sym there ∙ ap (decoder_at (stated_image s request w base) n) same ∙ at.there) ∙ same_Some at.d (committed_row (stated_row s request w base n)) (sym at.first ∙ row_decoder c n row);
    }

-- ---- K10

pub used_in : {s : System} {request : Request} {w : WindowFields} {base : ℕ} → Stated s request w base → (n : ℕ) → is_used s request n ≡ true → n < length s.nodes
used_in {s} {request} c n used = used_within s request n c.known c.fits.named used

-- an address that comes to a used node comes to the range
pub used_lands : {s : System} {request : Request} {w : WindowFields} {base : ℕ} → Stated s request w base → (n : ℕ) → is_used s request n ≡ true → lands_on (stated_image s request w base) (planned_range request base) n ≡ true
used_lands {s} {request} {w} {base} c n = go (length s.nodes) n (omega arith)
  where
    go : (k n : ℕ) → length s.nodes ≤ n + k → is_used s request n ≡ true → lands_on (stated_image s request w base) (planned_range request base) n ≡ true
    go zero n past used = let within = used_in c n used in absurd (omega arith)
    go (suc k) n past used =
        elim (cases_Bool (forwards_at s.nodes n)) [
          | inl forwards ↦
              let next = used_child s request c.known c.fits.named n used (forwards_no_endpoint c.known n forwards) in
              let child : least_child_of s.nodes n ≡ Some next.child = (c.known.laws.only_children n next.child forwards).1 (ap (option_map (λ (p : Parent). p.node)) next.parent) in
              let higher = (parent_is_port c.known next.child (record { node = n; port = next.port }) next.parent).0 in
              ap (λ (o : Option ℕ). option_map_or (serves (stated_image s request w base) (planned_range request base)) o false)
              (c.known.laws.landings n (used_in c n used)
              ∙ ap (λ b. if b then option_and_then (landing_of s.nodes) (least_child_of s.nodes n) else Some n) forwards
              ∙ ap (option_and_then (landing_of s.nodes)) child)
              ∙ go k next.child (omega (arith, higher, past)) next.used
          | inr own ↦ lands_here (stated_image s request w base) (planned_range request base) n c.system c.known own ∙ serves_row c n ∙ gets_row s request n used own
        ]

leads_used : {s : System} {request : Request} {w : WindowFields} {base : ℕ} → Stated s request w base → (n e : ℕ) → is_port_used s request n e ≡ true → leads_on (stated_image s request w base) (planned_range request base) n e ≡ true
leads_used {s} {request} {w} {base} c n e used =
    let child = port_child s request c.known n e used in
    ap (λ (o : Option ℕ). option_map_or (lands_on (stated_image s request w base) (planned_range request base)) o false) child.stands ∙ used_lands c child.child child.used

targets_used : {s : System} {request : Request} {w : WindowFields} {base : ℕ} → Stated s request w base → targets_land (stated_image s request w base) (planned_range request base) w ≡ true
targets_used {s} {request} {w} {base} c =
    list_all-from_AllPass (λ uid. option_map_or (lands_on (stated_image s request w base) (planned_range request base)) (bridge_with s.nodes uid) false) w.targets (λ k d within.
    go (get_or w.targets k d) (bridge_with s.nodes (get_or w.targets k d)) refl (AllPass-from_list_all (is_used_bridge s request) w.targets all k d within))
  where
    all : list_all (is_used_bridge s request) w.targets ≡ true
    all = (and_parts (list_all (is_used_bridge s request) w.targets) _ c.fits.window.bridges).0

    go : (uid : ℕ) (o : Option ℕ) → bridge_with s.nodes uid ≡ o → option_map_or (is_used s request) o false ≡ true
        → option_map_or (lands_on (stated_image s request w base) (planned_range request base)) (bridge_with s.nodes uid) false ≡ true
    go uid None at is = absurd (false≢true is)
    go uid (Some b) at is = ap (λ (o : Option ℕ). option_map_or (lands_on (stated_image s request w base) (planned_range request base)) o false) at ∙ used_lands c b is

-- K10 of the stated decoder
pub targets_kept : {s : System} {request : Request} {w : WindowFields} {base : ℕ} → Stated s request w base → (n : ℕ) → has_row s request n ≡ true
    → keeps_targets (stated_image s request w base) n (committed_row (stated_row s request w base n)) ≡ true
targets_kept {s} {request} {w} {base} c n row =
    and_from (is_endpoint_at s.nodes n || ports) (not (is_bridge_landing s.nodes n) || land) ways
    (or_right (not (is_bridge_landing s.nodes n)) land (ap (λ (o : Option WindowFields). option_map_or (targets_land (stated_image s request w base) (planned_range request base)) o true) c.window ∙ targets_used c))
  where
    ports : Bool
    ports =
        are_distinct (entries_of (committed_row (stated_row s request w base n)))
        && list_all (leads_on (stated_image s request w base) (planned_range request base) n) (entries_of (committed_row (stated_row s request w base n)))

    land : Bool
    land = option_map_or (targets_land (stated_image s request w base) (planned_range request base)) (window_for (stated_image s request w base) (planned_range request base)) true

    ways : (is_endpoint_at s.nodes n || ports) ≡ true
    ways =
        elim (cases_Bool (is_endpoint_at s.nodes n)) [
          | inl endpoint ↦ or_left (is_endpoint_at s.nodes n) ports endpoint
          | inr port ↦
              let entries = entries_stated c n port (row_parts s request n row).0 in
              or_right (is_endpoint_at s.nodes n) ports
              (and_from (are_distinct (entries_of (committed_row (stated_row s request w base n))))
              (list_all (leads_on (stated_image s request w base) (planned_range request base) n) (entries_of (committed_row (stated_row s request w base n))))
              (ap are_distinct entries ∙ ports_distinct s request n)
              (ap (list_all (leads_on (stated_image s request w base) (planned_range request base) n)) entries
              ∙ list_all-from_AllPass (leads_on (stated_image s request w base) (planned_range request base) n) (used_ports s request n)
              (λ k d within. leads_used c n (get_or (used_ports s request n) k d) (ports_pass s request n k d within))))
        ]

-- ---- K11

-- a used port of a used node that does not forward
record IsListed (s : System) (request : Request) (p : Parent) : Type 0 where
  own : forwards_at s.nodes p.node ≡ false
  port : is_port_at s.nodes p.node ≡ true
  used : is_used s request p.node ≡ true
  is : is_port_used s request p.node p.port ≡ true
  low : p.port < 256

-- such is the port that leads to a used node from its decoding parent
listed_above : {s : System} {request : Request} {w : WindowFields} {base : ℕ} → Stated s request w base → (i : ℕ) → is_used s request i ≡ true → (p : Parent) → decoding_port_of s.nodes i ≡ Some p → IsListed s request p
listed_above {s} {request} c =
    up_tree c.known (λ i. is_used s request i ≡ true → (p : Parent) → decoding_port_of s.nodes i ≡ Some p → IsListed s request p)
    (λ i none used p is. absurd (none-some p (sym (decoding_none c.known i none) ∙ is)))
    (λ i q some rest used p is.
    let above = used_parent s request c.known i q some used in
    elim (cases_Bool (forwards_at s.nodes q.node)) [
      | inl forwards ↦ rest above p (sym (decoding_past c.known i q some forwards) ∙ is)
      | inr own ↦
          subst (IsListed s request) (same_Some q p (sym (decoding_here c.known i q some own) ∙ is))
          (record { own = own; port = (parent_is_port c.known i q some).1; used = above; is = port_used s request c.known q.node q.port i some used; low = c.fits.ports i q some })
    ])

-- the stated decoder lists it
lists_it : {s : System} {request : Request} {w : WindowFields} {base : ℕ} → Stated s request w base → (p : Parent) → IsListed s request p → lists (stated_image s request w base) (planned_range request base) p ≡ true
lists_it {s} {request} {w} {base} c p listed =
    let row = gets_row s request p.node listed.used listed.own in
    let at = served (stated_image s request w base) (planned_range request base) p.node (serves_row c p.node ∙ row) in
    let is = stated_at c p.node at.i at.d at.there at.has in
    let entries : entries_of at.d ≡ used_ports s request p.node = ap entries_of is.decoder ∙ entries_stated c p.node (port_no_endpoint s.nodes p.node listed.port) listed.used in
    any_passes_from_place (λ d. has_range (planned_range request base) d && list_any (λ port. port == p.port) (entries_of d)) (decoders_at (stated_image s request w base) p.node) at.i at.d at.there
    (and_from (has_range (planned_range request base) at.d) (list_any (λ port. port == p.port) (entries_of at.d)) at.has
    (ap (list_any (λ port. port == p.port)) entries ∙ listed_port s request p.node p.port listed.low listed.is))

-- the window targets the bridge above each used node
used_targeted : {s : System} {request : Request} {w : WindowFields} {base : ℕ} → Stated s request w base → (n : ℕ) → is_used s request n ≡ true → is_targeted (stated_image s request w base) (planned_range request base) n ≡ true
used_targeted {s} {request} {w} {base} c n used =
    let top = used_root s request c.known n (used_in c n used) used in
    let target = targeted c top.bridge top.is top.used top.within in
    ap (λ (o : Option WindowFields). option_map_or (λ v. option_map_or (λ uid. list_any (λ target. target == uid) v.targets) (option_and_then (uid_at s.nodes) (root_of s.nodes n)) false) o false) c.window
    ∙ ap (λ (o : Option ℕ). option_map_or (λ uid. list_any (λ target. target == uid) w.targets) (option_and_then (uid_at s.nodes) o) false) top.root
    ∙ ap (λ (o : Option ℕ). option_map_or (λ uid. list_any (λ target. target == uid) w.targets) o false) target.1
    ∙ target.2

-- K11 of the stated decoder
pub reach_kept : {s : System} {request : Request} {w : WindowFields} {base : ℕ} → Stated s request w base → (n : ℕ) → has_row s request n ≡ true
    → keeps_reach (stated_image s request w base) n (committed_row (stated_row s request w base n)) ≡ true
reach_kept {s} {request} {w} {base} c n row =
    and_from (not (forwards_at s.nodes n)) (is_reached (stated_image s request w base) (planned_range request base) n) (not_from_false (forwards_at s.nodes n) parts.1) (go (decoding_port_of s.nodes n) refl)
  where
    parts : (is_used s request n ≡ true) × (forwards_at s.nodes n ≡ false)
    parts = row_parts s request n row

    go : (o : Option Parent) → decoding_port_of s.nodes n ≡ o
        → option_map_or (lists (stated_image s request w base) (planned_range request base)) (decoding_port_of s.nodes n) (is_targeted (stated_image s request w base) (planned_range request base) n) ≡ true
    go None at =
        ap (λ (o : Option Parent). option_map_or (lists (stated_image s request w base) (planned_range request base)) o (is_targeted (stated_image s request w base) (planned_range request base) n)) at
        ∙ used_targeted c n parts.0
    go (Some p) at =
        ap (λ (o : Option Parent). option_map_or (lists (stated_image s request w base) (planned_range request base)) o (is_targeted (stated_image s request w base) (planned_range request base) n)) at
        ∙ lists_it c p (listed_above c n parts.0 p at)
