-- Images with the same decoders of a range have the same region of it.
use Rattle.std.proofs.Common.{◌≡◌, ℕ, ◌+◌, ◌*◌, ◌/◌, ◌%◌, ◌^◌, ◌<◌, ◌≤◌, Bool, true, false, not, ◌&&◌, ◌||◌, if◌then◌else◌, List, [], ◌∷◌, length, get_or, map, take, Option, Some, None, refl, sym, ap, ◌∙◌, subst, inl, inr, arith}
use Rattle.std.specs.Prelude.{slice_get, ◌==◌, nat_lt, find, position, sum_by, IsSomeAnd}
use Rattle.std.specs.Option.{option_map_or, option_and_then}
use Rattle.std.specs.List.{list_any, list_all, filter_map, range_with_len}
use Rattle.std.proofs.lemmas.Bool.{cases_lt, cases_Bool, and_parts, or_parts, false_from_ne_true, ne_eqb, le-ltb, false≢true}
use Rattle.std.proofs.lemmas.Option.{slice_get_within, slice_get-get_or, get_or_from_slice_get, same_Some}
use Rattle.std.proofs.lemmas.List.{length-take-le, get_or-take, same_lists}
use Rattle.std.proofs.lemmas.List.Quantifiers.{position-Some}
use Rattle.std.proofs.lemmas.Map.Keys.{any_passes_from_place}
use Rattle.cxl_enc.specs.declared.caps.MemKind.{MemKind}
use Rattle.cxl_enc.specs.declared.caps.MemKind.TheVariants.{Ram, Pmem}
use Rattle.cxl_enc.specs.Codes.{bits_of}
use Rattle.cxl_enc.proofs.Tests.{same_test}
use Rattle.cxl_enc.proofs.Lists.{first_of, position_none}
use Rattle.cxl_topo.specs.declared.node.Node.{Node}
use Rattle.cxl_topo.specs.declared.node.Parent.{Parent}
use Rattle.cxl_topo.specs.Kinds.{capacity_of}
use Rattle.cxl_topo.specs.Tree.{forwards_at, is_port_at, is_endpoint_at, child_of, least_child_of, bridge_with, landing_of, ports_above, decoding_port_of}
use Rattle.cxl_regs.specs.declared.decoder.Decoder.{Decoder}
use Rattle.cxl_regs.specs.Registers.{reset_decoder}
use Rattle.cxl_regs.specs.declared.reading.Range.{Range}
use Rattle.cxl_regs.specs.Reading.{select_bits, decoder_ways, span_length, entries_of, entry_at, range_of, has_range}
use Rattle.cxl_span.specs.Spans.{span_step, span_start_of}
use Rattle.cxl_span.specs.Partitions.{lies_in}
use Rattle.cxl_window.specs.Fields.{WindowFields}
use Rattle.cxl_regs.proofs.DecoderRanges.{has_parts, same_range}
use Rattle.cxl_model.specs.declared.found.Found.{Found}
use Rattle.cxl_model.specs.declared.found.Place.{Place}
use Rattle.cxl_model.specs.System.{System, decoders_at, decoder_at}
use Rattle.cxl_model.specs.Ranges.{serves, decoder_for, index_for, lies_within, window_for, ports_for, product, ways_above, bits_above, first_endpoint, first_decoder, span_kind, same_kind, range_ways, range_kind, range_code}
use Rattle.cxl_model.specs.Rules.{starts_in_thirds, permits, keeps_window, are_distinct, is_bridge_landing, keeps_targets, lists, uid_above, keeps_reach, keeps_ways}
use Rattle.cxl_model.specs.Accepted.{breaks, breaks_at, KeepsBlocks, IsWhole}
use Rattle.cxl_model.specs.Regions.{target_position, LeadsTo, past_forwarding, past_port, at_endpoint, HasSpan, region_range, IsRegionIn}
use Rattle.cxl_model.specs.Changes.{KeepsDecoders, HaveSameDecoders, KeepsOwnDecoders, HaveSameOwnDecoders}

-- ---- lists with the same elements that pass

abbrev KeepsPassing : {X : Type 0} → (X → Bool) → List X → List X → Type 0
KeepsPassing {X} p xs ys = (i : ℕ) (x : X) → slice_get xs i ≡ Some x → p x ≡ true → slice_get ys i ≡ Some x

any_kept : {X : Type 0} (d : X) (p q : X → Bool) (xs ys : List X) → KeepsPassing p xs ys → list_any (λ x. p x && q x) xs ≡ true → list_any (λ x. p x && q x) ys ≡ true
any_kept d p q xs ys keeps any =
    let some = first_of d (λ x. p x && q x) xs any in
    let at : slice_get ys some.i ≡ Some some.x = keeps some.i some.x some.at (and_parts (p some.x) (q some.x) some.passes).0 in
    any_passes_from_place (λ x. p x && q x) ys some.i some.x at some.passes

any_plain : {X : Type 0} (d : X) (p : X → Bool) (xs ys : List X) → KeepsPassing p xs ys → list_any p xs ≡ true → list_any p ys ≡ true
any_plain d p xs ys keeps any =
    let some = first_of d p xs any in
    any_passes_from_place p ys some.i some.x (keeps some.i some.x some.at some.passes) some.passes

-- the first that passes stands no later in the other list
not_later : {X : Type 0} (d : X) (p : X → Bool) (xs ys : List X) (i j : ℕ) (x : X) → KeepsPassing p xs ys → slice_get xs i ≡ Some x → p x ≡ true → position p ys ≡ Some j → j ≤ i
not_later d p xs ys i j x keeps at passes place =
    elim (cases_lt i j) [
      | inr past ↦ past
      | inl less ↦
          let there : slice_get ys i ≡ Some x = keeps i x at passes in
          let fails = (position-Some p ys j d place).2 i less in
          absurd (false≢true (sym fails ∙ ap p (get_or_from_slice_get ys i x d there) ∙ passes))
    ]

pub record SameFirst {X : Type 0} (p : X → Bool) (xs ys : List X) : Type 0 where
  pub any : list_any p ys ≡ list_any p xs
  pub found : find p ys ≡ find p xs
  pub place : position p ys ≡ position p xs

no_find : {X : Type 0} (p : X → Bool) (xs : List X) → list_any p xs ≡ false → find p xs ≡ None
no_find p [] is = refl
no_find p (x ∷ xs) is =
    let parts = or_parts (p x) (list_any p xs) is in
    ap (λ b. if b then Some x else find p xs) parts.0 ∙ no_find p xs parts.1

pub same_first : {X : Type 0} (d : X) (p : X → Bool) (xs ys : List X) → KeepsPassing p xs ys → KeepsPassing p ys xs → SameFirst p xs ys
same_first d p xs ys there back =
    elim (cases_Bool (list_any p xs)) [
      | inl any ↦
          let one = first_of d p xs any in
          let also = any_plain d p xs ys there any in
          let other = first_of d p ys also in
          let low = not_later d p xs ys one.i other.i one.x there one.at one.passes other.place in
          let high = not_later d p ys xs other.i one.i other.x back other.at other.passes one.place in
          let same : one.i ≡ other.i = omega arith in
          let at : slice_get ys other.i ≡ Some one.x = ap (slice_get ys) (sym same) ∙ there one.i one.x one.at one.passes in
          let element : other.x ≡ one.x = same_Some other.x one.x (sym other.at ∙ at) in
          record { any = also ∙ sym any; found = other.found ∙ ap Some element ∙ sym one.found; place = other.place ∙ ap Some (sym same) ∙ sym one.place }
      | inr none ↦
          let also : list_any p ys ≡ false = false_from_ne_true (list_any p ys) (λ any. false≢true (sym none ∙ any_plain d p ys xs back any)) in
          record { any = also ∙ sym none; found = no_find p ys also ∙ sym (no_find p xs none); place = position_none d p ys also ∙ sym (position_none d p xs none) }
    ]

-- ---- lists with the same elements up to each that passes

abbrev KeepsUpTo : {X : Type 0} → (X → Bool) → List X → List X → Type 0
KeepsUpTo {X} p xs ys = (i j : ℕ) (x : X) → slice_get xs i ≡ Some x → p x ≡ true → j ≤ i → slice_get ys j ≡ slice_get xs j

same_start : (xs ys : List Decoder) (p : Decoder → Bool) (i : ℕ) (d : Decoder) → KeepsUpTo p xs ys → slice_get xs i ≡ Some d → p d ≡ true → span_start_of ys i ≡ span_start_of xs i
same_start xs ys p i d keeps at passes =
    ap (λ (ds : List Decoder). sum_by span_step ds + option_map_or (λ e. e.tail) (slice_get ys i) 0) fronts
    ∙ ap (λ (o : Option Decoder). sum_by span_step (take i xs) + option_map_or (λ e. e.tail) o 0) here
  where
    here : slice_get ys i ≡ slice_get xs i
    here = keeps i i d at passes (omega arith)

    xs_within : i < length xs
    xs_within = slice_get_within xs i d at

    ys_within : i < length ys
    ys_within = slice_get_within ys i d (here ∙ at)

    xs_long : length (take i xs) ≡ i
    xs_long = length-take-le i xs (omega (arith, xs_within))

    ys_long : length (take i ys) ≡ i
    ys_long = length-take-le i ys (omega (arith, ys_within))

    fronts : take i ys ≡ take i xs
    fronts = same_lists (take i ys) (take i xs) (ys_long ∙ sym xs_long) (λ k e within.
        let below : k < i = subst (λ (n : ℕ). k < n) ys_long within in
        let there : slice_get ys k ≡ Some (get_or xs k e) = keeps i k d at passes (omega arith) ∙ slice_get-get_or xs k e (omega (arith, xs_within)) in
        get_or-take i ys k e below ∙ get_or_from_slice_get ys k (get_or xs k e) e there ∙ sym (get_or-take i xs k e below))

-- ---- what two images have in common

-- the kind of the span by which a node serves the range
abbrev pub own_kind : System → Range → ℕ → MemKind
own_kind s r n = option_map_or (span_kind s n) (index_for s r n) Ram

pub record Common (s t : System) (r : Range) : Type 0 where
  pub nodes : t.nodes ≡ s.nodes
  pub windows : t.windows ≡ s.windows
  pub serve : serves t r ≡ serves s r
  pub decode : decoder_for t r ≡ decoder_for s r
  pub number : index_for t r ≡ index_for s r
  pub list : lists t r ≡ lists s r
  pub kinds : own_kind t r ≡ own_kind s r

keeps_up_to : (s t : System) (r : Range) (n : ℕ) → KeepsDecoders s t r → KeepsUpTo (has_range r) (decoders_at s n) (decoders_at t n)
keeps_up_to s t r n keeps = λ i j d at has below. keeps n i j d at has below

-- images that have the same decoders of the range and below them have the same ones of it
own_kept : (s t : System) (r : Range) → KeepsDecoders s t r → KeepsOwnDecoders s t r
own_kept s t r keeps = λ n i d at has. keeps n i i d at has (omega arith) ∙ at

pub own_decoders : (s t : System) (r : Range) → HaveSameDecoders s t r → HaveSameOwnDecoders s t r
own_decoders s t r same = record { nodes = same.nodes; there = own_kept s t r same.there; back = own_kept t s r same.back }

pub firsts : (s t : System) (r : Range) → HaveSameOwnDecoders s t r → (n : ℕ) → SameFirst (has_range r) (decoders_at s n) (decoders_at t n)
firsts s t r same n = same_first reset_decoder (has_range r) (decoders_at s n) (decoders_at t n) (same.there n) (same.back n)

same_lists_of : (s t : System) (r : Range) → HaveSameDecoders s t r → (p : Parent) → lists t r p ≡ lists s r p
same_lists_of s t r same p =
    same_test (lists t r p) (lists s r p)
    (any_kept reset_decoder (has_range r) (λ d. list_any (λ port. port == p.port) (entries_of d)) (decoders_at t p.node) (decoders_at s p.node) (own_kept t s r same.back p.node))
    (any_kept reset_decoder (has_range r) (λ d. list_any (λ port. port == p.port) (entries_of d)) (decoders_at s p.node) (decoders_at t p.node) (own_kept s t r same.there p.node))

kind_by : List Node → ℕ → ℕ → Option Decoder → MemKind
kind_by nodes n start o =
    if lies_in Ram (option_map_or (λ c. c.ram) (option_and_then (λ node. capacity_of node.kind) (slice_get nodes n)) 0) (option_map_or (λ c. c.pmem) (option_and_then (λ node. capacity_of node.kind) (slice_get nodes n)) 0) start (option_map_or span_length o 0)
    then Ram else Pmem

-- the span of a decoder of the range is of the same kind in both
same_kinds : (s t : System) (r : Range) → HaveSameDecoders s t r → (n i : ℕ) (d : Decoder) → decoder_at s n i ≡ Some d → has_range r d ≡ true → span_kind t n i ≡ span_kind s n i
unfolding kind_by
same_kinds s t r same n i d there has =
    let start = same_start (decoders_at s n) (decoders_at t n) (has_range r) i d (keeps_up_to s t r n same.there) there has in
    let here : decoder_at t n i ≡ decoder_at s n i = same.there n i i d there has (omega arith) in
    let nodes = same.nodes in
    λ k. kind_by (nodes k) n (start k) (here k)

pub common : (s t : System) (r : Range) → HaveSameDecoders s t r → Common s t r
common s t r same = record {
  nodes = same.nodes;
  windows = same.windows;
  serve = λ k n. (first n).any k;
  decode = λ k n. (first n).found k;
  number = λ k n. (first n).place k;
  list = λ k p. same_lists_of s t r same p k;
  kinds = λ k n. kind_of n k;
}
  where
    first : (n : ℕ) → SameFirst (has_range r) (decoders_at s n) (decoders_at t n)
    first = firsts s t r (own_decoders s t r same)

    at : (n : ℕ) (o : Option ℕ) → index_for s r n ≡ o → option_map_or (span_kind t n) o Ram ≡ option_map_or (span_kind s n) o Ram
    at n None is = refl
    at n (Some i) is =
        let own = position-Some (has_range r) (decoders_at s n) i reset_decoder is in
        same_kinds s t r same n i (get_or (decoders_at s n) i reset_decoder) (slice_get-get_or (decoders_at s n) i reset_decoder own.0) own.1

    kind_of : (n : ℕ) → own_kind t r n ≡ own_kind s r n
    kind_of n = ap (λ (o : Option ℕ). option_map_or (span_kind t n) o Ram) (first n).place ∙ at n (index_for s r n) refl

-- ---- ways, kinds and codes

-- the decoders of the range in the ports above a node
abbrev pub ports_by : List Node → (ℕ → Option Decoder) → ℕ → List Decoder
ports_by nodes decode n = filter_map (λ parent. decode parent.node) (ports_above nodes n)

abbrev first_by : List Node → (ℕ → Bool) → Option ℕ
first_by nodes serve = find (λ n. is_endpoint_at nodes n && serve n) (range_with_len 0 (length nodes))

same_ports : (s t : System) (r : Range) → Common s t r → (n : ℕ) → ports_for t r n ≡ ports_for s r n
same_ports s t r both n = let nodes = both.nodes in let decode = both.decode in λ k. ports_by (nodes k) (decode k) n

same_ways_above : (s t : System) (r : Range) → Common s t r → (n : ℕ) → ways_above t r n ≡ ways_above s r n
same_ways_above s t r both n = ap (λ (ds : List Decoder). product (map decoder_ways ds)) (same_ports s t r both n)

same_bits_above : (s t : System) (r : Range) → Common s t r → (n : ℕ) → bits_above t r n ≡ bits_above s r n
same_bits_above s t r both n = ap (λ (ds : List Decoder). sum_by (λ d. select_bits d.ways) ds) (same_ports s t r both n)

same_first_endpoint : (s t : System) (r : Range) → Common s t r → first_endpoint t r ≡ first_endpoint s r
same_first_endpoint s t r both = let nodes = both.nodes in let serve = both.serve in λ k. first_by (nodes k) (serve k)

same_first_decoder : (s t : System) (r : Range) → Common s t r → first_decoder t r ≡ first_decoder s r
same_first_decoder s t r both = let first = same_first_endpoint s t r both in let decode = both.decode in λ k. option_and_then (decode k) (first k)

same_range_ways : (s t : System) (r : Range) → Common s t r → range_ways t r ≡ range_ways s r
same_range_ways s t r both = ap (λ (o : Option Decoder). option_map_or decoder_ways o 1) (same_first_decoder s t r both)

same_range_kind : (s t : System) (r : Range) → Common s t r → range_kind t r ≡ range_kind s r
same_range_kind s t r both = let first = same_first_endpoint s t r both in let kinds = both.kinds in λ k. option_map_or (kinds k) (first k) Ram

same_range_code : (s t : System) (r : Range) (w : WindowFields) → Common s t r → range_code t w r ≡ range_code s w r
same_range_code s t r w both =
    ap (λ (o : Option Decoder). if nat_lt 1 w.ways then w.gran else option_map_or (λ d. if decoder_ways d == 1 then 0 else d.gran) o 0) (same_first_decoder s t r both)

same_window : (s t : System) (r : Range) → Common s t r → window_for t r ≡ window_for s r
same_window s t r both = ap (find (lies_within r)) both.windows

-- ---- the rules' tests of a decoder of the range

abbrev lands_by : List Node → (ℕ → Bool) → ℕ → Bool
lands_by nodes serve n = option_map_or serve (landing_of nodes n) false

abbrev nine_by : List Node → Option WindowFields → MemKind → ℕ → Range → Bool
nine_by nodes window kind n r = option_map_or (λ w. starts_in_thirds w r && (not (is_endpoint_at nodes n) || permits w kind)) window false

abbrev ten_by : List Node → (ℕ → Bool) → Option WindowFields → ℕ → Decoder → Bool
ten_by nodes serve window n d =
    (is_endpoint_at nodes n || (are_distinct (entries_of d) && list_all (λ port. option_map_or (lands_by nodes serve) (child_of nodes n port) false) (entries_of d)))
    && (not (is_bridge_landing nodes n) || option_map_or (λ w. list_all (λ uid. option_map_or (lands_by nodes serve) (bridge_with nodes uid) false) w.targets) window true)

abbrev eleven_by : List Node → (Parent → Bool) → Option WindowFields → ℕ → Bool
eleven_by nodes list window n =
    not (forwards_at nodes n)
    && option_map_or list (decoding_port_of nodes n) (option_map_or (λ w. option_map_or (λ uid. list_any (λ target. target == uid) w.targets) (uid_above nodes n) false) window false)

same_nine : (s t : System) (r : Range) → Common s t r → (n i : ℕ) (d : Decoder) → range_of d ≡ r → span_kind t n i ≡ span_kind s n i → keeps_window t n i d ≡ keeps_window s n i d
same_nine s t r both n i d own kind =
    let nodes = both.nodes in
    let window = same_window s t r both in
    let before : keeps_window t n i d ≡ nine_by t.nodes (window_for t r) (span_kind t n i) n r = ap (λ (q : Range). nine_by t.nodes (window_for t q) (span_kind t n i) n q) own in
    let after : keeps_window s n i d ≡ nine_by s.nodes (window_for s r) (span_kind s n i) n r = ap (λ (q : Range). nine_by s.nodes (window_for s q) (span_kind s n i) n q) own in
    let middle : nine_by t.nodes (window_for t r) (span_kind t n i) n r ≡ nine_by s.nodes (window_for s r) (span_kind s n i) n r = λ k. nine_by (nodes k) (window k) (kind k) n r in
    before ∙ middle ∙ sym after

same_ten : (s t : System) (r : Range) → Common s t r → (n : ℕ) (d : Decoder) → range_of d ≡ r → keeps_targets t n d ≡ keeps_targets s n d
same_ten s t r both n d own =
    let nodes = both.nodes in
    let serve = both.serve in
    let window = same_window s t r both in
    let before : keeps_targets t n d ≡ ten_by t.nodes (serves t r) (window_for t r) n d = ap (λ (q : Range). ten_by t.nodes (serves t q) (window_for t q) n d) own in
    let after : keeps_targets s n d ≡ ten_by s.nodes (serves s r) (window_for s r) n d = ap (λ (q : Range). ten_by s.nodes (serves s q) (window_for s q) n d) own in
    let middle : ten_by t.nodes (serves t r) (window_for t r) n d ≡ ten_by s.nodes (serves s r) (window_for s r) n d = λ k. ten_by (nodes k) (serve k) (window k) n d in
    before ∙ middle ∙ sym after

same_eleven : (s t : System) (r : Range) → Common s t r → (n : ℕ) (d : Decoder) → range_of d ≡ r → keeps_reach t n d ≡ keeps_reach s n d
same_eleven s t r both n d own =
    let nodes = both.nodes in
    let list = both.list in
    let window = same_window s t r both in
    let before : keeps_reach t n d ≡ eleven_by t.nodes (lists t r) (window_for t r) n = ap (λ (q : Range). eleven_by t.nodes (lists t q) (window_for t q) n) own in
    let after : keeps_reach s n d ≡ eleven_by s.nodes (lists s r) (window_for s r) n = ap (λ (q : Range). eleven_by s.nodes (lists s q) (window_for s q) n) own in
    let middle : eleven_by t.nodes (lists t r) (window_for t r) n ≡ eleven_by s.nodes (lists s r) (window_for s r) n = λ k. eleven_by (nodes k) (list k) (window k) n in
    before ∙ middle ∙ sym after

-- what K12 looks at
record Told : Type 0 where
  above : ℕ
  bits : ℕ
  ways : ℕ
  own : MemKind
  kind : MemKind
  code : WindowFields → ℕ

abbrev told : System → Range → ℕ → ℕ → Told
told s r n i = record {
  above = ways_above s r n;
  bits = bits_above s r n;
  ways = range_ways s r;
  own = span_kind s n i;
  kind = range_kind s r;
  code = λ w. range_code s w r;
}

abbrev twelve_by : List Node → Option WindowFields → Told → ℕ → Decoder → Bool
twelve_by nodes window told n d =
    option_map_or (λ w.
    if is_endpoint_at nodes n
    then ((decoder_ways d == w.ways * told.above) && (decoder_ways d == told.ways) && same_kind told.own told.kind && ((decoder_ways d == 1) || (d.gran == told.code w)))
    else ((decoder_ways d == 1) || (d.gran == told.code w + bits_of w.ways + told.bits)))
    window true

same_told : (s t : System) (r : Range) → Common s t r → (n i : ℕ) → span_kind t n i ≡ span_kind s n i → told t r n i ≡ told s r n i
same_told s t r both n i own =
    let above = same_ways_above s t r both n in
    let bits = same_bits_above s t r both n in
    let ways = same_range_ways s t r both in
    let kind = same_range_kind s t r both in
    λ k. record { above = above k; bits = bits k; ways = ways k; own = own k; kind = kind k; code = λ w. same_range_code s t r w both k }

same_twelve : (s t : System) (r : Range) → Common s t r → (n i : ℕ) (d : Decoder) → range_of d ≡ r → span_kind t n i ≡ span_kind s n i → keeps_ways t n i d ≡ keeps_ways s n i d
same_twelve s t r both n i d own kind =
    let nodes = both.nodes in
    let window = same_window s t r both in
    let parts = same_told s t r both n i kind in
    let before : keeps_ways t n i d ≡ twelve_by t.nodes (window_for t r) (told t r n i) n d = ap (λ (q : Range). twelve_by t.nodes (window_for t q) (told t q n i) n d) own in
    let after : keeps_ways s n i d ≡ twelve_by s.nodes (window_for s r) (told s r n i) n d = ap (λ (q : Range). twelve_by s.nodes (window_for s q) (told s q n i) n d) own in
    let middle : twelve_by t.nodes (window_for t r) (told t r n i) n d ≡ twelve_by s.nodes (window_for s r) (told s r n i) n d = λ k. twelve_by (nodes k) (window k) (parts k) n d in
    before ∙ middle ∙ sym after

-- ---- the rules

same_test_at : (s t : System) (n i : ℕ) (d : Decoder) (one other : Decoder → Bool) → decoder_at s n i ≡ Some d → decoder_at t n i ≡ Some d → one d ≡ other d → breaks_at t n i one ≡ breaks_at s n i other
same_test_at s t n i d one other there also same =
    ap (λ (o : Option Decoder). option_map_or (λ e. e.committed && not (one e)) o false) also
    ∙ ap (λ b. d.committed && not b) same
    ∙ sym (ap (λ (o : Option Decoder). option_map_or (λ e. e.committed && not (other e)) o false) there)

rules_from_nine : (s t : System) (rule n i : ℕ) → 9 ≤ rule → breaks_at t n i (keeps_window t n i) ≡ breaks_at s n i (keeps_window s n i) → breaks_at t n i (keeps_targets t n) ≡ breaks_at s n i (keeps_targets s n)
    → breaks_at t n i (keeps_reach t n) ≡ breaks_at s n i (keeps_reach s n) → breaks_at t n i (keeps_ways t n i) ≡ breaks_at s n i (keeps_ways s n i) → breaks t rule n i ≡ breaks s rule n i
unfolding breaks
rules_from_nine s t rule n i high nine ten eleven twelve =
    rw (ne_eqb rule 1 (omega arith), le-ltb rule 9 high)
    (λ k. if rule == 9 then nine k else (if rule == 10 then ten k else (if rule == 11 then eleven k else (if rule == 12 then twelve k else false))))

-- K9 to K12 say the same of a decoder of the range in both
pub same_rules : (s t : System) (r : Range) → HaveSameDecoders s t r → (rule n i : ℕ) (d : Decoder) → 9 ≤ rule → decoder_at s n i ≡ Some d → has_range r d ≡ true → breaks t rule n i ≡ breaks s rule n i
same_rules s t r same rule n i d high there has =
    let both = common s t r same in
    let own = same_range r d (has_parts r d has) in
    let also : decoder_at t n i ≡ Some d = same.there n i i d there has (omega arith) ∙ there in
    let kind = same_kinds s t r same n i d there has in
    rules_from_nine s t rule n i high
    (same_test_at s t n i d (keeps_window t n i) (keeps_window s n i) there also (same_nine s t r both n i d own kind))
    (same_test_at s t n i d (keeps_targets t n) (keeps_targets s n) there also (same_ten s t r both n d own))
    (same_test_at s t n i d (keeps_reach t n) (keeps_reach s n) there also (same_eleven s t r both n d own))
    (same_test_at s t n i d (keeps_ways t n i) (keeps_ways s n i) there also (same_twelve s t r both n i d own kind))

-- a whole range stays one where the decoders that it needs are the same
abbrev pub WholeStays : Type 0
WholeStays = (s t : System) (r : Range) → HaveSameDecoders s t r → KeepsBlocks t → IsWhole s r → IsWhole t r

pub whole_stays : WholeStays
whole_stays s t r same keeps whole = record {
  blocks = keeps;
  range = λ rule n i d high there has.
      let before : decoder_at s n i ≡ Some d = same.back n i i d there has (omega arith) ∙ there in
      same_rules s t r same rule n i d high before has ∙ whole.range rule n i d high before has;
}

-- ---- the spans

same_span_place : (s t : System) (r : Range) → HaveSameDecoders s t r → (place : Place) → IsSomeAnd (index_for s r place.endpoint) (λ i. place.start ≡ span_start_of (decoders_at s place.endpoint) i)
    → IsSomeAnd (index_for t r place.endpoint) (λ i. place.start ≡ span_start_of (decoders_at t place.endpoint) i)
same_span_place s t r same place start = go (index_for s r place.endpoint) refl start
  where
    n : ℕ
    n = place.endpoint

    go : (o : Option ℕ) → index_for s r n ≡ o → IsSomeAnd o (λ i. place.start ≡ span_start_of (decoders_at s n) i) → IsSomeAnd (index_for t r n) (λ i. place.start ≡ span_start_of (decoders_at t n) i)
    go None is none = absurd none
    go (Some i) is begins =
        let own = position-Some (has_range r) (decoders_at s n) i reset_decoder is in
        let d : Decoder = get_or (decoders_at s n) i reset_decoder in
        let at : decoder_at s n i ≡ Some d = slice_get-get_or (decoders_at s n) i reset_decoder own.0 in
        let number : index_for t r n ≡ Some i = (firsts s t r (own_decoders s t r same) n).place ∙ is in
        let moved : span_start_of (decoders_at t n) i ≡ span_start_of (decoders_at s n) i = same_start (decoders_at s n) (decoders_at t n) (has_range r) i d (keeps_up_to s t r n same.there) at own.1 in
        subst (λ (o : Option ℕ). IsSomeAnd o (λ i. place.start ≡ span_start_of (decoders_at t n) i)) (sym number) (begins ∙ sym moved)

-- where a port leads a slot, told by what both images have
abbrev LeadsBy : WindowFields → ℕ → ℕ → ℕ → List Node → (ℕ → Option Decoder) → Type 0
LeadsBy w slot n child nodes decode =
    IsSomeAnd (decode n) (λ d. child_of nodes n (entry_at d (slot / (2 ^ bits_of w.ways * product (map decoder_ways (ports_by nodes decode n))) % decoder_ways d)) ≡ Some child)

leads_stays : (s t : System) (w : WindowFields) (r : Range) (slot n : ℕ) (place : Place) → HaveSameDecoders s t r → LeadsTo s w r slot n place → LeadsTo t w r slot n place
leads_stays s t w r slot n place same (past_forwarding _ child _ forwards first leads) =
    past_forwarding n child place (ap (λ (nodes : List Node). forwards_at nodes n) same.nodes ∙ forwards) (ap (λ (nodes : List Node). least_child_of nodes n) same.nodes ∙ first)
    (leads_stays s t w r slot child place same leads)
leads_stays s t w r slot n place same (past_port _ child _ own port way leads) =
    let both = common s t r same in
    let decoded : LeadsBy w slot n child s.nodes (decoder_for t r) = subst (LeadsBy w slot n child s.nodes) (sym both.decode) way in
    let moved : LeadsBy w slot n child t.nodes (decoder_for t r) = subst (λ (nodes : List Node). LeadsBy w slot n child nodes (decoder_for t r)) (sym both.nodes) decoded in
    past_port n child place (ap (λ (nodes : List Node). forwards_at nodes n) same.nodes ∙ own) (ap (λ (nodes : List Node). is_port_at nodes n) same.nodes ∙ port) moved
    (leads_stays s t w r slot child place same leads)
leads_stays s t w r slot n place same (at_endpoint _ endpoint start) =
    at_endpoint place (ap (λ (nodes : List Node). is_endpoint_at nodes place.endpoint) same.nodes ∙ endpoint) (same_span_place s t r same place start)

span_stays : (s t : System) (w : WindowFields) (r : Range) (slot : ℕ) (place : Place) → HaveSameDecoders s t r → HasSpan s w r slot place → HasSpan t w r slot place
span_stays s t w r slot place same span = record {
  bridge = span.bridge;
  target = subst (λ (nodes : List Node). IsSomeAnd (slice_get w.targets (target_position w slot)) (λ uid. bridge_with nodes uid ≡ Some span.bridge)) (sym same.nodes) span.target;
  leads = leads_stays s t w r slot span.bridge place same span.leads;
}

-- ---- the region

pub region_stays : (s t : System) (w : WindowFields) (found : Found) → HaveSameDecoders s t (region_range found) → KeepsBlocks t → IsRegionIn s w found → IsRegionIn t w found
region_stays s t w found same keeps is =
    let r : Range = region_range found in
    let both = common s t r same in
    record {
      committed = (is.committed.0, (firsts s t r (own_decoders s t r same) is.committed.0).any ∙ is.committed.1);
      whole = whole_stays s t r same keeps is.whole;
      window = same_window s t r both ∙ is.window;
      index = is.index;
      ways = is.ways ∙ sym (same_range_ways s t r both);
      code = is.code ∙ ap (λ (code : ℕ). if found.ways == 1 then 0 else code) (sym (same_range_code s t r w both));
      kind = is.kind ∙ sym (same_range_kind s t r both);
      slots = is.slots;
      spans = λ slot place at. span_stays s t w r slot place same (is.spans slot place at);
    }
