-- The live regions on the device of an endpoint are those that its decoders serve, each in the span of one.
use Rattle.std.proofs.Common.{◌≡◌, ◌≢◌, ℕ, zero, suc, ◌+◌, ◌/◌, ◌<◌, ◌≤◌, Bool, true, false, cond, List, [], ◌∷◌, ◌++◌, length, take, sum_by, get_or, Option, Some, None, inl, inr, sym, ap, ◌∙◌, subst, arith}
use Rattle.std.specs.Prelude.{slice_get, find, AllPairs, Contains}
use Rattle.std.specs.List.{position_or_len}
use Rattle.std.specs.Option.{option_map_or}
use Rattle.std.proofs.lemmas.Bool.{and_parts, cases_Bool, cases_lt, cases_order, false≢true}
use Rattle.std.proofs.lemmas.List.{length-append, get_or_default, get_or_append_left}
use Rattle.std.proofs.lemmas.List.Elements.{All-nil, All-cons, All-append}
use Rattle.std.proofs.lemmas.List.Folds.{find_at}
use Rattle.std.proofs.lemmas.List.Quantifiers.{position-Some}
use Rattle.std.proofs.lemmas.List.Sums.{fails_before_first}
use Rattle.std.proofs.lemmas.Option.{slice_get_within, slice_get-get_or, slice_get_past, get_or_from_slice_get, same_Some}
use Rattle.cxl_enc.proofs.Lists.{item, contains_at, contains_tail, get_last, is_in, in_from, in_is}
use Rattle.cxl_regs.specs.declared.decoder.Decoder.{Decoder}
use Rattle.cxl_regs.specs.declared.reading.Range.{Range}
use Rattle.cxl_regs.specs.Reading.{has_range, decoder_ways, span_length}
use Rattle.cxl_regs.specs.Registers.{Registers, reset_decoder}
use Rattle.cxl_regs.proofs.DecoderRanges.{has_parts}
use Rattle.cxl_span.specs.Spans.{span_step, span_start_of}
use Rattle.cxl_topo.specs.Tree.{is_endpoint_at}
use Rattle.cxl_window.specs.Fields.{WindowFields}
use Rattle.cxl_model.specs.declared.found.Found.{Found}
use Rattle.cxl_model.specs.declared.found.Place.{Place}
use Rattle.cxl_model.specs.declared.poison.Entry.{Entry}
use Rattle.cxl_model.specs.Bytes.{slot_length}
use Rattle.cxl_model.specs.Counts.{is_endpoint_of}
use Rattle.cxl_model.specs.Ranges.{index_for, serves}
use Rattle.cxl_model.specs.Regions.{region_range, IsRegionIn}
use Rattle.cxl_model.specs.System.{System, IsSystem, decoders_at}
use Rattle.cxl_model.proofs.ImageLaws.{ShareLaw}
use Rattle.cxl_model.proofs.RangeServers.{has_ways}
use Rattle.cxl_machine.specs.Machine.{Live, Machine, has_host, present, region_window}
use Rattle.cxl_machine.specs.Sound.{IsMachine}
use Rattle.cxl_machine.proofs.KeepingMachines.{live_there}
use Rattle.cxl_machine.proofs.LiveRegions.{live_is_region}
use Rattle.cxl_machine.proofs.Present.{StaysLaw}
use Rattle.cxl_live.specs.Apart.{LieApart}
use Rattle.cxl_live.proofs.Hosts.{host_within}
use Rattle.cxl_session.specs.declared.session.Session.TheInside.{Inside}
use Rattle.cxl_session.specs.Inside.{session_view}
use Rattle.cxl_session.specs.State.{SessionState, image_in}
use Rattle.cxl_session.specs.Standing.{StandsFor}
use Rattle.cxl_session.specs.inner.OnDevice.{with_place, ArePlaces, is_named, ArePlacesNamed, AddsServed}
use Rattle.cxl_session.specs.inner.Places.{HoldsAt}
use Rattle.cxl_session.proofs.Apart.{SizeLaw, live_apart}
use Rattle.cxl_session.proofs.LiveRegions.{StaysSystem, present_is}
use Rattle.cxl_session.proofs.Places.{as_many, stands_at}

-- the endpoint of each slot has a decoder of the region's range, whose span starts where the slot's does
abbrev pub IndexLaw : Type 0
IndexLaw =
    (s : System) (w : WindowFields) (found : Found) (slot : ℕ) (place : Place) → IsSystem s → IsRegionIn s w found → slice_get found.spans slot ≡ Some place
    → (i : ℕ) × (index_for s (region_range found) place.endpoint ≡ Some i) × (place.start ≡ span_start_of (decoders_at s place.endpoint) i)

-- it is one of the range's endpoints
abbrev pub EndpointLaw : Type 0
EndpointLaw =
    (s : System) (w : WindowFields) (found : Found) (slot : ℕ) (place : Place) → IsSystem s → IsRegionIn s w found → slice_get found.spans slot ≡ Some place
    → is_endpoint_of s (region_range found) place.endpoint ≡ true

-- one of these decoders is committed with this base, and its span starts there and is so long
pub record ServesSlot (decoders : List Decoder) (base start len : ℕ) : Type 0 where
  pub i : ℕ
  pub d : Decoder
  pub low : i < length decoders
  pub there : slice_get decoders i ≡ Some d
  pub committed : d.committed ≡ true
  pub same : base ≡ d.base
  pub starts : span_start_of decoders i ≡ start
  pub long : span_length d ≡ len

serves_at : (s : System) (w : WindowFields) (found : Found) (place : Place) (i : ℕ) → IsRegionIn s w found → is_endpoint_of s (region_range found) place.endpoint ≡ true
    → index_for s (region_range found) place.endpoint ≡ Some i → place.start ≡ span_start_of (decoders_at s place.endpoint) i → ServesSlot (decoders_at s place.endpoint) found.base place.start (slot_length found)
serves_at s w found place i region endpoint index start =
    let r : Range = region_range found in
    let decoders : List Decoder = decoders_at s place.endpoint in
    let at = position-Some (has_range r) decoders i reset_decoder index in
    let d : Decoder = get_or decoders i reset_decoder in
    let there : slice_get decoders i ≡ Some d = slice_get-get_or decoders i reset_decoder at.0 in
    let own = has_parts r d at.1 in
    let parts = and_parts (is_endpoint_at s.nodes place.endpoint) (serves s r place.endpoint) endpoint in
    let ways = has_ways s w r place.endpoint i d region.whole region.window (record { endpoint = parts.0; there = there; has = at.1 }) in
    record {
      i = i;
      d = d;
      low = at.0;
      there = there;
      committed = own.committed;
      same = sym own.base;
      starts = sym start;
      long = ap (λ (n : ℕ). n / decoder_ways d) own.size ∙ ap (λ (n : ℕ). found.size / n) (ways.ways ∙ sym region.ways);
    }

module _ (session : SessionState) (m : Machine) (stands : StandsFor session m) (system : StaysSystem) (stays : StaysLaw) (index : IndexLaw) (of : EndpointLaw) (is : IsMachine m) where
  -- a decoder of the endpoint of each slot has the base of the slot's region, and the slot's span
  pub served : (endpoint : ℕ) (region : Live) → Contains m.live region → (slot : ℕ) (place : Place) → slice_get region.found.spans slot ≡ Some place → place.endpoint ≡ endpoint
      → ServesSlot (decoders_at (image_in session) endpoint) region.found.base place.start (slot_length region.found)
  served endpoint region inside slot place there here =
      let stay = stays m region is inside in
      let w : WindowFields = region_window m.settled region.found in
      let own : IsRegionIn (present m) w region.found = stay.1 in
      let (i, at, start) = index (present m) w region.found slot place (system m is).0 own there in
      let mine : ServesSlot (decoders_at (present m) place.endpoint) region.found.base place.start (slot_length region.found) =
      serves_at (present m) w region.found place i own (of (present m) w region.found slot place (system m is).0 own there) at start in
      subst (λ (s : System). ServesSlot (decoders_at s endpoint) region.found.base place.start (slot_length region.found)) (present_is session m stands)
      (subst (λ (n : ℕ). ServesSlot (decoders_at (present m) n) region.found.base place.start (slot_length region.found)) here mine)

-- the decoders of a node's block
pub decoders_there : (session : SessionState) (inside : Inside) → session_view inside ≡ session → (node : ℕ) (block : Registers) → slice_get inside.image node ≡ Some block
    → block.decoders ≡ decoders_at (image_in session) node
decoders_there session inside view node block there =
    sym (ap (λ (o : Option Registers). option_map_or (λ (b : Registers). b.decoders) o []) there) ∙ ap (λ (s : SessionState). decoders_at (image_in s) node) view

-- a node past the blocks has none
pub no_decoders : (session : SessionState) (inside : Inside) → session_view inside ≡ session → (node : ℕ) → length inside.image ≤ node → [] ≡ decoders_at (image_in session) node
no_decoders session inside view node past =
    sym (ap (λ (o : Option Registers). option_map_or (λ (b : Registers). b.decoders) o []) (slice_get_past inside.image node past)) ∙ ap (λ (s : SessionState). decoders_at (image_in s) node) view

-- ---- the places of those that are served

-- where none is found, none passes
pub none_passes : {X : Type 0} (p : X → Bool) (xs : List X) (x : X) → find p xs ≡ None → Contains xs x → p x ≡ true → ⊥
none_passes p xs x none (k, low, is) passes =
    elim (cases_lt (position_or_len p xs) (length xs)) [
      | inl within ↦
          let some : find p xs ≡ Some (get_or xs (position_or_len p xs) x) = find_at p xs ∙ slice_get-get_or xs (position_or_len p xs) x within in
          cc (none, some)
      | inr past ↦
          let fails : p (get_or xs k x) ≡ false = fails_before_first p xs k x (omega (arith, low, past)) in
          false≢true (sym fails ∙ ap p is ∙ passes)
    ]

-- the region of a base stands at one place alone
module _ (founds : List Found) (apart : LieApart founds) where
  one_place : (p q : ℕ) (found other : Found) → slice_get founds p ≡ Some found → slice_get founds q ≡ Some other → has_host found other.base ≡ true → p ≡ q
  one_place p q found other one two holds =
      let clash : has_host (get_or founds p found) (get_or founds q found).base ≡ false → p ≡ q = λ misses.
      absurd (false≢true (sym (subst (λ (a : Found). has_host a other.base ≡ false) (get_or_from_slice_get founds p found found one)
      (subst (λ (b : Found). has_host (get_or founds p found) b.base ≡ false) (get_or_from_slice_get founds q other found two) misses)) ∙ holds)) in
      elim (cases_order p q) [
        | inl equal ↦ equal
        | inr differs ↦ elim differs [
          | inl before ↦ clash (apart p q found before (slice_get_within founds q other two)).0
          | inr after ↦ clash (apart q p found after (slice_get_within founds p found one)).1
        ]
      ]

-- a place more
contains_front : (xs : List ℕ) (x y : ℕ) → Contains xs y → Contains (xs ++ x ∷ []) y
contains_front [] x y (k, low, is) = absurd (omega (arith, low))
contains_front (a ∷ xs) x y (zero, low, is) = (0, omega arith, is)
contains_front (a ∷ xs) x y (suc k, low, is) = contains_tail a y (xs ++ x ∷ []) (contains_front xs x y (k, omega (arith, low), is))

contains_last : (xs : List ℕ) (x : ℕ) → Contains (xs ++ x ∷ []) x
contains_last xs x = contains_at (xs ++ x ∷ []) (length xs) x (get_last xs x)

once_more : (xs : List ℕ) (x : ℕ) → AllPairs (λ a b. a ≢ b) xs → (Contains xs x → ⊥) → AllPairs (λ a b. a ≢ b) (xs ++ x ∷ [])
once_more xs x once absent i j d less low same =
    let long = length-append xs (x ∷ []) in
    let first : get_or (xs ++ x ∷ []) i d ≡ get_or xs i d = get_or_append_left xs (x ∷ []) d i (omega (arith, less, low, long)) in
    elim (cases_lt j (length xs)) [
      | inl within ↦ once i j d less within (sym first ∙ same ∙ get_or_append_left xs (x ∷ []) d j within)
      | inr past ↦
          let last : j ≡ length xs = omega (arith, low, long, past) in
          let own : get_or (xs ++ x ∷ []) j d ≡ x = ap (λ (n : ℕ). get_or (xs ++ x ∷ []) n d) last ∙ get_or_from_slice_get (xs ++ x ∷ []) (length xs) x d (get_last xs x) in
          let within : i < length xs = omega (arith, less, last) in
          absent (i, within, get_or_default xs i x d within ∙ sym first ∙ same ∙ own)
    ]

module _ (session : SessionState) (decoder : Decoder) where
  pub adds_none : (places : List ℕ) → (decoder.committed ≡ true → (place : ℕ) (found : Found) → slice_get session.founds place ≡ Some found → found.base ≡ decoder.base → Contains places place)
      → AddsServed session decoder places places
  adds_none places all = record { are = λ are. are; kept = λ place there. there; served = λ place found at committed same. all committed place found at same }

  pub adds_one : (places : List ℕ) (place : ℕ) → place < length session.founds → (Contains places place → ⊥)
      → ((other : ℕ) (found : Found) → slice_get session.founds other ≡ Some found → found.base ≡ decoder.base → other ≡ place) → AddsServed session decoder places (places ++ place ∷ [])
  adds_one places place low absent alone = record {
    are = λ are. record {
      each = All-append (λ (n : ℕ). n < length session.founds) places (place ∷ []) are.each (All-cons (λ (n : ℕ). n < length session.founds) place [] low (All-nil (λ (n : ℕ). n < length session.founds)));
      once = once_more places place are.once absent;
    };
    kept = contains_front places place;
    served = λ other found at committed same. subst (Contains (places ++ place ∷ [])) (sym (alone other found at same)) (contains_last places place);
  }

  pub adds_place : (places : List ℕ) (place : ℕ) → place < length session.founds → ((other : ℕ) (found : Found) → slice_get session.founds other ≡ Some found → found.base ≡ decoder.base → other ≡ place)
      → AddsServed session decoder places (with_place places place)
  adds_place places place low alone =
      elim (cases_Bool (is_in place places)) [
        | inl among ↦
            subst (λ (b : Bool). AddsServed session decoder places (cond b places (places ++ place ∷ []))) (sym among)
            (adds_none places (λ _ other found at same. subst (Contains places) (sym (alone other found at same)) (in_is places place among)))
        | inr absent ↦
            subst (λ (b : Bool). AddsServed session decoder places (cond b places (places ++ place ∷ []))) (sym absent)
            (adds_one places place low (λ there. false≢true (sym absent ∙ in_from places place there)) alone)
      ]

  module _ (m : Machine) (stands : StandsFor session m) (is : IsMachine m) (share : ShareLaw) (some : SizeLaw) where
    -- a live region holds its base
    held : (place : ℕ) (found : Found) → slice_get session.founds place ≡ Some found → has_host found found.base ≡ true
    held place found at =
        let (region, there) = item m.live place (let long = as_many session m stands in let low = slice_get_within session.founds place found at in omega (arith, long, low)) in
        let own : region.found ≡ found = same_Some region.found found (sym (stands_at session m place region stands there).found ∙ at) in
        let w : WindowFields = region_window m.settled region.found in
        let size = some m.settled w region.found is.settled.system (live_is_region m is region (contains_at m.live place region there)) in
        subst (λ (f : Found). has_host f f.base ≡ true) own (host_within region.found region.found.base (omega arith) (omega (arith, size)))

    -- where one holds the base, it is the one of that base
    pub alone_there : (place : ℕ) → HoldsAt session m decoder.base (Some place) → (place < length session.founds)
        × ((other : ℕ) (found : Found) → slice_get session.founds other ≡ Some found → found.base ≡ decoder.base → other ≡ place)
    alone_there place (region, finds, at) =
        let holds : has_host region.found decoder.base ≡ true = (live_there m (λ (r : Live). has_host r.found decoder.base) region finds).1 in (
          slice_get_within session.founds place region.found at.found,
          λ other found there same. sym (one_place session.founds (live_apart share some session m stands is) place other region.found found at.found there (subst (λ (h : ℕ). has_host region.found h ≡ true) (sym same) holds)),
        )

    -- and where none does, none is of it
    pub none_served : HoldsAt session m decoder.base None → (places : List ℕ) (place : ℕ) (found : Found) → slice_get session.founds place ≡ Some found → found.base ≡ decoder.base → Contains places place
    none_served none places place found at same =
        let (region, there) = item m.live place (let long = as_many session m stands in let low = slice_get_within session.founds place found at in omega (arith, long, low)) in
        let own : region.found ≡ found = same_Some region.found found (sym (stands_at session m place region stands there).found ∙ at) in
        let holds : has_host region.found decoder.base ≡ true = subst (λ (f : Found). has_host f decoder.base ≡ true) (sym own) (subst (λ (h : ℕ). has_host found h ≡ true) same (held place found at)) in
        absurd (none_passes (λ (r : Live). has_host r.found decoder.base) m.live region none (contains_at m.live place region there) holds)

-- ---- decoder by decoder

-- where the next decoder's span starts
pub starts_there : (decoders : List Decoder) (n : ℕ) (own : Decoder) (taken : ℕ) → slice_get decoders n ≡ Some own → taken ≡ sum_by span_step (take n decoders) → taken + own.tail ≡ span_start_of decoders n
starts_there decoders n own taken there so_far =
    ap (λ (t : ℕ). t + own.tail) so_far ∙ ap (λ (o : Option Decoder). sum_by span_step (take n decoders) + option_map_or (λ (d : Decoder). d.tail) o 0) (sym there)

-- the places of those that the first decoders serve, where one of the records names a byte of the decoder's span
pub record HasServed (session : SessionState) (decoders : List Decoder) (records : List Entry) (n : ℕ) (places : List ℕ) : Type 0 where
  pub are : ArePlaces session places
  pub served : (k : ℕ) (d : Decoder) → k < n → slice_get decoders k ≡ Some d → d.committed ≡ true → is_named records (span_start_of decoders k) (span_start_of decoders k + span_length d) ≡ true
      → (place : ℕ) (found : Found) → slice_get session.founds place ≡ Some found → found.base ≡ d.base → Contains places place

pub served_none : (session : SessionState) (decoders : List Decoder) (records : List Entry) → HasServed session decoders records 0 []
served_none session decoders records = record { are = record { each = All-nil (λ (n : ℕ). n < length session.founds); once = λ i j d less low. absurd (omega (arith, low)) }; served = λ k d low. absurd (omega (arith, low)) }

module _ (session : SessionState) (decoders : List Decoder) (records : List Entry) (n : ℕ) (own : Decoder) (there : slice_get decoders n ≡ Some own) where
  -- the next one's is put
  pub served_more : (old new : List ℕ) → AddsServed session own old new → HasServed session decoders records n old → HasServed session decoders records (n + 1) new
  served_more old new adds before = record {
    are = adds.are before.are;
    served = λ k d low at committed named place found stands same.
        elim (cases_lt k n) [
          | inl less ↦ adds.kept place (before.served k d less at committed named place found stands same)
          | inr past ↦
              let last : n ≡ k = omega (arith, low, past) in
              let alike : own ≡ d = same_Some own d (sym there ∙ ap (slice_get decoders) last ∙ at) in
              adds.served place found stands (ap (λ (x : Decoder). x.committed) alike ∙ committed) (same ∙ ap (λ (x : Decoder). x.base) (sym alike))
        ];
  }

  -- no record names a byte of the next one's span
  pub served_past : (places : List ℕ) (start : ℕ) → start ≡ span_start_of decoders n → is_named records start (start + span_length own) ≡ false → HasServed session decoders records n places
      → HasServed session decoders records (n + 1) places
  served_past places start starts none before = record {
    are = before.are;
    served = λ k d low at committed named place found stands same.
        elim (cases_lt k n) [
          | inl less ↦ before.served k d less at committed named place found stands same
          | inr past ↦
              let last : n ≡ k = omega (arith, low, past) in
              let alike : own ≡ d = same_Some own d (sym there ∙ ap (slice_get decoders) last ∙ at) in
              let here : start ≡ span_start_of decoders k = starts ∙ ap (span_start_of decoders) last in
              let told : is_named records start (start + span_length own) ≡ is_named records (span_start_of decoders k) (span_start_of decoders k + span_length d) =
              ap (λ (b : ℕ). is_named records b (b + span_length own)) here ∙ ap (λ (x : Decoder). is_named records (span_start_of decoders k) (span_start_of decoders k + span_length x)) alike in
              absurd (false≢true (sym none ∙ told ∙ named))
        ];
  }

-- a record that names a byte of a slot's span names one of the decoder's
named_there : (decoders : List Decoder) (records : List Entry) (base start len : ℕ) (slot : ServesSlot decoders base start len) → is_named records start (start + len) ≡ true
    → is_named records (span_start_of decoders slot.i) (span_start_of decoders slot.i + span_length slot.d) ≡ true
named_there decoders records base start len slot named =
    ap (λ (b : ℕ). is_named records b (b + span_length slot.d)) slot.starts ∙ ap (λ (n : ℕ). is_named records start (start + n)) slot.long ∙ named

pub served_all : (session : SessionState) (m : Machine) → StandsFor session m → StaysSystem → StaysLaw → IndexLaw → EndpointLaw → IsMachine m → (endpoint : ℕ) (records : List Entry) (decoders : List Decoder)
    → decoders ≡ decoders_at (image_in session) endpoint → (n : ℕ) (places : List ℕ) → length decoders ≤ n → HasServed session decoders records n places → ArePlacesNamed session endpoint records places
served_all session m stands system stays index of is endpoint records decoders same n places long has = record {
  are = has.are;
  all = λ place slot found on at there here named.
      let (region, live) = item m.live place (let count = as_many session m stands in let low = slice_get_within session.founds place found at in omega (arith, count, low)) in
      let alike : region.found ≡ found = same_Some region.found found (sym (stands_at session m place region stands live).found ∙ at) in
      let own : ServesSlot (decoders_at (image_in session) endpoint) region.found.base on.start (slot_length region.found) =
      served session m stands system stays index of is endpoint region (contains_at m.live place region live) slot on (ap (λ (f : Found). slice_get f.spans slot) alike ∙ there) here in
      let mine : ServesSlot decoders found.base on.start (slot_length found) =
      subst (λ (f : Found). ServesSlot decoders f.base on.start (slot_length f)) alike (subst (λ (ds : List Decoder). ServesSlot ds region.found.base on.start (slot_length region.found)) (sym same) own) in
      let low = mine.low in
      has.served mine.i mine.d (omega (arith, low, long)) mine.there mine.committed (named_there decoders records found.base on.start (slot_length found) mine named) place found at mine.same;
}
