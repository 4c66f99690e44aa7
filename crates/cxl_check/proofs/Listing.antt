-- The regions of an accepted image, listed by the keys of its ranges.
use Rattle.std.proofs.Common.{◌≡◌, ℕ, ◌+◌, ◌<◌, ◌&&◌, true, List, [], ◌∷◌, ◌++◌, length, get_or, map, take, Option, Some, None, refl, sym, ap, subst, ◌∙◌, inl, inr, arith}
use Rattle.std.specs.Prelude.{slice_get, ◌==◌, IsSome, All, AllPairs, Contains, option_map}
use Rattle.std.specs.declared.cmp.Ordering.TheVariants.{Less}
use Rattle.std.specs.List.{list_any, range_with_len}
use Rattle.std.specs.Option.{option_map_or}
use Rattle.std.specs.BTreeMap.{BTreeMap, get, is_at, keys, IsOrdered, ContainsKey}
use Rattle.std.proofs.lemmas.Bool.{and_parts, eqb-true, false≢true}
use Rattle.std.proofs.lemmas.Option.{slice_get-map, slice_get_within, slice_get_read, slice_get-get_or, get_or_from_slice_get}
use Rattle.std.proofs.lemmas.List.{map-append, take_more}
use Rattle.std.proofs.lemmas.List.Elements.{All-push}
use Rattle.std.proofs.lemmas.List.Folds.{Any-from_list_any}
use Rattle.std.proofs.lemmas.Map.Keys.{Less-from_sorted}
use Rattle.cxl_topo.specs.Tree.{is_endpoint_at}
use Rattle.cxl_regs.specs.declared.decoder.Decoder.{Decoder}
use Rattle.cxl_regs.specs.declared.reading.Range.{Range}
use Rattle.cxl_regs.specs.Registers.{Registers}
use Rattle.cxl_regs.specs.Reading.{has_range}
use Rattle.cxl_span.specs.Breaches.{BlockKeeps}
use Rattle.cxl_model.specs.declared.found.Found.{Found}
use Rattle.cxl_model.specs.System.{System, IsSystem, ram_at, pmem_at}
use Rattle.cxl_model.specs.Ranges.{serves, IsCommittedRange, first_endpoint, range_ways}
use Rattle.cxl_model.specs.Accepted.{IsAccepted, IsWhole, IsOrderlySystem}
use Rattle.cxl_model.specs.Regions.{region_range, IsRegion}
use Rattle.cxl_model.specs.Counts.{is_endpoint_of, endpoints_of}
use Rattle.cxl_model.specs.Listed.{AreRegionsByBase}
use Rattle.cxl_model.proofs.ImageLaws.{AcceptedLaw, ShareLaw}
use Rattle.cxl_check.specs.declared.firsts.RangeKey.{RangeKey}
use Rattle.cxl_check.specs.inner.Firsts.{key_cmp, range_at, ListsFirsts}
use Rattle.cxl_check.specs.inner.Listing.{AreListed, IsWholeKey}
use Rattle.cxl_model.proofs.RangeRules.{block_keeps}
use Rattle.cxl_check.proofs.Keys.{lookup_place, mapped_at, filter_none, same_key, key_rises}
use Rattle.cxl_check.proofs.Numbers.{found}
use Rattle.cxl_check.proofs.WaysUp.{range_ways_some}

-- ---- the laws that this rests on

abbrev pub CountsEndpoints : Type 0
CountsEndpoints = (s : System) (r : Range) → IsSystem s → IsWhole s r → IsCommittedRange s r → length (endpoints_of s r) ≡ range_ways s r

abbrev pub HasBytes : Type 0
HasBytes = (block : Registers) (ram pmem i : ℕ) (d : Decoder) → BlockKeeps block ram pmem → slice_get block.decoders i ≡ Some d → d.committed ≡ true → 0 < d.size

-- ---- the keys

module _ (s : System) (ready : IsOrderlySystem s) (accepted : IsAccepted s) (firsts : BTreeMap RangeKey ℕ) (listed : ListsFirsts s (length s.nodes) firsts) (wholes : AcceptedLaw) where
  key_found : (key : RangeKey) → ContainsKey key_cmp firsts key → (n : ℕ) × (get key_cmp firsts key ≡ Some n)
  key_found key there = go (get key_cmp firsts key) refl there
    where
      go : (o : Option ℕ) → get key_cmp firsts key ≡ o → IsSome o → (n : ℕ) × (get key_cmp firsts key ≡ Some n)
      go None e h = absurd (false≢true h)
      go (Some n) e h = (n, e)

  -- the range of a key is one of the image
  committed_at : (key : RangeKey) → ContainsKey key_cmp firsts key → IsCommittedRange s (range_at key)
  committed_at key there =
      let first = key_found key there in
      let endpoint = found (λ (n : ℕ). is_endpoint_at s.nodes n && serves s (range_at key) n) (length s.nodes) first.0 (sym (listed key) ∙ first.1) in
      (first.0, (and_parts (is_endpoint_at s.nodes first.0) (serves s (range_at key) first.0) endpoint.1).1)

  -- and each committed range is whole
  pub whole_keys : All (ContainsKey key_cmp firsts) (keys firsts) → All (IsWholeKey s) (keys firsts)
  whole_keys found k none below =
      let committed = committed_at (get_or (keys firsts) k none) (found k none below) in
      record { committed = committed; whole = ((wholes s).0 accepted).1 (range_at (get_or (keys firsts) k none)) committed }

-- ---- one more

pub none_listed : (s : System) (keys : List RangeKey) → AreListed s (take 0 keys) []
none_listed s keys = record { ranges = refl; each = λ k d below. absurd (omega arith) }

pub one_listed : (s : System) (keys : List RangeKey) (i : ℕ) (key : RangeKey) (regions : List Found) (region : Found) → AreListed s (take i keys) regions → i < length keys → key ≡ get_or keys i key
    → IsRegion s region → region_range region ≡ range_at key → AreListed s (take (i + 1) keys) (regions ++ region ∷ [])
one_listed s keys i key regions region known below is one same = record {
  ranges =
      map-append region_range regions (region ∷ []) ∙ ap (λ (rs : List Range). rs ++ region_range region ∷ []) known.ranges
      ∙ ap (λ (r : Range). map range_at (take i keys) ++ r ∷ []) (same ∙ ap range_at is)
      ∙ sym (ap (map range_at) (take_more keys i key below) ∙ map-append range_at (take i keys) (get_or keys i key ∷ []));
  each = All-push (IsRegion s) regions region known.each one;
}

-- ---- all of them

module _ (s : System) (ready : IsOrderlySystem s) (accepted : IsAccepted s) (firsts : BTreeMap RangeKey ℕ) (listed : ListsFirsts s (length s.nodes) firsts) (ordered : IsOrdered key_cmp firsts)
    (wholes : AcceptedLaw) (counts : CountsEndpoints) (apart : ShareLaw) (bytes : HasBytes) (regions : List Found) (known : AreListed s (keys firsts) regions) where
  -- each committed range has a first endpoint
  first_of : (r : Range) → IsCommittedRange s r → (n : ℕ) × (first_endpoint s r ≡ Some n)
  first_of r committed = go (first_endpoint s r) refl
    where
      go : (o : Option ℕ) → first_endpoint s r ≡ o → (n : ℕ) × (first_endpoint s r ≡ Some n)
      go (Some n) e = (n, e)
      go None e =
          let none : endpoints_of s r ≡ [] = filter_none (is_endpoint_of s r) (range_with_len 0 (length s.nodes)) e in
          let count : length (endpoints_of s r) ≡ range_ways s r = counts s r ready.system (((wholes s).0 accepted).1 r committed) committed in
          let empty : length (endpoints_of s r) ≡ 0 = ap length none in
          let some = range_ways_some s r in
          absurd (omega arith)

  all : (r : Range) → IsCommittedRange s r → (region : Found) × Contains regions region × (region_range region ≡ r)
  all r committed =
      let first = first_of r committed in
      let key : RangeKey = record { base = r.base; size = r.size } in
      let place = lookup_place (is_at (key_cmp key)) firsts.entries first.0 (listed key ∙ first.1) in
      let same : key ≡ place.1.0 = same_key key place.1.0 place.3 in
      let in_keys : slice_get (keys firsts) place.0 ≡ Some place.1.0 = slice_get-map (λ (e : RangeKey × ℕ). e.0) firsts.entries place.0 ∙ ap (option_map (λ (e : RangeKey × ℕ). e.0)) place.2 in
      let in_ranges : slice_get (map range_at (keys firsts)) place.0 ≡ Some (range_at place.1.0) = slice_get-map range_at (keys firsts) place.0 ∙ ap (option_map range_at) in_keys in
      let region = mapped_at region_range regions place.0 (range_at place.1.0) (ap (λ (rs : List Range). slice_get rs place.0) known.ranges ∙ in_ranges) in (
        region.0,
        (place.0, slice_get_within regions place.0 region.0 region.1, get_or_from_slice_get regions place.0 region.0 region.0 region.1),
        region.2 ∙ ap range_at (sym same),
      )

  -- a committed range has some bytes
  has_bytes : (r : Range) → IsCommittedRange s r → 0 < r.size
  has_bytes r committed = go (slice_get s.blocks committed.0) refl committed.1
    where
      go : (o : Option Registers) → slice_get s.blocks committed.0 ≡ o → list_any (has_range r) (option_map_or (λ (block : Registers). block.decoders) o []) ≡ true → 0 < r.size
      go None e h = absurd (false≢true h)
      go (Some block) e h =
          let at = Any-from_list_any (has_range r) block.decoders h in
          let d = at.1 in
          let there : slice_get block.decoders at.0 ≡ Some d = slice_get_read block.decoders (length block.decoders) at.0 d refl at.2 (sym at.3) in
          let parts = and_parts (d.committed && (d.base == r.base)) (d.size == r.size) at.4 in
          let size : d.size ≡ r.size = eqb-true d.size r.size parts.1 in
          let some = bytes block (ram_at s committed.0) (pmem_at s committed.0) at.0 d (block_keeps s ready.blocks committed.0 block e) there (and_parts d.committed (d.base == r.base) parts.0).0 in
          omega arith

  -- the key of a region
  key_of : (i : ℕ) (region : Found) → slice_get regions i ≡ Some region → (key : RangeKey) × (slice_get (keys firsts) i ≡ Some key) × (range_at key ≡ region_range region)
  key_of i region there =
      mapped_at range_at (keys firsts) i (region_range region)
      (ap (λ (rs : List Range). slice_get rs i) (sym known.ranges) ∙ slice_get-map region_range regions i ∙ ap (option_map region_range) there)

  rises : (i j : ℕ) (a b : Found) → slice_get regions i ≡ Some a → slice_get regions j ≡ Some b → i < j → IsRegion s a → IsRegion s b → a.base < b.base
  rises i j a b a_there b_there before a_region b_region =
      let k = key_of i a a_there in
      let m = key_of j b b_there in
      let within = slice_get_within (keys firsts) j m.0 m.1 in
      let less : key_cmp k.0 m.0 ≡ Less =
      subst (λ (x : RangeKey). key_cmp x m.0 ≡ Less) (get_or_from_slice_get (keys firsts) i k.0 k.0 k.1)
      (subst (λ (x : RangeKey). key_cmp (get_or (keys firsts) i k.0) x ≡ Less) (get_or_from_slice_get (keys firsts) j m.0 k.0 m.1)
      (Less-from_sorted key_cmp (keys firsts) i j k.0 ordered before within)) in
      let a_base : k.0.base ≡ a.base = ap (λ (r : Range). r.base) k.2 in
      let b_base : m.0.base ≡ b.base = ap (λ (r : Range). r.base) m.2 in
      let a_size : k.0.size ≡ a.size = ap (λ (r : Range). r.size) k.2 in
      let b_size : m.0.size ≡ b.size = ap (λ (r : Range). r.size) m.2 in
      elim (key_rises k.0 m.0 less) [
        | inl lower ↦ omega arith
        | inr tie ↦
            let base = tie.0 in
            let smaller = tie.1 in
            let some = has_bytes (region_range a) a_region.1.committed in
            let one : a ≡ b = apart s a_region.0 b_region.0 a b a.base ready.system a_region.1 b_region.1 (omega arith) (omega arith) (omega arith) (omega arith) in
            let sizes : a.size ≡ b.size = ap (λ (f : Found). f.size) one in
            absurd (omega arith)
      ]

  rising : AllPairs (λ a b. a.base < b.base) regions
  rising i j d before within =
      rises i j (get_or regions i d) (get_or regions j d) (slice_get-get_or regions i d (omega arith)) (slice_get-get_or regions j d within) before (known.each i d (omega arith)) (known.each j d within)

  pub are_regions : AreRegionsByBase s regions
  are_regions = record {
    listed = record {
      each = known.each;
      all = all;
      once = λ i j d before within same. let less = rising i j d before within in let bases = ap (λ (f : Found). f.base) same in absurd (omega arith);
    };
    rising = rising;
  }
