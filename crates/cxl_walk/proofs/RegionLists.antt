-- The own decoders of regions are gathered a decoder at a time.
use Rattle.std.proofs.Common.{◌≡◌, ℕ, zero, suc, ◌+◌, ◌-◌, ◌<◌, ◌≤◌, ◌⊎◌, true, false, List, [], ◌∷◌, ◌++◌, Vec, Global, length, get_or, set, Option, Some, None, refl, sym, ap, subst, ◌∙◌, inl, inr, arith}
use Rattle.std.specs.Prelude.{AllPairs, slice_get}
use Rattle.std.specs.List.Sorted.{IsNonDecreasingBy}
use Rattle.std.specs.List.{AllZip, cons_option, filter_map, list_any, range_with_len}
use Rattle.std.specs.Option.{option_map_or}
use Rattle.std.proofs.lemmas.Bool.{cases_Bool, cases_eq, cases_lt}
use Rattle.std.proofs.lemmas.List.{append-nil, get_or-set_same, length-set}
use Rattle.std.proofs.lemmas.List.Elements.{filter_map-append}
use Rattle.std.proofs.lemmas.Option.{none-some, same_Some, slice_get-get_or, slice_get_within, get_or_from_slice_get}
use Rattle.cxl_enc.proofs.Lists.{get_other}
use Rattle.cxl_enc.proofs.Numbers.{numbers_append}
use Rattle.cxl_regs.proofs.DecoderRanges.{has_own_range, has_parts, same_range}
use Rattle.cxl_regs.specs.declared.decoder.Decoder.{Decoder}
use Rattle.cxl_regs.specs.declared.reading.Range.{Range}
use Rattle.cxl_regs.specs.Registers.{Registers}
use Rattle.cxl_regs.specs.Reading.{decoder_ways, has_range, range_of}
use Rattle.cxl_model.specs.declared.found.Found.{Found}
use Rattle.cxl_model.specs.Accepted.{KeepsBlocks}
use Rattle.cxl_model.specs.System.{System, blocks_alone, decoder_at, ram_at, pmem_at}
use Rattle.cxl_model.proofs.RangeRules.{block_keeps}
use Rattle.cxl_span.specs.Breaches.{BlockKeeps}
use Rattle.cxl_model.specs.Regions.{region_range}
use Rattle.cxl_walk.specs.declared.own.Own.{Own}
use Rattle.cxl_walk.specs.Keeping.{own_for}
use Rattle.cxl_walk.specs.inner.Gathering.{own_below, IsGathered, not_yet, entered, AreGathered, HoldsOnce}
use Rattle.cxl_walk.proofs.Slots.{own_nowhere}
use Rattle.cxl_walk.proofs.OwnBlocks.{own_here, own_missing}

-- ---- of one range

module _ (s : System) (r : Range) (n : ℕ) where
  -- behind those of the nodes below stands that of the node
  below_more : (o : Option Own) → own_for s r n ≡ o → own_below s r (n + 1) ≡ own_below s r n ++ cons_option o []
  below_more o is =
      let at : 0 + n ≡ n = omega arith in
      ap (filter_map (own_for s r)) (numbers_append 0 n 1)
      ∙ filter_map-append (own_for s r) (range_with_len 0 n) (range_with_len (0 + n) 1)
      ∙ ap (λ (m : ℕ). own_below s r n ++ cons_option (own_for s r m) []) at
      ∙ ap (λ (x : Option Own). own_below s r n ++ cons_option x []) is

  pub start : (own : List Own) → own ≡ own_below s r n → IsGathered s r n 0 own
  start own is = not_yet is (λ j d low there. absurd (omega (arith, low)))

  pub fresh : (own : List Own) → IsGathered s r n 0 own → own ≡ own_below s r n
  fresh own (not_yet is none) = is
  fresh own (entered is j d low there has) = absurd (omega (arith, low))

  pub nothing_more : (own : List Own) → own_for s r n ≡ None → own ≡ own_below s r n → own ≡ own_below s r (n + 1)
  nothing_more own none is = is ∙ sym (below_more None none ∙ append-nil (own_below s r n))

  -- a decoder of another range is passed
  pub passed : (i : ℕ) (d : Decoder) (own : List Own) → decoder_at s n i ≡ Some d → has_range r d ≡ false → IsGathered s r n i own → IsGathered s r n (i + 1) own
  passed i d own there misses (not_yet is none) =
      not_yet is (λ j e low at. elim (cases_lt j i) as (λ x. has_range r e ≡ false) [
        | inl less ↦ none j e less at
        | inr here ↦ let same : j ≡ i = omega (arith, low, here) in
            ap (has_range r) (same_Some e d (sym at ∙ ap (decoder_at s n) same ∙ there)) ∙ misses
      ])
  passed i d own there misses (entered is j e low at has) = entered is j e (omega (arith, low)) at has

module _ (blocks : List Registers) (r : Range) (n : ℕ) where
  block_of : (i : ℕ) (d : Decoder) (o : Option Registers) → slice_get blocks n ≡ o → slice_get (option_map_or (λ block. block.decoders) o []) i ≡ Some d
      → (block : Registers) × (slice_get blocks n ≡ Some block) × (slice_get block.decoders i ≡ Some d)
  block_of i d None is there = absurd (none-some d there)
  block_of i d (Some block) is there = (block, is, there)

  -- one of the range is entered
  pub taken : HoldsOnce (blocks_alone blocks) n → (i : ℕ) (d : Decoder) (ways : ℕ) (own : List Own) → decoder_at (blocks_alone blocks) n i ≡ Some d → has_range r d ≡ true → ways ≡ decoder_ways d
      → IsGathered (blocks_alone blocks) r n i own → IsGathered (blocks_alone blocks) r n (i + 1) (own ++ record { node = n; index = i; ways = ways } ∷ [])
  taken once i d ways own there has are (not_yet is none) =
      let b = block_of i d (slice_get blocks n) refl there in
      let one = own_here blocks r n b.0 b.1 i d ways b.2 has
      (λ k e less at. none k e less (ap (λ (o : Option Registers). slice_get (option_map_or (λ block. block.decoders) o []) k) b.1 ∙ at)) are in
      entered (ap (λ (xs : List Own). xs ++ record { node = n; index = i; ways = ways } ∷ []) is ∙ sym (below_more (blocks_alone blocks) r n (Some (record { node = n; index = i; ways = ways })) one))
      i d (omega arith) there has
  taken once i d ways own there has are (entered is j e low at e_has) =
      let same : j ≡ i = once r j i e d at there e_has has in
      absurd (omega (arith, low, same))

  -- behind the last decoder of a node
  pub all_met : (block : Registers) (i : ℕ) (own : List Own) → slice_get blocks n ≡ Some block → length block.decoders ≤ i → IsGathered (blocks_alone blocks) r n i own → own ≡ own_below (blocks_alone blocks) r (n + 1)
  all_met block i own here long (not_yet is none) =
      nothing_more (blocks_alone blocks) r n own
      (own_missing blocks r n block here (λ k e at.
      let low = slice_get_within block.decoders k e at in
      none k e (omega (arith, low, long)) (ap (λ (o : Option Registers). slice_get (option_map_or (λ block. block.decoders) o []) k) here ∙ at)))
      is
  all_met block i own here long (entered is j e low at has) = is

  pub no_block : (own : List Own) → slice_get blocks n ≡ None → IsGathered (blocks_alone blocks) r n 0 own → own ≡ own_below (blocks_alone blocks) r (n + 1)
  no_block own none are =
      nothing_more (blocks_alone blocks) r n own
      (own_nowhere (blocks_alone blocks) r n (ap (λ (o : Option Registers). list_any (has_range r) (option_map_or (λ block. block.decoders) o [])) none))
      (fresh (blocks_alone blocks) r n own are)

-- ---- which region

module _ (founds : List Found) (rising : AllPairs (λ (a b : Found). a.base < b.base) founds) where
  pub base_below : (k p : ℕ) (f g : Found) → slice_get founds k ≡ Some f → slice_get founds p ≡ Some g → k < p → f.base < g.base
  base_below k p f g at_k at_p low =
      let less : (get_or founds k f).base < (get_or founds p f).base = rising k p f low (slice_get_within founds p g at_p) in
      let a = ap (λ (x : Found). x.base) (get_or_from_slice_get founds k f f at_k) in
      let b = ap (λ (x : Found). x.base) (get_or_from_slice_get founds p g f at_p) in
      omega (arith, less, a, b)

  pub one_place : (k p : ℕ) (f g : Found) → slice_get founds k ≡ Some f → slice_get founds p ≡ Some g → f.base ≡ g.base → k ≡ p
  one_place k p f g at_k at_p same = elim (cases_lt k p) as (λ x. k ≡ p) [
    | inl less ↦ let low = base_below k p f g at_k at_p less in absurd (omega (arith, low, same))
    | inr not_less ↦ elim (cases_lt p k) as (λ x. k ≡ p) [
      | inl more ↦ let low = base_below p k g f at_p at_k more in absurd (omega (arith, low, same))
      | inr not_more ↦ omega (arith, not_less, not_more)
    ]
  ]

  -- the bases do not fall
  pub no_fall : IsNonDecreasingBy (λ (found : Found). found.base) founds
  no_fall i j d le low = elim (cases_lt i j) as (λ x. (get_or founds i d).base ≤ (get_or founds j d).base) [
    | inl less ↦ let rise : (get_or founds i d).base < (get_or founds j d).base = rising i j d less low in omega (arith, rise)
    | inr here ↦ let same : i ≡ j = omega (arith, le, here) in
        let one = ap (λ (k : ℕ). (get_or founds k d).base) same in omega (arith, one)
  ]

  -- a region that stands neither behind those of its base and below nor is the last of them stands nowhere
  pub not_behind : (r : Range) (behind : ℕ) → behind ≤ length founds
      → ((k : ℕ) (f : Found) → slice_get founds k ≡ Some f → k < behind → f.base ≤ r.base)
      → ((k : ℕ) (f : Found) → slice_get founds k ≡ Some f → behind ≤ k → r.base < f.base)
      → (behind ≡ 0) ⊎ ((f : Found) → slice_get founds (behind - 1) ≡ Some f → region_range f ≡ r → ⊥)
      → (k : ℕ) (f : Found) → slice_get founds k ≡ Some f → region_range f ≡ r → ⊥
  not_behind r behind bound before after last k f at same =
      let base : f.base ≡ r.base = ap (λ (x : Range). x.base) same in
      elim (cases_lt k behind) as (λ x. ⊥) [
        | inl less ↦ elim (cases_lt k (behind - 1)) as (λ x. ⊥) [
          | inl lower ↦
              let low : behind - 1 < length founds = omega (arith, bound, less) in
              let there = slice_get-get_or founds (behind - 1) f low in
              let rise = base_below k (behind - 1) f (get_or founds (behind - 1) f) at there lower in
              let top = before (behind - 1) (get_or founds (behind - 1) f) there (omega (arith, less)) in
              omega (arith, rise, top, base)
          | inr not_lower ↦
              let here : k ≡ behind - 1 = omega (arith, less, not_lower) in
              elim last as (λ x. ⊥) [
                | inl none ↦ omega (arith, none, less)
                | inr misses ↦ misses f (ap (slice_get founds) (sym here) ∙ at) same
              ]
        ]
        | inr past ↦ let above = after k f at past in omega (arith, above, base)
      ]

-- ---- of all regions

pub not_committed : (r : Range) (d : Decoder) → d.committed ≡ false → has_range r d ≡ false
not_committed r d is = rw is refl

-- a decoder whose range no region has
pub no_region : (founds : List Found) (d : Decoder) → ((k : ℕ) (found : Found) → slice_get founds k ≡ Some found → region_range found ≡ range_of d → ⊥)
    → (k : ℕ) (found : Found) → slice_get founds k ≡ Some found → has_range (region_range found) d ≡ false
no_region founds d none k found at = elim (cases_Bool (has_range (region_range found) d)) as (λ x. has_range (region_range found) d ≡ false) [
  | inl has ↦ absurd (none k found at (sym (same_range (region_range found) d (has_parts (region_range found) d has))))
  | inr misses ↦ misses
]

-- in a block that keeps its rules a range stands once
pub held_once : ((block : Registers) (ram pmem i j : ℕ) (r : Range) (d e : Decoder) → BlockKeeps block ram pmem → slice_get block.decoders i ≡ Some d → slice_get block.decoders j ≡ Some e → has_range r d ≡ true → has_range r e ≡ true → i ≡ j)
    → (s : System) → KeepsBlocks s → (n : ℕ) → HoldsOnce (blocks_alone s.blocks) n
held_once one s keeps n = λ r i j d e d_at e_at d_has e_has.
    let b = block_of s.blocks r n i d (slice_get s.blocks n) refl d_at in
    one b.0 (ram_at s n) (pmem_at s n) i j r d e (block_keeps s keeps n b.0 b.1) b.2
    (sym (ap (λ (o : Option Registers). slice_get (option_map_or (λ block. block.decoders) o []) j) b.1) ∙ e_at) d_has e_has

module _ (blocks : List Registers) (founds : List Found) where
  pub node_done : (n i : ℕ) (owns : List (Vec Own Global)) → ((r : Range) (own : List Own) → IsGathered (blocks_alone blocks) r n i own → own ≡ own_below (blocks_alone blocks) r (n + 1))
      → AreGathered (blocks_alone blocks) founds n i owns → AreGathered (blocks_alone blocks) founds (n + 1) 0 owns
  node_done n i owns done are = record {
    long = are.long;
    each = λ k found own at own_at. start (blocks_alone blocks) (region_range found) (n + 1) own.items (done (region_range found) own.items (are.each k found own at own_at));
  }

  pub none_here : (n i : ℕ) (d : Decoder) (owns : List (Vec Own Global)) → decoder_at (blocks_alone blocks) n i ≡ Some d
      → ((k : ℕ) (found : Found) → slice_get founds k ≡ Some found → has_range (region_range found) d ≡ false)
      → AreGathered (blocks_alone blocks) founds n i owns → AreGathered (blocks_alone blocks) founds n (i + 1) owns
  none_here n i d owns there none are = record {
    long = are.long;
    each = λ k found own at own_at. passed (blocks_alone blocks) (region_range found) n i d own.items there (none k found at) (are.each k found own at own_at);
  }

  pub one_here : AllPairs (λ (a b : Found). a.base < b.base) founds → (n i : ℕ) (d : Decoder) (ways : ℕ) (owns : List (Vec Own Global)) → HoldsOnce (blocks_alone blocks) n
      → decoder_at (blocks_alone blocks) n i ≡ Some d → d.committed ≡ true → ways ≡ decoder_ways d
      → (place : ℕ) (found : Found) → slice_get founds place ≡ Some found → region_range found ≡ range_of d
      → (old new : Vec Own Global) → slice_get owns place ≡ Some old → new.items ≡ old.items ++ record { node = n; index = i; ways = ways } ∷ []
      → AreGathered (blocks_alone blocks) founds n i owns → AreGathered (blocks_alone blocks) founds n (i + 1) (set owns place new)
  one_here rising n i d ways owns once there committed are_ways place found at is old new old_at pushed are = record {
    long = length-set owns place new ∙ are.long;
    each = λ k f own f_at own_at. elim (cases_eq k place) as (λ x. IsGathered (blocks_alone blocks) (region_range f) n (i + 1) own.items) [
      | inl same ↦ here k f own f_at own_at same
      | inr other ↦ passed (blocks_alone blocks) (region_range f) n i d own.items there (another k f f_at other) (are.each k f own f_at (sym (get_other owns place k new other) ∙ own_at))
    ];
  }
    where
      low : place < length owns
      low = slice_get_within owns place old old_at

      another : (k : ℕ) (f : Found) → slice_get founds k ≡ Some f → (k ≡ place → ⊥) → has_range (region_range f) d ≡ false
      another k f f_at other = elim (cases_Bool (has_range (region_range f) d)) as (λ x. has_range (region_range f) d ≡ false) [
        | inl has ↦
            let base = (has_parts (region_range f) d has).base in
            let own = ap (λ (r : Range). r.base) is in
            absurd (other (one_place founds rising k place f found f_at at (sym base ∙ sym own)))
        | inr misses ↦ misses
      ]

      has : has_range (range_of d) d ≡ true
      has = has_own_range d committed

      new_at : slice_get (set owns place new) place ≡ Some new
      new_at = slice_get-get_or (set owns place new) place new (let long = length-set owns place new in omega (arith, low, long)) ∙ ap Some (get_or-set_same owns place new new low)

      here : (k : ℕ) (f : Found) (own : Vec Own Global) → slice_get founds k ≡ Some f → slice_get (set owns place new) k ≡ Some own → k ≡ place → IsGathered (blocks_alone blocks) (region_range f) n (i + 1) own.items
      here k f own f_at own_at same =
          let one : f ≡ found = same_Some f found (sym f_at ∙ ap (slice_get founds) same ∙ at) in
          let range : region_range f ≡ range_of d = ap region_range one ∙ is in
          let it : new ≡ own = same_Some new own (sym new_at ∙ ap (slice_get (set owns place new)) (sym same) ∙ own_at) in
          let items : own.items ≡ old.items ++ record { node = n; index = i; ways = ways } ∷ [] = ap (λ (v : Vec Own Global). v.items) (sym it) ∙ pushed in
          let before = are.each place found old at old_at in
          subst (λ (xs : List Own). IsGathered (blocks_alone blocks) (region_range f) n (i + 1) xs) (sym items)
          (subst (λ (r : Range). IsGathered (blocks_alone blocks) r n (i + 1) (old.items ++ record { node = n; index = i; ways = ways } ∷ [])) (sym range)
          (taken blocks (range_of d) n once i d ways old.items there has are_ways
          (subst (λ (r : Range). IsGathered (blocks_alone blocks) r n i old.items) is before)))

-- ---- at the end

-- what holds place by place
pub zipped : {A B : Type 0} (P : A → B → Type 0) (xs : List A) (ys : List B) → length ys ≡ length xs → ((k : ℕ) (x : A) (y : B) → slice_get xs k ≡ Some x → slice_get ys k ≡ Some y → P x y) → AllZip P xs ys
zipped P [] [] long each = tt
zipped P [] (y ∷ ys) long each = absurd (omega (arith, long))
zipped P (x ∷ xs) [] long each = absurd (omega (arith, long))
zipped P (x ∷ xs) (y ∷ ys) long each = (each zero x y refl refl, zipped P xs ys (omega (arith, long)) (λ k a b at other. each (suc k) a b at other))
