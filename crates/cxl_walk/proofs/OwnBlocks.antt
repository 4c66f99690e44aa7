-- A node's own decoder of a range, by its block.
use Rattle.std.proofs.Common.{◌≡◌, ℕ, zero, suc, ◌<◌, true, false, List, [], ◌∷◌, length, get_or, Option, Some, None, refl, sym, ap, ◌∙◌, arith}
use Rattle.std.specs.Prelude.{slice_get, option_map, find, position}
use Rattle.std.specs.List.{list_any, position_or_len}
use Rattle.std.specs.Option.{option_and_then, option_map_or}
use Rattle.std.proofs.lemmas.Bool.{lt-ltb}
use Rattle.std.proofs.lemmas.List.Folds.{find_at}
use Rattle.std.proofs.lemmas.List.Sums.{position_or_len_is}
use Rattle.std.proofs.lemmas.Option.{slice_get_within, slice_get-get_or, get_or_from_slice_get}
use Rattle.cxl_regs.specs.declared.decoder.Decoder.{Decoder}
use Rattle.cxl_regs.specs.declared.reading.Range.{Range}
use Rattle.cxl_regs.specs.Registers.{Registers}
use Rattle.cxl_regs.specs.Reading.{decoder_ways, has_range}
use Rattle.cxl_model.specs.System.{blocks_alone}
use Rattle.cxl_walk.specs.declared.own.Own.{Own}
use Rattle.cxl_walk.specs.Keeping.{own_for}
use Rattle.cxl_walk.proofs.Slots.{own_nowhere}

module _ (blocks : List Registers) (r : Range) (n : ℕ) where
  abbrev own_among : List Decoder → Option Own
  own_among ds = option_and_then (λ i. option_map (λ d. record { node = n; index = i; ways = decoder_ways d }) (find (has_range r) ds)) (position (has_range r) ds)

  abbrev held_by : Option Registers → Option Own
  held_by o = own_among (option_map_or (λ block. block.decoders) o [])

  module _ (block : Registers) (here : slice_get blocks n ≡ Some block) where
    pub own_here : (i : ℕ) (d : Decoder) (ways : ℕ) → slice_get block.decoders i ≡ Some d → has_range r d ≡ true
        → ((k : ℕ) (other : Decoder) → k < i → slice_get block.decoders k ≡ Some other → has_range r other ≡ false) → ways ≡ decoder_ways d
        → own_for (blocks_alone blocks) r n ≡ Some (record { node = n; index = i; ways = ways })
    own_here i d ways at has before are =
        let ds : List Decoder = block.decoders in
        let low : i < length ds = slice_get_within ds i d at in
        let first : position_or_len (has_range r) ds ≡ i =
        position_or_len_is (has_range r) ds i d (omega (arith, low))
        (λ k below. before k (get_or ds k d) below (slice_get-get_or ds k d (omega (arith, low, below))))
        (λ within. ap (has_range r) (get_or_from_slice_get ds i d d at) ∙ has) in
        let place : position (has_range r) ds ≡ Some i = rw (first, lt-ltb i (length ds) low) refl in
        let it : find (has_range r) ds ≡ Some d = find_at (has_range r) ds ∙ ap (slice_get ds) first ∙ at in
        ap held_by here
        ∙ ap (λ (o : Option ℕ). option_and_then (λ j. option_map (λ e. record { node = n; index = j; ways = decoder_ways e }) (find (has_range r) ds)) o) place
        ∙ ap (λ (o : Option Decoder). option_map (λ e. record { node = n; index = i; ways = decoder_ways e }) o) it
        ∙ ap (λ (k : ℕ). Some (record { node = n; index = i; ways = k })) (sym are)

    pub own_missing : ((k : ℕ) (other : Decoder) → slice_get block.decoders k ≡ Some other → has_range r other ≡ false) → own_for (blocks_alone blocks) r n ≡ None
    own_missing none = own_nowhere (blocks_alone blocks) r n (ap (λ (o : Option Registers). list_any (has_range r) (option_map_or (λ block. block.decoders) o [])) here ∙ nothing block.decoders none)
      where
        nothing : (ds : List Decoder) → ((k : ℕ) (other : Decoder) → slice_get ds k ≡ Some other → has_range r other ≡ false) → list_any (has_range r) ds ≡ false
        nothing [] all = refl
        nothing (d ∷ ds) all = rw (all zero d refl) (nothing ds (λ k. all (suc k)))
