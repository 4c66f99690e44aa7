-- The rows of a region's decoders, found node by node.
use Rattle.std.proofs.Common.{◌≡◌, ℕ, List, [], ◌∷◌, length, Option, Some, None, refl, sym, ap, ◌∙◌, inl, inr}
use Rattle.std.specs.Prelude.{option_map, option_and_then}
use Rattle.std.specs.List.{filter_map, cons_option, range_with_len}
use Rattle.std.proofs.lemmas.Bool.{cases_Bool}
use Rattle.cxl_regs.specs.declared.decoder.Decoder.{Decoder}
use Rattle.cxl_regs.specs.declared.reading.Range.{Range}
use Rattle.cxl_model.specs.declared.plan.Row.{Row}
use Rattle.cxl_model.specs.declared.found.Found.{Found}
use Rattle.cxl_model.specs.Ranges.{serves}
use Rattle.cxl_model.specs.Regions.{region_range}
use Rattle.cxl_model.proofs.RangeRules.{served}
use Rattle.cxl_apply.specs.Releases.{row_for, rows_of}
use Rattle.cxl_model.specs.System.{System, decoder_at}
use Rattle.cxl_walk.specs.declared.own.Own.{Own}
use Rattle.cxl_walk.specs.Keeping.{own_for, own_decoders}
use Rattle.cxl_walk.proofs.Slots.{own_there, own_nowhere, no_index}
use Rattle.cxl_session.specs.inner.Rows.{row_at}

-- ---- the rows of own decoders

chained : (f : ℕ → Option Own) (g : Own → Option Row) (h : ℕ → Option Row) → ((n : ℕ) → h n ≡ option_and_then g (f n)) → (ns : List ℕ) → filter_map g (filter_map f ns) ≡ filter_map h ns
chained f g h tells [] = refl
chained f g h tells (n ∷ ns) = go (f n) refl (chained f g h tells ns)
  where
    go : (o : Option Own) → f n ≡ o → filter_map g (filter_map f ns) ≡ filter_map h ns → filter_map g (cons_option o (filter_map f ns)) ≡ cons_option (h n) (filter_map h ns)
    go None is rest = rest ∙ ap (λ (o : Option Row). cons_option o (filter_map h ns)) (sym (tells n ∙ ap (option_and_then g) is))
    go (Some one) is rest = ap (cons_option (g one)) rest ∙ ap (λ (o : Option Row). cons_option o (filter_map h ns)) (sym (tells n ∙ ap (option_and_then g) is))

module _ (s : System) (found : Found) where
  abbrev range : Range
  range = region_range found

  row_told : (n : ℕ) → row_for s range n ≡ option_and_then (row_at s.blocks) (own_for s range n)
  row_told n = elim (cases_Bool (serves s range n)) [
    | inl some ↦
        let at = served s range n some in
        ap (λ (o : Option ℕ). option_and_then (λ (i : ℕ). option_map (λ (d : Decoder). record { node = n; index = i; decoder = d }) (decoder_at s n i)) o) at.number
        ∙ sym (ap (option_and_then (row_at s.blocks)) (own_there s range n at))
    | inr none ↦
        ap (λ (o : Option ℕ). option_and_then (λ (i : ℕ). option_map (λ (d : Decoder). record { node = n; index = i; decoder = d }) (decoder_at s n i)) o) (no_index s range n none)
        ∙ sym (ap (option_and_then (row_at s.blocks)) (own_nowhere s range n none))
  ]

  pub rows_are : (own : List Own) (rows : List Row) → own ≡ own_decoders s found → rows ≡ filter_map (row_at s.blocks) own → rows ≡ rows_of s found
  rows_are own rows is are = are ∙ ap (filter_map (row_at s.blocks)) is ∙ chained (own_for s range) (row_at s.blocks) (row_for s range) row_told (range_with_len 0 (length s.nodes))
