-- The parts of one span.
use Rattle.std.proofs.Common.{◌≡◌, ℕ, ◌+◌, ◌-◌, ◌<◌, ◌≤◌, List, [], ◌∷◌, ◌++◌, length, map, sym, ap, subst, ◌∙◌, arith}
use Rattle.std.proofs.lemmas.List.{append-nil}
use Rattle.cxl_window.specs.Fields.{WindowFields}
use Rattle.cxl_model.specs.declared.found.Found.{Found}
use Rattle.cxl_model.specs.declared.poison.Part.{Part}
use Rattle.cxl_model.specs.declared.poison.Part.TheVariants as parts
use Rattle.cxl_model.specs.declared.poison.Wide.{Wide}
use Rattle.cxl_poison.specs.declared.live.LiveSpan.{LiveSpan}
use Rattle.cxl_poison.specs.declared.cutting.Touched.{Touched}
use Rattle.cxl_poison.specs.Pieces.{Cut, AreRunsOf, none, IsWideOf, ArePartsOf, few, many, run_limit}
use Rattle.cxl_poison.specs.inner.Cuts.{HasTouched, first_stretch, last_stretch, touched_cuts, first_cuts, AddsRuns, AddsParts}
use Rattle.cxl_poison.proofs.Stretches.{no_cuts, cuts_are, count_cuts}

module _ (found : Found) (w : WindowFields) (endpoint : ℕ) (span : LiveSpan) (touched : Touched) where
  pub no_parts : (parts : List Part) → touched.end ≤ touched.from → AddsParts found w endpoint span (touched_cuts touched span) parts parts
  no_parts parts past =
      let empty : touched_cuts touched span ≡ [] = no_cuts touched.from touched.end touched.size span.len past in
      record {
        own = [];
        added = sym (append-nil parts);
        are = subst (λ (cuts : List Cut). ArePartsOf found w endpoint span cuts []) (sym empty) (few [] (omega arith) none);
      }

  cut_count : HasTouched span touched → first_stretch touched ≤ last_stretch touched → length (touched_cuts touched span) ≡ last_stretch touched + 1 - first_stretch touched
  cut_count has order = ap (λ (xs : List Cut). length xs) (cuts_are span touched has order) ∙ count_cuts touched (last_stretch touched + 1 - first_stretch touched)

  pub few_parts : HasTouched span touched → (old new : List Part) → first_stretch touched ≤ last_stretch touched → last_stretch touched - first_stretch touched < run_limit
      → AddsRuns found w endpoint span (first_cuts touched (last_stretch touched + 1 - first_stretch touched)) old new → AddsParts found w endpoint span (touched_cuts touched span) old new
  few_parts has old new order less adds =
      let count = cut_count has order in
      record {
        own = map parts.Run adds.runs;
        added = adds.added;
        are = few adds.runs (omega (arith, count, less)) (subst (λ (cuts : List Cut). AreRunsOf found w endpoint span cuts adds.runs) (sym (cuts_are span touched has order)) adds.are);
      }

  pub wide_part : HasTouched span touched → (old new : List Part) (wide : Wide) → first_stretch touched ≤ last_stretch touched → run_limit ≤ last_stretch touched - first_stretch touched
      → IsWideOf found w endpoint span (touched_cuts touched span) wide → new ≡ old ++ parts.Wide wide ∷ [] → AddsParts found w endpoint span (touched_cuts touched span) old new
  wide_part has old new wide order more is added =
      let count = cut_count has order in
      record {
        own = parts.Wide wide ∷ [];
        added = added;
        are = many wide (omega (arith, count, more, order)) is;
      }
