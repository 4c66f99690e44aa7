-- Runs for cuts, one more at a time.
use Rattle.std.proofs.Common.{◌≡◌, ℕ, ◌+◌, ◌-◌, ◌≤◌, List, [], ◌∷◌, ◌++◌, map, sym, ap, subst, ◌∙◌, append_assoc, arith}
use Rattle.std.proofs.lemmas.List.{append-nil, map-append}
use Rattle.std.proofs.lemmas.List.FromFn.{map-range_with_len_more}
use Rattle.cxl_window.specs.Fields.{WindowFields}
use Rattle.cxl_model.specs.declared.found.Found.{Found}
use Rattle.cxl_model.specs.declared.poison.Part.{Part}
use Rattle.cxl_model.specs.declared.poison.Part.TheVariants as parts
use Rattle.cxl_model.specs.declared.poison.Run.{Run}
use Rattle.cxl_poison.specs.declared.live.LiveSpan.{LiveSpan}
use Rattle.cxl_poison.specs.declared.cutting.Touched.{Touched}
use Rattle.cxl_poison.specs.Pieces.{Cut, IsRunOf, AreRunsOf, none, next}
use Rattle.cxl_poison.specs.inner.Cuts.{first_stretch, stretch_cut, first_cuts, AddsRuns}

one_more : (found : Found) (w : WindowFields) (endpoint : ℕ) (span : LiveSpan) (cuts : List Cut) (runs : List Run) (cut : Cut) (run : Run) → AreRunsOf found w endpoint span cuts runs
    → IsRunOf found w endpoint span cut run → AreRunsOf found w endpoint span (cuts ++ cut ∷ []) (runs ++ run ∷ [])
one_more found w endpoint span [] [] cut run none is = next cut [] run [] is none
one_more found w endpoint span [] (r ∷ runs) cut run x is = elim x [ ]
one_more found w endpoint span (c ∷ cuts) [] cut run x is = elim x [ ]
one_more found w endpoint span (c ∷ cuts) (r ∷ runs) cut run (next _ _ _ _ own rest) is = next c (cuts ++ cut ∷ []) r (runs ++ run ∷ []) own (one_more found w endpoint span cuts runs cut run rest is)

pub no_runs : (found : Found) (w : WindowFields) (endpoint : ℕ) (span : LiveSpan) (touched : Touched) (parts : List Part) (n : ℕ) → n ≡ 0 → AddsRuns found w endpoint span (first_cuts touched n) parts parts
no_runs found w endpoint span touched parts n is = record {
  runs = [];
  added = sym (append-nil parts);
  are = subst (λ (k : ℕ). AreRunsOf found w endpoint span (first_cuts touched k) []) (sym is) none;
}

pub more_runs : (found : Found) (w : WindowFields) (endpoint : ℕ) (span : LiveSpan) (touched : Touched) (old new all : List Part) (k : ℕ) (run : Run) → first_stretch touched ≤ k
    → AddsRuns found w endpoint span (first_cuts touched (k - first_stretch touched)) old new → IsRunOf found w endpoint span (stretch_cut touched k) run → all ≡ new ++ parts.Run run ∷ []
    → AddsRuns found w endpoint span (first_cuts touched (k + 1 - first_stretch touched)) old all
more_runs found w endpoint span touched old new all k run from known is added =
    let first : ℕ = first_stretch touched in
    let at : first + (k - first) ≡ k = omega (arith, from) in
    let count : (k - first) + 1 ≡ k + 1 - first = omega (arith, from) in
    let cuts : first_cuts touched (k - first) ++ stretch_cut touched k ∷ [] ≡ first_cuts touched (k + 1 - first) =
    sym (map-range_with_len_more (stretch_cut touched) first (k - first) k at) ∙ ap (first_cuts touched) count in
    record {
      runs = known.runs ++ run ∷ [];
      added =
          added ∙ ap (λ (xs : List Part). xs ++ parts.Run run ∷ []) known.added ∙ append_assoc old (map parts.Run known.runs) (parts.Run run ∷ [])
          ∙ ap (λ (xs : List Part). old ++ xs) (sym (map-append parts.Run known.runs (run ∷ [])));
      are = subst (λ (xs : List Cut). AreRunsOf found w endpoint span xs (known.runs ++ run ∷ [])) cuts (one_more found w endpoint span (first_cuts touched (k - first)) known.runs (stretch_cut touched k) run known.are is);
    }
