-- The parts name live regions.
use Rattle.std.proofs.Common.{ℕ, zero, suc, ◌<◌, List, [], ◌∷◌, length, map, arith}
use Rattle.std.specs.Prelude.{All}
use Rattle.std.proofs.lemmas.Option.{slice_get_within}
use Rattle.std.proofs.lemmas.List.Elements.{All-append}
use Rattle.cxl_window.specs.Fields.{WindowFields}
use Rattle.cxl_model.specs.declared.found.Found.{Found}
use Rattle.cxl_model.specs.declared.poison.Entry.{Entry}
use Rattle.cxl_model.specs.declared.poison.Part.{Part}
use Rattle.cxl_model.specs.declared.poison.Part.TheVariants as parts
use Rattle.cxl_model.specs.declared.poison.Run.{Run}
use Rattle.cxl_model.specs.Poison.{region_of}
use Rattle.cxl_poison.specs.declared.live.LiveSpan.{LiveSpan}
use Rattle.cxl_poison.specs.Pieces.{Cut, AreRunsOf, none, next, ArePartsOf, few, many, ArePartsInAll}

abbrev Names : ℕ → List Part → Type 0
Names n parts = All (λ part. region_of part < n) parts

nothing_named : (n : ℕ) → Names n []
nothing_named n k d within = absurd (omega arith)

one_named : (n : ℕ) (part : Part) → region_of part < n → Names n (part ∷ [])
one_named n part at = elim_place
  where
    elim_place : Names n (part ∷ [])
    elim_place zero d within = at
    elim_place (suc k) d within = absurd (omega arith)

runs_named : (n : ℕ) (found : Found) (w : WindowFields) (endpoint : ℕ) (span : LiveSpan) → span.region < n → (cuts : List Cut) (runs : List Run) → AreRunsOf found w endpoint span cuts runs → Names n (map parts.Run runs)
runs_named n found w endpoint span at [] [] none = nothing_named n
runs_named n found w endpoint span at [] (run ∷ runs) p = elim p [ ]
runs_named n found w endpoint span at (cut ∷ cuts) [] p = elim p [ ]
runs_named n found w endpoint span at (cut ∷ cuts) (run ∷ runs) (next _ _ _ _ own rest) =
    let region = own.region in
    All-append (λ part. region_of part < n) (parts.Run run ∷ []) (map parts.Run runs) (one_named n (parts.Run run) (omega (arith, region, at))) (runs_named n found w endpoint span at cuts runs rest)

parts_named : (n : ℕ) (found : Found) (w : WindowFields) (endpoint : ℕ) (span : LiveSpan) → span.region < n → (cuts : List Cut) (own : List Part) → ArePartsOf found w endpoint span cuts own → Names n own
parts_named n found w endpoint span at cuts own (few runs short are) = runs_named n found w endpoint span at cuts runs are
parts_named n found w endpoint span at cuts own (many wide long are) = let region = are.region in one_named n (parts.Wide wide) (omega (arith, region, at))

-- each part of a record names one
pub all_named : (entry : Entry) (endpoint : ℕ) (live : List Found) (windows : List WindowFields) (spans : List LiveSpan) (own : List Part) → ArePartsInAll entry endpoint live windows spans own → Names (length live) own
all_named entry endpoint live windows [] own none = nothing_named (length live)
all_named entry endpoint live windows (span ∷ spans) own (next _ _ a others one rest) =
    All-append (λ part. region_of part < length live) a others (parts_named (length live) one.found one.w endpoint span (slice_get_within live span.region one.found one.there) _ a one.are)
    (all_named entry endpoint live windows spans others rest)
