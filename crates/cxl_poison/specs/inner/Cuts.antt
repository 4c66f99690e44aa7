-- The bytes of a span that a record touches, and the cuts of them.
use Rattle.std.specs.Prelude.{◌≡◌, ℕ, ◌+◌, ◌-◌, ◌*◌, ◌/◌, ◌<◌, ◌≤◌, ◌++◌, max, min, List, map}
use Rattle.std.specs.List.{range_with_len}
use Rattle.cxl_window.specs.Fields.{WindowFields}
use Rattle.cxl_model.specs.declared.found.Found.{Found}
use Rattle.cxl_model.specs.declared.poison.Entry.{Entry}
use Rattle.cxl_model.specs.declared.poison.Part.{Part}
use Rattle.cxl_model.specs.declared.poison.Part.TheVariants as parts
use Rattle.cxl_model.specs.declared.poison.Run.{Run}
use Rattle.cxl_model.specs.System.{System, IsSystem}
use Rattle.cxl_model.specs.Regions.{IsRegionIn}
use Rattle.cxl_poison.specs.declared.live.LiveSpan.{LiveSpan}
use Rattle.cxl_poison.specs.declared.cutting.Touched.{Touched}
use Rattle.cxl_poison.specs.Live.{IsSpanOf}
use Rattle.cxl_poison.specs.Pieces.{Cut, cuts_between, AreRunsOf, ArePartsOf, ArePartsIn}

-- the span is one of a region with this window
pub record IsSpanIn (found : Found) (w : WindowFields) (span : LiveSpan) : Type 0 where
  pub s : System
  pub system : IsSystem s
  pub region : IsRegionIn s w found
  pub endpoint : ℕ
  pub is : IsSpanOf found endpoint span

-- the stretches of the span fill it, and the touched bytes lie in it
pub record IsTouched (span : LiveSpan) (touched : Touched) : Type 0 where
  pub some : 0 < touched.size
  pub whole : span.len / touched.size * touched.size ≡ span.len
  pub ends : touched.end ≤ span.len

-- some bytes are touched
pub record HasTouched (span : LiveSpan) (touched : Touched) : Type 0 where
  pub is : IsTouched span touched
  pub any : touched.from < touched.end

-- the cuts of a span's touched bytes
abbrev pub touched_cuts : Touched → LiveSpan → List Cut
touched_cuts touched span = cuts_between touched.from touched.end touched.size span.len

-- the first stretch with touched bytes
abbrev pub first_stretch : Touched → ℕ
first_stretch touched = touched.from / touched.size

-- the last stretch with touched bytes
abbrev pub last_stretch : Touched → ℕ
last_stretch touched = (touched.end - 1) / touched.size

-- the touched bytes of stretch n, which is one from the first to the last of them
abbrev pub stretch_cut : Touched → ℕ → Cut
stretch_cut touched n =
    let from = max touched.from (n * touched.size) in
    record { from = from; len = min touched.end ((n + 1) * touched.size) - from }

-- the cuts of so many stretches from the first one on
abbrev pub first_cuts : Touched → ℕ → List Cut
first_cuts touched n = map (stretch_cut touched) (range_with_len (first_stretch touched) n)

-- parts behind those that were there before
pub record AddsRuns (found : Found) (w : WindowFields) (endpoint : ℕ) (span : LiveSpan) (cuts : List Cut) (old new : List Part) : Type 0 where
  pub runs : List Run
  pub added : new ≡ old ++ map parts.Run runs
  pub are : AreRunsOf found w endpoint span cuts runs

-- parts of any form, behind those that were there before
pub record AddsParts (found : Found) (w : WindowFields) (endpoint : ℕ) (span : LiveSpan) (cuts : List Cut) (old new : List Part) : Type 0 where
  pub own : List Part
  pub added : new ≡ old ++ own
  pub are : ArePartsOf found w endpoint span cuts own

-- what the record touches of one live span, behind the parts that were there before
pub record AddsTouched (entry : Entry) (endpoint : ℕ) (live : List Found) (windows : List WindowFields) (span : LiveSpan) (old new : List Part) : Type 0 where
  pub own : List Part
  pub added : new ≡ old ++ own
  pub are : ArePartsIn entry endpoint live windows span own
