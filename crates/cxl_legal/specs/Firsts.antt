-- The first of several answers, of which each may be missing.
use Rattle.std.specs.Prelude.{List, slice_get, Option}
use Rattle.std.specs.List.{filter_map}

-- the first that is there
abbrev pub first_there : {A : Type 0} → List (Option A) → Option A
first_there answers = slice_get (filter_map (λ answer. answer) answers) 0
