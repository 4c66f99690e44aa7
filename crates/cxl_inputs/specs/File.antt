-- What asking for a file comes to, where it gives no bytes.
use Rattle.std.specs.Prelude.{◌≡◌, ℕ, List, [], ◌∷◌, ◌++◌, take, codes}
use Rattle.cxl_enc.specs.Faults.{Rose, LeavesCount}
use Rattle.cxl_io.specs.Fetch.{FetchState, AsksFor, IsTooLarge}
use Rattle.cxl_reply.specs.Words.{line}
use Rattle.cxl_inputs.specs.Outcome.{Outcome, one_piece}
use Rattle.cxl_inputs.specs.declared.status.Status.TheVariants.{FetchFault, TooLarge}

-- the file was not read; its name stands as it was given
abbrev pub unread : List ℕ → Outcome
unread file = one_piece FetchFault (line (codes "error: cannot read " ++ file))

-- the outcome where a file is too large
abbrev pub too_large : List ℕ → Outcome
too_large file = one_piece TooLarge (line (codes "error: " ++ file ++ codes " too large"))

-- Asking for a file, behind these names: it was not read, which takes a fault of the files, or it is too large.
pub data HasNoBytes (before : List (List ℕ)) (file : List ℕ) (old new : FetchState) (outcome : Outcome) : Type 0 where
  not_read : Rose old.faults new.faults → AsksFor old new (before ++ file ∷ []) → outcome ≡ unread file → HasNoBytes before file old new outcome
  not_small : IsTooLarge (old.told file) → AsksFor old new (before ++ file ∷ []) → outcome ≡ too_large file → HasNoBytes before file old new outcome

-- the first of these names are asked for, in order
pub record AsksForSome (names : List (List ℕ)) (old new : FetchState) : Type 0 where
  pub count : ℕ
  pub asks : AsksFor old new (take count names)

-- no call of the files failed, where their count tells
pub record HasNotFailed (old new : FetchState) : Type 0 where
  pub alone : new.counts_failures_alone ≡ old.counts_failures_alone
  pub count : LeavesCount old.counts_failures_alone old.faults new.faults

-- memory ran out behind the first of these files, and no fault of the files is hidden in it
pub record RunsOutBehind (names : List (List ℕ)) (old new : FetchState) : Type 0 where
  pub asked : AsksForSome names old new
  pub unfailed : HasNotFailed old new

-- one of these names is the last that is asked for, and that failed
pub record HasFailedFetch (names : List (List ℕ)) (old new : FetchState) : Type 0 where
  pub before : List (List ℕ)
  pub file : List ℕ
  pub after : List (List ℕ)
  pub own : names ≡ before ++ file ∷ after
  pub asks : AsksFor old new (before ++ file ∷ [])
  pub rose : Rose old.faults new.faults
