-- What is written of a command that asks for a file and reads it.
use Rattle.std.proofs.Common.{◌≡◌, ℕ, ◌<◌, ◌≤◌, ◌⊎◌, List, length, inl, inr, ap, subst, ◌∙◌, arith}
use Rattle.cxl_enc.specs.Faults.{Rose}
use Rattle.cxl_enc.specs.Limits.{file_limit}
use Rattle.cxl_inputs.specs.Ends.{IsWritten}
use Rattle.cxl_inputs.specs.File.{HasNoBytes, not_read, not_small}
use Rattle.cxl_inputs.specs.Outcome.{Outcome}
use Rattle.cxl_inputs.specs.declared.status.Status.{Status}
use Rattle.cxl_inputs.specs.declared.status.Status.TheVariants.{FetchFault, TooLarge}
use Rattle.cxl_io.specs.Fetch.{IsTooLarge}
use Rattle.cxl_io.specs.Told.{Told, Untold, Absent, Bytes, AreTold}
use Rattle.cxl_commands.specs.Stopped.{IsUnwritten, IsStopped}
use Rattle.cxl_commands.specs.Outside.{Outside}

-- the bytes are those that are known
pub same_bytes : (told : Told) (bytes known : List ℕ) → AreTold told bytes → told ≡ Bytes known → bytes ≡ known
same_bytes Untold bytes known is there = absurd (cc)
same_bytes Absent bytes known is there = absurd is
same_bytes (Bytes b) bytes known is there = cc

-- Bytes that are not too many have one reading, or one first fault, and not both.
pub record HasOneReading (A E : Type 0) (Reads : List ℕ → A → Type 0) (Fails : List ℕ → E → Type 0) : Type 0 where
  pub one : (bytes : List ℕ) (x y : A) → Reads bytes x → Reads bytes y → x ≡ y
  pub one_fault : (bytes : List ℕ) (fault other : E) → Fails bytes fault → Fails bytes other → fault ≡ other
  pub not_both : (bytes : List ℕ) (x : A) (fault : E) → Reads bytes x → Fails bytes fault → ⊥
  pub few : (bytes : List ℕ) (x : A) → Reads bytes x → length bytes ≤ file_limit
  pub few_faulty : (bytes : List ℕ) (fault : E) → Fails bytes fault → length bytes ≤ file_limit

module _ (old new : Outside) (status : Status) where
  -- the file was not read, or is too large, or has a fault; or it is read, and `Next` says what comes of it; or nothing of this is written
  pub data Step (A E : Type 0) (Reads : List ℕ → A → Type 0) (Fails : List ℕ → E → Type 0) (bad : E → Status) (told : Told) (Next : A → Type 0) : Type 0 where
    failed : status ≡ FetchFault → Rose old.files.faults new.files.faults → Step A E Reads Fails bad told Next
    large : status ≡ TooLarge → IsTooLarge told → Step A E Reads Fails bad told Next
    faulty : (bytes : List ℕ) (fault : E) → AreTold told bytes → Fails bytes fault → status ≡ bad fault → Step A E Reads Fails bad told Next
    read : (bytes : List ℕ) (x : A) → AreTold told bytes → Reads bytes x → Next x → Step A E Reads Fails bad told Next
    unwritten : IsUnwritten status old.out new.out → Step A E Reads Fails bad told Next

  -- a run that stopped, in a law that tells of a file that was not read
  pub stopped_before : IsStopped status old new → (status ≡ FetchFault) ⊎ IsUnwritten status old.out new.out
  stopped_before (inl stopped) = inl stopped.0
  stopped_before (inr is) = inr is

  pub unless_before : {P Q : Type 0} → P ⊎ IsStopped status old new → (P → Q ⊎ IsStopped status old new) → Q ⊎ IsStopped status old new
  unless_before (inl p) then = then p
  unless_before (inr stopped) then = inr stopped

  pub unless_absent : {P : Type 0} → P ⊎ IsStopped status old new → (P → (status ≡ FetchFault) ⊎ IsUnwritten status old.out new.out) → (status ≡ FetchFault) ⊎ IsUnwritten status old.out new.out
  unless_absent (inl p) then = then p
  unless_absent (inr stopped) then = stopped_before stopped

  module _ (A E : Type 0) (Reads : List ℕ → A → Type 0) (Fails : List ℕ → E → Type 0) (bad : E → Status) where
    pub no_bytes_step : (before : List (List ℕ)) (file : List ℕ) (outcome : Outcome) (Next : A → Type 0) → HasNoBytes before file old.files new.files outcome → IsWritten outcome status old.out new.out → Step A E Reads Fails bad (old.files.told file) Next
    no_bytes_step before file outcome Next (not_read rose asks e) written = failed (written.status_is ∙ ap (λ o. o.status) e) rose
    no_bytes_step before file outcome Next (not_small many asks e) written = large (written.status_is ∙ ap (λ o. o.status) e) many

    module _ (told : Told) (Next : A → Type 0) where
      pub absent_step : told ≡ Absent → Step A E Reads Fails bad told Next → (status ≡ FetchFault) ⊎ IsUnwritten status old.out new.out
      absent_step absent (failed is rose) = inl is
      absent_step absent (large is many) = absurd (subst IsTooLarge absent many)
      absent_step absent (faulty bytes fault there fails is) = absurd (subst (λ t. AreTold t bytes) absent there)
      absent_step absent (read bytes x there reads next) = absurd (subst (λ t. AreTold t bytes) absent there)
      absent_step absent (unwritten is) = inr is

      -- The bytes are known.
      module _ (kind : HasOneReading A E Reads Fails) (known : List ℕ) (is_known : told ≡ Bytes known) where
        fails_there : (bytes : List ℕ) (fault : E) → AreTold told bytes → Fails bytes fault → Fails known fault
        fails_there bytes fault there fails = subst (λ b. Fails b fault) (same_bytes told bytes known there is_known) fails

        reads_there : (bytes : List ℕ) (x : A) → AreTold told bytes → Reads bytes x → Reads known x
        reads_there bytes x there reads = subst (λ b. Reads b x) (same_bytes told bytes known there is_known) reads

        pub large_step : file_limit < length known → Step A E Reads Fails bad told Next → (status ≡ TooLarge) ⊎ IsStopped status old new
        large_step many (failed is rose) = inr (inl (is, rose))
        large_step many (large is more) = inl is
        large_step many (faulty bytes fault there fails is) =
            let few = kind.few_faulty known fault (fails_there bytes fault there fails) in absurd (omega arith)
        large_step many (read bytes x there reads next) =
            let few = kind.few known x (reads_there bytes x there reads) in absurd (omega arith)
        large_step many (unwritten is) = inr (inr is)

        too_many : length known ≤ file_limit → IsTooLarge told → ⊥
        too_many few many = let more : file_limit < length known = subst IsTooLarge is_known many in absurd (omega arith)

        pub fault_step : (first : E) → Fails known first → Step A E Reads Fails bad told Next → (status ≡ bad first) ⊎ IsStopped status old new
        fault_step first fails (failed is rose) = inr (inl (is, rose))
        fault_step first fails (large is more) = absurd (too_many (kind.few_faulty known first fails) more)
        fault_step first fails (faulty bytes fault there again is) =
            inl (is ∙ ap bad (kind.one_fault known fault first (fails_there bytes fault there again) fails))
        fault_step first fails (read bytes x there reads next) = absurd (kind.not_both known x first (reads_there bytes x there reads) fails)
        fault_step first fails (unwritten is) = inr (inr is)

        pub none_step : length known ≤ file_limit → ((x : A) → Reads known x → ⊥) → Step A E Reads Fails bad told Next → ((fault : E) × (status ≡ bad fault)) ⊎ IsStopped status old new
        none_step few none (failed is rose) = inr (inl (is, rose))
        none_step few none (large is more) = absurd (too_many few more)
        none_step few none (faulty bytes fault there fails is) = inl (fault, is)
        none_step few none (read bytes x there reads next) = absurd (none x (reads_there bytes x there reads))
        none_step few none (unwritten is) = inr (inr is)

        pub next_step : (x : A) → Reads known x → Step A E Reads Fails bad told Next → Next x ⊎ IsStopped status old new
        next_step x reads (failed is rose) = inr (inl (is, rose))
        next_step x reads (large is more) = absurd (too_many (kind.few known x reads) more)
        next_step x reads (faulty bytes fault there fails is) = absurd (kind.not_both known x fault reads (fails_there bytes fault there fails))
        next_step x reads (read bytes y there again next) = inl (subst Next (kind.one known y x (reads_there bytes y there again) reads) next)
        next_step x reads (unwritten is) = inr (inr is)
