-- A fetch from memory for which memory runs out.
use Rattle.std.proofs.Common.{◌≡◌, ℕ, ◌⊎◌, Some, Err, Result, List, [], ◌++◌, sym, ap, ◌∙◌, inl, inr}
use Rattle.std.specs.Prelude.{String, Vec}
use Rattle.std.specs.declared.alloc.Global.{Global}
use Rattle.std.proofs.lemmas.List.{append-nil}
use Rattle.cxl_enc.specs.Counters.{Counters}
use Rattle.cxl_io.specs.MemoryFiles.{MemoryFiles, files_of, names_of}
use Rattle.cxl_io.specs.declared.fetch.FetchFault.{FetchFault}
use Rattle.cxl_io.specs.declared.fetch.FetchFault.TheVariants.{Failed, TooLarge, Memory}

-- these files with these names asked for
abbrev pub memory_with : List (String Global × Vec ℕ Global) → Counters → List (String Global) → MemoryFiles
memory_with files counters asked = record { files = files_of files; asked = names_of asked; counters = counters }

-- want of memory is no other fault
pub memory_no_other : (answer : Result (Vec ℕ Global) FetchFault) → answer ≡ Err Memory → (answer ≡ Err TooLarge) ⊎ (answer ≡ Err Failed) → ⊥
memory_no_other answer is (inl large) = absurd (cc)
memory_no_other answer is (inr failed) = absurd (cc)

-- no name more is asked for
pub asks_no_more : (new old : List (String Global)) → new ≡ old → (memory : MemoryFiles) → names_of old ≡ memory.asked → Some (names_of new) ≡ Some (memory.asked ++ [])
asks_no_more new old same memory is =
    ap (λ names. Some (names_of names)) same ∙ ap (λ names. Some names) (is ∙ sym (append-nil memory.asked))
