-- Files in memory.
use Rattle.std.specs.Prelude.{ℕ, Bool, true, ◌||◌, nat_le, is_none, if◌then◌else◌, Option, Some, None, Result, Ok, Err, List, [], ◌∷◌, ◌++◌, map, length, bytes_eq, string_bytes, String, Vec}
use Rattle.std.specs.declared.alloc.Global.{Global}
use Rattle.cxl_enc.specs.Limits.{file_limit}
use Rattle.cxl_enc.specs.Counters.{Counters, fails_next, counters_after}
use Rattle.cxl_io.specs.Fetch.{FetchState}
use Rattle.cxl_io.specs.Told.{Told, Absent, Bytes}
use Rattle.cxl_io.specs.declared.fetch.FetchFault.{FetchFault}
use Rattle.cxl_io.specs.declared.fetch.FetchFault.TheVariants.{Failed, TooLarge}

-- each file is its name and its bytes
pub record MemoryFiles : Type 0 where
  pub files : List (List ℕ × List ℕ)
  -- the names that were asked for, in order
  pub asked : List (List ℕ)
  pub counters : Counters

-- these files as names and bytes
abbrev pub files_of : List (String Global × Vec ℕ Global) → List (List ℕ × List ℕ)
files_of files = map (λ file. (string_bytes file.0, file.1.items)) files

-- these names as bytes
abbrev pub names_of : List (String Global) → List (List ℕ)
names_of names = map string_bytes names

-- the bytes of the first file of that name
abbrev pub file_of : List (List ℕ × List ℕ) → List ℕ → Option (List ℕ)
file_of [] name = None
file_of (file ∷ others) name = if bytes_eq file.0 name then Some file.1 else file_of others name

-- the bytes of each file are told, and of each other name that it is none
abbrev pub told_of : Option (List ℕ) → Told
told_of None = Absent
told_of (Some bytes) = Bytes bytes

-- what files in memory tell and were asked for
abbrev pub state_of : MemoryFiles → FetchState
state_of memory = record {
  told = λ name. told_of (file_of memory.files name);
  asked = Some memory.asked;
  faults = memory.counters.faults;
  counts_failures_alone = true;
}

-- whether a fetch meets a fault: the call is one of those that fail, or no file has the name
abbrev pub fetch_fails : MemoryFiles → List ℕ → Bool
fetch_fails memory name = fails_next memory.counters || is_none (file_of memory.files name)

-- a file, if it is there and not too large
abbrev pub file_answer : Option (List ℕ) → Result (List ℕ) FetchFault
file_answer None = Err Failed
file_answer (Some file) = if nat_le (length file) file_limit then Ok file else Err TooLarge

-- what a fetch answers, unless memory runs out
abbrev pub fetch_answer : MemoryFiles → List ℕ → Result (List ℕ) FetchFault
fetch_answer memory name =
    if fails_next memory.counters then Err Failed else file_answer (file_of memory.files name)

-- the files stay, and the name and the call are counted
abbrev pub files_after : MemoryFiles → List ℕ → MemoryFiles
files_after memory name = record {
  files = memory.files;
  asked = memory.asked ++ name ∷ [];
  counters = counters_after memory.counters (fetch_fails memory name);
}
