-- What a line states as a granularity is a code of the table.
use Rattle.std.proofs.Common.{ℕ, ◌≤◌, Bool, true, false, ◌==◌, List, Option, Some, None, IfSome, Result, Ok, Err, IfOk, arith}
use Rattle.std.specs.Prelude.{if◌then◌else◌, codes}
use Rattle.cxl_enc.specs.Codes.{gran_code_in_table}
use Rattle.cxl_io.specs.Numbers.{number_of}
use Rattle.cxl_script.specs.declared.create.Head.{Head}
use Rattle.cxl_script.specs.declared.fault.BadLine.{BadLine}
use Rattle.cxl_script.specs.Grammar.{gran_of_bytes, gran_of_number, gran_read, gran_in, head_in, over_ways, over_names, over_read, some_names_in, ways_limit, create_in, StatesGranCode}
use Rattle.cxl_script.specs.Reading.{ranged, behind, name_in, kind_in, address_in}
use Rattle.cxl_script.specs.Words.{Word}
use Rattle.cxl_script.proofs.ReadSteps.{kept, after, behind_any, at_end}

abbrev IsCode : Option ℕ → Type 0
IsCode gran = IfSome gran (λ code. code ≤ 6)

-- ---- the granularity

one_row : (b : Bool) (code : ℕ) (rest : Option ℕ) → code ≤ 6 → IsCode rest → IsCode (if b then Some code else rest)
one_row true code rest low others = low
one_row false code rest low others = others

table_low : (bytes : ℕ) → IsCode (gran_code_in_table bytes)
table_low bytes =
    one_row (bytes == 256) 0 _ (omega arith) (one_row (bytes == 512) 1 _ (omega arith) (one_row (bytes == 1024) 2 _ (omega arith)
    (one_row (bytes == 2048) 3 _ (omega arith) (one_row (bytes == 4096) 4 _ (omega arith) (one_row (bytes == 8192) 5 _ (omega arith)
    (one_row (bytes == 16384) 6 None (omega arith) tt))))))

bytes_low : (at : ℕ) (code : Option ℕ) → IsCode code → IfOk (gran_of_bytes at code) IsCode
bytes_low at None low = tt
bytes_low at (Some code) low = low

number_low : (at : ℕ) (number : Result ℕ BadLine) → IfOk (gran_of_number at number) IsCode
number_low at (Ok bytes) = bytes_low at (gran_code_in_table bytes) (table_low bytes)
number_low at (Err fault) = tt

read_low : (words : List Word) (next : Option (Word × List Word)) → IfOk (gran_read words next) (λ r. IsCode r.0)
read_low words None = tt
read_low words (Some next) =
    kept IsCode (gran_of_number next.0.at (ranged next.0.at 0 0xffffffffffffffff (number_of next.0.text))) next.1
    (number_low next.0.at (ranged next.0.at 0 0xffffffffffffffff (number_of next.0.text)))

head_low : (len : ℕ) (words : List Word) → IfOk (head_in len words) (λ r. IsCode r.0.gran)
head_low len words =
    behind_any (λ r. IsCode r.0.gran) (name_in len words) _ (λ name.
    behind_any (λ r. IsCode r.0.gran) (kind_in len name.1) _ (λ kind.
    behind_any (λ r. IsCode r.0.gran) (address_in len kind.1) _ (λ size.
    after (λ r. IsCode r.0) (λ r. IsCode r.0.gran) (gran_in size.1) _ (read_low size.1 (behind (codes "gran=") size.1)) (λ gran low. low))))

-- ---- a region

ways_low : (head : Head) (ways : Result ℕ BadLine) (words : List Word) → IsCode head.gran → IfOk (over_ways head ways words) StatesGranCode
ways_low head (Ok ways) words low = at_end StatesGranCode _ words low
ways_low head (Err fault) words low = tt

names_low : (head : Head) (names : Result (List (List ℕ)) BadLine) → IsCode head.gran → IfOk (over_names head names) StatesGranCode
names_low head (Ok names) low = low
names_low head (Err fault) low = tt

over_low : (len : ℕ) (head : Head) (words : List Word) (next : Option (Word × List Word)) → IsCode head.gran → IfOk (over_read len head words next) StatesGranCode
over_low len head words None low = names_low head (some_names_in len words) low
over_low len head words (Some next) low = ways_low head (ranged next.0.at 1 ways_limit (number_of next.0.text)) next.1 low

pub create_low : (len : ℕ) (words : List Word) → IfOk (create_in len words) StatesGranCode
create_low len words =
    after (λ r. IsCode r.0.gran) StatesGranCode (head_in len words) _ (head_low len words)
    (λ head low. over_low len head.0 head.1 (behind (codes "ways=") head.1) low)
