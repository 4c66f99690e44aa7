-- The lines that go over the pipes (this project's rule): a question, and the line that answers it.
use Rattle.std.specs.Prelude.{ℕ, ◌^◌, ◌==◌, nat_lt, Bool, false, not, ◌&&◌, ◌||◌, if◌then◌else◌, Option, Some, None, is_some, List, ◌++◌, codes, decimal, bytes_eq, Result, Ok, Err}
use Rattle.std.specs.Option.{option_map_or}
use Rattle.cxl_enc.specs.Bits.{control_commit, control_committed, control_error}
use Rattle.cxl_enc.specs.Caps.{has_bit}
use Rattle.cxl_io.specs.Numbers.{number_of, is_hexadecimal}
use Rattle.cxl_io.specs.Printed.{hex_of}
use Rattle.cxl_io.specs.declared.number.NumFault.{NumFault}
use Rattle.cxl_regs.specs.Words.{head_size, control, place_at}

-- no question has more bytes
abbrev pub question_limit : ℕ
question_limit = 64

-- which word stands at this offset of a node?
abbrev pub read_question : ℕ → ℕ → List ℕ
read_question node off = codes "r " ++ decimal node ++ codes " 0x" ++ hex_of off ++ codes "\n"

-- take this word at this offset of a node
abbrev pub write_question : ℕ → ℕ → ℕ → List ℕ
write_question node off value =
    codes "w " ++ decimal node ++ codes " 0x" ++ hex_of off ++ codes " 0x" ++ hex_of value ++ codes "\n"

-- the write was taken
abbrev pub says_taken : List ℕ → Bool
says_taken line = bytes_eq line (codes "ok")

-- the access failed
abbrev pub says_failed : List ℕ → Bool
says_failed line = bytes_eq line (codes "failed")

-- what a word was read as is this number
abbrev pub is_number : ℕ → Result ℕ NumFault → Bool
is_number word (Ok n) = n == word
is_number word (Err fault) = false

-- this word stands there: its hexadecimal digits, behind `0x`
abbrev pub tells_word : ℕ → List ℕ → Bool
tells_word word line = is_hexadecimal line && is_number word (number_of line)

-- what a word was read as, where 32 bits hold it
abbrev pub word_within : Result ℕ NumFault → Option ℕ
word_within (Ok n) = if nat_lt n (2 ^ 32) then Some n else None
word_within (Err fault) = None

-- the word that an answer tells, where it tells one
abbrev pub word_told : List ℕ → Option ℕ
word_told line = if is_hexadecimal line then word_within (number_of line) else None

-- an answer that a read can have
abbrev pub answers_read : List ℕ → Bool
answers_read line = is_some (word_told line) || says_failed line

-- an answer that a write can have
abbrev pub answers_write : List ℕ → Bool
answers_write line = says_taken line || says_failed line

-- ---- commits

-- the write asks a decoder to commit
abbrev pub is_commit : ℕ → ℕ → Bool
is_commit off value = not (nat_lt off head_size) && (place_at off == control) && has_bit value control_commit

-- a control word whose commit is neither done nor refused
abbrev pub is_pending : ℕ → Bool
is_pending word = not (has_bit word control_committed) && not (has_bit word control_error)

-- the answer tells such a word
abbrev pub tells_pending : List ℕ → Bool
tells_pending line = option_map_or is_pending (word_told line) false

-- so often at the most a control word is read behind a commit
abbrev pub read_back_limit : ℕ
read_back_limit = 1000
