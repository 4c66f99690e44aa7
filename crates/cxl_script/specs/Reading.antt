-- What is read from the words of a line, one after the other, up to the first fault (this project's grammar).
use Rattle.std.specs.Prelude.{ℕ, ◌+◌, ◌*◌, ◌%◌, ◌==◌, nat_lt, nat_le, ◌&&◌, Bool, if◌then◌else◌, List, [], ◌∷◌, length, drop, codes, nat_eq, Option, Some, None, Result, Ok, Err, ◌≡◌}
use Rattle.std.specs.List.{list_all, starts_with}
use Rattle.std.specs.Str.{bytes_eq}
use Rattle.std.specs.Char.{digit_value, is_digit}
use Rattle.cxl_enc.specs.declared.caps.MemKind.{MemKind}
use Rattle.cxl_enc.specs.declared.caps.MemKind.TheVariants.{Ram, Pmem}
use Rattle.cxl_enc.specs.Name.{is_name}
use Rattle.cxl_io.specs.Numbers.{number_of}
use Rattle.cxl_io.specs.declared.number.NumFault.{NumFault}
use Rattle.cxl_script.specs.declared.fault.BadLine.{BadLine}
use Rattle.cxl_script.specs.declared.fault.LineFault.{LineFault}
use Rattle.cxl_script.specs.declared.fault.LineFault.TheVariants as faults
use Rattle.cxl_script.specs.declared.fault.Why.{Why}
use Rattle.cxl_script.specs.declared.fault.Why.TheVariants as whys
use Rattle.cxl_script.specs.Words.{Word}

-- a value and the words behind it, or the first fault
abbrev pub Read : Type 0 → Type 0
Read A = Result (A × List Word) BadLine

infixl 10 ◌>>=◌
-- what is read behind a part that was read; else its fault
abbrev pub ◌>>=◌ : {A B : Type 0} → Read A → (A × List Word → Result B BadLine) → Result B BadLine
(Ok x) >>= f = f x
(Err fault) >>= f = Err fault

-- the line is bad at this byte, for this reason
abbrev pub bad : {A : Type 0} → ℕ → Why → Result A BadLine
bad at why = Err (record { at = at; why = why })

-- ---- what a call gives of it

-- the value, and the words that are left, or the fault
abbrev pub GivesWithRest : {A : Type 0} → Result A BadLine → List Word → Read A → Type 0
GivesWithRest (Ok a) left read = read ≡ Ok (a, left)
GivesWithRest (Err fault) left read = read ≡ Err fault

-- the same, or memory is wanting
abbrev pub GivesWithRestUnlessMemory : {A : Type 0} → Result A LineFault → List Word → Read A → Type 0
GivesWithRestUnlessMemory (Ok a) left read = read ≡ Ok (a, left)
GivesWithRestUnlessMemory (Err (faults.Bad fault)) left read = read ≡ Err fault
GivesWithRestUnlessMemory (Err faults.Memory) left read = Unit {0}

-- what is asked for, or memory is wanting
abbrev pub IsUnlessMemory : {A : Type 0} → Result A LineFault → Result A BadLine → Type 0
IsUnlessMemory (Ok a) asked = asked ≡ Ok a
IsUnlessMemory (Err (faults.Bad fault)) asked = asked ≡ Err fault
IsUnlessMemory (Err faults.Memory) asked = Unit {0}

-- ---- one word

-- the next word of a line of so many bytes
abbrev pub next_word_in : ℕ → List Word → Read Word
next_word_in len [] = bad len whys.Missing
next_word_in len (word ∷ words) = Ok (word, words)

-- no word is left
abbrev pub ends : {A : Type 0} → A → List Word → Result A BadLine
ends a [] = Ok a
ends a (word ∷ words) = bad word.at whys.Extra

-- the word as a name
abbrev pub word_as_name : Word → Result (List ℕ) BadLine
word_as_name word = if is_name word.text then Ok word.text else bad word.at whys.Name

-- the word as a kind of memory
abbrev pub word_as_kind : Word → Result MemKind BadLine
word_as_kind word =
    if bytes_eq word.text (codes "ram") then Ok Ram
    else (if bytes_eq word.text (codes "pmem") then Ok Pmem
    else bad word.at whys.Kind)

-- what a word is read as, with the words behind it
abbrev pub with_rest : {A : Type 0} → Result A BadLine → List Word → Read A
with_rest (Ok a) words = Ok (a, words)
with_rest (Err fault) words = Err fault

-- the next word, read so, and the words behind it
abbrev pub read_in : {A : Type 0} → (Word → Result A BadLine) → ℕ → List Word → Read A
read_in read len words = next_word_in len words >>= λ word. with_rest (read word.0) word.1

-- the next word as a name
abbrev pub name_in : ℕ → List Word → Read (List ℕ)
name_in len words = read_in word_as_name len words

-- the next word as a kind of memory
abbrev pub kind_in : ℕ → List Word → Read MemKind
kind_in len words = read_in word_as_kind len words

-- the next word without these bytes, and the words behind it, where it begins with them
abbrev pub behind : List ℕ → List Word → Option (Word × List Word)
behind front [] = None
behind front (word ∷ words) =
    if starts_with nat_eq word.text front
    then Some (record { at = word.at; text = drop (length front) word.text }, words)
    else None

-- ---- numbers

-- the number of this text, in a word that begins there, from least to most
abbrev pub ranged : ℕ → ℕ → ℕ → Result ℕ NumFault → Result ℕ BadLine
ranged at least most (Ok n) = if nat_le least n && nat_le n most then Ok n else bad at whys.Range
ranged at least most (Err fault) = bad at whys.Number

-- the next word as a number from the least to the most
abbrev pub ranged_in : ℕ → ℕ → ℕ → List Word → Read ℕ
ranged_in least most len words = read_in (λ word. ranged word.at least most (number_of word.text)) len words

-- any number of 64 bits
abbrev pub address_in : ℕ → List Word → Read ℕ
address_in len words = ranged_in 0 0xffffffffffffffff len words

-- ---- bytes

-- hexadecimal digits, two for each byte
abbrev pub is_hex : List ℕ → Bool
is_hex text = list_all (λ b. is_digit b 16) text && (length text % 2 == 0)

-- two digits a byte, first byte first
abbrev pub hex_bytes : List ℕ → List ℕ
hex_bytes [] = []
hex_bytes (high ∷ []) = []
hex_bytes (high ∷ low ∷ digits) = (16 * digit_value high + digit_value low) ∷ hex_bytes digits

-- no more than so many
abbrev pub few_bytes : ℕ → ℕ → List ℕ → Result (List ℕ) BadLine
few_bytes at most bytes = if nat_lt most (length bytes) then bad at whys.Range else Ok bytes

-- the word as no more than so many bytes
abbrev pub word_as_bytes : ℕ → Word → Result (List ℕ) BadLine
word_as_bytes most word = if is_hex word.text then few_bytes word.at most (hex_bytes word.text) else bad word.at whys.Hex

-- the next word as no more than so many bytes
abbrev pub hex_bytes_in : ℕ → ℕ → List Word → Read (List ℕ)
hex_bytes_in most len words = read_in (word_as_bytes most) len words
