-- One word read after the other: what holds of all that is read.
use Rattle.std.proofs.Common.{◌≡◌, ℕ, ◌≤◌, Bool, true, false, nat_le, ◌&&◌, List, [], ◌∷◌, length, Result, Ok, Err, IfOk, refl, arith}
use Rattle.std.specs.Prelude.{if◌then◌else◌}
use Rattle.std.proofs.lemmas.Bool.Decides.{nat_tests}
use Rattle.cxl_io.specs.Numbers.{number_of}
use Rattle.cxl_io.specs.declared.number.NumFault.{NumFault}
use Rattle.cxl_script.specs.declared.fault.BadLine.{BadLine}
use Rattle.cxl_script.specs.declared.fault.Why.TheVariants as whys
use Rattle.cxl_script.specs.Reading.{Read, ◌>>=◌, bad, ends, with_rest, ranged, read_in, ranged_in}
use Rattle.cxl_script.specs.Words.{Word}

pub kept : {A : Type 0} (P : A → Type 0) (read : Result A BadLine) (words : List Word) → IfOk read P → IfOk (with_rest read words) (λ r. P r.0)
kept P (Ok a) words is = is
kept P (Err fault) words is = tt

pub after : {A B : Type 0} (P : A × List Word → Type 0) (Q : B → Type 0) (read : Read A) (f : A × List Word → Result B BadLine) → IfOk read P → ((x : A × List Word) → P x → IfOk (f x) Q) → IfOk (read >>= f) Q
after P Q (Ok x) f is each = each x is
after P Q (Err fault) f is each = tt

any : {A : Type 0} (read : Read A) → IfOk read (λ x. Unit {0})
any (Ok x) = tt
any (Err fault) = tt

pub behind_any : {A B : Type 0} (Q : B → Type 0) (read : Read A) (f : A × List Word → Result B BadLine) → ((x : A × List Word) → IfOk (f x) Q) → IfOk (read >>= f) Q
behind_any Q read f each = after (λ x. Unit {0}) Q read f (any read) (λ x is. each x)

-- the last word of a line
pub at_end : {A : Type 0} (P : A → Type 0) (a : A) (words : List Word) → P a → IfOk (ends a words) P
at_end P a [] is = is
at_end P a (word ∷ words) is = tt

-- ---- numbers

-- from least to most
abbrev pub IsFromTo : ℕ → ℕ → ℕ → Type 0
IsFromTo least most n = (least ≤ n) × (n ≤ most)

within : (least most at n : ℕ) (low high : Bool) → nat_le least n ≡ low → nat_le n most ≡ high
    → IfOk (if low && high then Ok n else bad at whys.Range) (IsFromTo least most)
within least most at n true true low high = (grind (arith, nat_tests), grind (arith, nat_tests))
within least most at n true false low high = tt
within least most at n false high low e = tt

number_within : (least most at : ℕ) (number : Result ℕ NumFault) → IfOk (ranged at least most number) (IsFromTo least most)
number_within least most at (Ok n) = within least most at n (nat_le least n) (nat_le n most) refl refl
number_within least most at (Err fault) = tt

pub ranged_within : (least most len : ℕ) (words : List Word) → IfOk (ranged_in least most len words) (λ r. IsFromTo least most r.0)
ranged_within least most len [] = tt
ranged_within least most len (word ∷ words) = kept (IsFromTo least most) (ranged word.at least most (number_of word.text)) words (number_within least most word.at (number_of word.text))

-- ---- the words that are left

-- each word has bytes
abbrev pub HaveBytes : List Word → Type 0
HaveBytes [] = Unit {0}
HaveBytes (word ∷ words) = (1 ≤ length word.text) × HaveBytes words

rest_kept : {A : Type 0} (read : Result A BadLine) (words : List Word) → HaveBytes words → IfOk (with_rest read words) (λ r. HaveBytes r.1)
rest_kept (Ok a) words have = have
rest_kept (Err fault) words have = tt

-- so do those behind one that is read
pub words_left : {A : Type 0} (read : Word → Result A BadLine) (len : ℕ) (words : List Word) → HaveBytes words → IfOk (read_in read len words) (λ r. HaveBytes r.1)
words_left read len [] have = tt
words_left read len (word ∷ words) have = rest_kept (read word) words have.1
