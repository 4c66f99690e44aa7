-- The least rule that a decoder breaks, and the first breach among some decoders.
use Rattle.std.specs.Prelude.{◌≡◌, ℕ, ◌<◌, Bool, true, false, if◌then◌else◌, Option, Some, None}
use Rattle.cxl_regs.specs.declared.decoder.Decoder.{Decoder}
use Rattle.cxl_regs.specs.Registers.{Registers}
use Rattle.cxl_span.specs.declared.breach.BlockBreach.{BlockBreach}
use Rattle.cxl_span.specs.Rules.{breaks_commit_order, breaks_flags, breaks_codes, breaks_select, breaks_size, breaks_base_order, breaks_capacity}
use Rattle.cxl_span.specs.Breaches.{breaks}

-- the number of the first test of K2 to K8 that holds
abbrev pub least_of : Bool → Bool → Bool → Bool → Bool → Bool → Bool → Option ℕ
least_of order flags codes select size rise capacity =
    if order then Some 2
    else (if flags then Some 3
    else (if codes then Some 4
    else (if select then Some 5
    else (if size then Some 6
    else (if rise then Some 7
    else (if capacity then Some 8
    else None))))))

-- the least rule that a decoder breaks, with this one before it and a span that starts there
abbrev pub least_rule : Registers → ℕ → ℕ → Option Decoder → ℕ → Decoder → Option ℕ
least_rule block ram pmem below start d =
    least_of (breaks_commit_order block below d) (breaks_flags d) (breaks_codes block d) (breaks_select block d) (breaks_size block d)
    (breaks_base_order below d) (breaks_capacity block ram pmem start d)

-- decoder i breaks the rule and no lower one
pub record IsLeastRule (block : Registers) (ram pmem i rule : ℕ) : Type 0 where
  pub broken : breaks rule block ram pmem i ≡ true
  pub rules : (lower : ℕ) → lower < rule → breaks lower block ram pmem i ≡ false

-- the least rule that decoder i breaks, where it breaks one
abbrev pub IsLeastAt : Registers → ℕ → ℕ → ℕ → Option ℕ → Type 0
IsLeastAt block ram pmem i None = (rule : ℕ) → breaks rule block ram pmem i ≡ false
IsLeastAt block ram pmem i (Some rule) = IsLeastRule block ram pmem i rule

-- the least rule that a decoder below n breaks, with the first decoder that does
pub record IsFirstBelow (block : Registers) (ram pmem n : ℕ) (b : BlockBreach) : Type 0 where
  pub broken : breaks b.rule block ram pmem b.decoder ≡ true
  pub rules : (lower i : ℕ) → lower < b.rule → i < n → breaks lower block ram pmem i ≡ false
  pub decoders : (lower : ℕ) → lower < b.decoder → breaks b.rule block ram pmem lower ≡ false

-- what is found of the decoders below n
abbrev pub IsFoundBelow : Registers → ℕ → ℕ → ℕ → Option BlockBreach → Type 0
IsFoundBelow block ram pmem n None = (rule i : ℕ) → i < n → breaks rule block ram pmem i ≡ false
IsFoundBelow block ram pmem n (Some b) = IsFirstBelow block ram pmem n b
