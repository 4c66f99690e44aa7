use Rattle.std.proofs.Common.{◌≡◌, ℕ, zero, suc, ◌<◌, ◌≤◌, List, ◌++◌, length, take, Some, refl, ap, arith}
use Rattle.std.specs.Prelude.{codes, slice_index}
use Rattle.std.proofs.lemmas.Option.{same_Some}
use Rattle.cxl_worked_runs.proofs.ends.cuts_on_examples.Goals as goal

pub returns-clause-cut : goal.returns-clause-cut
returns-clause-cut c = record { rose = omega arith; count = 1; short = omega arith; taken = refl; counted = λ alone. refl }

pub returns-clause-at_once : goal.returns-clause-at_once
returns-clause-at_once c = record { rose = omega arith; count = 0; short = omega arith; taken = refl; counted = λ alone. refl }

pub returns-clause-before_last : goal.returns-clause-before_last
returns-clause-before_last c = record { rose = omega arith; count = 2; short = omega arith; taken = refl; counted = λ alone. refl }

-- the text is none that such a cut leaves
abbrev Leaves : List ℕ → ℕ → Type 0
Leaves bytes count = Some bytes ≡ Some (codes "ab" ++ take count (codes "cde"))

not_whole : (count : ℕ) → count < 3 → ¬ (Leaves (codes "abcde") count)
not_whole zero short taken = let wrong : 5 ≡ 2 = ap length (same_Some (codes "abcde") _ taken) in omega (arith, wrong)
not_whole (suc zero) short taken = let wrong : 5 ≡ 3 = ap length (same_Some (codes "abcde") _ taken) in omega (arith, wrong)
not_whole (suc (suc zero)) short taken = let wrong : 5 ≡ 4 = ap length (same_Some (codes "abcde") _ taken) in omega (arith, wrong)
not_whole (suc (suc (suc k))) short taken = omega (arith, short)

pub returns-clause-not_whole : goal.returns-clause-not_whole
returns-clause-not_whole c cut = not_whole cut.count cut.short cut.taken

not_in_first : (count : ℕ) → count < 3 → ¬ (Leaves (codes "a") count)
not_in_first zero short taken = let wrong : 1 ≡ 2 = ap length (same_Some (codes "a") _ taken) in omega (arith, wrong)
not_in_first (suc zero) short taken = let wrong : 1 ≡ 3 = ap length (same_Some (codes "a") _ taken) in omega (arith, wrong)
not_in_first (suc (suc zero)) short taken = let wrong : 1 ≡ 4 = ap length (same_Some (codes "a") _ taken) in omega (arith, wrong)
not_in_first (suc (suc (suc k))) short taken = omega (arith, short)

pub returns-clause-not_in_first : goal.returns-clause-not_in_first
returns-clause-not_in_first c cut = not_in_first cut.count cut.short cut.taken

-- the third byte is none of the second text's
not_another : (count : ℕ) → count < 3 → ¬ (Leaves (codes "abd") count)
not_another zero short taken = let wrong : 3 ≡ 2 = ap length (same_Some (codes "abd") _ taken) in omega (arith, wrong)
not_another (suc zero) short taken =
    let wrong : 100 ≡ 99 = ap (λ (bytes : List ℕ). slice_index bytes 2) (same_Some (codes "abd") _ taken) in omega (arith, wrong)
not_another (suc (suc zero)) short taken = let wrong : 3 ≡ 4 = ap length (same_Some (codes "abd") _ taken) in omega (arith, wrong)
not_another (suc (suc (suc k))) short taken = omega (arith, short)

pub returns-clause-not_another : goal.returns-clause-not_another
returns-clause-not_another c cut = not_another cut.count cut.short cut.taken

pub returns-clause-not_without_fault : goal.returns-clause-not_without_fault
returns-clause-not_without_fault c cut = let wrong : 1 ≤ 0 = cut.rose in omega (arith, wrong)

pub returns-clause-not_past_fault : goal.returns-clause-not_past_fault
returns-clause-not_past_fault c cut = let wrong : 2 ≡ 1 = cut.counted refl in omega (arith, wrong)
