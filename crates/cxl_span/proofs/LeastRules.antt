-- The least rule that a decoder breaks, and the first breach of all decoders.
use Rattle.std.proofs.Common.{◌≡◌, ℕ, ◌+◌, ◌<◌, ◌≤◌, Bool, true, false, take, length, Option, Some, None, sum_by, refl, sym, subst, ◌∙◌, inl, inr, arith, ◌↔◌, eqb}
use Rattle.std.specs.Prelude.{slice_get, ◌==◌, if◌then◌else◌, IsNone, IfSome}
use Rattle.std.proofs.lemmas.Bool.{cases_Bool, cases_lt, eqb-true}
use Rattle.cxl_regs.specs.declared.decoder.Decoder.{Decoder}
use Rattle.cxl_regs.specs.Registers.{Registers}
use Rattle.cxl_regs.specs.Rules.{before}
use Rattle.cxl_span.specs.declared.breach.BlockBreach.{BlockBreach}
use Rattle.cxl_span.specs.Spans.{span_step}
use Rattle.cxl_span.specs.Rules.{breaks_commit_order, breaks_flags, breaks_codes, breaks_select, breaks_size, breaks_base_order, breaks_capacity}
use Rattle.cxl_span.specs.Breaches.{breaks, BlockKeeps, IsFirstBlockBreach}
use Rattle.cxl_span.specs.inner.Least.{least_of, least_rule, IsLeastAt, IsFoundBelow}
use Rattle.cxl_span.proofs.BreaksAt.{tells_here, breaks_past}

-- the test of the rule of this number among the seven
abbrev test_of : ℕ → Bool → Bool → Bool → Bool → Bool → Bool → Bool → Bool
test_of rule order flags codes select size rise capacity =
    if rule == 2 then order
    else (if rule == 3 then flags
    else (if rule == 4 then codes
    else (if rule == 5 then select
    else (if rule == 6 then size
    else (if rule == 7 then rise
    else (if rule == 8 then capacity
    else false))))))

-- where the tests of the lower rules fail
lower_fail : (n rule : ℕ) (order flags codes select size rise capacity : Bool) → rule < n → (2 < n → order ≡ false) → (3 < n → flags ≡ false) → (4 < n → codes ≡ false) → (5 < n → select ≡ false) → (6 < n → size ≡ false) → (7 < n → rise ≡ false) → (8 < n → capacity ≡ false)
    → test_of rule order flags codes select size rise capacity ≡ false
lower_fail n rule order flags codes select size rise capacity low h2 h3 h4 h5 h6 h7 h8 =
    elim (cases_Bool (eqb rule 2)) [ inl is ↦ rw is (h2 (omega (arith, eqb-true rule 2 is, low))) | inr other ↦ rw other (elim (cases_Bool (eqb rule 3)) [ inl is ↦ rw is (h3 (omega (arith, eqb-true rule 3 is, low))) | inr other ↦ rw other (elim (cases_Bool (eqb rule 4)) [ inl is ↦ rw is (h4 (omega (arith, eqb-true rule 4 is, low))) | inr other ↦ rw other (elim (cases_Bool (eqb rule 5)) [ inl is ↦ rw is (h5 (omega (arith, eqb-true rule 5 is, low))) | inr other ↦ rw other (elim (cases_Bool (eqb rule 6)) [ inl is ↦ rw is (h6 (omega (arith, eqb-true rule 6 is, low))) | inr other ↦ rw other (elim (cases_Bool (eqb rule 7)) [ inl is ↦ rw is (h7 (omega (arith, eqb-true rule 7 is, low))) | inr other ↦ rw other (elim (cases_Bool (eqb rule 8)) [ inl is ↦ rw is (h8 (omega (arith, eqb-true rule 8 is, low))) | inr other ↦ rw other refl ]) ]) ]) ]) ]) ]) ]

-- the rule of this number is the first whose test holds, where one does
abbrev IsLeastOf : Bool → Bool → Bool → Bool → Bool → Bool → Bool → Option ℕ → Type 0
IsLeastOf order flags codes select size rise capacity None = (rule : ℕ) → test_of rule order flags codes select size rise capacity ≡ false
IsLeastOf order flags codes select size rise capacity (Some rule) = (test_of rule order flags codes select size rise capacity ≡ true) × ((lower : ℕ) → lower < rule → test_of lower order flags codes select size rise capacity ≡ false)

least_is : (order flags codes select size rise capacity : Bool) → IsLeastOf order flags codes select size rise capacity (least_of order flags codes select size rise capacity)
least_is true flags codes select size rise capacity = (refl, λ lower low. lower_fail 2 lower true flags codes select size rise capacity low (λ h. absurd (omega arith)) (λ h. absurd (omega arith)) (λ h. absurd (omega arith)) (λ h. absurd (omega arith)) (λ h. absurd (omega arith)) (λ h. absurd (omega arith)) (λ h. absurd (omega arith)))
least_is false true codes select size rise capacity = (refl, λ lower low. lower_fail 3 lower false true codes select size rise capacity low (λ _. refl) (λ h. absurd (omega arith)) (λ h. absurd (omega arith)) (λ h. absurd (omega arith)) (λ h. absurd (omega arith)) (λ h. absurd (omega arith)) (λ h. absurd (omega arith)))
least_is false false true select size rise capacity = (refl, λ lower low. lower_fail 4 lower false false true select size rise capacity low (λ _. refl) (λ _. refl) (λ h. absurd (omega arith)) (λ h. absurd (omega arith)) (λ h. absurd (omega arith)) (λ h. absurd (omega arith)) (λ h. absurd (omega arith)))
least_is false false false true size rise capacity = (refl, λ lower low. lower_fail 5 lower false false false true size rise capacity low (λ _. refl) (λ _. refl) (λ _. refl) (λ h. absurd (omega arith)) (λ h. absurd (omega arith)) (λ h. absurd (omega arith)) (λ h. absurd (omega arith)))
least_is false false false false true rise capacity = (refl, λ lower low. lower_fail 6 lower false false false false true rise capacity low (λ _. refl) (λ _. refl) (λ _. refl) (λ _. refl) (λ h. absurd (omega arith)) (λ h. absurd (omega arith)) (λ h. absurd (omega arith)))
least_is false false false false false true capacity = (refl, λ lower low. lower_fail 7 lower false false false false false true capacity low (λ _. refl) (λ _. refl) (λ _. refl) (λ _. refl) (λ _. refl) (λ h. absurd (omega arith)) (λ h. absurd (omega arith)))
least_is false false false false false false true = (refl, λ lower low. lower_fail 8 lower false false false false false false true low (λ _. refl) (λ _. refl) (λ _. refl) (λ _. refl) (λ _. refl) (λ _. refl) (λ h. absurd (omega arith)))
least_is false false false false false false false = λ rule. lower_fail (rule + 1) rule false false false false false false false (omega arith) (λ _. refl) (λ _. refl) (λ _. refl) (λ _. refl) (λ _. refl) (λ _. refl) (λ _. refl)

by_tests : (block : Registers) (ram pmem i : ℕ) (order flags codes select size rise capacity : Bool) (o : Option ℕ)
    → ((rule : ℕ) → breaks rule block ram pmem i ≡ test_of rule order flags codes select size rise capacity) → IsLeastOf order flags codes select size rise capacity o → IsLeastAt block ram pmem i o
by_tests block ram pmem i order flags codes select size rise capacity None e h = λ rule. e rule ∙ h rule
by_tests block ram pmem i order flags codes select size rise capacity (Some rule) e h = record { broken = e rule ∙ h.0; rules = λ lower low. e lower ∙ h.1 lower low }

-- at decoder i, with what stands before it
pub least_here : (block : Registers) (ram pmem i : ℕ) (d : Decoder) (below : Option Decoder) (taken : ℕ)
    → slice_get block.decoders i ≡ Some d → below ≡ before block.decoders i → taken ≡ sum_by span_step (take i block.decoders)
    → IsLeastAt block ram pmem i (least_rule block ram pmem below (taken + d.tail) d)
least_here block ram pmem i d below taken at below_is taken_is =
    by_tests block ram pmem i (breaks_commit_order block below d) (breaks_flags d) (breaks_codes block d) (breaks_select block d) (breaks_size block d)
    (breaks_base_order below d) (breaks_capacity block ram pmem (taken + d.tail) d) (least_rule block ram pmem below (taken + d.tail) d)
    (λ rule. tells_here rule block ram pmem i d below taken
    (test_of rule (breaks_commit_order block below d) (breaks_flags d) (breaks_codes block d) (breaks_select block d) (breaks_size block d)
    (breaks_base_order below d) (breaks_capacity block ram pmem (taken + d.tail) d))
    at below_is taken_is refl)
    (least_is (breaks_commit_order block below d) (breaks_flags d) (breaks_codes block d) (breaks_select block d) (breaks_size block d)
    (breaks_base_order below d) (breaks_capacity block ram pmem (taken + d.tail) d))

-- at decoder i of a port, which has no span, wherever one would start
pub least_of_port : (block : Registers) (ram pmem i : ℕ) (d : Decoder) (below : Option Decoder) (start : ℕ) → block.endpoint ≡ false
    → slice_get block.decoders i ≡ Some d → below ≡ before block.decoders i → IsLeastAt block ram pmem i (least_rule block ram pmem below start d)
least_of_port block ram pmem i d below start port at below_is =
    let taken : ℕ = sum_by span_step (take i block.decoders) in
    let none : breaks_capacity block ram pmem (taken + d.tail) d ≡ false = rw port refl in
    let other : breaks_capacity block ram pmem start d ≡ false = rw port refl in
    subst (λ (b : Bool). IsLeastAt block ram pmem i (least_of (breaks_commit_order block below d) (breaks_flags d) (breaks_codes block d) (breaks_select block d) (breaks_size block d) (breaks_base_order below d) b))
    (none ∙ sym other) (least_here block ram pmem i d below taken at below_is refl)

-- of all decoders, where there are no others
pub none_of_all : (block : Registers) (ram pmem n : ℕ) (o : Option BlockBreach) → length block.decoders ≤ n → IsFoundBelow block ram pmem n o
    → IsNone o ↔ BlockKeeps block ram pmem
none_of_all block ram pmem n None all found =
    ((λ _. record { each = λ rule i. elim (cases_lt i n) [ inl below ↦ found rule i below | inr past ↦ breaks_past rule block ram pmem i (omega arith) ] }), (λ _. refl))
none_of_all block ram pmem n (Some b) all found =
    ((λ none. cc), (λ keeps. let kept = keeps.each b.rule b.decoder in let broken = found.broken in cc))

pub first_of_all : (block : Registers) (ram pmem n : ℕ) (o : Option BlockBreach) → length block.decoders ≤ n → IsFoundBelow block ram pmem n o
    → IfSome o (λ b. IsFirstBlockBreach block ram pmem b.rule b.decoder)
first_of_all block ram pmem n None all found = tt
first_of_all block ram pmem n (Some b) all found = record {
  broken = found.broken;
  rules = λ lower i low. elim (cases_lt i n) [ inl below ↦ found.rules lower i low below | inr past ↦ breaks_past lower block ram pmem i (omega arith) ];
  decoders = found.decoders;
}
