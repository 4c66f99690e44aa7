-- Words that are too few or too many for a form, or as many as it has.
use Rattle.std.proofs.Common.{◌≡◌, ◌<◌, ◌≤◌, true, Option, Some, None, List, [], ◌∷◌, ℕ, length, get_or, String, refl, arith}
use Rattle.std.specs.Prelude.{string_bytes}
use Rattle.std.specs.declared.alloc.Global.{Global}
use Rattle.cxl_script.specs.declared.command.Create.{Create}
use Rattle.cxl_commands.specs.Form.{Unreadable, route_form, check_form, create_on_line, plan_form_over, plan_form, gen_form, takes_memory}
use Rattle.cxl_commands.specs.Words.{bytes_of}

pub route_form-few : (words : List (String Global)) → length words < 2 → Unreadable ≡ route_form (bytes_of words)
route_form-few [] few = refl
route_form-few (v ∷ []) few = refl
route_form-few (v ∷ w ∷ ws) few = absurd (omega arith)

pub route_form-many : (words : List (String Global)) → 3 ≤ length words → Unreadable ≡ route_form (bytes_of words)
route_form-many [] many = refl
route_form-many (v ∷ []) many = refl
route_form-many (v ∷ w ∷ []) many = absurd (omega arith)
route_form-many (v ∷ w ∷ x ∷ ws) many = refl

pub check_form-few : (words : List (String Global)) → length words < 3 → Unreadable ≡ check_form (bytes_of words)
check_form-few [] few = refl
check_form-few (u ∷ []) few = refl
check_form-few (u ∷ v ∷ []) few = refl
check_form-few (u ∷ v ∷ w ∷ ws) few = absurd (omega arith)

pub check_form-many : (words : List (String Global)) → 4 ≤ length words → Unreadable ≡ check_form (bytes_of words)
check_form-many [] many = refl
check_form-many (u ∷ []) many = refl
check_form-many (u ∷ v ∷ []) many = refl
check_form-many (u ∷ v ∷ w ∷ []) many = absurd (omega arith)
check_form-many (u ∷ v ∷ w ∷ x ∷ ws) many = refl

pub plan_form-few : (words : List (String Global)) → length words < 3 → Unreadable ≡ plan_form (bytes_of words)
plan_form-few [] few = refl
plan_form-few (u ∷ []) few = refl
plan_form-few (u ∷ v ∷ []) few = refl
plan_form-few (u ∷ v ∷ w ∷ ws) few = absurd (omega arith)

pub plan_form-many : (words : List (String Global)) → 4 ≤ length words → Unreadable ≡ plan_form (bytes_of words)
plan_form-many [] many = refl
plan_form-many (u ∷ []) many = refl
plan_form-many (u ∷ v ∷ []) many = refl
plan_form-many (u ∷ v ∷ w ∷ []) many = absurd (omega arith)
plan_form-many (u ∷ v ∷ w ∷ x ∷ ws) many = refl

-- by its three words
pub plan_form-three : (words : List (String Global)) (cedt topo line : String Global) → 3 ≤ length words → length words < 4
    → cedt ≡ get_or words 0 cedt → topo ≡ get_or words 1 topo → line ≡ get_or words 2 line
    → plan_form (bytes_of words) ≡ plan_form_over (string_bytes cedt) (string_bytes topo) (create_on_line (string_bytes line))
plan_form-three [] cedt topo line some few first second third = absurd (omega arith)
plan_form-three (u ∷ []) cedt topo line some few first second third = absurd (omega arith)
plan_form-three (u ∷ v ∷ []) cedt topo line some few first second third = absurd (omega arith)
plan_form-three (u ∷ v ∷ w ∷ []) cedt topo line some few first second third = rw (first, second, third) refl
plan_form-three (u ∷ v ∷ w ∷ x ∷ ws) cedt topo line some few first second third = absurd (omega arith)

-- it takes memory, whatever its line asks for
pub plan_takes_memory : (cedt topo : List ℕ) (create : Option Create) → takes_memory (plan_form_over cedt topo create) ≡ true
plan_takes_memory cedt topo None = refl
plan_takes_memory cedt topo (Some create) = refl

pub gen_form-few : (words : List (String Global)) → length words < 1 → Unreadable ≡ gen_form (bytes_of words)
gen_form-few [] few = refl
gen_form-few (v ∷ ws) few = absurd (omega arith)

pub gen_form-many : (words : List (String Global)) → 2 ≤ length words → Unreadable ≡ gen_form (bytes_of words)
gen_form-many [] many = refl
gen_form-many (v ∷ []) many = absurd (omega arith)
gen_form-many (v ∷ w ∷ ws) many = refl
