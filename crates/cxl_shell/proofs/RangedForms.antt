-- What words ask for is ranged: what the line of a plan states as a granularity is a code of the table, and the number of a generated system is one.
use Rattle.std.proofs.Common.{◌≡◌, ℕ, Bool, true, false, List, [], ◌∷◌, Option, Some, None, IfSome, Result, Ok, Err, IfOk, refl}
use Rattle.std.proofs.lemmas.Bool.{and_parts, leb-true}
use Rattle.std.specs.Prelude.{if◌then◌else◌, ◌&&◌, nat_le, codes, bytes_eq}
use Rattle.cxl_io.specs.Numbers.{number_of}
use Rattle.cxl_io.specs.declared.number.NumFault.{NumFault}
use Rattle.cxl_script.specs.Grammar.{asked_in, StatesGranCode, StatesGranCodes}
use Rattle.cxl_script.specs.declared.command.Command.{Command}
use Rattle.cxl_script.specs.declared.command.Command.TheVariants as commands
use Rattle.cxl_script.specs.declared.command.Create.{Create}
use Rattle.cxl_script.specs.declared.fault.BadLine.{BadLine}
use Rattle.cxl_commands.specs.Form.{Form, Gen, Help, Version, Unreadable, route_to, route_form, list_form, normal_form, check_form, create_asked, create_on_line, plan_form_over, plan_form, run_form, gen_of, gen_form, alone, form_of, IsRangedForm}

abbrev pub StateCodes : Type 0
StateCodes = (line : List ℕ) → IfOk (asked_in line) (λ asked. IfSome asked StatesGranCodes)

either : (b : Bool) (first second : Form) → IsRangedForm first → IsRangedForm second → IsRangedForm (if b then first else second)
either true first second one other = one
either false first second one other = other

routed_to : (file : List ℕ) (h : Result ℕ NumFault) → IsRangedForm (route_to file h)
routed_to file (Ok h) = tt
routed_to file (Err fault) = tt

route_words : (words : List (List ℕ)) → IsRangedForm (route_form words)
route_words [] = tt
route_words (file ∷ []) = tt
route_words (file ∷ address ∷ []) = routed_to file (number_of address)
route_words (file ∷ address ∷ word ∷ words) = tt

list_words : (words : List (List ℕ)) → IsRangedForm (list_form words)
list_words [] = tt
list_words (file ∷ []) = tt
list_words (file ∷ word ∷ words) = tt

normal_words : (words : List (List ℕ)) → IsRangedForm (normal_form words)
normal_words [] = tt
normal_words (file ∷ []) = tt
normal_words (file ∷ word ∷ words) = tt

check_words : (words : List (List ℕ)) → IsRangedForm (check_form words)
check_words [] = tt
check_words (cedt ∷ []) = tt
check_words (cedt ∷ topo ∷ []) = tt
check_words (cedt ∷ topo ∷ image ∷ []) = tt
check_words (cedt ∷ topo ∷ image ∷ word ∷ words) = tt

no_others : (form : Form) (words : List (List ℕ)) → IsRangedForm form → IsRangedForm (alone form words)
no_others form [] is = is
no_others form (word ∷ words) is = tt

of_command : (command : Command) → StatesGranCodes command → IfSome (create_asked (Ok (Some command))) StatesGranCode
of_command (commands.Create create) is = is
of_command other is = tt

asked_code : (asked : Result (Option Command) BadLine) → IfOk asked (λ some. IfSome some StatesGranCodes) → IfSome (create_asked asked) StatesGranCode
asked_code (Ok (Some command)) is = of_command command is
asked_code (Ok None) is = tt
asked_code (Err fault) is = tt

planned_over : (cedt topo : List ℕ) (create : Option Create) → IfSome create StatesGranCode → IsRangedForm (plan_form_over cedt topo create)
planned_over cedt topo (Some create) is = is
planned_over cedt topo None is = tt

plan_words : StateCodes → (words : List (List ℕ)) → IsRangedForm (plan_form words)
plan_words law [] = tt
plan_words law (cedt ∷ []) = tt
plan_words law (cedt ∷ topo ∷ []) = tt
plan_words law (cedt ∷ topo ∷ line ∷ []) = planned_over cedt topo (create_on_line line) (asked_code (asked_in line) (law line))
plan_words law (cedt ∷ topo ∷ line ∷ word ∷ words) = tt

run_words : (words : List (List ℕ)) → IsRangedForm (run_form words)
run_words [] = tt
run_words (cedt ∷ []) = tt
run_words (cedt ∷ topo ∷ []) = tt
run_words (cedt ∷ topo ∷ image ∷ []) = tt
run_words (cedt ∷ topo ∷ image ∷ word ∷ words) = tt

within : (n : ℕ) (b : Bool) → (nat_le 1 n && nat_le n 32) ≡ b → IsRangedForm (if b then Gen n else Unreadable)
within n true is = let both = and_parts (nat_le 1 n) (nat_le n 32) is in (leb-true 1 n both.0, leb-true n 32 both.1)
within n false is = tt

generated : (n : Result ℕ NumFault) → IsRangedForm (gen_of n)
generated (Ok n) = within n (nat_le 1 n && nat_le n 32) refl
generated (Err fault) = tt

gen_words : (words : List (List ℕ)) → IsRangedForm (gen_form words)
gen_words [] = tt
gen_words (number ∷ []) = generated (number_of number)
gen_words (number ∷ word ∷ words) = tt

pub form_is_ranged : StateCodes → (words : List (List ℕ)) → IsRangedForm (form_of words)
form_is_ranged law [] = tt
form_is_ranged law (word ∷ words) =
    either (bytes_eq word (codes "route")) _ _ (route_words words)
    (either (bytes_eq word (codes "list")) _ _ (list_words words)
    (either (bytes_eq word (codes "normal")) _ _ (normal_words words)
    (either (bytes_eq word (codes "check")) _ _ (check_words words)
    (either (bytes_eq word (codes "plan")) _ _ (plan_words law words)
    (either (bytes_eq word (codes "run")) _ _ (run_words words)
    (either (bytes_eq word (codes "gen")) _ _ (gen_words words)
    (either (bytes_eq word (codes "--help")) _ _ (no_others Help words tt)
    (either (bytes_eq word (codes "--version")) _ Unreadable (no_others Version words tt) tt))))))))
