-- Names that are read one after the other.
use Rattle.std.proofs.Common.{◌≡◌, ℕ, Bool, true, false, cond, List, [], ◌∷◌, ◌++◌, Result, Ok, Err, refl, sym, ap, ◌∙◌, append_assoc}
use Rattle.cxl_enc.specs.Name.{is_name}
use Rattle.cxl_script.specs.declared.fault.BadLine.{BadLine}
use Rattle.cxl_script.specs.declared.fault.Why.TheVariants as whys
use Rattle.cxl_script.specs.Words.{Word}
use Rattle.cxl_script.specs.Reading.{word_as_name, bad}
use Rattle.cxl_script.specs.Grammar.{name_onto, names_in}

-- names in front of those that are read
abbrev pub behind_names : List (List ℕ) → Result (List (List ℕ)) BadLine → Result (List (List ℕ)) BadLine
behind_names front (Ok names) = Ok (front ++ names)
behind_names front (Err fault) = Err fault

behind_names-push : (front : List (List ℕ)) (name : List ℕ) (r : Result (List (List ℕ)) BadLine) → behind_names front (name_onto name r) ≡ behind_names (front ++ name ∷ []) r
behind_names-push front name (Ok names) = ap Ok (sym (append_assoc front (name ∷ []) names))
behind_names-push front name (Err fault) = refl

-- what the next word is, by whether it is a name
next_name : (at : ℕ) (text name : List ℕ) (rest : List Word) (named : Bool) → cond named (Ok text) (bad at whys.Name) ≡ Ok name → cond named (name_onto text (names_in rest)) (bad at whys.Name) ≡ name_onto name (names_in rest)
next_name at text name rest true e = let same : text ≡ name = cc in ap (λ n. name_onto n (names_in rest)) same
next_name at text name rest false e = cc

-- one name more
pub one_more : (all : Result (List (List ℕ)) BadLine) (front : List (List ℕ)) (at : ℕ) (text name : List ℕ) (words rest : List Word) → all ≡ behind_names front (names_in words) → words ≡ record { at = at; text = text } ∷ rest → word_as_name (record { at = at; text = text }) ≡ Ok name → all ≡ behind_names (front ++ name ∷ []) (names_in rest)
one_more all front at text name words rest so_far next e =
    so_far ∙ ap (λ ws. behind_names front (names_in ws)) next
    ∙ ap (behind_names front) (next_name at text name rest (is_name text) e) ∙ behind_names-push front name (names_in rest)
