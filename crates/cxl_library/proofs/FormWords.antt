-- A number among the words of a form is read as the same number.
use Rattle.std.proofs.Common.{◌≡◌, ℕ, ◌^◌, ◌<◌, List, [], ◌∷◌, Ok, ap, ◌∙◌}
use Rattle.std.specs.Prelude.{codes, decimal}
use Rattle.cxl_commands.specs.Form.{Route, form_of, route_to, gen_of}
use Rattle.cxl_io.proofs.ReadBack.{number_of-decimal}
use Rattle.cxl_reads.specs.Answers.{table_name}

pub form_of-route : (n : ℕ) → n < 2 ^ 64 → (text : List ℕ) → text ≡ decimal n → (words : List (List ℕ)) → words ≡ codes "route" ∷ table_name ∷ text ∷ []
    → form_of words ≡ Route table_name n
form_of-route n fits text is words e =
    ap form_of (e ∙ ap (λ t. codes "route" ∷ table_name ∷ t ∷ []) is) ∙ ap (route_to table_name) (number_of-decimal n fits)

pub form_of-gen : (n : ℕ) → n < 2 ^ 64 → (text : List ℕ) → text ≡ decimal n → (words : List (List ℕ)) → words ≡ codes "gen" ∷ text ∷ []
    → form_of words ≡ gen_of (Ok n)
form_of-gen n fits text is words e = ap form_of (e ∙ ap (λ t. codes "gen" ∷ t ∷ []) is) ∙ ap gen_of (number_of-decimal n fits)
