-- Trails that are told, with no word more, one, and some after others.
use Rattle.std.proofs.Common.{◌≡◌, ℕ, List, [], ◌∷◌, ◌++◌, Option, Some, None, refl, sym, ap, ◌∙◌, append_assoc}
use Rattle.std.proofs.lemmas.List.{append-nil}
use Rattle.cxl_bus.specs.declared.sent.Sent.{Sent}
use Rattle.cxl_bus.specs.Trail.{trail_after, trail_with}

-- no word more
pub trail_nothing : (trail : Option (List Sent)) → trail ≡ trail_with trail []
trail_nothing None = refl
trail_nothing (Some sent) = ap (λ (words : List Sent). Some words) (sym (append-nil sent))

-- words, and one more
pub trail_more : (trail now : Option (List Sent)) (words : List Sent) (node off value : ℕ) → now ≡ trail_with trail words
    → trail_after now node off value ≡ trail_with trail (words ++ record { node = node; off = off; value = value } ∷ [])
trail_more None now words node off value is = ap (λ (t : Option (List Sent)). trail_after t node off value) is
trail_more (Some sent) now words node off value is =
    ap (λ (t : Option (List Sent)). trail_after t node off value) is ∙ ap (λ (all : List Sent). Some all) (append_assoc sent words (record { node = node; off = off; value = value } ∷ []))

-- words, and then others
pub trail_append : (trail : Option (List Sent)) (words more : List Sent) → trail_with (trail_with trail words) more ≡ trail_with trail (words ++ more)
trail_append None words more = refl
trail_append (Some sent) words more = ap (λ (all : List Sent). Some all) (append_assoc sent words more)
