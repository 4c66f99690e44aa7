use Rattle.std.proofs.Common.{Vec, Global, ℕ, [], ◌∷◌, ◌++◌, codes, ap, sym, ◌∙◌, append_assoc}
use Rattle.cxl_topofile.specs.Places.{place_text}
use Rattle.cxl_inputs.proofs.topology.place_line.Goals as goal

pub returns : goal.returns
returns c =
    let word = c.args.word.now in
    let place = place_text c.args.place in
    let joined = append_assoc (word ++ codes " ") place (10 ∷ []) ∙ append_assoc word (codes " ") (place ++ 10 ∷ []) in
    ap (λ (v : Vec ℕ Global). v.items) c.into_bytes.ensures.value ∙ c.in_ok-text.ensures.ok ∙ ap (λ t. codes "error: topology " ++ t) (sym joined)
