use Rattle.std.proofs.Common.{◌≡◌, ◌-◌, List, ℕ, [], ◌∷◌, ◌++◌, take, drop, ap, ◌∙◌, arith}
use Rattle.std.proofs.lemmas.List.{drop_all}
use Rattle.std.proofs.lemmas.Slice.{between_to_end}
use Rattle.cxl_io.specs.Printed.{hex_of}
use Rattle.cxl_text.proofs.slots.put_start.Goals as goal

pub returns-clause-text : goal.returns-clause-text
returns-clause-text c =
    let none : drop 61 c.args.text.now ≡ [] = drop_all 61 c.args.text.now (omega (arith, c.told-text)) in
    let end : drop c.put_before-end.result c.put_before-end.new.text ≡ 10 ∷ [] = c.put_before-end.ensures.text ∙ ap (λ (t : List ℕ). 10 ∷ t) none in
    let written = c.write_hex-first.new.text in
    let first = c.write_hex-first.result in
    let digits : take (16 - first) (drop first written) ≡ hex_of c.args.start =
    between_to_end written first 16 (omega (arith, c.write_hex-first.array_long)) ∙ c.write_hex-first.ensures.written in
    c.put_before.ensures.text
    ∙ ap (λ (t : List ℕ). 32 ∷ 48 ∷ 120 ∷ t)
    (c.put_before-at.ensures.text ∙ ap (λ (t : List ℕ). take (16 - first) (drop first written) ++ t) end
    ∙ ap (λ (t : List ℕ). t ++ 10 ∷ []) digits)
