use Rattle.std.proofs.Common.{◌≡◌, false, sym, ap, ◌∙◌}
use Rattle.std.specs.Str.{bytes_eq}
use Rattle.std.proofs.lemmas.Option.{same_Some}
use Rattle.cxl_model.specs.declared.found.Found.{Found}
use Rattle.cxl_session.proofs.Pairs.{are_two}
use Rattle.cxl_session.proofs.session.Session.two_places.Goals as goal

pub returns : goal.returns
returns c = λ m stands.
    let one = c.in-Some.ensures.named m stands in
    let two = c.in-Some-place_of_name.ensures.named m stands in
    let apart : bytes_eq c.args.pair.now.from c.args.pair.now.to ≡ false = sym c.is_same.ensures ∙ c.if-is_same.false in
    let first = same_Some c.found_at.result.now one.0.found (sym c.found_at.ensures ∙ one.2.found) in
    let second = same_Some c.found_at-2.result.now two.0.found (sym c.found_at-2.ensures ∙ two.2.found) in
    let size : one.0.found.size ≡ two.0.found.size = sym (ap (λ (f : Found). f.size) first) ∙ c.if-from-to.false ∙ ap (λ (f : Found). f.size) second in
    are_two c.args.self.now m c.args.pair.now c.in-Some.first c.in-Some-place_of_name.second one.0 two.0 one.1 two.1 one.2 two.2 apart size
