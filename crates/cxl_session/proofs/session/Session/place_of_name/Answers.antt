use Rattle.std.proofs.Common.{◌≡◌, ℕ, List, ap, ◌∙◌}
use Rattle.std.specs.Prelude.{position}
use Rattle.std.specs.Str.{bytes_eq}
use Rattle.cxl_session.specs.State.{SessionState}
use Rattle.cxl_session.proofs.Places.{named_at}
use Rattle.cxl_session.proofs.session.Session.place_of_name.Goals as goal

pub returns-clause-named : goal.returns-clause-named
returns-clause-named c = λ m stands.
    let names : c.deref.result.now ≡ c.args.self.now.names = cc (ap (λ (s : SessionState). s.names) c.self.view_is) in
    named_at c.args.self.now m c.args.name.now stands c.place_among.result (c.place_among.ensures ∙ ap (position (λ (own : List ℕ). bytes_eq own c.args.name.now)) names)
