use Rattle.std.proofs.Common.{◌≡◌, ℕ, List, Some, None, sym, ap, ◌∙◌}
use Rattle.std.specs.Prelude.{find, is_none}
use Rattle.cxl_machine.specs.Replies.{endpoint_named}
use Rattle.cxl_session.specs.State.{SessionState}
use Rattle.cxl_session.proofs.AskedCreates.{unknown_is}
use Rattle.cxl_session.proofs.session.Session.unknown_endpoint.Goals as goal

pub returns-in-Some : goal.returns-in-Some
returns-in-Some c = λ m stands.
    let unknown : c.first_unknown.result ≡ find (λ name. is_none (endpoint_named c.args.self.now.topo.nodes name)) c.args.create.now.endpoints =
    c.first_unknown.ensures ∙ ap (find (λ (name : List ℕ). is_none (endpoint_named c.self.inside.topo.nodes name))) c.items.ensures
    ∙ ap (λ (s : SessionState). find (λ name. is_none (endpoint_named s.topo.nodes name)) c.args.create.now.endpoints) c.self.view_is in
    sym (unknown_is c.args.self.now m stands c.args.create.now.endpoints (Some c.in-Some.name) (sym c.in-Some.is ∙ unknown))

pub returns-in-None : goal.returns-in-None
returns-in-None c = λ m stands.
    let unknown : c.first_unknown.result ≡ find (λ name. is_none (endpoint_named c.args.self.now.topo.nodes name)) c.args.create.now.endpoints =
    c.first_unknown.ensures ∙ ap (find (λ (name : List ℕ). is_none (endpoint_named c.self.inside.topo.nodes name))) c.items.ensures
    ∙ ap (λ (s : SessionState). find (λ name. is_none (endpoint_named s.topo.nodes name)) c.args.create.now.endpoints) c.self.view_is in
    sym (unknown_is c.args.self.now m stands c.args.create.now.endpoints None (sym c.in-None.is ∙ unknown))
