use Rattle.std.proofs.Common.{◌≡◌, ℕ, List, length, Some, None, refl, sym, ap, ◌∙◌, arith}
use Rattle.std.specs.Prelude.{position, option_map}
use Rattle.std.specs.Str.{bytes_eq}
use Rattle.cxl_reply.specs.declared.reply.Reply.TheVariants as replies
use Rattle.cxl_session.specs.Inside.{job_fields}
use Rattle.cxl_session.specs.State.{SessionState}
use Rattle.cxl_session.proofs.AskedCreates.{refused_by, idle_is, taken_is, free_is, full_is, room_is}
use Rattle.cxl_session.proofs.session.Session.early_refusal.Goals as goal

pub returns-then-is_some : goal.returns-then-is_some
returns-then-is_some c = λ m stands.
    let idle : c.args.self.now.job ≡ None = ap (λ (s : SessionState). s.job) (sym c.self.view_is) ∙ ap (option_map job_fields) c.in_default.is in
    let placed : c.place_among.result ≡ position (λ own. bytes_eq own c.args.create.now.name) c.args.self.now.names =
    c.place_among.ensures ∙ ap (position (λ (own : List ℕ). bytes_eq own c.args.create.now.name)) (c.deref.ensures.value ∙ ap (λ (s : SessionState). s.names) c.self.view_is) in
    sym
    (refused_by m c.args.create.now None (Some (replies.NameTaken c.args.create.now.name)) _ _ (idle_is c.args.self.now m stands idle)
    (taken_is c.args.self.now m stands c.args.create.now.name c.place_among.result placed (sym c.is_some.ensures ∙ c.if-is_some.true)) refl refl)

-- an endpoint is not there
pub returns-in-Some-unknown_endpoint : goal.returns-in-Some-unknown_endpoint
returns-in-Some-unknown_endpoint c = λ m stands.
    let idle : c.args.self.now.job ≡ None = ap (λ (s : SessionState). s.job) (sym c.self.view_is) ∙ ap (option_map job_fields) c.in_default.is in
    let placed : c.place_among.result ≡ position (λ own. bytes_eq own c.args.create.now.name) c.args.self.now.names =
    c.place_among.ensures ∙ ap (position (λ (own : List ℕ). bytes_eq own c.args.create.now.name)) (c.deref.ensures.value ∙ ap (λ (s : SessionState). s.names) c.self.view_is) in
    sym
    (refused_by m c.args.create.now None None (Some c.in-Some-unknown_endpoint.refusal) _ (idle_is c.args.self.now m stands idle)
    (free_is c.args.self.now m stands c.args.create.now.name c.place_among.result placed (sym c.is_some.ensures ∙ c.if-is_some.false))
    (sym (c.in-Some-unknown_endpoint.ensures m stands)) refl)

-- nothing stands against it
pub returns-then-len-lt-REGION_LIMIT : goal.returns-then-len-lt-REGION_LIMIT
returns-then-len-lt-REGION_LIMIT c = λ m stands.
    let idle : c.args.self.now.job ≡ None = ap (λ (s : SessionState). s.job) (sym c.self.view_is) ∙ ap (option_map job_fields) c.in_default.is in
    let placed : c.place_among.result ≡ position (λ own. bytes_eq own c.args.create.now.name) c.args.self.now.names =
    c.place_among.ensures ∙ ap (position (λ (own : List ℕ). bytes_eq own c.args.create.now.name)) (c.deref.ensures.value ∙ ap (λ (s : SessionState). s.names) c.self.view_is) in
    record {
      idle = idle_is c.args.self.now m stands idle;
      free = free_is c.args.self.now m stands c.args.create.now.name c.place_among.result placed (sym c.is_some.ensures ∙ c.if-is_some.false);
      known = sym (c.in_default-unknown_endpoint.ensures m stands);
      room = room_is c.args.self.now m stands (omega (arith, c.if-len-lt-REGION_LIMIT.true, c.len.ensures, ap (λ (s : SessionState). length s.names) c.self.view_is));
    }

-- the regions are full
pub returns : goal.returns
returns c = λ m stands.
    let idle : c.args.self.now.job ≡ None = ap (λ (s : SessionState). s.job) (sym c.self.view_is) ∙ ap (option_map job_fields) c.in_default.is in
    let placed : c.place_among.result ≡ position (λ own. bytes_eq own c.args.create.now.name) c.args.self.now.names =
    c.place_among.ensures ∙ ap (position (λ (own : List ℕ). bytes_eq own c.args.create.now.name)) (c.deref.ensures.value ∙ ap (λ (s : SessionState). s.names) c.self.view_is) in
    sym
    (refused_by m c.args.create.now None None None (Some replies.RegionsFull) (idle_is c.args.self.now m stands idle)
    (free_is c.args.self.now m stands c.args.create.now.name c.place_among.result placed (sym c.is_some.ensures ∙ c.if-is_some.false))
    (sym (c.in_default-unknown_endpoint.ensures m stands))
    (full_is c.args.self.now m stands (omega (arith, c.if-len-lt-REGION_LIMIT.false, c.len.ensures, ap (λ (s : SessionState). length s.names) c.self.view_is))))
