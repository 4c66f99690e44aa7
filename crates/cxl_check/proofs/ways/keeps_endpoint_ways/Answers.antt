use Rattle.std.proofs.Common.{refl, sym, ◌∙◌}
use Rattle.cxl_model.specs.Hosts.{as_system}
use Rattle.cxl_check.proofs.ways.keeps_endpoint_ways.Goals as goal

pub returns-then-not-keeps_number : goal.returns-then-not-keeps_number
returns-then-not-keeps_number c =
    let s = as_system c.args.host.now in
    let number = sym (c.keeps_number.ensures s c.requires.facts) ∙ c.if-not-keeps_number.true in
    sym (rw number refl)

pub returns-then-not-keeps_kind : goal.returns-then-not-keeps_kind
returns-then-not-keeps_kind c =
    let s = as_system c.args.host.now in
    let number = sym (c.keeps_number.ensures s c.requires.facts) ∙ c.if-not-keeps_number.false in
    let kind = sym c.keeps_kind.ensures ∙ c.if-not-keeps_kind.true in
    sym (rw (number, kind) refl)

pub returns : goal.returns
returns c =
    let s = as_system c.args.host.now in
    let number = sym (c.keeps_number.ensures s c.requires.facts) ∙ c.if-not-keeps_number.false in
    let kind = sym c.keeps_kind.ensures ∙ c.if-not-keeps_kind.false in
    c.keeps_code.ensures s _ c.requires.facts ∙ sym (rw (number, kind) refl)
