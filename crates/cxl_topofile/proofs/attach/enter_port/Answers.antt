use Rattle.std.proofs.Common.{◌≡◌, ◌∙◌, cond, length, Some, sym, ap, subst, arith}
use Rattle.std.specs.Option.{unwrap_or}
use Rattle.std.specs.HashMap.{get}
use Rattle.std.specs.HashMap.Entry.{map_with_value}
use Rattle.cxl_topo.specs.declared.tables.NameKey.{NameKey}
use Rattle.cxl_topo.specs.Keys.{name_eq}
use Rattle.cxl_topofile.proofs.Attaching.{port_entered}
use Rattle.cxl_topofile.proofs.attach.enter_port.Goals as goal

pub returns : goal.returns
returns c = λ name is.
    let entry = c.in_ok-entry.entry in
    let value = c.or_insert.result.now in
    let old = c.args.ports.now in
    let is_value = subst (λ (key : NameKey). value ≡ unwrap_or (get name_eq old key) (length c.args.earlier.now)) c.of.ensures.key (c.or_insert.ensures.value ∙ ap (λ found. unwrap_or found (length c.args.earlier.now)) c.in_ok-entry.ensures.value) in
    let updates = subst (λ (key : NameKey). (q : NameKey) → get name_eq (map_with_value entry value) q ≡ cond (name_eq key q) (Some value) (get name_eq old q)) c.of.ensures.key (c.in_ok-entry.ensures.update.0 value).0 in
    let entered = port_entered c.args.earlier.now c.args.node.now old c.requires.listed (map_with_value entry value) value c.of.ensures.name (sym c.may_be_parent.ensures ∙ c.if-not-may_be_parent.false) is_value updates name is in
    grind (arith, entered)
