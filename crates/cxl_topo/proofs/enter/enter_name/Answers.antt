use Rattle.std.proofs.Common.{◌≡◌, ℕ, cond, Option, None, Some, false, is_some, refl, sym, ap, subst, ◌∙◌}
use Rattle.std.specs.HashMap as hash
use Rattle.std.proofs.lemmas.Bool.{false≢true}
use Rattle.std.proofs.lemmas.Option.{get_or_from_slice_get}
use Rattle.cxl_topo.specs.declared.tables.NameKey.{NameKey}
use Rattle.cxl_topo.specs.Keys.{name_eq, name_key}
use Rattle.cxl_topo.proofs.Entering.{name_entered}
use Rattle.cxl_topo.proofs.enter.enter_name.Goals as goal

none : (o : Option ℕ) → is_some o ≡ false → o ≡ None
none None is = refl
none (Some x) is = absurd (false≢true (sym is))

pub returns : goal.returns
returns c =
    let node = c.args.node.now in
    let old = c.args.table.now in
    let new = c.insert.new.self in
    let was : c.in_ok-earlier.earlier ≡ hash.get name_eq old (name_key node.name) = rw c.of.ensures.key at c.in_ok-earlier.ensures.old in
    let updates = subst (λ (key : NameKey). (q : NameKey) → hash.get name_eq new q ≡ cond (name_eq key q) (Some c.args.i) (hash.get name_eq old q)) c.of.ensures.key c.in_ok-earlier.ensures.updates.0 in
    record {
      taken = c.is_some.ensures ∙ ap is_some (was ∙ c.requires.listed node.name c.of.ensures.name);
      entered = λ free. name_entered c.args.nodes.now c.args.i node c.requires.below (sym (get_or_from_slice_get c.args.nodes.now c.args.i node node c.requires.here)) c.of.ensures.name old new c.requires.listed (sym was ∙ none c.in_ok-earlier.earlier (sym c.is_some.ensures ∙ free)) updates;
    }
