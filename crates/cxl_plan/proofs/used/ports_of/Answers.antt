use Rattle.std.proofs.Common.{◌≡◌, ℕ, Vec, Global, Some, sym, ap, ◌∙◌, arith}
use Rattle.std.specs.Prelude.{slice_get}
use Rattle.std.proofs.lemmas.Option.{slice_get-get_or}
use Rattle.cxl_plan.specs.inner.Uses.{ports_at}
use Rattle.cxl_plan.proofs.used.ports_of.Goals as goal

pub returns : goal.returns
returns c =
    let tables = c.args.uses.now.ports.items in
    let own : Vec ℕ Global = c.index.result.now in
    let place : ℕ = c.place_of.result in
    let count = c.requires.uses.ports.count in
    let within = c.place_of.ensures.within in
    let there : slice_get tables place ≡ Some own = slice_get-get_or tables place own (omega (arith, count, within)) ∙ ap Some (sym c.index.ensures) in
    c.as_slice.ensures.value ∙ c.requires.uses.ports.each place own there ∙ ap (ports_at c.args.topo.now.nodes c.args.request.now) c.place_of.ensures.node
