use Rattle.std.proofs.Common.{◌≡◌, ◌<◌, Some, sym, ap, ◌∙◌, arith}
use Rattle.std.proofs.lemmas.Option.{same_Some}
use Rattle.cxl_topo.specs.declared.node.Parent.{Parent}
use Rattle.cxl_topo.specs.Tree.{parent_of}
use Rattle.cxl_legal.proofs.ports.port_is_byte.Goals as goal

pub returns-in-Some : goal.returns-in-Some
returns-in-Some c parent up =
    let here : parent_of c.args.topo.now.nodes c.args.node ≡ Some c.in-Some.parent = rw c.node.ensures c.in-Some.is in
    let one : c.in-Some.parent ≡ parent = same_Some c.in-Some.parent parent (sym here ∙ up) in
    let port : c.in-Some.parent.port ≡ parent.port = ap (λ (p : Parent). p.port) one in
    let byte : c.in-Some.parent.port < 256 = c.is_byte.ensures in
    omega arith
