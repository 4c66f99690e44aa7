use Rattle.std.proofs.Common.{◌≡◌, ℕ, suc, ◌+◌, ◌/◌, ◌^◌, List, get_or, set, sym, ap, subst, ◌∙◌, add-one, arith}
use Rattle.std.specs.FinMap.{insert}
use Rattle.cxl_media.specs.Blocks.{Key}
use Rattle.cxl_media.specs.declared.zones.Node.{Node}
use Rattle.cxl_media.specs.Zones.{zone_home, put_before, AreZoned}
use Rattle.cxl_media.proofs.Homes.{home_below}
use Rattle.cxl_media.proofs.Zoned.{added_zoned}
use Rattle.cxl_media.proofs.zones.Zones.add.Goals as goal

pub get-next-requires : goal.get-next-requires
get-next-requires c = omega (arith, c.home-place.ensures, home_below c.args.self.now.homes (c.args.ep, c.args.number / 2 ^ 20) c.requires.some, c.requires.size)

pub set-requires : goal.set-requires
set-requires c = omega (arith, c.home-place.ensures, home_below c.args.self.now.homes (c.args.ep, c.args.number / 2 ^ 20) c.requires.some, c.requires.size)

pub returns-clause-zoned : goal.returns-clause-zoned
returns-clause-zoned c frames zoned absent fresh =
    let homes : ℕ = c.args.self.now.homes in
    let firsts : List ℕ = c.args.self.now.firsts in
    let f : ℕ = c.args.frame in
    let q : Key = (c.args.ep, c.args.number) in
    let made : List Node = c.make.new.nodes.items in
    let at : c.home-place.result ≡ zone_home homes q = c.home-place.ensures in
    let first : c.get-next.result ≡ get_or firsts (zone_home homes q) 0 = c.get-next.ensures ∙ ap (λ k. get_or firsts k 0) at in
    let node : ℕ → Node = λ k. record { number = c.args.number; ep = c.args.ep; next = k; before = 0 } in
    let firsts_are : c.set.new.self ≡ set firsts (zone_home homes q) (suc f) = c.set.ensures ∙ ap (λ k. set firsts k (f + 1)) at ∙ ap (set firsts (zone_home homes q)) (add-one f) in
    let nodes_are : c.set_node.new.nodes.items ≡ set (put_before made (get_or firsts (zone_home homes q) 0) (suc f)) f (node (get_or firsts (zone_home homes q) 0)) =
    c.set_node.ensures.nodes
    ∙ ap (λ ns. set ns f (node c.get-next.result)) (c.set_before.ensures.nodes ∙ ap (put_before made c.get-next.result) (add-one f))
    ∙ ap (λ (k : ℕ). set (put_before made k (suc f)) f (node k)) first in
    subst (λ (fs : List ℕ). AreZoned (insert frames q f) homes fs c.set_node.new.nodes.items) (sym firsts_are)
    (subst (λ (ns : List Node). AreZoned (insert frames q f) homes (set firsts (zone_home homes q) (suc f)) ns) (sym nodes_are)
    (added_zoned frames homes firsts c.args.self.now.nodes.items made zoned f q absent fresh c.requires.some c.make.ensures.same c.make.ensures.more c.make.ensures.within))
