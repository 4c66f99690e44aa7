use Rattle.std.proofs.Common.{◌≡◌, ◌≢◌, ℕ, ◌/◌, ◌^◌, List, set, sym, ap, subst, ◌∙◌, arith}
use Rattle.std.specs.FinMap.{remove}
use Rattle.cxl_media.specs.declared.zones.Node.{Node}
use Rattle.cxl_media.specs.declared.zones.Zones.{Zones}
use Rattle.cxl_media.specs.Zones.{node_at, key_of_node, zone_home, nexts, put_next, put_before, IsAhead, AreZoned}
use Rattle.cxl_media.proofs.Homes.{home_below}
use Rattle.cxl_media.proofs.Zoned.{removed_zoned, removed_met}
use Rattle.cxl_media.proofs.zones.Zones.remove.Goals as goal
use Rattle.cxl_media.proofs.zones.Zones.remove.Goals.{then-before-eq0, else-before-eq0}

pub set-requires : goal.set-requires
set-requires c =
    omega (arith, c.home.ensures, home_below c.args.self.now.homes (c.node_of-number.result.ep, c.node_of-number.result.number / 2 ^ 20) c.requires.some, c.requires.size)

node_is : (c : goal.After-set_before) → c.node_of-number.result ≡ node_at c.args.self.now.nodes.items c.args.frame
node_is c = c.node_of-number.ensures ∙ ap (λ (ns : List Node). node_at ns c.args.frame) c.deref.ensures.value

gone : (c : goal.After-set_before) → (node_at c.args.self.now.nodes.items c.args.frame).before ≡ 0
    → c.if-before-eq0.self.firsts ≡ set c.args.self.now.firsts (zone_home c.args.self.now.homes (key_of_node (node_at c.args.self.now.nodes.items c.args.frame))) (node_at c.args.self.now.nodes.items c.args.frame).next
gone c start =
    elim c.if-before-eq0.branch [
      | then-before-eq0 w ↦
          ap (λ (z : Zones). z.firsts) w.self-is ∙ w.set.ensures
          ∙ ap (λ k. set c.args.self.now.firsts k c.node_of-number.result.next) w.home.ensures
          ∙ ap (λ (n : Node). set c.args.self.now.firsts (zone_home c.args.self.now.homes (key_of_node n)) n.next) (node_is c)
      | else-before-eq0 w ↦ absurd (w.if-before-eq0.false (ap (λ (n : Node). n.before) (node_is c) ∙ start))
    ]

else : (c : goal.After-set_before) → (node_at c.args.self.now.nodes.items c.args.frame).before ≢ 0 → c.if-before-eq0.self.firsts ≡ c.args.self.now.firsts
else c inner =
    elim c.if-before-eq0.branch [
      | then-before-eq0 w ↦ absurd (inner (sym (ap (λ (n : Node). n.before) (node_is c)) ∙ w.if-before-eq0.true))
      | else-before-eq0 w ↦ ap (λ (z : Zones). z.firsts) w.self-is
    ]

homes_are : (c : goal.After-set_before) → c.if-before-eq0.self.homes ≡ c.args.self.now.homes
homes_are c =
    elim c.if-before-eq0.branch [
      | then-before-eq0 w ↦ ap (λ (z : Zones). z.homes) w.self-is
      | else-before-eq0 w ↦ ap (λ (z : Zones). z.homes) w.self-is
    ]

same_nodes : (c : goal.After-set_before) → c.if-before-eq0.self.nodes.items ≡ c.args.self.now.nodes.items
same_nodes c =
    elim c.if-before-eq0.branch [
      | then-before-eq0 w ↦ ap (λ (z : Zones). z.nodes.items) w.self-is
      | else-before-eq0 w ↦ ap (λ (z : Zones). z.nodes.items) w.self-is
    ]

relinked : List Node → Node → List Node
relinked nodes node = put_before (put_next nodes node.before node.next) node.next node.before

nodes_are : (c : goal.After-set_before) → c.set_before.new.nodes.items ≡ relinked c.args.self.now.nodes.items (node_at c.args.self.now.nodes.items c.args.frame)
unfolding relinked
nodes_are c =
    let node : Node = c.node_of-number.result in
    c.set_before.ensures.nodes
    ∙ ap (λ (ns : List Node). put_before ns node.next node.before) (c.set_next.ensures.nodes ∙ ap (λ (ns : List Node). put_next ns node.before node.next) (same_nodes c))
    ∙ ap (relinked c.args.self.now.nodes.items) (node_is c)

pub returns-clause-zoned : goal.returns-clause-zoned
unfolding relinked
returns-clause-zoned c frames key zoned there =
    subst (λ (h : ℕ). AreZoned (remove frames key) h c.if-before-eq0.self.firsts c.set_before.new.nodes.items) (sym (homes_are c))
    (subst (λ (ns : List Node). AreZoned (remove frames key) c.args.self.now.homes c.if-before-eq0.self.firsts ns) (sym (nodes_are c))
    (removed_zoned frames c.args.self.now.homes c.args.self.now.firsts c.args.self.now.nodes.items zoned c.args.frame key there c.if-before-eq0.self.firsts (gone c) (else c) c.requires.some))

pub returns-clause-ahead : goal.returns-clause-ahead
unfolding relinked
returns-clause-ahead c frames key zoned there n met =
    subst (λ (ns : List Node). IsAhead (nexts ns) (nexts c.args.self.now.nodes.items c.args.frame) n) (sym (nodes_are c))
    (removed_met frames c.args.self.now.homes c.args.self.now.firsts c.args.self.now.nodes.items zoned c.args.frame key there c.if-before-eq0.self.firsts (gone c) (else c) c.requires.some n met)
