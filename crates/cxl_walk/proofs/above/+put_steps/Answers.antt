use Rattle.std.proofs.Common.{◌≡◌, ℕ, ◌-◌, ◌*◌, ◌/◌, ◌^◌, ◌<◌, ◌≤◌, List, length, take, drop, replicate, Option, Some, None, sym, ap, subst, ◌∙◌, arith}
use Rattle.cxl_topo.specs.declared.node.Node.{Node}
use Rattle.cxl_topo.specs.declared.node.Parent.{Parent}
use Rattle.cxl_topo.specs.Tree.{parent_of, ports_above}
use Rattle.cxl_topo.proofs.Trees.{KnownTree, parent_is_port, ports_some}
use Rattle.cxl_topo.proofs.There.{parent_there}
use Rattle.cxl_enc.specs.Codes.{bits_of}
use Rattle.cxl_model.specs.Ranges.{ways_above}
use Rattle.cxl_model.specs.Regions.{region_range}
use Rattle.cxl_model.specs.System.{System}
use Rattle.cxl_model.proofs.RangeCounts.{no_ways_above}
use Rattle.cxl_model.specs.Dealing.{slot_steps}
use Rattle.cxl_walk.specs.Routes.{no_step}
use Rattle.cxl_walk.proofs.Slots.{IsAbove, own_found, own_ways, past_steps, past_entry, more_steps, less_rest, step_behind, zeros_behind}
use Rattle.cxl_walk.specs.declared.steps.StepsAbove.{StepsAbove}
use Rattle.cxl_walk.specs.inner.Slots.{step_at}
use Rattle.cxl_walk.proofs.above.+put_steps.Goals as goal

-- the tree of a system over these nodes is known
known_as : (nodes other : List Node) → KnownTree nodes → other ≡ nodes → KnownTree other
known_as nodes other known same = subst KnownTree (sym same) known

up_in : (nodes other : List Node) (n : ℕ) (o : Option Parent) → parent_of nodes n ≡ o → other ≡ nodes → parent_of other n ≡ o
up_in nodes other n o is same = ap (λ (ns : List Node). parent_of ns n) same ∙ is

within_in : (nodes other : List Node) (p n : ℕ) → p < n → n < length nodes → other ≡ nodes → p < length other
within_in nodes other p n low below same =
    let long : length other ≡ length nodes = ap length same in
    omega arith

-- a node above another has fewer than five ports above it
room_below : (nodes : List Node) → KnownTree nodes → (n : ℕ) (p : Parent) → parent_of nodes n ≡ Some p → (len : ℕ) → len ≤ length (ports_above nodes p.node) → len < 5
room_below nodes tree n p up len few =
    let ports = ap length (ports_some tree n p up) in
    omega (arith, tree.laws.few_ports n, ports)

pub own_at-requires : goal.own_at-requires
own_at-requires t c = (c.requires.own.0, c.requires.own.1, c.requires.own.2)

pub put_step-requires-clause-some : goal.put_step-requires-clause-some
put_step-requires-clause-some t c =
    let nodes = c.args.topo.now.nodes in
    let tree : KnownTree nodes = record { tree = c.count-count.ensures.tree; laws = c.tree_laws.ensures.laws nodes c.count-count.ensures.tree } in
    let up = parent_there nodes c.args.node c.node.result.now (Some c.in-Some.parent) c.node.ensures c.in-Some.is in
    let before = (parent_is_port tree c.args.node c.in-Some.parent up).0 in
    let s : System = c.requires.own.0 in
    let found = c.requires.own.1 in
    own_ways s (region_range found) c.in-Some.parent.node c.in-Some-own_at.port
    (own_found s found c.args.own.now c.in-Some.parent.node (Some c.in-Some-own_at.port) (within_in nodes s.nodes c.in-Some.parent.node c.args.node before c.requires.here c.requires.own.3) c.requires.own.2 c.in-Some-own_at.ensures)

pub returns-in-Some-own_at-clause-zeros : goal.returns-in-Some-own_at-clause-zeros
returns-in-Some-own_at-clause-zeros t c =
    let nodes = c.args.topo.now.nodes in
    let tree : KnownTree nodes = record { tree = c.count-count.ensures.tree; laws = c.tree_laws.ensures.laws nodes c.count-count.ensures.tree } in
    let up = parent_there nodes c.args.node c.node.result.now (Some c.in-Some.parent) c.node.ensures c.in-Some.is in
    let above : StepsAbove = c.put_steps.new.above in
    subst (λ (a : StepsAbove). drop a.len a.steps ≡ replicate (5 - a.len) no_step) (sym c.put_step.ensures)
    (zeros_behind above (step_at c.in-Some-own_at.port above.rest) c.put_steps.ensures.long (room_below nodes tree c.args.node c.in-Some.parent up above.len c.put_steps.ensures.few) c.put_steps.ensures.zeros)

pub returns-in-Some-own_at-clause-steps : goal.returns-in-Some-own_at-clause-steps
returns-in-Some-own_at-clause-steps t c = λ s w found same are root.
    let nodes = c.args.topo.now.nodes in
    let tree : KnownTree nodes = record { tree = c.count-count.ensures.tree; laws = c.tree_laws.ensures.laws nodes c.count-count.ensures.tree } in
    let up = parent_there nodes c.args.node c.node.result.now (Some c.in-Some.parent) c.node.ensures c.in-Some.is in
    let before = (parent_is_port tree c.args.node c.in-Some.parent up).0 in
    let above : StepsAbove = c.put_steps.new.above in
    let p = c.in-Some.parent in
    let is : IsAbove s w (region_range found) c.args.slot p.node above = record { steps = c.put_steps.ensures.steps s w found same are root; rest = c.put_steps.ensures.rest s w found same are root } in
    let own = own_found s found c.args.own.now p.node (Some c.in-Some-own_at.port) (within_in nodes s.nodes p.node c.args.node before c.requires.here same) are c.in-Some-own_at.ensures in
    subst (λ (a : StepsAbove). take a.len a.steps ≡ slot_steps s w (region_range found) c.args.slot c.args.node) (sym c.put_step.ensures)
    (step_behind above c.in-Some-own_at.port c.put_steps.ensures.long (room_below nodes tree c.args.node p up above.len c.put_steps.ensures.few)
    ∙ sym (more_steps s w (region_range found) (known_as nodes s.nodes tree same) c.args.slot c.args.node p (up_in nodes s.nodes c.args.node (Some p) up same) c.in-Some-own_at.port own above is))

pub returns-in-Some-own_at-clause-rest : goal.returns-in-Some-own_at-clause-rest
returns-in-Some-own_at-clause-rest t c = λ s w found same are root.
    let nodes = c.args.topo.now.nodes in
    let tree : KnownTree nodes = record { tree = c.count-count.ensures.tree; laws = c.tree_laws.ensures.laws nodes c.count-count.ensures.tree } in
    let up = parent_there nodes c.args.node c.node.result.now (Some c.in-Some.parent) c.node.ensures c.in-Some.is in
    let before = (parent_is_port tree c.args.node c.in-Some.parent up).0 in
    let above : StepsAbove = c.put_steps.new.above in
    let p = c.in-Some.parent in
    let is : IsAbove s w (region_range found) c.args.slot p.node above = record { steps = c.put_steps.ensures.steps s w found same are root; rest = c.put_steps.ensures.rest s w found same are root } in
    let own = own_found s found c.args.own.now p.node (Some c.in-Some-own_at.port) (within_in nodes s.nodes p.node c.args.node before c.requires.here same) are c.in-Some-own_at.ensures in
    ap (λ (a : StepsAbove). a.rest) c.put_step.ensures
    ∙ less_rest s w (region_range found) (known_as nodes s.nodes tree same) c.args.slot c.args.node p (up_in nodes s.nodes c.args.node (Some p) up same) c.in-Some-own_at.port own above is

pub returns-in-None-clause-steps : goal.returns-in-None-clause-steps
returns-in-None-clause-steps t c = λ s w found same are root.
    let nodes = c.args.topo.now.nodes in
    let tree : KnownTree nodes = record { tree = c.count-count.ensures.tree; laws = c.tree_laws.ensures.laws nodes c.count-count.ensures.tree } in
    let up = parent_there nodes c.args.node c.node.result.now (Some c.in-Some.parent) c.node.ensures c.in-Some.is in
    let before = (parent_is_port tree c.args.node c.in-Some.parent up).0 in
    let p = c.in-Some.parent in
    let none = own_found s found c.args.own.now p.node None (within_in nodes s.nodes p.node c.args.node before c.requires.here same) are c.in-None.ensures in
    c.put_steps.ensures.steps s w found same are root
    ∙ sym (past_steps s w (region_range found) (known_as nodes s.nodes tree same) c.args.slot c.args.node p (up_in nodes s.nodes c.args.node (Some p) up same) none)

pub returns-in-None-clause-rest : goal.returns-in-None-clause-rest
returns-in-None-clause-rest t c = λ s w found same are root.
    let nodes = c.args.topo.now.nodes in
    let tree : KnownTree nodes = record { tree = c.count-count.ensures.tree; laws = c.tree_laws.ensures.laws nodes c.count-count.ensures.tree } in
    let up = parent_there nodes c.args.node c.node.result.now (Some c.in-Some.parent) c.node.ensures c.in-Some.is in
    let before = (parent_is_port tree c.args.node c.in-Some.parent up).0 in
    let p = c.in-Some.parent in
    let none = own_found s found c.args.own.now p.node None (within_in nodes s.nodes p.node c.args.node before c.requires.here same) are c.in-None.ensures in
    c.put_steps.ensures.rest s w found same are root
    ∙ ap (λ (k : ℕ). c.args.slot / k) (sym (past_entry s w (region_range found) (known_as nodes s.nodes tree same) c.args.slot c.args.node p (up_in nodes s.nodes c.args.node (Some p) up same) none))

pub returns-in_default-clause-rest : goal.returns-in_default-clause-rest
returns-in_default-clause-rest t c = λ s w found same are root.
    let nodes = c.args.topo.now.nodes in
    let tree : KnownTree nodes = record { tree = c.count-count.ensures.tree; laws = c.tree_laws.ensures.laws nodes c.count-count.ensures.tree } in
    let none = up_in nodes s.nodes c.args.node None (parent_there nodes c.args.node c.node.result.now None c.node.ensures c.in_default.is) same in
    let alone = no_ways_above s (region_range found) c.args.node (known_as nodes s.nodes tree same) none in
    c.requires.whole ∙ ap (λ (k : ℕ). c.args.slot / k) (root ∙ sym (single (2 ^ bits_of w.ways) (ways_above s (region_range found) c.args.node) alone))
  where
    single : (a b : ℕ) → b ≡ 1 → a * b ≡ a
    single a b one = rw one (omega arith)
