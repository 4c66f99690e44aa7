use Rattle.std.proofs.Common.{◌≡◌, refl, ℕ, ◌+◌, ◌-◌, ◌/◌, ◌<◌, ◌≤◌, ◌++◌, false, not, List, [], Option, get_or, Vec, Global, sym, ap, subst, ◌∙◌, arith}
use Rattle.std.specs.Prelude.{◌==◌, take, is_some, unwrap_or}
use Rattle.std.specs.List.{filter_map, flat_map}
use Rattle.std.proofs.Math.Nat.{div-le_self}
use Rattle.std.proofs.lemmas.List.{append-nil}
use Rattle.std.proofs.lemmas.Bool.{eq-eqb, ne_eqb}
use Rattle.cxl_topo.proofs.Trees.{KnownTree}
use Rattle.cxl_model.specs.Hosts.{as_system}
use Rattle.cxl_model.specs.System.{System}
use Rattle.cxl_pick.specs.Picking.{gives}
use Rattle.cxl_pick.specs.inner.Gifts.{AreChildrenOf, known_at, used}
use Rattle.cxl_pick.proofs.Walking.{to_come, take_step, take_skip, take_end}
use Rattle.cxl_pick.proofs.Known.{child_at, known_each, known_some, known_used, nothing_given, endpoint_gives, port_gives_by}
use Rattle.cxl_pick.proofs.gathering.+give.Goals as goal
use Rattle.cxl_pick.proofs.gathering.+give.Goals.{then-left-gt0+then-known_at-ne0+in_ok-give, else-left-gt0, else-left-gt0-via-then-left-gt0+else-known_at-ne0, else-left-gt0-via-else-left-gt0}

pub children_of-requires-clause-highest : goal.children_of-requires-clause-highest
children_of-requires-clause-highest t c = λ k parent is same. subst (λ (n : ℕ). parent.port ≤ get_or c.args.highest.now n 0) same (c.requires.highest k parent is)

pub give-requires : goal.give-requires
give-requires t c =
    let s : System = as_system c.args.host.now in
    let known : KnownTree s.nodes = record { tree = c.requires.ready.system.tree; laws = c.tree_laws.ensures.laws s.nodes c.requires.ready.system.tree } in
    let own : AreChildrenOf s.nodes c.args.node c.as_slice-children.result.now = subst (AreChildrenOf s.nodes c.args.node) (sym c.as_slice-children.ensures.value) c.in_ok-own.ensures in
    let port = sym c.is_endpoint.ensures ∙ c.if-is_endpoint.false in
    let at = child_at s known c.args.node c.loop-child.child-index c.as_slice-children.result.now own c.loop-child-test.true in
    let later = at.0 in
    let low = div-le_self c.args.m c.known_at-used.result in
    let few = c.requires.few in
    let there = known_each s c.args.gifts.now.known.items c.args.node c.loop-child.child-index c.as_slice-children.result.now own (c.requires.gifts.closed c.args.node c.requires.known port) c.loop-child-test.true in
    (omega (arith, later, c.decreases), (c.requires.ready, (c.requires.count, (c.requires.highest, (at.1, (omega (arith, low, few), (c.requires.gifts, (c.requires.asked, there))))))))

pub returns-then-used-eq0 : goal.returns-then-used-eq0
returns-then-used-eq0 t c =
    let s : System = as_system c.args.host.now in
    let known : KnownTree s.nodes = record { tree = c.requires.ready.system.tree; laws = c.tree_laws.ensures.laws s.nodes c.requires.ready.system.tree } in
    let none = nothing_given s known c.args.want.now c.args.w.now c.args.start c.args.node c.args.m c.args.gifts.now c.requires.gifts c.requires.asked c.requires.here c.requires.few c.requires.known (sym c.known_at-used.ensures ∙ c.if-used-eq0.true) in
    sym (ap (λ (o : Option (List ℕ)). c.args.given.now.items ++ unwrap_or o []) none ∙ append-nil c.args.given.now.items)

pub returns-then-is_endpoint : goal.returns-then-is_endpoint
returns-then-is_endpoint t c =
    let s : System = as_system c.args.host.now in
    let known : KnownTree s.nodes = record { tree = c.requires.ready.system.tree; laws = c.tree_laws.ensures.laws s.nodes c.requires.ready.system.tree } in
    let is : c.known_at-used.result ≡ used s c.args.want.now c.args.w.now c.args.start c.args.node c.args.m =
    c.known_at-used.ensures ∙ known_used s known c.args.want.now c.args.w.now c.args.start c.args.node c.args.m c.args.gifts.now c.requires.gifts c.requires.asked c.requires.here c.requires.few c.requires.known in
    c.in_ok-push.ensures.items
    ∙ ap (λ (ns : List ℕ). c.args.given.now.items ++ ns)
    (sym (endpoint_gives s known c.args.want.now c.args.w.now c.args.start c.args.node c.args.m c.requires.here (sym c.is_endpoint.ensures ∙ c.if-is_endpoint.true) (λ none. c.if-used-eq0.false (is ∙ none))))

pub loop-child-init : goal.loop-child-init
loop-child-init t c = refl

pub loop-child-preserved : goal.loop-child-preserved
loop-child-preserved t c =
    let s : System = as_system c.args.host.now in
    let known : KnownTree s.nodes = record { tree = c.requires.ready.system.tree; laws = c.tree_laws.ensures.laws s.nodes c.requires.ready.system.tree } in
    let own : AreChildrenOf s.nodes c.args.node c.as_slice-children.result.now = subst (AreChildrenOf s.nodes c.args.node) (sym c.as_slice-children.ensures.value) c.in_ok-own.ensures in
    let port = sym c.is_endpoint.ensures ∙ c.if-is_endpoint.false in
    let cs : List ℕ = c.as_slice-children.result.now in
    let i : ℕ = c.loop-child.child-index in
    let share : ℕ = c.args.m / c.known_at-used.result in
    let f : ℕ → Option (List ℕ) = λ k. gives s c.args.want.now c.args.w.now c.args.start k share in
    let all : List ℕ = c.args.given.now.items ++ flat_map (λ (ns : List ℕ). ns) (take c.known_at-used.result (filter_map f cs)) in
    let at = child_at s known c.args.node i cs own c.loop-child-test.true in
    let low = div-le_self c.args.m c.known_at-used.result in
    let few = c.requires.few in
    let there = known_each s c.args.gifts.now.known.items c.args.node i cs own (c.requires.gifts.closed c.args.node c.requires.known port) c.loop-child-test.true in
    let some : not (known_at c.args.gifts.now.known.items (get_or cs i 0) share == 0) ≡ is_some (f (get_or cs i 0)) =
    known_some s known c.args.want.now c.args.w.now c.args.start (get_or cs i 0) share c.args.gifts.now c.requires.gifts c.requires.asked at.1 (omega (arith, low, few)) there in
    elim c.if-left-gt0.branch [
      | then-left-gt0+then-known_at-ne0+in_ok-give w ↦
          let given : c.if-left-gt0.given.items ≡ c.loop-child.given.items ++ unwrap_or (f (get_or cs i 0)) [] = ap (λ (x : Vec ℕ Global). x.items) w.given-is ∙ w.in_ok-give.ensures in
          let left : c.if-left-gt0.left ≡ c.loop-child.left - 1 = w.left-is in
          (λ k. given k ++ to_come f (left k) cs (i + 1))
          ∙ take_step f i c.loop-child.left cs c.loop-child.given.items all c.loop-child-test.true c.loop-child.invariant w.if-left-gt0.true
          (sym some ∙ ap (λ (n : ℕ). not (n == 0)) (sym w.known_at.ensures) ∙ ap not (ne_eqb w.known_at.result 0 w.if-known_at-ne0.true))
      | else-left-gt0 w ↦
          let given : c.if-left-gt0.given.items ≡ c.loop-child.given.items = ap (λ (x : Vec ℕ Global). x.items) w.given-is in
          let left : c.if-left-gt0.left ≡ c.loop-child.left = w.left-is in
          let fails : 0 < c.loop-child.left → is_some (f (get_or cs i 0)) ≡ false =
          λ more. elim w.else-left-gt0.branch [
            | else-left-gt0-via-then-left-gt0+else-known_at-ne0 w' ↦
                sym some ∙ ap (λ (n : ℕ). not (n == 0)) (sym w'.known_at.ensures) ∙ ap not (eq-eqb w'.known_at.result 0 w'.if-known_at-ne0.false)
            | else-left-gt0-via-else-left-gt0 w' ↦ let none = w'.if-left-gt0.false in absurd (omega (arith, more, none))
          ] in
          (λ k. given k ++ to_come f (left k) cs (i + 1)) ∙ take_skip f i c.loop-child.left cs c.loop-child.given.items all c.loop-child-test.true c.loop-child.invariant fails
    ]

pub returns : goal.returns
returns t c =
    let s : System = as_system c.args.host.now in
    let known : KnownTree s.nodes = record { tree = c.requires.ready.system.tree; laws = c.tree_laws.ensures.laws s.nodes c.requires.ready.system.tree } in
    let own : AreChildrenOf s.nodes c.args.node c.as_slice-children.result.now = subst (AreChildrenOf s.nodes c.args.node) (sym c.as_slice-children.ensures.value) c.in_ok-own.ensures in
    let port = sym c.is_endpoint.ensures ∙ c.if-is_endpoint.false in
    let cs : List ℕ = c.as_slice-children.result.now in
    let u : ℕ = c.known_at-used.result in
    let f : ℕ → Option (List ℕ) = λ k. gives s c.args.want.now c.args.w.now c.args.start k (c.args.m / u) in
    let all : List ℕ = c.args.given.now.items ++ flat_map (λ (ns : List ℕ). ns) (take u (filter_map f cs)) in
    let is : used s c.args.want.now c.args.w.now c.args.start c.args.node c.args.m ≡ u =
    sym (c.known_at-used.ensures ∙ known_used s known c.args.want.now c.args.w.now c.args.start c.args.node c.args.m c.args.gifts.now c.requires.gifts c.requires.asked c.requires.here c.requires.few c.requires.known) in
    take_end f c.loop-child.child-index c.loop-child.left cs c.loop-child.given.items all c.loop-child-test.false c.loop-child.invariant
    ∙ ap (λ (ds : List ℕ). c.args.given.now.items ++ flat_map (λ (ns : List ℕ). ns) (take u (filter_map f ds))) own.is
    ∙ ap (λ (ns : List ℕ). c.args.given.now.items ++ ns)
    (sym (port_gives_by s known c.args.want.now c.args.w.now c.args.start c.args.node c.args.m u c.requires.here port is c.if-used-eq0.false))

-- a number that is not 0 is some
some : (n : ℕ) → (n ≡ 0 → ⊥) → 0 < n
some n other = omega arith

one_left : (n : ℕ) → 0 < n → 1 ≤ n
one_left n more = omega arith

pub overflow_sub-left : goal.overflow_sub-left
overflow_sub-left t c = one_left c.loop-child.left c.if-left-gt0.true

pub nonzero_div-m-then-known_at-ne0 : goal.nonzero_div-m-then-known_at-ne0
nonzero_div-m-then-known_at-ne0 t c = some c.known_at-used.result c.if-used-eq0.false

pub nonzero_div-m : goal.nonzero_div-m
nonzero_div-m t c = some c.known_at-used.result c.if-used-eq0.false
