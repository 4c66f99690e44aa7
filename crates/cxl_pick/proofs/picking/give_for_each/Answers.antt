use Rattle.std.proofs.Common.{◌≡◌, ℕ, ◌+◌, ◌/◌, ◌≤◌, ◌++◌, not, List, [], get_or, drop, map, Option, Some, None, refl, sym, ap, ◌∙◌, arith}
use Rattle.std.specs.Prelude.{◌==◌, option_map, option_and_then, unwrap_or}
use Rattle.std.proofs.Math.Nat.{div-le_self}
use Rattle.std.proofs.lemmas.Bool.{ne_eqb}
use Rattle.cxl_enc.proofs.Ways.{few_ways}
use Rattle.cxl_topo.proofs.Trees.{KnownTree}
use Rattle.cxl_model.specs.Hosts.{as_system}
use Rattle.cxl_model.specs.System.{System}
use Rattle.cxl_pick.specs.Picking.{all_given, gives}
use Rattle.cxl_pick.proofs.Parts.{at_target}
use Rattle.cxl_pick.proofs.Known.{known_some, nothing_given}
use Rattle.cxl_pick.proofs.Walking.{some_list}
use Rattle.cxl_pick.proofs.Givings.{uid_step, uid_none, uid_end}
use Rattle.cxl_pick.proofs.Settled.{target_within}
use Rattle.cxl_pick.proofs.picking.give_for_each.Goals as goal

-- a share of the ways is one of few
few_each : (ways root : ℕ) → ways ≤ 16 → ways / root ≤ 16
few_each ways root few = let less = div-le_self ways root in omega (arith, few, less)

pub ask-requires : goal.ask-requires
ask-requires c =
    let s : System = as_system c.args.host.now in
    let known : KnownTree s.nodes = record { tree = c.requires.ready.system.tree; laws = c.tree_laws.ensures.laws s.nodes c.requires.ready.system.tree } in
    record {
      ready = c.requires.ready;
      sound = c.requires.sound;
      count = c.requires.count;
      highest = c.requires.highest;
      here = target_within known (get_or c.targets-targets.result.now c.loop-uid.uid-index 0) c.in-Some.bridge (sym c.in-Some.ensures.bridge);
      gifts = c.loop-uid.invariant.0;
      asked = c.loop-uid.invariant.1;
    }

pub give-requires : goal.give-requires
give-requires c =
    let s : System = as_system c.args.host.now in
    let known : KnownTree s.nodes = record { tree = c.requires.ready.system.tree; laws = c.tree_laws.ensures.laws s.nodes c.requires.ready.system.tree } in
    record {
      ready = c.requires.ready;
      count = c.requires.count;
      highest = c.requires.highest;
      here = target_within known (get_or c.targets-targets.result.now c.loop-uid.uid-index 0) c.in-Some.bridge (sym c.in-Some.ensures.bridge);
      few = few_each c.args.want.now.ways c.ways.result (few_ways c.args.want.now.ways c.requires.sound.ways);
      gifts = c.in_ok-ask.ensures.gifts;
      asked = c.in_ok-ask.ensures.asked;
      known = c.in_ok-ask.ensures.here;
    }

pub returns-in_default : goal.returns-in_default
returns-in_default c =
    let s : System = as_system c.args.host.now in
    let want = c.args.want.now in
    let w = c.args.w.now in
    let f : ℕ → Option (List ℕ) = at_target s want w c.args.start in
    let uids : List ℕ = c.targets-targets.result.now in
    let i : ℕ = c.loop-uid.uid-index in
    let all : Option (List ℕ) = all_given (map f uids) in
    record {
      gifts = c.loop-uid.invariant.0;
      given =
          uid_none f i uids c.loop-uid.given.items all c.loop-uid-test.true c.loop-uid.invariant.2
          (ap (option_and_then (λ b. gives s want w c.args.start b (want.ways / w.ways))) (sym c.in_default.ensures.bridge))
          ∙ ap (λ (us : List ℕ). all_given (map f us)) c.targets-targets.ensures.value;
    }

pub returns-then-known_at-eq0 : goal.returns-then-known_at-eq0
returns-then-known_at-eq0 c =
    let s : System = as_system c.args.host.now in
    let want = c.args.want.now in
    let w = c.args.w.now in
    let f : ℕ → Option (List ℕ) = at_target s want w c.args.start in
    let uids : List ℕ = c.targets-targets.result.now in
    let i : ℕ = c.loop-uid.uid-index in
    let all : Option (List ℕ) = all_given (map f uids) in
    let known : KnownTree s.nodes = record { tree = c.requires.ready.system.tree; laws = c.tree_laws.ensures.laws s.nodes c.requires.ready.system.tree } in
    let few = few_each want.ways c.ways.result (few_ways want.ways c.requires.sound.ways) in
    let share : ℕ = want.ways / c.ways.result in
    let within = target_within known (get_or uids i 0) c.in-Some.bridge (sym c.in-Some.ensures.bridge) in
    let at : f (get_or uids i 0) ≡ gives s want w c.args.start c.in-Some.bridge share =
    ap (option_and_then (λ b. gives s want w c.args.start b (want.ways / w.ways))) (sym c.in-Some.ensures.bridge)
    ∙ ap (λ (k : ℕ). gives s want w c.args.start c.in-Some.bridge (want.ways / k)) (sym c.ways.ensures.value) in
    let none = nothing_given s known want w c.args.start c.in-Some.bridge share c.ask.new.gifts c.in_ok-ask.ensures.gifts c.in_ok-ask.ensures.asked within few c.in_ok-ask.ensures.here (sym c.known_at.ensures ∙ c.if-known_at-eq0.true) in
    record {
      gifts = c.in_ok-ask.ensures.gifts;
      given = uid_none f i uids c.loop-uid.given.items all c.loop-uid-test.true c.loop-uid.invariant.2 (at ∙ none) ∙ ap (λ (us : List ℕ). all_given (map f us)) c.targets-targets.ensures.value;
    }

pub loop-uid-preserved : goal.loop-uid-preserved
loop-uid-preserved c =
    let s : System = as_system c.args.host.now in
    let want = c.args.want.now in
    let w = c.args.w.now in
    let f : ℕ → Option (List ℕ) = at_target s want w c.args.start in
    let uids : List ℕ = c.targets-targets.result.now in
    let i : ℕ = c.loop-uid.uid-index in
    let all : Option (List ℕ) = all_given (map f uids) in
    let known : KnownTree s.nodes = record { tree = c.requires.ready.system.tree; laws = c.tree_laws.ensures.laws s.nodes c.requires.ready.system.tree } in
    let few = few_each want.ways c.ways.result (few_ways want.ways c.requires.sound.ways) in
    let share : ℕ = want.ways / c.ways.result in
    let within = target_within known (get_or uids i 0) c.in-Some.bridge (sym c.in-Some.ensures.bridge) in
    let at : f (get_or uids i 0) ≡ gives s want w c.args.start c.in-Some.bridge share =
    ap (option_and_then (λ b. gives s want w c.args.start b (want.ways / w.ways))) (sym c.in-Some.ensures.bridge)
    ∙ ap (λ (k : ℕ). gives s want w c.args.start c.in-Some.bridge (want.ways / k)) (sym c.ways.ensures.value) in
    let some = known_some s known want w c.args.start c.in-Some.bridge share c.ask.new.gifts c.in_ok-ask.ensures.gifts c.in_ok-ask.ensures.asked within few c.in_ok-ask.ensures.here in
    let own : List ℕ = unwrap_or (gives s want w c.args.start c.in-Some.bridge share) [] in
    let full = some_list (gives s want w c.args.start c.in-Some.bridge share) (sym some ∙ ap (λ (n : ℕ). not (n == 0)) (sym c.known_at.ensures) ∙ ap not (ne_eqb c.known_at.result 0 c.if-known_at-eq0.false)) in
    let items : c.give.new.given.items ≡ c.loop-uid.given.items ++ own = c.in_ok-give.ensures in (
      c.in_ok-ask.ensures.gifts,
      c.in_ok-ask.ensures.asked,
      (λ k. option_map (λ ms. items k ++ ms) (all_given (map f (drop (i + 1) uids)))) ∙ uid_step f i uids c.loop-uid.given.items own all c.loop-uid-test.true c.loop-uid.invariant.2 (at ∙ full),
    )

pub loop-uid-init : goal.loop-uid-init
loop-uid-init c =
    let s : System = as_system c.args.host.now in
    let f : ℕ → Option (List ℕ) = at_target s c.args.want.now c.args.w.now c.args.start in (
      c.requires.gifts,
      c.requires.asked,
      ap (λ (xs : List ℕ). option_map (λ ms. xs ++ ms) (all_given (map f c.targets-targets.result.now))) c.requires.none ∙ nothing_before (all_given (map f c.targets-targets.result.now)),
    )
  where
    nothing_before : (o : Option (List ℕ)) → option_map (λ ms. [] ++ ms) o ≡ o
    nothing_before None = refl
    nothing_before (Some ms) = refl

pub returns : goal.returns
returns c =
    let s : System = as_system c.args.host.now in
    let want = c.args.want.now in
    let w = c.args.w.now in
    let f : ℕ → Option (List ℕ) = at_target s want w c.args.start in
    let uids : List ℕ = c.targets-targets.result.now in
    let i : ℕ = c.loop-uid.uid-index in
    let all : Option (List ℕ) = all_given (map f uids) in
    record {
      gifts = c.loop-uid.invariant.0;
      given = uid_end f i uids c.loop-uid.given.items all c.loop-uid-test.false c.loop-uid.invariant.2 ∙ ap (λ (us : List ℕ). all_given (map f us)) c.targets-targets.ensures.value;
    }
