-- From the window that holds an address to its bridge, and the whole chain from there.
use Rattle.std.proofs.Common.{◌≡◌, ℕ, zero, suc, ◌<◌, List, [], ◌∷◌, length, get_or, Option, Some, None, refl, ap, ◌∙◌, arith}
use Rattle.std.specs.Prelude.{slice_get, All, Contains, ◌&&◌, Result, Ok, Err, IfOk, IfErr}
use Rattle.std.proofs.lemmas.Bool.{and_parts}
use Rattle.std.proofs.lemmas.Option.{cond_some}
use Rattle.cxl_enc.proofs.Options.{and_some}
use Rattle.cxl_enc.proofs.Lists.{All-at}
use Rattle.cxl_topo.specs.declared.node.Node.{Node}
use Rattle.cxl_topo.specs.Kinds.{uid_of}
use Rattle.cxl_topo.specs.Tree.{Tree, uid_at, bridge_with}
use Rattle.cxl_regs.specs.Registers.{Registers}
use Rattle.cxl_window.specs.declared.window.Verdict.TheVariants.{Usable}
use Rattle.cxl_window.specs.Fields.{WindowFields, IsUsable}
use Rattle.cxl_window.specs.Position.{is_usable, holds, position_of, position_at}
use Rattle.cxl_window.specs.Windows.{AreMadeWith}
use Rattle.cxl_window.proofs.Usable.{usable_is}
use Rattle.cxl_model.specs.declared.chain.Step.{Step}
use Rattle.cxl_model.specs.declared.chain.Miss.{Miss}
use Rattle.cxl_model.specs.System.{System, bridge_uids, system_of}
use Rattle.cxl_model.specs.Chain.{Arrival, Arrives, Misses, Targets, Chain, held, Routed, Missed}
use Rattle.cxl_walk.specs.declared.route.Route.{Route}
use Rattle.cxl_walk.specs.declared.target.Target as slots
use Rattle.cxl_walk.specs.inner.Calls.{Leads, Fails, IsTarget}
use Rattle.cxl_walk.specs.Routes.{routing_of, chain_end_of}

-- a window that holds an address can be used
usable_of : (w : WindowFields) (h position : ℕ) → position_at w h ≡ Some position → w.verdict ≡ Usable
usable_of w h position there =
    usable_is w.verdict (and_parts (is_usable w.verdict) (holds w h) (cond_some (is_usable w.verdict && holds w h) (position_of w h) position there).0).0

-- the bridge of a UID among those of a tree
uid_there : (nodes : List Node) (uid : ℕ) → Contains (bridge_uids nodes) uid → (i : ℕ) × (uid_at nodes i ≡ Some uid)
uid_there [] uid there = absurd (let lt = there.1 in omega arith)
uid_there (node ∷ nodes) uid there = go (uid_of node.kind) refl (uid_there nodes uid)
  where
    own_or_later : (own k : ℕ) → uid_of node.kind ≡ Some own → k < suc (length (bridge_uids nodes)) → get_or (own ∷ bridge_uids nodes) k uid ≡ uid
        → (Contains (bridge_uids nodes) uid → (i : ℕ) × (uid_at nodes i ≡ Some uid)) → (i : ℕ) × (uid_at (node ∷ nodes) i ≡ Some uid)
    own_or_later own zero e lt is later = (zero, e ∙ ap Some is)
    own_or_later own (suc k) e lt is later = let rest = later (k, omega arith, is) in (suc rest.0, rest.1)

    go : (o : Option ℕ) → uid_of node.kind ≡ o → (Contains (bridge_uids nodes) uid → (i : ℕ) × (uid_at nodes i ≡ Some uid)) → (i : ℕ) × (uid_at (node ∷ nodes) i ≡ Some uid)
    go None e later = let rest = later (rw e at there) in (suc rest.0, rest.1)
    go (Some own) e later = let has = rw e at there in own_or_later own has.0 e has.1 has.2 later

module _ (blocks : List Registers) (tree : Tree) (windows : List WindowFields) (h : ℕ) (target : slots.Target) (w : WindowFields) (is : IsTarget windows h target w) where
  -- its bridge is there
  pub bridge_there : AreMadeWith windows (bridge_uids tree.nodes) → (i : ℕ) × (uid_at tree.nodes i ≡ Some target.uid)
  bridge_there made =
      let usable = All-at (λ v. v.verdict ≡ Usable → IsUsable v × All (λ u. Contains (bridge_uids tree.nodes) u) v.targets) windows w.index w is.there made.usable in
      uid_there tree.nodes target.uid (All-at (λ u. Contains (bridge_uids tree.nodes) u) w.targets target.position target.uid is.inside.uid (usable (usable_of w h target.position is.inside.holds)).1)

  targets : (bridge : ℕ) → bridge_with tree.nodes target.uid ≡ Some bridge → Targets (system_of blocks tree windows) h w target.position bridge
  targets bridge found = record {
    there = is.there;
    holds = is.inside.holds;
    target = and_some (slice_get w.targets target.position) (λ uid. bridge_with tree.nodes uid ≡ Some bridge) target.uid is.inside.uid found;
  }

  pub arrived : (bridge : ℕ) (steps : List Step) (arrival : Arrival) → bridge_with tree.nodes target.uid ≡ Some bridge → Leads blocks tree h bridge steps (Arrives arrival)
      → Chain (system_of blocks tree windows) h (Routed (record { window = target.window; position = target.position; steps = steps; arrival = arrival }))
  arrived bridge steps arrival found way =
      held w target.position bridge steps (Arrives arrival) (targets bridge found) (way windows)
      (ap (λ (i : ℕ). Routed (record { window = i; position = target.position; steps = steps; arrival = arrival })) is.inside.index)

  pub missed : (bridge : ℕ) (miss : Miss) → bridge_with tree.nodes target.uid ≡ Some bridge → Fails blocks tree h bridge miss → Chain (system_of blocks tree windows) h (Missed miss)
  missed bridge miss found fails =
      held w target.position bridge fails.0 (Misses miss) (targets bridge found) (fails.1 windows) refl

-- a route and a miss are both outcomes
pub chain_of : (s : System) (h : ℕ) (result : Result Route Miss) → IfOk result (λ route. Chain s h (Routed (routing_of route)))
    → IfErr result (λ miss. Chain s h (Missed miss)) → Chain s h (chain_end_of result)
chain_of s h (Ok route) routed missed = routed
chain_of s h (Err miss) routed missed = missed
