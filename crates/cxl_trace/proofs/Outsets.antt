-- A walk sets out at the target of the window that holds the address.
use Rattle.std.proofs.Common.{◌≡◌, ℕ, ◌<◌, List, [], length, get_or, Some, refl, sym, subst, arith}
use Rattle.std.specs.Prelude.{slice_get}
use Rattle.std.proofs.lemmas.Option.{slice_get-get_or}
use Rattle.cxl_enc.proofs.Options.{and_some}
use Rattle.cxl_enc.proofs.Lists.{All-at}
use Rattle.cxl_topo.specs.Tree.{Tree, uid_at, bridge_with}
use Rattle.cxl_regs.specs.Registers.{Registers}
use Rattle.cxl_window.specs.Fields.{WindowFields, IsWindow}
use Rattle.cxl_window.specs.Position.{position_at}
use Rattle.cxl_window.specs.Windows.{AreMadeWith}
use Rattle.cxl_model.specs.System.{system_of, bridge_uids}
use Rattle.cxl_walk.proofs.Targets.{bridge_there}
use Rattle.cxl_trace.specs.Traces.{SetsOut}

-- what the law of positions says
abbrev pub PositionsLaw : Type 0
PositionsLaw = (w : WindowFields) (h position : ℕ) → IsWindow w → position_at w h ≡ Some position → position < w.ways

module _ (law : PositionsLaw) (tree : Tree) (windows : List WindowFields) (made : AreMadeWith windows (bridge_uids tree.nodes)) (i h position : ℕ) (w : WindowFields) (there : slice_get windows i ≡ Some w) (holds : position_at w h ≡ Some position) where
  pub within : position < length w.targets
  within =
      let known = All-at IsWindow windows i w there made.each in
      let each = known.target_each_way in
      omega (arith, law w h position known holds, each)

  own : slice_get windows w.index ≡ Some w
  own = subst (λ (k : ℕ). slice_get windows k ≡ Some w) (sym (made.indexed i w there)) there

  module _ (uids : List ℕ) (same : uids ≡ w.targets) where
    abbrev pub uid : ℕ
    uid = get_or uids position 0

    is : slice_get w.targets position ≡ Some uid
    is =
        let at : position < length uids = subst (λ (us : List ℕ). position < length us) (sym same) within in
        subst (λ (us : List ℕ). slice_get us position ≡ Some uid) same (slice_get-get_or uids position 0 at)

    pub has_bridge : (b : ℕ) × (uid_at tree.nodes b ≡ Some uid)
    has_bridge =
        bridge_there [] tree windows h (record { window = w.index; position = position; uid = uid }) w
        (record { there = own; inside = record { index = refl; holds = holds; uid = is } }) made

    pub sets_out : (bridge : ℕ) → bridge_with tree.nodes uid ≡ Some bridge → (blocks : List Registers)
        → SetsOut (system_of blocks tree windows) h (record { window = w.index; position = position; bridge = bridge })
    sets_out bridge found blocks = record {
      window = w;
      index = refl;
      targets = record {
        there = own;
        holds = holds;
        target = and_some (slice_get w.targets position) (λ uid. bridge_with tree.nodes uid ≡ Some bridge) uid is found;
      };
    }
