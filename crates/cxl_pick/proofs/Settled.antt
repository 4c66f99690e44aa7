-- What a window gives, where it can take the region from a start.
use Rattle.std.proofs.Common.{◌≡◌, ℕ, zero, suc, ◌<◌, Bool, true, false, if◌then◌else◌, List, [], ◌∷◌, length, get_or, map, Result, Ok, Err, Option, Some, None, sym, ap, ◌∙◌, subst, inl, inr, arith}
use Rattle.std.specs.Prelude.{option_and_then, slice_get, IsSomeAnd, IfOk}
use Rattle.std.specs.Option.{option_map_or}
use Rattle.std.proofs.lemmas.Bool.{cases_lt, false≢true}
use Rattle.std.proofs.lemmas.Option.{same_Some, slice_get_past}
use Rattle.cxl_topo.specs.declared.node.Node.{Node}
use Rattle.cxl_topo.specs.Kinds.{is_bridge}
use Rattle.cxl_topo.specs.Tree.{is_bridge_at, bridge_with}
use Rattle.cxl_topo.proofs.Trees.{KnownTree}
use Rattle.cxl_window.specs.Fields.{WindowFields}
use Rattle.cxl_model.specs.System.{System}
use Rattle.cxl_pick.specs.declared.want.Want.{Want}
use Rattle.cxl_pick.specs.Picking.{can_take, latest_start, all_given, given_in}
use Rattle.cxl_pick.proofs.Parts.{at_target}
use Rattle.cxl_pick.proofs.Tops.{bridge_of}

bridge_within : (nodes : List Node) (b : ℕ) → is_bridge_at nodes b ≡ true → b < length nodes
bridge_within nodes b is =
    elim (cases_lt b (length nodes)) [
      | inl within ↦ within
      | inr past ↦ absurd (false≢true (sym (ap (λ (o : Option Node). option_map_or (λ node. is_bridge node.kind) o false) (slice_get_past nodes b past)) ∙ is))
    ]

-- the bridge of a UID is one of the nodes
pub target_within : {nodes : List Node} → KnownTree nodes → (uid b : ℕ) → bridge_with nodes uid ≡ Some b → b < length nodes
target_within {nodes} known uid b at =
    let own = bridge_of known uid b at in
    let node : own.node ≡ b = same_Some own.node b (sym own.is ∙ at) in
    bridge_within nodes b (subst (λ (n : ℕ). is_bridge_at nodes n ≡ true) node own.bridge)

pub given_from : (s : System) (want : Want) (w : WindowFields) (start : ℕ) → can_take want w ≡ true → latest_start want w ≡ Some start → all_given (map (at_target s want w start) w.targets) ≡ given_in s want w
given_from s want w start can starts =
    sym (ap (option_and_then (λ begin. all_given (map (at_target s want w begin) w.targets))) starts)
    ∙ sym (ap (λ (b : Bool). if b then option_and_then (λ begin. all_given (map (at_target s want w begin) w.targets)) (latest_start want w) else None) can)

-- ---- results and tables

pub if_ok : {A E : Type 0} (r : Result A E) (P Q : A → Type 0) → ((x : A) → P x → Q x) → IfOk r P → IfOk r Q
if_ok (Ok x) P Q weaker holds = weaker x holds
if_ok (Err e) P Q weaker holds = holds

pub item_there : {X : Type 0} (xs : List X) (i : ℕ) (P : X → Type 0) (d : X) → IsSomeAnd (slice_get xs i) P → (i < length xs) × P (get_or xs i d)
item_there [] i P d none = absurd none
item_there (x ∷ xs) zero P d holds = (omega arith, holds)
item_there (x ∷ xs) (suc i) P d holds =
    let rest = item_there xs i P d holds in
    let within = rest.0 in
    (omega (arith, within), rest.1)

pub place_within : {X : Type 0} (xs : List X) (i : ℕ) (P : X → Type 0) → IsSomeAnd (slice_get xs i) P → i < length xs
place_within [] i P none = absurd none
place_within (x ∷ xs) zero P holds = omega arith
place_within (x ∷ xs) (suc i) P holds = let rest = place_within xs i P holds in omega (arith, rest)
