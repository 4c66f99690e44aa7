-- The steps of the walk from a node up to its bridge.
use Rattle.std.proofs.Common.{◌≡◌, ℕ, suc, ◌+◌, ◌-◌, ◌*◌, ◌<◌, ◌≤◌, false, List, [], ◌∷◌, ◌++◌, length, get_or, take, drop, Option, Some, refl, sym, ap, subst, ◌∙◌, arith, append_assoc, add-one}
use Rattle.std.specs.Prelude.{replicate}
use Rattle.std.specs.Option.{option_and_then}
use Rattle.std.proofs.lemmas.List.{length-append, drop-take, take-replicate, take-take}
use Rattle.std.proofs.lemmas.Option.{slice_get-get_or}
use Rattle.cxl_topo.specs.declared.node.Node.{Node}
use Rattle.cxl_topo.specs.declared.node.Parent.{Parent}
use Rattle.cxl_topo.specs.Tree.{holds_at, parent_of, path_of}
use Rattle.cxl_topo.specs.Faults.{lacks_parent, NoneBefore}
use Rattle.cxl_topo.proofs.PathsUp.{path_from, height_of, height_falls, path_of-more, ports_above-few, length-path_of}
use Rattle.cxl_topo.proofs.Sound.{no_lack, shallow}

-- six numbers, with one more before the first five
abbrev pub before : ℕ → List ℕ → List ℕ
before n room = n ∷ get_or room 0 0 ∷ get_or room 1 0 ∷ get_or room 2 0 ∷ get_or room 3 0 ∷ get_or room 4 0 ∷ []

-- they are the first five of six
first_five : (n : ℕ) (room : List ℕ) → length room ≡ 6 → before n room ≡ n ∷ take 5 room
first_five n [] long = absurd (omega arith)
first_five n (a ∷ []) long = absurd (omega arith)
first_five n (a ∷ b ∷ []) long = absurd (omega arith)
first_five n (a ∷ b ∷ c ∷ []) long = absurd (omega arith)
first_five n (a ∷ b ∷ c ∷ d ∷ []) long = absurd (omega arith)
first_five n (a ∷ b ∷ c ∷ d ∷ e ∷ []) long = absurd (omega arith)
first_five n (a ∷ b ∷ c ∷ d ∷ e ∷ f ∷ rest) long = refl

-- the last of six zeros is dropped
zeros_before : (len : ℕ) (room : List ℕ) → len < 6 → length room ≡ 6 → drop len room ≡ replicate (6 - len) 0 → drop len (take 5 room) ≡ replicate (6 - (len + 1)) 0
zeros_before len room lt long zeros =
    let all : 5 ≡ len + (5 - len) = omega arith in
    let fewer : 6 - (len + 1) ≡ 5 - len = omega arith in
    let first : take 5 room ≡ take (len + (5 - len)) room = ap (λ (n : ℕ). take n room) all in
    let last : take (5 - len) (drop len room) ≡ replicate (5 - len) 0 = rw zeros (take-replicate (5 - len) (6 - len) 0 (omega arith)) in
    rw (first, drop-take, fewer) last

-- the nodes from the one at the port on down to node i are the first of the room, and the rest of it is zero
pub record IsWay (nodes : List Node) (i : ℕ) (at : Option Parent) (len : ℕ) (room : List ℕ) : Type 0 where
  pub long : length room ≡ 6
  pub some : 0 < len
  pub few : length (path_from nodes at) + len ≤ 6
  pub low : height_of at ≤ i
  pub path : path_from nodes at ++ take len room ≡ path_of nodes i
  pub zeros : drop len room ≡ replicate (6 - len) 0

pub parent_at : (nodes : List Node) (i : ℕ) (d : Node) → i < length nodes → parent_of nodes i ≡ (get_or nodes i d).parent
parent_at nodes i d lt = ap (option_and_then (λ (node : Node). node.parent)) (slice_get-get_or nodes i d lt)

module _ (nodes : List Node) (i : ℕ) (none : NoneBefore nodes (8 * i + 9)) where
  sound : (k : ℕ) → k ≤ i → holds_at nodes k (lacks_parent (take k nodes)) ≡ false
  sound = no_lack nodes (8 * i + 9) i none (omega arith)

  path_of-few : length (path_of nodes i) ≤ 6
  path_of-few =
      let few = ports_above-few nodes i sound i (omega arith) (λ k lt switch. shallow nodes (8 * i + 9) i none (omega arith) k (omega arith) switch) in
      omega (arith, length-path_of nodes i sound i)

  pub starts : (d : Node) → i < length nodes → IsWay nodes i (get_or nodes i d).parent 1 (i ∷ 0 ∷ 0 ∷ 0 ∷ 0 ∷ 0 ∷ [])
  starts d lt = subst (λ (o : Option Parent). IsWay nodes i o 1 (i ∷ 0 ∷ 0 ∷ 0 ∷ 0 ∷ 0 ∷ [])) (parent_at nodes i d lt) here
    where
      here : IsWay nodes i (parent_of nodes i) 1 (i ∷ 0 ∷ 0 ∷ 0 ∷ 0 ∷ 0 ∷ [])
      here =
          let more = path_of-more nodes i sound i (omega arith) in
          let parts = ap length more ∙ length-append (path_from nodes (parent_of nodes i)) (i ∷ []) in
          record {
            long = refl;
            some = omega arith;
            few = omega (arith, parts, path_of-few);
            low = height_falls nodes i sound i (omega arith);
            path = sym more;
            zeros = refl;
          }

  pub steps : (parent : Parent) (len : ℕ) (room : List ℕ) (d : Node) → parent.node < length nodes → IsWay nodes i (Some parent) len room → IsWay nodes i (get_or nodes parent.node d).parent (len + 1) (before parent.node room)
  steps parent len room d lt way = subst (λ (o : Option Parent). IsWay nodes i o (len + 1) (before parent.node room)) (parent_at nodes parent.node d lt) here
    where
      here : IsWay nodes i (parent_of nodes parent.node) (len + 1) (before parent.node room)
      here =
          let low = way.low in
          let few = way.few in
          let more = path_of-more nodes i sound parent.node (omega arith) in
          let parts = ap length more ∙ length-append (path_from nodes (parent_of nodes parent.node)) (parent.node ∷ []) in
          let falls = height_falls nodes i sound parent.node (omega arith) in
          let front = first_five parent.node room way.long in
          let small : len < 6 = omega (arith, parts) in
          let taken : take (len + 1) (before parent.node room) ≡ parent.node ∷ take len room = ap (take (len + 1)) front ∙ rw add-one (ap (λ (ns : List ℕ). parent.node ∷ ns) (take-take len 5 room (omega arith))) in
          let dropped : drop (len + 1) (before parent.node room) ≡ replicate (6 - (len + 1)) 0 = ap (drop (len + 1)) front ∙ ap (λ (n : ℕ). drop n (parent.node ∷ take 5 room)) (add-one len) ∙ zeros_before len room small way.long way.zeros in
          record {
            long = refl;
            some = omega arith;
            few = omega (arith, parts);
            low = omega arith;
            path = ap (λ (ns : List ℕ). path_from nodes (parent_of nodes parent.node) ++ ns) taken ∙ sym (append_assoc (path_from nodes (parent_of nodes parent.node)) (parent.node ∷ []) (take len room)) ∙ ap (λ (ns : List ℕ). ns ++ take len room) (sym more) ∙ way.path;
            zeros = dropped;
          }

  pub falls : (parent : Parent) (len : ℕ) (room : List ℕ) (d : Node) → parent.node < length nodes → IsWay nodes i (Some parent) len room → height_of (get_or nodes parent.node d).parent < height_of (Some parent)
  falls parent len room d lt way = subst (λ (o : Option Parent). height_of o < suc parent.node) (parent_at nodes parent.node d lt) here
    where
      here : height_of (parent_of nodes parent.node) < suc parent.node
      here =
          let low = way.low in
          let lower = height_falls nodes i sound parent.node (omega arith) in
          omega arith
