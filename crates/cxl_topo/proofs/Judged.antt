-- What the tests of a node say, one after another.
use Rattle.std.proofs.Common.{◌≡◌, ℕ, zero, suc, ◌+◌, ◌*◌, ◌<◌, ◌≤◌, Bool, true, false, List, [], ◌∷◌, length, get_or, Option, Some, None, refl, sym, ap, ◌∙◌, inl, inr, arith}
use Rattle.std.specs.Prelude.{slice_get, count_by, take, nat_le, nat_lt, if◌then◌else◌}
use Rattle.std.specs.Option.{option_map_or}
use Rattle.std.proofs.lemmas.Bool.{cases_lt, or_parts, ltb-false}
use Rattle.std.proofs.lemmas.Option.{get_or_from_slice_get}
use Rattle.std.proofs.lemmas.Bool.Decides.{nat_tests}
use Rattle.cxl_topo.specs.declared.node.Node.{Node}
use Rattle.cxl_topo.specs.declared.node.Parent.{Parent}
use Rattle.cxl_topo.specs.declared.node.NodeKind.TheVariants.{Switch}
use Rattle.cxl_topo.specs.declared.fault.TreeFault.{TreeFault}
use Rattle.cxl_topo.specs.declared.fault.TreeFault.TheVariants as faults
use Rattle.cxl_topo.specs.Tree.{parent_of, path_of, ports_above}
use Rattle.cxl_topo.specs.Kinds.{is_bridge}
use Rattle.cxl_topo.specs.Faults.{lacks_parent, is_too_deep, switches_above, are_too_many, fits, turn_of, NoneBefore, IsFirstTreeFault}
use Rattle.cxl_topo.specs.inner.Judging.{first_of, tests_of}
use Rattle.cxl_topo.proofs.Sound.{no_lack}
use Rattle.cxl_topo.proofs.PathsUp.{parent_under, length-ports_above, ports_above-more, ports_from, length-path_of}

-- ---- the depth

pub NoneBefore-less : (nodes : List Node) (m n : ℕ) → m ≤ n → NoneBefore nodes n → NoneBefore nodes m
NoneBefore-less nodes m n le none fault lt = none fault (omega arith)

pub parent_is : (nodes : List Node) (i : ℕ) (node : Node) (parent : Parent) → slice_get nodes i ≡ Some node → node.parent ≡ Some parent → parent_of nodes i ≡ Some parent
parent_is nodes i node parent here is = rw here is

pub parent_before : (nodes : List Node) (i : ℕ) (node : Node) (parent : Parent) → NoneBefore nodes (8 * i + 2) → slice_get nodes i ≡ Some node → node.parent ≡ Some parent → parent.node < i
parent_before nodes i node parent none here is = (parent_under nodes i parent (no_lack nodes (8 * i + 2) i none (omega arith) i (omega arith)) (parent_is nodes i node parent here is)).1.earlier

-- a switch is too deep where its parent's path has more than four nodes
pub deep_by_len : (nodes : List Node) (i : ℕ) (node : Node) (parent : Parent) → NoneBefore nodes (8 * i + 2) → slice_get nodes i ≡ Some node → node.kind ≡ Switch → node.parent ≡ Some parent → nat_lt 4 (length (path_of nodes parent.node)) ≡ is_too_deep nodes i node
deep_by_len nodes i node parent none here kind is =
    let sound = no_lack nodes (8 * i + 2) i none (omega arith) in
    let of = parent_is nodes i node parent here is in
    let long = length-ports_above nodes i sound (suc i) i parent (omega arith) (omega arith) of in
    let longer : length (ports_above nodes i) ≡ suc (length (ports_above nodes parent.node)) = ap length (ports_above-more nodes i sound i (omega arith) ∙ ap (ports_from nodes) of) in
    let len : length (path_of nodes parent.node) ≡ suc (switches_above nodes i) = length-path_of nodes i sound parent.node ∙ sym longer ∙ long in
    rw (kind, len) (go (switches_above nodes i))
  where
    go : (n : ℕ) → nat_lt 4 (suc n) ≡ nat_le 4 n
    go n = grind (arith, nat_tests)

-- ---- one test after another

abbrev pub nothing : Bool × TreeFault
nothing = (false, faults.Memory)

-- a fault that is found is that of the first test which holds
pub record IsFound (tests : List (Bool × TreeFault)) (fault : TreeFault) : Type 0 where
  pub place : ℕ
  pub below : place < length tests
  pub holds : get_or tests place nothing ≡ (true, fault)
  pub first : (k : ℕ) → k < place → (get_or tests k nothing).0 ≡ false

pub found : (tests : List (Bool × TreeFault)) (fault : TreeFault) → first_of tests ≡ Some fault → IsFound tests fault
found [] fault e = absurd cc
found ((true, own) ∷ tests) fault e = record {
  place = 0;
  below = omega arith;
  holds = cc;
  first = λ k lt. absurd (omega arith);
}
found ((false, own) ∷ tests) fault e =
    let later = found tests fault e in
    let below = later.below in
    record {
      place = suc later.place;
      below = omega arith;
      holds = later.holds;
      first = after later.place later.first;
    }
  where
    after : (place : ℕ) → ((k : ℕ) → k < place → (get_or tests k nothing).0 ≡ false) → (k : ℕ) → k < suc place → (get_or ((false, own) ∷ tests) k nothing).0 ≡ false
    after place first zero lt = refl
    after place first (suc k) lt = first k (omega arith)

pub not_found : (tests : List (Bool × TreeFault)) → first_of tests ≡ None → (k : ℕ) → k < length tests → (get_or tests k nothing).0 ≡ false
not_found [] e k lt = absurd (omega arith)
not_found ((true, own) ∷ tests) e k lt = absurd cc
not_found ((false, own) ∷ tests) e zero lt = refl
not_found ((false, own) ∷ tests) e (suc k) lt = not_found tests e k (omega arith)

module _ (nodes : List Node) (i : ℕ) (node : Node) (here : slice_get nodes i ≡ Some node) where
  -- the turn of each test's fault
  turn_at : (r : ℕ) → r < 8 → turn_of (get_or (tests_of nodes i node) r nothing).1 ≡ 8 * i + 1 + r
  turn_at zero lt = omega arith
  turn_at (suc zero) lt = omega arith
  turn_at (suc (suc zero)) lt = omega arith
  turn_at (suc (suc (suc zero))) lt = omega arith
  turn_at (suc (suc (suc (suc zero)))) lt = omega arith
  turn_at (suc (suc (suc (suc (suc zero))))) lt = omega arith
  turn_at (suc (suc (suc (suc (suc (suc zero)))))) lt = omega arith
  turn_at (suc (suc (suc (suc (suc (suc (suc zero))))))) lt = omega arith
  turn_at (suc (suc (suc (suc (suc (suc (suc (suc r)))))))) lt = absurd (omega arith)

  -- each test is what its fault says
  fits_at : (r : ℕ) → r < 8 → fits nodes (get_or (tests_of nodes i node) r nothing).1 ≡ (get_or (tests_of nodes i node) r nothing).0
  fits_at zero lt = rw here
  fits_at (suc zero) lt = rw here
  fits_at (suc (suc zero)) lt = rw here
  fits_at (suc (suc (suc zero))) lt = rw here
  fits_at (suc (suc (suc (suc zero)))) lt = rw here
  fits_at (suc (suc (suc (suc (suc zero))))) lt = ap (λ (o : Option Node). option_map_or (is_too_deep nodes i) o false) here
  fits_at (suc (suc (suc (suc (suc (suc zero)))))) lt = rw here
  fits_at (suc (suc (suc (suc (suc (suc (suc zero))))))) lt = rw here
  fits_at (suc (suc (suc (suc (suc (suc (suc (suc r)))))))) lt = absurd (omega arith)

  module _ (none : NoneBefore nodes (8 * i + 1)) (r : ℕ) (few : r ≤ 8) (pass : (k : ℕ) → k < r → (get_or (tests_of nodes i node) k nothing).0 ≡ false) where
    -- a fault whose turn is a node's p-th does not fit, up to the r-th of node i
    by_turn : (say : ℕ → TreeFault) (p : ℕ) → p < 8 → ((j : ℕ) → turn_of (say j) ≡ 8 * j + 1 + p) → say i ≡ (get_or (tests_of nodes i node) p nothing).1 → (j : ℕ) → turn_of (say j) < 8 * i + 1 + r → fits nodes (say j) ≡ false
    by_turn say p small turns own j lt =
        let turn = turns j in
        elim (cases_lt j i) [
          | inl earlier ↦ none (say j) (omega arith)
          | inr later ↦
              let same : i ≡ j = omega arith in
              let sooner : p < r = omega arith in
              ap (λ (k : ℕ). fits nodes (say k)) (sym same) ∙ ap (fits nodes) own ∙ fits_at p small ∙ pass p sooner
        ]

    none_up_to : NoneBefore nodes (8 * i + 1 + r)
    none_up_to faults.TooMany lt = none faults.TooMany (omega arith)
    none_up_to (faults.NoParent j) lt = by_turn faults.NoParent 0 (omega arith) (λ j. omega arith) refl j lt
    none_up_to (faults.PortTaken j) lt = by_turn faults.PortTaken 1 (omega arith) (λ j. omega arith) refl j lt
    none_up_to (faults.Forks j) lt = by_turn faults.Forks 2 (omega arith) (λ j. omega arith) refl j lt
    none_up_to (faults.NameTaken j) lt = by_turn faults.NameTaken 3 (omega arith) (λ j. omega arith) refl j lt
    none_up_to (faults.UidTaken j) lt = by_turn faults.UidTaken 4 (omega arith) (λ j. omega arith) refl j lt
    none_up_to (faults.Depth j) lt = by_turn faults.Depth 5 (omega arith) (λ j. omega arith) refl j lt
    none_up_to (faults.Caps j) lt = by_turn faults.Caps 6 (omega arith) (λ j. omega arith) refl j lt
    none_up_to (faults.Capacity j) lt = by_turn faults.Capacity 7 (omega arith) (λ j. omega arith) refl j lt
    none_up_to faults.Memory lt = refl

  -- where no test holds, no fault up to node i fits
  pub none_at : NoneBefore nodes (8 * i + 1) → first_of (tests_of nodes i node) ≡ None → NoneBefore nodes (8 * i + 9)
  none_at none e = NoneBefore-less nodes (8 * i + 9) (8 * i + 1 + 8) (omega arith) (none_up_to none 8 (omega arith) (not_found (tests_of nodes i node) e))

  -- the first test alone
  pub none_lacks : NoneBefore nodes (8 * i + 1) → lacks_parent (take i nodes) node ≡ false → NoneBefore nodes (8 * i + 2)
  none_lacks none passed = NoneBefore-less nodes (8 * i + 2) (8 * i + 1 + 1) (omega arith) (none_up_to none 1 (omega arith) only)
    where
      only : (k : ℕ) → k < 1 → (get_or (tests_of nodes i node) k nothing).0 ≡ false
      only zero lt = passed
      only (suc k) lt = absurd (omega arith)

  -- the first test that holds gives the first fault
  pub some_at : NoneBefore nodes (8 * i + 1) → (fault : TreeFault) → first_of (tests_of nodes i node) ≡ Some fault → IsFirstTreeFault nodes fault
  some_at none fault e =
      let one = found (tests_of nodes i node) fault e in
      let below = one.below in
      let own : (get_or (tests_of nodes i node) one.place nothing).1 ≡ fault = ap (λ (t : Bool × TreeFault). t.1) one.holds in
      let turn : turn_of fault ≡ 8 * i + 1 + one.place = ap turn_of (sym own) ∙ turn_at one.place below in
      record {
        holds = ap (fits nodes) (sym own) ∙ fits_at one.place below ∙ ap (λ (t : Bool × TreeFault). t.0) one.holds;
        first = rw turn (none_up_to none one.place (omega arith) one.first);
      }

-- a test that holds gives its fault
pub holds : {test : Bool} (fault others : Option TreeFault) → test ≡ true → (if test then fault else others) ≡ fault
holds fault others is = rw is

-- a test that does not leaves the answer to the others
pub passes : {test : Bool} (fault others : Option TreeFault) {result : Option TreeFault} → test ≡ false → others ≡ result → (if test then fault else others) ≡ result
passes fault others is answer = rw is answer

pub node_is : (nodes : List Node) (i : ℕ) (node own : Node) → i < length nodes → own ≡ get_or nodes i own → slice_get nodes i ≡ Some node → node ≡ own
node_is nodes i node own lt is here = sym (get_or_from_slice_get nodes i node own here) ∙ sym is

-- nodes that are not too many are few
pub few_nodes : (nodes : List Node) → are_too_many nodes ≡ false → length nodes ≤ 1024
few_nodes nodes few = ltb-false 1024 (length nodes) (or_parts (nat_lt 1024 (length nodes)) (nat_lt 64 (count_by (λ (node : Node). is_bridge node.kind) nodes)) few).0

-- before the first node only their number is judged
pub none_at_first : (nodes : List Node) → are_too_many nodes ≡ false → NoneBefore nodes 1
none_at_first nodes few faults.TooMany lt = few
none_at_first nodes few (faults.NoParent i) lt = absurd (omega arith)
none_at_first nodes few (faults.PortTaken i) lt = absurd (omega arith)
none_at_first nodes few (faults.Forks i) lt = absurd (omega arith)
none_at_first nodes few (faults.NameTaken i) lt = absurd (omega arith)
none_at_first nodes few (faults.UidTaken i) lt = absurd (omega arith)
none_at_first nodes few (faults.Depth i) lt = absurd (omega arith)
none_at_first nodes few (faults.Caps i) lt = absurd (omega arith)
none_at_first nodes few (faults.Capacity i) lt = absurd (omega arith)
none_at_first nodes few faults.Memory lt = refl
