-- The way from a node that forwards down to its landing.
use Rattle.std.proofs.Common.{◌≡◌, ℕ, zero, suc, ◌+◌, ◌<◌, ◌≤◌, true, false, cond, List, length, get_or, Option, Some, None, refl, sym, ap, ◌∙◌, inl, inr, arith}
use Rattle.std.specs.Option.{option_and_then, option_map_or}
use Rattle.std.proofs.lemmas.Bool.{cases_Bool, cases_lt}
use Rattle.std.proofs.lemmas.Option.{slice_get_within, slice_get-get_or}
use Rattle.cxl_topo.specs.declared.node.Node.{Node}
use Rattle.cxl_topo.specs.declared.fault.TreeFault.TheVariants as faults
use Rattle.cxl_topo.specs.Tree.{forwards_at, stands_under, parent_of, least_child_of, landing_within, landing_of}
use Rattle.cxl_topo.specs.Faults.{IsTree}
use Rattle.cxl_topo.proofs.PathsUp.{parent_under}
use Rattle.cxl_topo.proofs.Earlier.{finds}
use Rattle.cxl_topo.proofs.Fitting.{tree_fits}
use Rattle.cxl_topo.proofs.There.{under_is}

-- a child comes after its parent
pub record IsLater (nodes : List Node) (n child : ℕ) : Type 0 where
  pub later : n < child
  pub below : child < length nodes

module _ (nodes : List Node) (tree : IsTree nodes) where
  pub child_later : (n child : ℕ) → least_child_of nodes n ≡ Some child → IsLater nodes n child
  child_later n child e =
      let at = finds (stands_under n) nodes child e in
      let own = under_is at.node n at.passes in
      let parent : parent_of nodes child ≡ Some own.0 = ap (option_and_then (λ (node : Node). node.parent)) at.there ∙ own.1 in
      let up = (parent_under nodes child own.0 (tree_fits nodes tree (faults.NoParent child)) parent).1 in
      let earlier = up.earlier in
      record { later = omega (arith, own.2); below = slice_get_within nodes child at.node at.there }

  -- what has no child past the last node is the least child
  pub least_or_none : (n : ℕ) (answer : Option ℕ) → (n < length nodes → answer ≡ least_child_of nodes n) → (length nodes ≤ n → answer ≡ None) → answer ≡ least_child_of nodes n
  least_or_none n answer within beyond = elim (cases_lt n (length nodes)) [
    | inl here ↦ within here
    | inr past ↦ beyond past ∙ none past (least_child_of nodes n) refl
  ]
    where
      none : length nodes ≤ n → (o : Option ℕ) → least_child_of nodes n ≡ o → None ≡ o
      none past None e = refl
      none past (Some child) e =
          let one = child_later n child e in
          let later = one.later in
          let below = one.below in
          absurd (omega arith)

  -- enough steps are enough
  landing_enough : (f g n : ℕ) → n < length nodes → length nodes ≤ n + f → length nodes ≤ n + g → landing_within f nodes n ≡ landing_within g nodes n
  landing_enough zero g n lt hf hg = absurd (omega arith)
  landing_enough (suc f) zero n lt hf hg = absurd (omega arith)
  landing_enough (suc f) (suc g) n lt hf hg =
      elim (cases_Bool (forwards_at nodes n)) [
        | inl forward ↦ rw forward (go (least_child_of nodes n) refl (landing_enough f g))
        | inr stays ↦ rw stays
      ]
    where
      go : (o : Option ℕ) → least_child_of nodes n ≡ o → ((k : ℕ) → k < length nodes → length nodes ≤ k + f → length nodes ≤ k + g → landing_within f nodes k ≡ landing_within g nodes k) → option_and_then (landing_within f nodes) o ≡ option_and_then (landing_within g nodes) o
      go None e again = refl
      go (Some child) e again =
          let next = child_later n child e in
          let later = next.later in
          again child next.below (omega arith) (omega arith)

  -- the landing of a node that forwards is that of its child
  pub landing_of-more : (n : ℕ) → n < length nodes → landing_of nodes n ≡ cond (forwards_at nodes n) (option_and_then (landing_of nodes) (least_child_of nodes n)) (Some n)
  landing_of-more n lt = go (length nodes) refl
    where
      go : (k : ℕ) → length nodes ≡ k → landing_within k nodes n ≡ cond (forwards_at nodes n) (option_and_then (landing_of nodes) (least_child_of nodes n)) (Some n)
      go zero e = absurd (omega arith)
      go (suc k) e = ap (λ (o : Option ℕ). cond (forwards_at nodes n) o (Some n)) (next (least_child_of nodes n) refl)
        where
          next : (o : Option ℕ) → least_child_of nodes n ≡ o → option_and_then (landing_within k nodes) o ≡ option_and_then (landing_of nodes) o
          next None none = refl
          next (Some child) is =
              let one = child_later n child is in
              let later = one.later in
              landing_enough k (length nodes) child one.below (omega arith) (omega arith)

  pub forwards_is : (n : ℕ) (d : Node) → n < length nodes → forwards_at nodes n ≡ (get_or nodes n d).forwards
  forwards_is n d lt = ap (λ (o : Option Node). option_map_or (λ (node : Node). node.forwards) o false) (slice_get-get_or nodes n d lt)

  -- a step of the walk down to a landing, and its two ends
  pub lands_further : (n child : ℕ) (d : Node) → n < length nodes → (get_or nodes n d).forwards ≡ true → least_child_of nodes n ≡ Some child → landing_of nodes child ≡ landing_of nodes n
  lands_further n child d lt forward is =
      let more = landing_of-more n lt in
      let here = forwards_is n d lt ∙ forward in
      sym (rw (here, is) at more)

  pub lands_here : (n : ℕ) (d : Node) → n < length nodes → (get_or nodes n d).forwards ≡ false → landing_of nodes n ≡ Some n
  lands_here n d lt stays =
      let more = landing_of-more n lt in
      let here = forwards_is n d lt ∙ stays in
      rw here at more

  pub lands_nowhere : (n : ℕ) (d : Node) → n < length nodes → (get_or nodes n d).forwards ≡ true → least_child_of nodes n ≡ None → landing_of nodes n ≡ None
  lands_nowhere n d lt forward is =
      let more = landing_of-more n lt in
      let here = forwards_is n d lt ∙ forward in
      rw (here, is) at more
