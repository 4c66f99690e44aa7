use Rattle.std.proofs.Common.{◌≡◌, ℕ, zero, suc, ◌<◌, List, [], ◌∷◌, length, get_or, take, Option, Some, false, sym, ap, subst, ◌∙◌, inl, inr}
use Rattle.std.specs.Prelude.{slice_get}
use Rattle.std.specs.Option.{option_map_or}
use Rattle.std.proofs.lemmas.Bool.{cases_lt, false≢true}
use Rattle.std.proofs.lemmas.Option.{none-some, same_Some, slice_get_past}
use Rattle.cxl_topo.specs.declared.node.Node.{Node}
use Rattle.cxl_topo.specs.Kinds.{is_bridge}
use Rattle.cxl_check.proofs.reach.uid_above.Goals as goal

-- the first of some items is the first of all
first_of : (count : ℕ) (xs : List ℕ) (n : ℕ) → slice_get (take count xs) 0 ≡ Some n → get_or xs 0 0 ≡ n
first_of zero xs n at = absurd (none-some n at)
first_of (suc count) [] n at = absurd (none-some n at)
first_of (suc count) (x ∷ xs) n at = same_Some x n at

pub node-requires : goal.node-requires
node-requires c =
    let nodes : List Node = c.args.topo.now.nodes in
    let first = c.path.ensures.leads.bridge in
    let n : ℕ = first.0 in
    let is = first_of c.path.result.len c.path.result.nodes n (ap (λ (xs : List ℕ). slice_get xs 0) c.path.ensures.path ∙ first.1) in
    subst (λ (k : ℕ). k < length nodes) (sym is)
    (elim (cases_lt n (length nodes)) [
      | inl within ↦ within
      | inr past ↦ absurd (false≢true (sym (ap (λ (o : Option Node). option_map_or (λ node. is_bridge node.kind) o false) (slice_get_past nodes n past)) ∙ first.2))
    ])
