-- Marks of landings, one node at a time.
use Rattle.std.proofs.Common.{◌≡◌, ℕ, ◌+◌, ◌<◌, Bool, true, false, ◌||◌, List, length, get_or, set, replicate, Some, refl, sym, ap, subst, ◌∙◌, inl, inr, arith}
use Rattle.std.specs.Prelude.{◌==◌}
use Rattle.std.specs.List.{list_any, range_with_len}
use Rattle.std.proofs.lemmas.Bool.{eq-eqb, ne_eqb, cases_eq, or_right}
use Rattle.std.proofs.lemmas.List.{get_or-set_same, get_or-set_other, get_or-replicate, length-set, length-replicate}
use Rattle.std.proofs.lemmas.Option.{slice_get-get_or}
use Rattle.cxl_enc.proofs.Tests.{or_false}
use Rattle.cxl_topo.specs.declared.node.Node.{Node}
use Rattle.cxl_check.specs.inner.Landings.{lands_at}
use Rattle.cxl_check.specs.inner.Firsts.{AreLandings}
use Rattle.cxl_check.proofs.Numbers.{any_more}

-- the marks of the landings of the nodes below b
pub record AreMarked (nodes : List Node) (b : ℕ) (landings : List Bool) : Type 0 where
  pub count : length landings ≡ length nodes
  pub marked : (k : ℕ) → k < length nodes → get_or landings k false ≡ list_any (lands_at nodes k) (range_with_len 0 b)

-- nothing is marked at first
pub not_marked : (nodes : List Node) (count : ℕ) (landings : List Bool) → count ≡ length nodes → landings ≡ replicate count false → AreMarked nodes 0 landings
not_marked nodes count landings whole is = record {
  count = ap length is ∙ length-replicate count false ∙ whole;
  marked = λ k low. ap (λ (bs : List Bool). get_or bs k false) is ∙ get_or-replicate count k false false (subst (λ (n : ℕ). k < n) (sym whole) low);
}

module _ (nodes : List Node) (b : ℕ) (old : List Bool) (marked : AreMarked nodes b old) where
  -- a node that is no bridge, or has no landing, marks nothing
  pub none_marked : ((n : ℕ) → lands_at nodes n b ≡ false) → AreMarked nodes (b + 1) old
  none_marked none = record {
    count = marked.count;
    marked = λ k below. marked.marked k below ∙ sym (any_more (lands_at nodes k) b ∙ rw (none k) (or_false (list_any (lands_at nodes k) (range_with_len 0 b))));
  }

  -- a bridge marks its landing
  pub one_marked : (m : ℕ) → m < length nodes → ((n : ℕ) → lands_at nodes n b ≡ (m == n)) → (new : List Bool) → new ≡ set old m true → AreMarked nodes (b + 1) new
  one_marked m inside lands new is = record {
    count = ap length is ∙ length-set old m true ∙ marked.count;
    marked = λ k below. ap (λ (bs : List Bool). get_or bs k false) is ∙ here k below ∙ sym (any_more (lands_at nodes k) b);
  }
    where
      here : (k : ℕ) → k < length nodes → get_or (set old m true) k false ≡ (list_any (lands_at nodes k) (range_with_len 0 b) || lands_at nodes k b)
      here k below =
          elim (cases_eq k m) [
            | inl same ↦
                let passes : lands_at nodes k b ≡ true = lands k ∙ eq-eqb m k (sym same) in
                let wide : m < length old = omega (arith, marked.count) in
                ap (λ (j : ℕ). get_or (set old m true) j false) same ∙ get_or-set_same old m true false wide ∙ sym (rw passes (or_right (list_any (lands_at nodes k) (range_with_len 0 b)) true refl))
            | inr other ↦
                let fails : lands_at nodes k b ≡ false = lands k ∙ ne_eqb m k (λ same. other (sym same)) in
                get_or-set_other old m k true false other ∙ marked.marked k below ∙ sym (rw fails (or_false (list_any (lands_at nodes k) (range_with_len 0 b))))
          ]

-- all bridges have marked theirs
pub all_marked : (nodes : List Node) (landings : List Bool) → AreMarked nodes (length nodes) landings → AreLandings nodes landings
all_marked nodes landings marked = record {
  count = marked.count;
  each = λ n below. slice_get-get_or landings n false (omega (arith, marked.count)) ∙ ap Some (marked.marked n below);
}
