use Rattle.std.proofs.Common.{◌≡◌, zero, suc, List, [], ◌∷◌, length, inl, inr, refl, sym, ap, ◌∙◌, subst, arith}
use Rattle.std.specs.Prelude.{Contains}
use Rattle.cxl_model.specs.Contents.{Contents}
use Rattle.cxl_machine.specs.Machine.{Live, Machine, kept_regions}
use Rattle.cxl_flat.specs.Memory.{IsNew, KeepsBytes}
use Rattle.cxl_worked_machines.specs.Examples.{with_r0, releasing, region_r0, region_b, r0, b, nothing, first_byte}
use Rattle.cxl_worked_machines.proofs.ExampleFlat.{contents_differ, is_r0, r0_there, none_there}
use Rattle.cxl_worked_machines.proofs.flat_examples.kept_bytes_on_examples.Goals as goal

-- the two names differ, and so the regions
names_differ : ¬ (r0 ≡ b)
names_differ same = let wrong : 2 ≡ 1 = ap length same in omega (arith, wrong)

not_b : (one two : Contents) → ¬ (Contains (region_r0 one ∷ []) (region_b two))
not_b one two there = names_differ (ap (λ (r : Live). r.name) (is_r0 one (region_b two) there))

-- a region that has the name is not new
not_new : (m : Machine) (one two : Contents) → Contains (kept_regions m) (region_r0 one) → ¬ (IsNew m (region_r0 two))
not_new m one two there new = new.name (region_r0 one) there refl

-- the region's bytes are others
zeroed : Contains (region_r0 first_byte ∷ []) (region_r0 nothing) → ⊥
zeroed there = contents_differ (sym (ap (λ (r : Live). r.contents) (is_r0 first_byte (region_r0 nothing) there)))

not_zeroed : (m after : Machine) → kept_regions m ≡ region_r0 first_byte ∷ [] → kept_regions after ≡ region_r0 nothing ∷ [] → ¬ (KeepsBytes m after)
not_zeroed m after was is keeps =
    elim (keeps (region_r0 nothing) (subst (λ (regions : List Live). Contains regions (region_r0 nothing)) (sym is) (r0_there nothing))) [
      | inl there ↦ zeroed (subst (λ (regions : List Live). Contains regions (region_r0 nothing)) was there)
      | inr new ↦ not_new m first_byte nothing (subst (λ (regions : List Live). Contains regions (region_r0 first_byte)) (sym was) (r0_there first_byte)) new
    ]

pub returns-clause-stays : goal.returns-clause-stays
returns-clause-stays c region there = inl there

b_is_new : IsNew (with_r0 first_byte) (region_b nothing)
b_is_new = record { name = λ other there same. names_differ (ap (λ (r : Live). r.name) (is_r0 first_byte other there) ∙ same); zeros = refl }

pub returns-clause-made : goal.returns-clause-made
returns-clause-made c region (zero, low, read) = inl (0, omega arith, read)
returns-clause-made c region (suc zero, low, read) = inr (subst (IsNew (with_r0 first_byte)) read b_is_new)
returns-clause-made c region (suc (suc k), low, read) = absurd (omega (arith, low))

pub returns-clause-ended : goal.returns-clause-ended
returns-clause-ended c region there = absurd (none_there region there)

pub returns-clause-releasing : goal.returns-clause-releasing
returns-clause-releasing c region there = inl there

pub returns-clause-aborted : goal.returns-clause-aborted
returns-clause-aborted c region there = inl there

pub returns-clause-not_stored : goal.returns-clause-not_stored
returns-clause-not_stored c keeps =
    elim (keeps (region_r0 first_byte) (r0_there first_byte)) [
      | inl there ↦ contents_differ (ap (λ (r : Live). r.contents) (is_r0 nothing (region_r0 first_byte) there))
      | inr new ↦ contents_differ (sym new.zeros)
    ]

pub returns-clause-not_zeroed : goal.returns-clause-not_zeroed
returns-clause-not_zeroed c = not_zeroed (with_r0 first_byte) (with_r0 nothing) refl refl

pub returns-clause-not_made_with_bytes : goal.returns-clause-not_made_with_bytes
returns-clause-not_made_with_bytes c keeps =
    elim (keeps (region_b first_byte) (1, omega arith, refl)) [
      | inl there ↦ not_b nothing first_byte there
      | inr new ↦ contents_differ (sym new.zeros)
    ]

pub returns-clause-not_zeroed_in_release : goal.returns-clause-not_zeroed_in_release
returns-clause-not_zeroed_in_release c = not_zeroed (with_r0 first_byte) (releasing nothing 1) refl refl

pub returns-clause-not_zeroed_by_abort : goal.returns-clause-not_zeroed_by_abort
returns-clause-not_zeroed_by_abort c = not_zeroed (releasing first_byte 1) (with_r0 nothing) refl refl
