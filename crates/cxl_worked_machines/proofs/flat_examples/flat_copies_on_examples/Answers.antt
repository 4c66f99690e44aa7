use Rattle.std.proofs.Common.{◌≡◌, ℕ, ◌+◌, ◌<◌, Some, inl, refl, sym, ◌∙◌, subst, arith}
use Rattle.std.proofs.lemmas.Option.{same_Some}
use Rattle.cxl_model.specs.Contents.{Contents}
use Rattle.cxl_machine.specs.Machine.{Live}
use Rattle.cxl_flat.specs.Memory.{byte_of, LiesBeside, AreNamed, HasBytesOf}
use Rattle.cxl_worked_machines.specs.Examples.{with_both, region_r0, region_b, r0, b, nothing, first_byte}
use Rattle.cxl_worked_machines.proofs.ExampleFlat.{eleven_first, first_differs, second_has, first_is_zero, beside_second, beside_both, r0_and_b, both_named, are_both}
use Rattle.cxl_worked_machines.proofs.flat_examples.flat_copies_on_examples.Goals as goal

module _ (one two left : Contents) (from to : Live) (named : AreNamed (with_both 2 one two) r0_and_b from to) where
  are : (region_r0 one ≡ from) × (region_b two ≡ to)
  are = are_both one two from to named

  has : HasBytesOf (with_both 2 one two) (with_both 2 left one) from to
  has =
      subst (λ (f : Live). HasBytesOf (with_both 2 one two) (with_both 2 left one) f to) are.0
      (subst (λ (t : Live). HasBytesOf (with_both 2 one two) (with_both 2 left one) (region_r0 one) t) are.1 (second_has one two left))

  beside_first : (h : ℕ) → LiesBeside h from.found.base from.found.size → LiesBeside h 0x100000000 0x20000000
  beside_first h beside = subst (λ (r : Live). LiesBeside h r.found.base r.found.size) (sym are.0) beside

  beside_other : (h : ℕ) → LiesBeside h to.found.base to.found.size → LiesBeside h 0x120000000 0x20000000
  beside_other h beside = subst (λ (r : Live). LiesBeside h r.found.base r.found.size) (sym are.1) beside

pub returns-clause-copied : goal.returns-clause-copied
returns-clause-copied c = record {
  bytes = λ told from to is named. has first_byte nothing first_byte from to named;
  others = λ from to h named beside. beside_second first_byte nothing first_byte h (beside_other first_byte nothing first_byte from to named h beside);
}

pub returns-clause-not_copied : goal.returns-clause-not_copied
returns-clause-not_copied c flat =
    first_differs (same_Some _ _ (flat.bytes (record { from = r0; to = b; pieces = 1 }) (region_r0 first_byte) (region_b nothing) refl (both_named first_byte nothing) 0 (omega arith)))

pub returns-clause-not_taken : goal.returns-clause-not_taken
returns-clause-not_taken c flat =
    first_differs (same_Some _ _ (flat.others (region_r0 first_byte) (region_b nothing) 0x100000000 (both_named first_byte nothing) (inl (omega arith))))

pub returns-clause-moved : goal.returns-clause-moved
returns-clause-moved c = record {
  bytes = λ told from to is named. has first_byte nothing nothing from to named;
  zeros = λ told from to k is named below. zeros from to named k below;
  others = λ from to h named first second.
      beside_both first_byte nothing nothing first_byte h (beside_first first_byte nothing nothing from to named h first) (beside_other first_byte nothing nothing from to named h second);
}
  where
    zeros : (from to : Live) → AreNamed (with_both 2 first_byte nothing) r0_and_b from to → (k : ℕ) → k < from.found.size → byte_of (with_both 2 nothing first_byte) (from.found.base + k) ≡ Some 0
    zeros from to named =
        subst (λ (r : Live). (k : ℕ) → k < r.found.size → byte_of (with_both 2 nothing first_byte) (r.found.base + k) ≡ Some 0) (are first_byte nothing nothing from to named).0
        (first_is_zero first_byte)

pub returns-clause-not_moved : goal.returns-clause-not_moved
returns-clause-not_moved c flat =
    first_differs (same_Some _ _ (flat.bytes (record { from = r0; to = b; pieces = 1 }) (region_r0 first_byte) (region_b nothing) refl (both_named first_byte nothing) 0 (omega arith)))

pub returns-clause-not_kept : goal.returns-clause-not_kept
returns-clause-not_kept c flat =
    let wrong : 0x11 ≡ 0 = sym eleven_first ∙ same_Some _ _ (flat.zeros (record { from = r0; to = b; pieces = 1 }) (region_r0 first_byte) (region_b nothing) 0 refl (both_named first_byte nothing) (omega arith)) in
    omega (arith, wrong)
