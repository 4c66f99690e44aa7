-- The next address that is a multiple of 768 MiB from a window's base.
use Rattle.std.proofs.Common.{◌≡◌, ℕ, ◌+◌, ◌-◌, ◌*◌, ◌/◌, ◌%◌, ◌<◌, ◌||◌, not, Bool, true, false, refl, ap, ◌∙◌, arith}
use Rattle.std.specs.Prelude.{◌==◌}
use Rattle.std.proofs.Math.Nat.{mod-lt, div-add-mod, mul-mod_right, mul_comm}
use Rattle.std.proofs.lemmas.Bool.{eq-eqb}
use Rattle.cxl_enc.specs.Limits.{unit}
use Rattle.cxl_regs.specs.declared.reading.Range.{Range}
use Rattle.cxl_window.specs.Fields.{WindowFields}
use Rattle.cxl_model.specs.Rules.{starts_in_thirds}
use Rattle.cxl_cause.specs.RangeCauses.{next_third}

module _ (w : WindowFields) (r : Range) where
  abbrev turns : ℕ
  turns = (r.base - w.base) / (3 * unit)

  past_is : next_third w r - w.base ≡ (3 * unit) * (turns + 1)
  past_is = behind w.base ((turns + 1) * (3 * unit)) ∙ mul_comm (turns + 1) (3 * unit)
    where
      behind : (a b : ℕ) → a + b - a ≡ b
      behind a b = omega arith

  even : (next_third w r - w.base) % (3 * unit) ≡ 0
  even = ap (λ (k : ℕ). k % (3 * unit)) past_is ∙ mul-mod_right (3 * unit) (turns + 1)

  pub next_starts : starts_in_thirds w (record { base = next_third w r; size = r.size }) ≡ true
  next_starts = rw (eq-eqb ((next_third w r - w.base) % (3 * unit)) 0 even) (or_true (not (w.ways % 3 == 0)))
    where
      or_true : (b : Bool) → (b || true) ≡ true
      or_true true = refl
      or_true false = refl

  pub next_past : r.base < next_third w r
  next_past =
      let parts : (3 * unit) * turns + (r.base - w.base) % (3 * unit) ≡ r.base - w.base = div-add-mod (r.base - w.base) (3 * unit) in
      let rest : (r.base - w.base) % (3 * unit) < 3 * unit = mod-lt (r.base - w.base) (omega arith) in
      omega (arith, parts, rest)
