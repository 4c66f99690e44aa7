-- Pieces of 256 bytes, by what the laws of regions say of bytes.
use Rattle.std.proofs.Common.{◌≡◌, ℕ, ◌+◌, ◌-◌, ◌*◌, ◌/◌, ◌%◌, ◌<◌, ◌≤◌, sym, subst, ◌∙◌, inl, inr, arith}
use Rattle.std.proofs.lemmas.Bool.{cases_lt}
use Rattle.cxl_window.specs.Fields.{WindowFields}
use Rattle.cxl_model.specs.declared.found.Found.{Found}
use Rattle.cxl_model.specs.Regions.{Carries}
use Rattle.cxl_model.specs.Bytes.{LiesInSpan}
use Rattle.cxl_move.specs.Sides.{IsPieceAt}

-- what they say of where one region carries its bytes
pub record CarryLaws (found : Found) (w : WindowFields) : Type 0 where
  pub each : (h : ℕ) → found.base ≤ h → h < found.base + found.size → (endpoint : ℕ) × (dpa : ℕ) × Carries found w h endpoint dpa
  pub one : (h endpoint dpa other place : ℕ) → Carries found w h endpoint dpa → Carries found w h other place → (endpoint ≡ other) × (dpa ≡ place)
  pub apart : (h other endpoint dpa : ℕ) → Carries found w h endpoint dpa → Carries found w other endpoint dpa → h ≡ other
  pub inside : (h endpoint dpa : ℕ) → Carries found w h endpoint dpa → LiesInSpan found endpoint dpa
  pub onto : (endpoint dpa : ℕ) → LiesInSpan found endpoint dpa → (h : ℕ) × Carries found w h endpoint dpa
  pub aligned : (h endpoint dpa : ℕ) → Carries found w h endpoint dpa → dpa % 256 ≡ (h - found.base) % 256
  pub together : (h k endpoint dpa : ℕ) → Carries found w h endpoint dpa → (h - found.base) % 256 + k < 256 → Carries found w (h + k) endpoint (dpa + k)

module _ (found : Found) (w : WindowFields) (laws : CarryLaws found w) where
  -- a region has a whole number of pieces
  whole_size : 0 < found.size → found.size % 256 ≡ 0
  whole_size some =
      let last : ℕ = found.base + (found.size - 1) in
      let at = laws.each last (omega arith) (omega (arith, some)) in
      elim (cases_lt ((last - found.base) % 256 + 1) 256) [
        | inl more ↦
            let next = laws.together last 1 at.0 at.1 at.2 more in
            let past = next.below in
            absurd (omega (arith, some, past))
        | inr full ↦ let along : last - found.base ≡ found.size - 1 = omega arith in omega (arith, some, full, along)
      ]

  pub piece_within : (n endpoint block : ℕ) → IsPieceAt found w n endpoint block → n < found.size / 256
  piece_within n endpoint block at =
      let below = at.below in
      let whole = whole_size (omega (arith, below)) in
      omega (arith, below, whole)

  pub piece_each : (n : ℕ) → n < found.size / 256 → (endpoint : ℕ) × (block : ℕ) × IsPieceAt found w n endpoint block
  piece_each n within =
      let h : ℕ = found.base + 256 * n in
      let at = laws.each h (omega arith) (omega (arith, within)) in
      let even : at.1 % 256 ≡ 0 = laws.aligned h at.0 at.1 at.2 ∙ omega arith in
      (at.0, at.1 / 256, subst (Carries found w h at.0) (omega (arith, even)) at.2)

  pub piece_one : (n endpoint block other place : ℕ) → IsPieceAt found w n endpoint block → IsPieceAt found w n other place → (endpoint ≡ other) × (block ≡ place)
  piece_one n endpoint block other place at also =
      let same = laws.one (found.base + 256 * n) endpoint (256 * block) other (256 * place) at also in
      (same.0, omega (arith, same.1))

  pub piece_apart : (n other endpoint block : ℕ) → IsPieceAt found w n endpoint block → IsPieceAt found w other endpoint block → n ≡ other
  piece_apart n other endpoint block at also =
      let same = laws.apart (found.base + 256 * n) (found.base + 256 * other) endpoint (256 * block) at also in
      omega (arith, same)

  pub piece_onto : (endpoint block : ℕ) → LiesInSpan found endpoint (256 * block) → (n : ℕ) × IsPieceAt found w n endpoint block
  piece_onto endpoint block lies =
      let at = laws.onto endpoint (256 * block) lies in
      let from = at.1.from in
      let even : (at.0 - found.base) % 256 ≡ 0 = sym (laws.aligned at.0 endpoint (256 * block) at.1) ∙ omega arith in
      let same : at.0 ≡ found.base + 256 * ((at.0 - found.base) / 256) = omega (arith, from, even) in
      ((at.0 - found.base) / 256, subst (λ (h : ℕ). Carries found w h endpoint (256 * block)) same at.1)
