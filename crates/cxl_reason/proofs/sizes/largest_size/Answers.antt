use Rattle.std.proofs.Common.{ℕ, ◌+◌, ◌-◌, ◌*◌, ◌/◌, ◌<◌, ◌≤◌, inl, inr, sym, ap, subst, ◌∙◌, arith}
use Rattle.std.specs.Prelude.{is_some}
use Rattle.std.proofs.lemmas.Bool.{cases_lt, false≢true}
use Rattle.cxl_enc.specs.Limits.{unit}
use Rattle.cxl_enc.proofs.Numbers.{times}
use Rattle.cxl_model.specs.Hosts.{as_system}
use Rattle.cxl_model.specs.System.{System}
use Rattle.cxl_legal.specs.Sizes.{IsSizeFor}
use Rattle.cxl_pick.specs.declared.want.Want.{Want}
use Rattle.cxl_pick.specs.Picking.{given_in}
use Rattle.cxl_pick.specs.inner.Wanted.{HasWaysAndSize}
use Rattle.cxl_reason.specs.Reasons.{with_size}
use Rattle.cxl_reason.specs.inner.Sizes.{GivesMost}
use Rattle.cxl_reason.proofs.Halving.{parts_size}
use Rattle.cxl_reason.proofs.sizes.largest_size.Goals as goal

middle_some : (least most : ℕ) → least < most → 0 < least + (most - least + 1) / 2
middle_some least most less = omega arith

middle_low : (least most : ℕ) → least < most → least + (most - least + 1) / 2 ≤ most
middle_low least most less = omega arith

middle_high : (least most : ℕ) → least < most → least ≤ least + (most - least + 1) / 2 - 1
middle_high least most less = omega arith

-- a size between two others is one that a region can have
middle_size : (want : Want) (least most : ℕ) → HasWaysAndSize want → least < most → most * (unit * want.ways) ≤ want.size
    → IsSizeFor ((least + (most - least + 1) / 2) * (unit * want.ways)) want.ways
middle_size want least most sound less low =
    parts_size want.ways (least + (most - least + 1) / 2) want.size sound.ways (middle_some least most less)
    (within (times (least + (most - least + 1) / 2) most (unit * want.ways) (unit * want.ways) (middle_low least most less) (omega arith)) low) sound.size.low
  where
    within : {a b c : ℕ} → a ≤ b → b ≤ c → a ≤ c
    within first second = omega (arith, first, second)

pub is_given_at-requires-clause-sound : goal.is_given_at-requires-clause-sound
is_given_at-requires-clause-sound c =
    let want : Want = c.args.want.now in
    subst (λ (n : ℕ). HasWaysAndSize (with_size want ((c.loop-least.least + (c.loop-least.most - c.loop-least.least + 1) / 2) * (unit * n)))) (sym c.from-part.ensures)
    (record { ways = c.requires.sound.ways; size = middle_size want c.loop-least.least c.loop-least.most c.requires.sound c.loop-least-test.true c.loop-least.invariant.1 })

pub loop-least-preserved-then-is_given_at : goal.loop-least-preserved-then-is_given_at
loop-least-preserved-then-is_given_at c =
    let s : System = as_system c.args.host.now in
    let want : Want = c.args.want.now in
    let middle : ℕ = c.loop-least.least + (c.loop-least.most - c.loop-least.least + 1) / 2 in (
      middle_low c.loop-least.least c.loop-least.most c.loop-least-test.true,
      c.loop-least.invariant.1,
      inr (record {
        legal = middle_size want c.loop-least.least c.loop-least.most c.requires.sound c.loop-least-test.true c.loop-least.invariant.1;
        gives = ap (λ (n : ℕ). is_some (given_in s (with_size want (middle * (unit * n))) c.args.w.now)) (sym c.from-part.ensures) ∙ sym c.is_given_at.ensures ∙ c.if-is_given_at.true;
      }),
      c.loop-least.invariant.3,
    )

pub loop-least-preserved : goal.loop-least-preserved
loop-least-preserved c =
    let s : System = as_system c.args.host.now in
    let want : Want = c.args.want.now in
    let middle : ℕ = c.loop-least.least + (c.loop-least.most - c.loop-least.least + 1) / 2 in
    let low = middle_low c.loop-least.least c.loop-least.most c.loop-least-test.true in
    let below = times (middle - 1) c.loop-least.most (unit * want.ways) (unit * want.ways) (omega (arith, low)) (omega arith) in
    let most = c.loop-least.invariant.1 in (
      middle_high c.loop-least.least c.loop-least.most c.loop-least-test.true,
      omega (arith, below, most),
      c.loop-least.invariant.2,
      λ parts above gives.
          let fails = ap (λ (n : ℕ). is_some (given_in s (with_size want (middle * (unit * n))) c.args.w.now)) (sym c.from-part.ensures) ∙ sym c.is_given_at.ensures ∙ c.if-is_given_at.false in
          let lower = c.requires.falls (parts * (unit * want.ways)) (middle * (unit * want.ways))
          (times middle parts (unit * want.ways) (unit * want.ways) (omega (arith, above)) (omega arith))
          (middle_size want c.loop-least.least c.loop-least.most c.requires.sound c.loop-least-test.true most) gives in
          false≢true (sym fails ∙ lower.gives),
    )

pub returns : goal.returns
returns c =
    let s : System = as_system c.args.host.now in
    let want : Want = c.args.want.now in
    subst (λ (n : ℕ). GivesMost s want c.args.w.now (c.loop-least.least * (unit * n))) (sym c.from-part.ensures)
    (elim c.loop-least.invariant.2 [
      | inl none ↦ absurd (c.if-least-eq0.false none)
      | inr gives ↦ record {
        gives = gives;
        most = λ parts other.
            elim (cases_lt c.loop-least.least parts) [
              | inl above ↦
                  let end = c.loop-least-test.false in
                  absurd (c.loop-least.invariant.3 parts (omega (arith, above, end)) other)
              | inr within ↦ times parts c.loop-least.least (unit * want.ways) (unit * want.ways) within (omega arith)
            ];
      }
    ])
