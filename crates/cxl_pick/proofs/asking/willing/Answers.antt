use Rattle.std.proofs.Common.{ℕ, ◌+◌, Bool, not, drop, filter, length, sym, ap, ◌∙◌, arith}
use Rattle.std.specs.Prelude.{◌==◌}
use Rattle.std.proofs.lemmas.Bool.{eq-eqb, ne_eqb}
use Rattle.cxl_pick.specs.inner.Gifts.{known_at}
use Rattle.cxl_pick.proofs.Walking.{count_step, count_skip, count_end}
use Rattle.cxl_pick.proofs.asking.willing.Goals as goal
use Rattle.cxl_pick.proofs.asking.willing.Goals.{then-known_at-ne0, else-known_at-ne0}

pub loop-child-preserved : goal.loop-child-preserved
loop-child-preserved c =
    let cs = c.args.children.now in
    let i : ℕ = c.loop-child.child-index in
    let p : ℕ → Bool = λ k. not (known_at c.args.gifts.now.known.items k c.args.share == 0) in
    let all : ℕ = length (filter p cs) in
    elim c.if-known_at-ne0.branch [
      | then-known_at-ne0 w ↦ (
        (λ k. w.willing-is k + length (filter p (drop (i + 1) cs)))
            ∙ count_step p i c.loop-child.willing all cs c.loop-child-test.true c.loop-child.invariant.0 (ap (λ (n : ℕ). not (n == 0)) (sym c.known_at.ensures) ∙ ap not (ne_eqb c.known_at.result 0 w.if-known_at-ne0.true)),
        omega (arith, w.willing-is, c.loop-child.invariant.1),
      )
      | else-known_at-ne0 w ↦ (
        (λ k. w.willing-is k + length (filter p (drop (i + 1) cs)))
            ∙ count_skip p i c.loop-child.willing all cs c.loop-child-test.true c.loop-child.invariant.0 (ap (λ (n : ℕ). not (n == 0)) (sym c.known_at.ensures) ∙ ap not (eq-eqb c.known_at.result 0 w.if-known_at-ne0.false)),
        omega (arith, w.willing-is, c.loop-child.invariant.1),
      )
    ]

pub returns : goal.returns
returns c =
    let cs = c.args.children.now in
    let p : ℕ → Bool = λ k. not (known_at c.args.gifts.now.known.items k c.args.share == 0) in
    count_end p c.loop-child.child-index c.loop-child.willing (length (filter p cs)) cs c.loop-child-test.false c.loop-child.invariant.0
