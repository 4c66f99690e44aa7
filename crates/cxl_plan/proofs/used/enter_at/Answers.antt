use Rattle.std.proofs.Common.{◌≡◌, ℕ, ◌<◌, Bool, true, false, ◌&&◌, if◌then◌else◌, List, length, get_or, set, sym, ap, ◌∙◌, inl, inr, arith}
use Rattle.std.specs.Prelude.{◌==◌}
use Rattle.std.proofs.lemmas.Bool.{cases_eq, eq-eqb, ne_eqb}
use Rattle.std.proofs.lemmas.List.{get_or-set_same, get_or-set_other}
use Rattle.cxl_plan.proofs.used.enter_at.Goals as goal

-- a count that is entered stands at its place, and the others stay
entered : (at : List ℕ) (place count port : ℕ) (own : Bool) → own ≡ true → length at ≡ 256 → port < 256
    → get_or (set at place count) port 0 ≡ (if own && (place == port) then count else get_or at port 0)
entered at place count port own is long low =
    elim (cases_eq port place) [
      | inl here ↦
          let within : place < length at = omega (arith, here, long, low) in
          let both : (own && (place == port)) ≡ true = rw is (eq-eqb place port (sym here)) in
          ap (λ (j : ℕ). get_or (set at place count) j 0) here ∙ get_or-set_same at place count 0 within ∙ sym (ap (λ (b : Bool). if b then count else get_or at port 0) both)
      | inr other ↦
          let neither : (own && (place == port)) ≡ false = rw is (ne_eqb place port (λ same. other (sym same))) in
          get_or-set_other at place port count 0 other ∙ sym (ap (λ (b : Bool). if b then count else get_or at port 0) neither)
    ]

pub returns-then-parent-node : goal.returns-then-parent-node
returns-then-parent-node c = λ port low.
    rw c.from.ensures
    (entered c.args.at.now c.args.parent.now.port c.args.count port (c.args.parent.now.node == c.args.node) (eq-eqb c.args.parent.now.node c.args.node c.if-parent-node.true) c.told-at low)
