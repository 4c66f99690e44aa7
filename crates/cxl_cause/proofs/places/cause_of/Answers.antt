use Rattle.std.proofs.Common.{◌≡◌, ℕ, true, false, None, refl, sym, ◌∙◌, inl, inr, arith}
use Rattle.std.specs.Prelude.{slice_get, ◌==◌, nat_lt}
use Rattle.std.proofs.lemmas.Bool.{eq-eqb, ne_eqb, lt-ltb, le-ltb, cases_Bool}
use Rattle.std.proofs.lemmas.Option.{slice_get_past}
use Rattle.cxl_cause.specs.Causes.{cause_at}
use Rattle.cxl_cause.proofs.places.cause_of.Goals as goal

pub returns-then-place-eq1 : goal.returns-then-place-eq1
unfolding cause_at
returns-then-place-eq1 c =
    let first : (c.args.place.now.rule == 1) ≡ true = eq-eqb c.args.place.now.rule 1 c.if-place-eq1.true in
    c.caps_cause.ensures ∙ sym (rw first refl)

pub returns-then-place-count : goal.returns-then-place-count
unfolding cause_at
returns-then-place-count c =
    let rule : ℕ = c.args.place.now.rule in
    let later : (rule == 1) ≡ false = ne_eqb rule 1 c.if-place-eq1.false in
    let none : slice_get c.args.host.now.image.now c.args.place.now.node ≡ None = slice_get_past c.args.host.now.image.now c.args.place.now.node (omega (arith, c.if-place-count.true, c.count.ensures.count)) in
    elim (cases_Bool (nat_lt rule 9)) [
      | inl early ↦ rw (later, early, none) refl
      | inr late ↦ rw (later, late, none) refl
    ]

pub returns-then-place-lt9 : goal.returns-then-place-lt9
unfolding cause_at
returns-then-place-lt9 c =
    let rule : ℕ = c.args.place.now.rule in
    let later : (rule == 1) ≡ false = ne_eqb rule 1 c.if-place-eq1.false in
    let early : nat_lt rule 9 ≡ true = lt-ltb rule 9 c.if-place-lt9.true in
    c.block_cause.ensures ∙ sym (rw (later, early) refl)

pub returns-then-place-count-2 : goal.returns-then-place-count-2
unfolding cause_at
returns-then-place-count-2 c =
    let rule : ℕ = c.args.place.now.rule in
    let later : (rule == 1) ≡ false = ne_eqb rule 1 c.if-place-eq1.false in
    let late : nat_lt rule 9 ≡ false = le-ltb rule 9 (omega (arith, c.if-place-lt9.false)) in
    let none : slice_get c.block-block.result.now.decoders c.args.place.now.decoder ≡ None = slice_get_past c.block-block.result.now.decoders c.args.place.now.decoder (omega (arith, c.if-place-count-2.true, c.count-2.ensures.value)) in
    rw (later, late, c.block-block.ensures.value, none) refl

pub returns-then-not-d : goal.returns-then-not-d
unfolding cause_at
returns-then-not-d c =
    let rule : ℕ = c.args.place.now.rule in
    let later : (rule == 1) ≡ false = ne_eqb rule 1 c.if-place-eq1.false in
    let late : nat_lt rule 9 ≡ false = le-ltb rule 9 (omega (arith, c.if-place-lt9.false)) in
    rw (later, late, c.block-block.ensures.value, c.decoder-d.ensures.value, c.if-not-d.true) refl

pub returns : goal.returns
unfolding cause_at
returns c =
    let rule : ℕ = c.args.place.now.rule in
    let later : (rule == 1) ≡ false = ne_eqb rule 1 c.if-place-eq1.false in
    let late : nat_lt rule 9 ≡ false = le-ltb rule 9 (omega (arith, c.if-place-lt9.false)) in
    c.range_cause.ensures ∙ sym (rw (later, late, c.block-block.ensures.value, c.decoder-d.ensures.value, c.if-not-d.false) refl)
