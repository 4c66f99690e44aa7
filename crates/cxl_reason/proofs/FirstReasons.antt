-- A reason is the first where none before it holds.
use Rattle.std.proofs.Common.{◌≡◌, ℕ, ◌<◌, ◌≤◌, true, false, List, sym, ◌∙◌, inl, inr, arith}
use Rattle.std.proofs.lemmas.Bool.{cases_lt, false≢true}
use Rattle.cxl_enc.specs.Bits.{window_fixed}
use Rattle.cxl_regs.specs.Words.{has_bit}
use Rattle.cxl_window.specs.Fields.{WindowFields}
use Rattle.cxl_window.specs.Position.{is_usable}
use Rattle.cxl_model.specs.System.{System}
use Rattle.cxl_model.specs.Rules.{permits}
use Rattle.cxl_legal.specs.Windows.{agrees_on_gran}
use Rattle.cxl_pick.specs.declared.want.Want.{Want}
use Rattle.cxl_reason.specs.declared.reason.SetReason.{SetReason}
use Rattle.cxl_reason.specs.declared.reason.SetReason.TheVariants as reasons
use Rattle.cxl_reason.specs.Reasons.{count_there, HasCodes, SaysOfSets, turn_of_reason}
use Rattle.cxl_reason.proofs.Fresh.{OpenParts}

-- none of the first so many reasons holds
pub record NoneBefore (s : System) (want : Want) (w : WindowFields) (turn : ℕ) : Type 0 where
  pub usable : 0 < turn → is_usable w.verdict ≡ true
  pub kind : 1 < turn → permits w want.kind ≡ true
  pub not_fixed : 2 < turn → has_bit w.restrict window_fixed ≡ false
  pub gran : 3 < turn → agrees_on_gran want.gran w ≡ true
  pub many : 4 < turn → want.ways ≤ count_there s want.kind w
  pub codes : 5 < turn → (set : List ℕ) × HasCodes s want w set
  pub few : turn ≤ 6

later : (turn own : ℕ) → (own < turn → ⊥) → turn ≤ own
later turn own none =
    elim (cases_lt own turn) [
      | inl before ↦ absurd (none before)
      | inr after ↦ after
    ]

pub first_at : (s : System) (want : Want) (w : WindowFields) (turn : ℕ) → NoneBefore s want w turn → (other : SetReason) → SaysOfSets s want w other → turn ≤ turn_of_reason other
first_at s want w turn none reasons.Unusable says = later turn 0 (λ before. false≢true (sym says ∙ none.usable before))
first_at s want w turn none reasons.Kind says = later turn 1 (λ before. false≢true (sym says ∙ none.kind before))
first_at s want w turn none reasons.Fixed says = later turn 2 (λ before. false≢true (sym (none.not_fixed before) ∙ says))
first_at s want w turn none reasons.Gran says = later turn 3 (λ before. false≢true (sym says ∙ none.gran before))
first_at s want w turn none (reasons.Few count) says =
    later turn 4 (λ before.
    let many = none.many before in
    let told = says.0 in
    let fewer = says.1 in
    omega (arith, many, told, fewer))
first_at s want w turn none reasons.NoCodes says = later turn 5 (λ before. let own = none.codes before in says own.0 own.1)
first_at s want w turn none (reasons.NoRoom largest) says = none.few

-- ---- with what is known of a window

module _ (s : System) (want : Want) (w : WindowFields) where
  pub none_0 : NoneBefore s want w 0
  none_0 = record {
    usable = λ l. absurd (omega (arith, l));
    kind = λ l. absurd (omega (arith, l));
    not_fixed = λ l. absurd (omega (arith, l));
    gran = λ l. absurd (omega (arith, l));
    many = λ l. absurd (omega (arith, l));
    codes = λ l. absurd (omega (arith, l));
    few = omega arith;
  }

  pub none_1 : is_usable w.verdict ≡ true → NoneBefore s want w 1
  none_1 usable = record {
    usable = λ _. usable;
    kind = λ l. absurd (omega (arith, l));
    not_fixed = λ l. absurd (omega (arith, l));
    gran = λ l. absurd (omega (arith, l));
    many = λ l. absurd (omega (arith, l));
    codes = λ l. absurd (omega (arith, l));
    few = omega arith;
  }

  pub none_2 : is_usable w.verdict ≡ true → permits w want.kind ≡ true → NoneBefore s want w 2
  none_2 usable kind = record {
    usable = λ _. usable;
    kind = λ _. kind;
    not_fixed = λ l. absurd (omega (arith, l));
    gran = λ l. absurd (omega (arith, l));
    many = λ l. absurd (omega (arith, l));
    codes = λ l. absurd (omega (arith, l));
    few = omega arith;
  }

  pub none_3 : is_usable w.verdict ≡ true → permits w want.kind ≡ true → has_bit w.restrict window_fixed ≡ false → NoneBefore s want w 3
  none_3 usable kind not_fixed = record {
    usable = λ _. usable;
    kind = λ _. kind;
    not_fixed = λ _. not_fixed;
    gran = λ l. absurd (omega (arith, l));
    many = λ l. absurd (omega (arith, l));
    codes = λ l. absurd (omega (arith, l));
    few = omega arith;
  }

  pub none_4 : OpenParts want w → NoneBefore s want w 4
  none_4 parts = record {
    usable = λ _. parts.usable;
    kind = λ _. parts.kind;
    not_fixed = λ _. parts.not_fixed;
    gran = λ _. parts.gran;
    many = λ l. absurd (omega (arith, l));
    codes = λ l. absurd (omega (arith, l));
    few = omega arith;
  }

  pub none_5 : OpenParts want w → want.ways ≤ count_there s want.kind w → NoneBefore s want w 5
  none_5 parts many = record {
    usable = λ _. parts.usable;
    kind = λ _. parts.kind;
    not_fixed = λ _. parts.not_fixed;
    gran = λ _. parts.gran;
    many = λ _. many;
    codes = λ l. absurd (omega (arith, l));
    few = omega arith;
  }

  pub none_6 : OpenParts want w → want.ways ≤ count_there s want.kind w → (set : List ℕ) × HasCodes s want w set → NoneBefore s want w 6
  none_6 parts many codes = record {
    usable = λ _. parts.usable;
    kind = λ _. parts.kind;
    not_fixed = λ _. parts.not_fixed;
    gran = λ _. parts.gran;
    many = λ _. many;
    codes = λ _. codes;
    few = omega arith;
  }
