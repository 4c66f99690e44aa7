-- The last break of a script but for its last byte, as a search finds it, is where its last line begins.
use Rattle.std.proofs.Common.{◌≡◌, ◌∙◌, ℕ, ◌+◌, ◌-◌, ◌<◌, true, false, List, [], ◌∷◌, length, take, get_or, Some, None, inl, inr, refl, sym, ap, arith}
use Rattle.std.specs.Prelude.{◌==◌}
use Rattle.std.proofs.lemmas.Bool.Decides.{nat_tests}
use Rattle.std.proofs.lemmas.List.{get_or-take, length-take}
use Rattle.memchr.specs.Find.{IsLastByte, is_byte}
use Rattle.cxl_machine.specs.Machine.{Machine}
use Rattle.cxl_machine.specs.Scripts.{Turn}
use Rattle.cxl_machine.specs.Turns.{words_sent}
use Rattle.cxl_opening.specs.Opening.{endpoints_in, enabling}
use Rattle.cxl_topo.specs.declared.node.Node.{Node}
use Rattle.cxl_library.specs.Behind.{BeginsLastLine, HasCarriedOutScript, last_words}

-- a test that holds is an equation
is_break : (byte : ℕ) → is_byte 10 byte ≡ true → byte ≡ 10
is_break byte is = grind (arith, nat_tests)

module _ (script : List ℕ) (end : ℕ) (e : end ≡ length script - 1) where
  long : length (take end script) ≡ end
  long = let all = length-take end script in omega (arith, all, e)

  -- a byte before the end that is a break there passes the test here
  passes : (i : ℕ) → i < end → get_or script i 0 ≡ 10 → is_byte 10 (get_or (take end script) i 0) ≡ true
  passes i within is = ap (is_byte 10) (get_or-take end script i 0 within ∙ is)

  pub behind_break : (place : ℕ) → IsLastByte (is_byte 10) (take end script) (Some place) → BeginsLastLine script (place + 1)
  behind_break place last =
      let high = last.0.high in
      let all = long in
      let within : place < end = omega (arith, high, all) in
      let same : place + 1 - 1 ≡ place = omega arith in
      record {
        within = omega (arith, within, e);
        some = λ some. omega (arith, within, e);
        begins = inr (ap (λ (i : ℕ). get_or script i 0) same ∙ sym (get_or-take end script place 0 within) ∙ is_break _ last.1);
        unbroken = λ i low more is.
            last.0.after i low (omega (arith, more, e, all)) (passes i (omega (arith, more, e)) is);
      }

  pub at_front : IsLastByte (is_byte 10) (take end script) None → BeginsLastLine script 0
  at_front none =
      let all = long in
      record {
        within = omega arith;
        some = λ some. some;
        begins = inl refl;
        unbroken = λ i low more is. none i low (omega (arith, more, e, all)) (passes i (omega (arith, more, e)) is);
      }

-- ---- a script without a line

pub is_none : (n : ℕ) → true ≡ (n == 0) → n ≡ 0
is_none n is = grind (arith, nat_tests)

pub is_some : (n : ℕ) → false ≡ (n == 0) → 0 < n
is_some n is = grind (arith, nat_tests)

-- nothing was carried out
pub behind_none : (first : Machine) (script : List ℕ) → length script ≡ 0 → HasCarriedOutScript first script first []
behind_none first [] none = record {
  at = 0;
  begins = record { within = omega arith; some = λ some. some; begins = inl refl; unbroken = λ i low more is. omega (arith, more) };
  earlier = [];
  before = tt;
  answered = tt;
  last_is = refl;
  unfailed_before = refl;
  unfailed = refl;
}
behind_none first (byte ∷ bytes) none = absurd (omega (arith, none))

pub words_of_none : (script : List ℕ) → length script ≡ 0 → (nodes : List Node) (turns : List Turn) → last_words script nodes turns ≡ enabling (endpoints_in nodes)
words_of_none [] none nodes turns = refl
words_of_none (byte ∷ bytes) none nodes turns = absurd (omega (arith, none))

pub words_of_some : (script : List ℕ) → 0 < length script → (nodes : List Node) (turns : List Turn) → last_words script nodes turns ≡ words_sent turns
words_of_some [] some nodes turns = absurd (omega (arith, some))
words_of_some (byte ∷ bytes) some nodes turns = refl
