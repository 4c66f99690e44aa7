-- The places of the first broken rule, one by one.
use Rattle.std.proofs.Common.{◌≡◌, ℕ, ◌+◌, true, false, List, [], ◌∷◌, ◌++◌, map, take, get_or, Option, Some, None, refl, sym, ap, ◌∙◌, subst, inl, inr, arith}
use Rattle.std.specs.Prelude.{slice_get, ◌≢◌, All, is_some}
use Rattle.std.specs.Option.{option_map_or}
use Rattle.std.proofs.lemmas.Bool.{cases_lt, false≢true}
use Rattle.std.proofs.lemmas.Option.{none-some, slice_get_within, get_or_from_slice_get}
use Rattle.std.proofs.lemmas.List.{map-append, take_more}
use Rattle.std.proofs.lemmas.List.Elements.{All-nil, All-push}
use Rattle.cxl_enc.proofs.Lists.{All-at}
use Rattle.cxl_regs.specs.declared.decoder.Decoder.{Decoder}
use Rattle.cxl_regs.specs.Registers.{Registers}
use Rattle.cxl_regs.specs.Rules.{before}
use Rattle.cxl_span.specs.Spans.{span_start_of}
use Rattle.cxl_span.specs.Rules.{breaks_rule}
use Rattle.cxl_span.specs.Breaches.{breaks as block_breaks}
use Rattle.cxl_model.specs.System.{System, ram_at, pmem_at}
use Rattle.cxl_model.specs.Accepted.{breaks}
use Rattle.cxl_check.specs.declared.fault.Breach.{Breach}
use Rattle.cxl_check.specs.Breaches.{IsBreachOf, AreFirstBreaches}
use Rattle.cxl_cause.specs.declared.cause.Cause.{Cause}
use Rattle.cxl_cause.specs.declared.places.CausedBreach.{CausedBreach}
use Rattle.cxl_cause.specs.Causes.{cause_at, HasItsCause}

-- there is no rule 0
module _ (s : System) (n i : ℕ) where
  of_decoder : (block : Registers) (o : Option Decoder)
      → option_map_or (breaks_rule 0 block (ram_at s n) (pmem_at s n) (before block.decoders i) (span_start_of block.decoders i)) o false ≡ false
  of_decoder block None = refl
  of_decoder block (Some d) = refl

  of_block : (o : Option Registers) → option_map_or (λ block. block_breaks 0 block (ram_at s n) (pmem_at s n) i) o false ≡ false
  unfolding block_breaks
  of_block None = refl
  of_block (Some block) = of_decoder block (slice_get block.decoders i)

  none_first : breaks s 0 n i ≡ false
  unfolding breaks
  none_first = of_block (slice_get s.blocks n)

-- each is broken, and where it is not K1 that is, K1 is kept
pub record IsFirstBroken (s : System) (b : Breach) : Type 0 where
  pub broken : breaks s b.rule b.node b.decoder ≡ true
  pub caps : b.rule ≢ 1 → (n i : ℕ) → breaks s 1 n i ≡ false

pub each_broken : (s : System) (found : List Breach) → AreFirstBreaches s found → (k : ℕ) (b : Breach) → slice_get found k ≡ Some b → IsFirstBroken s b
each_broken s [] are k b there = absurd (none-some b there)
each_broken s (first ∷ others) are k b there =
    let own = All-at (IsBreachOf s first.rule) (first ∷ others) k b there are.1.each in
    record {
      broken = subst (λ (rule : ℕ). breaks s rule b.node b.decoder ≡ true) (sym own.of) own.broken;
      caps = λ other n i. go own.of other n i;
    }
  where
    go : b.rule ≡ first.rule → b.rule ≢ 1 → (n i : ℕ) → breaks s 1 n i ≡ false
    go same other n i =
        elim (cases_lt 1 first.rule) [
          | inl later ↦ are.0.rules 1 n i later
          | inr low ↦
              let zero : 0 ≡ first.rule = omega (arith, low, same, other) in
              absurd (false≢true (sym (none_first s first.node first.decoder) ∙ subst (λ (rule : ℕ). breaks s rule first.node first.decoder ≡ true) (sym zero) are.0.broken))
        ]

-- the places up to one are told, each with its cause
pub record AreTold (s : System) (found : List Breach) (k : ℕ) (told : List CausedBreach) : Type 0 where
  pub places : map (λ c. c.breach) told ≡ take k found
  pub each : All (HasItsCause s) told

pub none_told : (s : System) (found : List Breach) → AreTold s found 0 []
none_told s found = record { places = refl; each = All-nil (HasItsCause s) }

-- and one more
pub one_told : (s : System) (found : List Breach) (k : ℕ) (told : List CausedBreach) (b : Breach) (cause : Cause) → AreTold s found k told → slice_get found k ≡ Some b
    → cause_at s b.rule b.node b.decoder ≡ Some cause → AreTold s found (k + 1) (told ++ record { breach = b; cause = cause } ∷ [])
one_told s found k told b cause are there is = record {
  places = map-append (λ (c : CausedBreach). c.breach) told (record { breach = b; cause = cause } ∷ []) ∙ ap (λ (bs : List Breach). bs ++ b ∷ []) are.places ∙ sym (next ∙ ap (λ (c : Breach). take k found ++ c ∷ []) same);
  each = All-push (HasItsCause s) told (record { breach = b; cause = cause }) are.each is;
}
  where
    next : take (k + 1) found ≡ take k found ++ get_or found k b ∷ []
    next = take_more found k b (slice_get_within found k b there)

    same : get_or found k b ≡ b
    same = get_or_from_slice_get found k b b there

-- a place that is broken has a cause
pub has_cause : (s : System) (b : Breach) (o : Option Cause) → o ≡ cause_at s b.rule b.node b.decoder → is_some (cause_at s b.rule b.node b.decoder) ≡ breaks s b.rule b.node b.decoder → IsFirstBroken s b → o ≡ None → ⊥
has_cause s b o is law known none = false≢true (ap is_some (sym none ∙ is) ∙ law ∙ known.broken)
