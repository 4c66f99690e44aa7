-- Where no decoder can break a rule, and the first breach among the places that are left.
use Rattle.std.proofs.Common.{◌≡◌, ◌⊎◌, ℕ, zero, suc, ◌+◌, ◌<◌, ◌≤◌, Bool, true, false, not, ◌&&◌, [], length, Option, Some, None, refl, sym, subst, inl, inr, arith}
use Rattle.std.specs.Prelude.{slice_get, ◌==◌, nat_lt}
use Rattle.std.specs.Option.{option_map_or}
use Rattle.std.proofs.lemmas.Option.{slice_get_past}
use Rattle.std.proofs.lemmas.Bool.{ne_eqb, le-ltb, cases_lt, cases_eq, cases_Bool}
use Rattle.cxl_enc.proofs.Tests.{either}
use Rattle.cxl_regs.specs.declared.decoder.Decoder.{Decoder}
use Rattle.cxl_regs.specs.Registers.{Registers}
use Rattle.cxl_span.specs.Breaches.{breaks as block_breaks}
use Rattle.cxl_model.specs.System.{System, decoders_at, decoder_at, ram_at, pmem_at}
use Rattle.cxl_model.specs.Accepted.{breaks, breaks_caps, breaks_block, breaks_at, IsAccepted, HasFirstBreach}
use Rattle.cxl_model.specs.Rules.{keeps_window, keeps_targets, keeps_reach, keeps_ways}

-- ---- the first of some things

-- no number below n has one, or there is the first that has
pub first_below : (Lacks Has : ℕ → Type 0) → ((k : ℕ) → Lacks k ⊎ Has k) → (n : ℕ)
    → ((k : ℕ) → k < n → Lacks k) ⊎ ((k : ℕ) × Has k × ((j : ℕ) → j < k → Lacks j))
first_below Lacks Has each zero = inl (λ k below. absurd (omega arith))
first_below Lacks Has each (suc n) =
    elim (first_below Lacks Has each n) [
      | inr found ↦ inr found
      | inl lacks ↦ elim (each n) [
        | inr here ↦ inr (n, here, lacks)
        | inl last ↦ inl (λ k below. elim (cases_eq k n) [
          | inl same ↦ subst Lacks (sym same) last
          | inr other ↦ lacks k (omega arith)
        ])
      ]
    ]

-- the same where no number from n on has one
pub first_of_all : (Lacks Has : ℕ → Type 0) → ((k : ℕ) → Lacks k ⊎ Has k) → (n : ℕ) → ((k : ℕ) → n ≤ k → Lacks k)
    → ((k : ℕ) → Lacks k) ⊎ ((k : ℕ) × Has k × ((j : ℕ) → j < k → Lacks j))
first_of_all Lacks Has each n past =
    elim (first_below Lacks Has each n) [
      | inr found ↦ inr found
      | inl lacks ↦ inl (λ k. elim (cases_lt k n) [ inl below ↦ lacks k below | inr above ↦ past k above ])
    ]

-- ---- where nothing is broken

at_none : (o : Option Decoder) (keeps : Decoder → Bool) → o ≡ None → option_map_or (λ (d : Decoder). d.committed && not (keeps d)) o false ≡ false
at_none o keeps none = rw none refl

block_none : (rule : ℕ) (o : Option Registers) (ram pmem i : ℕ) → o ≡ None
    → option_map_or (λ (block : Registers). block_breaks rule block ram pmem i) o false ≡ false
block_none rule o ram pmem i none = rw none refl

block_past : (rule : ℕ) (o : Option Registers) (ram pmem i : ℕ) → length (option_map_or (λ (block : Registers). block.decoders) o []) ≤ i
    → option_map_or (λ (block : Registers). block_breaks rule block ram pmem i) o false ≡ false
unfolding block_breaks
block_past rule None ram pmem i past = refl
block_past rule (Some block) ram pmem i past = rw (slice_get_past block.decoders i past) refl

-- what holds of each rule's test holds of the test of all
by_rule : (P : Bool → Type 0) (s : System) (rule n i : ℕ)
    → P (breaks_caps s n i) → P (breaks_block s rule n i)
    → P (breaks_at s n i (keeps_window s n i)) → P (breaks_at s n i (keeps_targets s n))
    → P (breaks_at s n i (keeps_reach s n)) → P (breaks_at s n i (keeps_ways s n i)) → P false → P (breaks s rule n i)
unfolding breaks
by_rule P s rule n i caps block window targets reach ways past =
    either P (rule == 1) _ _ caps
    (either P (nat_lt rule 9) _ _ block
    (either P (rule == 9) _ _ window
    (either P (rule == 10) _ _ targets
    (either P (rule == 11) _ _ reach
    (either P (rule == 12) _ _ ways past)))))

abbrev IsFalse : Bool → Type 0
IsFalse b = b ≡ false

pub caps_past_decoder : (s : System) (n i : ℕ) → 1 ≤ i → breaks_caps s n i ≡ false
caps_past_decoder s n i past = rw (ne_eqb i 0 (omega arith)) refl

caps_past_node : (s : System) (n i : ℕ) → 1 + length s.nodes + length s.blocks ≤ n → breaks_caps s n i ≡ false
caps_past_node s n i past =
    let no_block : slice_get s.blocks n ≡ None = slice_get_past s.blocks n (omega arith) in
    let no_node : slice_get s.nodes n ≡ None = slice_get_past s.nodes n (omega arith) in
    let not_first : (n == 0) ≡ false = ne_eqb n 0 (omega arith) in
    elim (cases_Bool (i == 0)) [
      | inl first ↦ elim (cases_Bool (length s.blocks == length s.nodes)) [
        | inl same ↦ rw (first, same, no_block, no_node) refl
        | inr differ ↦ rw (first, differ, not_first) refl
      ]
      | inr later ↦ rw later refl
    ]

no_decoder_past : (s : System) (n i : ℕ) → length (decoders_at s n) ≤ i → decoder_at s n i ≡ None
no_decoder_past s n i past = slice_get_past (decoders_at s n) i past

no_decoders_past : (s : System) (n : ℕ) → length s.blocks ≤ n → decoders_at s n ≡ []
no_decoders_past s n past = rw (slice_get_past s.blocks n past) refl

-- past a node's decoders, past all nodes and past all rules
pub past_decoders : (s : System) (rule n i : ℕ) → 1 + length (decoders_at s n) ≤ i → breaks s rule n i ≡ false
past_decoders s rule n i past =
    let none = no_decoder_past s n i (omega arith) in
    by_rule IsFalse s rule n i (caps_past_decoder s n i (omega arith)) (block_past rule (slice_get s.blocks n) (ram_at s n) (pmem_at s n) i (omega arith))
    (at_none (decoder_at s n i) (keeps_window s n i) none) (at_none (decoder_at s n i) (keeps_targets s n) none)
    (at_none (decoder_at s n i) (keeps_reach s n) none) (at_none (decoder_at s n i) (keeps_ways s n i) none) refl

pub past_nodes : (s : System) (rule n i : ℕ) → 1 + length s.nodes + length s.blocks ≤ n → breaks s rule n i ≡ false
past_nodes s rule n i past =
    let no_block : slice_get s.blocks n ≡ None = slice_get_past s.blocks n (omega arith) in
    let none : decoder_at s n i ≡ None = rw no_block refl in
    by_rule IsFalse s rule n i (caps_past_node s n i past) (block_none rule (slice_get s.blocks n) (ram_at s n) (pmem_at s n) i no_block)
    (at_none (decoder_at s n i) (keeps_window s n i) none) (at_none (decoder_at s n i) (keeps_targets s n) none)
    (at_none (decoder_at s n i) (keeps_reach s n) none) (at_none (decoder_at s n i) (keeps_ways s n i) none) refl

pub past_rules : (s : System) (rule n i : ℕ) → 13 ≤ rule → breaks s rule n i ≡ false
unfolding breaks
past_rules s rule n i past =
    rw (ne_eqb rule 1 (omega arith), le-ltb rule 9 (omega arith), ne_eqb rule 9 (omega arith), ne_eqb rule 10 (omega arith), ne_eqb rule 11 (omega arith), ne_eqb rule 12 (omega arith)) refl

-- ---- the first breach

-- the first decoder of a node that breaks a rule
record IsFirstDecoder (s : System) (rule n i : ℕ) : Type 0 where
  broken : breaks s rule n i ≡ true
  decoders : (lower : ℕ) → lower < i → breaks s rule n lower ≡ false

-- the first node of which a decoder breaks a rule
record IsFirstPlace (s : System) (rule n i : ℕ) : Type 0 where
  here : IsFirstDecoder s rule n i
  nodes : (lower i : ℕ) → lower < n → breaks s rule lower i ≡ false

keeps_or_breaks : (b : Bool) → (b ≡ false) ⊎ (b ≡ true)
keeps_or_breaks true = inr refl
keeps_or_breaks false = inl refl

first_decoder : (s : System) (rule n : ℕ) → ((i : ℕ) → breaks s rule n i ≡ false) ⊎ ((i : ℕ) × IsFirstDecoder s rule n i)
first_decoder s rule n =
    elim (first_of_all (λ i. breaks s rule n i ≡ false) (λ i. breaks s rule n i ≡ true) (λ i. keeps_or_breaks (breaks s rule n i))
    (1 + length (decoders_at s n)) (λ i past. past_decoders s rule n i past)) [
      | inl kept ↦ inl kept
      | inr found ↦ inr (found.0, record { broken = found.1; decoders = found.2 })
    ]

first_node : (s : System) (rule : ℕ) → ((n i : ℕ) → breaks s rule n i ≡ false) ⊎ ((n i : ℕ) × IsFirstPlace s rule n i)
first_node s rule =
    elim (first_of_all (λ n. (i : ℕ) → breaks s rule n i ≡ false) (λ n. (i : ℕ) × IsFirstDecoder s rule n i) (first_decoder s rule)
    (1 + length s.nodes + length s.blocks) (λ n past i. past_nodes s rule n i past)) [
      | inl kept ↦ inl kept
      | inr found ↦ inr (found.0, found.1.0, record { here = found.1.1; nodes = λ lower i below. found.2 lower below i })
    ]

pub accepted_or_breach : (s : System) → IsAccepted s ⊎ HasFirstBreach s
accepted_or_breach s =
    elim (first_of_all (λ rule. (n i : ℕ) → breaks s rule n i ≡ false) (λ rule. (n i : ℕ) × IsFirstPlace s rule n i) (first_node s)
    13 (λ rule past n i. past_rules s rule n i past)) [
      | inl kept ↦ inl record { each = kept }
      | inr found ↦
          let place = found.1.2 in
          inr (
            found.0,
            found.1.0,
            found.1.1,
            record {
              broken = place.here.broken;
              rules = λ lower n i below. found.2 lower below n i;
              nodes = place.nodes;
              decoders = place.here.decoders;
            },
          )
    ]
