-- Sixteen counts, one of which grows.
use Rattle.std.proofs.Common.{◌≡◌, ℕ, ◌+◌, ◌-◌, ◌*◌, ◌%◌, ◌<◌, ◌≤◌, List, length, set, sym, ap, ◌∙◌, inl, inr, arith, length-set, get_or-set_same, get_or-set_other}
use Rattle.std.specs.Prelude.{slice_index}
use Rattle.std.proofs.lemmas.Bool.{cases_lt, cases_eq}
use Rattle.cxl_num.specs.Interleave.{chunk_size}
use Rattle.cxl_deal.specs.Weaves.{WeaveFields, weave_ways, turns_end, dealt_slot}
use Rattle.cxl_range.specs.inner.Woven.{bytes_before, AreCountsBefore}
use Rattle.cxl_range.proofs.Turns.{TurnLaws, count_turns, none_past, chunk_own, chunk_other}

pub next_chunk : (v : WeaveFields) → ((h d : ℕ) → v.base ≤ h → (h - v.base) % chunk_size v.gran + d < chunk_size v.gran → dealt_slot v (h + d) ≡ dealt_slot v h) → (h len slot : ℕ) (before after : List ℕ) → v.base ≤ h
    → (h - v.base) % chunk_size v.gran + len ≤ chunk_size v.gran → slot ≡ dealt_slot v h → slot < 16 → AreCountsBefore v h before → after ≡ set before slot (slice_index before slot + len) → AreCountsBefore v (h + len) after
next_chunk v whole h len slot before after from fits slot_is few are after_is = record {
  sixteen = ap (λ (xs : List ℕ). length xs) after_is ∙ length-set before slot (slice_index before slot + len) ∙ are.sixteen;
  each = λ k below. ap (λ (xs : List ℕ). slice_index xs k) after_is ∙ elim (cases_eq k slot) [
    | inl same ↦
        let inside : slot < length before = omega (arith, few, are.sixteen) in
        ap (λ (x : ℕ). slice_index (set before slot (slice_index before slot + len)) x) same ∙ get_or-set_same before slot (slice_index before slot + len) 0 inside
        ∙ ap (λ (x : ℕ). x + len) (are.each slot few)
        ∙ ap (λ (x : ℕ). bytes_before v h x + len) slot_is ∙ sym (chunk_own v whole h len from fits)
        ∙ ap (λ (x : ℕ). bytes_before v (h + len) x) (sym slot_is ∙ sym same)
    | inr other ↦
        get_or-set_other before slot k (slice_index before slot + len) 0 other ∙ are.each k below
        ∙ sym (chunk_other v whole h len from fits k (λ same. other (sym same ∙ sym slot_is)))
  ];
}

pub turns_counted : (v : WeaveFields) → TurnLaws v → (turns : ℕ) (counts : List ℕ) → length counts ≡ 16 → ((k : ℕ) → k < weave_ways v → slice_index counts k ≡ turns * chunk_size v.gran)
    → ((k : ℕ) → weave_ways v ≤ k → k < 16 → slice_index counts k ≡ 0) → AreCountsBefore v (turns_end v turns) counts
turns_counted v laws turns counts sixteen dealt past = record {
  sixteen = sixteen;
  each = λ k below. elim (cases_lt k (weave_ways v)) [
    | inl some ↦ dealt k some ∙ sym (count_turns v laws (omega (arith, some)) turns k some)
    | inr none ↦ past k none below ∙ sym (none_past v laws.below v.base (turns_end v turns - v.base) k none)
  ];
}
