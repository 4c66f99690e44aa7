-- Sizes and bases with which a place does not break K6 and K7.
use Rattle.std.proofs.Common.{◌≡◌, ℕ, ◌+◌, ◌-◌, ◌*◌, ◌/◌, ◌%◌, ◌<◌, ◌≤◌, true, false, Some, None, refl, sym, ap, ◌∙◌, inl, inr, arith}
use Rattle.std.specs.Prelude.{slice_get, ◌==◌, nat_lt, nat_le, is_some}
use Rattle.std.specs.Option.{unwrap_or}
use Rattle.std.proofs.Math.Nat.{mod-lt, mod-eq_of_lt, div-add-mod, mul-mod_right}
use Rattle.std.proofs.lemmas.Bool.{cases_Bool, cases_lt, eq-eqb, ne_eqb, le-ltb, le-leb, leb-true, ltb-false, ltb-true, agree_below_at, true≢false}
use Rattle.std.proofs.lemmas.Option.{none-some, same_Some, slice_get_within}
use Rattle.cxl_enc.proofs.Lists.{get_same, get_other}
use Rattle.cxl_enc.proofs.Tests.{and_false}
use Rattle.cxl_enc.specs.Codes.{ways_of}
use Rattle.cxl_enc.specs.Limits.{address_limit}
use Rattle.cxl_regs.specs.declared.decoder.Decoder.{Decoder}
use Rattle.cxl_regs.specs.Registers.{Registers}
use Rattle.cxl_regs.specs.Reading.{decoder_ways}
use Rattle.cxl_regs.specs.Rules.{before}
use Rattle.cxl_span.specs.Rules.{size_unit, breaks_size, breaks_base_order}
use Rattle.cxl_span.specs.Breaches.{breaks as block_breaks}
use Rattle.cxl_model.specs.System.{System}
use Rattle.cxl_model.specs.Accepted.{breaks}
use Rattle.cxl_cause.specs.BlockCauses.{size_below, size_above}
use Rattle.cxl_cause.specs.Wanted.{put_in_block, with_decoder, StandsIn}

-- ---- another decoder at a place

module _ (s : System) (n i : ℕ) (block : Registers) (own d : Decoder) (stands : StandsIn s n i block own) where
  pub put_there : slice_get (with_decoder s n i d).blocks n ≡ Some (put_in_block i d block)
  put_there = rw stands.block_there (get_same s.blocks n (put_in_block i d block) (slice_get_within s.blocks n block stands.block_there))

  pub decoder_put : slice_get (put_in_block i d block).decoders i ≡ Some d
  decoder_put = get_same block.decoders i d (slice_get_within block.decoders i own stands.there)

  same_below : before (put_in_block i d block).decoders i ≡ before block.decoders i
  same_below =
      elim (cases_Bool (i == 0)) [
        | inl first ↦ rw first refl
        | inr later ↦
            let other : (i ≡ 0 → ⊥) = λ zero. true≢false (sym (eq-eqb i 0 zero) ∙ later) in
            rw later (get_other block.decoders i (i - 1) d (λ same. other (omega (arith, same))))
      ]

  pub of_size : breaks (with_decoder s n i d) 6 n i ≡ breaks_size block d
  unfolding breaks block_breaks
  of_size = rw put_there (rw decoder_put refl)

  pub of_base : breaks (with_decoder s n i d) 7 n i ≡ breaks_base_order (before block.decoders i) d
  unfolding breaks block_breaks
  of_base = rw put_there (rw (decoder_put, same_below) refl)

-- ---- sizes

some_ways : (d : Decoder) → 1 ≤ decoder_ways d
some_ways d =
    elim (cases_lt d.ways 11) [
      | inl below ↦ leb-true 1 (decoder_ways d) (agree_below_at (λ (code : ℕ). nat_le 1 (unwrap_or (ways_of code) 1)) (λ code. true) 11 d.ways refl below)
      | inr past ↦
          let low : nat_lt d.ways 5 ≡ false = le-ltb d.ways 5 (omega (arith, past)) in
          let from : nat_le 8 d.ways ≡ true = le-leb 8 d.ways (omega (arith, past)) in
          let high : nat_lt d.ways 11 ≡ false = le-ltb d.ways 11 past in
          rw (low, from, high) (omega arith)
    ]

size_kept : (block : Registers) (d : Decoder) → 0 < d.size → d.base + d.size ≤ address_limit → d.size % size_unit d ≡ 0 → breaks_size block d ≡ false
size_kept block d some low even =
    rw (ne_eqb d.size 0 (omega (arith, some)), le-ltb address_limit (d.base + d.size) low, eq-eqb (d.size % size_unit d) 0 even, and_false block.endpoint) (and_false d.committed)

module _ (d : Decoder) where
  some_unit : 0 < size_unit d
  some_unit = let some = some_ways d in omega (arith, some)

  abbrev turns : ℕ
  turns = d.size / size_unit d

  parts : size_unit d * turns + d.size % size_unit d ≡ d.size
  parts = div-add-mod d.size (size_unit d)

  -- the multiple at or below the size, and the next one
  down_is : d.size - d.size % size_unit d ≡ size_unit d * turns
  down_is = omega (arith, parts)

  up_is : d.size - d.size % size_unit d + size_unit d ≡ size_unit d * (turns + 1)
  up_is = ap (λ (k : ℕ). k + size_unit d) down_is ∙ next (size_unit d) turns
    where
      next : (a b : ℕ) → a * b + a ≡ a * (b + 1)
      next a b = grind arith

  down_even : (d.size - d.size % size_unit d) % size_unit d ≡ 0
  down_even = ap (λ (k : ℕ). k % size_unit d) down_is ∙ mul-mod_right (size_unit d) turns

  up_even : (d.size - d.size % size_unit d + size_unit d) % size_unit d ≡ 0
  up_even = ap (λ (k : ℕ). k % size_unit d) up_is ∙ mul-mod_right (size_unit d) (turns + 1)

  pub below_kept : (block : Registers) (size : ℕ) → d.base + d.size ≤ address_limit → size_below d ≡ Some size → breaks_size block (record d { size = size }) ≡ false
  below_kept block size low is =
      elim (cases_Bool (nat_lt d.size (size_unit d))) [
        | inl small ↦ absurd (none-some size (rw small at is))
        | inr enough ↦
            let same : d.size - d.size % size_unit d ≡ size = same_Some (d.size - d.size % size_unit d) size (rw enough at is) in
            let most : size_unit d ≤ d.size = ltb-false d.size (size_unit d) enough in
            let rest : d.size % size_unit d < size_unit d = mod-lt d.size some_unit in
            size_kept block (record d { size = size }) (omega (arith, same, most, rest)) (omega (arith, same, low)) (ap (λ (k : ℕ). k % size_unit d) (sym same) ∙ down_even)
      ]

  pub above_kept : (block : Registers) (size : ℕ) → size_above d ≡ Some size → breaks_size block (record d { size = size }) ≡ false
  above_kept block size is =
      elim (cases_Bool (nat_le (d.base + (d.size - d.size % size_unit d + size_unit d)) address_limit)) [
        | inl fits ↦
            let same : d.size - d.size % size_unit d + size_unit d ≡ size = same_Some (d.size - d.size % size_unit d + size_unit d) size (rw fits at is) in
            let low : d.base + (d.size - d.size % size_unit d + size_unit d) ≤ address_limit = leb-true (d.base + (d.size - d.size % size_unit d + size_unit d)) address_limit fits in
            let some = some_unit in
            size_kept block (record d { size = size }) (omega (arith, same, some)) (omega (arith, same, low)) (ap (λ (k : ℕ). k % size_unit d) (sym same) ∙ up_even)
        | inr past ↦ absurd (none-some size (rw past at is))
      ]

  pub size_told : (size : ℕ) → 0 < size → size % size_unit d ≡ 0 → d.base + size ≤ address_limit → size_below d ≡ None → is_some (size_above d) ≡ true
  size_told size some even low none =
      elim (cases_Bool (nat_lt d.size (size_unit d))) [
        | inl small ↦
            let less : d.size < size_unit d = ltb-true d.size (size_unit d) small in
            let rest : d.size % size_unit d ≡ d.size = mod-eq_of_lt less in
            let least : size_unit d ≤ size = at_least size some even in
            let fits : nat_le (d.base + (d.size - d.size % size_unit d + size_unit d)) address_limit ≡ true = le-leb (d.base + (d.size - d.size % size_unit d + size_unit d)) address_limit (omega (arith, rest, least, low)) in
            rw fits refl
        | inr enough ↦ absurd (none-some (d.size - d.size % size_unit d) (sym (rw enough at none)))
      ]
    where
      at_least : (m : ℕ) → 0 < m → m % size_unit d ≡ 0 → size_unit d ≤ m
      at_least m some even =
          elim (cases_lt m (size_unit d)) [
            | inl less ↦ let rest : m % size_unit d ≡ m = mod-eq_of_lt less in absurd (omega (arith, rest, even, some))
            | inr enough ↦ enough
          ]

-- ---- bases

module _ (d below : Decoder) where
  pub end_kept : breaks_base_order (Some below) (record d { base = below.base + below.size }) ≡ false
  end_kept =
      let same : nat_lt (below.base + below.size) (below.base + below.size) ≡ false = le-ltb (below.base + below.size) (below.base + below.size) (omega arith) in
      rw same (and_false d.committed)

  pub end_least : (base : ℕ) → d.committed ≡ true → breaks_base_order (Some below) (record d { base = base }) ≡ false → below.base + below.size ≤ base
  end_least base committed keeps = ltb-false base (below.base + below.size) (rw committed at keeps)
