-- Chunks dealt in turn with no maps, o counted from the base: place and address tell each other.
use Rattle.std.proofs.Common.{◌≡◌, ℕ, suc, ◌+◌, ◌*◌, ◌/◌, ◌%◌, ◌<◌, ◌≤◌, inl, inr, sym, ap, ◌∙◌, arith}
use Rattle.std.proofs.Math.Nat.{mod-lt}
use Rattle.std.proofs.lemmas.Bool.{cases_lt}
use Rattle.std.proofs.lemmas.Nat.{div-mul-add, mod-mul-add, div-add-mod', div_below, mul-le, le-div}

-- w ways, chunks of g bytes
module _ (w g : ℕ) (some_ways : 0 < w) (some_bytes : 0 < g) where
  -- from a place to its address and back
  module _ (slot offset : ℕ) (below : slot < w) where
    pub at_place-chunk : ((offset / g * w + slot) * g + offset % g) / g ≡ offset / g * w + slot
    at_place-chunk = div-mul-add (offset / g * w + slot) g (offset % g) (mod-lt offset some_bytes)

    pub at_place-slot : ((offset / g * w + slot) * g + offset % g) / g % w ≡ slot
    at_place-slot = ap (λ (j : ℕ). j % w) at_place-chunk ∙ mod-mul-add (offset / g) w slot below

    pub at_place-offset : ((offset / g * w + slot) * g + offset % g) / g / w * g + ((offset / g * w + slot) * g + offset % g) % g ≡ offset
    at_place-offset =
        ap (λ (j : ℕ). j / w * g + ((offset / g * w + slot) * g + offset % g) % g) at_place-chunk
        ∙ ap (λ (j : ℕ). j * g + ((offset / g * w + slot) * g + offset % g) % g) (div-mul-add (offset / g) w slot below)
        ∙ ap (λ (j : ℕ). offset / g * g + j) (mod-mul-add (offset / g * w + slot) g (offset % g) (mod-lt offset some_bytes))
        ∙ div-add-mod' offset g

  -- from an address to its place and back
  module _ (o slot offset : ℕ) (slot-is : o / g % w ≡ slot) (offset-is : o / g / w * g + o % g ≡ offset) where
    pub at_place-back : (offset / g * w + slot) * g + offset % g ≡ o
    at_place-back =
        let turn : offset / g ≡ o / g / w =
        ap (λ (j : ℕ). j / g) (sym offset-is) ∙ div-mul-add (o / g / w) g (o % g) (mod-lt o some_bytes) in
        let rest : offset % g ≡ o % g =
        ap (λ (j : ℕ). j % g) (sym offset-is) ∙ mod-mul-add (o / g / w) g (o % g) (mod-lt o some_bytes) in
        let chunk : o / g / w * w + o / g % w ≡ o / g = div-add-mod' (o / g) w in
        ap (λ (j : ℕ). (j * w + slot) * g + offset % g) turn
        ∙ ap (λ (j : ℕ). (o / g / w * w + slot) * g + j) rest
        ∙ ap (λ (j : ℕ). (o / g / w * w + j) * g + o % g) (sym slot-is)
        ∙ ap (λ (j : ℕ). j * g + o % g) chunk
        ∙ div-add-mod' o g

  -- n whole turns are n chunks of each slot
  pub offset_within : (n o : ℕ) → o < n * w * g → o / g / w * g + o % g < n * g
  offset_within n o within =
      let chunk : o / g < n * w = div_below o g (n * w) some_bytes within in
      let turn : o / g / w < n = div_below (o / g) w n some_ways chunk in
      let fits = mul-le (suc (o / g / w)) g n g turn (omega arith) in
      omega (arith, mod-lt o some_bytes)

  pub within_offset : (n o : ℕ) → o / g / w * g + o % g < n * g → o < n * w * g
  within_offset n o below =
      elim (cases_lt o (n * w * g)) [
        | inl within ↦ within
        | inr past ↦
            let chunk : n * w ≤ o / g = le-div (n * w) o g some_bytes past in
            let turn : n ≤ o / g / w = le-div n (o / g) w some_ways chunk in
            absurd (omega (arith, mul-le n g (o / g / w) g turn (omega arith)))
      ]
