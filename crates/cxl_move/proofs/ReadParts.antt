-- A byte of a region in its piece, and bytes that are read from one piece or two.
use Rattle.std.proofs.Common.{◌≡◌, ℕ, zero, suc, ◌+◌, ◌-◌, ◌*◌, ◌/◌, ◌%◌, ◌<◌, ◌≤◌, List, ◌∷◌, ◌++◌, map, length, take, drop, get_or, Option, refl, sym, ap, ◌∙◌, subst, arith}
use Rattle.std.specs.Prelude.{unwrap_or, replicate}
use Rattle.std.specs.List.{range_with_len}
use Rattle.std.specs.FinMap as fin
use Rattle.std.proofs.lemmas.List.{length-take, length-drop, get_or-take, get_or-drop, ext_get_or, nil_from_length, append-nil, take_at}
use Rattle.std.proofs.lemmas.List.FromFn.{length-map-range_with_len, get_or-map-range_with_len}
use Rattle.cxl_window.specs.Fields.{WindowFields}
use Rattle.cxl_media.specs.Pool.{zeros}
use Rattle.cxl_media.specs.Blocks.{Blocks, bytes_from, block_at, key_of}
use Rattle.cxl_model.specs.declared.found.Found.{Found}
use Rattle.cxl_model.specs.Contents.{Contents, content_at}
use Rattle.cxl_model.specs.Regions.{Carries}
use Rattle.cxl_move.specs.Sides.{IsPieceAt}
use Rattle.cxl_move.specs.Bytes.{bytes_at}

-- ---- the piece of a byte

module _ (found : Found) (w : WindowFields) (each : (h : ℕ) → found.base ≤ h → h < found.base + found.size → (endpoint : ℕ) × (dpa : ℕ) × Carries found w h endpoint dpa)
    (one : (h endpoint dpa other place : ℕ) → Carries found w h endpoint dpa → Carries found w h other place → (endpoint ≡ other) × (dpa ≡ place))
    (aligned : (h endpoint dpa : ℕ) → Carries found w h endpoint dpa → dpa % 256 ≡ (h - found.base) % 256)
    (together : (h k endpoint dpa : ℕ) → Carries found w h endpoint dpa → (h - found.base) % 256 + k < 256 → Carries found w (h + k) endpoint (dpa + k)) where
  pub lies_in_piece : (h endpoint dpa : ℕ) → Carries found w h endpoint dpa → IsPieceAt found w ((h - found.base) / 256) endpoint (dpa / 256)
  lies_in_piece h endpoint dpa carries =
      let from = carries.from in
      let below = carries.below in
      let n : ℕ = (h - found.base) / 256 in
      let k : ℕ = (h - found.base) % 256 in
      let start : ℕ = found.base + 256 * n in
      let at = each start (omega arith) (omega (arith, from, below)) in
      let even : at.1 % 256 ≡ 0 = aligned start at.0 at.1 at.2 ∙ omega arith in
      let next = together start k at.0 at.1 at.2 (omega arith) in
      let here : Carries found w h at.0 (at.1 + k) = subst (λ (x : ℕ). Carries found w x at.0 (at.1 + k)) (omega (arith, from)) next in
      let same = one h endpoint dpa at.0 (at.1 + k) carries here in
      let behind = same.1 in
      let block : at.1 ≡ 256 * (dpa / 256) = omega (arith, even, behind) in
      subst (λ (e : ℕ). Carries found w start e (256 * (dpa / 256))) (sym same.0) (subst (λ (x : ℕ). Carries found w start at.0 x) block at.2)

-- ---- bytes that are read

-- those of one piece from a place on
module _ (contents : Contents) (piece : List ℕ) (offset len : ℕ) (whole : length piece ≡ 256) (fits : offset % 256 + len ≤ 256)
    (is : piece ≡ unwrap_or (fin.get contents (offset / 256)) (replicate 256 0)) where
  front : List ℕ
  front = bytes_from piece (offset % 256) len

  front_long : length front ≡ len
  unfolding front
  front_long = omega (arith, length-take len (drop (offset % 256) piece), length-drop (offset % 256) piece, whole, fits)

  front_at : (i : ℕ) → i < len → get_or front i 0 ≡ content_at contents (offset + i)
  unfolding front
  front_at i low =
      let read : get_or front i 0 ≡ get_or piece (offset % 256 + i) 0 = get_or-take len (drop (offset % 256) piece) i 0 low ∙ get_or-drop (offset % 256) piece i 0 in
      let place : offset % 256 + i ≡ (offset + i) % 256 = omega (arith, low, fits) in
      let number : offset / 256 ≡ (offset + i) / 256 = omega (arith, low, fits) in
      read ∙ ap (λ (k : ℕ). get_or piece k 0) place ∙ ap (λ (xs : List ℕ). get_or xs ((offset + i) % 256) 0) is
      ∙ ap (λ (n : ℕ). get_or (unwrap_or (fin.get contents n) (replicate 256 0)) ((offset + i) % 256) 0) number

  pub part_is : bytes_from piece (offset % 256) len ≡ bytes_at contents offset len
  unfolding front
  part_is =
      ext_get_or 0 front (bytes_at contents offset len) (front_long ∙ sym (length-map-range_with_len (content_at contents) offset len))
      (λ i within.
      let low : i < len = omega (arith, within, front_long) in
      front_at i low ∙ sym (get_or-map-range_with_len (content_at contents) offset len i (offset + i) 0 low refl))

-- those of two parts, one behind the other
range_join : {X : Type 0} (f : ℕ → X) (start a b : ℕ) → map f (range_with_len start a) ++ map f (range_with_len (start + a) b) ≡ map f (range_with_len start (a + b))
range_join f start zero b =
    let same : start + 0 ≡ start = omega arith in
    let all : 0 + b ≡ b = omega arith in
    ap (λ (n : ℕ). map f (range_with_len n b)) same ∙ ap (λ (n : ℕ). map f (range_with_len start n)) (sym all)
range_join {X = X} f start (suc a) b =
    let on : start + suc a ≡ start + 1 + a = omega arith in
    let more : suc (a + b) ≡ suc a + b = omega arith in
    ap (λ (n : ℕ). (f start ∷ map f (range_with_len (start + 1) a)) ++ map f (range_with_len n b)) on
    ∙ ap (λ (xs : List X). f start ∷ xs) (range_join f (start + 1) a b)
    ∙ ap (λ (n : ℕ). map f (range_with_len start n)) more

pub parts_join : (contents : Contents) (offset a b : ℕ) (xs ys : List ℕ) → xs ≡ bytes_at contents offset a → ys ≡ bytes_at contents (offset + a) b
    → xs ++ ys ≡ bytes_at contents offset (a + b)
parts_join contents offset a b xs ys front back =
    ap (λ (zs : List ℕ). zs ++ ys) front ∙ ap (λ (zs : List ℕ). bytes_at contents offset a ++ zs) back ∙ range_join (content_at contents) offset a b

-- those of one piece, by the block of media that has it
pub part_read : (contents : Contents) (blocks : Blocks) (into : List ℕ) (offset endpoint dpa len : ℕ) → length (block_at blocks (key_of endpoint dpa)) ≡ 256 → offset % 256 + len ≤ 256 → dpa % 256 ≡ offset % 256
    → fin.get blocks (endpoint, dpa / 256) ≡ fin.get contents (offset / 256) → into ≡ bytes_from (block_at blocks (key_of endpoint dpa)) (dpa % 256) len → into ≡ bytes_at contents offset len
unfolding zeros
part_read contents blocks into offset endpoint dpa len whole fits along same read =
    read ∙ ap (λ (at : ℕ). bytes_from (block_at blocks (key_of endpoint dpa)) at len) along
    ∙ part_is contents (block_at blocks (key_of endpoint dpa)) offset len whole fits (ap (λ (o : Option (List ℕ)). unwrap_or o (replicate 256 0)) same)

-- two parts, or one with nothing behind it, are all that is asked for
pub both_parts : (contents : Contents) (h base first len a b : ℕ) (xs ys : List ℕ) → base ≤ h → a ≡ first → a + b ≡ len → xs ≡ bytes_at contents (h - base) a → ys ≡ bytes_at contents (h + first - base) b
    → xs ++ ys ≡ bytes_at contents (h - base) len
both_parts contents h base first len a b xs ys from same all front back =
    let on : h + first - base ≡ h - base + a = omega (arith, from, same) in
    parts_join contents (h - base) a b xs ys front (back ∙ ap (λ (n : ℕ). bytes_at contents n b) on) ∙ ap (bytes_at contents (h - base)) all

pub one_part : (contents : Contents) (offset len a : ℕ) (xs rest : List ℕ) → length rest ≡ 0 → a + length rest ≡ len → xs ≡ bytes_at contents offset a → xs ++ rest ≡ bytes_at contents offset len
one_part contents offset len a xs rest none all front =
    let same : a ≡ len = omega (arith, none, all) in
    ap (λ (ys : List ℕ). xs ++ ys) (nil_from_length rest none) ∙ append-nil xs ∙ front ∙ ap (bytes_at contents offset) same

-- a list that is overwritten as a whole
pub whole_read : (contents : Contents) (offset n len count : ℕ) (xs rest : List ℕ) → xs ≡ bytes_at contents offset n → n ≡ len → count ≡ len → take count (xs ++ rest) ≡ bytes_at contents offset len
whole_read contents offset n len count xs rest is same all =
    let long : length xs ≡ count = omega (arith, ap (λ (ys : List ℕ). length ys) is, length-map-range_with_len (content_at contents) offset n, same, all) in
    take_at xs rest count long ∙ is ∙ ap (bytes_at contents offset) same
