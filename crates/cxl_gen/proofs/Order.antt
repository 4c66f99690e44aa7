-- Which command of a number stands behind how many others.
use Rattle.std.proofs.Common.{◌≡◌, ℕ, ◌+◌, ◌-◌, ◌*◌, ◌/◌, ◌%◌, ◌<◌, ◌≤◌, suc, zero, List, [], ◌∷◌, length, get_or, Some, refl, sym, ap, ◌∙◌, arith}
use Rattle.std.specs.Prelude.{slice_get}
use Rattle.std.specs.List.{range_with_len, flat_map}
use Rattle.std.proofs.lemmas.List.{length-append, get_or_append_left, get_or-append_right}
use Rattle.std.proofs.lemmas.List.FromFn.{length-map-range_with_len, get_or-map-range_with_len}
use Rattle.std.proofs.lemmas.Option.{slice_get-get_or, get_or_from_slice_get}
use Rattle.cxl_script.specs.declared.command.Command.{Command}
use Rattle.cxl_gen.specs.Made.{made_create, made_store, made_load, made_stores, made_loads, made_region, made_commands}

-- ---- parts of one length

module _ {X : Type 0} (f : ℕ → List X) (size : ℕ) (each : (j : ℕ) → length (f j) ≡ size) where
  parts_length : (a n : ℕ) → length (flat_map f (range_with_len a n)) ≡ n * size
  parts_length a zero = omega arith
  parts_length a (suc n) =
      let rest = parts_length (a + 1) n in
      let one = each a in
      let joined = length-append (f a) (flat_map f (range_with_len (a + 1) n)) in
      omega (arith, rest, one, joined)

  -- item i of part j
  part_item : (a n j i part at : ℕ) (d : X) → j < n → i < size → a + j ≡ part → j * size + i ≡ at
      → get_or (flat_map f (range_with_len a n)) at d ≡ get_or (f part) i d
  part_item a zero j i part at d low fits here there = absurd (omega arith)
  part_item a (suc n) zero i part at d low fits here there =
      let first : a ≡ part = omega arith in
      let same : at ≡ i = omega arith in
      let one = each a in
      get_or_append_left (f a) (flat_map f (range_with_len (a + 1) n)) d at (omega (arith, one))
      ∙ ap (λ (k : ℕ). get_or (f a) k d) same ∙ ap (λ (k : ℕ). get_or (f k) i d) first
  part_item a (suc n) (suc j) i part at d low fits here there =
      get_or-append_right (f a) (flat_map f (range_with_len (a + 1) n)) size at d (each a) (omega arith)
      ∙ part_item (a + 1) n j i part (at - size) d (omega arith) fits (omega arith) (omega arith)

-- ---- how many commands there are

region_length : (j : ℕ) → length (made_region j) ≡ 1001
region_length j = ap suc (length-map-range_with_len (made_store j) 0 1000)

loads_length : (j : ℕ) → length (made_loads j) ≡ 1000
loads_length j = length-map-range_with_len (made_load j) 0 1000

module _ (n : ℕ) where
  abbrev regions : List Command
  regions = flat_map made_region (range_with_len 0 n)

  abbrev loads : List Command
  loads = flat_map made_loads (range_with_len 0 n)

  regions_length : length regions ≡ 1001 * n
  regions_length = let all = parts_length made_region 1001 region_length 0 n in omega (arith, all)

  pub commands_length : length (made_commands n) ≡ 2001 * n
  commands_length =
      let all = parts_length made_loads 1000 loads_length 0 n in
      omega (arith, length-append regions loads, regions_length, all)

-- ---- which one stands where

pub create_there : (j : ℕ) (command : Command) → command ≡ made_create j → slice_get (made_region j) 0 ≡ Some command
create_there j command is = ap (λ (c : Command). Some c) (sym is)

pub store_there : (j i : ℕ) (command : Command) → 1 ≤ i → i < 1001 → command ≡ made_store j (i - 1) → slice_get (made_region j) i ≡ Some command
store_there j i command some few is =
    slice_get-get_or (made_region j) i command (omega (arith, few, region_length j))
    ∙ ap (λ (c : Command). Some c)
    (get_or-append_right (made_create j ∷ []) (made_stores j) 1 i command refl some
    ∙ get_or-map-range_with_len (made_store j) 0 1000 (i - 1) (i - 1) command (omega arith) (omega arith) ∙ sym is)

module _ (n k : ℕ) (command : Command) where
  pub in_region : k < 1001 * n → slice_get (made_region (k / 1001)) (k % 1001) ≡ Some command → slice_get (made_commands n) k ≡ Some command
  in_region low is =
      slice_get-get_or (made_commands n) k command (omega (arith, low, commands_length n))
      ∙ ap (λ (c : Command). Some c)
      (get_or_append_left (regions n) (loads n) command k (omega (arith, low, regions_length n))
      ∙ part_item made_region 1001 region_length 0 n (k / 1001) (k % 1001) (k / 1001) k command (omega arith) (omega arith) (omega arith) (omega arith)
      ∙ get_or_from_slice_get (made_region (k / 1001)) (k % 1001) command command is)

  pub in_loads : 1001 * n ≤ k → k < 2001 * n → command ≡ made_load ((k - 1001 * n) / 1000) ((k - 1001 * n) % 1000) → slice_get (made_commands n) k ≡ Some command
  in_loads high low is =
      let at = k - 1001 * n in
      slice_get-get_or (made_commands n) k command (omega (arith, low, commands_length n))
      ∙ ap (λ (c : Command). Some c)
      (get_or-append_right (regions n) (loads n) (1001 * n) k command (regions_length n) high
      ∙ part_item made_loads 1000 loads_length 0 n (at / 1000) (at % 1000) (at / 1000) at command (omega arith) (omega arith) (omega arith) (omega arith)
      ∙ get_or-map-range_with_len (made_load (at / 1000)) 0 1000 (at % 1000) (at % 1000) command (omega arith) (omega arith) ∙ sym is)
