-- What the commands of generated systems ask for is ranged.
use Rattle.std.proofs.Common.{ℕ, ◌+◌, ◌/◌, ◌%◌, ◌^◌, ◌<◌, suc, zero, List, arith}
use Rattle.std.specs.Prelude.{map, All}
use Rattle.std.specs.List.{range_with_len, flat_map}
use Rattle.std.proofs.lemmas.List.Elements.{All-nil, All-cons, All-append}
use Rattle.cxl_script.specs.Grammar.{IsRanged}
use Rattle.cxl_gen.specs.Made.{eight_bytes, made_create, made_store, made_load, made_stores, made_loads, made_region, made_commands}

module _ {X : Type 0} (P : X → Type 0) (f : ℕ → X) (each : (i : ℕ) → P (f i)) where
  pub all_mapped : (a n : ℕ) → All P (map f (range_with_len a n))
  all_mapped a zero = All-nil P
  all_mapped a (suc n) = All-cons P (f a) (map f (range_with_len (a + 1) n)) (each a) (all_mapped (a + 1) n)

module _ {X : Type 0} (P : X → Type 0) (f : ℕ → List X) (each : (j : ℕ) → All P (f j)) where
  all_parts : (a n : ℕ) → All P (flat_map f (range_with_len a n))
  all_parts a zero = All-nil P
  all_parts a (suc n) = All-append P (f a) (flat_map f (range_with_len (a + 1) n)) (each a) (all_parts (a + 1) n)

bytes_below : (i : ℕ) → All (λ byte. byte < 256) (eight_bytes i)
bytes_below i = all_mapped (λ byte. byte < 256) (λ k. i / 256 ^ k % 256) (λ k. omega arith) 0 8

store_ranged : (j i : ℕ) → IsRanged (made_store j i)
store_ranged j i = (omega arith, omega arith, bytes_below i)

load_ranged : (j i : ℕ) → IsRanged (made_load j i)
load_ranged j i = (omega arith, omega arith)

region_ranged : (j : ℕ) → All IsRanged (made_region j)
region_ranged j = All-cons IsRanged (made_create j) (made_stores j) tt (all_mapped IsRanged (made_store j) (store_ranged j) 0 1000)

loads_ranged : (j : ℕ) → All IsRanged (made_loads j)
loads_ranged j = all_mapped IsRanged (made_load j) (load_ranged j) 0 1000

pub commands_ranged : (n : ℕ) → All IsRanged (made_commands n)
commands_ranged n =
    All-append IsRanged (flat_map made_region (range_with_len 0 n)) (flat_map made_loads (range_with_len 0 n))
    (all_parts IsRanged made_region region_ranged 0 n) (all_parts IsRanged made_loads loads_ranged 0 n)
