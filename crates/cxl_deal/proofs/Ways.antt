-- Ways and chunk sizes as powers.
use Rattle.std.proofs.Common.{◌≡◌, ℕ, ◌+◌, ◌*◌, ◌^◌, ◌<◌, ◌≤◌, inl, inr, arith}
use Rattle.std.specs.Prelude.{Bool, true, false}
use Rattle.std.proofs.Math.Pow.{pow_pos, pow_mono}
use Rattle.std.proofs.lemmas.Bool.{cases_lt}
use Rattle.std.proofs.lemmas.Nat.{pow-add}
use Rattle.cxl_num.specs.Interleave.{factor_of, ways_by, chunk_size}

pub factor_of-pos : (third : Bool) → 0 < factor_of third
factor_of-pos true = omega arith
factor_of-pos false = omega arith

pub ways_by-pos : (third : Bool) (k : ℕ) → 0 < ways_by third k
ways_by-pos true k = omega (arith, pow_pos k)
ways_by-pos false k = omega (arith, pow_pos k)

-- the ways of four bits at the most
pub ways_by-few : (third : Bool) (k : ℕ) → k ≤ 4 → ways_by third k ≤ 48
ways_by-few true k few = omega (arith, pow_mono {i = k} {j = 4} few)
ways_by-few false k few = omega (arith, pow_mono {i = k} {j = 4} few)

-- at most sixteen ways have at most four bits
pub few_bits : (third : Bool) (k : ℕ) → ways_by third k ≤ 16 → k ≤ 4
few_bits true k few =
    elim (cases_lt 4 k) [
      | inl many ↦ absurd (omega (arith, pow_mono {i = 5} {j = k} many))
      | inr some ↦ some
    ]
few_bits false k few =
    elim (cases_lt 4 k) [
      | inl many ↦ absurd (omega (arith, pow_mono {i = 5} {j = k} many))
      | inr some ↦ some
    ]

-- the root's places, and how often one turn takes them
pub ways-parts : (third : Bool) (root low : ℕ) → ways_by third (root + low) ≡ ways_by third low * 2 ^ root
ways-parts true root low = omega (arith, pow-add 2 root low)
ways-parts false root low = omega (arith, pow-add 2 root low)

pub chunk_size-pow : (gran : ℕ) → chunk_size gran ≡ 2 ^ (gran + 8)
chunk_size-pow gran = omega (arith, pow-add 2 gran 8)

pub chunk_size-pos : (gran : ℕ) → 0 < chunk_size gran
chunk_size-pos gran = omega (arith, pow_pos gran)
