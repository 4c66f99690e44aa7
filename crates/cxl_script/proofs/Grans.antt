-- Granularity codes, as the table tells them.
use Rattle.std.proofs.Common.{◌≡◌, ℕ, zero, suc, Bool, cond, ◌==◌, Option, Some, None, IfSome, refl, sym, ap, ◌∙◌, arith, inl, inr, eq-eqb}
use Rattle.std.proofs.lemmas.Bool.{cases_eq, ne_eqb}
use Rattle.cxl_enc.specs.Codes.{granularity_of, gran_code_in_table}
use Rattle.cxl_enc.proofs.Tables.{past_granularity}

-- one row of the table
row : (bytes n i : ℕ) (rest code : Option ℕ) → (bytes ≡ n → code ≡ Some i) → ((bytes ≡ n → ⊥) → code ≡ rest) → code ≡ cond (bytes == n) (Some i) rest
row bytes n i rest code here behind =
    elim (cases_eq bytes n) [
      | inl e ↦ here e ∙ sym (ap (λ (t : Bool). cond t (Some i) rest) (eq-eqb bytes n e))
      | inr other ↦ behind other ∙ sym (ap (λ (t : Bool). cond t (Some i) rest) (ne_eqb bytes n other))
    ]

number : (n bytes : ℕ) → Some n ≡ Some bytes → bytes ≡ n
number n bytes e = cc

-- no code stands for another number of bytes
none_stands : (c bytes : ℕ) → granularity_of c ≡ Some bytes → (bytes ≡ 256 → ⊥) → (bytes ≡ 512 → ⊥) → (bytes ≡ 1024 → ⊥) → (bytes ≡ 2048 → ⊥) → (bytes ≡ 4096 → ⊥) → (bytes ≡ 8192 → ⊥) → (bytes ≡ 16384 → ⊥) → ⊥
none_stands zero bytes e a0 a1 a2 a3 a4 a5 a6 = a0 (number 256 bytes e)
none_stands (suc zero) bytes e a0 a1 a2 a3 a4 a5 a6 = a1 (number 512 bytes e)
none_stands (suc (suc zero)) bytes e a0 a1 a2 a3 a4 a5 a6 = a2 (number 1024 bytes e)
none_stands (suc (suc (suc zero))) bytes e a0 a1 a2 a3 a4 a5 a6 = a3 (number 2048 bytes e)
none_stands (suc (suc (suc (suc zero)))) bytes e a0 a1 a2 a3 a4 a5 a6 = a4 (number 4096 bytes e)
none_stands (suc (suc (suc (suc (suc zero))))) bytes e a0 a1 a2 a3 a4 a5 a6 = a5 (number 8192 bytes e)
none_stands (suc (suc (suc (suc (suc (suc zero)))))) bytes e a0 a1 a2 a3 a4 a5 a6 = a6 (number 16384 bytes e)
none_stands (suc (suc (suc (suc (suc (suc (suc c))))))) bytes e a0 a1 a2 a3 a4 a5 a6 = past_granularity (suc (suc (suc (suc (suc (suc (suc c))))))) bytes (omega arith) e

no_code : (bytes : ℕ) (code : Option ℕ) → IfSome code (λ c. granularity_of c ≡ Some bytes) → ((c : ℕ) → granularity_of c ≡ Some bytes → ⊥) → code ≡ None
no_code bytes None known none = refl
no_code bytes (Some c) known none = absurd (none c known)

pub gran_code-in_table : (bytes : ℕ) (code : Option ℕ) → IfSome code (λ c. granularity_of c ≡ Some bytes) → ((c : ℕ) → granularity_of c ≡ Some bytes → code ≡ Some c) → code ≡ gran_code_in_table bytes
gran_code-in_table bytes code known only =
    let stands : (c n : ℕ) → granularity_of c ≡ Some n → bytes ≡ n → code ≡ Some c = λ c n e same. only c (e ∙ ap Some (sym same)) in
    row bytes 256 0 _ code (stands 0 256 refl) (λ a0. row bytes 512 1 _ code (stands 1 512 refl) (λ a1. row bytes 1024 2 _ code (stands 2 1024 refl) (λ a2.
    row bytes 2048 3 _ code (stands 3 2048 refl) (λ a3. row bytes 4096 4 _ code (stands 4 4096 refl) (λ a4. row bytes 8192 5 _ code (stands 5 8192 refl) (λ a5.
    row bytes 16384 6 _ code (stands 6 16384 refl) (λ a6. no_code bytes code known (λ c e. none_stands c bytes e a0 a1 a2 a3 a4 a5 a6))))))))
