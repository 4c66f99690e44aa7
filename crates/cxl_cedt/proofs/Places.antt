-- Numbers at places of a text.
use Rattle.std.proofs.Common.{◌≡◌, ℕ, zero, suc, ◌+◌, ◌-◌, ◌*◌, ◌<◌, ◌≤◌, List, [], ◌∷◌, ◌++◌, length, take, drop, slice_index, refl, sym, ap, ◌∙◌, arith, length-drop}
use Rattle.std.proofs.Math.Nat.{mul-le-mul_right}
use Rattle.std.proofs.lemmas.List.{drop-append-le, drop-drop, drop-take, take_at}
use Rattle.byteorder.specs.Endian.{little_number, IsRead}
use Rattle.byteorder.specs.Numbers.{little_from-append, little_from-take}
use Rattle.cxl_cedt.specs.Table.{field, fields}

-- numbers that stand at these places, one after the other, are the numbers there
fields_each : (text : List ℕ) (at width n : ℕ) (numbers : List ℕ) → length numbers ≡ n → ((k : ℕ) → k < n → slice_index numbers k ≡ field text (at + width * k) width) → numbers ≡ fields text at width n
fields_each text at width zero [] len each = refl
fields_each text at width zero (x ∷ xs) len each = absurd (omega arith)
fields_each text at width (suc n) [] len each = absurd (omega arith)
fields_each text at width (suc n) (x ∷ xs) len each =
    let first_at : at + width * 0 ≡ at = omega arith in
    let first : x ≡ field text at width = each 0 (omega arith) ∙ ap (λ (k : ℕ). field text k width) first_at in
    let others : xs ≡ fields text (at + width) width n = fields_each text (at + width) width n xs (omega arith) (λ k there.
    let next_at : at + width * suc k ≡ (at + width) + width * k = omega arith in
    each (suc k) (omega (arith, there)) ∙ ap (λ (p : ℕ). field text p width) next_at) in
    ap (λ (y : ℕ). y ∷ xs) first ∙ ap (λ (ys : List ℕ). field text at width ∷ ys) others

-- a number of a part of the text is that of the text
field_of_part : (text : List ℕ) (at width n m k : ℕ) → m ≡ width * n → k < n → little_number width (drop (width * k) (take m (drop at text))) ≡ field text (at + width * k) width
field_of_part text at width n m k m-is there =
    let top : suc k * width ≤ n * width = mul-le-mul_right width (omega arith) in
    let size : m ≡ width * k + (m - width * k) = omega arith in
    let part : drop (width * k) (take m (drop at text)) ≡ take (m - width * k) (drop (width * k) (drop at text)) = ap (λ (j : ℕ). drop (width * k) (take j (drop at text))) size ∙ drop-take (width * k) (m - width * k) (drop at text) in
    ap (little_number width) part ∙ little_from-take 0 width (m - width * k) (drop (width * k) (drop at text)) (omega arith) ∙ ap (little_number width) (drop-drop (width * k) at text)

-- the numbers that were read of a part of the text into room for as many
pub fields_read : (text : List ℕ) (at width n m len : ℕ) (numbers rest : List ℕ) → m ≡ width * n → length numbers ≡ n → len ≡ n → IsRead little_number width (take m (drop at text)) numbers
    → take len (numbers ++ rest) ≡ fields text at width n
fields_read text at width n m len numbers rest m-is size len-is read =
    take_at numbers rest len (size ∙ sym len-is)
    ∙ fields_each text at width n numbers size (λ k there. read k (rw size there) ∙ field_of_part text at width n m k m-is there)

-- a number reads no byte past its end
pub field_front : (text rest : List ℕ) (at width : ℕ) → at + width ≤ length text → field (text ++ rest) at width ≡ field text at width
field_front text rest at width fits =
    rw (drop-append-le at text rest (omega arith)) (little_from-append width (drop at text) rest (omega (arith, length-drop at text)))

-- so many numbers
pub length-fields : (text : List ℕ) (at width n : ℕ) → length (fields text at width n) ≡ n
length-fields text at width zero = refl
length-fields text at width (suc n) = ap suc (length-fields text (at + width) width n)
