-- The fields of a name from its bytes.
use Rattle.std.specs.Prelude.{◌≡◌, ℕ, ◌+◌, ◌-◌, ◌≤◌, List, length, take, replicate}
use Rattle.std.proofs.Common.{sym, ap, ◌∙◌, subst}
use Rattle.std.proofs.Math.Nat.{add-sub_of_le}
use Rattle.std.proofs.lemmas.List.{length-append, length-replicate, length-take-le}
use Rattle.cxl_enc.specs.Name.{IsPadded}
use Rattle.cxl_enc.specs.declared.name.Name.TheInside.{Inside}

-- the room has fifteen bytes
whole_room : (len : ℕ) (room : List ℕ) → IsPadded len room → length room ≡ 15
whole_room len room padded_so =
    ap length padded_so.zeros ∙ length-append (take len room) (replicate (15 - length (take len room)) 0)
    ∙ ap (λ (n : ℕ). length (take len room) + n) (length-replicate (15 - length (take len room)) 0) ∙ add-sub_of_le padded_so.name.few

-- so many bytes of it are the name
pub length-take_padded : (len : ℕ) (room : List ℕ) → IsPadded len room → length (take len room) ≡ len
length-take_padded len room padded_so =
    length-take-le len room (subst (λ (n : ℕ). len ≤ n) (sym (whole_room len room padded_so)) padded_so.fits)

-- equal parts are equal fields
pub same_inside : {m n : ℕ} {r s : List ℕ} → m ≡ n → r ≡ s → ◌≡◌ {A = Inside} (record { len = m; room = r }) (record { len = n; room = s })
same_inside p q = λ i. record { len = p i; room = q i }
