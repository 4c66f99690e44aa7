-- A front and decimal digits are a name.
use Rattle.std.proofs.Common.{◌≡◌, ℕ, ◌^◌, ◌<◌, List, ◌++◌, sym, subst, ◌∙◌, arith}
use Rattle.std.specs.Prelude.{decimal}
use Rattle.std.specs.List.{list_all}
use Rattle.std.proofs.lemmas.Fmt.{decimal_is_IsNumeral, decimal_nonempty, length-decimal-le}
use Rattle.std.proofs.lemmas.List.{length-append}
use Rattle.std.proofs.lemmas.List.Folds.{list_all-append}
use Rattle.std.proofs.lemmas.Bool.{and_from}
use Rattle.cxl_enc.specs.Name.{IsName, is_name_byte}
use Rattle.cxl_enc.proofs.NameBytes.{digits_named}
use Rattle.cxl_gen.specs.Made.{IsFront}

is_numbered : (front : List ℕ) (i : ℕ) → i < 1000 → IsFront front → IsName (front ++ decimal i)
is_numbered front i few is =
    let fits : i < 2 ^ 64 = omega arith in
    let three : i < 10 ^ 3 = omega arith in
    let short = length-decimal-le 3 i (omega arith) three fits in
    let some = decimal_nonempty i fits in
    let len = length-append front (decimal i) in
    let room = is.0 in
    record {
      some = omega (arith, len, some);
      few = omega (arith, len, short, room);
      each = list_all-append is_name_byte front (decimal i)
          ∙ and_from (list_all is_name_byte front) (list_all is_name_byte (decimal i)) is.1 (digits_named (decimal i) (decimal_is_IsNumeral i fits).0.1);
    }

pub numbered_named : (front bytes : List ℕ) (i : ℕ) → i < 1000 → IsFront front → bytes ≡ front ++ decimal i → IsName bytes
numbered_named front bytes i few is e = subst IsName (sym e) (is_numbered front i few is)
