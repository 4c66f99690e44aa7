-- `auto` and decimal digits are a name.
use Rattle.std.proofs.Common.{◌≡◌, ℕ, ◌^◌, ◌<◌, List, length, refl, sym, subst, ◌∙◌, arith}
use Rattle.std.specs.Prelude.{decimal, codes}
use Rattle.std.specs.List.{list_all}
use Rattle.std.proofs.lemmas.Fmt.{decimal_is_IsNumeral, decimal_nonempty, length-decimal-le}
use Rattle.std.proofs.lemmas.List.{length-append}
use Rattle.std.proofs.lemmas.List.Folds.{list_all-append}
use Rattle.std.proofs.lemmas.Bool.{and_from}
use Rattle.cxl_enc.specs.Name.{IsName, is_name_byte}
use Rattle.cxl_enc.proofs.NameBytes.{digits_named}
use Rattle.cxl_machine.specs.Sound.{auto_name}

auto_is_name : (i : ℕ) → i < 256 → IsName (auto_name i)
auto_is_name i few =
    let fits : i < 2 ^ 64 = omega arith in
    let three : i < 10 ^ 3 = omega arith in
    let short = length-decimal-le 3 i (omega arith) three fits in
    let some = decimal_nonempty i fits in
    let len = length-append (codes "auto") (decimal i) in
    let front : length (codes "auto") ≡ 4 = refl in
    record {
      some = omega (arith, len, some);
      few = omega (arith, len, short, front);
      each = list_all-append is_name_byte (codes "auto") (decimal i) ∙ and_from (list_all is_name_byte (codes "auto")) (list_all is_name_byte (decimal i)) refl (digits_named (decimal i) (decimal_is_IsNumeral i fits).0.1);
    }

pub named_so : (bytes : List ℕ) (i : ℕ) → i < 256 → bytes ≡ auto_name i → IsName bytes
named_so bytes i few e = subst IsName (sym e) (auto_is_name i few)
