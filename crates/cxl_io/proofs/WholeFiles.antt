-- What reading a file up to one byte more than a file may have comes to.
use Rattle.std.proofs.Common.{◌≡◌, ℕ, ◌+◌, ◌<◌, ◌≤◌, Option, None, Some, IfSome, Result, Ok, Err, IfOk, List, [], ◌++◌, length, take, sym, ap, subst, ◌∙◌, arith}
use Rattle.std.specs.Prelude.{Vec}
use Rattle.std.specs.declared.alloc.Global.{Global}
use Rattle.std.proofs.lemmas.List.{length-take, take_all}
use Rattle.std.specs.Io.Take.{take_limit, take_inner, take_remaining}
use Rattle.std.specs.Option.{option_map}
use Rattle.std.specs.declared.io.traits.Take.{Take}
use Rattle.cxl_enc.specs.Limits.{file_limit}
use Rattle.cxl_io.specs.Fetch.{IsFile, IsTooLarge}
use Rattle.cxl_io.specs.Told.{Told, Untold, told_by}
use Rattle.cxl_io.specs.declared.fetch.FetchFault.{FetchFault}

-- ---- a reader cut at a limit, read to its end

front_of : (bytes : List ℕ) (limit : ℕ) (known : Option (List ℕ)) → IfSome (option_map (take limit) known) (λ left. bytes ≡ [] ++ left) → IfSome known (λ left. bytes ≡ take limit left)
front_of bytes limit None holds = tt
front_of bytes limit (Some left) holds = holds

pub front_read : {R : Type 0} (remaining : R → Option (List ℕ)) (cut : Take R) (file : R) (limit : ℕ) (before bytes : List ℕ) → take_limit cut ≡ limit → take_inner cut ≡ file → before ≡ []
    → IfSome (take_remaining remaining cut) (λ left. bytes ≡ before ++ left) → IfSome (remaining file) (λ left. bytes ≡ take limit left)
front_read remaining cut file limit before bytes limit_is inner_is none read =
    subst (λ reader. IfSome (remaining reader) (λ left. bytes ≡ take limit left)) inner_is
    (subst (λ n. IfSome (remaining (take_inner cut)) (λ left. bytes ≡ take n left)) limit_is
    (front_of bytes (take_limit cut) (remaining (take_inner cut)) (subst (λ front. IfSome (take_remaining remaining cut) (λ left. bytes ≡ front ++ left)) none read)))

-- ---- by how many bytes were read

pub over_limit : (known : Option (List ℕ)) (bytes : List ℕ) → IfSome known (λ left. bytes ≡ take (file_limit + 1) left) → file_limit < length bytes → IsTooLarge (told_by known)
over_limit None bytes front more = tt
over_limit (Some left) bytes front more = let count = ap length front in omega (arith, count, length-take (file_limit + 1) left, more)

pub within_limit : (known : Option (List ℕ)) (bytes : List ℕ) → IfSome known (λ left. bytes ≡ take (file_limit + 1) left) → length bytes ≤ file_limit → IsFile (told_by known) bytes
within_limit None bytes front few = record { within = few; same = tt }
within_limit (Some left) bytes front few = record { within = few; same = front ∙ take_all (file_limit + 1) left (let count = ap length front in omega (arith, count, length-take (file_limit + 1) left, few)) }

-- the bytes that were read, where they are within the limit
pub file_read : (known : Option (List ℕ)) (bytes : List ℕ) (answer : Result (Vec ℕ Global) FetchFault) → IfSome known (λ left. bytes ≡ take (file_limit + 1) left) → IfOk answer (λ file. (file.items ≡ bytes) × (length bytes ≤ file_limit)) → IfOk answer (λ file. IsFile (told_by known) file.items)
file_read known bytes (Ok file) front is =
    subst (λ items. IsFile (told_by known) items) (sym is.0) (within_limit known bytes front is.1)
file_read known bytes (Err fault) front is = tt

-- where nothing is told of it
pub file_untold : (told : Told) (answer : Result (Vec ℕ Global) FetchFault) → IfOk answer (λ file. IsFile told file.items) → IfOk answer (λ file. IsFile Untold file.items)
file_untold told (Ok file) is = record { within = is.within; same = tt }
file_untold told (Err fault) is = tt
