-- What a verdict of Usable says.
use Rattle.std.proofs.Common.{◌≡◌, ◌≢◌, ℕ, zero, suc, ◌+◌, ◌*◌, ◌%◌, Bool, true, false, cond, List, [], ◌∷◌, ◌++◌, length, take, Option, Some, None, ltb, refl, sym, subst, append_assoc, unwrap_or, replicate, ◌-◌, arith}
use Rattle.std.specs.Prelude.{◌==◌, ◌&&◌, not, nat_lt, IsTrue, if◌then◌else◌}
use Rattle.std.specs.List.{list_any}
use Rattle.std.specs.Option.{option_map_or}
use Rattle.std.proofs.lemmas.Bool.{false≢true, eqb-true, eqb-false, ltb-false, lt-ltb, and_parts, and_from, or_parts, not-false}
use Rattle.std.proofs.lemmas.List.{append-nil}
use Rattle.std.proofs.lemmas.List.Quantifiers.{all_pairs_push}
use Rattle.cxl_enc.specs.Codes.{bits_of}
use Rattle.cxl_table.specs.Fields.{CfmwsFields}
use Rattle.cxl_window.specs.declared.window.Verdict.TheVariants.{Usable, Align, Size, TooHigh, Overlap, Target, Repeat, Maps}
use Rattle.cxl_enc.specs.Limits.{unit, address_limit}
use Rattle.cxl_enc.proofs.Lists.{not_among}
use Rattle.cxl_num.specs.Maps.{is_usable_map, are_usable_from, are_usable_maps}
use Rattle.cxl_window.specs.Fields.{AreDistinct, IsUsable}
use Rattle.cxl_window.specs.Windows.{first_verdict, cfmws_ways, first_repeat, maps_of, window_with}

-- no cause holds
record HasNoCause (unaligned uneven high lacking : Bool) (overlapped missing repeated : Option ℕ) : Type 0 where
  aligned : unaligned ≡ false
  even : uneven ≡ false
  low : high ≡ false
  complete : lacking ≡ false
  apart : overlapped ≡ None
  present : missing ≡ None
  distinct : repeated ≡ None

no_cause : (unaligned uneven high lacking : Bool) (overlapped missing repeated : Option ℕ)
    → (if unaligned then Align else (if uneven then Size else (if high then TooHigh
    else option_map_or Overlap overlapped (option_map_or Target missing (option_map_or Repeat repeated (if lacking then Maps else Usable)))))) ≡ Usable
    → HasNoCause unaligned uneven high lacking overlapped missing repeated
no_cause true uneven high lacking overlapped missing repeated e = cc
no_cause false true high lacking overlapped missing repeated e = cc
no_cause false false true lacking overlapped missing repeated e = cc
no_cause false false false lacking (Some i) missing repeated e = cc
no_cause false false false lacking None (Some u) repeated e = cc
no_cause false false false lacking None None (Some u) e = cc
no_cause false false false true None None None e = cc
no_cause false false false false None None None e =
    record { aligned = refl; even = refl; low = refl; complete = refl; apart = refl; present = refl; distinct = refl }

-- where nothing is found, the first test fails, and the others find nothing
pub first_fails : {X : Type 0} (found : Bool) (x : X) (others : Option X) → cond found (Some x) others ≡ None → (found ≡ false) × (others ≡ None)
first_fails true x others e = cc
first_fails false x others e = (refl, e)

-- behind different targets stand others that no earlier one equals
AreDistinct-first_repeat : (before us : List ℕ) → AreDistinct before → first_repeat before us ≡ None → AreDistinct (before ++ us)
AreDistinct-first_repeat before [] distinct none = subst AreDistinct (sym (append-nil before)) distinct
AreDistinct-first_repeat before (u ∷ us) distinct none =
    let fresh = first_fails (list_any (λ v. v == u) before) u (first_repeat (before ++ u ∷ []) us) none in
    let more = all_pairs_push (λ v w. v ≢ w) before u distinct (not_among before u fresh.0) in
    subst AreDistinct (append_assoc before (u ∷ []) us) (AreDistinct-first_repeat (before ++ u ∷ []) us more fresh.1)

-- maps that can be used are so with more behind them
are_usable_from-take : (gran k i n : ℕ) (maps rest : List ℕ) → are_usable_from gran k i n maps ≡ true → are_usable_from gran k i n (take n maps ++ rest) ≡ true
are_usable_from-take gran k i zero maps rest usable = refl
are_usable_from-take gran k i (suc n) [] rest usable = absurd (false≢true usable)
are_usable_from-take gran k i (suc n) (map ∷ maps) rest usable =
    let parts = and_parts (is_usable_map gran k i map) (are_usable_from gran k (suc i) n maps) usable in
    and_from (is_usable_map gran k i map) (are_usable_from gran k (suc i) n (take n maps ++ rest)) parts.0 (are_usable_from-take gran k (suc i) n maps rest parts.1)

-- the maps of an XOR window that can be used
usable_padded : (gran k : ℕ) (maps rest : List ℕ) → (nat_lt 0 k && not (are_usable_maps gran k maps)) ≡ false → are_usable_maps gran k (take k maps ++ rest) ≡ true
usable_padded gran zero maps rest complete = refl
usable_padded gran (suc k) maps rest complete =
    let some : ltb 0 (suc k) ≡ true = lt-ltb 0 (suc k) (omega arith) in
    are_usable_from-take gran (suc k) 0 (suc k) maps rest (not-false (are_usable_maps gran (suc k) maps) (rw some at complete))

usable_maps : (xor : Bool) (gran k : ℕ) (maps : List ℕ) → (xor && nat_lt 0 k && not (are_usable_maps gran k maps)) ≡ false
    → IsTrue xor → (let used = if xor then take k maps else [] in IsTrue (are_usable_maps gran k (used ++ replicate (4 - length used) 0)))
usable_maps true gran k maps complete xor = usable_padded gran k maps (replicate (4 - length (take k maps)) 0) complete
usable_maps false gran k maps complete xor = absurd (false≢true xor)

-- what the verdict Usable says of a window's fields, and of what it was judged by
pub record IsJudgedUsable (overlapped missing : Option ℕ) (maps : Option (List ℕ)) (c : CfmwsFields) : Type 0 where
  pub usable : (index : ℕ) → IsUsable (window_with index (maps_of maps c) Usable c)
  pub apart : overlapped ≡ None
  pub present : missing ≡ None

pub judged-Usable : (overlapped missing : Option ℕ) (maps : Option (List ℕ)) (c : CfmwsFields) → first_verdict overlapped missing maps c ≡ Usable → IsJudgedUsable overlapped missing maps c
judged-Usable overlapped missing maps c usable =
    let none = no_cause _ _ _ _ overlapped missing _ usable in
    let size = or_parts (c.size == 0) (not (c.size % (unit * cfmws_ways c) == 0)) none.even in
    record {
      usable = λ index. record {
        aligned = eqb-true (c.base % unit) 0 (not-false _ none.aligned);
        some = let some = eqb-false c.size 0 size.0 in omega arith;
        even = eqb-true (c.size % (unit * cfmws_ways c)) 0 (not-false _ size.1);
        low = ltb-false address_limit (c.base + c.size) none.low;
        distinct = AreDistinct-first_repeat [] c.targets (λ i j d p q. absurd (omega arith)) none.distinct;
        maps = usable_maps c.xor c.gran (bits_of (cfmws_ways c)) (unwrap_or maps []) none.complete;
      };
      apart = none.apart;
      present = none.present;
    }
