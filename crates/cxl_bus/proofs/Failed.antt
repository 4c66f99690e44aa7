-- Where calls of a bus failed, in one turn and in the next.
use Rattle.std.proofs.Common.{◌≡◌, ℕ, zero, suc, ◌+◌, ◌-◌, ◌^◌, ◌≤◌, min, max, List, [], ◌∷◌, ◌++◌, length, take, Option, Some, None, refl, sym, ap, ◌∙◌, subst, arith, append_assoc, length-append}
use Rattle.std.specs.Prelude.{IfSome}
use Rattle.std.proofs.Math.Seq.{take-nil}
use Rattle.std.proofs.lemmas.List.{append-nil, map-append, length-map}
use Rattle.cxl_enc.specs.Faults.{Rose, RoseBy, LeavesCount, CountsExactly}
use Rattle.cxl_bus.specs.declared.sent.Sent.{Sent}
use Rattle.cxl_bus.specs.Failed.{behind, place_limit, places_with, HasFailedAt, HasFailed, fresh}
use Rattle.cxl_bus.specs.RegsState.{RegsState}
use Rattle.cxl_bus.specs.Trail.{trail_with}
use Rattle.cxl_bus.proofs.Trails.{trail_nothing}

-- ---- places

-- as many as there is room for, of some and then of others
take_both : (room : ℕ) (xs ys : List ℕ) → take room xs ++ take (room - length (take room xs)) ys ≡ take room (xs ++ ys)
take_both room [] ys =
    ap (λ (front : List ℕ). front ++ take (room - length front) ys) (take-nil room) ∙ ap (λ (k : ℕ). take k ys) (let e : room - 0 ≡ room = omega arith in e)
take_both zero (x ∷ xs) ys = ap (λ (k : ℕ). take k ys) (let e : 0 - 0 ≡ 0 = omega arith in e)
take_both (suc room) (x ∷ xs) ys =
    let less : suc room - suc (length (take room xs)) ≡ room - length (take room xs) = omega arith in
    ap (λ (k : ℕ). x ∷ (take room xs ++ take k ys)) less ∙ ap (λ (rest : List ℕ). x ∷ rest) (take_both room xs ys)

room_both : (room : ℕ) (told xs ys : List ℕ)
    → (told ++ take (room - length told) xs) ++ take (room - length (told ++ take (room - length told) xs)) ys ≡ told ++ take (room - length told) (xs ++ ys)
room_both room told xs ys =
    let front : List ℕ = take (room - length told) xs in
    let long = length-append told front in
    let left : room - length (told ++ front) ≡ room - length told - length front = omega (arith, long) in
    append_assoc told front (take (room - length (told ++ front)) ys)
    ∙ ap (λ (k : ℕ). told ++ (front ++ take k ys)) left
    ∙ ap (λ (rest : List ℕ). told ++ rest) (take_both (room - length told) xs ys)

places_both : (told : Option (List ℕ)) (xs ys : List ℕ) → places_with (places_with told xs) ys ≡ places_with told (xs ++ ys)
places_both None xs ys = refl
places_both (Some told) xs ys = ap (λ (places : List ℕ). Some places) (room_both place_limit told xs ys)

places_none : (told : Option (List ℕ)) → told ≡ places_with told []
places_none None = refl
places_none (Some told) =
    ap (λ (places : List ℕ). Some places) (sym (ap (λ (rest : List ℕ). told ++ rest) (take-nil (place_limit - length told)) ∙ append-nil told))

behind_behind : (n k : ℕ) (places : List ℕ) → behind n (behind k places) ≡ behind (n + k) places
behind_behind n k [] = refl
behind_behind n k (place ∷ places) =
    ap (λ (first : ℕ). first ∷ behind n (behind k places)) (let e : n + (k + place) ≡ n + k + place = omega arith in e)
    ∙ ap (λ (rest : List ℕ). (n + k + place) ∷ rest) (behind_behind n k places)

pub behind_none : (places : List ℕ) → behind 0 places ≡ places
behind_none [] = refl
behind_none (place ∷ places) =
    ap (λ (first : ℕ). first ∷ behind 0 places) (let e : 0 + place ≡ place = omega arith in e) ∙ ap (λ (rest : List ℕ). place ∷ rest) (behind_none places)

pub behind_both : (n k : ℕ) (xs ys : List ℕ) → behind n (xs ++ behind k ys) ≡ behind n xs ++ behind (n + k) ys
behind_both n k xs ys = map-append (λ (place : ℕ). n + place) xs (behind k ys) ∙ ap (λ (rest : List ℕ). behind n xs ++ rest) (behind_behind n k ys)

pub length_both : (k : ℕ) (xs ys : List ℕ) → length (xs ++ behind k ys) ≡ length xs + length ys
length_both k xs ys = length-append xs (behind k ys) ∙ ap (λ (n : ℕ). length xs + n) (length-map ys (λ (place : ℕ). k + place))

module _ (words : List Sent) (xs ys : List ℕ) where
  at_both : (trail between : Option (List Sent)) (first second third : Option (List ℕ)) → between ≡ trail_with trail words
      → IfSome trail (λ sent. second ≡ places_with first (behind (length sent) xs)) → IfSome between (λ sent. third ≡ places_with second (behind (length sent) ys))
      → IfSome trail (λ sent. third ≡ places_with first (behind (length sent) (xs ++ behind (length words) ys)))
  at_both None between first second third is one two = tt
  at_both (Some sent) between first second third is one two =
      let next : third ≡ places_with second (behind (length (sent ++ words)) ys) =
      subst (λ (t : Option (List Sent)). IfSome t (λ (s : List Sent). third ≡ places_with second (behind (length s) ys))) is two in
      next ∙ ap (λ (n : ℕ). places_with second (behind n ys)) (length-append sent words)
      ∙ ap (λ (told : Option (List ℕ)). places_with told (behind (length sent + length words) ys)) one
      ∙ places_both first (behind (length sent) xs) (behind (length sent + length words) ys)
      ∙ ap (λ (places : List ℕ). places_with first places) (sym (behind_both (length sent) (length words) xs ys))

-- ---- counts

rose_both : (n k a b c : ℕ) → RoseBy n a b → RoseBy k b c → RoseBy (n + k) a c
rose_both n k a b c first second = omega (arith, first, second)

exactly_both : (top n k a b c : ℕ) → b ≡ max a (min (a + n) top) → c ≡ max b (min (b + k) top) → c ≡ max a (min (a + (n + k)) top)
exactly_both top n k a b c first second = omega (arith, first, second)

-- ---- calls

-- one part of what was called, and the next
pub fails_both : (old mid new : RegsState) (words : List Sent) (xs ys : List ℕ) → mid.trail ≡ trail_with old.trail words → HasFailed old mid xs → HasFailed mid new ys
    → HasFailed old new (xs ++ behind (length words) ys)
fails_both old mid new words xs ys sent first second =
    let long = length_both (length words) xs ys in
    record {
      at = at_both words xs ys old.trail mid.trail old.failed_at mid.failed_at new.failed_at sent first.at second.at;
      faults = subst (λ (n : ℕ). RoseBy n old.faults new.faults) (sym long) (rose_both (length xs) (length ys) old.faults mid.faults new.faults first.faults second.faults);
      alone = second.alone ∙ first.alone;
      counted = λ alone.
          exactly_both (2 ^ 64 - 1) (length xs) (length ys) old.faults mid.faults new.faults (first.counted alone) (second.counted (first.alone ∙ alone))
          ∙ ap (λ (n : ℕ). max old.faults (min (old.faults + n) (2 ^ 64 - 1))) (sym long);
    }

-- no word was sent in the first part, and no call failed
pub fails_then : (old mid new : RegsState) (places : List ℕ) → mid.trail ≡ old.trail → HasFailed old mid [] → HasFailed mid new places → HasFailed old new places
fails_then old mid new places sent first second =
    subst (HasFailed old new) (behind_none places) (fails_both old mid new [] [] places (sent ∙ trail_nothing old.trail) first second)

none_at : (trail : Option (List Sent)) (told now : Option (List ℕ)) → now ≡ told → IfSome trail (λ sent. now ≡ places_with told (behind (length sent) []))
none_at None told now same = tt
none_at (Some sent) told now same = same ∙ places_none told

-- none failed
pub fails_none : (old new : RegsState) → new.failed_at ≡ old.failed_at → old.faults ≤ new.faults → new.counts_failures_alone ≡ old.counts_failures_alone
    → LeavesCount old.counts_failures_alone old.faults new.faults → HasFailed old new []
fails_none old new same counts alone left = record {
  at = none_at old.trail old.failed_at new.failed_at same;
  faults = omega (arith, counts);
  alone = alone;
  counted = λ is. let e = left is in omega (arith, e);
}

-- where nothing is called
pub fails_nowhere : (regs : RegsState) → HasFailed regs regs []
fails_nowhere regs = fails_none regs regs refl (omega arith) refl (λ _. refl)

-- where all is as it was
pub fails_same : (old new : RegsState) → new ≡ old → HasFailed old new []
fails_same old new same = subst (λ (regs : RegsState). HasFailed old regs []) (sym same) (fails_nowhere old)

-- one did, behind all that was sent
pub fails_once : (old new : RegsState) → HasFailedAt old new (0 ∷ []) → Rose old.faults new.faults → new.counts_failures_alone ≡ old.counts_failures_alone
    → CountsExactly 1 old.counts_failures_alone old.faults new.faults → HasFailed old new (0 ∷ [])
fails_once old new at rose alone counted = record { at = at; faults = rose; alone = alone; counted = counted }

-- a bus that no call failed has the count that it had
pub unfailed_count : (old new : RegsState) → HasFailed old new [] → LeavesCount old.counts_failures_alone old.faults new.faults
unfailed_count old new fails alone = let e = fails.counted alone in omega (arith, e)

-- powering on fails nowhere
pub fails_fresh : (old new : RegsState) → new.failed_at ≡ (fresh old).failed_at → old.faults ≤ new.faults → new.counts_failures_alone ≡ old.counts_failures_alone
    → LeavesCount old.counts_failures_alone old.faults new.faults → HasFailed (fresh old) new []
fails_fresh old new same counts alone left = fails_none (fresh old) new same counts alone left
