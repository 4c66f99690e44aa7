-- Bytes put before what stands in a room.
use Rattle.std.proofs.Common.{◌≡◌, ℕ, ◌+◌, ◌-◌, ◌≤◌, List, ◌++◌, length, drop, refl, sym, ap, ◌∙◌, arith}
use Rattle.std.proofs.lemmas.List.{drop-drop, drop_at}

-- past the place before which they are put all stays
pub past_put : (first at tail : ℕ) (bytes old new : List ℕ) → first + length bytes ≡ at → at ≤ tail → drop first new ≡ bytes ++ drop at old → drop tail new ≡ drop tail old
past_put first at tail bytes old new long past put =
    let from_first : first + (length bytes + (tail - at)) ≡ tail = omega arith in
    let from_at : at + (tail - at) ≡ tail = omega arith in
    ap (λ (k : ℕ). drop k new) (sym from_first)
    ∙ sym (drop-drop (length bytes + (tail - at)) first new)
    ∙ ap (drop (length bytes + (tail - at))) put
    ∙ sym (drop-drop (tail - at) (length bytes) (bytes ++ drop at old))
    ∙ ap (drop (tail - at)) (drop_at bytes (drop at old) (length bytes) refl)
    ∙ drop-drop (tail - at) at old ∙ ap (λ (k : ℕ). drop k old) from_at
