-- Lists of numbers of frames, and the frames marked by one.
use Rattle.std.proofs.Common.{◌≡◌, ◌≢◌, ℕ, zero, suc, ◌+◌, ◌<◌, ◌≤◌, true, false, cond, ◌||◌, List, [], ◌∷◌, length, get_or, set, None, Some, is_some, IsSome, refl, sym, ap, ◌∙◌, arith, add-zero, zero-add, inl, inr}
use Rattle.std.proofs.lemmas.Bool.{or_parts, eqb-false, ne_eqb, eq-eqb, cond-true, cases_lt, false_from_ne_true, false≢true}
use Rattle.std.proofs.lemmas.List.{get_or-set_other, get_or_past}
use Rattle.cxl_media.specs.Chain.{next_of, chain, is_listed, marked_from}

-- a number that is not the head and not listed after it
pub not_listed_after : (n head : ℕ) (rest : List ℕ) → is_listed n (head ∷ rest) ≡ false → (head ≢ n) × (is_listed n rest ≡ false)
not_listed_after n head rest out =
    let parts = or_parts _ _ out in
    (eqb-false head n parts.0, parts.1)

-- another number's head says nothing of this one
pub listed_past : (n head : ℕ) (rest : List ℕ) → n ≢ head → is_listed n (head ∷ rest) ≡ is_listed n rest
listed_past n head rest other = ap (λ b. b || is_listed n rest) (ne_eqb head n (λ e. other (sym e)))

pub listed_head : (n : ℕ) (rest : List ℕ) → is_listed n (n ∷ rest) ≡ true
listed_head n rest = ap (λ b. b || is_listed n rest) (eq-eqb n n refl)

-- a write to a frame that is not on a chain leaves the chain
pub chain-set : (frames : List (List ℕ)) (n : ℕ) (w : List ℕ) (count first : ℕ) → is_listed n (chain frames count first) ≡ false → chain (set frames n w) count first ≡ chain frames count first
chain-set frames n w zero first out = refl
chain-set frames n w (suc count) first out =
    let apart = not_listed_after n first _ out in
    let same : get_or (set frames n w) first [] ≡ get_or frames first [] = get_or-set_other frames n first w [] apart.0 in
    ap (λ b. first ∷ chain (set frames n w) count (next_of b)) same
    ∙ ap (λ ns. first ∷ ns) (chain-set frames n w count (next_of (get_or frames first [])) apart.1)

pub length-marked : (at : ℕ) (free : List ℕ) (frames : List (List ℕ)) → length (marked_from at free frames) ≡ length frames
length-marked at free [] = refl
length-marked at free (bytes ∷ rest) = ap suc (length-marked (at + 1) free rest)

-- the mark of one frame
pub marked_at : (at : ℕ) (free : List ℕ) (frames : List (List ℕ)) (i : ℕ) → i < length frames → get_or (marked_from at free frames) i None ≡ cond (is_listed (at + i) free) None (Some (get_or frames i []))
marked_at at free [] i within = absurd (omega arith)
marked_at at free (bytes ∷ rest) zero within = rw add-zero refl
marked_at at free (bytes ∷ rest) (suc i) within =
    let place : at + 1 + i ≡ at + suc i = omega arith in
    marked_at (at + 1) free rest i (omega arith) ∙ ap (λ k. cond (is_listed k free) None (Some (get_or rest i []))) place

-- frames whose numbers are listed alike are marked alike
pub marked_alike : (at : ℕ) (old new : List ℕ) (frames : List (List ℕ)) → ((k : ℕ) → at ≤ k → is_listed k new ≡ is_listed k old) → marked_from at new frames ≡ marked_from at old frames
marked_alike at old new [] alike = refl
marked_alike at old new (bytes ∷ rest) alike =
    ap (λ b. cond b None (Some bytes) ∷ marked_from (at + 1) new rest) (alike at (omega arith))
    ∙ ap (λ ms. cond (is_listed at old) None (Some bytes) ∷ ms) (marked_alike (at + 1) old new rest (λ k above. alike k (omega arith)))

-- one frame is written, and no other is listed otherwise than before
pub marked-set : (at : ℕ) (old new : List ℕ) (frames : List (List ℕ)) (i : ℕ) (w : List ℕ) → ((k : ℕ) → k ≢ at + i → is_listed k new ≡ is_listed k old) → marked_from at new (set frames i w) ≡ set (marked_from at old frames) i (cond (is_listed (at + i) new) None (Some w))
marked-set at old new [] i w alike = refl
marked-set at old new (bytes ∷ rest) zero w alike =
    rw add-zero (ap (λ ms. cond (is_listed at new) None (Some w) ∷ ms) (marked_alike (at + 1) old new rest (λ k above. alike k (λ same. omega arith))))
marked-set at old new (bytes ∷ rest) (suc i) w alike =
    let place : at + 1 + i ≡ at + suc i = omega arith in
    ap (λ b. cond b None (Some bytes) ∷ marked_from (at + 1) new (set rest i w)) (alike at (λ same. omega arith))
    ∙ ap (λ ms. cond (is_listed at old) None (Some bytes) ∷ ms)
    (marked-set (at + 1) old new rest i w (λ k other. alike k (λ same. other (same ∙ sym place)))
    ∙ ap (λ k. set (marked_from (at + 1) old rest) i (cond (is_listed k new) None (Some w))) place)

-- a frame that is out is within the pool and not free
pub out_is : (free : List ℕ) (frames : List (List ℕ)) (i : ℕ) → IsSome (get_or (marked_from 0 free frames) i None) → (i < length frames) × (is_listed i free ≡ false)
out_is free frames i out =
    elim (cases_lt i (length frames)) [
      | inl within ↦ (
        within,
        false_from_ne_true (is_listed i free) (λ listed.
            let mark : get_or (marked_from 0 free frames) i None ≡ cond (is_listed (0 + i) free) None (Some (get_or frames i [])) = marked_at 0 free frames i within in
            let none : cond (is_listed (0 + i) free) None (Some (get_or frames i [])) ≡ None = cond-true (is_listed (0 + i) free) None (Some (get_or frames i [])) (ap (λ k. is_listed k free) (zero-add i) ∙ listed) in
            false≢true (sym (ap is_some (mark ∙ none)) ∙ out)),
      )
      | inr past ↦
          let none : get_or (marked_from 0 free frames) i None ≡ None = get_or_past (marked_from 0 free frames) i None (omega (arith, length-marked 0 free frames)) in
          absurd (false≢true (sym (ap is_some none) ∙ out))
    ]
