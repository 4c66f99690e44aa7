-- What taking, giving and writing a frame do to the list of the free frames and to the marks.
use Rattle.std.proofs.Common.{◌≡◌, ◌≢◌, ℕ, suc, ◌+◌, ◌-◌, ◌<◌, false, cond, List, [], ◌∷◌, length, get_or, set, Option, None, Some, is_some, IsSome, refl, sym, ap, ◌∙◌, arith, zero-add, subst}
use Rattle.std.specs.Prelude.{is_none}
use Rattle.std.proofs.lemmas.Bool.{cond-true, cond-false, false≢true}
use Rattle.std.proofs.lemmas.List.{get_or-set_same, length-set, get_or_read}
use Rattle.std.proofs.lemmas.List.Sums.{sum_by-set, sum_by-cons, count_by-le-length}
use Rattle.cxl_media.specs.Pool.{Frames, IsOut, free_count, out_count, IsFree, frame_bytes}
use Rattle.cxl_media.specs.Chain.{next_of, chain, is_listed, AreNumbers, marked_from}
use Rattle.cxl_media.specs.Inside.{frames_of, AreMade}
use Rattle.cxl_media.proofs.Chains.{listed_past, listed_head, chain-set, length-marked, marked_at, marked-set, out_is}

-- where one place changes, so does the count
counted-set : (pool : List (Option (List ℕ))) (i : ℕ) (slot : Option (List ℕ)) → i < length pool → free_count (set pool i slot) + cond (is_none (get_or pool i None)) 1 0 ≡ free_count pool + cond (is_none slot) 1 0
counted-set pool i slot within = sum_by-set (λ o. cond (is_none o) 1 0) pool i slot None within

pub not_counted : (o : Option (List ℕ)) → IsSome o → ◌≡◌ {A = ℕ} (cond (is_none o) 1 0) 0
not_counted None h = absurd (false≢true h)
not_counted (Some bytes) h = refl

-- each frame is free or out
pub free_and_out : (pool : List (Option (List ℕ))) → free_count pool + out_count pool ≡ length pool
free_and_out [] = refl
free_and_out (None ∷ rest) =
    let slot : Option (List ℕ) = None in
    omega (arith, free_and_out rest, sum_by-cons (λ o. cond (is_none o) 1 0) slot rest, sum_by-cons (λ o. cond (is_some o) 1 0) slot rest)
free_and_out (Some bytes ∷ rest) = omega (arith, free_and_out rest, sum_by-cons (λ o. cond (is_none o) 1 0) (Some bytes) rest, sum_by-cons (λ o. cond (is_some o) 1 0) (Some bytes) rest)

-- the first free frame is taken
module _ (frames : List (List ℕ)) (first count : ℕ) (w : List ℕ) (pool : AreMade frames (suc count) first) where
  within : first < length frames
  within = pool.numbers.0

  apart : is_listed first (chain frames count (next_of (get_or frames first []))) ≡ false
  apart = pool.numbers.1

  chain_kept : chain (set frames first w) count (next_of (get_or frames first [])) ≡ chain frames count (next_of (get_or frames first []))
  chain_kept = chain-set frames first w count _ apart

  pub taken_frames : frames_of (set frames first w) count (next_of (get_or frames first [])) ≡ set (frames_of frames (suc count) first) first (Some w)
  taken_frames =
      let rest = chain frames count (next_of (get_or frames first [])) in
      rw chain_kept
      (marked-set 0 (first ∷ rest) rest frames first w (λ k other. sym (listed_past k first rest (λ same. other (same ∙ sym (zero-add first)))))
      ∙ ap (λ b. set (marked_from 0 (first ∷ rest) frames) first (cond b None (Some w))) (ap (λ k. is_listed k rest) (zero-add first) ∙ apart))

  pub taken_free : IsFree (frames_of frames (suc count) first) first
  taken_free =
      let rest = chain frames count (next_of (get_or frames first [])) in (
        omega (arith, length-marked 0 (first ∷ rest) frames, within),
        marked_at 0 (first ∷ rest) frames first within ∙ cond-true (is_listed (0 + first) (first ∷ rest)) None (Some (get_or frames first [])) (ap (λ k. is_listed k (first ∷ rest)) (zero-add first) ∙ listed_head first rest),
      )

  pub taken_pool : AreMade (set frames first w) count (next_of (get_or frames first []))
  taken_pool =
      let total : length (set frames first w) ≡ length frames = length-set frames first w in
      let free = taken_free in
      let change : free_count (set (frames_of frames (suc count) first) first (Some w)) + cond (is_none (get_or (frames_of frames (suc count) first) first None)) 1 0 ≡ free_count (frames_of frames (suc count) first) + 0 = counted-set (frames_of frames (suc count) first) first (Some w) free.0 in
      let was : ◌≡◌ {A = ℕ} (cond (is_none (get_or (frames_of frames (suc count) first) first None)) 1 0) 1 = ap (λ (o : Option (List ℕ)). cond (is_none o) 1 0) free.1 in
      record {
        numbers = rw (total, chain_kept) pool.numbers.2;
        counted = ap free_count taken_frames ∙ omega (arith, change, was, pool.counted);
        few = rw total pool.few;
      }

-- the same, in the words of the code
module _ (frames : List (List ℕ)) (free first next : ℕ) (w read : List ℕ) (some : free ≢ 0) (is : read ≡ get_or frames first read) (names : next ≡ next_of read) (pool : AreMade frames free first) where
  one_more : free ≡ suc (free - 1)
  one_more = omega arith

  some_pool : AreMade frames (suc (free - 1)) first
  some_pool = subst (λ (n : ℕ). AreMade frames n first) one_more pool

  next_is : next ≡ next_of (get_or frames first [])
  next_is = names ∙ ap next_of (get_or_read frames first read (within frames first (free - 1) w some_pool) is [])

  pub take_within : first < length frames
  take_within = within frames first (free - 1) w some_pool

  pub take_pool : AreMade (set frames first w) (free - 1) next
  take_pool = rw next_is (taken_pool frames first (free - 1) w some_pool)

  pub take_free : IsFree (frames_of frames free first) first
  take_free = subst (λ (n : ℕ). IsFree (frames_of frames n first) first) (sym one_more) (taken_free frames first (free - 1) w some_pool)

  pub take_frames : frames_of (set frames first w) (free - 1) next ≡ set (frames_of frames free first) first (Some w)
  take_frames =
      ap (λ n. frames_of (set frames first w) (free - 1) n) next_is
      ∙ taken_frames frames first (free - 1) w some_pool
      ∙ ap (λ n. set (frames_of frames n first) first (Some w)) (sym one_more)

-- a frame that is out is given back, and names the one that was the first
module _ (frames : List (List ℕ)) (free first number : ℕ) (w : List ℕ) (pool : AreMade frames free first) (out : IsSome (frame_bytes (frames_of frames free first) number)) (names : next_of w ≡ first) where
  given_within : (number < length frames) × (is_listed number (chain frames free first) ≡ false)
  given_within = out_is (chain frames free first) frames number out

  -- the chain of the pool with the frame at its head
  given_chain : chain (set frames number w) (suc free) number ≡ number ∷ chain frames free first
  given_chain =
      let written : get_or (set frames number w) number [] ≡ w = get_or-set_same frames number w [] given_within.0 in
      ap (λ b. number ∷ chain (set frames number w) free (next_of b)) written
      ∙ ap (λ n. number ∷ chain (set frames number w) free n) names
      ∙ ap (λ ns. number ∷ ns) (chain-set frames number w free first given_within.1)

  pub given_frames : frames_of (set frames number w) (suc free) number ≡ set (frames_of frames free first) number None
  given_frames =
      let old = chain frames free first in
      ap (λ ns. marked_from 0 ns (set frames number w)) given_chain
      ∙ marked-set 0 old (number ∷ old) frames number w (λ k other. listed_past k number old (λ same. other (same ∙ sym (zero-add number))))
      ∙ ap (λ o. set (marked_from 0 old frames) number o) (cond-true (is_listed (0 + number) (number ∷ old)) None (Some w) (ap (λ k. is_listed k (number ∷ old)) (zero-add number) ∙ listed_head number old))

  given_counted : free_count (set (frames_of frames free first) number None) ≡ suc free
  given_counted =
      let change = counted-set (frames_of frames free first) number None (omega (arith, length-marked 0 (chain frames free first) frames, given_within.0)) in
      let was : ◌≡◌ {A = ℕ} (cond (is_none (frame_bytes (frames_of frames free first) number)) 1 0) 0 = not_counted (frame_bytes (frames_of frames free first) number) out in
      omega (arith, change, was, pool.counted)

  pub given_pool : AreMade (set frames number w) (suc free) number
  given_pool =
      let total : length (set frames number w) ≡ length frames = length-set frames number w in
      record {
        numbers = subst (λ (ns : List ℕ). AreNumbers (length (set frames number w)) ns) (sym given_chain) (rw total given_within.0, given_within.1, subst (λ (n : ℕ). AreNumbers n (chain frames free first)) (sym total) pool.numbers);
        counted = ap free_count given_frames ∙ given_counted;
        few = rw total pool.few;
      }

  -- not every frame is free
  pub given_fits : free < length frames
  given_fits =
      let slot : Option (List ℕ) = None in
      omega (arith, given_counted, count_by-le-length is_none (set (frames_of frames free first) number slot), length-set (frames_of frames free first) number slot, length-marked 0 (chain frames free first) frames)

-- a frame that is out, as the fields have it
pub out_inside : (pool held : Frames) (n number : ℕ) → pool ≡ held → n ≡ number → IsOut held number → IsOut pool n
out_inside pool held n number same is out = rw (same, is) out

-- a frame that is out is written
module _ (frames : List (List ℕ)) (free first number : ℕ) (pool : AreMade frames free first) (out : IsSome (frame_bytes (frames_of frames free first) number)) where
  written_within : (number < length frames) × (is_listed number (chain frames free first) ≡ false)
  written_within = out_is (chain frames free first) frames number out

  pub out_within : number < length frames
  out_within = written_within.0

  pub out_bytes : frame_bytes (frames_of frames free first) number ≡ Some (get_or frames number [])
  out_bytes =
      let old = chain frames free first in
      marked_at 0 old frames number out_within
      ∙ cond-false (is_listed (0 + number) old) None (Some (get_or frames number [])) (ap (λ k. is_listed k old) (zero-add number) ∙ written_within.1)

  pub written_frames : (w : List ℕ) → frames_of (set frames number w) free first ≡ set (frames_of frames free first) number (Some w)
  written_frames w =
      let old = chain frames free first in
      ap (λ ns. marked_from 0 ns (set frames number w)) (chain-set frames number w free first written_within.1)
      ∙ marked-set 0 old old frames number w (λ k other. refl)
      ∙ ap (λ o. set (marked_from 0 old frames) number o) (cond-false (is_listed (0 + number) old) None (Some w) (ap (λ k. is_listed k old) (zero-add number) ∙ written_within.1))

  pub written_pool : (w : List ℕ) → AreMade (set frames number w) free first
  written_pool w =
      let total : length (set frames number w) ≡ length frames = length-set frames number w in
      let change = counted-set (frames_of frames free first) number (Some w) (omega (arith, length-marked 0 (chain frames free first) frames, written_within.0)) in
      let was : ◌≡◌ {A = ℕ} (cond (is_none (frame_bytes (frames_of frames free first) number)) 1 0) 0 = not_counted (frame_bytes (frames_of frames free first) number) out in
      record {
        numbers = rw (total, chain-set frames number w free first written_within.1) pool.numbers;
        counted = ap free_count (written_frames w) ∙ omega (arith, change, was, pool.counted);
        few = rw total pool.few;
      }
