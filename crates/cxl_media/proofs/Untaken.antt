-- A pool whose last frames were never taken.
use Rattle.std.proofs.Common.{◌≡◌, ℕ, zero, suc, ◌+◌, ◌-◌, ◌<◌, ◌≤◌, ◌^◌, cond, List, [], ◌∷◌, ◌++◌, length, set, replicate, Option, None, Some, is_some, inl, inr, refl, sym, ap, ◌∙◌, subst, arith}
use Rattle.std.specs.Prelude.{is_none}
use Rattle.std.proofs.lemmas.Bool.{cases_lt, false≢true}
use Rattle.std.proofs.lemmas.List.{get_or_append_left, get_or-append_right, get_or-replicate, get_or_past, set-append_left, length-append, length-replicate, length-set, length_push, append_assoc}
use Rattle.std.proofs.lemmas.List.Sums.{sum_by-append, sum_by-cons, count_by-le-length}
use Rattle.std.proofs.Math.Seq.{set-append_seam, get_or-append_seam}
use Rattle.cxl_media.specs.Pool.{Frames, IsOut, IsFree, frame_bytes, free_count}
use Rattle.cxl_media.specs.Chain.{chain, marked_from}
use Rattle.cxl_media.specs.Inside.{frames_of, pool_of, AreMade, IsPool}
use Rattle.cxl_media.proofs.Chains.{length-marked}
use Rattle.cxl_media.proofs.Steps.{out_inside}

none_untaken : (k n : ℕ) → frame_bytes (replicate k None) n ≡ None
none_untaken k n =
    let slot : Option (List ℕ) = None in
    elim (cases_lt n k) [
      | inl within ↦ get_or-replicate k n slot slot within
      | inr past ↦ get_or_past (replicate k slot) n slot (omega (arith, length-replicate k slot))
    ]

-- a frame that is out was taken
pub taken_out : (made : Frames) (k n : ℕ) → IsOut (made ++ replicate k None) n → IsOut made n
taken_out made k n out =
    let slot : Option (List ℕ) = None in
    elim (cases_lt n (length made)) [
      | inl within ↦ sym (ap is_some (get_or_append_left made (replicate k slot) slot n within)) ∙ out
      | inr past ↦
          let none = get_or-append_right made (replicate k slot) (length made) n slot refl past ∙ none_untaken k (n - length made) in
          absurd (false≢true (sym (ap is_some none) ∙ out))
    ]

count_free : (n : ℕ) → free_count (replicate n None) ≡ n
count_free zero = refl
count_free (suc n) =
    let slot : Option (List ℕ) = None in
    omega (arith, count_free n, sum_by-cons (λ o. cond (is_none o) 1 0) slot (replicate n slot))

free_with_untaken : (made : Frames) (k : ℕ) → free_count (made ++ replicate k None) ≡ free_count made + k
free_with_untaken made k =
    let slot : Option (List ℕ) = None in
    sum_by-append (λ o. cond (is_none o) 1 0) made (replicate k slot) ∙ ap (λ n. free_count made + n) (count_free k)

module _ (frames : List (List ℕ)) (given first total room : ℕ) (pool : IsPool frames given first total room) where
  pub length_of : length (pool_of frames given first total) ≡ total
  length_of =
      let slot : Option (List ℕ) = None in
      omega (arith, length-append (frames_of frames given first) (replicate (total - length frames) slot), length-marked 0 (chain frames given first) frames, length-replicate (total - length frames) slot, pool.some)

  pub free_of : free_count (pool_of frames given first total) ≡ given + (total - length frames)
  free_of = free_with_untaken (frames_of frames given first) (total - length frames) ∙ ap (λ n. n + (total - length frames)) pool.made.counted

  pub given_few : given ≤ length frames
  given_few = omega (arith, count_by-le-length is_none (frames_of frames given first), length-marked 0 (chain frames given first) frames, pool.made.counted)

  pub made_out : (n : ℕ) → IsOut (pool_of frames given first total) n → IsOut (frames_of frames given first) n
  made_out n out = taken_out (frames_of frames given first) (total - length frames) n out

  -- the same, as the fields have it
  pub out_made : (held : Frames) (n number : ℕ) → pool_of frames given first total ≡ held → n ≡ number → IsOut held number → IsOut (frames_of frames given first) n
  out_made held n number same is out = made_out n (out_inside _ _ _ _ same is out)

  pub bytes_of : (n : ℕ) → n < length frames → frame_bytes (pool_of frames given first total) n ≡ frame_bytes (frames_of frames given first) n
  bytes_of n within =
      let slot : Option (List ℕ) = None in
      get_or_append_left (frames_of frames given first) (replicate (total - length frames) slot) slot n (omega (arith, length-marked 0 (chain frames given first) frames, within))

  pub free_made : (n : ℕ) → IsFree (frames_of frames given first) n → IsFree (pool_of frames given first total) n
  free_made n free =
      let within : n < length frames = omega (arith, length-marked 0 (chain frames given first) frames, free.0) in
      (omega (arith, within, length_of, pool.some), bytes_of n within ∙ free.1)

  -- one frame that was taken is written
  pub set_of : (n : ℕ) (w : List ℕ) (left next : ℕ) (slot : Option (List ℕ)) → n < length frames → frames_of (set frames n w) left next ≡ set (frames_of frames given first) n slot → pool_of (set frames n w) left next total ≡ set (pool_of frames given first total) n slot
  set_of n w left next slot within same =
      let untaken : Frames = replicate (total - length frames) None in
      ap (λ k. frames_of (set frames n w) left next ++ replicate (total - k) None) (length-set frames n w)
      ∙ ap (λ made. made ++ untaken) same
      ∙ sym (set-append_left (frames_of frames given first) untaken n slot (omega (arith, length-marked 0 (chain frames given first) frames, within)))

  pub set_pool : (n : ℕ) (w : List ℕ) (left next : ℕ) → AreMade (set frames n w) left next → IsPool (set frames n w) left next total room
  set_pool n w left next made = record {
    made = made;
    some = omega (arith, length-set frames n w, pool.some);
    fits = pool.fits;
    few = pool.few;
  }

-- no frame was taken
pub new_pool : (frames : List (List ℕ)) (total room : ℕ) → frames ≡ [] → total ≤ room → total < 2 ^ 32 → IsPool frames 0 0 total room
new_pool frames total room none fits few =
    subst (λ (fs : List (List ℕ)). IsPool fs 0 0 total room) (sym none) (record {
      made = record { numbers = tt; counted = refl; few = omega arith };
      some = omega arith;
      fits = fits;
      few = few;
    })

pub new_of : (frames : List (List ℕ)) (total : ℕ) → frames ≡ [] → pool_of frames 0 0 total ≡ replicate total None
new_of frames total none =
    let all : total - 0 ≡ total = omega arith in
    ap (λ fs. pool_of fs 0 0 total) none ∙ ap (λ k. replicate k None) all

-- where no frame was given back, the frames that were taken are out
none_free : (at : ℕ) (frames : List (List ℕ)) → free_count (marked_from at [] frames) ≡ 0
none_free at [] = refl
none_free at (bytes ∷ rest) = omega (arith, none_free (at + 1) rest, sum_by-cons (λ o. cond (is_none o) 1 0) (Some bytes) (marked_from (at + 1) [] rest))

marked_push : (at : ℕ) (frames : List (List ℕ)) (w : List ℕ) → marked_from at [] (frames ++ w ∷ []) ≡ marked_from at [] frames ++ Some w ∷ []
marked_push at [] w = refl
marked_push at (bytes ∷ rest) w = ap (λ ms. Some bytes ∷ ms) (marked_push (at + 1) rest w)

-- a frame is made, and is out
module _ (frames : List (List ℕ)) (given first total room : ℕ) (w : List ℕ) (none : given ≡ 0) (fewer : length frames < total) (pool : IsPool frames given first total room) where
  more : total - length frames ≡ suc (total - length (frames ++ w ∷ []))
  more = omega (arith, length_push frames w, fewer)

  -- the first that was never taken, before those behind it
  before : pool_of frames 0 first total ≡ marked_from 0 [] frames ++ None ∷ replicate (total - length (frames ++ w ∷ [])) None
  before = ap (λ k. marked_from 0 [] frames ++ replicate k None) more

  place : length (marked_from 0 [] frames) ≡ length frames
  place = length-marked 0 [] frames

  pub made_of : pool_of (frames ++ w ∷ []) given first total ≡ set (pool_of frames given first total) (length frames) (Some w)
  made_of =
      let behind : Frames = replicate (total - length (frames ++ w ∷ [])) None in
      rw none
      (ap (λ ms. ms ++ behind) (marked_push 0 frames w)
      ∙ append_assoc (marked_from 0 [] frames) (Some w ∷ []) behind
      ∙ sym (set-append_seam (marked_from 0 [] frames) None behind (Some w))
      ∙ ap (λ n. set (marked_from 0 [] frames ++ None ∷ behind) n (Some w)) place
      ∙ ap (λ frames'. set frames' (length frames) (Some w)) (sym before))

  pub made_free : IsFree (pool_of frames given first total) (length frames)
  made_free =
      let behind : Frames = replicate (total - length (frames ++ w ∷ [])) None in (
        omega (arith, length_of frames given first total room pool, fewer),
        rw none
            (ap (λ frames'. frame_bytes frames' (length frames)) before
            ∙ ap (λ n. frame_bytes (marked_from 0 [] frames ++ None ∷ behind) n) (sym place)
            ∙ get_or-append_seam (marked_from 0 [] frames) None behind None),
      )

  pub made_pool : IsPool (frames ++ w ∷ []) given first total room
  made_pool = rw none (record {
    made = record {
      numbers = tt;
      counted = none_free 0 (frames ++ w ∷ []);
      few = omega (arith, length_push frames w, fewer, pool.few);
    };
    some = omega (arith, length_push frames w, fewer);
    fits = pool.fits;
    few = pool.few;
  })
