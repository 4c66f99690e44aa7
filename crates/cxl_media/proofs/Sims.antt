-- What the shipped media holds after a block was written, added or dropped.
use Rattle.std.proofs.Common.{◌≡◌, ◌≢◌, ◌⊎◌, ℕ, zero, suc, ◌+◌, ◌-◌, ◌<◌, cond, List, length, replicate, set, unwrap_or, Option, None, Some, is_some, refl, sym, ap, ◌∙◌, inl, inr, arith}
use Rattle.std.specs.Prelude.{is_none}
use Rattle.std.specs.Option.{option_map}
use Rattle.std.proofs.lemmas.Bool.{cases_eq, cases_lt, cond-true, cond-false, false≢true}
use Rattle.std.proofs.lemmas.List.{get_or-set_same, get_or-set_other, get_or_past, length-set}
use Rattle.std.proofs.lemmas.List.Sums.{sum_by-set, sum_by-cons}
use Rattle.std.specs.FinMap as fin
use Rattle.std.specs.FinMap.{FinMap}
use Rattle.cxl_media.specs.Pool.{Frames, frame_bytes, IsOut, IsFree, free_count, zeros}
use Rattle.cxl_media.proofs.Steps.{not_counted}
use Rattle.cxl_media.specs.Blocks.{Key, key_cmp, block_at, frames_needed}
use Rattle.cxl_media.specs.Sim.{Sim, blocks_of, IsSim}
use Rattle.cxl_media.proofs.Keys.{key_total, key_exact, key_is, key_is_not, keys_cases, not_none, same_some}
use Rattle.cxl_media.proofs.Values.{get-values, len-values}

-- the bytes of a frame
abbrev pub held_by : Frames → ℕ → List ℕ
held_by pool n = unwrap_or (frame_bytes pool n) zeros

-- what the map has at a block
pub get_block : (s : Sim) (q : Key) → fin.get (blocks_of s) q ≡ option_map (held_by s.pool) (fin.get s.frames q)
get_block s q = get-values (held_by s.pool) s.frames q

pub len_blocks : (s : Sim) → fin.len (blocks_of s) ≡ fin.len s.frames
len_blocks s = len-values (held_by s.pool) s.frames

module _ (s : Sim) (q : Key) where
  -- a block that has a frame
  module _ (n : ℕ) (there : fin.get s.frames q ≡ Some n) where
    pub get_there : fin.get (blocks_of s) q ≡ Some (held_by s.pool n)
    get_there = get_block s q ∙ ap (option_map (held_by s.pool)) there

    pub block_there : (b : List ℕ) → frame_bytes s.pool n ≡ Some b → block_at (blocks_of s) q ≡ b
    block_there b is = ap (λ o. unwrap_or o zeros) get_there ∙ ap (λ o. unwrap_or o zeros) is

    pub needed_there : frames_needed (blocks_of s) q ≡ 0
    needed_there = ap (λ (o : Option (List ℕ)). cond (is_some o) 0 1) get_there

  -- one that has none
  module _ (missing : fin.get s.frames q ≡ None) where
    get_missing : fin.get (blocks_of s) q ≡ None
    get_missing = get_block s q ∙ ap (option_map (held_by s.pool)) missing

    pub block_missing : block_at (blocks_of s) q ≡ zeros
    block_missing = ap (λ o. unwrap_or o zeros) get_missing

    pub needed_missing : frames_needed (blocks_of s) q ≡ 1
    needed_missing = ap (λ (o : Option (List ℕ)). cond (is_some o) 0 1) get_missing

-- a frame that is out is one of the pool's
pub out_within : (pool : Frames) (n : ℕ) → IsOut pool n → n < length pool
out_within pool n out =
    elim (cases_lt n (length pool)) [
      | inl within ↦ within
      | inr past ↦ absurd (false≢true (sym (ap is_some (get_or_past pool n None past)) ∙ out))
    ]

count-set : (pool : Frames) (n : ℕ) (o : Option (List ℕ)) → n < length pool → free_count (set pool n o) + cond (is_none (frame_bytes pool n)) 1 0 ≡ free_count pool + cond (is_none o) 1 0
count-set pool n o within = sum_by-set (λ p. cond (is_none p) 1 0) pool n o None within

-- the blocks of maps of frames that agree but for one block
blocks_but_one : (s t : Sim) (k : Key) (b : List ℕ) → fin.get (blocks_of t) k ≡ Some b → ((q : Key) → q ≢ k → fin.get (blocks_of t) q ≡ fin.get (blocks_of s) q) → blocks_of t ≡ fin.insert (blocks_of s) k b
blocks_but_one s t k b here elsewhere =
    fin.same_map key_total key_exact (blocks_of t) (fin.insert (blocks_of s) k b) (λ q.
    elim (keys_cases q k) [
      | inl same ↦
          ap (fin.get (blocks_of t)) same ∙ here
          ∙ sym (cond-true _ (Some b) (fin.get (blocks_of s) q) (key_is q k same))
          ∙ sym (fin.get-insert key_total (blocks_of s) k b q)
      | inr other ↦
          elsewhere q other
          ∙ sym (cond-false _ (Some b) (fin.get (blocks_of s) q) (key_is_not q k other))
          ∙ sym (fin.get-insert key_total (blocks_of s) k b q)
    ])

-- the bytes of a block do not change with another's frame
same_bytes : (s : Sim) (frames : FinMap key_cmp ℕ) (n : ℕ) (o : Option (List ℕ)) (q : Key) → fin.get frames q ≡ fin.get s.frames q → (fin.get s.frames q ≡ Some n → ⊥) → fin.get (blocks_of (record { pool = set s.pool n o; frames = frames })) q ≡ fin.get (blocks_of s) q
same_bytes s frames n o q same other =
    get_block (record { pool = set s.pool n o; frames = frames }) q
    ∙ ap (option_map (held_by (set s.pool n o))) same
    ∙ by_case (fin.get s.frames q) other
    ∙ sym (get_block s q)
  where
    by_case : (m : Option ℕ) → (m ≡ Some n → ⊥) → option_map (held_by (set s.pool n o)) m ≡ option_map (held_by s.pool) m
    by_case None other = refl
    by_case (Some m) other = ap (λ p. Some (unwrap_or p zeros)) (get_or-set_other s.pool n m o None (λ e. other (ap (λ (k : ℕ). Some k) e)))

-- a block that has a frame is written over
module _ (s : Sim) (room : ℕ) (sim : IsSim s room) (k : Key) (n : ℕ) (there : fin.get s.frames k ≡ Some n) (b : List ℕ) where
  rewritten : Sim
  rewritten = record { pool = set s.pool n (Some b); frames = s.frames }

  pub rewritten_blocks : blocks_of (record { pool = set s.pool n (Some b); frames = s.frames }) ≡ fin.insert (blocks_of s) k b
  rewritten_blocks =
      blocks_but_one s (record { pool = set s.pool n (Some b); frames = s.frames }) k b
      (get_there (record { pool = set s.pool n (Some b); frames = s.frames }) k n there
      ∙ ap (λ p. Some (unwrap_or p zeros)) (get_or-set_same s.pool n (Some b) None (out_within s.pool n (sim.out k n there))))
      (λ q other. same_bytes s s.frames n (Some b) q refl (λ same. other (sim.apart q k n same there)))

  pub rewritten_free : free_count (set s.pool n (Some b)) ≡ free_count s.pool
  rewritten_free =
      let out = sim.out k n there in
      omega (arith, count-set s.pool n (Some b) (out_within s.pool n out), not_counted (frame_bytes s.pool n) out)

-- what a map has after a value was set
pub insert_cases : (m : FinMap key_cmp ℕ) (k q : Key) (n x : ℕ) → fin.get (fin.insert m k n) q ≡ Some x → ((q ≡ k) × (x ≡ n)) ⊎ ((q ≢ k) × (fin.get m q ≡ Some x))
insert_cases m k q n x is =
    elim (keys_cases q k) [
      | inl same ↦ inl (same, same_some x n (sym is ∙ fin.get-insert key_total m k n q ∙ cond-true _ (Some n) (fin.get m q) (key_is q k same)))
      | inr other ↦ inr (other, sym (fin.get-insert key_total m k n q ∙ cond-false _ (Some n) (fin.get m q) (key_is_not q k other)) ∙ is)
    ]

-- what a map has after a value was taken out
pub remove_cases : (m : FinMap key_cmp ℕ) (k q : Key) (x : ℕ) → fin.get (fin.remove m k) q ≡ Some x → (q ≢ k) × (fin.get m q ≡ Some x)
remove_cases m k q x is =
    elim (keys_cases q k) [
      | inl same ↦ absurd (not_none x (sym is ∙ fin.get-remove key_total m k q ∙ cond-true _ None (fin.get m q) (key_is q k same)))
      | inr other ↦ (other, sym (fin.get-remove key_total m k q ∙ cond-false _ None (fin.get m q) (key_is_not q k other)) ∙ is)
    ]

-- a block takes a frame that was free
module _ (s : Sim) (room : ℕ) (sim : IsSim s room) (k : Key) (missing : fin.get s.frames k ≡ None) (n : ℕ) (free : IsFree s.pool n) (b : List ℕ) where
  unused : (q : Key) → fin.get s.frames q ≡ Some n → ⊥
  unused q is = false≢true (sym (ap is_some free.1) ∙ sim.out q n is)

  pub added_blocks : blocks_of (record { pool = set s.pool n (Some b); frames = fin.insert s.frames k n }) ≡ fin.insert (blocks_of s) k b
  added_blocks =
      blocks_but_one s (record { pool = set s.pool n (Some b); frames = fin.insert s.frames k n }) k b
      (get_there (record { pool = set s.pool n (Some b); frames = fin.insert s.frames k n }) k n (fin.get-insert key_total s.frames k n k ∙ cond-true _ (Some n) (fin.get s.frames k) (key_is k k refl))
      ∙ ap (λ p. Some (unwrap_or p zeros)) (get_or-set_same s.pool n (Some b) None free.0))
      (λ q other. same_bytes s (fin.insert s.frames k n) n (Some b) q (fin.get-insert key_total s.frames k n q ∙ cond-false _ (Some n) (fin.get s.frames q) (key_is_not q k other)) (unused q))

  pub added_free : free_count (set s.pool n (Some b)) + 1 ≡ free_count s.pool
  added_free =
      let was : ◌≡◌ {A = ℕ} (cond (is_none (frame_bytes s.pool n)) 1 0) 1 = ap (λ (o : Option (List ℕ)). cond (is_none o) 1 0) free.1 in
      omega (arith, count-set s.pool n (Some b) free.0, was)

  added_out : (q : Key) (m : ℕ) → fin.get (fin.insert s.frames k n) q ≡ Some m → IsOut (set s.pool n (Some b)) m
  added_out q m is =
      elim (insert_cases s.frames k q n m is) [
        | inl new ↦ ap is_some (ap (frame_bytes (set s.pool n (Some b))) new.1 ∙ get_or-set_same s.pool n (Some b) None free.0)
        | inr old ↦
            let other : m ≢ n = λ same. unused q (old.1 ∙ ap (λ (x : ℕ). Some x) same) in
            ap is_some (get_or-set_other s.pool n m (Some b) None other) ∙ sim.out q m old.1
      ]

  added_apart : (q r : Key) (m : ℕ) → fin.get (fin.insert s.frames k n) q ≡ Some m → fin.get (fin.insert s.frames k n) r ≡ Some m → q ≡ r
  added_apart q r m one two =
      elim (insert_cases s.frames k q n m one) [
        | inl first ↦ elim (insert_cases s.frames k r n m two) [
          | inl second ↦ first.0 ∙ sym second.0
          | inr second ↦ absurd (unused r (second.1 ∙ ap (λ (x : ℕ). Some x) first.1))
        ]
        | inr first ↦ elim (insert_cases s.frames k r n m two) [
          | inl second ↦ absurd (unused q (first.1 ∙ ap (λ (x : ℕ). Some x) second.1))
          | inr second ↦ sim.apart q r m first.1 second.1
        ]
      ]

  pub added_sim : IsSim (record { pool = set s.pool n (Some b); frames = fin.insert s.frames k n }) room
  added_sim = record {
    out = added_out;
    apart = added_apart;
    counted =
        let more : fin.len (fin.insert s.frames k n) ≡ fin.len s.frames + 1 =
        fin.len-insert key_total s.frames k n ∙ ap (λ (o : Option ℕ). cond (is_some o) (fin.len s.frames) (fin.len s.frames + 1)) missing in
        omega (arith, added_free, more, sim.counted, length-set s.pool n (Some b));
    size = length-set s.pool n (Some b) ∙ sim.size;
  }

-- a block is dropped, and its frame freed
module _ (s : Sim) (room : ℕ) (sim : IsSim s room) (k : Key) (n : ℕ) (there : fin.get s.frames k ≡ Some n) where
  left_other : (q : Key) (x : ℕ) → fin.get (fin.remove s.frames k) q ≡ Some x → (q ≢ k) × (fin.get s.frames q ≡ Some x)
  left_other q x is = remove_cases s.frames k q x is

  pub dropped_other : (q : Key) → q ≢ k → fin.get (blocks_of (record { pool = set s.pool n None; frames = fin.remove s.frames k })) q ≡ fin.get (blocks_of s) q
  dropped_other q other =
      same_bytes s (fin.remove s.frames k) n None q
      (fin.get-remove key_total s.frames k q ∙ cond-false _ None (fin.get s.frames q) (key_is_not q k other))
      (λ same. other (sim.apart q k n same there))

  pub dropped_sim : IsSim (record { pool = set s.pool n None; frames = fin.remove s.frames k }) room
  dropped_sim = record {
    out = λ q m is.
        let old = left_other q m is in
        let other : m ≢ n = λ same. old.0 (sim.apart q k m old.1 (there ∙ ap (λ (x : ℕ). Some x) (sym same))) in
        ap is_some (get_or-set_other s.pool n m None None other) ∙ sim.out q m old.1;
    apart = λ q r m one two. sim.apart q r m (left_other q m one).1 (left_other r m two).1;
    counted =
        let slot : Option (List ℕ) = None in
        let out = sim.out k n there in
        let fewer : fin.len (fin.remove s.frames k) ≡ fin.len s.frames - 1 =
        fin.len-remove key_total s.frames k ∙ ap (λ (o : Option ℕ). cond (is_some o) (fin.len s.frames - 1) (fin.len s.frames)) there in
        let some : 0 < fin.len s.frames = some_len there in
        omega (arith, fewer, some, sim.counted, length-set s.pool n slot, count-set s.pool n slot (out_within s.pool n out), not_counted (frame_bytes s.pool n) out);
    size = length-set {A = Option (List ℕ)} s.pool n None ∙ sim.size;
  }
    where
      some_len : fin.get s.frames k ≡ Some n → 0 < fin.len s.frames
      some_len is =
          elim (cases_eq (fin.len s.frames) 0) [
            | inl none ↦ absurd (not_none n (sym is ∙ ap (λ (m : FinMap key_cmp ℕ). fin.get m k) (fin.empty_of_len s.frames none) ∙ fin.get-empty key_cmp k))
            | inr some ↦ omega (arith, some)
          ]

-- a map without items has no blocks
pub no_blocks : (pool : Frames) (frames : FinMap key_cmp ℕ) → frames ≡ fin.empty → blocks_of (record { pool = pool; frames = frames }) ≡ fin.empty
no_blocks pool frames none =
    fin.same_map key_total key_exact (blocks_of (record { pool = pool; frames = frames })) fin.empty (λ q.
    get_block (record { pool = pool; frames = frames }) q
    ∙ ap (option_map (held_by pool)) (ap (λ (m : FinMap key_cmp ℕ). fin.get m q) none ∙ fin.get-empty key_cmp q)
    ∙ sym (fin.get-empty key_cmp q))

-- a pool of free frames, and no block
pub new_sim : (pool : Frames) (frames : FinMap key_cmp ℕ) (room : ℕ) → frames ≡ fin.empty → free_count pool ≡ length pool → length pool ≡ room → IsSim (record { pool = pool; frames = frames }) room
new_sim pool frames room none free size = record {
  out = λ q n is. absurd (nothing q n is);
  apart = λ q r n is _. absurd (nothing q n is);
  counted = omega (arith, free, ap fin.len none, fin.len-empty key_cmp ℕ);
  size = size;
}
  where
    nothing : (q : Key) (n : ℕ) → fin.get frames q ≡ Some n → ⊥
    nothing q n is = not_none n (sym is ∙ ap (λ (m : FinMap key_cmp ℕ). fin.get m q) none ∙ fin.get-empty key_cmp q)

-- each frame of a new pool is free
pub all_free : (n : ℕ) → free_count (replicate n None) ≡ length (replicate {A = Option (List ℕ)} n None)
all_free zero = refl
all_free (suc n) =
    let slot : Option (List ℕ) = None in
    omega (arith, all_free n, sum_by-cons (λ o. cond (is_none o) 1 0) slot (replicate n slot))
