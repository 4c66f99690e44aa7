-- The facts of `Sims` in the words of the code: s is what the fields stand for, and t what contracts see.
use Rattle.std.proofs.Common.{◌≡◌, ◌↔◌, ℕ, ◌+◌, List, set, unwrap_or, Option, None, Some, IsSome, is_some, Bor, refl, sym, ap, ◌∙◌, arith}
use Rattle.std.specs.Prelude.{IsTrue, IfSome}
use Rattle.std.proofs.lemmas.Bool.{false≢true}
use Rattle.std.specs.Option.{option_map, option_copied}
use Rattle.std.proofs.lemmas.List.{set-set, get_or-set_same}
use Rattle.std.specs.FinMap as fin
use Rattle.std.specs.FinMap.{FinMap}
use Rattle.cxl_media.specs.Pool.{Frames, frame_bytes, IsFree, free_count, zeros}
use Rattle.cxl_media.specs.Table.{Cells}
use Rattle.cxl_media.specs.Blocks.{Key, key_cmp, block_at, frames_needed}
use Rattle.cxl_media.specs.Sim.{Shipped, Sim, sim_of, blocks_of, IsSim}
use Rattle.cxl_media.proofs.Keys.{same_some}
use Rattle.cxl_media.proofs.Sims.{held_by, get_block, get_there, block_there, needed_there, block_missing, needed_missing, rewritten_blocks, rewritten_free, added_sim, added_blocks, added_free}

-- what the fields stand for, and what contracts see
pub sim_view : (pool : Frames) (cells : Cells) (m : Shipped) → ◌≡◌ {A = Shipped} (record { pool = pool; cells = cells }) m → sim_of pool cells ≡ sim_of m.pool m.cells
sim_view pool cells m view = ap (λ (u : Shipped). sim_of u.pool u.cells) view

module _ (s t : Sim) (view : s ≡ t) (q : Key) where
  module _ (n : ℕ) (found : Some n ≡ fin.get s.frames q) where
    pub in_block : (b : List ℕ) → frame_bytes s.pool n ≡ Some b → block_at (blocks_of t) q ≡ b
    in_block b is = ap (λ (u : Sim). block_at (blocks_of u) q) (sym view) ∙ block_there s q n (sym found) b is

    pub in_needed : frames_needed (blocks_of t) q ≡ 0
    in_needed = ap (λ (u : Sim). frames_needed (blocks_of u) q) (sym view) ∙ needed_there s q n (sym found)

  module _ (none : None ≡ fin.get s.frames q) where
    pub out_block : block_at (blocks_of t) q ≡ zeros
    out_block = ap (λ (u : Sim). block_at (blocks_of u) q) (sym view) ∙ block_missing s q (sym none)

    pub out_needed : frames_needed (blocks_of t) q ≡ 1
    out_needed = ap (λ (u : Sim). frames_needed (blocks_of u) q) (sym view) ∙ needed_missing s q (sym none)

  -- a block is in the map exactly where it has a frame
  pub frame_there : (r : Option (Bor ℕ)) → option_copied r ≡ fin.get s.frames q → IsSome r ↔ IsTrue (fin.contains_key (blocks_of t) q)
  frame_there r is =
      let same : is_some r ≡ fin.contains_key (blocks_of t) q =
      is_some_copied r ∙ ap is_some is ∙ sym (is_some_mapped (fin.get s.frames q)) ∙ sym (ap is_some (get_block s q)) ∙ ap (λ (u : Sim). fin.contains_key (blocks_of u) q) view in
      (λ some. sym same ∙ some, λ there. same ∙ there)
    where
      is_some_copied : (r : Option (Bor ℕ)) → is_some r ≡ is_some (option_copied r)
      is_some_copied None = refl
      is_some_copied (Some n) = refl

      is_some_mapped : (m : Option ℕ) → is_some (option_map (held_by s.pool) m) ≡ is_some m
      is_some_mapped None = refl
      is_some_mapped (Some n) = refl

  -- the frame holds the bytes of the block
  pub frame_holds : (room : ℕ) (r : Option (Bor ℕ)) → IsSim s room → option_copied r ≡ fin.get s.frames q → IfSome r (λ frame. frame_bytes t.pool frame.now ≡ fin.get (blocks_of t) q)
  frame_holds room None sim is = tt
  frame_holds room (Some frame) sim is =
      let out = sim.out q frame.now (sym is) in
      ap (λ (u : Sim). frame_bytes u.pool frame.now) (sym view)
      ∙ whole (frame_bytes s.pool frame.now) out
      ∙ sym (get_there s q frame.now (sym is))
      ∙ ap (λ (u : Sim). fin.get (blocks_of u) q) view
    where
      whole : (o : Option (List ℕ)) → IsSome o → o ≡ Some (unwrap_or o zeros)
      whole None some = absurd (false≢true some)
      whole (Some b) some = refl

-- a block that has a frame is written over
module _ (s t : Sim) (view : s ≡ t) (room : ℕ) (sim : IsSim s room) (q : Key) (n : ℕ) (found : Some n ≡ fin.get s.frames q) (b : List ℕ) where
  pub rewrites_blocks : blocks_of (record { pool = set s.pool n (Some b); frames = s.frames }) ≡ fin.insert (blocks_of t) q b
  rewrites_blocks = rewritten_blocks s room sim q n (sym found) b ∙ ap (λ (u : Sim). fin.insert (blocks_of u) q b) view

  pub rewrites_free : free_count (set s.pool n (Some b)) + frames_needed (blocks_of t) q ≡ free_count t.pool
  rewrites_free = omega (arith, rewritten_free s room sim q n (sym found) b, in_needed s t view q n found, ap (λ (u : Sim). free_count u.pool) view)

-- a block takes a frame that was free
module _ (s t : Sim) (view : s ≡ t) (room : ℕ) (sim : IsSim s room) (q : Key) (none : None ≡ fin.get s.frames q) (n : ℕ) (free : IsFree s.pool n) (pool : Frames) (taken : pool ≡ set s.pool n (Some zeros)) (frames : FinMap key_cmp ℕ) (added : frames ≡ fin.insert s.frames q n) (b : List ℕ) where
  one_write : set pool n (Some b) ≡ set s.pool n (Some b)
  one_write = ap (λ p. set p n (Some b)) taken ∙ set-set s.pool n (Some zeros) (Some b)

  whole : ◌≡◌ {A = Sim} (record { pool = set pool n (Some b); frames = frames }) (record { pool = set s.pool n (Some b); frames = fin.insert s.frames q n })
  whole = λ i. record { pool = one_write i; frames = added i }

  pub adds_sim : (room' : ℕ) → room' ≡ room → IsSim (record { pool = set pool n (Some b); frames = frames }) room'
  adds_sim room' same = rw (whole, same) (added_sim s room sim q (sym none) n free b)

  pub adds_blocks : blocks_of (record { pool = set pool n (Some b); frames = frames }) ≡ fin.insert (blocks_of t) q b
  adds_blocks = ap blocks_of whole ∙ added_blocks s room sim q (sym none) n free b ∙ ap (λ (u : Sim). fin.insert (blocks_of u) q b) view

  pub adds_free : free_count (set pool n (Some b)) + frames_needed (blocks_of t) q ≡ free_count t.pool
  adds_free = omega (arith, ap free_count one_write, added_free s room sim q (sym none) n free b, out_needed s t view q none, ap (λ (u : Sim). free_count u.pool) view)

  -- the frame was zeroed
  pub fresh_bytes : (old : List ℕ) → frame_bytes pool n ≡ Some old → old ≡ zeros
  fresh_bytes old is = same_some old zeros (sym is ∙ ap (λ p. frame_bytes p n) taken ∙ get_or-set_same s.pool n (Some zeros) None free.0)

-- no frame is free
pub full_where : (s t : Sim) (view : s ≡ t) (q : Key) → None ≡ fin.get s.frames q → free_count s.pool ≡ 0 → (frames_needed (blocks_of t) q ≡ 1) × (free_count t.pool ≡ 0)
full_where s t view q none empty = (out_needed s t view q none, sym (ap (λ (u : Sim). free_count u.pool) view) ∙ empty)
