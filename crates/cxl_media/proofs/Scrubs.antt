-- Blocks that pass a test are taken out of the media one after the other.
use Rattle.std.proofs.Common.{◌≡◌, ◌≢◌, ℕ, ◌+◌, ◌*◌, ◌/◌, ◌%◌, ◌<◌, ◌≤◌, Bool, true, false, cond, not, ◌&&◌, eqb, leb, ltb, List, length, set, Option, None, Some, refl, sym, ap, subst, ◌∙◌, inl, inr, arith}
use Rattle.std.specs.Prelude.{IfSome}
use Rattle.std.specs.Option.{option_map}
use Rattle.std.proofs.lemmas.Bool.{cases_Bool, cond-true, cond-false, false≢true}
use Rattle.std.proofs.lemmas.Bool.Decides.{nat_tests}
use Rattle.std.proofs.lemmas.List.{length-set}
use Rattle.std.specs.FinMap as fin
use Rattle.std.specs.FinMap.{FinMap}
use Rattle.cxl_media.specs.Pool.{Frames, IsOut, free_count}
use Rattle.cxl_media.specs.declared.cell.Cell.{Cell}
use Rattle.cxl_media.specs.Blocks.{Key, key_cmp, is_between}
use Rattle.cxl_media.specs.Table.{Cells, key_at, cell_at, frames_in, passes, NonePass}
use Rattle.cxl_media.specs.Index.{Table}
use Rattle.cxl_media.specs.Sim.{Sim, sim_of, blocks_of, IsSim, IsShipped}
use Rattle.std.specs.Vec.{vec_capacity}
use Rattle.cxl_media.specs.declared.zones.Zones.{Zones}
use Rattle.cxl_media.specs.Zones.{AreZoned}
use Rattle.cxl_media.proofs.Keys.{key_total, key_exact, key_is, key_is_not, keys_cases}
use Rattle.cxl_media.proofs.Tables.{find_absent, get_frames}
use Rattle.cxl_media.proofs.Sims.{held_by, get_block, len_blocks, out_within, dropped_sim, dropped_other}

-- a block that passes stands there
pub passes_at : (test : Key → Bool) (o : Option Cell) → passes test o ≡ true → (p : Cell) × (o ≡ Some p) × (test (key_at p) ≡ true)
passes_at test None passed = absurd (false≢true passed)
passes_at test (Some p) passed = (p, refl, passed)

-- a block between two device addresses, by its number
pub between_here : (ep from to number : ℕ) → from % 256 ≡ 0 → from / 256 ≤ number → number < to / 256 → is_between ep from to (ep, number) ≡ true
between_here ep from to number whole low high =
    let above : from ≤ 256 * number = omega (arith, whole, low) in
    let below : 256 * number < to = omega (arith, high) in
    both ep (256 * number) above below
  where
    both : (e n : ℕ) → from ≤ n → n < to → (eqb e e && (leb from n && ltb n to)) ≡ true
    both e n above below = grind (arith, nat_tests)

pub record IsNumbered (ep from to : ℕ) (key : Key) : Type 0 where
  pub its : key ≡ (ep, key.1)
  pub low : from / 256 ≤ key.1
  pub high : key.1 < to / 256

pub between_numbers : (ep from to : ℕ) (key : Key) → to % 256 ≡ 0 → is_between ep from to key ≡ true → IsNumbered ep from to key
between_numbers ep from to key whole passed =
    let facts = told key.0 (256 * key.1) passed in
    record {
      its = ap (λ (e : ℕ). (e, key.1)) facts.0;
      low = omega (arith, facts.1);
      high = omega (arith, facts.2, whole);
    }
  where
    told : (e n : ℕ) → (eqb e ep && (leb from n && ltb n to)) ≡ true → (e ≡ ep) × (from ≤ n) × (n < to)
    told e n passed = (grind (arith, nat_tests), grind (arith, nat_tests), grind (arith, nat_tests))

-- none but blocks that pass were taken out
pub record IsScrubbed (test : Key → Bool) (first : Sim) (pool : Frames) (table : Table) (zones : Zones) : Type 0 where
  pub shipped : IsShipped pool table.cells table.room zones
  pub total : length pool ≡ length first.pool
  pub kept : (q : Key) → test q ≡ false → fin.get (blocks_of (sim_of pool table.cells)) q ≡ fin.get (blocks_of first) q

pub scrubbed_first : (test : Key → Bool) (pool : Frames) (table : Table) (zones : Zones) → IsShipped pool table.cells table.room zones → IsScrubbed test (sim_of pool table.cells) pool table zones
scrubbed_first test pool table zones shipped = record { shipped = shipped; total = refl; kept = λ q outside. refl }

-- the block at a place is taken out, and its frame is given back
module _ (test : Key → Bool) (first : Sim) (pool : Frames) (table : Table) (zones : Zones) (before : IsScrubbed test first pool table zones) (place n : ℕ) (p : Cell) (is_here : cell_at table.cells place ≡ Some p) (after : Table) (frame : IfSome (cell_at table.cells place) (λ q. fin.get (frames_in table.cells) (key_at q) ≡ Some n)) (removed : IfSome (cell_at table.cells place) (λ q. frames_in after.cells ≡ fin.remove (frames_in table.cells) (key_at q))) where
  pub there : fin.get (frames_in table.cells) (key_at p) ≡ Some n
  there = subst (λ (o : Option Cell). IfSome o (λ q. fin.get (frames_in table.cells) (key_at q) ≡ Some n)) is_here frame

  pub left : frames_in after.cells ≡ fin.remove (frames_in table.cells) (key_at p)
  left = subst (λ (o : Option Cell). IfSome o (λ q. frames_in after.cells ≡ fin.remove (frames_in table.cells) (key_at q))) is_here removed

  -- the frame that is given back is out
  pub gone_out : IsOut pool n
  gone_out = before.shipped.sim.out (key_at p) n there

  -- there is a home for its zone
  pub some_homes : 0 < zones.homes
  some_homes =
      let within : n < length pool = out_within pool n gone_out in
      omega (arith, within, before.shipped.sim.size, before.shipped.homes)

  whole : ◌≡◌ {A = Sim} (sim_of (set pool n None) after.cells) (record { pool = set pool n None; frames = fin.remove (frames_in table.cells) (key_at p) })
  whole = λ i. record { pool = set pool n None; frames = left i }

  pub scrub_drops : after.room ≡ table.room → test (key_at p) ≡ true → (less : Zones) → ((frames : FinMap key_cmp ℕ) (key : Key) → AreZoned frames zones.homes zones.firsts zones.nodes.items → fin.get frames key ≡ Some n → AreZoned (fin.remove frames key) less.homes less.firsts less.nodes.items) → less.homes ≡ zones.homes → vec_capacity less.nodes ≡ vec_capacity zones.nodes → IsScrubbed test first (set pool n None) after less
  scrub_drops room tested less rezoned homes capacity = record {
    shipped = record {
      sim =
          subst (λ (s : Sim). IsSim s after.room) (sym whole)
          (subst (λ (r : ℕ). IsSim (record { pool = set pool n None; frames = fin.remove (frames_in table.cells) (key_at p) }) r) (sym room)
          (dropped_sim (sim_of pool table.cells) table.room before.shipped.sim (key_at p) n there));
      zoned = subst (λ (frames : FinMap key_cmp ℕ). AreZoned frames less.homes less.firsts less.nodes.items) (sym left) (rezoned (frames_in table.cells) (key_at p) before.shipped.zoned there);
      homes = omega (arith, homes, before.shipped.homes, room);
      places = omega (arith, capacity, before.shipped.places, room);
      small = omega (arith, before.shipped.small, room);
    };
    total = length-set {A = Option (List ℕ)} pool n None ∙ before.total;
    kept = λ q outside.
        let other : q ≢ key_at p = λ same. false≢true (sym outside ∙ ap test same ∙ tested) in
        ap (λ (s : Sim). fin.get (blocks_of s) q) whole
        ∙ dropped_other (sim_of pool table.cells) table.room before.shipped.sim (key_at p) n there q other
        ∙ before.kept q outside;
  }

  pub now_gone : (q : Key) → q ≡ key_at p → fin.get (frames_in after.cells) q ≡ None
  now_gone q same =
      ap (λ m. fin.get m q) left ∙ fin.get-remove key_total (frames_in table.cells) (key_at p) q
      ∙ cond-true _ None (fin.get (frames_in table.cells) q) (key_is q (key_at p) same)

  pub still_gone : (q : Key) → fin.get (frames_in table.cells) q ≡ None → fin.get (frames_in after.cells) q ≡ None
  still_gone q gone =
      elim (keys_cases q (key_at p)) [
        | inl same ↦ now_gone q same
        | inr other ↦
            ap (λ m. fin.get m q) left ∙ fin.get-remove key_total (frames_in table.cells) (key_at p) q
            ∙ cond-false _ None (fin.get (frames_in table.cells) q) (key_is_not q (key_at p) other) ∙ gone
      ]

-- the frame's number is the frame
pub at_number : (number n : ℕ) (zones less : Zones) → number ≡ n → ((frames : FinMap key_cmp ℕ) (key : Key) → AreZoned frames zones.homes zones.firsts zones.nodes.items → fin.get frames key ≡ Some number → AreZoned (fin.remove frames key) less.homes less.firsts less.nodes.items)
    → (frames : FinMap key_cmp ℕ) (key : Key) → AreZoned frames zones.homes zones.firsts zones.nodes.items → fin.get frames key ≡ Some n → AreZoned (fin.remove frames key) less.homes less.firsts less.nodes.items
at_number number n zones less same rezoned frames key zoned there = rezoned frames key zoned (there ∙ ap (λ (m : ℕ). Some m) (sym same))

-- no block that passes stands at any place
pub none_left : (test : Key → Bool) (cells : Cells) (at : ℕ) → NonePass test cells at → at ≤ 0 → (q : Key) → test q ≡ true → fin.get (frames_in cells) q ≡ None
none_left test cells at none end q passed =
    get_frames cells q
    ∙ find_absent cells q (λ k p is same. false≢true (sym (none k p (omega (arith, end)) is) ∙ ap test same ∙ passed))

-- all blocks that pass were taken out
module _ (test : Key → Bool) (first : Sim) (pool : Frames) (table : Table) (zones : Zones) (done : IsScrubbed test first pool table zones) where
  pub scrubbed_blocks : ((q : Key) → test q ≡ true → fin.get (frames_in table.cells) q ≡ None) → blocks_of (sim_of pool table.cells) ≡ fin.retain_keys (blocks_of first) (λ q. not (test q))
  scrubbed_blocks gone =
      fin.same_map key_total key_exact _ _ (λ q.
      let kept = fin.get-retain_keys (blocks_of first) (λ k. not (test k)) q (λ x tied. ap (λ k. not (test k)) (sym (key_exact q x tied))) in
      elim (cases_Bool (test q)) [
        | inl passed ↦
            get_block (sim_of pool table.cells) q ∙ ap (option_map (held_by pool)) (gone q passed)
            ∙ sym (ap (λ b. cond (not b) (fin.get (blocks_of first) q) None) passed) ∙ sym kept
        | inr outside ↦
            done.kept q outside
            ∙ sym (ap (λ b. cond (not b) (fin.get (blocks_of first) q) None) outside) ∙ sym kept
      ])

  pub scrubbed_frames : (room : ℕ) → IsSim first room → free_count pool + fin.len (blocks_of (sim_of pool table.cells)) ≡ free_count first.pool + fin.len (blocks_of first)
  scrubbed_frames room sim = omega (arith, done.shipped.sim.counted, sim.counted, done.total, len_blocks (sim_of pool table.cells), len_blocks first)
