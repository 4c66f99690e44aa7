-- How many frames the bytes of regions take, where some of them change.
use Rattle.std.proofs.Common.{◌≡◌, ◌≢◌, ℕ, zero, suc, ◌+◌, ◌-◌, ◌/◌, ◌<◌, ◌≤◌, Bool, true, false, cond, not, if◌then◌else◌, List, [], ◌∷◌, map, length, get_or, Option, Some, refl, sym, ap, ◌∙◌, subst, arith}
use Rattle.std.specs.Prelude.{All, Contains, filter, fold, nat_lt, sum_by, is_some}
use Rattle.std.specs.List.{range_with_len}
use Rattle.std.specs.Cmp.{nat_cmp_total, Equal-is}
use Rattle.std.specs.Ordering.{nat_cmp, eq_by_cmp}
use Rattle.std.specs.FinMap as fin
use Rattle.std.specs.FinMap.{get-insert, len-empty, len-insert, nat_cmp-IsAntisymmetric}
use Rattle.std.specs.Str.{bytes_eq}
use Rattle.std.proofs.lemmas.Bool.{false≢true, ltb-false}
use Rattle.std.proofs.lemmas.List.{get_or-map, length-map}
use Rattle.std.proofs.lemmas.List.Sums.{sum_by-append, sum_by-cons}
use Rattle.std.proofs.lemmas.Slice.Eq.{bytes_eq-Decides}
use Rattle.cxl_script.specs.declared.command.Store.{Store}
use Rattle.cxl_model.specs.Contents.{Contents}
use Rattle.cxl_model.proofs.NewBytes.{absent}
use Rattle.cxl_move.specs.Bytes.{piece_after, new_pieces, written}
use Rattle.cxl_machine.specs.Machine.{Live, Machine, under_release, kept_regions, pieces_held, free_frames, with_contents}
use Rattle.cxl_machine.specs.Accesses.{frames_wanted, offset_in}
use Rattle.cxl_machine.specs.Copies.{pieces_of, copied, moved, frames_for}
use Rattle.cxl_machine.specs.Sound.{IsMachine}
use Rattle.cxl_machine.proofs.KeepingLists.{changed, HaveOwnNames, own_names, same_names, unchanged, all_unchanged}
use Rattle.cxl_machine.proofs.KeepingOrder.{pairs_front}

-- ---- new pieces of a region

-- a piece is there that was, or the one that is put
there_after : (contents : Contents) (n k : ℕ) (piece : List ℕ) → k ≢ n → fin.contains_key (fin.insert contents n piece) k ≡ fin.contains_key contents k
there_after contents n k piece other = ap (λ (o : Option (List ℕ)). is_some o) (get-insert {X = List ℕ} nat_cmp_total contents n piece k ∙ go (eq_by_cmp nat_cmp k n) refl)
  where
    go : (b : Bool) → eq_by_cmp nat_cmp k n ≡ b → cond b (Some piece) (fin.get contents k) ≡ fin.get contents k
    go true same = absurd (other (nat_cmp-IsAntisymmetric k n ((Equal-is (nat_cmp k n)).0 same)))
    go false differ = refl

-- one more item in front of a filter
front : (p q : ℕ → Bool) (from : ℕ) (n : ℕ) → ((k : ℕ) → from ≤ k → p k ≡ q k) → filter p (range_with_len from n) ≡ filter q (range_with_len from n)
front p q from zero same = refl
front p q from (suc n) same =
    let rest = front p q (from + 1) n (λ k above. same k (omega arith)) in
    ap (λ (b : Bool). if b then from ∷ filter p (range_with_len (from + 1) n) else filter p (range_with_len (from + 1) n)) (same from (omega arith))
    ∙ ap (λ (xs : List ℕ). if q from then from ∷ xs else xs) rest

counted : (b : Bool) (n from : ℕ) (rest : List ℕ) → cond b n (n + 1) + length rest ≡ n + length (if not b then from ∷ rest else rest)
counted true n from rest = refl
counted false n from rest = omega arith

pieces_put : (f : ℕ → List ℕ) (from n : ℕ) (contents : Contents)
    → fin.len (fold (λ after i. fin.insert after i (f i)) contents (range_with_len from n)) ≡ fin.len contents + length (filter (absent contents) (range_with_len from n))
pieces_put f from zero contents = omega arith
pieces_put f from (suc n) contents =
    let next : Contents = fin.insert contents from (f from) in
    let same : filter (absent next) (range_with_len (from + 1) n) ≡ filter (absent contents) (range_with_len (from + 1) n) =
    front (absent next) (absent contents) (from + 1) n (λ k above. ap not (there_after contents from k (f from) (λ e. omega (arith, above, e)))) in
    pieces_put f (from + 1) n next
    ∙ ap (λ (k : ℕ). k + length (filter (absent next) (range_with_len (from + 1) n))) (len-insert {X = List ℕ} nat_cmp_total contents from (f from))
    ∙ ap (λ (xs : List ℕ). cond (fin.contains_key contents from) (fin.len contents) (fin.len contents + 1) + length xs) same
    ∙ counted (fin.contains_key contents from) (fin.len contents) from (filter (absent contents) (range_with_len (from + 1) n))

-- a store adds the pieces that it touches and that were not there
pub pieces_written : (contents : Contents) (offset : ℕ) (bytes : List ℕ) → fin.len (written contents offset bytes) ≡ fin.len contents + length (new_pieces contents offset (length bytes))
pieces_written contents offset bytes =
    pieces_put (piece_after contents offset bytes) (offset / 256) ((offset + length bytes - 1) / 256 + 1 - offset / 256) contents

-- ---- a region whose bytes change

abbrev frames_of : List Live → ℕ
frames_of regions = sum_by pieces_of regions

changed_pieces : (contents : Contents) (region : Live) → pieces_of (changed region.name contents region) ≡ fin.len contents
changed_pieces contents region = go (bytes_eq region.name region.name) ((bytes_eq-Decides region.name region.name).1 refl)
  where
    go : (b : Bool) → b ≡ true → pieces_of (if b then record region { contents = contents } else region) ≡ fin.len contents
    go true same = refl
    go false differ = absurd (false≢true differ)

one_changed : (contents : Contents) (regions : List Live) (region : Live) (k : ℕ) → HaveOwnNames regions → k < length regions → get_or regions k region ≡ region
    → frames_of (map (changed region.name contents) regions) + pieces_of region ≡ frames_of regions + fin.len contents
one_changed contents [] region k own below read = absurd (omega (arith, below))
one_changed contents (head ∷ rest) region zero own below read =
    let others : All (λ (r : Live). r.name ≢ head.name) rest = λ j d low same. own 0 (suc j) d (omega arith) (omega (arith, low)) (sym same) in
    let still : map (changed region.name contents) rest ≡ rest = all_unchanged region.name contents rest (subst (λ (r : Live). All (λ (x : Live). x.name ≢ r.name) rest) read others) in
    let first : pieces_of (changed region.name contents head) ≡ fin.len contents = ap (λ (r : Live). pieces_of (changed region.name contents r)) read ∙ changed_pieces contents region in
    let before : pieces_of head ≡ pieces_of region = ap pieces_of read in
    let after : frames_of (map (changed region.name contents) rest) ≡ frames_of rest = ap frames_of still in
    let left : frames_of (map (changed region.name contents) (head ∷ rest)) ≡ pieces_of (changed region.name contents head) + frames_of (map (changed region.name contents) rest) =
    sum_by-cons pieces_of (changed region.name contents head) (map (changed region.name contents) rest) in
    let right : frames_of (head ∷ rest) ≡ pieces_of head + frames_of rest = sum_by-cons pieces_of head rest in
    omega (arith, first, before, after, left, right)
one_changed contents (head ∷ rest) region (suc k) own below read =
    let other : head.name ≢ region.name = λ same. own 0 (suc k) region (omega arith) (omega (arith, below)) (same ∙ sym (ap (λ (r : Live). r.name) read)) in
    let first : pieces_of (changed region.name contents head) ≡ pieces_of head = ap pieces_of (unchanged region.name contents head other) in
    let rest_changes = one_changed contents rest region k (λ i j d before within. own (suc i) (suc j) d (omega (arith, before)) (omega (arith, within))) (omega (arith, below)) read in
    let left : frames_of (map (changed region.name contents) (head ∷ rest)) ≡ pieces_of (changed region.name contents head) + frames_of (map (changed region.name contents) rest) =
    sum_by-cons pieces_of (changed region.name contents head) (map (changed region.name contents) rest) in
    let right : frames_of (head ∷ rest) ≡ pieces_of head + frames_of rest = sum_by-cons pieces_of head rest in
    omega (arith, first, rest_changes, left, right)

-- ---- a machine of which one region's bytes change

module _ (m : Machine) (own : HaveOwnNames (kept_regions m)) (region : Live) (there : Contains m.live region) where
  pub held_after : (contents : Contents) → pieces_held (with_contents region.name contents m) + pieces_of region ≡ pieces_held m + fin.len contents
  held_after contents =
      let after = sum_by-append pieces_of (map (changed region.name contents) m.live) (under_release m.job) in
      let before = sum_by-append pieces_of m.live (under_release m.job) in
      let moves = one_changed contents m.live region there.0 (pairs_front (λ (a b : Live). a.name ≢ b.name) m.live (under_release m.job) own) there.1 there.2 in
      omega (arith, after, before, moves)

  -- a store takes a frame for each piece that was not there
  pub held_written : (offset : ℕ) (bytes : List ℕ)
      → pieces_held (with_contents region.name (written region.contents offset bytes) m) ≡ pieces_held m + length (new_pieces region.contents offset (length bytes))
  held_written offset bytes =
      let moves = held_after (written region.contents offset bytes) in
      let more = pieces_written region.contents offset bytes in
      omega (arith, moves, more)

-- ---- what stores, copies and moves take

module _ (m : Machine) (is : IsMachine m) where
  pub free_is : free_frames m + pieces_held m ≡ m.frames
  free_is = let held = is.held in omega (arith, held)

  names : HaveOwnNames (kept_regions m)
  names = is.regions.names

  pub stored_held : (region : Live) → Contains m.live region → (store : Store) → nat_lt (free_frames m) (frames_wanted region store) ≡ false
      → pieces_held (with_contents region.name (written region.contents (offset_in region store.h) store.bytes) m) ≤ m.frames
  stored_held region there store room =
      let more = held_written m names region there (offset_in region store.h) store.bytes in
      let free = free_is in
      let few = ltb-false (free_frames m) (frames_wanted region store) room in
      omega (arith, more, free, few)

  pub copied_pieces : (from to : Live) → Contains m.live to → pieces_held (copied m from to) + pieces_of to ≡ pieces_held m + pieces_of from
  copied_pieces from to here = held_after m names to here from.contents

  pub copied_held : (from to : Live) → Contains m.live to → nat_lt (frames_for m to) (pieces_of from) ≡ false → pieces_held (copied m from to) ≤ m.frames
  copied_held from to here room =
      let more = copied_pieces from to here in
      let free = free_is in
      let few = ltb-false (frames_for m to) (pieces_of from) room in
      omega (arith, more, free, few)

  -- the first region is still there behind a copy
  first_there : (from to : Live) → Contains m.live from → from.name ≢ to.name → Contains (map (changed to.name from.contents) m.live) from
  first_there from to (k, below, read) apart = (
    k,
    omega (arith, below, length-map m.live (changed to.name from.contents)),
    get_or-map (changed to.name from.contents) m.live k from from below ∙ ap (changed to.name from.contents) read ∙ unchanged to.name from.contents from apart,
  )

  pub moved_pieces : (from to : Live) → Contains m.live from → Contains m.live to → from.name ≢ to.name → pieces_held (moved m from to) + pieces_of to ≡ pieces_held m
  moved_pieces from to there here apart =
      let own : HaveOwnNames (kept_regions (copied m from to)) = own_names _ _ (same_names to.name from.contents m.live (under_release m.job)) names in
      let copies = copied_pieces from to here in
      let clears = held_after (copied m from to) own from (first_there from to there apart) fin.empty in
      let none = len-empty nat_cmp (List ℕ) in
      omega (arith, copies, clears, none)

  pub moved_held : (from to : Live) → Contains m.live from → Contains m.live to → from.name ≢ to.name → pieces_held (moved m from to) ≤ m.frames
  moved_held from to there here apart =
      let less = moved_pieces from to there here apart in
      let held = is.held in
      omega (arith, less, held)
