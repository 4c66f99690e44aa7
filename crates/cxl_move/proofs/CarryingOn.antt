-- The pieces of a region are carried over to another, one after the other.
use Rattle.std.proofs.Common.{◌≡◌, ◌≢◌, ℕ, zero, suc, ◌+◌, ◌*◌, ◌/◌, ◌<◌, ◌≤◌, ◌||◌, true, false, cond, eqb, List, [], ◌∷◌, ◌++◌, length, get_or, take, Option, None, is_some, refl, sym, ap, subst, ◌∙◌, inl, inr, arith}
use Rattle.std.specs.Prelude.{Contains}
use Rattle.std.specs.List.Sorted.{IsStrictlySortedBy}
use Rattle.std.specs.Ordering.{nat_cmp}
use Rattle.std.specs.FinMap as map
use Rattle.std.proofs.lemmas.Bool.{cases_Bool, cases_eq, cond-true, cond-false, or_right, or_from, eq-eqb, ne_eqb, false≢true}
use Rattle.std.proofs.lemmas.List.{take_all}
use Rattle.std.proofs.lemmas.Map.Keys.{sorted_from_strictly_increasing, below_from_sorted, sorted_tail}
use Rattle.cxl_enc.proofs.Lists.{is_in, in_from}
use Rattle.cxl_enc.proofs.Tests.{or_false}
use Rattle.cxl_enc.proofs.Options.{none_where}
use Rattle.cxl_window.specs.Fields.{WindowFields}
use Rattle.cxl_media.specs.Blocks.{Key, Blocks}
use Rattle.cxl_media.proofs.Keys.{key_total, key_exact}
use Rattle.cxl_model.specs.declared.found.Found.{Found}
use Rattle.cxl_model.specs.Bytes.{LiesInSpan}
use Rattle.cxl_move.specs.Sides.{IsPieceAt, HasPiece, AreHeld, IsCleared, AreSides, IsCarriedOver}
use Rattle.cxl_move.specs.inner.Steps.{IsPieceCarried}
use Rattle.cxl_move.proofs.Lists.{AreApart, rising_apart, picked, length-picked, picked_from, picked_to, apart-picked}
use Rattle.cxl_move.proofs.Counts.{IsWithout, len_without}
use Rattle.cxl_move.proofs.Clearing.{any-append}
use Rattle.cxl_move.proofs.Spans.{lies_cases}
use Rattle.cxl_move.proofs.Told.{PieceLaws}

-- a number of a rising list does not stand before its place
not_before : (ns : List ℕ) (i : ℕ) → IsStrictlySortedBy nat_cmp ns → i < length ns → is_in (get_or ns i 0) (take i ns) ≡ false
not_before [] i sorted within = absurd (omega arith)
not_before (n ∷ ns) zero sorted within = refl
not_before (n ∷ ns) (suc i) sorted within =
    or_from (eqb n (get_or ns i 0)) (is_in (get_or ns i 0) (take i ns))
    (ne_eqb n (get_or ns i 0) (λ same. let below : n < get_or ns i 0 = below_from_sorted (n ∷ ns) 0 (suc i) 0 sorted (omega arith) (omega arith) in omega (arith, below, same)))
    (not_before ns i (sorted_tail nat_cmp n ns sorted) (omega arith))

-- these pieces are carried over, and the second region has no other
pub record AreCarried (rest : Option (List ℕ) → Option (List ℕ)) (from : Found) (v : WindowFields) (to : Found) (w : WindowFields) (done : List ℕ) (old new : Blocks) : Type 0 where
  pub second : (n endpoint block source place : ℕ) → IsPieceAt to w n endpoint block → IsPieceAt from v n source place → map.get new (endpoint, block) ≡ cond (is_in n done) (map.get old (source, place)) None
  pub first : (n source place : ℕ) → IsPieceAt from v n source place → map.get new (source, place) ≡ cond (is_in n done) (rest (map.get old (source, place))) (map.get old (source, place))
  pub others : (endpoint block : ℕ) → (LiesInSpan from endpoint (256 * block) → ⊥) → (LiesInSpan to endpoint (256 * block) → ⊥) → map.get new (endpoint, block) ≡ map.get old (endpoint, block)

module _ (laws : PieceLaws) (rest : Option (List ℕ) → Option (List ℕ)) (from : Found) (v : WindowFields) (to : Found) (w : WindowFields) (sides : AreSides from v to w) where
  first_inside : (n source place : ℕ) → IsPieceAt from v n source place → LiesInSpan from source (256 * place)
  first_inside n source place at = laws.inside sides.s v from n source place sides.system sides.first at

  second_inside : (n endpoint block : ℕ) → IsPieceAt to w n endpoint block → LiesInSpan to endpoint (256 * block)
  second_inside n endpoint block at = laws.inside sides.s w to n endpoint block sides.system sides.second at

  -- a block of the first region is none of the second
  blocks_apart : (n m source place endpoint block : ℕ) → IsPieceAt from v n source place → IsPieceAt to w m endpoint block → ◌≡◌ {A = Key} (source, place) (endpoint, block) → ⊥
  blocks_apart n m source place endpoint block at also same =
      sides.apart endpoint (256 * block)
      (subst (λ (k : Key). LiesInSpan from k.0 (256 * k.1)) same (first_inside n source place at)) (second_inside m endpoint block also)

  -- the second region is cleared, and nothing is carried yet
  pub carried_none : (old new : Blocks) → IsCleared to old new → AreCarried rest from v to w [] old new
  carried_none old new cleared = record {
    second = λ n endpoint block source place at own. cleared.gone endpoint block (second_inside n endpoint block at);
    first = λ n source place at. cleared.others source place (λ lies. sides.apart source (256 * place) (first_inside n source place at) lies);
    others = λ endpoint block not_first not_second. cleared.others endpoint block not_second;
  }

  -- one more piece
  module _ (done : List ℕ) (old mid new : Blocks) (p : ℕ) (source target : Key) (before : AreCarried rest from v to w done old mid) (fresh : is_in p done ≡ false) (own : IsPieceAt from v p source.0 source.1) (goal : IsPieceAt to w p target.0 target.1) where
    -- it stands where it stood, and is not yet where it goes
    pub source_stays : map.get mid source ≡ map.get old source
    source_stays = before.first p source.0 source.1 own ∙ cond-false _ (rest (map.get old source)) (map.get old source) fresh

    pub target_free : map.get mid target ≡ None
    target_free = before.second p target.0 target.1 source.0 source.1 goal own ∙ cond-false _ (map.get old source) None fresh

    in_more : (n : ℕ) → is_in n (done ++ p ∷ []) ≡ (is_in n done || eqb p n)
    in_more n = any-append (λ m. eqb m n) done p

    now_in : (n : ℕ) → n ≡ p → is_in n (done ++ p ∷ []) ≡ true
    now_in n is = in_more n ∙ or_right (is_in n done) (eqb p n) (eq-eqb p n (sym is))

    in_still : (n : ℕ) → n ≢ p → is_in n (done ++ p ∷ []) ≡ is_in n done
    in_still n other = in_more n ∙ ap (λ b. is_in n done || b) (ne_eqb p n (λ same. other (sym same))) ∙ or_false (is_in n done)

    pub carried_more : IsPieceCarried rest source target mid new → AreCarried rest from v to w (done ++ p ∷ []) old new
    carried_more step = record {
      second = λ n endpoint block place_ep place at from_at.
          elim (cases_eq n p) [
            | inl is ↦
                let here = laws.one sides.s w to p endpoint block target.0 target.1 sides.system sides.second (subst (λ (x : ℕ). IsPieceAt to w x endpoint block) is at) goal in
                let there = laws.one sides.s v from p place_ep place source.0 source.1 sides.system sides.first (subst (λ (x : ℕ). IsPieceAt from v x place_ep place) is from_at) own in
                ap (map.get new) (key_path endpoint block target.0 target.1 here)
                ∙ step.given ∙ source_stays
                ∙ sym (cond-true _ (map.get old (place_ep, place)) None (now_in n is) ∙ ap (map.get old) (key_path place_ep place source.0 source.1 there))
            | inr other ↦
                step.others (endpoint, block) (λ same. blocks_apart p n source.0 source.1 endpoint block own at (sym same))
                (λ same. other (laws.apart sides.s w to n p target.0 target.1 sides.system sides.second (subst (λ (k : Key). IsPieceAt to w n k.0 k.1) same at) goal))
                ∙ before.second n endpoint block place_ep place at from_at
                ∙ ap (λ b. cond b (map.get old (place_ep, place)) None) (sym (in_still n other))
          ];
      first = λ n place_ep place at.
          elim (cases_eq n p) [
            | inl is ↦
                let there = laws.one sides.s v from p place_ep place source.0 source.1 sides.system sides.first (subst (λ (x : ℕ). IsPieceAt from v x place_ep place) is at) own in
                let key = key_path place_ep place source.0 source.1 there in
                ap (map.get new) key ∙ step.left ∙ ap rest source_stays
                ∙ sym (cond-true _ (rest (map.get old (place_ep, place))) (map.get old (place_ep, place)) (now_in n is) ∙ ap (λ (k : Key). rest (map.get old k)) key)
            | inr other ↦
                step.others (place_ep, place) (λ same. other (laws.apart sides.s v from n p source.0 source.1 sides.system sides.first (subst (λ (k : Key). IsPieceAt from v n k.0 k.1) same at) own))
                (λ same. blocks_apart n p place_ep place target.0 target.1 at goal same)
                ∙ before.first n place_ep place at
                ∙ ap (λ b. cond b (rest (map.get old (place_ep, place))) (map.get old (place_ep, place))) (sym (in_still n other))
          ];
      others = λ endpoint block not_first not_second.
          step.others (endpoint, block) (λ same. not_first (subst (λ (k : Key). LiesInSpan from k.0 (256 * k.1)) (sym same) (first_inside p source.0 source.1 own)))
          (λ same. not_second (subst (λ (k : Key). LiesInSpan to k.0 (256 * k.1)) (sym same) (second_inside p target.0 target.1 goal)))
          ∙ before.others endpoint block not_first not_second;
    }
      where
        key_path : (a b x y : ℕ) → (a ≡ x) × (b ≡ y) → ◌≡◌ {A = Key} (a, b) (x, y)
        key_path a b x y same = λ i. (same.0 i, same.1 i)

  -- all pieces that the first region had
  pub carried_all : (pieces : List ℕ) (i : ℕ) (old new : Blocks) → rest None ≡ None → AreHeld from v old pieces → length pieces ≤ i → AreCarried rest from v to w (take i pieces) old new → IsCarriedOver rest from v to w old new
  carried_all pieces i old new nothing held past part = record {
    second = λ n endpoint block source place at own.
        whole.second n endpoint block source place at own
        ∙ elim (cases_Bool (is_in n pieces)) [
          | inl is ↦ cond-true _ (map.get old (source, place)) None is
          | inr not ↦ cond-false _ (map.get old (source, place)) None not ∙ sym (was_none n source place own not)
        ];
    first = λ n source place own.
        whole.first n source place own
        ∙ elim (cases_Bool (is_in n pieces)) [
          | inl is ↦ cond-true _ (rest (map.get old (source, place))) (map.get old (source, place)) is
          | inr not ↦
              cond-false _ (rest (map.get old (source, place))) (map.get old (source, place)) not
              ∙ was_none n source place own not ∙ sym (ap rest (was_none n source place own not) ∙ nothing)
        ];
    others = whole.others;
  }
    where
      whole : AreCarried rest from v to w pieces old new
      whole = subst (λ (ns : List ℕ). AreCarried rest from v to w ns old new) (take_all i pieces past) part

      was_none : (n source place : ℕ) → IsPieceAt from v n source place → is_in n pieces ≡ false → map.get old (source, place) ≡ None
      was_none n source place own not =
          none_where (map.get old (source, place)) (λ bytes is.
          false≢true (sym not ∙ in_from pieces n ((held.exact n).1 (record { endpoint = source; block = place; at = own; there = ap is_some is }))))

  -- the piece at a place of the list
  module _ (pieces : List ℕ) (i n : ℕ) (old mid : Blocks) (held : AreHeld from v old pieces) (before : AreCarried rest from v to w (take i pieces) old mid) (within : i < length pieces) (is : n ≡ get_or pieces i 0) where
    pub fresh_at : is_in n (take i pieces) ≡ false
    fresh_at = subst (λ (x : ℕ). is_in x (take i pieces) ≡ false) (sym is) (not_before pieces i (sorted_from_strictly_increasing pieces held.rising) within)

    pub piece_of : HasPiece from v old n
    piece_of = (held.exact n).0 (i, within, other pieces i 0 n within (sym is))
      where
        other : (xs : List ℕ) (k d e : ℕ) → k < length xs → get_or xs k d ≡ e → get_or xs k e ≡ e
        other [] k d e inside at = absurd (omega arith)
        other (x ∷ xs) zero d e inside at = at
        other (x ∷ xs) (suc k) d e inside at = other xs k d e (omega arith) at

    pub first_within : n < from.size / 256
    first_within = laws.within sides.s v from n piece_of.endpoint piece_of.block sides.system sides.first piece_of.at

    pub second_within : n < to.size / 256
    second_within = subst (λ (x : ℕ). n < x / 256) sides.size first_within

    -- it is in media at its block
    pub still_there : (source : Key) (target : Key) → IsPieceAt from v n source.0 source.1 → IsPieceAt to w n target.0 target.1 → map.contains_key mid source ≡ true
    still_there source target own goal =
        let same = laws.one sides.s v from n source.0 source.1 piece_of.endpoint piece_of.block sides.system sides.first own piece_of.at in
        let key : ◌≡◌ {A = Key} source (piece_of.endpoint, piece_of.block) = λ k. (same.0 k, same.1 k) in
        ap is_some (source_stays (take i pieces) old mid mid n source target before fresh_at own goal) ∙ ap (map.contains_key old) key ∙ piece_of.there

  -- ---- the blocks of the pieces that the second region had

  module _ (old new : Blocks) (others : List ℕ) (cleared : IsCleared to old new) (held : AreHeld to w old others) where
    abbrev At : ℕ → Key → Type 0
    At n key = IsPieceAt to w n key.0 key.1

    abbrev tells : (n : ℕ) → Contains others n → (key : Key) × At n key
    tells n there =
        let piece = (held.exact n).0 there in
        ((piece.endpoint, piece.block), piece.at)

    abbrev keys : List Key
    keys = picked At others tells

    one_key : (n : ℕ) (k l : Key) → At n k → At n l → k ≡ l
    one_key n k l a b = let same = laws.one sides.s w to n k.0 k.1 l.0 l.1 sides.system sides.second a b in λ i. (same.0 i, same.1 i)

    keys_there : (key : Key) → Contains keys key → map.contains_key old key ≡ true
    keys_there key there =
        let piece = picked_from At others tells key there in
        let has = (held.exact piece.0).0 piece.1 in
        ap (map.contains_key old) (one_key piece.0 key (has.endpoint, has.block) piece.2 has.at) ∙ has.there

    without_keys : IsWithout key_total key_exact keys old new
    without_keys = record {
      gone = λ key there.
          let piece = picked_from At others tells key there in
          cleared.gone key.0 key.1 (second_inside piece.0 key.0 key.1 piece.2);
      kept = λ key not.
          elim (lies_cases to key.0 (256 * key.1)) [
            | inr beside ↦ cleared.others key.0 key.1 beside
            | inl lies ↦
                let piece = laws.onto sides.s w to key.0 key.1 sides.system sides.second lies in
                cleared.gone key.0 key.1 lies
                ∙ sym (none_where (map.get old key) (λ bytes is.
                not (picked_to At one_key others tells piece.0 key ((held.exact piece.0).1 (record { endpoint = key.0; block = key.1; at = piece.1; there = ap is_some is })) piece.1)))
          ];
    }

    -- as many frames are free as it had pieces
    pub freed_pieces : (before after : ℕ) → after + map.len new ≡ before + map.len old → after ≡ before + length others
    freed_pieces before after frames =
        let apart : AreApart keys = apart-picked At (λ n m key a b. laws.apart sides.s w to n m key.0 key.1 sides.system sides.second a b) others tells (rising_apart others held.rising) in
        let count = len_without key_total key_exact keys old new apart keys_there without_keys in
        let long = length-picked At others tells in
        omega (arith, count, frames, long)
