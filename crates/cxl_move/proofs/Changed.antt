-- What media tells after the bytes of a region have changed.
use Rattle.std.proofs.Common.{◌≡◌, ◌≢◌, ℕ, suc, ◌*◌, true, false, List, ◌∷◌, Option, Some, refl, sym, ap, subst, ◌∙◌, inl, inr, arith}
use Rattle.std.specs.Prelude.{Contains}
use Rattle.std.specs.FinMap as map
use Rattle.std.specs.Ordering.{nat_cmp, eq_by_cmp}
use Rattle.std.specs.Cmp.{nat_cmp_total, eq_by_cmp_equiv, Equal-is}
use Rattle.std.proofs.lemmas.Map.Lookups.{exact_unsigned}
use Rattle.std.proofs.lemmas.Bool.{cases_eq, cond-true, cond-false, false_from_ne_true}
use Rattle.std.proofs.lemmas.Option.{none-some}
use Rattle.cxl_enc.proofs.Lists.{contains_head, contains_tail, contains_cases}
use Rattle.cxl_media.specs.Blocks.{Key, Blocks}
use Rattle.cxl_media.proofs.Keys.{key_total, key_is, key_is_not}
use Rattle.cxl_model.specs.System.{System}
use Rattle.cxl_model.specs.Bytes.{LiesInSpan}
use Rattle.cxl_model.specs.Contents.{Contents, Holding, AreMediaOf}
use Rattle.cxl_move.specs.Sides.{IsPieceAt, IsCleared}
use Rattle.cxl_move.specs.Holdings.{told_in, AreHoldings}
use Rattle.cxl_move.proofs.Spans.{lies_cases}
use Rattle.cxl_move.proofs.Told.{HoldingLaws, AreTold, own_region}

-- ---- maps

pub insert_same : (blocks : Blocks) (key : Key) (bytes : List ℕ) → map.get (map.insert blocks key bytes) key ≡ Some bytes
insert_same blocks key bytes = map.get-insert key_total blocks key bytes key ∙ cond-true _ (Some bytes) (map.get blocks key) (key_is key key refl)

pub insert_other : (blocks : Blocks) (key other : Key) (bytes : List ℕ) → other ≢ key → map.get (map.insert blocks key bytes) other ≡ map.get blocks other
insert_other blocks key other bytes apart = map.get-insert key_total blocks key bytes other ∙ cond-false _ (Some bytes) (map.get blocks other) (key_is_not other key apart)

number_is : (a b : ℕ) → a ≡ b → eq_by_cmp nat_cmp a b ≡ true
number_is a b is = ap (eq_by_cmp nat_cmp a) (sym is) ∙ (eq_by_cmp_equiv nat_cmp_total).refl a

number_is_not : (a b : ℕ) → a ≢ b → eq_by_cmp nat_cmp a b ≡ false
number_is_not a b other = false_from_ne_true (eq_by_cmp nat_cmp a b) (λ tied. other (exact_unsigned a b ((Equal-is (nat_cmp a b)).0 tied)))

piece_same : (contents : Contents) (n : ℕ) (bytes : List ℕ) → map.get (map.insert contents n bytes) n ≡ Some bytes
piece_same contents n bytes = map.get-insert nat_cmp_total contents n bytes n ∙ cond-true _ (Some bytes) (map.get contents n) (number_is n n refl)

piece_other : (contents : Contents) (n m : ℕ) (bytes : List ℕ) → m ≢ n → map.get (map.insert contents n bytes) m ≡ map.get contents m
piece_other contents n m bytes apart = map.get-insert nat_cmp_total contents n bytes m ∙ cond-false _ (Some bytes) (map.get contents m) (number_is_not m n apart)

-- ---- the first of some regions changes

module _ (laws : HoldingLaws) (s : System) (one : Holding) (others : List Holding) (are : AreHoldings s (one ∷ others)) where
  -- the others have nothing of its spans
  pub apart_from : (other : Holding) (endpoint dpa : ℕ) → Contains others other → LiesInSpan other.found endpoint dpa → LiesInSpan one.found endpoint dpa → ⊥
  apart_from other endpoint dpa there theirs own =
      let within = there.1 in
      let same = laws.shared s one.window other.window one.found other.found endpoint dpa are.system (own_region s (one ∷ others) are one (contains_head one others))
      (own_region s (one ∷ others) are other (contains_tail one other others there)) own theirs in
      are.once 0 (suc there.0) other (omega arith) (omega arith) (same ∙ sym (ap (λ (x : Holding). x.found) there.2))

  other_inside : (other : Holding) (n endpoint block : ℕ) → Contains others other → IsPieceAt other.found other.window n endpoint block → LiesInSpan other.found endpoint (256 * block)
  other_inside other n endpoint block there at =
      laws.pieces.inside s other.window other.found n endpoint block are.system (own_region s (one ∷ others) are other (contains_tail one other others there)) at

  own_inside : (n endpoint block : ℕ) → IsPieceAt one.found one.window n endpoint block → LiesInSpan one.found endpoint (256 * block)
  own_inside n endpoint block at = laws.pieces.inside s one.window one.found n endpoint block are.system (own_region s (one ∷ others) are one (contains_head one others)) at

  -- its spans are cleared, and it goes
  pub cleared_told : (old new : Blocks) → AreTold (one ∷ others) (told_in old) → IsCleared one.found old new → AreTold others (told_in new)
  cleared_told old new told cleared = record {
    each = λ other n endpoint block there at.
        cleared.others endpoint block (λ own. apart_from other endpoint (256 * block) there (other_inside other n endpoint block there at) own)
        ∙ told.each other n endpoint block (contains_tail one other others there) at;
    none = λ endpoint block beside.
        elim (lies_cases one.found endpoint (256 * block)) [
          | inl own ↦ cleared.gone endpoint block own
          | inr not ↦
              cleared.others endpoint block not
              ∙ told.none endpoint block (λ other there lies.
              elim (contains_cases one other others there) [
                | inl is ↦ not (subst (λ (x : Holding). LiesInSpan x.found endpoint (256 * block)) (sym is) lies)
                | inr later ↦ beside other later lies
              ])
        ];
  }

  -- a piece of it is put
  pub put_told : (old : Blocks) (n endpoint block : ℕ) (bytes : List ℕ) → AreTold (one ∷ others) (told_in old) → IsPieceAt one.found one.window n endpoint block
      → AreTold (record one { contents = map.insert one.contents n bytes } ∷ others) (told_in (map.insert old (endpoint, block) bytes))
  put_told old n endpoint block bytes told at = record {
    each = λ other m e b there piece.
        elim (contains_cases after other others there) [
          | inl is ↦
              subst (λ (x : Holding). IsPieceAt x.found x.window m e b → map.get new (e, b) ≡ map.get x.contents m) is (own_piece m e b) piece
          | inr later ↦
              insert_other old (endpoint, block) (e, b) bytes (λ same. beside other m e b later piece (ap (λ (k : Key). k.0) same) (ap (λ (k : Key). k.1) same))
              ∙ told.each other m e b (contains_tail one other others later) piece
        ];
    none = λ e b none.
        insert_other old (endpoint, block) (e, b) bytes
        (λ same. none after (contains_head after others) (lies_at e b (ap (λ (k : Key). k.0) same) (ap (λ (k : Key). k.1) same)))
        ∙ told.none e b (λ other there lies.
        elim (contains_cases one other others there) [
          | inl is ↦ none after (contains_head after others) (subst (λ (x : Holding). LiesInSpan x.found e (256 * b)) (sym is) lies)
          | inr later ↦ none other (contains_tail after other others later) lies
        ]);
  }
    where
      after : Holding
      after = record one { contents = map.insert one.contents n bytes }

      new : Blocks
      new = map.insert old (endpoint, block) bytes

      lies_at : (e b : ℕ) → e ≡ endpoint → b ≡ block → LiesInSpan one.found e (256 * b)
      lies_at e b same number =
          subst (λ (x : ℕ). LiesInSpan one.found x (256 * b)) (sym same) (subst (λ (x : ℕ). LiesInSpan one.found endpoint (256 * x)) (sym number) (own_inside n endpoint block at))

      beside : (other : Holding) (m e b : ℕ) → Contains others other → IsPieceAt other.found other.window m e b → e ≡ endpoint → b ≡ block → ⊥
      beside other m e b there piece same number =
          apart_from other e (256 * b) there (other_inside other m e b there piece) (lies_at e b same number)

      own_piece : (m e b : ℕ) → IsPieceAt one.found one.window m e b → map.get new (e, b) ≡ map.get after.contents m
      own_piece m e b piece =
          let region = own_region s (one ∷ others) are one (contains_head one others) in
          elim (cases_eq m n) [
            | inl is ↦
                let here : IsPieceAt one.found one.window n e b = subst (λ (x : ℕ). IsPieceAt one.found one.window x e b) is piece in
                let place = laws.pieces.one s one.window one.found n e b endpoint block are.system region here at in
                let key : ◌≡◌ {A = Key} (e, b) (endpoint, block) = λ i. (place.0 i, place.1 i) in
                ap (map.get new) key ∙ insert_same old (endpoint, block) bytes ∙ sym (ap (map.get after.contents) is ∙ piece_same one.contents n bytes)
            | inr differs ↦
                insert_other old (endpoint, block) (e, b) bytes
                (λ same.
                differs
                (laws.pieces.apart s one.window one.found m n endpoint block are.system region
                (subst (λ (x : ℕ). IsPieceAt one.found one.window m x block) (ap (λ (k : Key). k.0) same) (subst (λ (x : ℕ). IsPieceAt one.found one.window m e x) (ap (λ (k : Key). k.1) same) piece)) at))
                ∙ told.each one m e b (contains_head one others) piece
                ∙ sym (piece_other one.contents n m bytes differs)
          ]

-- ---- a region without bytes

pub with_empty : (one : Holding) (others : List Holding) (media : ℕ → ℕ → Option (List ℕ)) → AreMediaOf others media → AreMediaOf ((record one { contents = map.empty }) ∷ others) media
with_empty one others media are = record {
  each = λ other n endpoint block bytes there keeps.
      elim (contains_cases first other others there) [
        | inl is ↦ absurd (none-some bytes (sym (map.get-empty nat_cmp n) ∙ ap (λ (x : Holding). map.get x.contents n) is ∙ keeps.piece))
        | inr later ↦ are.each other n endpoint block bytes later keeps
      ];
  only = λ endpoint block bytes is.
      let held = are.only endpoint block bytes is in
      (held.0, held.1, contains_tail first held.0 others held.2, held.3);
}
  where
    first : Holding
    first = record one { contents = map.empty }
