-- As many blocks as the regions have pieces.
use Rattle.std.proofs.Common.{◌≡◌, ℕ, ◌*◌, true, List, [], ◌∷◌, ◌++◌, length, is_some, refl, sym, ap, subst, ◌∙◌, inl, inr, arith, length-append}
use Rattle.std.specs.Prelude.{Contains, sum_by}
use Rattle.std.specs.FinMap as map
use Rattle.std.specs.FinMap.{nat_cmp-IsAntisymmetric}
use Rattle.std.specs.Cmp.{nat_cmp_total}
use Rattle.std.proofs.lemmas.List.Elements.{Contains-append_left, Contains-append_right, Contains-append_cases}
use Rattle.std.proofs.lemmas.List.Sums.{sum_by-cons}
use Rattle.cxl_enc.proofs.Lists.{contains_head, contains_tail, contains_cases, contains_none}
use Rattle.cxl_enc.proofs.Options.{some_of}
use Rattle.cxl_media.specs.Blocks.{Key, Blocks}
use Rattle.cxl_media.proofs.Keys.{key_total, key_exact}
use Rattle.cxl_model.specs.System.{System, IsSystem}
use Rattle.cxl_model.specs.Regions.{IsRegionIn}
use Rattle.cxl_model.specs.Contents.{Holding, AreContents, AreMediaOf}
use Rattle.cxl_move.specs.Sides.{IsPieceAt, AreHeld}
use Rattle.cxl_move.specs.Holdings.{told_in, AreHoldings}
use Rattle.cxl_move.proofs.Lists.{AreApart, rising_apart, picked, length-picked, picked_from, picked_to, apart-picked}
use Rattle.cxl_move.proofs.Counts.{len_is, apart-keys, length-keys, keys_to, keys_from}
use Rattle.cxl_move.proofs.Told.{HoldingLaws, AreTold, own_region, own_contents}
use Rattle.cxl_move.proofs.Changed.{apart_from}
use Rattle.cxl_move.proofs.CarriedOver.{AreHoldings-tail}

apart-append : {X : Type 0} (xs ys : List X) → AreApart xs → AreApart ys → ((x : X) → Contains xs x → Contains ys x → ⊥) → AreApart (xs ++ ys)
apart-append [] ys apart others none = others
apart-append (x ∷ xs) ys apart others none = (
  λ there.
      elim (Contains-append_cases xs ys x there) [
        | inl own ↦ apart.0 own
        | inr theirs ↦ none x (contains_head x xs) theirs
      ],
  apart-append xs ys apart.1 others (λ y own theirs. none y (contains_tail x y xs own) theirs),
)

-- piece n of the region is carried to this block
abbrev At : Holding → ℕ → Key → Type 0
At one n key = IsPieceAt one.found one.window n key.0 key.1

-- one of the regions carries a piece of its bytes there
record IsKept (holdings : List Holding) (key : Key) : Type 0 where
  one : Holding
  there : Contains holdings one
  n : ℕ
  has : map.contains_key one.contents n ≡ true
  at : At one n key

module _ (laws : HoldingLaws) (s : System) where
  own_one : (one : Holding) → IsSystem s → IsRegionIn s one.window one.found → (n : ℕ) (k l : Key) → At one n k → At one n l → k ≡ l
  own_one one system region n k l first second =
      let same = laws.pieces.one s one.window one.found n k.0 k.1 l.0 l.1 system region first second in
      λ i. (same.0 i, same.1 i)

  piece_key : (one : Holding) → IsSystem s → IsRegionIn s one.window one.found → AreContents one.found one.contents → (n : ℕ) → Contains (map.keys one.contents) n → (key : Key) × At one n key
  piece_key one system region contents n there =
      let some = some_of (map.get one.contents n) (keys_from nat_cmp_total nat_cmp-IsAntisymmetric one.contents n there) in
      let at = laws.pieces.each s one.window one.found n system region (contents.inside n some.0 some.1) in
      ((at.0, at.1), at.2)

  -- the blocks of the regions' pieces
  blocks_of : (holdings : List Holding) → AreHoldings s holdings → List Key
  blocks_of [] are = []
  blocks_of (one ∷ others) are =
      picked (At one) (map.keys one.contents)
      (piece_key one are.system (own_region s (one ∷ others) are one (contains_head one others)) (own_contents s (one ∷ others) are one (contains_head one others)))
      ++ blocks_of others (AreHoldings-tail s one others are)

  length-blocks_of : (holdings : List Holding) (are : AreHoldings s holdings) → length (blocks_of holdings are) ≡ sum_by (λ (one : Holding). map.len one.contents) holdings
  unfolding blocks_of
  length-blocks_of [] are = refl
  length-blocks_of (one ∷ others) are =
      let tells = piece_key one are.system (own_region s (one ∷ others) are one (contains_head one others)) (own_contents s (one ∷ others) are one (contains_head one others)) in
      let first : length (picked (At one) (map.keys one.contents) tells) ≡ map.len one.contents = length-picked (At one) (map.keys one.contents) tells ∙ length-keys nat_cmp_total nat_cmp-IsAntisymmetric one.contents in
      let rest = length-blocks_of others (AreHoldings-tail s one others are) in
      length-append (picked (At one) (map.keys one.contents) tells) (blocks_of others (AreHoldings-tail s one others are))
      ∙ omega (arith, first, rest) ∙ sym (sum_by-cons (λ (x : Holding). map.len x.contents) one others)

  kept_from : (holdings : List Holding) (are : AreHoldings s holdings) (key : Key) → Contains (blocks_of holdings are) key → IsKept holdings key
  unfolding blocks_of
  kept_from [] are key there = absurd (contains_none key there)
  kept_from (one ∷ others) are key there =
      let tells = piece_key one are.system (own_region s (one ∷ others) are one (contains_head one others)) (own_contents s (one ∷ others) are one (contains_head one others)) in
      let tail = AreHoldings-tail s one others are in
      elim (Contains-append_cases (picked (At one) (map.keys one.contents) tells) (blocks_of others tail) key there) [
        | inl own ↦
            let piece = picked_from (At one) (map.keys one.contents) tells key own in
            record { one = one; there = contains_head one others; n = piece.0; has = keys_from nat_cmp_total nat_cmp-IsAntisymmetric one.contents piece.0 piece.1; at = piece.2 }
        | inr theirs ↦
            let kept = kept_from others tail key theirs in
            record { one = kept.one; there = contains_tail one kept.one others kept.there; n = kept.n; has = kept.has; at = kept.at }
      ]

  kept_to : (holdings : List Holding) (are : AreHoldings s holdings) (key : Key) → (one : Holding) (n : ℕ) → Contains holdings one → map.contains_key one.contents n ≡ true → At one n key → Contains (blocks_of holdings are) key
  unfolding blocks_of
  kept_to [] are key one n there has at = absurd (contains_none one there)
  kept_to (first ∷ others) are key one n there has at =
      let region = own_region s (first ∷ others) are first (contains_head first others) in
      let tells = piece_key first are.system region (own_contents s (first ∷ others) are first (contains_head first others)) in
      let tail = AreHoldings-tail s first others are in
      let own : List Key = picked (At first) (map.keys first.contents) tells in
      elim (contains_cases first one others there) [
        | inl is ↦
            let held : map.contains_key first.contents n ≡ true = ap (λ (x : Holding). map.contains_key x.contents n) is ∙ has in
            Contains-append_left own (blocks_of others tail) key
            (picked_to (At first) (own_one first are.system region) (map.keys first.contents) tells n key
            (keys_to nat_cmp_total nat_cmp-IsAntisymmetric first.contents n held)
            (subst (λ (x : Holding). At x n key) (sym is) at))
        | inr later ↦ Contains-append_right own (blocks_of others tail) key (kept_to others tail key one n later has at)
      ]

  apart-blocks_of : (holdings : List Holding) (are : AreHoldings s holdings) → AreApart (blocks_of holdings are)
  unfolding blocks_of
  apart-blocks_of [] are = tt
  apart-blocks_of (one ∷ others) are =
      let region = own_region s (one ∷ others) are one (contains_head one others) in
      let tells = piece_key one are.system region (own_contents s (one ∷ others) are one (contains_head one others)) in
      let tail = AreHoldings-tail s one others are in
      let own : List Key = picked (At one) (map.keys one.contents) tells in
      apart-append own (blocks_of others tail)
      (apart-picked (At one) (λ n m key first second. laws.pieces.apart s one.window one.found n m key.0 key.1 are.system region first second) (map.keys one.contents) tells
      (apart-keys nat_cmp_total nat_cmp-IsAntisymmetric one.contents))
      (apart-blocks_of others tail)
      (λ key mine theirs.
      let piece = picked_from (At one) (map.keys one.contents) tells key mine in
      let kept = kept_from others tail key theirs in
      apart_from laws s one others are kept.one key.0 (256 * key.1) kept.there
      (laws.pieces.inside s kept.one.window kept.one.found kept.n key.0 key.1 are.system (own_region s others tail kept.one kept.there) kept.at)
      (laws.pieces.inside s one.window one.found piece.0 key.0 key.1 are.system region piece.2))

  pub blocks_counted : (holdings : List Holding) (blocks : Blocks) → AreHoldings s holdings → AreMediaOf holdings (told_in blocks) → map.len blocks ≡ sum_by (λ (one : Holding). map.len one.contents) holdings
  blocks_counted holdings blocks are media =
      len_is key_total key_exact (blocks_of holdings are) blocks (apart-blocks_of holdings are)
      (λ key there.
      let kept = kept_from holdings are key there in
      let piece = some_of (map.get kept.one.contents kept.n) kept.has in
      ap is_some (media.each kept.one kept.n key.0 key.1 piece.0 kept.there (record { piece = piece.1; carried = kept.at })))
      (λ key there.
      let block = some_of (map.get blocks key) there in
      let held = media.only key.0 key.1 block.0 block.1 in
      kept_to holdings are key held.0 held.1 held.2 (ap is_some held.3.piece) held.3.carried)
      ∙ length-blocks_of holdings are

  -- the pieces that media holds of a region are those of its bytes
  pub held_counted : (holdings : List Holding) (blocks : Blocks) (one : Holding) (pieces : List ℕ) → AreHoldings s holdings → AreTold holdings (told_in blocks) → Contains holdings one
      → AreHeld one.found one.window blocks pieces → length pieces ≡ map.len one.contents
  held_counted holdings blocks one pieces are told there held =
      sym (len_is nat_cmp_total nat_cmp-IsAntisymmetric pieces one.contents (rising_apart pieces held.rising)
      (λ n listed.
      let has = (held.exact n).0 listed in
      ap is_some (sym (told.each one n has.endpoint has.block there has.at)) ∙ has.there)
      (λ n has.
      let piece = some_of (map.get one.contents n) has in
      let region = own_region s holdings are one there in
      let contents = own_contents s holdings are one there in
      let at = laws.pieces.each s one.window one.found n are.system region (contents.inside n piece.0 piece.1) in
      (held.exact n).1 (record {
        endpoint = at.0;
        block = at.1;
        at = at.2;
        there = ap is_some (told.each one n at.0 at.1 there at.2) ∙ has;
      })))
