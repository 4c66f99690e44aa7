-- What media tells after the bytes of one region are carried over to another.
use Rattle.std.proofs.Common.{◌≡◌, ℕ, suc, ◌*◌, ◌/◌, ◌<◌, List, ◌∷◌, Option, sym, ap, subst, ◌∙◌, inl, inr, arith}
use Rattle.std.specs.Prelude.{Contains}
use Rattle.std.specs.FinMap as map
use Rattle.cxl_enc.proofs.Lists.{contains_head, contains_tail, contains_cases}
use Rattle.cxl_media.specs.Blocks.{Blocks}
use Rattle.cxl_model.specs.System.{System}
use Rattle.cxl_model.specs.Regions.{IsRegionIn}
use Rattle.cxl_model.specs.Bytes.{LiesInSpan}
use Rattle.cxl_model.specs.Contents.{Contents, Holding}
use Rattle.cxl_move.specs.Sides.{IsPieceAt, IsCarriedOver}
use Rattle.cxl_move.specs.Holdings.{told_in, AreHoldings}
use Rattle.cxl_move.proofs.Told.{HoldingLaws, AreTold, AreRegionsOf, own_region, regions_with}
use Rattle.cxl_move.proofs.Changed.{apart_from}

-- holdings are some without the first
pub AreHoldings-tail : (s : System) (one : Holding) (others : List Holding) → AreHoldings s (one ∷ others) → AreHoldings s others
AreHoldings-tail s one others are = record {
  system = are.system;
  each = λ k d within. are.each (suc k) d (omega arith);
  once = λ i j d less within. are.once (suc i) (suc j) d (omega arith) (omega arith);
}

pub regions_with_both : (s : System) (from to : Holding) (others : List Holding) → AreHoldings s (from ∷ to ∷ others) → (left given : Contents) → AreRegionsOf s ((record from { contents = left }) ∷ ((record to { contents = given }) ∷ others))
regions_with_both s from to others are left given one there =
    let second : Holding = record to { contents = given } in
    elim (contains_cases (record from { contents = left }) one (second ∷ others) there) [
      | inl is ↦ subst (λ (x : Holding). IsRegionIn s x.window x.found) is (own_region s (from ∷ to ∷ others) are from (contains_head from (to ∷ others)))
      | inr later ↦ regions_with s to others (AreHoldings-tail s from (to ∷ others) are) given one later
    ]

module _ (laws : HoldingLaws) (s : System) (from to : Holding) (others : List Holding) (are : AreHoldings s (from ∷ to ∷ others)) (size : from.found.size ≡ to.found.size) (rest : Option (List ℕ) → Option (List ℕ))
    (left : Contents) (leaves : (n : ℕ) → map.get left n ≡ rest (map.get from.contents n)) where
  pub carried_told : (old new : Blocks) → AreTold (from ∷ to ∷ others) (told_in old) → IsCarriedOver rest from.found from.window to.found to.window old new
      → AreTold ((record from { contents = left }) ∷ ((record to { contents = from.contents }) ∷ others)) (told_in new)
  carried_told old new told carried = record {
    each = λ one n endpoint block there at.
        elim (contains_cases first one (second ∷ others) there) [
          | inl is ↦ subst (Tells n endpoint block) is (first_piece n endpoint block) at
          | inr later ↦
              elim (contains_cases second one others later) [
                | inl is ↦ subst (Tells n endpoint block) is (second_piece n endpoint block) at
                | inr within ↦ other_piece one n endpoint block within at
              ]
        ];
    none = λ endpoint block beside.
        carried.others endpoint block (beside first (contains_head first (second ∷ others))) (beside second (contains_tail first second (second ∷ others) (contains_head second others)))
        ∙ told.none endpoint block (λ one there lies.
        elim (contains_cases from one (to ∷ others) there) [
          | inl is ↦ beside first (contains_head first (second ∷ others)) (subst (λ (x : Holding). LiesInSpan x.found endpoint (256 * block)) (sym is) lies)
          | inr later ↦
              elim (contains_cases to one others later) [
                | inl is ↦
                    beside second (contains_tail first second (second ∷ others) (contains_head second others))
                    (subst (λ (x : Holding). LiesInSpan x.found endpoint (256 * block)) (sym is) lies)
                | inr within ↦ beside one (contains_tail first one (second ∷ others) (contains_tail second one others within)) lies
              ]
        ]);
  }
    where
      first : Holding
      first = record from { contents = left }

      second : Holding
      second = record to { contents = from.contents }

      from_there : Contains (from ∷ to ∷ others) from
      from_there = contains_head from (to ∷ others)

      to_there : Contains (from ∷ to ∷ others) to
      to_there = contains_tail from to (to ∷ others) (contains_head to others)

      Tells : ℕ → ℕ → ℕ → Holding → Type 0
      Tells n endpoint block one = IsPieceAt one.found one.window n endpoint block → map.get new (endpoint, block) ≡ map.get one.contents n

      first_piece : (n endpoint block : ℕ) → IsPieceAt from.found from.window n endpoint block → map.get new (endpoint, block) ≡ map.get left n
      first_piece n endpoint block at = carried.first n endpoint block at ∙ ap rest (told.each from n endpoint block from_there at) ∙ sym (leaves n)

      second_piece : (n endpoint block : ℕ) → IsPieceAt to.found to.window n endpoint block → map.get new (endpoint, block) ≡ map.get from.contents n
      second_piece n endpoint block at =
          let region = own_region s (from ∷ to ∷ others) are to to_there in
          let within = laws.pieces.within s to.window to.found n endpoint block are.system region at in
          let source = laws.pieces.each s from.window from.found n are.system (own_region s (from ∷ to ∷ others) are from from_there) (subst (λ (x : ℕ). n < x / 256) (sym size) within) in
          carried.second n endpoint block source.0 source.1 at source.2 ∙ told.each from n source.0 source.1 from_there source.2

      other_piece : (one : Holding) (n endpoint block : ℕ) → Contains others one → IsPieceAt one.found one.window n endpoint block → map.get new (endpoint, block) ≡ map.get one.contents n
      other_piece one n endpoint block there at =
          let tail = AreHoldings-tail s from (to ∷ others) are in
          let region = own_region s others (AreHoldings-tail s to others tail) one there in
          let inside = laws.pieces.inside s one.window one.found n endpoint block are.system region at in
          carried.others endpoint block (apart_from laws s from (to ∷ others) are one endpoint (256 * block) (contains_tail to one others there) inside)
          (apart_from laws s to others tail one endpoint (256 * block) there inside)
          ∙ told.each one n endpoint block (contains_tail from one (to ∷ others) (contains_tail to one others there)) at
