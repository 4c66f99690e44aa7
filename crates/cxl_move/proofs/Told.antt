-- What media tells of each block, by the regions whose pieces are carried there.
use Rattle.std.proofs.Common.{◌≡◌, ℕ, ◌*◌, ◌/◌, ◌<◌, ◌⊎◌, List, [], ◌∷◌, get_or, Option, None, Some, refl, sym, ap, subst, ◌∙◌, inl, inr}
use Rattle.std.specs.Prelude.{◌↔◌, Contains}
use Rattle.std.specs.FinMap as map
use Rattle.std.proofs.lemmas.Bool.{cases_order}
use Rattle.std.proofs.lemmas.List.{get_or_default}
use Rattle.std.proofs.lemmas.List.Elements.{All-contains}
use Rattle.cxl_enc.proofs.Lists.{contains_head, contains_tail, contains_cases, contains_none}
use Rattle.cxl_enc.proofs.Options.{none_where}
use Rattle.cxl_window.specs.Fields.{WindowFields}
use Rattle.cxl_model.specs.declared.found.Found.{Found}
use Rattle.cxl_model.specs.System.{System, IsSystem}
use Rattle.cxl_model.specs.Regions.{IsRegionIn}
use Rattle.cxl_model.specs.Bytes.{LiesInSpan}
use Rattle.cxl_model.specs.Contents.{Contents, Holding, AreContents, AreMediaOf}
use Rattle.cxl_move.specs.Sides.{IsPieceAt}
use Rattle.cxl_move.specs.Holdings.{AreHoldings}
use Rattle.cxl_move.proofs.Spans.{lies_cases}

-- the laws of pieces
pub record PieceLaws : Type 0 where
  pub each : (s : System) (w : WindowFields) (found : Found) (n : ℕ) → IsSystem s → IsRegionIn s w found → n < found.size / 256 → (endpoint : ℕ) × (block : ℕ) × IsPieceAt found w n endpoint block
  pub within : (s : System) (w : WindowFields) (found : Found) (n endpoint block : ℕ) → IsSystem s → IsRegionIn s w found → IsPieceAt found w n endpoint block → n < found.size / 256
  pub one : (s : System) (w : WindowFields) (found : Found) (n endpoint block other place : ℕ) → IsSystem s → IsRegionIn s w found → IsPieceAt found w n endpoint block → IsPieceAt found w n other place
      → (endpoint ≡ other) × (block ≡ place)
  pub apart : (s : System) (w : WindowFields) (found : Found) (n other endpoint block : ℕ) → IsSystem s → IsRegionIn s w found → IsPieceAt found w n endpoint block → IsPieceAt found w other endpoint block → n ≡ other
  pub inside : (s : System) (w : WindowFields) (found : Found) (n endpoint block : ℕ) → IsSystem s → IsRegionIn s w found → IsPieceAt found w n endpoint block → LiesInSpan found endpoint (256 * block)
  pub onto : (s : System) (w : WindowFields) (found : Found) (endpoint block : ℕ) → IsSystem s → IsRegionIn s w found → LiesInSpan found endpoint (256 * block) → (n : ℕ) × IsPieceAt found w n endpoint block

-- and that regions of one image share no byte of a device
pub record HoldingLaws : Type 0 where
  pub pieces : PieceLaws
  pub shared : (s : System) (w v : WindowFields) (found other : Found) (endpoint dpa : ℕ) → IsSystem s → IsRegionIn s w found → IsRegionIn s v other → LiesInSpan found endpoint dpa → LiesInSpan other endpoint dpa
      → found ≡ other

abbrev pub Telling : Type 0
Telling = ℕ → ℕ → Option (List ℕ)

-- each block to which a region carries a piece is told as that piece, and no block beside the regions is told
pub record AreTold (holdings : List Holding) (told : Telling) : Type 0 where
  pub each : (one : Holding) (n endpoint block : ℕ) → Contains holdings one → IsPieceAt one.found one.window n endpoint block → told endpoint block ≡ map.get one.contents n
  pub none : (endpoint block : ℕ) → ((one : Holding) → Contains holdings one → LiesInSpan one.found endpoint (256 * block) → ⊥) → told endpoint block ≡ None

-- ---- elements of holdings

module _ (s : System) (holdings : List Holding) (are : AreHoldings s holdings) where
  pub own_region : (one : Holding) → Contains holdings one → IsRegionIn s one.window one.found
  own_region one there = (All-contains (λ (x : Holding). IsRegionIn s x.window x.found × AreContents x.found x.contents) holdings one are.each there).0

  pub own_contents : (one : Holding) → Contains holdings one → AreContents one.found one.contents
  own_contents one there = (All-contains (λ (x : Holding). IsRegionIn s x.window x.found × AreContents x.found x.contents) holdings one are.each there).1

  -- a region stands once
  pub one_holding : (one other : Holding) → Contains holdings one → Contains holdings other → one.found ≡ other.found → one ≡ other
  one_holding one other here there same =
      let i = here.0 in
      let j = there.0 in
      let i_in = here.1 in
      let j_in = there.1 in
      let at : get_or holdings j one ≡ other = get_or_default holdings j one other j_in ∙ there.2 in
      elim (cases_order i j) [
        | inl is ↦ sym here.2 ∙ ap (λ k. get_or holdings k one) is ∙ at
        | inr apart ↦
            elim apart [
              | inl less ↦ absurd (are.once i j one less j_in (ap (λ (x : Holding). x.found) here.2 ∙ same ∙ sym (ap (λ (x : Holding). x.found) at)))
              | inr more ↦ absurd (are.once j i one more i_in (ap (λ (x : Holding). x.found) at ∙ sym same ∙ sym (ap (λ (x : Holding). x.found) here.2)))
            ]
      ]

-- their regions are of the image
abbrev pub AreRegionsOf : System → List Holding → Type 0
AreRegionsOf s holdings = (one : Holding) → Contains holdings one → IsRegionIn s one.window one.found

pub regions_with : (s : System) (one : Holding) (others : List Holding) → AreHoldings s (one ∷ others) → (contents : Contents) → AreRegionsOf s ((record one { contents = contents }) ∷ others)
regions_with s one others are contents other there =
    elim (contains_cases (record one { contents = contents }) other others there) [
      | inl is ↦ subst (λ (x : Holding). IsRegionIn s x.window x.found) is (own_region s (one ∷ others) are one (contains_head one others))
      | inr later ↦ own_region s (one ∷ others) are other (contains_tail one other others later)
    ]

-- lists of the same regions have the same media
pub media_of_alike : (holdings others : List Holding) (media : Telling) → AreMediaOf holdings media → ((one : Holding) → (Contains holdings one) ↔ (Contains others one)) → AreMediaOf others media
media_of_alike holdings others media are alike = record {
  each = λ one n endpoint block bytes there keeps. are.each one n endpoint block bytes ((alike one).1 there) keeps;
  only = λ endpoint block bytes is.
      let held = are.only endpoint block bytes is in
      (held.0, held.1, (alike held.0).0 held.2, held.3);
}

-- ---- both ways

module _ (laws : HoldingLaws) (s : System) (holdings : List Holding) (told : Telling) where
  pub told_from_media : AreHoldings s holdings → AreMediaOf holdings told → AreTold holdings told
  told_from_media are media = record {
    each = λ one n endpoint block there at. told_piece one n endpoint block there at (map.get one.contents n) refl;
    none = λ endpoint block beside.
        none_where (told endpoint block) (λ bytes is.
        let held = media.only endpoint block bytes is in
        beside held.0 held.2 (laws.pieces.inside s held.0.window held.0.found held.1 endpoint block are.system (own_region s holdings are held.0 held.2) held.3.carried));
  }
    where
      told_piece : (one : Holding) (n endpoint block : ℕ) → Contains holdings one → IsPieceAt one.found one.window n endpoint block → (piece : Option (List ℕ)) → map.get one.contents n ≡ piece → told endpoint block ≡ piece
      told_piece one n endpoint block there at (Some bytes) is = media.each one n endpoint block bytes there (record { piece = is; carried = at })
      told_piece one n endpoint block there at None is =
          none_where (told endpoint block) (λ bytes told_is.
          let held = media.only endpoint block bytes told_is in
          let other : Holding = held.0 in
          let region = own_region s holdings are one there in
          let own = own_region s holdings are other held.2 in
          let found : one.found ≡ other.found =
          laws.shared s one.window other.window one.found other.found endpoint (256 * block) are.system region own
          (laws.pieces.inside s one.window one.found n endpoint block are.system region at)
          (laws.pieces.inside s other.window other.found held.1 endpoint block are.system own held.3.carried) in
          let same : one ≡ other = one_holding s holdings are one other there held.2 found in
          let at_one : IsPieceAt one.found one.window held.1 endpoint block = subst (λ (x : Holding). IsPieceAt x.found x.window held.1 endpoint block) (sym same) held.3.carried in
          let number : n ≡ held.1 = laws.pieces.apart s one.window one.found n held.1 endpoint block are.system region at at_one in
          let piece : map.get one.contents held.1 ≡ Some bytes = ap (λ (x : Holding). map.get x.contents held.1) same ∙ held.3.piece in
          let there_is : map.get one.contents n ≡ Some bytes = ap (map.get one.contents) number ∙ piece in
          cc (is, there_is))

  -- a region in whose spans the block lies, or none
  holder_cases : (xs : List Holding) (endpoint block : ℕ) → ((one : Holding) × Contains xs one × LiesInSpan one.found endpoint (256 * block)) ⊎ ((one : Holding) → Contains xs one → LiesInSpan one.found endpoint (256 * block) → ⊥)
  holder_cases [] endpoint block = inr (λ one there lies. contains_none one there)
  holder_cases (x ∷ xs) endpoint block =
      elim (lies_cases x.found endpoint (256 * block)) [
        | inl lies ↦ inl (x, contains_head x xs, lies)
        | inr beside ↦
            elim (holder_cases xs endpoint block) [
              | inl later ↦ inl (later.0, contains_tail x later.0 xs later.1, later.2)
              | inr none ↦
                  inr (λ one there lies.
                  elim (contains_cases x one xs there) [
                    | inl is ↦ beside (subst (λ (y : Holding). LiesInSpan y.found endpoint (256 * block)) (sym is) lies)
                    | inr within ↦ none one within lies
                  ])
            ]
      ]

  pub media_from_told : IsSystem s → AreRegionsOf s holdings → AreTold holdings told → AreMediaOf holdings told
  media_from_told system regions are = record {
    each = λ one n endpoint block bytes there keeps. are.each one n endpoint block there keeps.carried ∙ keeps.piece;
    only = λ endpoint block bytes is.
        elim (holder_cases holdings endpoint block) [
          | inl held ↦
              let one : Holding = held.0 in
              let piece = laws.pieces.onto s one.window one.found endpoint block system (regions one held.1) held.2 in
              (one, piece.0, held.1, record { piece = sym (are.each one piece.0 endpoint block held.1 piece.1) ∙ is; carried = piece.1 })
          | inr beside ↦ let none = are.none endpoint block beside in absurd (let one : told endpoint block ≡ Some bytes = is in cc (none, one))
        ];
  }
