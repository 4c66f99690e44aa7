-- Media with one block: the first piece of the worked region, with one byte in it.
use Rattle.std.proofs.Common.{◌≡◌, ℕ, zero, suc, ◌+◌, ◌*◌, Bool, true, false, cond, List, [], ◌∷◌, Some, None, refl, sym, ap, ◌∙◌, subst, arith}
use Rattle.std.specs.Prelude.{Contains}
use Rattle.std.specs.Ordering.{nat_cmp, eq_by_cmp}
use Rattle.std.specs.Cmp.{Equal-is}
use Rattle.std.specs.FinMap as map
use Rattle.std.specs.FinMap.{get-insert, get-empty, nat_cmp-IsAntisymmetric}
use Rattle.std.proofs.lemmas.Option.{none-some, same_Some}
use Rattle.cxl_media.specs.Blocks.{Key, key_cmp}
use Rattle.cxl_media.proofs.Keys.{key_total, same_key}
use Rattle.cxl_model.specs.Contents.{AreMediaOf, Holding, KeepsPieceAt}
use Rattle.cxl_model.specs.Regions.{Carries}
use Rattle.cxl_worked.specs.Examples.{two_bridges}
use Rattle.cxl_worked.specs.ExampleRegions.{region_of_two}
use Rattle.cxl_machine.specs.Machine.{holding_of, region_window}
use Rattle.cxl_machine.specs.Sound.{block_told}
use Rattle.cxl_worked_machines.specs.Examples.{first_byte, stored_piece, opened_region_with, one_block}
use Rattle.cxl_worked_machines.proofs.ExampleBytes.{get-one_piece}

told : (endpoint block : ℕ) → block_told one_block endpoint block ≡ cond (eq_by_cmp key_cmp (endpoint, block) (2, 0)) (Some stored_piece) None
told endpoint block =
    get-insert {X = List ℕ} key_total map.empty (2, 0) stored_piece (endpoint, block)
    ∙ ap (cond (eq_by_cmp key_cmp (endpoint, block) (2, 0)) (Some stored_piece)) (get-empty {X = List ℕ} key_cmp (endpoint, block))

told_there : block_told one_block 2 0 ≡ Some stored_piece
told_there = told 2 0

abbrev holding : Holding
holding = holding_of two_bridges (opened_region_with first_byte)

abbrev IsCarriedAt : ℕ → ℕ → ℕ → Type 0
IsCarriedAt n endpoint block = Carries region_of_two (region_window two_bridges region_of_two) (region_of_two.base + 256 * n) endpoint (256 * block)

-- the only piece is the first
first_only : (n : ℕ) (bytes : List ℕ) → map.get first_byte n ≡ Some bytes → (n ≡ 0) × (stored_piece ≡ bytes)
first_only n bytes there = go (eq_by_cmp nat_cmp n 0) refl (sym (get-one_piece 0 stored_piece n) ∙ there)
  where
    go : (b : Bool) → eq_by_cmp nat_cmp n 0 ≡ b → cond b (Some stored_piece) None ≡ Some bytes → (n ≡ 0) × (stored_piece ≡ bytes)
    go true same is = (nat_cmp-IsAntisymmetric n 0 ((Equal-is (nat_cmp n 0)).0 same), same_Some stored_piece bytes is)
    go false differ is = absurd (none-some bytes is)

-- it is carried to the first block of the first endpoint
carried_first : (endpoint block : ℕ) → IsCarriedAt 0 endpoint block → (2 ≡ endpoint) × (0 ≡ block)
carried_first endpoint block carries =
    let place : (2 ≡ endpoint) × (0 ≡ 256 * block) = carries.place in
    let there = place.1 in
    (place.0, omega (arith, there))

keeps_first : (n endpoint block : ℕ) (bytes : List ℕ) → KeepsPieceAt holding n endpoint block bytes → block_told one_block endpoint block ≡ Some bytes
keeps_first n endpoint block bytes keeps =
    let own = first_only n bytes keeps.piece in
    let at = carried_first endpoint block (subst (λ (k : ℕ). IsCarriedAt k endpoint block) own.0 keeps.carried) in
    subst (λ (e : ℕ). block_told one_block e block ≡ Some bytes) at.0
    (subst (λ (b : ℕ). block_told one_block 2 b ≡ Some bytes) at.1 (told_there ∙ ap Some own.1))

each : (other : Holding) (n endpoint block : ℕ) (bytes : List ℕ) → Contains (holding ∷ []) other → KeepsPieceAt other n endpoint block bytes → block_told one_block endpoint block ≡ Some bytes
each other n endpoint block bytes (zero, low, read) keeps = keeps_first n endpoint block bytes (subst (λ (h : Holding). KeepsPieceAt h n endpoint block bytes) (sym read) keeps)
each other n endpoint block bytes (suc k, low, read) keeps = absurd (omega (arith, low))

only : (endpoint block : ℕ) (bytes : List ℕ) → block_told one_block endpoint block ≡ Some bytes → (other : Holding) × (n : ℕ) × Contains (holding ∷ []) other × KeepsPieceAt other n endpoint block bytes
only endpoint block bytes there = go (eq_by_cmp key_cmp (endpoint, block) (2, 0)) refl (sym (told endpoint block) ∙ there)
  where
    go : (b : Bool) → eq_by_cmp key_cmp (endpoint, block) (2, 0) ≡ b → cond b (Some stored_piece) None ≡ Some bytes
        → (other : Holding) × (n : ℕ) × Contains (holding ∷ []) other × KeepsPieceAt other n endpoint block bytes
    go true same is =
        let keys : (endpoint, block) ≡ (2, 0) = same_key (endpoint, block) (2, 0) same in
        let first : 2 ≡ endpoint = sym (ap (λ (k : Key). k.0) keys) in
        let second : 0 ≡ block = sym (ap (λ (k : Key). k.1) keys) in
        let own : IsCarriedAt 0 2 0 = record { from = omega arith; below = omega arith; place = (refl, refl) } in (
          holding,
          0,
          (0, omega arith, refl),
          record {
            piece = get-one_piece 0 stored_piece 0 ∙ is;
            carried = subst (λ (e : ℕ). IsCarriedAt 0 e block) first (subst (λ (b : ℕ). IsCarriedAt 0 2 b) second own);
          },
        )
    go false differ is = absurd (none-some bytes is)

pub one_block_is : AreMediaOf (holding ∷ []) (block_told one_block)
one_block_is = record { each = each; only = only }
