use Rattle.std.proofs.Common.{◌≡◌, ℕ, zero, suc, ◌<◌, Bool, true, false, ◌&&◌, cond, List, [], ◌∷◌, length, Option, Some, None, inl, inr, refl, sym, ap, ◌∙◌, subst, arith, lit<, lit≤}
use Rattle.std.specs.Prelude.{nat_lt, ◌==◌, All, Contains, if◌then◌else◌}
use Rattle.std.specs.List.{list_all}
use Rattle.std.specs.FinMap as map
use Rattle.std.specs.FinMap.{get-empty, get-insert}
use Rattle.std.specs.Ordering.{nat_cmp, eq_by_cmp}
use Rattle.std.specs.Cmp.{nat_cmp_total, unsigned_tied}
use Rattle.std.proofs.lemmas.Bool.{cases_Bool, and_parts, ltb-true, eqb-true, ne_eqb}
use Rattle.std.proofs.lemmas.Option.{none-some, same_Some}
use Rattle.std.proofs.lemmas.List.Elements.{All-nil, All-cons, All-contains}
use Rattle.cxl_model.specs.Contents.{Holding, KeepsPieceAt}
use Rattle.cxl_worked.specs.ExampleContents.{first_two, four_bytes, holding_four, last_two, media_of_four}
use Rattle.cxl_worked.proofs.content_examples.contents_on_examples.Goals as goal

-- ---- the pieces

-- piece 0, piece 1, and no other
abbrev piece : ℕ → Option (List ℕ)
piece n = cond (eq_by_cmp nat_cmp n 1) (Some first_two) (cond (eq_by_cmp nat_cmp n 0) (Some last_two) None)

get_piece : (n : ℕ) → map.get four_bytes n ≡ piece n
get_piece n =
    get-insert {X = List ℕ} nat_cmp_total (map.insert map.empty 0 last_two) 1 first_two n
    ∙ ap (cond (eq_by_cmp nat_cmp n 1) (Some first_two))
    (get-insert {X = List ℕ} nat_cmp_total map.empty 0 last_two n ∙ ap (cond (eq_by_cmp nat_cmp n 0) (Some last_two)) (get-empty {X = List ℕ} nat_cmp n))

no_piece : (n : ℕ) → 1 < n → piece n ≡ None
no_piece n past =
    ap (λ (b : Bool). cond b (Some first_two) (cond (eq_by_cmp nat_cmp n 0) (Some last_two) None)) (unsigned_tied n 1 ∙ ne_eqb n 1 (omega arith))
    ∙ ap (λ (b : Bool). cond b (Some last_two) None) (unsigned_tied n 0 ∙ ne_eqb n 0 (omega arith))

-- what holds of both pieces holds of each
each_piece : (P : ℕ → List ℕ → Type 0) → P 0 last_two → P 1 first_two → (n : ℕ) (bytes : List ℕ) → map.get four_bytes n ≡ Some bytes → P n bytes
each_piece P first second zero bytes there = subst (P 0) (same_Some last_two bytes (sym (get_piece 0) ∙ there)) first
each_piece P first second (suc zero) bytes there = subst (P 1) (same_Some first_two bytes (sym (get_piece 1) ∙ there)) second
each_piece P first second (suc (suc n)) bytes there = absurd (none-some bytes (sym (no_piece (suc (suc n)) (omega arith)) ∙ sym (get_piece (suc (suc n))) ∙ there))

are_bytes : (bs : List ℕ) → list_all (λ b. nat_lt b 256) bs ≡ true → All (λ b. b < 256) bs
are_bytes [] all = All-nil (λ b. b < 256)
are_bytes (b ∷ bs) all =
    let parts = and_parts (nat_lt b 256) (list_all (λ b. nat_lt b 256) bs) all in
    All-cons (λ b. b < 256) b bs (ltb-true b 256 parts.0) (are_bytes bs parts.1)

pub returns-clause-contents : goal.returns-clause-contents
returns-clause-contents c = record {
  inside = each_piece (λ n bytes. n < 0x200000) (lit< tt) (lit< tt);
  whole = each_piece (λ n bytes. length bytes ≡ 256) refl refl;
  bytes = each_piece (λ n bytes. All (λ b. b < 256) bytes) (are_bytes last_two refl) (are_bytes first_two refl);
}

pub returns-clause-before : goal.returns-clause-before
returns-clause-before c = rw (get_piece 0) refl

pub returns-clause-first : goal.returns-clause-first
returns-clause-first c = rw (get_piece 0) refl

pub returns-clause-second : goal.returns-clause-second
returns-clause-second c = rw (get_piece 0) refl

pub returns-clause-third : goal.returns-clause-third
returns-clause-third c = rw (get_piece 1) refl

pub returns-clause-fourth : goal.returns-clause-fourth
returns-clause-fourth c = rw (get_piece 1) refl

pub returns-clause-unwritten : goal.returns-clause-unwritten
returns-clause-unwritten c = rw (get_piece 0x1fffff) refl

-- ---- the media

kept_first : KeepsPieceAt holding_four 0 2 0 last_two
kept_first = record { piece = get_piece 0; carried = record { from = lit≤ tt; below = lit< tt; place = (refl, refl) } }

kept_second : KeepsPieceAt holding_four 1 3 0 first_two
kept_second = record { piece = get_piece 1; carried = record { from = lit≤ tt; below = lit< tt; place = (refl, refl) } }

pub returns-clause-kept_first : goal.returns-clause-kept_first
returns-clause-kept_first c = kept_first

pub returns-clause-kept_second : goal.returns-clause-kept_second
returns-clause-kept_second c = kept_second

-- each piece stands in the media where it is carried
abbrev Stands : Holding → Type 0
Stands holding = (n endpoint block : ℕ) (bytes : List ℕ) → KeepsPieceAt holding n endpoint block bytes → media_of_four endpoint block ≡ Some bytes

at_place : (endpoint block e b : ℕ) (bytes : List ℕ) → media_of_four e b ≡ Some bytes → e ≡ endpoint → b ≡ block → media_of_four endpoint block ≡ Some bytes
at_place endpoint block e b bytes there same_endpoint same_block =
    subst (λ (m : ℕ). media_of_four m block ≡ Some bytes) same_endpoint (subst (λ (m : ℕ). media_of_four e m ≡ Some bytes) same_block there)

stands : Stands holding_four
stands n endpoint block bytes keeps =
    each_piece (λ m held. KeepsPieceAt holding_four m endpoint block held → media_of_four endpoint block ≡ Some held)
    (λ kept. at_place endpoint block 2 0 last_two refl kept.carried.place.0 (omega (arith, kept.carried.place.1)))
    (λ kept. at_place endpoint block 3 0 first_two refl kept.carried.place.0 (omega (arith, kept.carried.place.1))) n bytes keeps.piece keeps

-- a block of the media holds a piece
abbrev Holds : ℕ → ℕ → List ℕ → Type 0
Holds endpoint block bytes = (holding : Holding) × (n : ℕ) × Contains (holding_four ∷ []) holding × KeepsPieceAt holding n endpoint block bytes

held_at : (n e b : ℕ) (held : List ℕ) → KeepsPieceAt holding_four n e b held → (endpoint block : ℕ) (bytes : List ℕ)
    → ((endpoint == e) && (block == b)) ≡ true → Some held ≡ Some bytes → Holds endpoint block bytes
held_at n e b held keeps endpoint block bytes here is =
    let parts = and_parts (endpoint == e) (block == b) here in
    subst (λ (m : ℕ). Holds m block bytes) (sym (eqb-true endpoint e parts.0))
    (subst (λ (m : ℕ). Holds e m bytes) (sym (eqb-true block b parts.1))
    (subst (Holds e b) (same_Some held bytes is) (holding_four, n, (0, lit< tt, refl), keeps)))

where_true : {A : Type 0} (t : Bool) (x y z : A) → t ≡ true → (if t then x else y) ≡ z → x ≡ z
where_true t x y z is at = sym (ap (λ (b : Bool). if b then x else y) is) ∙ at

where_false : {A : Type 0} (t : Bool) (x y z : A) → t ≡ false → (if t then x else y) ≡ z → y ≡ z
where_false t x y z is at = sym (ap (λ (b : Bool). if b then x else y) is) ∙ at

holds_piece : (endpoint block : ℕ) (bytes : List ℕ) → media_of_four endpoint block ≡ Some bytes → Holds endpoint block bytes
holds_piece endpoint block bytes there =
    elim (cases_Bool ((endpoint == 2) && (block == 0))) [
      | inl first ↦ held_at 0 2 0 last_two kept_first endpoint block bytes first (where_true _ _ _ _ first there)
      | inr other ↦ elim (cases_Bool ((endpoint == 3) && (block == 0))) [
        | inl second ↦ held_at 1 3 0 first_two kept_second endpoint block bytes second (where_true _ _ _ _ second (where_false _ _ _ _ other there))
        | inr none ↦ absurd (none-some bytes (where_false _ _ _ _ none (where_false _ _ _ _ other there)))
      ]
    ]

pub returns-clause-media : goal.returns-clause-media
returns-clause-media c = record {
  each = λ holding n endpoint block bytes there. All-contains Stands (holding_four ∷ []) holding (All-cons Stands holding_four [] stands (All-nil Stands)) there n endpoint block bytes;
  only = holds_piece;
}
