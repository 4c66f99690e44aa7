-- The writes of a job are those of its rows in the one order that they have.
use Rattle.std.proofs.Common.{◌≡◌, ◌⊎◌, ℕ, zero, suc, ◌+◌, ◌-◌, ◌<◌, ◌≤◌, List, [], ◌∷◌, length, map, reverse, refl, sym, ap, ◌∙◌, subst, inl, inr, arith}
use Rattle.std.specs.Prelude.{AllPairs, Contains}
use Rattle.std.specs.List.{flat_map}
use Rattle.std.proofs.lemmas.List.{get_or-reverse, length-reverse}
use Rattle.std.proofs.lemmas.List.Sorted.{Contains-permutation, IsPermutation-sym, IsPermutation-reverse}
use mathlib.Core.List.{reverse-reverse}
use Rattle.cxl_model.specs.declared.plan.Row.{Row}
use Rattle.cxl_model.specs.System.{System}
use Rattle.cxl_apply.specs.declared.write.Write.{Write}
use Rattle.cxl_apply.specs.Jobs.{AreCreateWrites, AreReleaseWrites, row_writes, release_write}
use Rattle.cxl_apply.specs.Releases.{rows_of}
use Rattle.cxl_apply.proofs.Freed.{rows_rise}
use Rattle.cxl_machine.specs.Machine.{Live}
use Rattle.cxl_machine.specs.Jobs.{create_writes, release_writes}

-- ---- elements

contains_cases : (row other : Row) (rows : List Row) → Contains (row ∷ rows) other → (row ≡ other) ⊎ Contains rows other
contains_cases row other rows (zero, within, is) = inl is
contains_cases row other rows (suc k, within, is) = inr (k, omega (arith, within), is)

contains_head : (row : Row) (rows : List Row) → Contains (row ∷ rows) row
contains_head row rows = (0, omega arith, refl)

contains_tail : (row other : Row) (rows : List Row) → Contains rows other → Contains (row ∷ rows) other
contains_tail row other rows (k, within, is) = (suc k, omega (arith, within), is)

-- ---- rows that rise from a node on

abbrev Rises : ℕ → List Row → Type 0
Rises low [] = Unit {0}
Rises low (row ∷ rows) = (low ≤ row.node) × Rises (row.node + 1) rows

rises_from : (low : ℕ) (rows : List Row) → ((row : Row) → Contains rows row → low ≤ row.node) → AllPairs (λ (row next : Row). row.node < next.node) rows → Rises low rows
rises_from low [] above pairs = tt
rises_from low (row ∷ rows) above pairs = (
  above row (contains_head row rows),
  rises_from (row.node + 1) rows
      (λ other there. let next : row.node < other.node = subst (λ (r : Row). row.node < r.node) there.2 (pairs 0 (suc there.0) other (omega arith) (omega (arith, there.1))) in omega arith)
      (λ i j d before within. pairs (suc i) (suc j) d (omega (arith, before)) (omega (arith, within))),
)

above_low : (low : ℕ) (rows : List Row) → Rises low rows → (row : Row) → Contains rows row → low ≤ row.node
above_low low [] rises row (k, within, is) = absurd (omega (arith, within))
above_low low (first ∷ rows) rises row there =
    elim (contains_cases first row rows there) [
      | inl here ↦ subst (λ (r : Row). low ≤ r.node) here rises.0
      | inr rest ↦
          let above = above_low (first.node + 1) rows rises.1 row rest in
          let own = rises.0 in
          omega (arith, above, own)
    ]

-- lists of the same rows that rise are one
same_rows : (low other : ℕ) (xs ys : List Row) → Rises low xs → Rises other ys → ((row : Row) → Contains xs row → Contains ys row) → ((row : Row) → Contains ys row → Contains xs row)
    → xs ≡ ys
same_rows low other [] [] left right there back = refl
same_rows low other [] (y ∷ ys) left right there back = absurd (let none = back y (contains_head y ys) in omega (arith, none.1))
same_rows low other (x ∷ xs) [] left right there back = absurd (let none = there x (contains_head x xs) in omega (arith, none.1))
same_rows low other (x ∷ xs) (y ∷ ys) left right there back =
    let heads : x ≡ y =
    elim (contains_cases y x ys (there x (contains_head x xs))) [
      | inl same ↦ sym same
      | inr later ↦
          elim (contains_cases x y xs (back y (contains_head y ys))) [
            | inl same ↦ same
            | inr behind ↦
                let one = above_low (y.node + 1) ys right.1 x later in
                let two = above_low (x.node + 1) xs left.1 y behind in
                absurd (omega (arith, one, two))
          ]
    ] in
    let tails : xs ≡ ys =
    same_rows (x.node + 1) (y.node + 1) xs ys left.1 right.1
    (λ row inside.
    elim (contains_cases y row ys (there row (contains_tail x row xs inside))) [
      | inr rest ↦ rest
      | inl same ↦
          let above = above_low (x.node + 1) xs left.1 row inside in
          let node : x.node ≡ row.node = ap (λ (r : Row). r.node) (heads ∙ same) in
          absurd (omega (arith, above, node))
    ])
    (λ row inside.
    elim (contains_cases x row xs (back row (contains_tail y row ys inside))) [
      | inr rest ↦ rest
      | inl same ↦
          let above = above_low (y.node + 1) ys right.1 row inside in
          let node : y.node ≡ row.node = ap (λ (r : Row). r.node) (sym heads ∙ same) in
          absurd (omega (arith, above, node))
    ]) in
    ap (λ (r : Row). r ∷ xs) heads ∙ ap (λ (rs : List Row). y ∷ rs) tails

pub one_order : (xs ys : List Row) → AllPairs (λ (row next : Row). row.node < next.node) xs → AllPairs (λ (row next : Row). row.node < next.node) ys
    → ((row : Row) → Contains xs row → Contains ys row) → ((row : Row) → Contains ys row → Contains xs row) → xs ≡ ys
one_order xs ys left right there back =
    same_rows 0 0 xs ys (rises_from 0 xs (λ row inside. omega arith) left) (rises_from 0 ys (λ row inside. omega arith) right) there back

-- ---- the writes of a create

in_reverse : (rows : List Row) (row : Row) → Contains rows row → Contains (reverse rows) row
in_reverse rows row there = Contains-permutation rows (reverse rows) row (IsPermutation-reverse rows) there

out_of_reverse : (rows : List Row) (row : Row) → Contains (reverse rows) row → Contains rows row
out_of_reverse rows row there = Contains-permutation (reverse rows) rows row (IsPermutation-sym rows (reverse rows) (IsPermutation-reverse rows)) there

-- a list read from its end
read_back : {X : Type 0} (R : X → X → Type 0) (xs : List X) → AllPairs R xs → AllPairs (λ x y. R y x) (reverse xs)
read_back R xs pairs i j d before within =
    let long : length (reverse xs) ≡ length xs = length-reverse xs in
    rw (get_or-reverse xs i d (omega arith), get_or-reverse xs j d (omega arith))
    (pairs (length xs - 1 - j) (length xs - 1 - i) d (omega arith) (omega arith))

pub create_is : (s : System) (rows : List Row) → AllPairs (λ (row next : Row). row.node < next.node) rows → AreCreateWrites s.blocks rows (create_writes s rows)
create_is s rows rising = record {
  falling = reverse rows;
  order = record { order = read_back (λ (row next : Row). row.node < next.node) rows rising; same = λ row. (in_reverse rows row, out_of_reverse rows row) };
  each = refl;
}

pub one_create : (s : System) (rows : List Row) (writes : List Write) → AllPairs (λ (row next : Row). row.node < next.node) rows → AreCreateWrites s.blocks rows writes
    → writes ≡ create_writes s rows
one_create s rows writes rising are =
    let same : rows ≡ reverse are.falling =
    one_order rows (reverse are.falling) rising (read_back (λ (row next : Row). next.node < row.node) are.falling are.order.order)
    (λ row there. in_reverse are.falling row ((are.order.same row).0 there))
    (λ row there. (are.order.same row).1 (out_of_reverse are.falling row there)) in
    let back : are.falling ≡ reverse rows = sym (reverse-reverse are.falling) ∙ ap (λ (rs : List Row). reverse rs) (sym same) in
    are.each ∙ ap (λ (rs : List Row). flat_map (row_writes s.blocks) rs) back

-- ---- the writes of a release

pub release_is : (s : System) (region : Live) → AreReleaseWrites (rows_of s region.found) (release_writes s region)
release_is s region = record {
  rising = rows_of s region.found;
  order = record { order = rows_rise s region.found; same = λ row. (λ there. there, λ there. there) };
  each = refl;
}

pub one_release : (s : System) (region : Live) (writes : List Write) → AreReleaseWrites (rows_of s region.found) writes → writes ≡ release_writes s region
one_release s region writes are =
    let same : rows_of s region.found ≡ are.rising =
    one_order (rows_of s region.found) are.rising (rows_rise s region.found) are.order.order (λ row there. (are.order.same row).0 there) (λ row there. (are.order.same row).1 there) in
    are.each ∙ ap (λ (rs : List Row). map release_write rs) (sym same)
