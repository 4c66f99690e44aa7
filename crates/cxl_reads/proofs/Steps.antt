-- A line more in a loop over numbered items.
use Rattle.std.proofs.Common.{◌≡◌, ℕ, ◌+◌, ◌≤◌, List, ◌++◌, length, take, Some, sym, ap, ◌∙◌}
use Rattle.std.specs.Prelude.{slice_get}
use Rattle.std.specs.List.{flat_map, enumerate_from}
use Rattle.std.proofs.lemmas.Option.{slice_get_within, get_or_from_slice_get}
use Rattle.cxl_enc.proofs.Lists.{appended}
use Rattle.cxl_text.proofs.Lines.{numbered_line, all_items}

pub item_line : {X : Type 0} (f : ℕ × X → List ℕ) (xs : List X) (i : ℕ) (x : X) (o p q : List ℕ) → slice_get xs i ≡ Some x → p ≡ o ++ flat_map f (enumerate_from 0 (take i xs)) → q ≡ p ++ f (i, x) → q ≡ o ++ flat_map f (enumerate_from 0 (take (i + 1) xs))
item_line f xs i x o p q there so_far e =
    appended o p q (flat_map f (enumerate_from 0 (take i xs))) (f (i, x)) so_far e
    ∙ ap (λ (t : List ℕ). o ++ t) (sym (numbered_line f xs i x (slice_get_within xs i x there) (get_or_from_slice_get xs i x x there)))

-- the lines of all items
pub all_lines : {X : Type 0} (f : ℕ × X → List ℕ) (xs : List X) (i : ℕ) (o p : List ℕ) → length xs ≤ i → p ≡ o ++ flat_map f (enumerate_from 0 (take i xs)) → p ≡ o ++ flat_map f (enumerate_from 0 xs)
all_lines {X = X} f xs i o p long so_far = all_items (λ (ys : List X). flat_map f (enumerate_from 0 ys)) xs i o p long so_far
