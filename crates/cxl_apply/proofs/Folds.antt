-- Rows that each change the block of a node of their own can come in any order.
use Rattle.std.proofs.Common.{◌≡◌, ◌≢◌, ℕ, zero, suc, ◌<◌, false, List, [], ◌∷◌, length, get_or, Option, Some, None, refl, sym, ap, ◌∙◌, subst, inl, inr, eq-eqb, arith}
use Rattle.std.specs.Prelude.{slice_get, slice_set, All, Contains, fold, option_map, ◌==◌}
use Rattle.std.specs.Option.{option_map_or}
use Rattle.std.specs.List.{list_any}
use Rattle.std.proofs.lemmas.Bool.{cases_Bool, eqb-true, false≢true}
use Rattle.std.proofs.lemmas.List.Elements.{All-tail, Contains-get_or}
use Rattle.std.proofs.lemmas.List.Folds.{list_any_at, Any-from_list_any}
use Rattle.std.proofs.lemmas.Option.{slice_get_within, none-some, same_Some}
use Rattle.cxl_enc.proofs.Lists.{get_same, get_other}
use Rattle.cxl_regs.specs.Registers.{Registers}
use Rattle.cxl_model.specs.declared.plan.Row.{Row}
use Rattle.cxl_apply.specs.Jobs.{AreOfDifferentNodes}
use Rattle.cxl_apply.proofs.JobWrites.{elsewhere, apart_rest}

-- the block of a row's node is changed
abbrev pub change : (Row → Registers → Registers) → List Registers → Row → List Registers
change g blocks row = option_map_or (λ block. slice_set blocks row.node (g row block)) (slice_get blocks row.node) blocks

changed_here : (g : Row → Registers → Registers) (blocks : List Registers) (row : Row) (o : Option Registers) → slice_get blocks row.node ≡ o
    → slice_get (option_map_or (λ block. slice_set blocks row.node (g row block)) o blocks) row.node ≡ option_map (g row) o
changed_here g blocks row None is = is
changed_here g blocks row (Some block) is = get_same blocks row.node (g row block) (slice_get_within blocks row.node block is)

get_changed : (g : Row → Registers → Registers) (blocks : List Registers) (row : Row) → slice_get (change g blocks row) row.node ≡ option_map (g row) (slice_get blocks row.node)
get_changed g blocks row = changed_here g blocks row (slice_get blocks row.node) refl

changed_else : (g : Row → Registers → Registers) (blocks : List Registers) (row : Row) (m : ℕ) (o : Option Registers) → m ≢ row.node
    → slice_get (option_map_or (λ block. slice_set blocks row.node (g row block)) o blocks) m ≡ slice_get blocks m
changed_else g blocks row m None other = refl
changed_else g blocks row m (Some block) other = get_other blocks row.node m (g row block) other

get_unchanged : (g : Row → Registers → Registers) (blocks : List Registers) (row : Row) (m : ℕ) → m ≢ row.node → slice_get (change g blocks row) m ≡ slice_get blocks m
get_unchanged g blocks row m other = changed_else g blocks row m (slice_get blocks row.node) other

-- a node of no row keeps its block
pub get_fold_none : (g : Row → Registers → Registers) (rows : List Row) (blocks : List Registers) (m : ℕ) → All (λ (row : Row). row.node ≢ m) rows
    → slice_get (fold (change g) blocks rows) m ≡ slice_get blocks m
get_fold_none g [] blocks m none = refl
get_fold_none g (row ∷ rest) blocks m none =
    get_fold_none g rest (change g blocks row) m (All-tail (λ (r : Row). r.node ≢ m) row rest none)
    ∙ get_unchanged g blocks row m (λ e. none zero row (omega arith) (sym e))

get_fold_at : (g : Row → Registers → Registers) (rows : List Row) (blocks : List Registers) (row : Row) (k : ℕ) → AreOfDifferentNodes rows → k < length rows → get_or rows k row ≡ row
    → slice_get (fold (change g) blocks rows) row.node ≡ option_map (g row) (slice_get blocks row.node)
get_fold_at g [] blocks row k apart within is = absurd (omega arith)
get_fold_at g (first ∷ rest) blocks row zero apart within is =
    subst (λ (r : Row). slice_get (fold (change g) blocks (first ∷ rest)) r.node ≡ option_map (g r) (slice_get blocks r.node)) is
    (get_fold_none g rest (change g blocks first) first.node (elsewhere first rest apart) ∙ get_changed g blocks first)
get_fold_at g (first ∷ rest) blocks row (suc k) apart within is =
    let inside : k < length rest = omega arith in
    let other : row.node ≢ first.node = subst (λ (r : Row). r.node ≢ first.node) is (elsewhere first rest apart k row inside) in
    get_fold_at g rest (change g blocks first) row k (apart_rest first rest apart) inside is ∙ ap (option_map (g row)) (get_unchanged g blocks first row.node other)

-- the node of a row has its block changed once
pub get_fold_some : (g : Row → Registers → Registers) (rows : List Row) (blocks : List Registers) (row : Row) → AreOfDifferentNodes rows → Contains rows row
    → slice_get (fold (change g) blocks rows) row.node ≡ option_map (g row) (slice_get blocks row.node)
get_fold_some g rows blocks row apart there = get_fold_at g rows blocks row there.0 apart there.1 there.2

-- lists with the same element at each place are one
pub same_by_get : (xs ys : List Registers) → ((k : ℕ) → slice_get xs k ≡ slice_get ys k) → xs ≡ ys
same_by_get [] [] same = refl
same_by_get [] (y ∷ ys) same = absurd (none-some y (same zero))
same_by_get (x ∷ xs) [] same = absurd (none-some x (sym (same zero)))
same_by_get (x ∷ xs) (y ∷ ys) same =
    let first : x ≡ y = same_Some x y (same zero) in
    let rest : xs ≡ ys = same_by_get xs ys (λ k. same (suc k)) in
    λ i. first i ∷ rest i

-- some row stands in a node, or none does
pub none_in : (rows : List Row) (m : ℕ) → list_any (λ (row : Row). row.node == m) rows ≡ false → All (λ (row : Row). row.node ≢ m) rows
none_in rows m none = λ k d within e. false≢true (sym none ∙ list_any_at (λ (row : Row). row.node == m) rows k d within (eq-eqb (get_or rows k d).node m e))

pub fold_order : (g : Row → Registers → Registers) (rows others : List Row) (blocks : List Registers) → AreOfDifferentNodes rows → AreOfDifferentNodes others
    → ((row : Row) → Contains rows row → Contains others row) → ((row : Row) → Contains others row → Contains rows row) → fold (change g) blocks rows ≡ fold (change g) blocks others
fold_order g rows others blocks apart differ there back = same_by_get (fold (change g) blocks rows) (fold (change g) blocks others) at
  where
    some : (m : ℕ) (row : Row) → Contains rows row → row.node ≡ m → slice_get (fold (change g) blocks rows) m ≡ slice_get (fold (change g) blocks others) m
    some m row here is =
        subst (λ (k : ℕ). slice_get (fold (change g) blocks rows) k ≡ slice_get (fold (change g) blocks others) k) is
        (get_fold_some g rows blocks row apart here ∙ sym (get_fold_some g others blocks row differ (there row here)))

    at : (m : ℕ) → slice_get (fold (change g) blocks rows) m ≡ slice_get (fold (change g) blocks others) m
    at m =
        elim (cases_Bool (list_any (λ (row : Row). row.node == m) rows)) [
          | inl any ↦
              let found = Any-from_list_any (λ (row : Row). row.node == m) rows any in
              some m found.1 (found.0, found.2, found.3) (eqb-true found.1.node m found.4)
          | inr none ↦
              let mine = none_in rows m none in
              let theirs : All (λ (row : Row). row.node ≢ m) others = λ k d within e.
              let here = back (get_or others k d) (Contains-get_or others k d within) in
              mine here.0 (get_or others k d) here.1 (ap (λ (r : Row). r.node) here.2 ∙ e) in
              get_fold_none g rows blocks m mine ∙ sym (get_fold_none g others blocks m theirs)
        ]
