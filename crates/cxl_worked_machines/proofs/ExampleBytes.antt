-- Maps with no piece and with one, and the frames that stores want beside them.
use Rattle.std.proofs.Common.{◌≡◌, ℕ, ◌+◌, ◌-◌, Bool, true, false, cond, if◌then◌else◌, List, [], ◌∷◌, Option, Some, None, refl, ap, ◌∙◌}
use Rattle.std.specs.Prelude.{is_some}
use Rattle.std.specs.Ordering.{nat_cmp, eq_by_cmp}
use Rattle.std.specs.Cmp.{nat_cmp_total}
use Rattle.std.specs.FinMap as map
use Rattle.std.specs.FinMap.{get-empty, len-empty, get-insert, len-insert}
use Rattle.cxl_script.specs.declared.command.Store.{Store}
use Rattle.cxl_model.specs.Contents.{Contents}
use Rattle.cxl_machine.specs.Machine.{free_frames}
use Rattle.cxl_machine.specs.Accesses.{frames_wanted}
use Rattle.cxl_worked_machines.specs.Examples.{with_r0, region_r0}

pub where_true : {A : Type 0} (b : Bool) (x y : A) → b ≡ true → (if b then x else y) ≡ x
where_true b x y is = ap (λ (t : Bool). if t then x else y) is

pub where_false : {A : Type 0} (b : Bool) (x y : A) → b ≡ false → (if b then x else y) ≡ y
where_false b x y is = ap (λ (t : Bool). if t then x else y) is

abbrev pub nothing : Contents
nothing = map.empty

abbrev pub one_piece : ℕ → List ℕ → Contents
one_piece n piece = map.insert map.empty n piece

pub get-nothing : (k : ℕ) → map.get nothing k ≡ None
get-nothing k = get-empty {X = List ℕ} nat_cmp k

pub len-nothing : map.len nothing ≡ 0
len-nothing = len-empty nat_cmp (List ℕ)

pub get-one_piece : (n : ℕ) (piece : List ℕ) (k : ℕ) → map.get (one_piece n piece) k ≡ cond (eq_by_cmp nat_cmp k n) (Some piece) None
get-one_piece n piece k =
    get-insert {X = List ℕ} nat_cmp_total map.empty n piece k ∙ ap (cond (eq_by_cmp nat_cmp k n) (Some piece)) (get-nothing k)

pub len-one_piece : (n : ℕ) (piece : List ℕ) → map.len (one_piece n piece) ≡ 1
len-one_piece n piece =
    len-insert {X = List ℕ} nat_cmp_total map.empty n piece
    ∙ ap (λ (o : Option (List ℕ)). cond (is_some o) (map.len nothing) (map.len nothing + 1)) (get-nothing n) ∙ ap (λ (k : ℕ). k + 1) len-nothing

-- ---- frames of the worked machine of one region

abbrev pub small : Store
small = record { h = 0x100000000; bytes = 0x11 ∷ [] }

abbrev pub later : Store
later = record { h = 0x1000001ff; bytes = 0xaa ∷ 0xbb ∷ [] }

-- two frames are free of a machine without bytes, and one of one with a piece
pub two_free : free_frames (with_r0 nothing) ≡ 2
two_free = ap (λ (n : ℕ). 2 - (0 + n)) len-nothing

pub one_free : (piece : List ℕ) → free_frames (with_r0 (one_piece 0 piece)) ≡ 1
one_free piece = ap (λ (n : ℕ). 2 - (0 + n)) (len-one_piece 0 piece)

-- each touched piece that is not in the map wants a frame
pub wants_one : frames_wanted (region_r0 nothing) small ≡ 1
wants_one = simp get-nothing refl

pub wants_two_more : (piece : List ℕ) → frames_wanted (region_r0 (one_piece 0 piece)) later ≡ 2
wants_two_more piece = simp (get-one_piece 0 piece) refl
