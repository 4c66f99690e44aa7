use Rattle.std.proofs.Common.{◌≡◌, ◌≢◌, ℕ, zero, suc, ◌<◌, true, false, [], ◌∷◌, refl, arith}
use Rattle.std.specs.Prelude.{All, AllPairs, Contains}
use Rattle.std.proofs.lemmas.List.Elements.{All-nil, All-cons, All-contains}
use Rattle.std.proofs.lemmas.List.Kept.{AllPairs-cons}
use Rattle.cxl_enc.proofs.Lists.{All-one}
use Rattle.cxl_topo.specs.Tree.{forwards_at, path_of}
use Rattle.cxl_model.specs.declared.plan.Row.{Row}
use Rattle.cxl_model.specs.declared.request.Request.{Request}
use Rattle.cxl_model.specs.System.{System}
use Rattle.cxl_model.specs.Ranges.{serves}
use Rattle.cxl_model.specs.Regions.{region_range}
use Rattle.cxl_model.specs.Plans.{IsUsed, IsRow, AreRowsOf}
use Rattle.cxl_worked.specs.Examples.{two_bridges, of_both}
use Rattle.cxl_worked.specs.ExampleRegions.{region_of_two}
use Rattle.cxl_worked.specs.ExamplePlans.{after_reset, of_ram, row_of_both, rows_of_two}
use Rattle.cxl_worked.proofs.ExamplesSystems.{decoder_from}
use Rattle.cxl_worked.proofs.plan_examples.legal_plan_on_examples.Goals as goal

-- the host, and the request for both endpoints
abbrev host : System
host = after_reset two_bridges

abbrev both : Request → Request
both request = of_ram request 0x20000000 (2 ∷ 3 ∷ [])

-- lists of two to four

all_two : {X : Type 0} (P : X → Type 0) (x y : X) → P x → P y → All P (x ∷ y ∷ [])
all_two P x y p q = All-cons P x (y ∷ []) p (All-one P y q)

all_three : {X : Type 0} (P : X → Type 0) (x y z : X) → P x → P y → P z → All P (x ∷ y ∷ z ∷ [])
all_three P x y z p q r = All-cons P x (y ∷ z ∷ []) p (all_two P y z q r)

pairs_none : {X : Type 0} (R : X → X → Type 0) → AllPairs R []
pairs_none R i j d before within = absurd (omega arith)

pairs_two : {X : Type 0} (R : X → X → Type 0) (x y : X) → R x y → AllPairs R (x ∷ y ∷ [])
pairs_two R x y r = AllPairs-cons R x (y ∷ []) (All-one (R x) y r) (AllPairs-cons R y [] (All-nil (R y)) (pairs_none R))

-- what holds of each of the four rows holds of every row
each_of_four : (P : Row → Type 0) → P (row_of_both 0 0x1000) → P (row_of_both 1 0x1000) → P (row_of_both 2 0x1010) → P (row_of_both 3 0x1010)
    → (row : Row) → Contains rows_of_two row → P row
each_of_four P first second third fourth row =
    All-contains P rows_of_two row
    (All-cons P (row_of_both 0 0x1000) (row_of_both 1 0x1000 ∷ row_of_both 2 0x1010 ∷ row_of_both 3 0x1010 ∷ []) first
    (all_three P (row_of_both 1 0x1000) (row_of_both 2 0x1010) (row_of_both 3 0x1010) second third fourth))

-- ---- one row for each used node

abbrev Rises : Row → Row → Type 0
Rises row next = row.node < next.node

rising : AllPairs Rises rows_of_two
rising =
    AllPairs-cons Rises (row_of_both 0 0x1000) (row_of_both 1 0x1000 ∷ row_of_both 2 0x1010 ∷ row_of_both 3 0x1010 ∷ [])
    (all_three (Rises (row_of_both 0 0x1000)) (row_of_both 1 0x1000) (row_of_both 2 0x1010) (row_of_both 3 0x1010) (omega arith) (omega arith) (omega arith))
    (AllPairs-cons Rises (row_of_both 1 0x1000) (row_of_both 2 0x1010 ∷ row_of_both 3 0x1010 ∷ [])
    (all_two (Rises (row_of_both 1 0x1000)) (row_of_both 2 0x1010) (row_of_both 3 0x1010) (omega arith) (omega arith))
    (pairs_two Rises (row_of_both 2 0x1010) (row_of_both 3 0x1010) (omega arith)))

abbrev IsUsedRow : Request → Row → Type 0
IsUsedRow request row = IsUsed host (both request) row.node × (forwards_at host.nodes row.node ≡ false)

used : (request : Request) (row : Row) → Contains rows_of_two row → IsUsedRow request row
used request =
    each_of_four (IsUsedRow request) ((2, (0, omega arith, refl), (0, omega arith, refl)), refl) ((3, (1, omega arith, refl), (0, omega arith, refl)), refl)
    ((2, (0, omega arith, refl), (1, omega arith, refl)), refl) ((3, (1, omega arith, refl), (1, omega arith, refl)), refl)

-- some row is that of the node
abbrev HasRow : ℕ → Type 0
HasRow n = (row : Row) × Contains rows_of_two row × (row.node ≡ n)

-- the nodes on the path of an endpoint
abbrev HasRows : ℕ → Type 0
HasRows endpoint = (n : ℕ) → Contains (path_of host.nodes endpoint) n → HasRow n

rows_to_first : HasRows 2
rows_to_first n =
    All-contains HasRow (0 ∷ 2 ∷ []) n
    (all_two HasRow 0 2 (row_of_both 0 0x1000, (0, omega arith, refl), refl) (row_of_both 2 0x1010, (2, omega arith, refl), refl))

rows_to_second : HasRows 3
rows_to_second n =
    All-contains HasRow (1 ∷ 3 ∷ []) n
    (all_two HasRow 1 3 (row_of_both 1 0x1000, (1, omega arith, refl), refl) (row_of_both 3 0x1010, (3, omega arith, refl), refl))

all_used : (request : Request) (n : ℕ) → IsUsed host (both request) n → HasRow n
all_used request n is =
    All-contains HasRows (2 ∷ 3 ∷ []) is.0 (all_two HasRows 2 3 rows_to_first rows_to_second) is.1 n is.2

rows_of : (request : Request) → AreRowsOf host (both request) rows_of_two
rows_of request = record { rising = rising; used = used request; all = λ n is own. all_used request n is }

-- ---- each row

abbrev IsOwnRow : Row → Type 0
IsOwnRow row = IsRow host (region_range region_of_two) row

own-0 : IsOwnRow (row_of_both 0 0x1000)
own-0 = record { first = refl; range = refl; kept = decoder_from false (of_both 0x1000) refl; unlocked = refl; uncommitted = (refl, refl, refl) }

own-1 : IsOwnRow (row_of_both 1 0x1000)
own-1 = record { first = refl; range = refl; kept = decoder_from false (of_both 0x1000) refl; unlocked = refl; uncommitted = (refl, refl, refl) }

own-2 : IsOwnRow (row_of_both 2 0x1010)
own-2 = record { first = refl; range = refl; kept = decoder_from true (of_both 0x1010) refl; unlocked = refl; uncommitted = (refl, refl, refl) }

own-3 : IsOwnRow (row_of_both 3 0x1010)
own-3 = record { first = refl; range = refl; kept = decoder_from true (of_both 0x1010) refl; unlocked = refl; uncommitted = (refl, refl, refl) }

-- the reset host has no range
none_serves : (n : ℕ) → serves host (region_range region_of_two) n ≡ false
none_serves zero = refl
none_serves (suc zero) = refl
none_serves (suc (suc zero)) = refl
none_serves (suc (suc (suc zero))) = refl
none_serves (suc (suc (suc (suc n)))) = refl

pub returns-clause-legal : goal.returns-clause-legal
returns-clause-legal c = λ request. record {
  distinct = pairs_two (λ (a b : ℕ). a ≢ b) 2 3 (λ same. absurd (omega arith));
  named = refl;
  there = refl;
  open_to_plans = refl;
  agrees = λ more. tt;
  rows_of = rows_of request;
  each_row = each_of_four IsOwnRow own-0 own-1 own-2 own-3;
  new = none_serves;
  accepted = c.rules_on_examples.ensures.two_bridges;
  region = c.regions_on_examples.ensures.two;
  size = refl;
  kind = refl;
  code = refl;
}

pub returns-clause-stated : goal.returns-clause-stated
returns-clause-stated c = λ request. refl
