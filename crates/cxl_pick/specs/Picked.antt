-- Which endpoints are picked for what is wanted, or why none are (this project's rules).
use Rattle.std.specs.Prelude.{ℕ, ◌==◌, not, if◌then◌else◌, List, filter, length, map, Option, Some, None, Result, Ok, Err}
use Rattle.std.specs.List.{list_any, range_with_len}
use Rattle.cxl_enc.specs.Codes.{is_ways}
use Rattle.cxl_model.specs.System.{System}
use Rattle.cxl_legal.specs.Firsts.{first_there}
use Rattle.cxl_legal.specs.Sizes.{is_size_for}
use Rattle.cxl_pick.specs.declared.want.Want.{Want}
use Rattle.cxl_pick.specs.declared.fault.PickFault.{PickFault}
use Rattle.cxl_pick.specs.declared.fault.PickFault.TheVariants as faults
use Rattle.cxl_pick.specs.Picking.{given_in}

-- what is given, in rising order
abbrev pub in_rising_order : System → List ℕ → List ℕ
in_rising_order s given = filter (λ n. list_any (λ m. m == n) given) (range_with_len 0 (length s.nodes))

-- the endpoints that are given, in rising order, or that there is no set
abbrev pub set_or_none : System → Option (List ℕ) → Result (List ℕ) PickFault
set_or_none s None = Err faults.NoSet
set_or_none s (Some given) = Ok (in_rising_order s given)

-- the endpoints that are picked: what is given in the first window in which each target bridge gives something
abbrev pub picked : System → Want → Result (List ℕ) PickFault
picked s want =
    if not (is_ways want.ways) then Err (faults.Ways want.ways)
    else (if not (is_size_for want.size want.ways) then Err faults.Size
    else set_or_none s (first_there (map (given_in s want) s.windows)))
