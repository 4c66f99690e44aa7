-- Counts of faults: how each trait of the outside shows that it gave cause (this project's rules).
use Rattle.std.specs.Prelude.{◌≡◌, ℕ, ◌+◌, ◌-◌, ◌^◌, ◌≤◌, min, max, Bool, true, Result, OnErr}

-- the count rose in a call: a count that has reached 2 ^ 64 - 1 stays there, and is taken as risen
abbrev pub Rose : ℕ → ℕ → Type 0
Rose before now = min (before + 1) (2 ^ 64 - 1) ≤ now

-- the count rose by so many at the least; one that has reached 2 ^ 64 - 1 stays there, and is taken as risen by any number
abbrev pub RoseBy : ℕ → ℕ → ℕ → Type 0
RoseBy n before now = min (before + n) (2 ^ 64 - 1) ≤ now

-- a failure comes only where the count rose
abbrev pub HasCause : {T E : Type 0} → Result T E → ℕ → ℕ → Type 0
HasCause result before now = OnErr result (Rose before now)

-- a call that met no fault left the count, where that rises at calls that fail and at no others
abbrev pub LeavesCount : Bool → ℕ → ℕ → Type 0
LeavesCount failures_alone before now = failures_alone ≡ true → now ≡ before

-- The count rose by exactly so many, where it rises at calls that fail and at no others; one that has reached 2 ^ 64 - 1
-- stays there.
abbrev pub CountsExactly : ℕ → Bool → ℕ → ℕ → Type 0
CountsExactly n failures_alone before now = failures_alone ≡ true → now ≡ max before (min (before + n) (2 ^ 64 - 1))
