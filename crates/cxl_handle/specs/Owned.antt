-- What an address owns that a program keeps: at null nothing; else a box, of whose value a fact is carried. The fact need be no proposition.
use Rattle.std.specs.Prelude.{◌≡◌, Option, Some, None}
use base.Fml.{Fml, ftrue, fsep, fex}
use denote.RattleType.{RattleType}
use denote.RawPtr.{Ptr, null_ptr}
use Rattle.std.specs.declared.alloc.Global.{Global}
use Rattle.std.specs.contracts.impls.GlobalAllocator.TheImpl.{ghosts}
use Rattle.std_alloc.specs.Box.Ownership.{box_owns}

-- the box at this address, whose value is this, and of which that is so
abbrev pub owned_box : (R : RattleType) → (R.Denot → Type 0) → Global → Ptr → R.Denot → Fml
owned_box R IsSo alloc at value = fsep (fex (IsSo value) (λ _. ftrue)) (box_owns (ghosts.dealloc_token alloc) R at value)

-- nothing at null, or the box
abbrev pub owned_at : (R : RattleType) → (R.Denot → Type 0) → Global → Ptr → Option R.Denot → Fml
owned_at R IsSo alloc at None = fex (at ≡ null_ptr) (λ _. ftrue)
owned_at R IsSo alloc at (Some value) = owned_box R IsSo alloc at value

-- there is one, and of it that is so
abbrev pub HoldsSuch : {A : Type 0} → Option A → (A → Type 0) → Type 0
HoldsSuch None IsSo = ⊥
HoldsSuch (Some value) IsSo = IsSo value
