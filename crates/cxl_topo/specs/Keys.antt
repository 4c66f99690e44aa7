-- Names as keys of a table, and what it is to enter a number under a key.
use Rattle.std.specs.Prelude.{◌≡◌, ℕ, ◌+◌, ◌*◌, Bool, nat_eq, List, [], ◌∷◌, Some, None, if◌then◌else◌}
use Rattle.std.specs.Option.{option_or}
use Rattle.std.specs.declared.cmp.Ordering.{Ordering}
use Rattle.std.specs.Ordering.{on}
use Rattle.std.specs.BTreeMap.{BTreeMap, get, is_at}
use Rattle.cxl_topo.specs.declared.tables.NameKey.{NameKey}

-- the number of a name: its bytes are the digits to the base 256, the first one lowest
abbrev pub name_number : List ℕ → ℕ
name_number [] = 0
name_number (byte ∷ bytes) = byte + 256 * name_number bytes

-- a name as a key of a table: the number whose digits to the base 256 are its bytes, the first one lowest
abbrev pub name_key : List ℕ → NameKey
name_key name = record { 0 = name_number name }

-- two keys are equal where their numbers are
abbrev pub name_eq : NameKey → NameKey → Bool
name_eq = on (λ key. key.0) nat_eq

-- the new map has what the old one has, and the number at the key where the old one has nothing there
abbrev pub Enters : {K : Type 0} → (K → K → Ordering) → BTreeMap K ℕ → BTreeMap K ℕ → K → ℕ → Type 0
Enters {K} cmp old new key i = (q : K) → get cmp new q ≡ option_or (get cmp old q) (if is_at (cmp key) q then Some i else None)
