-- Names of nodes and regions.
use Rattle.std.specs.Prelude.{◌≡◌, ℕ, ◌-◌, ◌<◌, ◌≤◌, Bool, ◌&&◌, ◌||◌, ◌==◌, nat_le, IsTrue, List, ◌++◌, length, take, replicate}
use Rattle.std.specs.List.{list_all}

-- an ASCII letter or digit, or `_`
abbrev pub is_name_byte : ℕ → Bool
is_name_byte b =
    (nat_le 48 b && nat_le b 57) || (nat_le 65 b && nat_le b 90) || (nat_le 97 b && nat_le b 122) || (b == 95)

-- 1 to 15 such bytes (this project's rule)
pub record IsName (bytes : List ℕ) : Type 0 where
  pub some : 0 < length bytes
  pub few : length bytes ≤ 15
  pub each : IsTrue (list_all is_name_byte bytes)

-- the same as a test
abbrev pub is_name : List ℕ → Bool
is_name bytes = nat_le 1 (length bytes) && nat_le (length bytes) 15 && list_all is_name_byte bytes

-- fifteen bytes, zero past the name
abbrev pub padded : List ℕ → List ℕ
padded bytes = bytes ++ replicate (15 - length bytes) 0

-- the first bytes are a name of this length
pub record IsPadded (len : ℕ) (room : List ℕ) : Type 0 where
  pub name : IsName (take len room)
  pub fits : len ≤ 15
  pub zeros : room ≡ padded (take len room)
