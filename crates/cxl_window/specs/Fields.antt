-- What a window holds, and what each of them keeps.
use Rattle.std.specs.Prelude.{◌≡◌, ℕ, ◌+◌, ◌*◌, ◌%◌, ◌<◌, ◌≤◌, Bool, IsTrue, List, length, AllPairs, ◌≢◌}
use Rattle.cxl_enc.specs.Codes.{is_ways, bits_of}
use Rattle.cxl_enc.specs.Limits.{unit, address_limit}
use Rattle.cxl_num.specs.Maps.{are_usable_maps}
use Rattle.cxl_window.specs.declared.window.Verdict.{Verdict}
use Rattle.cxl_window.specs.declared.window.Verdict.TheVariants.{Usable}

-- a fixed memory window; ways is the number, gran the code
pub record WindowFields : Type 0 where
  pub index : ℕ
  pub base : ℕ
  pub size : ℕ
  pub ways : ℕ
  pub gran : ℕ
  pub xor : Bool
  pub maps : List ℕ
  pub restrict : ℕ
  pub targets : List ℕ
  pub verdict : Verdict

-- no number stands twice
abbrev pub AreDistinct : List ℕ → Type 0
AreDistinct ns = AllPairs (λ a b. a ≢ b) ns

-- what can be said of a window that can be used
pub record IsUsable (w : WindowFields) : Type 0 where
  pub aligned : w.base % unit ≡ 0
  pub some : 0 < w.size
  pub even : w.size % (unit * w.ways) ≡ 0
  pub low : w.base + w.size ≤ address_limit
  pub distinct : AreDistinct w.targets
  pub maps : IsTrue w.xor → IsTrue (are_usable_maps w.gran (bits_of w.ways) w.maps)

-- what every window is
pub record IsWindow (w : WindowFields) : Type 0 where
  pub ways_known : IsTrue (is_ways w.ways)
  pub gran_known : w.gran ≤ 6
  pub four_maps : length w.maps ≡ 4
  pub target_each_way : length w.targets ≡ w.ways
  pub usable : w.verdict ≡ Usable → IsUsable w
