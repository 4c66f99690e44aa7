-- The words of slices of writes, made in order or taken back from the last (this project's rule).
use Rattle.std.specs.Prelude.{ℕ, ◌-◌, List, map, reverse, take, drop}
use Rattle.cxl_bus.specs.declared.sent.Sent.{Sent}
use Rattle.cxl_apply.specs.declared.write.Write.{Write}

-- a write is made, and taken back
abbrev pub made : Write → Sent
made write = record { node = write.node; off = write.off; value = write.value }

-- the word that takes a write back
abbrev pub taken_back : Write → Sent
taken_back write = record { node = write.node; off = write.off; value = write.back }

-- the writes behind so many, up to so many
abbrev pub writes_between : List Write → ℕ → ℕ → List Write
writes_between writes before upto = take (upto - before) (drop before writes)

-- they are made in order
abbrev pub words_made : List Write → ℕ → ℕ → List Sent
words_made writes before upto = map made (writes_between writes before upto)

-- they are taken back, the last one first
abbrev pub words_taken_back : List Write → ℕ → ℕ → List Sent
words_taken_back writes before upto = map taken_back (reverse (writes_between writes before upto))
