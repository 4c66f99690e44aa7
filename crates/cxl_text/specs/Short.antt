-- Short texts (this project's rule).
use Rattle.std.specs.Prelude.{ℕ}

-- the most bytes of a short text
abbrev pub short_limit : ℕ
short_limit = 128
