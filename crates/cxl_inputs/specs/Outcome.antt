-- What a command comes to.
use Rattle.std.specs.Prelude.{ℕ, List, [], ◌∷◌}
use Rattle.std.specs.List.{concat}
use Rattle.cxl_inputs.specs.declared.status.Status.{Status}

-- how it ends, and the pieces of text that are written before, one after another
pub record Outcome : Type 0 where
  pub status : Status
  pub pieces : List (List ℕ)

-- its whole text
abbrev pub whole_text : Outcome → List ℕ
whole_text outcome = concat outcome.pieces

-- an outcome with one piece of text
abbrev pub one_piece : Status → List ℕ → Outcome
one_piece status text = record { status = status; pieces = text ∷ [] }
