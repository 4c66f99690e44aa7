-- What `gen` asks of a generated system, and what it tells.
use Rattle.std.specs.Prelude.{ℕ, ◌++◌, List, map, Ok, codes, decimal}
use Rattle.cxl_gen.specs.Made.{made_commands}
use Rattle.cxl_inputs.specs.Outcome.{Outcome, one_piece}
use Rattle.cxl_inputs.specs.declared.status.Status.TheVariants.{Done}
use Rattle.cxl_machine.specs.Scripts.{Asked, Turn}
use Rattle.cxl_model.specs.Accepted.{HasFirstBreach}
use Rattle.cxl_model.specs.System.{System}
use Rattle.cxl_reply.specs.Words.{line}
use Rattle.cxl_reply.specs.declared.reply.Reply.{Reply}
use Rattle.cxl_opening.specs.Opening.{HasRegions}
use Rattle.cxl_turns.specs.Counts.{counts_of}
use Rattle.cxl_turns.specs.declared.counts.Counts.{Counts}

-- the commands of the number, none of which is a faulty line
abbrev pub made_asked : ℕ → List Asked
made_asked n = map (λ command. Ok command) (made_commands n)

-- the replies to them, in order
abbrev pub replies_of : List Turn → List Reply
replies_of turns = map (λ (turn : Turn). turn.reply) turns

-- what is counted of the replies, and how many regions a check of the last image finds
abbrev pub gen_text : ℕ → Counts → ℕ → List ℕ
gen_text n counts checked = line (codes "gen " ++ decimal n ++ codes " regions " ++ decimal counts.regions
    ++ codes " stores " ++ decimal counts.stores ++ codes " loads " ++ decimal counts.loads
    ++ codes " unmapped " ++ decimal counts.unmapped ++ codes " sum " ++ decimal counts.sum
    ++ codes " checked " ++ decimal checked)

-- the line that `gen` writes
abbrev pub gen_told : ℕ → List Turn → ℕ → Outcome
gen_told n turns checked = one_piece Done (gen_text n (counts_of (replies_of turns)) checked)

-- how many regions a check finds in an image: none where it has a breach
pub data HasChecked (s : System) : ℕ → Type 0 where
  regions_found : (n : ℕ) → HasRegions s n → HasChecked s n
  breach_found : HasFirstBreach s → HasChecked s 0
