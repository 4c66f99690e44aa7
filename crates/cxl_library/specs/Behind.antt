-- A session over a caller's files, behind a script: the words of its last line, and its image (this project's rules).
use Rattle.std.specs.Prelude.{◌≡◌, ◌≢◌, ℕ, ◌+◌, ◌-◌, ◌<◌, ◌≤◌, ◌⊎◌, Option, List, [], ◌∷◌, length, get_or, take, drop}
use Rattle.std.specs.List.{flat_map}
use Rattle.cxl_bus.specs.declared.sent.Sent.{Sent}
use Rattle.cxl_commands.specs.commands.RefusedStart.{too_many_regions}
use Rattle.cxl_commands.specs.inner.Reports.{TellsBreach}
use Rattle.cxl_held.specs.Sessions.{IsHostOf, HasNoFiles}
use Rattle.cxl_image.specs.File.{IsImageFile}
use Rattle.cxl_inputs.specs.Outcome.{Outcome}
use Rattle.cxl_io.specs.Fetch.{FetchState}
use Rattle.cxl_io.specs.Lines.{lines_of}
use Rattle.cxl_io.specs.Reader.{script_limit}
use Rattle.cxl_machine.specs.Machine.{Machine, image_of}
use Rattle.cxl_machine.specs.Scripts.{Turn, lines_asked}
use Rattle.cxl_machine.specs.Sound.{Opens}
use Rattle.cxl_machine.specs.Turns.{AreTurns, machine_after, words_sent, failed_in}
use Rattle.cxl_model.specs.Listed.{region_limit}
use Rattle.cxl_model.specs.System.{System}
use Rattle.cxl_opening.specs.Opening.{HasRegions, endpoints_in, enabling}
use Rattle.cxl_pipe.specs.Protocol.{write_question}
use Rattle.cxl_reads.specs.Answers.{told, table_name, topology_name}
use Rattle.cxl_shell.specs.commands.Script.{script_stopped}
use Rattle.cxl_topo.specs.declared.node.Node.{Node}
use Rattle.cxl_turns.specs.declared.endings.Ending.TheVariants.{TooMuch}
use Rattle.cxl_library.specs.Slices.{Slices, files_of, told_in}
use Rattle.cxl_library.specs.declared.behind.HeldText.{HeldText}
use Rattle.cxl_library.specs.declared.behind.HeldText.TheVariants.{Words, Image}

-- ---- the last line

-- The last line of a script begins here: at the front or behind a byte 10, and no byte from here on is 10 but the last one of all.
pub record BeginsLastLine (script : List ℕ) (at : ℕ) : Type 0 where
  pub within : at ≤ length script
  pub some : 0 < length script → at < length script
  pub begins : (at ≡ 0) ⊎ (get_or script (at - 1) 0 ≡ 10)
  pub unbroken : (i : ℕ) → at ≤ i → i + 1 < length script → get_or script i 0 ≢ 10

-- ---- a session behind a script

-- From a first machine on a session carried out a script: the lines before the last, and then the last one, whose turns these
-- are, which came to this machine.
pub record HasCarriedOutScript (first : Machine) (script : List ℕ) (last : Machine) (turns : List Turn) : Type 0 where
  -- where the last line begins
  pub at : ℕ
  pub begins : BeginsLastLine script at
  -- the lines before it are answered so
  pub earlier : List Turn
  pub before : AreTurns first (lines_asked (lines_of (take at script))) earlier
  -- and the last one so
  pub answered : AreTurns (machine_after first earlier) (lines_asked (lines_of (drop at script))) turns
  pub last_is : last ≡ machine_after (machine_after first earlier) turns
  -- no register failed
  pub unfailed_before : failed_in earlier ≡ []
  pub unfailed : failed_in turns ≡ []

-- ---- its texts

-- a word as a line, by the number of its node
abbrev pub word_line : Sent → List ℕ
word_line sent = write_question sent.node sent.off sent.value

-- words in order, a line each
abbrev pub word_lines : List Sent → List ℕ
word_lines words = flat_map word_line words

-- the words that the last line sent; of an empty script those that let the endpoints decode, with which a session opens
abbrev pub last_words : List ℕ → List Node → List Turn → List Sent
last_words [] nodes turns = enabling (endpoints_in nodes)
last_words (byte ∷ bytes) nodes turns = words_sent turns

-- these words as lines; or the image file of a machine's registers
abbrev pub IsTextOf : HeldText → Machine → List Sent → List ℕ → Type 0
IsTextOf Words m words text = text ≡ word_lines words
IsTextOf Image m words text = IsImageFile text m.settled.nodes (image_of m)

-- ---- what telling one comes to

-- With a session that opened with this machine: the script is too long; or the text, behind all its lines.
pub data IsToldOver (of : HeldText) (first : Machine) (script : List ℕ) (outcome : Outcome) : Type 0 where
  too_long : script_limit < length script → outcome ≡ script_stopped TooMuch → IsToldOver of first script outcome
  behind : (last : Machine) (turns : List Turn) (text : List ℕ) → length script ≤ script_limit → HasCarriedOutScript first script last turns
      → IsTextOf of last (last_words script last.settled.nodes turns) text → outcome ≡ told text → IsToldOver of first script outcome

-- Over files of a caller, which never fail: one has no reading; or no session opens on their host, whose image has a breach, or more regions than
-- may live; or one opened.
pub data IsToldBehind (of : HeldText) (files : Slices) (image : Option (List ℕ)) (script : List ℕ) (outcome : Outcome) : Type 0 where
  no_files : (after : FetchState) → after.faults ≡ 0 → HasNoFiles table_name topology_name image (files_of files) after outcome
      → IsToldBehind of files image script outcome
  breach : (s : System) (frames : ℕ) → IsHostOf (told_in files) table_name topology_name image s frames → TellsBreach s outcome
      → IsToldBehind of files image script outcome
  full : (s : System) (frames : ℕ) → IsHostOf (told_in files) table_name topology_name image s frames
      → (n : ℕ) → HasRegions s n → region_limit < n → outcome ≡ too_many_regions → IsToldBehind of files image script outcome
  opened : (s : System) (frames : ℕ) (first : Machine) → IsHostOf (told_in files) table_name topology_name image s frames
      → Opens s frames first → IsToldOver of first script outcome → IsToldBehind of files image script outcome
