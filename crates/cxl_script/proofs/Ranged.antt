-- What a line asks for is ranged.
use Rattle.std.proofs.Common.{◌≡◌, ℕ, Bool, true, false, List, [], ◌∷◌, ◌++◌, Option, Some, None, IfSome, Result, Ok, Err, IfOk, nat_lt, length, subst, ◌+◌, arith}
use Rattle.std.specs.Prelude.{if◌then◌else◌}
use Rattle.cxl_enc.specs.Limits.{address_limit}
use Rattle.cxl_io.specs.Reader.{line_limit}
use Rattle.cxl_script.specs.declared.command.Command.{Command}
use Rattle.cxl_script.specs.declared.command.Command.TheVariants as commands
use Rattle.cxl_script.specs.declared.command.Load.{Load}
use Rattle.cxl_script.specs.declared.command.Reach.{Reach}
use Rattle.cxl_script.specs.declared.command.Store.{Store}
use Rattle.cxl_script.specs.declared.fault.BadLine.{BadLine}
use Rattle.cxl_script.specs.declared.verb.Verb.{Verb}
use Rattle.cxl_script.specs.declared.verb.Verb.TheVariants as verbs
use Rattle.cxl_script.specs.Grammar.{access_limit, range_limit, create_in, as_command, begin_of, asked_of, only_name_in, only_address_in, up_in, load_in, store_in, poison_in, step_in, reach_in, pair_in, command_of, command_in, some_command, asked_by, asked_in, begins_comment, StatesGranCode, StatesGranCodes, IsRanged}
use Rattle.cxl_script.specs.Reading.{ends, ranged, ranged_in, address_in, hex_bytes_in, next_word_in}
use Rattle.cxl_script.specs.Verbs.{verb_of}
use Rattle.cxl_script.specs.Words.{Word, is_blank, ended, line_words_from, line_words}
use Rattle.cxl_script.proofs.GranCodes.{create_low}
use Rattle.cxl_script.proofs.ReadSteps.{after, behind_any, at_end, ranged_within, IsFromTo, HaveBytes, words_left}
use Rattle.cxl_script.proofs.StoredBytes.{AreBytes, stored}
use Rattle.cxl_io.specs.Numbers.{number_of}

-- ---- the words of a line have bytes

ended_have : (at : ℕ) (begun : List ℕ) → HaveBytes (ended at begun)
ended_have at [] = tt
ended_have at (b ∷ bs) = (omega arith, tt)

joined : (words more : List Word) → HaveBytes words → HaveBytes more → HaveBytes (words ++ more)
joined [] more have others = others
joined (word ∷ words) more have others = (have.0, joined words more have.1 others)

either : (b : Bool) (words others : List Word) → HaveBytes words → HaveBytes others → HaveBytes (if b then words else others)
either true words others have other = have
either false words others have other = other

words_have : (at : ℕ) (begun bs : List ℕ) → HaveBytes (line_words_from at begun bs)
words_have at begun [] = ended_have at begun
words_have at begun (b ∷ bs) =
    either (is_blank b) _ _ (joined (ended at begun) (line_words_from (at + 1) [] bs) (ended_have at begun) (words_have (at + 1) [] bs))
    (words_have (at + 1) (begun ++ b ∷ []) bs)

-- ---- bytes and ranges

load_read : (len : ℕ) (words : List Word) → IfOk (load_in len words) (λ load. IsFromTo 1 access_limit load.len)
load_read len words =
    behind_any (λ (load : Load). IsFromTo 1 access_limit load.len) (address_in len words) _ (λ h.
    after (λ r. IsFromTo 1 access_limit r.0) (λ (load : Load). IsFromTo 1 access_limit load.len) (ranged_in 1 access_limit len h.1) _ (ranged_within 1 access_limit len h.1)
    (λ bytes is. at_end (λ (load : Load). IsFromTo 1 access_limit load.len) _ bytes.1 is))

reach_read : (most len : ℕ) (words : List Word) → IfOk (reach_in most len words) (λ reach. IsFromTo 1 most reach.len)
reach_read most len words =
    behind_any (λ (reach : Reach). IsFromTo 1 most reach.len) (address_in len words) _ (λ h.
    after (λ r. IsFromTo 1 most r.0) (λ (reach : Reach). IsFromTo 1 most reach.len) (ranged_in 1 most len h.1) _ (ranged_within 1 most len h.1)
    (λ bytes is. at_end (λ (reach : Reach). IsFromTo 1 most reach.len) _ bytes.1 is))

store_read : (len : ℕ) (words : List Word) → HaveBytes words → IfOk (store_in len words) (λ store. AreBytes access_limit store.bytes)
store_read len words have =
    after (λ r. HaveBytes r.1) (λ (store : Store). AreBytes access_limit store.bytes) (address_in len words) _ (words_left (λ word. ranged word.at 0 0xffffffffffffffff (number_of word.text)) len words have) (λ h left.
    after (λ r. AreBytes access_limit r.0) (λ (store : Store). AreBytes access_limit store.bytes) (hex_bytes_in access_limit len h.1) _ (stored access_limit len h.1 left)
    (λ bytes are. at_end (λ (store : Store). AreBytes access_limit store.bytes) _ bytes.1 are))

-- ---- a command

told : {A : Type 0} (P : A → Type 0) (command : A → Command) (read : Result A BadLine) → ((a : A) → P a → IsRanged (command a)) → IfOk read P → IfOk (as_command command read) IsRanged
told P command (Ok a) each is = each a is
told P command (Err fault) each is = tt

any_value : {A : Type 0} (command : A → Command) (read : Result A BadLine) → ((a : A) → IsRanged (command a)) → IfOk (as_command command read) IsRanged
any_value command (Ok a) each = each a
any_value command (Err fault) each = tt

begun_ranged : (verb : Option Verb) (at len : ℕ) (words : List Word) → IfOk (begin_of verb at len words) IsRanged
begun_ranged (Some verbs.Create) at len words = told StatesGranCode commands.BeginCreate (create_in len words) (λ create low. low) (create_low len words)
begun_ranged (Some verbs.Destroy) at len words = any_value commands.BeginDestroy (only_name_in len words) (λ name. tt)
begun_ranged other at len words = tt

abort_ranged : (words : List Word) → IfOk (ends commands.Abort words) IsRanged
abort_ranged [] = tt
abort_ranged (word ∷ words) = tt

asked_ranged : (verb : Verb) (len : ℕ) (words : List Word) → HaveBytes words → IfOk (asked_of verb len words) IsRanged
asked_ranged verbs.Create len words have = told StatesGranCode commands.Create (create_in len words) (λ create low. low) (create_low len words)
asked_ranged verbs.Destroy len words have = any_value commands.Destroy (only_name_in len words) (λ a. tt)
asked_ranged verbs.Show len words have = any_value commands.Show (only_name_in len words) (λ a. tt)
asked_ranged verbs.Down len words have = any_value commands.Down (only_address_in len words) (λ a. tt)
asked_ranged verbs.Up len words have = any_value commands.Up (up_in len words) (λ a. tt)
asked_ranged verbs.Load len words have = told (λ load. IsFromTo 1 access_limit load.len) commands.Load (load_in len words) (λ load is. is) (load_read len words)
asked_ranged verbs.Store len words have = told (λ store. AreBytes access_limit store.bytes) commands.Store (store_in len words) (λ store are. are) (store_read len words have)
asked_ranged verbs.Poison len words have = any_value commands.Poison (poison_in len words) (λ a. tt)
asked_ranged verbs.Begin len words have =
    behind_any IsRanged (next_word_in len words) _ (λ word. begun_ranged (verb_of word.0.text) word.0.at len word.1)
asked_ranged verbs.Step len words have = any_value commands.Step (step_in len words) (λ a. tt)
asked_ranged verbs.Abort len words have = abort_ranged words
asked_ranged verbs.Range len words have = told (λ reach. IsFromTo 1 range_limit reach.len) commands.Range (reach_in range_limit len words) (λ reach is. is) (reach_read range_limit len words)
asked_ranged verbs.Spread len words have = told (λ reach. IsFromTo 1 address_limit reach.len) commands.Spread (reach_in address_limit len words) (λ reach is. is.0) (reach_read address_limit len words)
asked_ranged verbs.Copy len words have = any_value commands.Copy (pair_in len words) (λ a. tt)
asked_ranged verbs.Move len words have = any_value commands.Move (pair_in len words) (λ a. tt)

of_verb : (verb : Option Verb) (at len : ℕ) (words : List Word) → HaveBytes words → IfOk (command_of verb at len words) IsRanged
of_verb None at len words have = tt
of_verb (Some verb) at len words have = asked_ranged verb len words have

of_command : (read : Result Command BadLine) → IfOk read IsRanged → IfOk (some_command read) (λ asked. IfSome asked IsRanged)
of_command (Ok command) low = low
of_command (Err fault) low = tt

unless_comment : (b : Bool) (read : Result (Option Command) BadLine) → IfOk read (λ asked. IfSome asked IsRanged) → IfOk (if b then Ok None else read) (λ asked. IfSome asked IsRanged)
unless_comment true read low = tt
unless_comment false read low = low

words_ranged : (len : ℕ) (words : List Word) → HaveBytes words → IfOk (asked_by len words) (λ asked. IfSome asked IsRanged)
words_ranged len [] have = tt
words_ranged len (verb ∷ words) have =
    unless_comment (begins_comment verb.text) (some_command (command_in len verb words))
    (of_command (command_in len verb words) (of_verb (verb_of verb.text) verb.at len words have.1))

unless_long : (b : Bool) (fault : BadLine) (read : Result (Option Command) BadLine) → IfOk read (λ asked. IfSome asked IsRanged) → IfOk (if b then Err fault else read) (λ asked. IfSome asked IsRanged)
unless_long true fault read low = tt
unless_long false fault read low = low

line_ranged : (line : List ℕ) → IfOk (asked_in line) (λ asked. IfSome asked IsRanged)
line_ranged line = unless_long (nat_lt line_limit (length line)) _ (asked_by (length line) (line_words line)) (words_ranged (length line) (line_words line) (words_have 0 [] line))

pub asked_ranged_on : (line : List ℕ) (command : Command) → asked_in line ≡ Ok (Some command) → IsRanged command
asked_ranged_on line command e = subst (λ asked. IfOk asked (λ some. IfSome some IsRanged)) e (line_ranged line)

-- ---- the granularity among what is ranged

codes_stated : (command : Command) → IsRanged command → StatesGranCodes command
codes_stated (commands.Create create) is = is
codes_stated (commands.BeginCreate create) is = is
codes_stated other is = tt

codes_asked : (asked : Result (Option Command) BadLine) → IfOk asked (λ some. IfSome some IsRanged) → IfOk asked (λ some. IfSome some StatesGranCodes)
codes_asked (Ok (Some command)) is = codes_stated command is
codes_asked (Ok None) is = tt
codes_asked (Err fault) is = tt

pub line_states_codes : (line : List ℕ) → IfOk (asked_in line) (λ asked. IfSome asked StatesGranCodes)
line_states_codes line = codes_asked (asked_in line) (line_ranged line)
