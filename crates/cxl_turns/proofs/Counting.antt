-- Commands that were carried out and counted so far, and one more.
use Rattle.std.proofs.Common.{◌≡◌, ℕ, ◌+◌, Bool, true, false, Ok, List, [], ◌∷◌, ◌++◌, take, refl, sym, ap, subst, ◌∙◌, arith, if◌then◌else◌}
use Rattle.std.specs.Prelude.{map, sum_by, count_by}
use Rattle.std.proofs.lemmas.List.{map-append}
use Rattle.std.proofs.lemmas.List.Sums.{sum_by-append}
use Rattle.cxl_bus.specs.RegsState.{RegsState}
use Rattle.cxl_media.specs.MediaState.{MediaState}
use Rattle.cxl_script.specs.declared.command.Command.{Command}
use Rattle.cxl_reply.specs.declared.reply.Reply.{Reply}
use Rattle.cxl_machine.specs.Scripts.{Asked, Turn}
use Rattle.cxl_machine.specs.Turns.{machine_after}
use Rattle.cxl_session.specs.State.{SessionState}
use Rattle.cxl_session.specs.Standing.{Stands, ForEachMachine}
use Rattle.cxl_turns.specs.declared.counts.Counts.{Counts}
use Rattle.cxl_turns.specs.Counts.{is_created, is_stored, is_loaded, is_unmapped_reply, loaded_sum, counts_of, one_if, counted}
use Rattle.cxl_turns.specs.Going.{HasGoneOn}
use Rattle.cxl_turns.proofs.Going.{gone_same, gone_still, gone_both}

-- ---- replies

count_more : (p : Reply → Bool) (replies : List Reply) (reply : Reply) → count_by p (replies ++ reply ∷ []) ≡ count_by p replies + one_if (p reply)
count_more p replies reply =
    sum_by-append (λ r. if p r then 1 else 0) replies (reply ∷ []) ∙ ap (λ n. count_by p replies + n) (by (p reply))
  where
    by : (b : Bool) → 0 + (if b then 1 else 0) ≡ one_if b
    by true = refl
    by false = refl

sum_more : (replies : List Reply) (reply : Reply) → sum_by loaded_sum (replies ++ reply ∷ []) ≡ sum_by loaded_sum replies + loaded_sum reply
sum_more replies reply = omega (arith, sum_by-append loaded_sum replies (reply ∷ []))

fields : (a b c d s a' b' c' d' s' : ℕ) → a ≡ a' → b ≡ b' → c ≡ c' → d ≡ d' → s ≡ s'
    → ◌≡◌ {A = Counts} (record { regions = a; stores = b; loads = c; unmapped = d; sum = s }) (record { regions = a'; stores = b'; loads = c'; unmapped = d'; sum = s' })
fields a b c d s a' b' c' d' s' ea eb ec ed es = cc

counts_more : (replies : List Reply) (reply : Reply) → counts_of (replies ++ reply ∷ []) ≡ counted (counts_of replies) reply
counts_more replies reply =
    fields _ _ _ _ _ _ _ _ _ _ (count_more is_created replies reply) (count_more is_stored replies reply) (count_more is_loaded replies reply) (count_more is_unmapped_reply replies reply) (sum_more replies reply)

-- ---- commands

abbrev pub asked_of : List Command → List Asked
asked_of commands = map (λ command. Ok command) commands

abbrev pub replies_of : List Turn → List Reply
replies_of turns = map (λ (turn : Turn). turn.reply) turns

-- so many are answered, and their replies counted
pub record AreCounted (n : ℕ) (commands : List Command) (start session : SessionState) (old new : RegsState) (before media : MediaState) (counts : Counts) : Type 0 where
  pub each : ForEachMachine start old before (λ m. (turns : List Turn) × HasGoneOn m (asked_of (take n commands)) turns session old new media × (counts ≡ counts_of (replies_of turns)))

pub none_counted : (commands : List Command) (session : SessionState) (regs : RegsState) (media : MediaState) (counts : Counts) → counts ≡ counts_of [] → AreCounted 0 commands session session regs regs media media counts
none_counted commands session regs media counts none = record { each = λ m at. ([], gone_same m session regs media at, none) }

pub one_counted : (n : ℕ) (commands : List Command) (command : Command) (start mid session : SessionState) (old now new : RegsState) (before between media : MediaState) (counts after : Counts) (reply : Reply)
    → AreCounted n commands start mid old now before between counts → take (n + 1) commands ≡ take n commands ++ command ∷ []
    → ForEachMachine mid now between (λ m. (turn : Turn) × HasGoneOn m (Ok command ∷ []) (turn ∷ []) session now new media × (after ≡ counted counts turn.reply) × (reply ≡ turn.reply))
    → AreCounted (n + 1) commands start session old new before media after
one_counted n commands command start mid session old now new before between media counts after reply so_far grows one = record {
  each = λ m at.
      let (turns, gone, is) = so_far.each m at in
      let (turn, more, counts_is, told) = one (machine_after m turns) gone.at in (
        turns ++ turn ∷ [],
        subst (λ asked. HasGoneOn m asked (turns ++ turn ∷ []) session old new media)
            (sym (ap asked_of grows ∙ map-append (λ command. Ok command) (take n commands) (command ∷ [])))
            (gone_both m (asked_of (take n commands)) (Ok command ∷ []) turns (turn ∷ []) mid session old now new between media gone more),
        counts_is ∙ ap (λ c. counted c turn.reply) is ∙ sym (ap counts_of (map-append (λ (t : Turn). t.reply) turns (turn ∷ [])) ∙ counts_more (replies_of turns) turn.reply),
      );
}

-- memory ran out at the next one
pub left_counted : (n : ℕ) (commands : List Command) (start mid session : SessionState) (old now new : RegsState) (before between media : MediaState) (counts : Counts)
    → AreCounted n commands start mid old now before between counts → ForEachMachine mid now between (λ m. HasGoneOn m [] [] session now new media)
    → ForEachMachine start old before (λ m. (count : ℕ) × (turns : List Turn) × HasGoneOn m (asked_of (take count commands)) turns session old new media)
left_counted n commands start mid session old now new before between media counts so_far none m at =
    let (turns, gone, is) = so_far.each m at in
    (n, turns, gone_still m (asked_of (take n commands)) turns mid session old now new between media gone (none (machine_after m turns) gone.at))

pub all_counted : (n : ℕ) (commands : List Command) (start session : SessionState) (old new : RegsState) (before media : MediaState) (counts : Counts)
    → AreCounted n commands start session old new before media counts → take n commands ≡ commands
    → ForEachMachine start old before (λ m. (turns : List Turn) × HasGoneOn m (asked_of commands) turns session old new media × (counts ≡ counts_of (replies_of turns)))
all_counted n commands start session old new before media counts so_far whole m at =
    let (turns, gone, is) = so_far.each m at in
    (turns, subst (λ cs. HasGoneOn m (asked_of cs) turns session old new media) whole gone, is)

pub stands_there : (n : ℕ) (commands : List Command) (start mid : SessionState) (old now : RegsState) (before between : MediaState) (counts : Counts)
    → AreCounted n commands start mid old now before between counts → Stands start old before → Stands mid now between
stands_there n commands start mid old now before between counts so_far (m, at) =
    let (turns, gone, is) = so_far.each m at in (machine_after m turns, gone.at)
