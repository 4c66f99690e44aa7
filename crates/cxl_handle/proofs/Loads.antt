-- A load that is answered by bytes is answered by as many as it asks for.
use Rattle.std.proofs.Common.{◌≡◌, ℕ, Bool, true, false, if◌then◌else◌, List, length, Ok, Option, Some, None, sym, subst}
use Rattle.std.specs.Option.{option_map_or}
use Rattle.std.proofs.lemmas.List.FromFn.{length-map-range_with_len}
use Rattle.cxl_machine.specs.Accesses.{offset_in}
use Rattle.cxl_machine.specs.Machine.{Live, Machine, live_at}
use Rattle.cxl_machine.specs.Replies.{Answer, ends_within}
use Rattle.cxl_machine.specs.Scripts.{Turn, answer_of, TakesTurn}
use Rattle.cxl_model.specs.Contents.{content_at}
use Rattle.cxl_script.specs.declared.command.Command.TheVariants as commands
use Rattle.cxl_handle.specs.Replies.{HasLoaded}

module _ (room : List ℕ) where
  abbrev Loads : Answer → Type 0
  Loads answer = HasLoaded room answer.reply

  given : (answer other : Answer) → answer ≡ other → Loads other → Loads answer
  given answer other is so = subst Loads (sym is) so

  by_test : (b : Bool) (answer other : Answer) → Loads answer → Loads other → Loads (if b then answer else other)
  by_test true answer other first second = first
  by_test false answer other first second = second

  by_region : (o : Option Live) (answer : Live → Answer) (other : Answer) → ((region : Live) → Loads (answer region)) → Loads other → Loads (option_map_or answer o other)
  by_region None answer other each none = none
  by_region (Some region) answer other each none = each region

  pub loads_all : (m : Machine) (h : ℕ) (turn : Turn) → TakesTurn m (Ok (commands.Load record { h = h; len = length room })) turn → HasLoaded room turn.reply
  loads_all m h turn is =
      given (answer_of turn) _ is.1.told
      (by_region (live_at m h) _ _
      (λ region. by_test (ends_within region.found h (length room)) _ _ (length-map-range_with_len (content_at region.contents) (offset_in region h) (length room)) tt)
      tt)
