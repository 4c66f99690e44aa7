-- What an access leaves: the machine as it was, or one in which a live region has other bytes.
use Rattle.std.proofs.Common.{◌≡◌, ◌≢◌, ℕ, Bool, true, false, not, if◌then◌else◌, List, length, Option, Some, None, refl, sym, ap, ◌∙◌, subst, inl, inr}
use Rattle.std.specs.Prelude.{◌==◌, nat_lt, Contains}
use Rattle.std.specs.Option.{option_map_or}
use Rattle.std.specs.Str.{bytes_eq}
use Rattle.std.proofs.lemmas.Bool.{cases_Bool, false≢true, eqb-true}
use Rattle.std.proofs.lemmas.Slice.Eq.{bytes_eq-Decides}
use Rattle.cxl_script.specs.declared.command.Command.{Command}
use Rattle.cxl_script.specs.declared.command.Command.TheVariants as commands
use Rattle.cxl_script.specs.declared.command.Pair.{Pair}
use Rattle.cxl_script.specs.declared.command.Poison.{Poison}
use Rattle.cxl_script.specs.declared.command.Store.{Store}
use Rattle.cxl_script.specs.declared.command.Up.{Up}
use Rattle.cxl_reply.specs.declared.reply.Reply.TheVariants as replies
use Rattle.cxl_move.specs.Bytes.{written}
use Rattle.cxl_machine.specs.Machine.{Live, Machine, live_named, live_at, free_frames, with_contents}
use Rattle.cxl_machine.specs.Outcomes.{BusOutcome, NoFault, Undone, LeftPending, ReadFailed, is_access}
use Rattle.cxl_machine.specs.Replies.{Answer, becomes, within_region, ends_within}
use Rattle.cxl_machine.specs.Accesses.{offset_in, store_into, frames_wanted, AnswersUp, no_endpoint, told}
use Rattle.cxl_machine.specs.Reports.{AnswersShow, AnswersPoison}
use Rattle.cxl_machine.specs.Reports as reports
use Rattle.cxl_machine.specs.Copies as copies
use Rattle.cxl_machine.specs.Copies.{for_two, carried, copy_between, move_between, frames_for, pieces_of}
use Rattle.cxl_machine.specs.Answers.{Answers}
use Rattle.cxl_machine.proofs.KeepingBytes.{same_bytes}
use Rattle.cxl_machine.proofs.KeepingMachines.{live_there}

-- two live regions of one size
pub record AreTwo (m : Machine) (from to : Live) : Type 0 where
  pub there : Contains m.live from
  pub here : Contains m.live to
  pub sizes : from.found.size ≡ to.found.size
  pub differ : from.name ≢ to.name

-- An access leaves the machine, or it writes: a store into the region that holds its bytes, a copy or a move between two regions.
pub data AccessLeaves (m : Machine) (command : Command) (answer : Answer) : Type 0 where
  as_it_was : answer.machine ≡ m → AccessLeaves m command answer
  stored : (store : Store) (region : Live) → command ≡ commands.Store store → live_at m store.h ≡ Some region → ends_within region.found store.h (length store.bytes) ≡ true
      → nat_lt (free_frames m) (frames_wanted region store) ≡ false
      → answer ≡ becomes (with_contents region.name (written region.contents (offset_in region store.h) store.bytes) m) (replies.Stored (length store.bytes)) → AccessLeaves m command answer
  copied : (pair : Pair) (from to : Live) → command ≡ commands.Copy pair → AreTwo m from to → nat_lt (frames_for m to) (pieces_of from) ≡ false
      → answer ≡ becomes (copies.copied m from to) (replies.Copied (carried from to)) → AccessLeaves m command answer
  moved : (pair : Pair) (from to : Live) → command ≡ commands.Move pair → AreTwo m from to → answer ≡ move_between m from to → AccessLeaves m command answer

module _ (m : Machine) where
  -- live regions of names that differ, and of one size
  pub are_two : (pair : Pair) (from to : Live) → live_named m pair.from ≡ Some from → live_named m pair.to ≡ Some to → bytes_eq pair.from pair.to ≡ false
      → not (from.found.size == to.found.size) ≡ false → AreTwo m from to
  are_two pair from to at here two alike =
      let one = live_there m (λ (r : Live). bytes_eq r.name pair.from) from at in
      let other = live_there m (λ (r : Live). bytes_eq r.name pair.to) to here in
      record {
        there = one.0;
        here = other.0;
        sizes = elim (cases_Bool (from.found.size == to.found.size)) [
          | inl same ↦ eqb-true from.found.size to.found.size same
          | inr differs ↦ absurd (false≢true (sym alike ∙ ap not differs))
        ];
        differ = λ same. false≢true (sym two ∙ (bytes_eq-Decides pair.from pair.to).1 (sym (same_bytes from.name pair.from one.1) ∙ same ∙ same_bytes to.name pair.to other.1));
      }

  module _ (command : Command) where
    abbrev Leaves : Answer → Type 0
    Leaves answer = AccessLeaves m command answer

    given : (answer other : Answer) → answer ≡ other → Leaves other → Leaves answer
    given answer other is leaves = subst Leaves (sym is) leaves

    by_test : (b : Bool) (answer other : Answer) → (b ≡ true → Leaves answer) → (b ≡ false → Leaves other) → Leaves (if b then answer else other)
    by_test true answer other first second = first refl
    by_test false answer other first second = second refl

    by_region : (o : Option Live) (answer : Live → Answer) (other : Answer) → ((region : Live) → o ≡ Some region → Leaves (answer region)) → Leaves other → Leaves (option_map_or answer o other)
    by_region None answer other each none = none
    by_region (Some region) answer other each none = each region refl

    inside : (h len : ℕ) (answer : Live → Answer) → ((region : Live) → live_at m h ≡ Some region → ends_within region.found h len ≡ true → Leaves (answer region))
        → Leaves (within_region m h len answer)
    inside h len answer each =
        by_region (live_at m h) _ _ (λ region at. by_test (ends_within region.found h len) _ _ (each region at) (λ past. as_it_was refl)) (as_it_was refl)

    between : (pair : Pair) (answer : Live → Live → Answer) → ((from to : Live) → AreTwo m from to → Leaves (answer from to)) → Leaves (for_two m pair answer)
    between pair answer each =
        by_region (live_named m pair.from) _ _
        (λ from at. by_region (live_named m pair.to) _ _
        (λ to here. by_test (bytes_eq pair.from pair.to) _ _ (λ one. as_it_was refl)
        (λ two. by_test (not (from.found.size == to.found.size)) _ _ (λ differ. as_it_was refl) (λ alike. each from to (are_two pair from to at here two alike))))
        (as_it_was refl))
        (as_it_was refl)

    shown : (name : List ℕ) (outcome : BusOutcome) (answer : Answer) → AnswersShow m name outcome answer → Leaves answer
    shown name NoFault answer at = given answer _ at (by_region (live_named m name) _ _ (λ region there. as_it_was refl) (as_it_was refl))
    shown name Undone answer at = absurd at
    shown name (LeftPending done) answer at = absurd at
    shown name ReadFailed answer at = given answer _ at.1 (as_it_was refl)

    up : (asked : Up) (answer : Answer) → AnswersUp m asked answer → Leaves answer
    up asked answer (no_endpoint none at) = given answer _ at (as_it_was refl)
    up asked answer (told endpoint reply there tells at) = given answer _ at (as_it_was refl)

    poison : (asked : Poison) (answer : Answer) → AnswersPoison m asked answer → Leaves answer
    poison asked answer (reports.no_endpoint none at) = given answer _ at (as_it_was refl)
    poison asked answer (reports.told endpoint reply there tells at) = given answer _ at (as_it_was refl)

  store_leaves : (store : Store) (region : Live) → live_at m store.h ≡ Some region → ends_within region.found store.h (length store.bytes) ≡ true
      → AccessLeaves m (commands.Store store) (store_into m store region)
  store_leaves store region at fits =
      by_test (commands.Store store) (nat_lt (free_frames m) (frames_wanted region store)) _ _ (λ full. as_it_was refl) (λ room. stored store region refl at fits room refl)

  copy_leaves : (pair : Pair) (from to : Live) → AreTwo m from to → AccessLeaves m (commands.Copy pair) (copy_between m from to)
  copy_leaves pair from to are =
      by_test (commands.Copy pair) (nat_lt (frames_for m to) (pieces_of from)) _ _ (λ lack. as_it_was refl) (λ room. copied pair from to refl are room refl)

  pub access_leaves : (command : Command) (outcome : BusOutcome) (answer : Answer) → is_access command ≡ true → Answers m command outcome answer → AccessLeaves m command answer
  access_leaves (commands.Show name) outcome answer access at = shown (commands.Show name) name outcome answer at
  access_leaves (commands.Down h) outcome answer access at =
      given (commands.Down h) answer _ at.told (by_region (commands.Down h) (live_at m h) _ _ (λ region there. as_it_was refl) (as_it_was refl))
  access_leaves (commands.Up asked) outcome answer access at = up (commands.Up asked) asked answer at.1
  access_leaves (commands.Load load) outcome answer access at =
      given (commands.Load load) answer _ at.told (inside (commands.Load load) load.h load.len _ (λ region there fits. as_it_was refl))
  access_leaves (commands.Store store) outcome answer access at = given (commands.Store store) answer _ at.told (inside (commands.Store store) store.h _ _ (store_leaves store))
  access_leaves (commands.Poison asked) outcome answer access at = poison (commands.Poison asked) asked answer at.1
  access_leaves (commands.Range reach) outcome answer access at =
      given (commands.Range reach) answer _ at.told (inside (commands.Range reach) reach.h reach.len _ (λ region there fits. as_it_was refl))
  access_leaves (commands.Spread reach) outcome answer access at =
      given (commands.Spread reach) answer _ at.told (inside (commands.Spread reach) reach.h reach.len _ (λ region there fits. as_it_was refl))
  access_leaves (commands.Copy pair) outcome answer access at = given (commands.Copy pair) answer _ at.told (between (commands.Copy pair) pair _ (copy_leaves pair))
  access_leaves (commands.Move pair) outcome answer access at =
      given (commands.Move pair) answer _ at.told (between (commands.Move pair) pair _ (λ from to are. moved pair from to refl are refl))
  access_leaves other outcome answer access at = absurd (false≢true access)
