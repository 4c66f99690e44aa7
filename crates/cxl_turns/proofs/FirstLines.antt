-- Which lines stand first in a script: those that a reader has passed on.
use Rattle.std.proofs.Common.{◌≡◌, ℕ, suc, ◌+◌, ◌-◌, ◌<◌, ◌≤◌, ◌⊎◌, Option, None, Some, IfSome, List, [], ◌∷◌, ◌++◌, length, take, drop, refl, sym, ap, subst, ◌∙◌, inl, inr, arith, append_assoc, length-append, if◌then◌else◌}
use Rattle.std.specs.Prelude.{is_none}
use Rattle.std.proofs.lemmas.List.{append-nil, take-append-drop, length-take}
use Rattle.cxl_enc.specs.Faults.{Rose}
use Rattle.cxl_io.specs.Lines.{HasPassed, lines_of}
use Rattle.cxl_io.specs.Reader.{Reader, script_limit, IsNext, ended, last, at_end, fails, too_much, stopped, HasStopped, HasRead, goes_on, has_stopped}
use Rattle.cxl_io.specs.Source.{SourceState}
use Rattle.cxl_io.specs.declared.line_reader.Taken.{Taken}
use Rattle.cxl_io.specs.declared.line_reader.Taken.TheVariants.{Line, Long, End, Fault}
use Rattle.cxl_io.proofs.Reading.{GivesFront-same}
use Rattle.cxl_turns.specs.Endings.{AreFirstLines}

-- no line is passed on that the reader did not come to: it goes on, or is at the end of its source
abbrev pub GoesOnOrEnds : Reader → Type 0
GoesOnOrEnds reader = (reader.stop ≡ None) ⊎ (reader.stop ≡ Some End)

-- ---- the lines stand first

abbrev Stand : List (List ℕ) → List ℕ → List ℕ → Type 0
Stand lines bytes left = (rest : List (List ℕ)) × (lines_of (bytes ++ left) ≡ lines ++ rest)

if_some : {A : Type 0} (P : A → Type 0) (o : Option A) → ((a : A) → o ≡ Some a → P a) → IfSome o P
if_some P None each = tt
if_some P (Some a) each = each a refl

some_if : {A : Type 0} (P : A → Type 0) (o : Option A) (a : A) → IfSome o P → o ≡ Some a → P a
some_if P None b holds e = absurd (cc)
some_if P (Some a) b holds e = let same : a ≡ b = cc in subst P same holds

stand_on : (lines : List (List ℕ)) (bytes held left : List ℕ) → HasPassed lines (take script_limit bytes) held → Stand lines bytes left
stand_on lines bytes held left passed =
    let behind = drop script_limit bytes in (
      lines_of (held ++ (behind ++ left)),
      ap lines_of (ap (λ b. b ++ left) (sym (take-append-drop script_limit bytes)) ∙ append_assoc (take script_limit bytes) behind left) ∙ passed.lines (behind ++ left),
    )

stand_all : (lines : List (List ℕ)) (bytes left : List ℕ) → lines_of bytes ≡ lines → left ≡ [] → Stand lines bytes left
stand_all lines bytes left all none =
    ([], ap (λ more. lines_of (bytes ++ more)) none ∙ ap lines_of (append-nil bytes) ∙ all ∙ sym (append-nil lines))

pub first_lines : (lines : List (List ℕ)) (start now : SourceState) (reader : Reader) → GoesOnOrEnds reader → HasRead lines start reader now → AreFirstLines lines start now
first_lines lines start now reader goes (goes_on none on) = record {
  taken = on.bytes;
  given = on.given;
  first = if_some (λ left. Stand lines on.bytes left) now.left (λ left _. stand_on lines on.bytes reader.held left on.lines);
}
first_lines lines start now reader (inl none) (has_stopped stop some has) = absurd (cc)
first_lines lines start now reader (inr end) (has_stopped stop some has) =
    let same : stop ≡ End = cc in
    let ends = subst (λ t. HasStopped t lines start now) same has in
    record {
      taken = ends.0;
      given = ends.1;
      first = if_some (λ left. Stand lines ends.0 left) now.left
          (λ left is. stand_all lines ends.0 left ends.4 (some_if (λ left. left ≡ []) now.left left ends.3 is));
    }

-- without the last of them
pub first_but_last : (lines : List (List ℕ)) (line : List ℕ) (start now : SourceState) → AreFirstLines (lines ++ line ∷ []) start now → AreFirstLines lines start now
first_but_last lines line start now first = record {
  taken = first.taken;
  given = first.given;
  first = if_some (λ left. Stand lines first.taken left) now.left
      (λ left is.
      let all = some_if (λ left. Stand (lines ++ line ∷ []) first.taken left) now.left left first.first is in
      (line ∷ all.0, all.1 ∙ append_assoc lines (line ∷ []) all.0));
}

-- none of them, before anything is read
pub no_first_lines : (start : SourceState) → AreFirstLines [] start start
no_first_lines start = record {
  taken = [];
  given = GivesFront-same start start refl;
  first = if_some (λ left. Stand [] [] left) start.left (λ left _. (lines_of left, refl));
}

-- ---- how much is left

-- the bytes that a reader holds, and two more than those that it may take; nothing once it has stopped
unfoldable pub still : Reader → ℕ
still reader = if is_none reader.stop then script_limit + 2 - reader.taken + length reader.held else 0

take_few : (n : ℕ) (xs : List ℕ) → length (take n xs) ≤ length xs
take_few n xs = omega (arith, length-take n xs)

going_still : (reader : Reader) → reader.stop ≡ None → still reader ≡ script_limit + 2 - reader.taken + length reader.held
unfolding still
going_still reader none = ap (λ (stop : Option Taken). if is_none stop then script_limit + 2 - reader.taken + length reader.held else 0) none

ended_still : (reader : Reader) (stop : Taken) → reader.stop ≡ Some stop → still reader ≡ 0
unfolding still
ended_still reader answer some = ap (λ (stop : Option Taken). if is_none stop then script_limit + 2 - reader.taken + length reader.held else 0) some

goes_lower : (old new : Reader) → old.stop ≡ None → new.stop ≡ None
    → script_limit + 2 - new.taken + length new.held < script_limit + 2 - old.taken + length old.held → still new < still old
goes_lower old new going none less = omega (arith, going_still old going, going_still new none, less)

ended_lower : (old new : Reader) → old.stop ≡ None → new.stop ≡ Some End → old.taken ≤ script_limit → still new < still old
ended_lower old new going end few = omega (arith, going_still old going, ended_still new End end, few)

-- ---- one answer of a reader

module _ (passed : List (List ℕ)) (start before after : SourceState) (old new : Reader) (answer : Taken) where
  abbrev IsLine : Type 0
  IsLine = (answer ≡ Line) ⊎ (answer ≡ Long)

  -- a reader that passed on lines has not stopped with one
  no_line : IsLine → HasStopped answer passed start before → ⊥
  no_line (inl line) has = subst (λ t. HasStopped t passed start before) line has
  no_line (inr long) has = subst (λ t. HasStopped t passed start before) long has

  has_stop : (stop : Taken) → HasRead passed start old before → old.stop ≡ Some stop → HasStopped stop passed start before
  has_stop stop (goes_on none on) some = absurd (cc)
  has_stop stop (has_stopped other is has) some = let same : other ≡ stop = cc in subst (λ t. HasStopped t passed start before) same has

  -- behind a line it goes on, or is at the end
  pub goes_on_or_ends : IsLine → HasRead passed start old before → IsNext old new before after answer → GoesOnOrEnds new
  goes_on_or_ends line read (ended taken next takes first none is) = inl none
  goes_on_or_ends line read (last taken takes unbroken some at few stop is) = inr stop
  goes_on_or_ends (inl line) read (at_end taken takes none at few stop is) = absurd (cc)
  goes_on_or_ends (inr line) read (at_end taken takes none at few stop is) = absurd (cc)
  goes_on_or_ends (inl line) read (fails taken takes unbroken rose few stop is) = absurd (cc)
  goes_on_or_ends (inr line) read (fails taken takes unbroken rose few stop is) = absurd (cc)
  goes_on_or_ends (inl line) read (too_much taken takes unbroken over stop is) = absurd (cc)
  goes_on_or_ends (inr line) read (too_much taken takes unbroken over stop is) = absurd (cc)
  goes_on_or_ends line read (stopped stop some same source is) =
      absurd (no_line line (subst (λ t. HasStopped t passed start before) (sym is) (has_stop stop read some)))

  -- a fault has its cause in this call, where the reader had not stopped with one
  pub fault_rose : answer ≡ Fault → GoesOnOrEnds old → IsNext old new before after answer → Rose before.faults after.faults
  fault_rose fault goes (ended taken next takes first none (inl is)) = let other = is.2 in absurd (cc)
  fault_rose fault goes (ended taken next takes first none (inr is)) = let other = is.1 in absurd (cc)
  fault_rose fault goes (last taken takes unbroken some at few stop (inl is)) = let other = is.2 in absurd (cc)
  fault_rose fault goes (last taken takes unbroken some at few stop (inr is)) = let other = is.1 in absurd (cc)
  fault_rose fault goes (at_end taken takes none at few stop is) = absurd (cc)
  fault_rose fault goes (fails taken takes unbroken rose few stop is) = rose
  fault_rose fault goes (too_much taken takes unbroken over stop is) = absurd (cc)
  fault_rose fault (inl none) (stopped stop some same source is) = absurd (cc)
  fault_rose fault (inr end) (stopped stop some same source is) = absurd (cc)

  -- it had not come to its end before
  pub fault_going : answer ≡ Fault → GoesOnOrEnds old → IsNext old new before after answer → old.stop ≡ None
  fault_going fault (inl none) is = none
  fault_going fault (inr end) (ended taken next takes first none is) = takes.going
  fault_going fault (inr end) (last taken takes unbroken some at few stop is) = takes.going
  fault_going fault (inr end) (at_end taken takes none at few stop is) = takes.going
  fault_going fault (inr end) (fails taken takes unbroken rose few stop is) = takes.going
  fault_going fault (inr end) (too_much taken takes unbroken over stop is) = takes.going
  fault_going fault (inr end) (stopped stop some same source is) = absurd (cc)

  -- what a reader may still pass on falls with each line
  pub falls : IsLine → HasRead passed start old before → IsNext old new before after answer → still new < still old
  falls line read (ended taken next takes first none is) =
      let going = takes.going in
      let few = takes.few in
      let count = takes.count in
      let split : length (old.held ++ take (script_limit - old.taken) taken) ≡ length first.piece + suc (length new.held) =
      ap length first.split ∙ length-append first.piece (10 ∷ new.held) in
      let parts = length-append old.held (take (script_limit - old.taken) taken) in
      let some = take_few (script_limit - old.taken) taken in
      goes_lower old new going none (omega (arith, few, count, split, parts, some))
  falls line read (last taken takes unbroken some at few stop is) = ended_lower old new takes.going stop (let count = takes.count in omega (arith, few, count))
  falls (inl line) read (at_end taken takes none at few stop is) = absurd (cc)
  falls (inr line) read (at_end taken takes none at few stop is) = absurd (cc)
  falls (inl line) read (fails taken takes unbroken rose few stop is) = absurd (cc)
  falls (inr line) read (fails taken takes unbroken rose few stop is) = absurd (cc)
  falls (inl line) read (too_much taken takes unbroken over stop is) = absurd (cc)
  falls (inr line) read (too_much taken takes unbroken over stop is) = absurd (cc)
  falls line read (stopped stop some same source is) =
      absurd (no_line line (subst (λ t. HasStopped t passed start before) (sym is) (has_stop stop read some)))
