-- What a reader has passed on, answer by answer.
use Rattle.std.proofs.Common.{◌≡◌, ◌≢◌, ℕ, ◌+◌, ◌-◌, ◌<◌, ◌≤◌, ◌⊎◌, Some, None, List, [], ◌∷◌, ◌++◌, length, take, refl, sym, ap, subst, ◌∙◌, inl, inr, arith, length-append}
use Rattle.std.proofs.lemmas.List.{take_all}
use Rattle.cxl_io.specs.Lines.{HasPassed, lines_of, ended_lines}
use Rattle.cxl_io.specs.Reader.{Reader, fresh_reader, line_limit, script_limit, next_bytes, TakesFrom, IsPassed, IsNext, ended, last, at_end, fails, too_much, stopped, HasStopped, IsGoingOn, HasRead, goes_on, has_stopped}
use Rattle.cxl_io.specs.Source.{SourceState, GivesFront}
use Rattle.cxl_io.specs.declared.line_reader.Taken.{Taken}
use Rattle.cxl_io.specs.declared.line_reader.Taken.TheVariants.{Line, Long, End, Fault, TooMuch}
use Rattle.cxl_io.proofs.LineBreaks.{passed-more, passed-line, passed-last, passed-end, passed-stop}
use Rattle.cxl_io.proofs.Reading.{GivesFront-same, GivesFront-append, take-append}

pub read-begin : (source : SourceState) → HasRead [] source fresh_reader source
read-begin source = goes_on refl (record {
  bytes = [];
  given = GivesFront-same source source refl;
  count = refl;
  lines = record { lines = λ behind. refl; ended = λ behind. refl };
})

module _ (passed : List (List ℕ)) (start before after : SourceState) (old new : Reader) where
  -- it had not stopped before
  going : HasRead passed start old before → old.stop ≡ None → IsGoingOn passed start old before
  going (goes_on none so_far) is = so_far
  going (has_stopped stop some so_far) is = absurd (cc)

  -- the bytes so far, with those that are taken now
  record Grown (taken : List ℕ) : Type 0 where
    bytes : List ℕ
    given : GivesFront start after bytes
    count : new.taken ≡ length bytes
    lines : HasPassed passed (take script_limit bytes) (next_bytes old taken)

  grown : (taken : List ℕ) → HasRead passed start old before → TakesFrom old new before after taken → Grown taken
  grown taken so_far takes =
      let was = going so_far takes.going in
      record {
        bytes = was.bytes ++ taken;
        given = GivesFront-append start before after was.bytes taken was.given takes.given;
        count = takes.count ∙ ap (λ n. n + length taken) was.count ∙ sym (length-append was.bytes taken);
        lines =
            subst (λ bytes. HasPassed passed bytes (next_bytes old taken))
            (ap (λ n. take script_limit was.bytes ++ take (script_limit - n) taken) was.count ∙ sym (take-append script_limit was.bytes taken))
            (passed-more passed (take script_limit was.bytes) old.held (take (script_limit - old.taken) taken) was.lines);
      }

  -- all bytes are within the limit
  within : (bytes : List ℕ) → new.taken ≡ length bytes → new.taken ≤ script_limit → take script_limit bytes ≡ bytes
  within bytes count few = take_all script_limit bytes (omega arith)

  few_bytes : (bytes : List ℕ) → new.taken ≡ length bytes → new.taken ≤ script_limit → length bytes ≤ script_limit
  few_bytes bytes count few = omega arith

  -- ---- a line

  passed_line : (line : List ℕ) (answer : Taken) → IsPassed line new answer → answer ≡ Line → new.line ≡ line
  passed_line line answer (inl given) is = given.1
  passed_line line answer (inr long) is = let other = long.1 in absurd (cc)

  passed_long : (line : List ℕ) (answer : Taken) → IsPassed line new answer → answer ≡ Long → line_limit < length line
  passed_long line answer (inl given) is = let other = given.2 in absurd (cc)
  passed_long line answer (inr long) is = long.0

  no_answer : (line : List ℕ) (answer : Taken) → IsPassed line new answer → answer ≢ Line → answer ≢ Long → ⊥
  no_answer line answer (inl given) other other' = other given.2
  no_answer line answer (inr long) other other' = other' long.1

  -- the line that is passed on
  record Passes (answer : Taken) : Type 0 where
    line : List ℕ
    is : IsPassed line new answer
    read : HasRead (passed ++ line ∷ []) start new after

  not_stopped : HasRead passed start old before → (stop : Taken) → old.stop ≡ Some stop → HasStopped stop passed start before
  not_stopped (goes_on none so_far) stop some = absurd (cc)
  not_stopped (has_stopped stop some so_far) other again = let same : stop ≡ other = cc in subst (λ t. HasStopped t passed start before) same so_far

  some_line : (answer : Taken) → (answer ≡ Line) ⊎ (answer ≡ Long) → HasRead passed start old before → IsNext old new before after answer → Passes answer
  some_line answer a so_far (ended taken line takes first none is) =
      let more = grown taken so_far takes in
      record {
        line = line;
        is = is;
        read = goes_on none (record { bytes = more.bytes; given = more.given; count = more.count; lines = passed-line passed (take script_limit more.bytes) (next_bytes old taken) line new.held more.lines first });
      }
  some_line answer a so_far (last taken takes unbroken some at few stop is) =
      let more = grown taken so_far takes in
      record {
        line = next_bytes old taken;
        is = is;
        read = has_stopped End stop (more.bytes, more.given, few_bytes more.bytes more.count few, at, ap lines_of (sym (within more.bytes more.count few)) ∙ passed-last passed (take script_limit more.bytes) (next_bytes old taken) more.lines unbroken some);
      }
  some_line answer (inl a) so_far (at_end taken takes none at few stop is) = absurd (cc)
  some_line answer (inr a) so_far (at_end taken takes none at few stop is) = absurd (cc)
  some_line answer (inl a) so_far (fails taken takes unbroken rose few stop is) = absurd (cc)
  some_line answer (inr a) so_far (fails taken takes unbroken rose few stop is) = absurd (cc)
  some_line answer (inl a) so_far (too_much taken takes unbroken over stop is) = absurd (cc)
  some_line answer (inr a) so_far (too_much taken takes unbroken over stop is) = absurd (cc)
  some_line answer (inl a) so_far (stopped stop some same source_same is) =
      let line : stop ≡ Line = cc in absurd (subst (λ t. HasStopped t passed start before) line (not_stopped so_far stop some))
  some_line answer (inr a) so_far (stopped stop some same source_same is) =
      let long : stop ≡ Long = cc in absurd (subst (λ t. HasStopped t passed start before) long (not_stopped so_far stop some))

  pub read-line : HasRead passed start old before → IsNext old new before after Line → HasRead (passed ++ new.line ∷ []) start new after
  read-line so_far next =
      let one = some_line Line (inl refl) so_far next in
      subst (λ line. HasRead (passed ++ line ∷ []) start new after) (sym (passed_line one.line Line one.is refl)) one.read

  pub read-long : HasRead passed start old before → IsNext old new before after Long → (line : List ℕ) × (line_limit < length line) × HasRead (passed ++ line ∷ []) start new after
  read-long so_far next =
      let one = some_line Long (inr refl) so_far next in (one.line, passed_long one.line Long one.is refl, one.read)

  -- it stops, or had stopped before
  Stops : Taken → Type 0
  Stops answer = HasRead passed start new after × (new.stop ≡ Some answer) × HasStopped answer passed start after

  stops_at : (stop answer : Taken) → answer ≡ stop → new.stop ≡ Some stop → HasStopped stop passed start after → Stops answer
  unfolding Stops
  stops_at stop answer is some has =
      (has_stopped stop some has, some ∙ ap (λ t. Some t) (sym is), subst (λ t. HasStopped t passed start after) (sym is) has)

  read_stop : (answer : Taken) → HasRead passed start old before → IsNext old new before after answer → answer ≢ Line → answer ≢ Long → Stops answer
  read_stop answer so_far (ended taken line takes first none is) other other' = absurd (no_answer line answer is other other')
  read_stop answer so_far (last taken takes unbroken some at few stop is) other other' = absurd (no_answer (next_bytes old taken) answer is other other')
  read_stop answer so_far (at_end taken takes none at few stop is) other other' =
      let more = grown taken so_far takes in
      let whole = within more.bytes more.count few in
      stops_at End answer is stop (more.bytes, more.given, few_bytes more.bytes more.count few, at, ap lines_of (sym whole) ∙ passed-end passed (take script_limit more.bytes) (subst (HasPassed passed (take script_limit more.bytes)) none more.lines))
  read_stop answer so_far (fails taken takes unbroken rose few stop is) other other' =
      let more = grown taken so_far takes in
      stops_at Fault answer is stop (more.bytes, more.given, few_bytes more.bytes more.count few, ap ended_lines (sym (within more.bytes more.count few)) ∙ passed-stop passed (take script_limit more.bytes) (next_bytes old taken) more.lines unbroken)
  read_stop answer so_far (too_much taken takes unbroken over stop is) other other' =
      let more = grown taken so_far takes in
      stops_at TooMuch answer is stop (more.bytes, more.given, sym more.count ∙ over, passed-stop passed (take script_limit more.bytes) (next_bytes old taken) more.lines unbroken)
  read_stop answer so_far (stopped stop some same source_same is) other other' =
      stops_at stop answer is (ap (λ r. r.stop) same ∙ some) (subst (HasStopped stop passed start) (sym source_same) (not_stopped so_far stop some))

  pub read-stop : (answer : Taken) → HasRead passed start old before → IsNext old new before after answer → answer ≢ Line → answer ≢ Long → HasRead passed start new after × (new.stop ≡ Some answer) × HasStopped answer passed start after
  unfolding Stops
  read-stop answer so_far next other other' = read_stop answer so_far next other other'
