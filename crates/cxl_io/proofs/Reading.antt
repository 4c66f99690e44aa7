-- Within one answer of a reader of lines.
use Rattle.std.proofs.Common.{◌≡◌, ℕ, zero, suc, ◌+◌, ◌-◌, ◌^◌, ◌<◌, ◌≤◌, ◌⊎◌, Bool, true, false, cond, ◌==◌, Option, Some, None, IfSome, List, [], ◌∷◌, ◌++◌, length, take, drop, min, max, refl, sym, ap, subst, ◌∙◌, inl, inr, arith, append_assoc, length-append, ne_eqb, take-take}
use Rattle.std.specs.Prelude.{nat_le, slice_index}
use Rattle.std.specs.Str.Lines.{strip_carriage_return}
use Rattle.std.proofs.lemmas.Bool.{leb-true, leb-false}
use Rattle.std.proofs.lemmas.List.{append-nil, take_all, take-append-le, length-take, take_min, drop-take, drop-drop}
use Rattle.std.proofs.Math.Seq.{take-append-add}
use Rattle.cxl_enc.specs.Faults.{Rose, LeavesCount, CountsExactly}
use Rattle.cxl_io.specs.Lines.{ended_lines}
use Rattle.cxl_io.specs.Reader.{Reader, line_limit, script_limit, next_bytes, TakesFrom, IsPassed, IsNext, ended, last, at_end, fails, too_much}
use Rattle.cxl_io.specs.ReaderSteps.{kept_limit, kept_with, PassesBreak, PassesAll, Refills, line_answer, last_answer}
use Rattle.cxl_io.specs.Source.{SourceState, GivesFront, IsAtEnd}
use Rattle.cxl_io.specs.Told.{told_behind}
use Rattle.cxl_io.specs.declared.line_reader.Taken.{Taken}
use Rattle.cxl_io.specs.declared.line_reader.Taken.TheVariants.{Line, Long, End, Fault, TooMuch}
use Rattle.cxl_io.proofs.LineBreaks.{unbroken-append, IsBreakAt}

-- ---- what is kept of a line

pub kept_limit-is : kept_limit ≡ 4098
unfolding kept_limit
kept_limit-is = refl

-- a piece is appended as far as there is room
pub kept_is : (line piece : List ℕ) (n : ℕ) → length line ≤ 4098 → n ≡ min (length piece) (4098 - length line) → line ++ take n piece ≡ kept_with line piece
kept_is line piece n few is =
    let room : kept_limit ≡ length line + (4098 - length line) = omega (arith, kept_limit-is) in
    let more : take n piece ≡ take (4098 - length line) piece = ap (λ k. take k piece) (is ∙ min_comm (length piece) (4098 - length line)) ∙ take_min (4098 - length line) piece in
    ap (λ t. line ++ t) more ∙ sym (ap (λ k. take k (line ++ piece)) room ∙ take-append-add line piece (4098 - length line))
  where
    min_comm : (a b : ℕ) → min a b ≡ min b a
    min_comm a b = omega arith

le_or_more : (n k : ℕ) → (n ≤ k) ⊎ (k < n)
le_or_more n k = by (nat_le n k) refl
  where
    by : (t : Bool) → nat_le n k ≡ t → (n ≤ k) ⊎ (k < n)
    by true e = inl (leb-true n k e)
    by false e = inr (leb-false n k e)

-- no byte came past the limit
pub not_over : (taken : ℕ) → (script_limit < taken → ⊥) → taken ≤ script_limit
not_over taken few = by (le_or_more taken script_limit)
  where
    by : (taken ≤ script_limit) ⊎ (script_limit < taken) → taken ≤ script_limit
    by (inl within) = within
    by (inr over) = absurd (few over)

-- a reader with these fields
unfoldable pub reader_with : ℕ → List ℕ → List ℕ → Option Taken → Reader
reader_with taken held line stop = record { taken = taken; held = held; line = line; stop = stop }

-- the bytes of a block behind those that are passed
pub held-drop : (block : List ℕ) (at end n : ℕ) → at + n ≤ end → drop n (take (end - at) (drop at block)) ≡ take (end - (at + n)) (drop (at + n) block)
held-drop block at end n within =
    let room : end - at ≡ n + (end - (at + n)) = omega arith in
    ap (λ k. drop n (take k (drop at block))) room ∙ drop-take n (end - (at + n)) (drop at block)
    ∙ ap (take (end - (at + n))) (drop-drop n at block)

-- the bytes of a block at its first byte 10
pub held-split : (block : List ℕ) (at end n : ℕ) → at ≤ end → n < length (take (end - at) (drop at block)) → IsBreakAt (take (end - at) (drop at block)) n → take (end - at) (drop at block) ≡ take n (take (end - at) (drop at block)) ++ 10 ∷ take (end - (at + (n + 1))) (drop (at + (n + 1)) block)
held-split block at end n order within is =
    let held = take (end - at) (drop at block) in
    let one_more : at + suc n ≡ at + (n + 1) = omega arith in
    is.split ∙ ap (λ rest. take n held ++ 10 ∷ rest)
    (held-drop block at end (suc n) (omega (arith, length-take (end - at) (drop at block))) ∙ ap (λ k. take (end - k) (drop k block)) one_more)

take_take-append : (k : ℕ) (xs ys : List ℕ) → take k (take k xs ++ ys) ≡ take k (xs ++ ys)
take_take-append zero xs ys = refl
take_take-append (suc k) [] ys = refl
take_take-append (suc k) (x ∷ xs) ys = ap (λ zs. x ∷ zs) (take_take-append k xs ys)

kept_with-append : (line p q : List ℕ) → kept_with (kept_with line p) q ≡ kept_with line (p ++ q)
kept_with-append line p q = take_take-append kept_limit (line ++ p) q ∙ ap (take kept_limit) (append_assoc line p q)

shorter_by_one : (t : Bool) (line : List ℕ) → length line ≤ length (cond t (take (length line - 1) line) line) + 1
shorter_by_one true line = omega (arith, length-take (length line - 1) line)
shorter_by_one false line = omega arith

-- an ending has one byte of the line at the most
length-strip : (line : List ℕ) → length line ≤ length (strip_carriage_return line) + 1
length-strip line = shorter_by_one (slice_index line (length line - 1) == 13) line

judge_by : (t : Bool) (line : List ℕ) (new : Reader) (answer : Taken) → nat_le (length line) line_limit ≡ t → answer ≡ cond t Line Long → new.line ≡ line → IsPassed line new answer
judge_by true line new answer e is same = inl (leb-true (length line) line_limit e, same, is)
judge_by false line new answer e is same = inr (leb-false (length line) line_limit e, is)

passed_line_answer : (line : List ℕ) (new : Reader) (answer : Taken) → answer ≡ line_answer line → new.line ≡ line → IsPassed line new answer
passed_line_answer line new answer is same = judge_by (nat_le (length line) line_limit) line new answer refl is same

-- a line of which not all is kept is too long
long_by : (t : Bool) (kept line : List ℕ) (new : Reader) (answer : Taken) → nat_le (length kept) line_limit ≡ t → answer ≡ cond t Line Long → line_limit < length kept → line_limit < length line → IsPassed line new answer
long_by true kept line new answer e is long long' = let short = leb-true (length kept) line_limit e in absurd (omega arith)
long_by false kept line new answer e is long long' = inr (long', is)

pub passed_ended : (piece : List ℕ) (new : Reader) (answer : Taken) → answer ≡ line_answer (strip_carriage_return (take kept_limit piece)) → new.line ≡ strip_carriage_return (take kept_limit piece) → IsPassed (strip_carriage_return piece) new answer
passed_ended piece new answer is same = by (le_or_more (length piece) kept_limit)
  where
    by : (length piece ≤ kept_limit) ⊎ (kept_limit < length piece) → IsPassed (strip_carriage_return piece) new answer
    by (inl few) =
        let whole : strip_carriage_return (take kept_limit piece) ≡ strip_carriage_return piece = ap strip_carriage_return (take_all kept_limit piece few) in
        passed_line_answer (strip_carriage_return piece) new answer (is ∙ ap line_answer whole) (same ∙ whole)
    by (inr many) =
        let kept = strip_carriage_return (take kept_limit piece) in
        long_by (nat_le (length kept) line_limit) kept (strip_carriage_return piece) new answer refl is
        (omega (arith, kept_limit-is, length-strip (take kept_limit piece), length-take kept_limit piece)) (omega (arith, kept_limit-is, length-strip piece))

pub passed_last : (piece : List ℕ) (new : Reader) (answer : Taken) → answer ≡ line_answer (take kept_limit piece) → new.line ≡ take kept_limit piece → IsPassed piece new answer
passed_last piece new answer is same = by (le_or_more (length piece) kept_limit)
  where
    by : (length piece ≤ kept_limit) ⊎ (kept_limit < length piece) → IsPassed piece new answer
    by (inl few) =
        let whole = take_all kept_limit piece few in passed_line_answer piece new answer (is ∙ ap line_answer whole) (same ∙ whole)
    by (inr many) =
        long_by (nat_le (length (take kept_limit piece)) line_limit) (take kept_limit piece) piece new answer refl is
        (omega (arith, kept_limit-is, length-take kept_limit piece)) (omega (arith, kept_limit-is))

-- ---- what is taken

told_behind-nil : (told : Option (List ℕ)) → told ≡ told_behind [] told
told_behind-nil None = refl
told_behind-nil (Some told) = refl

told_behind-append : (xs ys : List ℕ) (told : Option (List ℕ)) → told_behind xs (told_behind ys told) ≡ told_behind (xs ++ ys) told
told_behind-append xs ys None = refl
told_behind-append xs ys (Some told) = ap (λ bytes. Some bytes) (sym (append_assoc xs ys told))

pub GivesFront-same : (before after : SourceState) → after.left ≡ before.left → GivesFront before after []
GivesFront-same before after same = sym same ∙ told_behind-nil after.left

pub GivesFront-append : (before mid after : SourceState) (xs ys : List ℕ) → GivesFront before mid xs → GivesFront mid after ys → GivesFront before after (xs ++ ys)
GivesFront-append before mid after xs ys first second = first ∙ ap (told_behind xs) second ∙ told_behind-append xs ys after.left

take-nil : (k : ℕ) → take k (let none : List ℕ = [] in none) ≡ []
take-nil zero = refl
take-nil (suc k) = refl

-- so many of two lists
pub take-append : (n : ℕ) (xs ys : List ℕ) → take n (xs ++ ys) ≡ take n xs ++ take (n - length xs) ys
take-append n xs ys = by (le_or_more (length xs) n)
  where
    by : (length xs ≤ n) ⊎ (n < length xs) → take n (xs ++ ys) ≡ take n xs ++ take (n - length xs) ys
    by (inl few) =
        let room : n ≡ length xs + (n - length xs) = omega arith in
        ap (λ k. take k (xs ++ ys)) room ∙ take-append-add xs ys (n - length xs) ∙ ap (λ front. front ++ take (n - length xs) ys) (sym (take_all n xs few))
    by (inr many) =
        let none : n - length xs ≡ 0 = omega arith in
        take-append-le n xs ys (omega arith) ∙ sym (append-nil (take n xs)) ∙ ap (λ k. take n xs ++ take k ys) (sym none)

-- bytes up to the limit, and then others
within-append : (taken : ℕ) (xs ys : List ℕ) → taken + length xs ≤ script_limit → take (script_limit - taken) (xs ++ ys) ≡ take (script_limit - taken) xs ++ take (script_limit - (taken + length xs)) ys
within-append taken xs ys few =
    let all : take (script_limit - taken) xs ≡ xs = take_all (script_limit - taken) xs (omega arith) in
    let room : script_limit - taken ≡ length xs + (script_limit - (taken + length xs)) = omega arith in
    ap (λ k. take k (xs ++ ys)) room ∙ take-append-add xs ys (script_limit - (taken + length xs))
    ∙ ap (λ bytes. bytes ++ take (script_limit - (taken + length xs)) ys) (sym all)

-- ---- one answer

-- So far these bytes were taken, and a piece of a line without an ending is passed.
pub record IsReading (old now : Reader) (before after : SourceState) : Type 0 where
  pub bytes : List ℕ
  pub takes : TakesFrom old now before after bytes
  pub piece : List ℕ
  pub all : next_bytes old bytes ≡ piece ++ now.held
  pub unbroken : ended_lines piece ≡ []
  pub kept : now.line ≡ take kept_limit piece
  pub going : now.stop ≡ None

takes_as : (old now next : Reader) (before after : SourceState) (bytes : List ℕ) → next.taken ≡ now.taken → TakesFrom old now before after bytes → TakesFrom old next before after bytes
takes_as old now next before after bytes same takes = record {
  going = takes.going;
  given = takes.given;
  count = same ∙ takes.count;
  few = subst (λ n. n ≤ script_limit + 1) (sym same) takes.few;
}

pub reading-begin : (old now : Reader) (state : SourceState) → now ≡ record old { line = [] } → old.stop ≡ None → old.taken ≤ script_limit + 1 → IsReading old now state state
reading-begin old now state is going few = record {
  bytes = [];
  takes = record {
    going = going;
    given = told_behind-nil state.left;
    count = ap (λ r. r.taken) is ∙ omega arith;
    few = subst (λ n. n ≤ script_limit + 1) (sym (ap (λ r. r.taken) is)) few;
  };
  piece = [];
  all = ap (λ bytes. old.held ++ bytes) (take-nil (script_limit - old.taken)) ∙ append-nil old.held ∙ sym (ap (λ r. r.held) is);
  unbroken = refl;
  kept = ap (λ r. r.line) is ∙ sym (take-nil kept_limit);
  going = ap (λ r. r.stop) is ∙ going;
}

pub reading-all : (old now next : Reader) (before after : SourceState) → IsReading old now before after → PassesAll now next → IsReading old next before after
reading-all old now next before after so_far passes = record {
  bytes = so_far.bytes;
  takes = takes_as old now next before after so_far.bytes (ap (λ r. r.taken) passes.after) so_far.takes;
  piece = so_far.piece ++ now.held;
  all = so_far.all ∙ sym (append-nil (so_far.piece ++ now.held)) ∙ ap (λ held. (so_far.piece ++ now.held) ++ held) (sym (ap (λ r. r.held) passes.after));
  unbroken = unbroken-append so_far.piece now.held so_far.unbroken passes.unbroken;
  kept = ap (λ r. r.line) passes.after ∙ ap (λ line. kept_with line now.held) so_far.kept ∙ kept_with-append [] so_far.piece now.held;
  going = ap (λ r. r.stop) passes.after ∙ so_far.going;
}

pub reading-refilled : (old now next : Reader) (before mid after : SourceState) (count : ℕ) → IsReading old now before mid → now.held ≡ [] → now.taken ≤ script_limit → Refills now next mid after count → IsReading old next before after
reading-refilled old now next before mid after count so_far none few fills =
    let taken : now.taken ≡ old.taken + length so_far.bytes = so_far.takes.count in
    record {
      bytes = so_far.bytes ++ fills.bytes;
      takes = record {
        going = so_far.takes.going;
        given = GivesFront-append before mid after so_far.bytes fills.bytes so_far.takes.given fills.given;
        count =
            let now_is = ap (λ r. r.taken) fills.after_is in let more = fills.counted in
            omega (arith, length-append so_far.bytes fills.bytes);
        few = let now_is = ap (λ r. r.taken) fills.after_is in let room = fills.few in omega arith;
      };
      piece = so_far.piece;
      all =
          ap (λ bytes. old.held ++ bytes) (within-append old.taken so_far.bytes fills.bytes (omega arith))
          ∙ sym (append_assoc old.held (take (script_limit - old.taken) so_far.bytes) (take (script_limit - (old.taken + length so_far.bytes)) fills.bytes))
          ∙ ap (λ bytes. bytes ++ take (script_limit - (old.taken + length so_far.bytes)) fills.bytes) (so_far.all ∙ ap (λ held. so_far.piece ++ held) none ∙ append-nil so_far.piece)
          ∙ ap (λ n. so_far.piece ++ take (script_limit - n) fills.bytes) (sym taken)
          ∙ ap (λ held. so_far.piece ++ held) (sym (ap (λ r. r.held) fills.after_is));
      unbroken = so_far.unbroken;
      kept = ap (λ r. r.line) fills.after_is ∙ so_far.kept;
      going = ap (λ r. r.stop) fills.after_is ∙ so_far.going;
    }

-- what is held of a block into which so many bytes are read, of which so many are within the limit
pub held_front : (block : List ℕ) (n room end : ℕ) → end ≡ min n room → take (end - 0) (drop 0 block) ≡ take room (take n block)
held_front block n room end is = by (le_or_more room n)
  where
    by : (room ≤ n) ⊎ (n < room) → take (end - 0) (drop 0 block) ≡ take room (take n block)
    by (inl within) =
        let e : end - 0 ≡ room = omega arith in
        ap (λ k. take k block) e ∙ sym (take-take room n block within)
    by (inr more) =
        let e : end - 0 ≡ n = omega arith in
        ap (λ k. take k block) e ∙ sym (take_all room (take n block) (omega (arith, length-take n block)))

-- ---- which answer it is

-- a line is no fault
pub line_no_fault : (line : List ℕ) (answer : Taken) → answer ≡ line_answer line → answer ≡ Fault → ⊥
line_no_fault line answer is fault = by (nat_le (length line) line_limit) is
  where
    by : (t : Bool) → answer ≡ cond t Line Long → ⊥
    by true same = absurd (cc)
    by false same = absurd (cc)

-- nor is what comes at the end
pub last_no_fault : (line : List ℕ) (answer : Taken) → answer ≡ last_answer line → answer ≡ Fault → ⊥
last_no_fault line answer is fault = by (length line == 0) is
  where
    by : (t : Bool) → answer ≡ cond t End (line_answer line) → ⊥
    by true same = absurd (cc)
    by false same = line_no_fault line answer same fault

pub too_much_no_fault : (answer : Taken) → answer ≡ TooMuch → answer ≡ Fault → ⊥
too_much_no_fault answer is fault = absurd (cc)

-- a reader that has stopped does not go on
pub stopped_no_more : (stop : Option Taken) (answer : Taken) → stop ≡ Some answer → stop ≡ None → ⊥
stopped_no_more stop answer some none = absurd (cc)

-- the first failure behind reads that did not fail
pub first_counted : (alone alone' : Bool) (before mid after : ℕ) → alone' ≡ alone → LeavesCount alone before mid → CountsExactly 1 alone' mid after → CountsExactly 1 alone before after
first_counted alone alone' before mid after same left exact =
    λ is. subst (λ n. after ≡ max n (min (n + 1) (2 ^ 64 - 1))) (left is) (exact (same ∙ is))

-- ---- how it ends

-- `now` has passed the byte 10, and `new` is the same with its line
pub next-ended : (old now mid new : Reader) (before after : SourceState) (answer : Taken) → IsReading old now before after → PassesBreak now mid → answer ≡ line_answer (strip_carriage_return mid.line) → new ≡ record mid { line = strip_carriage_return mid.line } → IsNext old new before after answer
next-ended old now mid new before after answer so_far passes is new_is =
    let piece = so_far.piece ++ passes.piece in
    let kept : mid.line ≡ take kept_limit piece = ap (λ r. r.line) passes.after ∙ ap (λ line. kept_with line passes.piece) so_far.kept ∙ kept_with-append [] so_far.piece passes.piece in
    let held : new.held ≡ passes.rest = ap (λ r. r.held) new_is ∙ ap (λ r. r.held) passes.after in
    ended so_far.bytes (strip_carriage_return piece)
    (takes_as old now new before after so_far.bytes (ap (λ r. r.taken) new_is ∙ ap (λ r. r.taken) passes.after) so_far.takes)
    (record {
      piece = piece;
      split =
          so_far.all ∙ ap (λ held. so_far.piece ++ held) passes.split ∙ sym (append_assoc so_far.piece passes.piece (10 ∷ passes.rest))
          ∙ ap (λ rest. piece ++ 10 ∷ rest) (sym held);
      unbroken = unbroken-append so_far.piece passes.piece so_far.unbroken passes.unbroken;
      line_is = refl;
    })
    (ap (λ r. r.stop) new_is ∙ ap (λ r. r.stop) passes.after ∙ so_far.going)
    (passed_ended piece new answer (is ∙ ap (λ line. line_answer (strip_carriage_return line)) kept) (ap (λ r. r.line) new_is ∙ ap strip_carriage_return kept))

module _ (old now : Reader) (before after : SourceState) (so_far : IsReading old now before after) (none : now.held ≡ []) where
  whole : next_bytes old so_far.bytes ≡ so_far.piece
  whole = so_far.all ∙ ap (λ held. so_far.piece ++ held) none ∙ append-nil so_far.piece

  unbroken : ended_lines (next_bytes old so_far.bytes) ≡ []
  unbroken = ap ended_lines whole ∙ so_far.unbroken

  takes_on : (new : Reader) (stop : Taken) → new ≡ record now { stop = Some stop } → TakesFrom old new before after so_far.bytes
  takes_on new stop new_is = takes_as old now new before after so_far.bytes (ap (λ r. r.taken) new_is) so_far.takes

  few_on : (new : Reader) (stop : Taken) → new ≡ record now { stop = Some stop } → now.taken ≤ script_limit → new.taken ≤ script_limit
  few_on new stop new_is few = subst (λ n. n ≤ script_limit) (sym (ap (λ r. r.taken) new_is)) few

  pub next-too_much : (new : Reader) (answer : Taken) → script_limit < now.taken → answer ≡ TooMuch → new ≡ record now { stop = Some TooMuch } → IsNext old new before after answer
  next-too_much new answer over is new_is =
      too_much so_far.bytes (takes_on new TooMuch new_is) unbroken (let few = so_far.takes.few in let same = ap (λ r. r.taken) new_is in omega arith) (ap (λ r. r.stop) new_is) is

  last_by : (piece : List ℕ) (new : Reader) (answer : Taken) → IsAtEnd after → now.taken ≤ script_limit → so_far.piece ≡ piece → answer ≡ last_answer (take kept_limit piece) → new ≡ record now { stop = Some End } → IsNext old new before after answer
  last_by [] new answer at_end_is few same is new_is =
      at_end so_far.bytes (takes_on new End new_is) (whole ∙ same) at_end_is (few_on new End new_is few) (ap (λ r. r.stop) new_is)
      (is ∙ ap last_answer (take-nil kept_limit))
  last_by (b ∷ piece) new answer at_end_is few same is new_is =
      let kept : new.line ≡ take kept_limit (b ∷ piece) = ap (λ r. r.line) new_is ∙ so_far.kept ∙ ap (take kept_limit) same in
      last so_far.bytes (takes_on new End new_is) unbroken (λ e. let none_there = sym (whole ∙ same) ∙ e in cc) at_end_is (few_on new End new_is few) (ap (λ r. r.stop) new_is)
      (subst (λ line. IsPassed line new answer) (sym (whole ∙ same)) (passed_last (b ∷ piece) new answer (is ∙ ap (λ t. cond t End (line_answer (take kept_limit (b ∷ piece)))) some) kept))
    where
      some : (length (take kept_limit (b ∷ piece)) == 0) ≡ false
      some = ne_eqb (length (take kept_limit (b ∷ piece))) 0 (omega (arith, kept_limit-is, length-take kept_limit (b ∷ piece)))

  pub next-last : (new : Reader) (answer : Taken) → IsAtEnd after → now.taken ≤ script_limit → answer ≡ last_answer now.line → new ≡ record now { stop = Some End } → IsNext old new before after answer
  next-last new answer at_end_is few is new_is = last_by so_far.piece new answer at_end_is few refl (is ∙ ap last_answer so_far.kept) new_is

  pub next-fails : (new : Reader) (later : SourceState) (answer : Taken) → later.left ≡ after.left → Rose before.faults later.faults → now.taken ≤ script_limit → new ≡ record now { stop = Some Fault } → answer ≡ Fault → IsNext old new before later answer
  next-fails new later answer same rose few new_is is =
      let takes : TakesFrom old now before later so_far.bytes = record {
        going = so_far.takes.going;
        given = so_far.takes.given ∙ ap (told_behind so_far.bytes) (sym same);
        count = so_far.takes.count;
        few = so_far.takes.few;
      } in
      fails so_far.bytes (takes_as old now new before later so_far.bytes (ap (λ r. r.taken) new_is) takes) unbroken rose
      (few_on new Fault new_is few) (ap (λ r. r.stop) new_is) is

-- ---- a read

none_given : (bytes : List ℕ) → length bytes ≡ 0 → bytes ≡ []
none_given [] e = refl
none_given (b ∷ bytes) e = absurd (omega arith)

still_at_end : (mid after : SourceState) (bytes : List ℕ) → GivesFront mid after bytes → bytes ≡ [] → IsAtEnd mid → IsAtEnd after
still_at_end mid after bytes given none at_end_is =
    let same : mid.left ≡ after.left = given ∙ ap (λ front. told_behind front after.left) none ∙ sym (told_behind-nil after.left) in
    subst (λ left. IfSome left (λ l. l ≡ [])) same at_end_is

-- the source gives no byte
pub next-at_end : (old now next new : Reader) (before mid after : SourceState) (count : ℕ) (answer : Taken) → IsReading old now before mid → now.held ≡ [] → now.taken ≤ script_limit → Refills now next mid after count → count ≡ 0 → IsAtEnd mid → answer ≡ last_answer next.line → new ≡ record next { stop = Some End } → IsNext old new before after answer
next-at_end old now next new before mid after count answer so_far none few fills zero_is at_end_is is new_is =
    let bytes : fills.bytes ≡ [] = none_given fills.bytes (fills.counted ∙ zero_is) in
    let held : next.held ≡ [] = ap (λ r. r.held) fills.after_is ∙ ap (take (script_limit - now.taken)) bytes ∙ take-nil (script_limit - now.taken) in
    let now_is = ap (λ r. r.taken) fills.after_is in
    next-last old next before after (reading-refilled old now next before mid after count so_far none few fills) held new answer
    (still_at_end mid after fills.bytes fills.given bytes at_end_is) (omega arith) is new_is
