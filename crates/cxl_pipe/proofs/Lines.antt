-- How a line comes, some bytes at a time.
use Rattle.std.proofs.Common.{◌≡◌, ◌≢◌, ℕ, suc, ◌+◌, ◌<◌, ◌≤◌, ◌==◌, None, Some, Result, Ok, Err, IfOk, IfErr, List, [], ◌∷◌, ◌++◌, length, take, drop, refl, sym, ap, subst, ◌∙◌, arith}
use Rattle.std.specs.Prelude.{position}
use Rattle.std.proofs.lemmas.List.{drop_all, length-drop, length-take, length-take-le, take-append-le, take-take}
use Rattle.std.proofs.Math.Seq.{take-append-add}
use Rattle.cxl_enc.specs.declared.faults.Failed.{Failed}
use Rattle.cxl_io.proofs.Reading.{GivesFront-append}
use borrow.Rule.Slice.PartMut.{put_mid, post_of}
use Rattle.cxl_io.proofs.LineBreaks.{break_found, break_none, later-unbroken}
use Rattle.cxl_io.specs.Lines.{ended_lines}
use Rattle.cxl_io.specs.Source.{SourceState, GivesFront, IsAtEnd}
use Rattle.cxl_io.specs.Sink.{Takes}
use Rattle.cxl_pipe.specs.Talk.{Talk, answer_limit, ComesAlone, ComesAstray, ended, behind, IsAstray, astray}
use Rattle.cxl_pipe.specs.declared.peer.How.TheVariants.{Ended, Behind}
use Rattle.cxl_pipe.specs.declared.peer.How.{How}
use Rattle.cxl_pipe.specs.declared.peer.Astray.{Astray}

-- these bytes came, and no line ended within them
pub record HasCome (came : List ℕ) (start now : SourceState) : Type 0 where
  pub given : GivesFront start now came
  pub whole : ended_lines came ≡ []
  pub counts : start.faults ≤ now.faults

nonempty : (bytes : List ℕ) → 0 < length bytes → bytes ≢ []
nonempty bytes some none = let e = ap length none in absurd (omega (arith, e, some))

module _ (bytes : List ℕ) (n : ℕ) (start now : SourceState) (given : GivesFront start now bytes) (found : position (λ byte. byte == 10) bytes ≡ Some n) where
  -- a line that ended with the last byte
  pub comes_alone : n + 1 ≡ length bytes → n ≤ answer_limit → ComesAlone (take n bytes) start now
  comes_alone last few =
      let is = break_found bytes n found in
      let none : drop (suc n) bytes ≡ [] = drop_all (suc n) bytes (omega (arith, last)) in
      record {
        came = subst (λ (b : List ℕ). GivesFront start now b) (is.1.split ∙ ap (λ (rest : List ℕ). take n bytes ++ 10 ∷ rest) none) given;
        whole = later-unbroken (take n bytes) is.1.unbroken;
        short = omega (arith, few, length-take n bytes);
      }

  -- one behind which more came
  pub comes_behind : (how : How) → how ≡ Behind → n + 1 < length bytes → ComesAstray bytes how start now
  comes_behind how is_behind past =
      let is = break_found bytes n found in
      behind given (take n bytes) (drop (suc n) bytes) is.1.split (later-unbroken (take n bytes) is.1.unbroken)
      (nonempty (drop (suc n) bytes) (omega (arith, length-drop (suc n) bytes, past))) is_behind

-- ---- some bytes more

put_more : (at more k : ℕ) (line into : List ℕ) → at ≤ length line → more ≤ length into → take (at + more) (put_mid at k line into) ≡ take at line ++ take more into
put_more at more k line into within few =
    ap (λ (n : ℕ). take (n + more) (put_mid at k line into)) (sym (length-take-le at line within))
    ∙ take-append-add (take at line) (into ++ post_of at k line) more
    ∙ ap (λ (b : List ℕ). take at line ++ b) (take-append-le more into (post_of at k line) few)

-- what came, and behind it what was read
pub more_comes : (read : Result ℕ Failed) (at k : ℕ) (line into : List ℕ) (mid new : SourceState) → at ≤ length line → IfOk read (λ n. n ≤ length into) → IfOk read (λ n. GivesFront mid new (take n into))
    → IfOk read (λ more. (start : SourceState) → GivesFront start mid (take at line) → GivesFront start new (take (at + more) (put_mid at k line into)))
more_comes (Ok more) at k line into mid new within few given = λ start before.
    subst (λ (b : List ℕ). GivesFront start new b) (sym (put_more at more k line into within few)) (GivesFront-append start mid new (take at line) (take more into) before given)
more_comes (Err fault) at k line into mid new within few given = tt

-- ---- one turn

module _ (at more : ℕ) (line new_line : List ℕ) (start mid now : SourceState) (before : HasCome (take at line) start mid)
    (goes_on : (first : SourceState) → GivesFront first mid (take at line) → GivesFront first now (take (at + more) new_line)) where
  -- nothing more came
  pub comes_ended : take at new_line ≡ take at line → more ≡ 0 → IsAtEnd now → ComesAstray (take at new_line) Ended start now
  comes_ended front none end =
      let same : at + more ≡ at = omega (arith, none) in
      ended (subst (λ (n : ℕ). GivesFront start now (take n new_line)) same (goes_on start before.given)) (ap ended_lines front ∙ before.whole) end refl

  -- some bytes more came, and no line ended
  pub comes_on : mid.faults ≤ now.faults → position (λ byte. byte == 10) (take (at + more) new_line) ≡ None → HasCome (take (at + more) new_line) start now
  comes_on counts none = record {
    given = goes_on start before.given;
    whole = break_none (take (at + more) new_line) none;
    counts = omega (arith, before.counts, counts);
  }

-- a line ended at a place of so many bytes
module _ (came end : ℕ) (line : List ℕ) (start now : SourceState) (given : GivesFront start now (take came line)) (found : position (λ byte. byte == 10) (take came line) ≡ Some end)
    (within : came ≤ length line) (few : came ≤ answer_limit + 1) where
  length_is : length (take came line) ≡ came
  length_is = length-take-le came line within

  pub by_alone : (answer : Result ℕ Astray) → IfOk answer (λ n. (n ≡ end) × (end + 1 ≡ came)) → IfOk answer (λ n. ComesAlone (take n line) start now)
  by_alone (Ok n) is =
      let first : take end (take came line) ≡ take n line = take-take end came line (omega (arith, is.1)) ∙ ap (λ (k : ℕ). take k line) (sym is.0) in
      subst (λ (b : List ℕ). ComesAlone b start now) first (comes_alone (take came line) end start now given found (omega (arith, is.1, length_is)) (omega (arith, is.1, few)))
  by_alone (Err lost) is = tt

  pub by_behind : (answer : Result ℕ Astray) → IfErr answer (λ it. (it.how ≡ Behind) × (it.came ≡ came) × (end + 1 < came)) → IfErr answer (λ it. ComesAstray (take it.came line) it.how start now)
  by_behind (Ok n) is = tt
  by_behind (Err lost) is =
      subst (λ (k : ℕ). ComesAstray (take k line) lost.how start now) (sym is.1)
      (comes_behind (take came line) end start now given found lost.how is.0 (omega (arith, is.2, length_is)))

-- ---- behind a question that was sent

pub sent_astray : (answer : Result ℕ Astray) (question line : List ℕ) (old new : Talk) → Takes old.to new.to question → IfErr answer (λ it. ComesAstray (take it.came line) it.how old.from new.from)
    → IfErr answer (λ it. IsAstray question (take it.came line) it.how old new)
sent_astray (Ok n) question line old new sent is = tt
sent_astray (Err it) question line old new sent is = astray sent is
