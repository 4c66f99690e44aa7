-- Writes that are made, or taken back, one after another.
use Rattle.std.proofs.Common.{◌≡◌, ◌≢◌, ℕ, suc, ◌+◌, ◌-◌, ◌<◌, ◌≤◌, List, [], ◌∷◌, ◌++◌, length, get_or, map, reverse, take, drop, Some, refl, sym, ap, ◌∙◌, subst, arith, length-drop}
use Rattle.std.specs.Prelude.{slice_get}
use Rattle.std.proofs.lemmas.List.{map-append, reverse-append, take_more, drop_more, get_or-drop}
use Rattle.std.proofs.lemmas.Option.{slice_get_within, get_or_from_slice_get}
use Rattle.cxl_enc.specs.Faults.{LeavesCount}
use Rattle.cxl_regs.specs.Registers.{Registers}
use Rattle.cxl_bus.proofs.Failed.{fails_both, fails_nowhere}
use Rattle.cxl_bus.specs.declared.sent.Sent.{Sent}
use Rattle.cxl_bus.specs.Failed.{HasFailed}
use Rattle.cxl_bus.specs.RegsState.{RegsState}
use Rattle.cxl_bus.specs.Trail.{trail_with}
use Rattle.cxl_bus.proofs.Trails.{trail_nothing, trail_more}
use Rattle.cxl_apply.specs.declared.write.Write.{Write}
use Rattle.cxl_apply.specs.declared.write.Stepped.{Stepped}
use Rattle.cxl_apply.specs.declared.write.Stepped.TheVariants.{Done, More, BusFault}
use Rattle.cxl_apply.specs.Jobs.{AreTakenBack, blocks_done}
use Rattle.cxl_apply.specs.Steps.{JobState, HasWordsOf, MakesWrite, TakesBack, IsAsBefore, MatchStepped}
use Rattle.cxl_apply.specs.WordsSent.{made, taken_back, writes_between, words_made, words_taken_back}

-- ---- words of slices of writes

-- one more at the end of a slice
between_next : (writes : List Write) (before n : ℕ) (write : Write) → before ≤ n → slice_get writes n ≡ Some write
    → writes_between writes before (n + 1) ≡ writes_between writes before n ++ write ∷ []
between_next writes before n write order is =
    let within : n < length writes = slice_get_within writes n write is in
    let room : n - before < length (drop before writes) = omega (arith, length-drop before writes) in
    let more : n + 1 - before ≡ n - before + 1 = omega arith in
    let place : before + (n - before) ≡ n = omega arith in
    let here : get_or (drop before writes) (n - before) write ≡ write =
    get_or-drop before writes (n - before) write ∙ ap (λ k. get_or writes k write) place ∙ get_or_from_slice_get writes n write write is in
    ap (λ k. take k (drop before writes)) more ∙ take_more (drop before writes) (n - before) write room
    ∙ ap (λ w. take (n - before) (drop before writes) ++ w ∷ []) here

-- one more in front of it
between_last : (writes : List Write) (n upto : ℕ) (write : Write) → n < upto → slice_get writes n ≡ Some write
    → writes_between writes n upto ≡ write ∷ writes_between writes (n + 1) upto
between_last writes n upto write order is =
    let within : n < length writes = slice_get_within writes n write is in
    let more : upto - n ≡ suc (upto - (n + 1)) = omega arith in
    ap (λ k. take k (drop n writes)) more
    ∙ ap (λ (rest : List Write). take (suc (upto - (n + 1))) rest) (drop_more writes n write within ∙ ap (λ w. w ∷ drop (n + 1) writes) (get_or_from_slice_get writes n write write is))

between_none : (writes : List Write) (n : ℕ) → writes_between writes n n ≡ []
between_none writes n = let none : n - n ≡ 0 = omega arith in ap (λ k. take k (drop n writes)) none

made_next : (writes : List Write) (before n : ℕ) (write : Write) → before ≤ n → slice_get writes n ≡ Some write → words_made writes before (n + 1) ≡ words_made writes before n ++ made write ∷ []
made_next writes before n write order is =
    ap (map made) (between_next writes before n write order is) ∙ map-append made (writes_between writes before n) (write ∷ [])

taken_back_next : (writes : List Write) (n upto : ℕ) (write : Write) → n < upto → slice_get writes n ≡ Some write → words_taken_back writes n upto ≡ words_taken_back writes (n + 1) upto ++ taken_back write ∷ []
taken_back_next writes n upto write order is =
    let rest = writes_between writes (n + 1) upto in
    ap (λ (ws : List Write). map taken_back (reverse ws)) (between_last writes n upto write order is)
    ∙ ap (map taken_back) (reverse-cons write rest) ∙ map-append taken_back (reverse rest) (write ∷ [])
  where
    reverse-cons : (x : Write) (xs : List Write) → reverse (x ∷ xs) ≡ reverse xs ++ x ∷ []
    reverse-cons x xs = reverse-append (x ∷ []) xs

-- ---- writes that are made

-- The next writes are made, so many at the most, each as one word.
pub record GoesForward (upto : ℕ) (was now : JobState) (blocks left : List Registers) (old new : RegsState) : Type 0 where
  pub writes : now.writes ≡ was.writes
  pub from : was.done ≤ now.done
  pub within : now.done ≤ upto
  pub words : HasWordsOf left now.writes
  pub same : new.blocks ≡ left
  pub on_way : (start : List Registers) → blocks ≡ blocks_done start was.writes was.done → left ≡ blocks_done start now.writes now.done
  pub sent : new.trail ≡ trail_with old.trail (words_made was.writes was.done now.done)
  pub counts : old.faults ≤ new.faults
  pub alone : new.counts_failures_alone ≡ old.counts_failures_alone
  pub unswallowed : LeavesCount old.counts_failures_alone old.faults new.faults
  pub unfailed : HasFailed old new []

pub forward_none : (upto : ℕ) (was : JobState) (blocks : List Registers) (old : RegsState) → was.done ≤ upto → HasWordsOf blocks was.writes → old.blocks ≡ blocks → GoesForward upto was was blocks blocks old old
forward_none upto was blocks old order words same = record {
  writes = refl;
  from = omega arith;
  within = order;
  words = words;
  same = same;
  on_way = λ start is. is;
  sent = trail_nothing old.trail ∙ ap (λ (ws : List Write). trail_with old.trail (map made ws)) (sym (between_none was.writes was.done));
  counts = omega arith;
  alone = refl;
  unswallowed = λ alone. refl;
  unfailed = fails_nowhere old;
}

-- one more
forward_more : (upto : ℕ) (was now next : JobState) (blocks left after : List Registers) (old mid new : RegsState) → GoesForward upto was now blocks left old mid → now.done < upto
    → MakesWrite now next left after mid new
    → ((start : List Registers) → left ≡ blocks_done start now.writes now.done → after ≡ blocks_done start next.writes next.done)
    → HasWordsOf after next.writes → new.blocks ≡ after → mid.faults ≤ new.faults → new.counts_failures_alone ≡ mid.counts_failures_alone
    → LeavesCount mid.counts_failures_alone mid.faults new.faults → HasFailed mid new [] → GoesForward upto was next blocks after old new
forward_more upto was now next blocks left after old mid new so_far order makes on_way words same counts alone unswallowed unfailed =
    let write = makes.write in
    let writes : next.writes ≡ now.writes = ap (λ (j : JobState). j.writes) makes.counted in
    let done : next.done ≡ now.done + 1 = ap (λ (j : JobState). j.done) makes.counted in
    let from = so_far.from in
    let counted = so_far.counts in
    let here : slice_get was.writes now.done ≡ Some write = ap (λ (ws : List Write). slice_get ws now.done) (sym so_far.writes) ∙ makes.next in
    record {
      writes = writes ∙ so_far.writes;
      from = omega arith;
      within = omega arith;
      words = words;
      same = same;
      on_way = λ start is. on_way start (so_far.on_way start is);
      sent =
          makes.sent.trail ∙ trail_more old.trail mid.trail (words_made was.writes was.done now.done) write.node write.off write.value so_far.sent
          ∙ ap (trail_with old.trail) (sym (made_next was.writes was.done now.done write from here) ∙ ap (words_made was.writes was.done) (sym done));
      counts = omega arith;
      alone = alone ∙ so_far.alone;
      unswallowed = λ is. unswallowed (so_far.alone ∙ is) ∙ so_far.unswallowed is;
      unfailed = fails_both old mid new (words_made was.writes was.done now.done) [] [] so_far.sent so_far.unfailed unfailed;
    }

pub forward_on : (result : Stepped) (upto : ℕ) (was now next : JobState) (blocks left after : List Registers) (old mid new : RegsState) → GoesForward upto was now blocks left old mid → now.done < upto
    → MatchStepped result (MakesWrite now next left after mid new) (IsAsBefore now next left after mid new) → result ≢ BusFault
    → ((start : List Registers) → left ≡ blocks_done start now.writes now.done → after ≡ blocks_done start next.writes next.done)
    → HasWordsOf after next.writes → new.blocks ≡ after → mid.faults ≤ new.faults → new.counts_failures_alone ≡ mid.counts_failures_alone
    → (result ≢ BusFault → LeavesCount mid.counts_failures_alone mid.faults new.faults) → (result ≢ BusFault → HasFailed mid new []) → GoesForward upto was next blocks after old new
forward_on Done upto was now next blocks left after old mid new so_far order makes other on_way words same counts alone unswallowed unfailed =
    forward_more upto was now next blocks left after old mid new so_far order makes on_way words same counts alone (unswallowed other) (unfailed other)
forward_on More upto was now next blocks left after old mid new so_far order makes other on_way words same counts alone unswallowed unfailed =
    forward_more upto was now next blocks left after old mid new so_far order makes on_way words same counts alone (unswallowed other) (unfailed other)
forward_on BusFault upto was now next blocks left after old mid new so_far order fails other on_way words same counts alone unswallowed unfailed = absurd (other refl)

-- the next one fails
pub forward_failed : (result : Stepped) (upto : ℕ) (was now next : JobState) (blocks left after : List Registers) (old mid new : RegsState) → GoesForward upto was now blocks left old mid
    → MatchStepped result (MakesWrite now next left after mid new) (IsAsBefore now next left after mid new) → result ≡ BusFault → (result ≡ BusFault → HasFailed mid new (0 ∷ []))
    → HasFailed old new (length (words_made was.writes was.done next.done) ∷ [])
forward_failed Done upto was now next blocks left after old mid new so_far makes is fails = absurd (cc)
forward_failed More upto was now next blocks left after old mid new so_far makes is fails = absurd (cc)
forward_failed BusFault upto was now next blocks left after old mid new so_far stays is fails =
    let words : List Sent = words_made was.writes was.done now.done in
    let place : length words + 0 ≡ length (words_made was.writes was.done next.done) =
    (let e : length words + 0 ≡ length words = omega arith in e) ∙ ap (λ (j : JobState). length (words_made was.writes was.done j.done)) (sym stays.job) in
    subst (λ (n : ℕ). HasFailed old new (n ∷ [])) place (fails_both old mid new words [] (0 ∷ []) so_far.sent so_far.unfailed (fails is))

-- ---- writes that are taken back

-- The last writes that were made are taken back, so many at the least are left, each as one word.
pub record GoesBack (downto : ℕ) (was now : JobState) (blocks left : List Registers) (old new : RegsState) : Type 0 where
  pub writes : now.writes ≡ was.writes
  pub from : now.done ≤ was.done
  pub within : downto ≤ now.done
  pub words : HasWordsOf left now.writes
  pub same : new.blocks ≡ left
  pub on_way : (start : List Registers) → AreTakenBack start was.writes → blocks ≡ blocks_done start was.writes was.done → left ≡ blocks_done start now.writes now.done
  pub sent : new.trail ≡ trail_with old.trail (words_taken_back was.writes now.done was.done)
  pub counts : old.faults ≤ new.faults
  pub alone : new.counts_failures_alone ≡ old.counts_failures_alone
  pub unswallowed : LeavesCount old.counts_failures_alone old.faults new.faults
  pub unfailed : HasFailed old new []

pub back_none : (downto : ℕ) (was : JobState) (blocks : List Registers) (old : RegsState) → downto ≤ was.done → HasWordsOf blocks was.writes → old.blocks ≡ blocks → GoesBack downto was was blocks blocks old old
back_none downto was blocks old order words same = record {
  writes = refl;
  from = omega arith;
  within = order;
  words = words;
  same = same;
  on_way = λ start back is. is;
  sent = trail_nothing old.trail ∙ ap (λ (ws : List Write). trail_with old.trail (map taken_back (reverse ws))) (sym (between_none was.writes was.done));
  counts = omega arith;
  alone = refl;
  unswallowed = λ alone. refl;
  unfailed = fails_nowhere old;
}

-- one more
back_more : (downto : ℕ) (was now next : JobState) (blocks left after : List Registers) (old mid new : RegsState) → GoesBack downto was now blocks left old mid → downto < now.done
    → TakesBack now next left after mid new
    → ((start : List Registers) → AreTakenBack start now.writes → left ≡ blocks_done start now.writes now.done → after ≡ blocks_done start next.writes next.done)
    → HasWordsOf after next.writes → new.blocks ≡ after → mid.faults ≤ new.faults → new.counts_failures_alone ≡ mid.counts_failures_alone
    → LeavesCount mid.counts_failures_alone mid.faults new.faults → HasFailed mid new [] → GoesBack downto was next blocks after old new
back_more downto was now next blocks left after old mid new so_far order takes on_way words same counts alone unswallowed unfailed =
    let write = takes.write in
    let writes : now.writes ≡ next.writes = ap (λ (j : JobState). j.writes) takes.counted in
    let done : now.done ≡ next.done + 1 = ap (λ (j : JobState). j.done) takes.counted in
    let from = so_far.from in
    let counted = so_far.counts in
    let here : slice_get was.writes next.done ≡ Some write = ap (λ (ws : List Write). slice_get ws next.done) (sym so_far.writes) ∙ takes.last in
    record {
      writes = sym writes ∙ so_far.writes;
      from = omega arith;
      within = omega arith;
      words = words;
      same = same;
      on_way = λ start back is. on_way start (subst (AreTakenBack start) (sym so_far.writes) back) (so_far.on_way start back is);
      sent =
          takes.sent.trail ∙ trail_more old.trail mid.trail (words_taken_back was.writes now.done was.done) write.node write.off write.back so_far.sent
          ∙ ap (trail_with old.trail)
          (ap (λ (k : ℕ). words_taken_back was.writes k was.done ++ taken_back write ∷ []) done ∙ sym (taken_back_next was.writes next.done was.done write (omega arith) here));
      counts = omega arith;
      alone = alone ∙ so_far.alone;
      unswallowed = λ is. unswallowed (so_far.alone ∙ is) ∙ so_far.unswallowed is;
      unfailed = fails_both old mid new (words_taken_back was.writes now.done was.done) [] [] so_far.sent so_far.unfailed unfailed;
    }

pub back_on : (result : Stepped) (downto : ℕ) (was now next : JobState) (blocks left after : List Registers) (old mid new : RegsState) → GoesBack downto was now blocks left old mid → downto < now.done
    → MatchStepped result (TakesBack now next left after mid new) (IsAsBefore now next left after mid new) → result ≢ BusFault
    → ((start : List Registers) → AreTakenBack start now.writes → left ≡ blocks_done start now.writes now.done → after ≡ blocks_done start next.writes next.done)
    → HasWordsOf after next.writes → new.blocks ≡ after → mid.faults ≤ new.faults → new.counts_failures_alone ≡ mid.counts_failures_alone
    → (result ≢ BusFault → LeavesCount mid.counts_failures_alone mid.faults new.faults) → (result ≢ BusFault → HasFailed mid new []) → GoesBack downto was next blocks after old new
back_on Done downto was now next blocks left after old mid new so_far order takes other on_way words same counts alone unswallowed unfailed =
    back_more downto was now next blocks left after old mid new so_far order takes on_way words same counts alone (unswallowed other) (unfailed other)
back_on More downto was now next blocks left after old mid new so_far order takes other on_way words same counts alone unswallowed unfailed =
    back_more downto was now next blocks left after old mid new so_far order takes on_way words same counts alone (unswallowed other) (unfailed other)
back_on BusFault downto was now next blocks left after old mid new so_far order fails other on_way words same counts alone unswallowed unfailed = absurd (other refl)

-- the next one fails
pub back_failed : (result : Stepped) (downto : ℕ) (was now next : JobState) (blocks left after : List Registers) (old mid new : RegsState) → GoesBack downto was now blocks left old mid
    → MatchStepped result (TakesBack now next left after mid new) (IsAsBefore now next left after mid new) → result ≡ BusFault → (result ≡ BusFault → HasFailed mid new (0 ∷ []))
    → HasFailed old new (length (words_taken_back was.writes next.done was.done) ∷ [])
back_failed Done downto was now next blocks left after old mid new so_far takes is fails = absurd (cc)
back_failed More downto was now next blocks left after old mid new so_far takes is fails = absurd (cc)
back_failed BusFault downto was now next blocks left after old mid new so_far stays is fails =
    let words : List Sent = words_taken_back was.writes now.done was.done in
    let place : length words + 0 ≡ length (words_taken_back was.writes next.done was.done) =
    (let e : length words + 0 ≡ length words = omega arith in e) ∙ ap (λ (j : JobState). length (words_taken_back was.writes j.done was.done)) (sym stays.job) in
    subst (λ (n : ℕ). HasFailed old new (n ∷ [])) place (fails_both old mid new words [] (0 ∷ []) so_far.sent so_far.unfailed (fails is))
