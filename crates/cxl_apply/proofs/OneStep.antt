-- One step of a job: what a word that was sent leaves.
use Rattle.std.proofs.Common.{◌≡◌, ℕ, ◌+◌, ◌<◌, ◌≤◌, true, false, List, [], ◌∷◌, length, get_or, Result, Ok, Err, Some, refl, sym, ap, subst, ◌∙◌}
use Rattle.std.specs.Prelude.{slice_get, OnOk, OnErr}
use Rattle.std.specs.Result.{is_err}
use Rattle.std.proofs.lemmas.Bool.{false≢true}
use Rattle.std.proofs.lemmas.List.Sums.{fold_more}
use Rattle.std.proofs.lemmas.Option.{slice_get_read}
use Rattle.cxl_enc.proofs.Options.{on_err_at}
use Rattle.cxl_enc.specs.Faults.{HasCause, LeavesCount, CountsExactly}
use Rattle.cxl_bus.proofs.Failed.{fails_none, fails_once}
use Rattle.cxl_bus.specs.Failed.{HasFailedAt, HasFailed}
use Rattle.cxl_bus.specs.RegsState.{RegsState}
use Rattle.cxl_regs.specs.Registers.{Registers}
use Rattle.cxl_regs.specs.Blocks.{IsPlace, HasPlacesOf, blocks_after}
use Rattle.cxl_apply.specs.declared.write.Stepped.{Stepped}
use Rattle.cxl_apply.specs.declared.write.Stepped.TheVariants.{Done, More}
use Rattle.cxl_apply.specs.declared.write.Write.{Write}
use Rattle.cxl_apply.specs.Jobs.{AreTakenBack, blocks_after_write, blocks_done}
use Rattle.cxl_apply.specs.Steps.{HasWordsOf, IsSent, MakesWrite, TakesBack}

-- what a call promised where it did not fail
pub at_ok : {T E : Type 0} (r : Result T E) (P : Type 0) → OnOk r P → is_err r ≡ false → P
at_ok (Ok x) P fact fine = fact
at_ok (Err e) P fact fine = absurd (false≢true (sym fine))

-- where a write failed, and where none did
module _ {T E : Type 0} (r : Result T E) (old new : RegsState) where
  pub write_failed : OnErr r (HasFailedAt old new (0 ∷ [])) → HasCause r old.faults new.faults → new.counts_failures_alone ≡ old.counts_failures_alone
      → OnErr r (CountsExactly 1 old.counts_failures_alone old.faults new.faults) → is_err r ≡ true → HasFailed old new (0 ∷ [])
  write_failed at cause alone counted failed = fails_once old new (on_err_at r _ failed at) (on_err_at r _ failed cause) alone (on_err_at r _ failed counted)

  pub write_sent : OnOk r (new.failed_at ≡ old.failed_at) → old.faults ≤ new.faults → new.counts_failures_alone ≡ old.counts_failures_alone
      → OnOk r (LeavesCount old.counts_failures_alone old.faults new.faults) → is_err r ≡ false → HasFailed old new []
  write_sent at counts alone left fine = fails_none old new (at_ok r _ at fine) counts alone (at_ok r _ left fine)

-- the last write is told as such, and each other one as one with more to come
module _ (stepped : Stepped) (Last : Type 0) where
  pub told_last : stepped ≡ Done → Last → (stepped ≡ Done → Last) × (Last → stepped ≡ Done)
  told_last is last = (λ _. last, λ _. is)

  pub told_more : stepped ≡ More → (Last → ⊥) → (stepped ≡ Done → Last) × (Last → stepped ≡ Done)
  told_more is never = (λ done. absurd (let e : More ≡ Done = sym is ∙ done in cc), λ last. absurd (never last))

-- a write of a list has the word that all of them have
pub has_word : (blocks : List Registers) (ws : List Write) (n : ℕ) (write : Write) → write ≡ get_or ws n write → n < length ws → HasWordsOf blocks ws → IsPlace blocks write.node write.off
has_word blocks ws n write is within words =
    subst (λ (w : Write). IsPlace blocks w.node w.off) (sym is) (words n write within)

-- the places of words stay
pub keeps_words : ((blocks : List Registers) (node off v : ℕ) → HasPlacesOf blocks (blocks_after blocks node off v)) → (blocks left : List Registers) (ws : List Write) (node off v : ℕ)
    → left ≡ blocks_after blocks node off v → HasWordsOf blocks ws → HasWordsOf left ws
keeps_words law blocks left ws node off v is words k d below =
    subst (λ (after : List Registers). IsPlace after (get_or ws k d).node (get_or ws k d).off) (sym is)
    (law blocks node off v (get_or ws k d).node (get_or ws k d).off (words k d below))

module _ (ws : List Write) (n : ℕ) (write : Write) (is : write ≡ get_or ws n write) (within : n < length ws) where
  there : slice_get ws n ≡ Some write
  there = slice_get_read ws (length ws) n write refl within is

  -- the blocks after one write more
  pub done_more : (start : List Registers) → blocks_done start ws (n + 1) ≡ blocks_after (blocks_done start ws n) write.node write.off write.value
  done_more start = fold_more blocks_after_write start ws n write within ∙ ap (blocks_after_write (blocks_done start ws n)) (sym is)

  pub makes : (blocks left : List Registers) (old new : RegsState) → IsSent write.node write.off write.value blocks left old new
      → MakesWrite (record { writes = ws; done = n }) (record { writes = ws; done = n + 1 }) blocks left old new
  makes blocks left old new sent = record { write = write; next = there; sent = sent; counted = refl }

  pub made_on_way : (start blocks left : List Registers) → left ≡ blocks_after blocks write.node write.off write.value → blocks ≡ blocks_done start ws n → left ≡ blocks_done start ws (n + 1)
  made_on_way start blocks left after before = after ∙ ap (λ (b : List Registers). blocks_after b write.node write.off write.value) before ∙ sym (done_more start)

  pub takes : (m : ℕ) (blocks left : List Registers) (old new : RegsState) → m ≡ n + 1 → IsSent write.node write.off write.back blocks left old new
      → TakesBack (record { writes = ws; done = m }) (record { writes = ws; done = n }) blocks left old new
  takes m blocks left old new next sent = record { write = write; last = there; sent = sent; counted = λ i. record { writes = ws; done = next i } }

  pub taken_on_way : (start blocks left : List Registers) (m : ℕ) → AreTakenBack start ws → m ≡ n + 1 → left ≡ blocks_after blocks write.node write.off write.back → blocks ≡ blocks_done start ws m
      → left ≡ blocks_done start ws n
  taken_on_way start blocks left m taken next after before =
      after ∙ ap (λ (b : List Registers). blocks_after b write.node write.off write.back) (before ∙ ap (blocks_done start ws) next) ∙ taken.each n write there
