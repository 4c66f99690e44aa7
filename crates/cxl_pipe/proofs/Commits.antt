-- Commits that are read back.
use Rattle.std.proofs.Common.{◌≡◌, ◌≢◌, ℕ, suc, ◌+◌, ◌<◌, ◌⊎◌, Bool, true, false, not, ◌&&◌, List, refl, sym, ap, subst, ◌∙◌, inl, inr, arith}
use Rattle.std.proofs.lemmas.Bool.{false≢true}
use Rattle.cxl_pipe.specs.Commits.{HasWaited, IsUnsettled, refused, pending}
use Rattle.cxl_pipe.specs.Pipe.{Pipe, HasOther, HasNoAnswer, unheard, unwanted, out_of_step}
use Rattle.cxl_pipe.specs.Protocol.{read_question, tells_word, tells_pending, answers_read, read_back_limit}

-- a peer that is in step behind it gave an answer that the question can have
pub only_other : (question : List ℕ) (is_wanted can_answer : List ℕ → Bool) (old new : Pipe) → HasNoAnswer question is_wanted can_answer old new → new.strange ≡ false → HasOther question is_wanted can_answer old new
only_other question is_wanted can_answer old new (unheard it) step = absurd (false≢true (sym step ∙ it.strange))
only_other question is_wanted can_answer old new (unwanted it) step = it
only_other question is_wanted can_answer old new (out_of_step it) step = absurd (false≢true (sym step ∙ ap (λ (p : Pipe). p.strange) it.after))

both : (strange told : Bool) → (not strange && told) ≡ true → (strange ≡ false) × (told ≡ true)
both true told is = absurd (false≢true is)
both false told is = (refl, is)

either : (strange told : Bool) → (not strange && told) ≡ false → (strange ≡ true) ⊎ (told ≢ true)
either true told is = inl refl
either false told is = inr (λ holds. false≢true (sym is ∙ holds))

module _ (node off word count : ℕ) (old mid new : Pipe) (waited : HasWaited node off word count old mid)
    (untold : HasNoAnswer (read_question node off) (tells_word word) answers_read mid new) where
  -- one read more was pending
  pub waits_more : (test : Bool) → test ≡ (not new.strange && tells_pending new.line) → test ≡ true → HasWaited node off word (count + 1) old new
  waits_more test is holds =
      let parts = both new.strange (tells_pending new.line) (sym is ∙ holds) in
      let next : suc count ≡ count + 1 = omega arith in
      subst (λ (n : ℕ). HasWaited node off word n old new) next
      (mid, waited, only_other (read_question node off) (tells_word word) answers_read mid new untold parts.0, parts.1)

  -- one was not
  pub unsettled : (test : Bool) → test ≡ (not new.strange && tells_pending new.line) → test ≡ false → count < read_back_limit → IsUnsettled node off word old new
  unsettled test is lacks few = refused count few mid waited untold (either new.strange (tells_pending new.line) (sym is ∙ lacks))

-- all were
pub all_pending : (node off word count : ℕ) (old new : Pipe) → HasWaited node off word count old new → count ≡ read_back_limit → IsUnsettled node off word old new
all_pending node off word count old new waited all = pending (subst (λ (n : ℕ). HasWaited node off word n old new) all waited)
