-- What a question and an access come to.
use Rattle.std.proofs.Common.{◌≡◌, ◌≢◌, ℕ, ◌^◌, ◌≤◌, ◌⊎◌, Bool, true, false, List, length, sym, ap, subst, ◌∙◌, inl, inr}
use Rattle.std.proofs.lemmas.Bool.{false≢true}
use Rattle.cxl_enc.specs.Counters.{next_count}
use Rattle.cxl_regs.specs.Registers.{Registers}
use Rattle.cxl_pipe.specs.Pipe.{Pipe, IsHeard, IsUnheard, HasAnswer, HasNoAnswer, AccessFailed, missed, unheard, unwanted, out_of_step}
use Rattle.cxl_pipe.specs.Peer.{all_words, AreTold, StopsAmong, powered_on, HasPoweredOn, same, other, many}

-- what is told and is none of these
unlike : (test wanted : Bool) → test ≡ wanted → test ≡ false → wanted ≢ true
unlike test wanted is lacks holds = false≢true (sym lacks ∙ is ∙ holds)

module _ (question sent : List ℕ) (is_wanted can_answer : List ℕ → Bool) (old new : Pipe) (is : sent ≡ question) where
  -- no line came
  pub none_came : IsUnheard sent old new → HasNoAnswer question is_wanted can_answer old new
  none_came why = unheard (subst (λ (q : List ℕ). IsUnheard q old new) is why)

  -- a line came that is wanted
  pub wanted : (test : Bool) → IsHeard sent old new → test ≡ is_wanted new.line → test ≡ true → HasAnswer question is_wanted old new
  wanted test heard told holds = record { heard = subst (λ (q : List ℕ). IsHeard q old new) is heard; wanted = sym told ∙ holds }

  -- one that is not, and that the question can have
  pub another : (test can : Bool) → IsHeard sent old new → test ≡ is_wanted new.line → test ≡ false → can ≡ can_answer new.line → can ≡ true → HasNoAnswer question is_wanted can_answer old new
  another test can heard told lacks can_told holds =
      unwanted (record { heard = subst (λ (q : List ℕ). IsHeard q old new) is heard; other = unlike test (is_wanted new.line) told lacks; answers = sym can_told ∙ holds })

  -- one that it cannot have
  pub astray : (test can : Bool) (mid : Pipe) → IsHeard sent old mid → test ≡ is_wanted mid.line → test ≡ false → can ≡ can_answer mid.line → can ≡ false → new ≡ record mid { strange = true } → HasNoAnswer question is_wanted can_answer old new
  astray test can mid heard told lacks can_told none after =
      out_of_step
      (record {
        mid = mid;
        heard = subst (λ (q : List ℕ). IsHeard q old mid) is heard;
        other = unlike test (is_wanted mid.line) told lacks;
        answers = unlike can (can_answer mid.line) can_told none;
        after = after;
      })

-- an access that counts one more fault
module _ (question : List ℕ) (is_wanted can_answer : List ℕ → Bool) (old mid new : Pipe) where
  pub failed_unanswered : HasNoAnswer question is_wanted can_answer old mid → mid.faults ≡ old.faults → new ≡ record mid { faults = next_count mid.faults } → AccessFailed question is_wanted can_answer old new
  failed_unanswered why kept after =
      missed mid why (after ∙ ap (λ (n : ℕ). record mid { faults = next_count n }) kept)

-- a power-on
module _ (start : List Registers) (old now mid new : Pipe) (began : now ≡ powered_on start old) where
  pub stranger : StopsAmong (all_words start) now mid ⊎ ((2 ^ 32 ≤ length start) × (mid ≡ now)) → new ≡ record mid { strange = true } → HasPoweredOn start old new
  stranger (inl stop) after = other mid (subst (λ (p : Pipe). StopsAmong (all_words start) p mid) began stop) after
  stranger (inr many_nodes) after = many many_nodes.0 (after ∙ ap (λ (p : Pipe). record p { strange = true }) (many_nodes.1 ∙ began))

  pub known : AreTold (all_words start) now new → HasPoweredOn start old new
  known told = same (subst (λ (p : Pipe). AreTold (all_words start) p new) began told)
