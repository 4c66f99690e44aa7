use Rattle.std.proofs.Common.{◌≡◌, ℕ, zero, suc, ◌+◌, ◌<◌, List, [], ◌∷◌, ◌++◌, length, get_or, Option, Some, sym, ap, ◌∙◌, subst}
use Rattle.std.specs.Prelude.{slice_get}
use Rattle.std.proofs.lemmas.List.{length-append}
use Rattle.std.proofs.lemmas.Option.{none-some, same_Some, slice_get-get_or}
use Rattle.cxl_window.specs.Fields.{WindowFields}
use Rattle.cxl_model.specs.Hosts.{as_system}
use Rattle.cxl_model.specs.System.{System}
use Rattle.cxl_pick.specs.declared.want.Want.{Want}
use Rattle.cxl_reason.specs.declared.reason.SetReason.{SetReason}
use Rattle.cxl_reason.specs.inner.Ready.{HasAnswer}
use Rattle.cxl_reason.proofs.answering.answers_of.Goals as goal

-- the window at its place
window_at : (windows : List WindowFields) (i : ℕ) (w : WindowFields) → i < length windows → w ≡ get_or windows i w → slice_get windows i ≡ Some w
window_at windows i w within is = slice_get-get_or windows i w within ∙ ap (λ (x : WindowFields). Some x) (sym is)

-- what holds of each item and its place, and of one more
one_more : {A : Type 0} (P : ℕ → A → Type 0) (xs : List A) (x : A) → ((i : ℕ) (a : A) → slice_get xs i ≡ Some a → P i a) → P (length xs) x → (i : ℕ) (a : A) → slice_get (xs ++ x ∷ []) i ≡ Some a → P i a
one_more P [] x each last zero a at = subst (P 0) (same_Some x a at) last
one_more P [] x each last (suc zero) a none = absurd (none-some a none)
one_more P [] x each last (suc (suc i)) a none = absurd (none-some a none)
one_more P (y ∷ xs) x each last zero a at = each 0 a at
one_more P (y ∷ xs) x each last (suc i) a at = one_more (λ j. P (suc j)) xs x (λ j b there. each (suc j) b there) last i a at

pub loop-w-preserved : goal.loop-w-preserved
loop-w-preserved c =
    let s : System = as_system c.args.host.now in
    let want : Want = c.args.want.now in
    let w : WindowFields = c.w-item.result in
    let told : List (Option SetReason) = c.loop-w.answers.items in
    let more : c.push.new.self.items ≡ told ++ c.answer_of.result ∷ [] = c.in_ok-push.ensures.items in
    let at = window_at s.windows c.loop-w.w-index w c.loop-w-test.true c.w-item.is in (
      ap (λ (answers : List (Option SetReason)). length answers) more ∙ length-append told (c.answer_of.result ∷ []) ∙ ap (λ (n : ℕ). n + 1) c.loop-w.invariant.0,
      λ i v answer there is.
          one_more (λ (j : ℕ) (a : Option SetReason). (u : WindowFields) → slice_get s.windows j ≡ Some u → HasAnswer s want u a) told c.answer_of.result (λ j a own u place. c.loop-w.invariant.1 j u a place own)
          (λ u place.
          let same : w ≡ u = same_Some w u (sym at ∙ ap (slice_get s.windows) (sym c.loop-w.invariant.0) ∙ place) in
          subst (λ (x : WindowFields). HasAnswer s want x c.answer_of.result) same c.answer_of.ensures)
          i answer (sym (ap (λ (answers : List (Option SetReason)). slice_get answers i) more) ∙ is) v there,
    )
