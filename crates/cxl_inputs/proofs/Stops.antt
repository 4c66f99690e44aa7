-- Commands that stop early.
use Rattle.std.proofs.Common.{◌≡◌, List, ℕ, [], ◌∷◌, Result, Err, IfErr, refl, sym, ◌∙◌, subst}
use Rattle.cxl_io.specs.Fetch.{FetchState, AsksFor}
use Rattle.cxl_io.specs.Sink.{SinkState}
use Rattle.cxl_io.proofs.Writes.{told_with-nil}
use Rattle.cxl_inputs.specs.Ends.{WritesNothing}
use Rattle.cxl_inputs.specs.File.{AsksForSome, HasNotFailed, RunsOutBehind}
use Rattle.cxl_inputs.specs.Outcome.{Outcome}
use Rattle.cxl_inputs.specs.Stop.{IsStop}
use Rattle.cxl_inputs.specs.declared.stop.Stop.{Stop}
use Rattle.cxl_inputs.specs.declared.stop.Stop.TheVariants as stop

-- a stop of another kind
pub stop-weaker : (P Q : Outcome → Type 0) (M N : Type 0) (reason : Stop) → ((o : Outcome) → P o → Q o) → (M → N) → IsStop P M reason → IsStop Q N reason
stop-weaker P Q M N (stop.Outcome o) follows out is = follows o is
stop-weaker P Q M N stop.Memory follows out is = out is

-- want of memory
pub stop-memory : (P : Outcome → Type 0) (M : Type 0) (reason : Stop) → reason ≡ stop.Memory → M → IsStop P M reason
stop-memory P M (stop.Outcome o) e out = absurd (cc)
stop-memory P M stop.Memory e out = out

-- a call that stops as a step before it did
pub stopped-behind : {A : Type 0} (P Q : Outcome → Type 0) (M N : Type 0) (answer : Result A Stop) (reason : Stop) → answer ≡ Err reason → ((o : Outcome) → P o → Q o) → (M → N) → IsStop P M reason → IfErr answer (IsStop Q N)
stopped-behind P Q M N answer reason e follows out is =
    subst (λ r. IfErr r (IsStop Q N)) (sym e) (stop-weaker P Q M N reason follows out is)

-- all of one file's names are asked for
pub asks_one : (file : List ℕ) (old new : FetchState) → AsksFor old new (file ∷ []) → AsksForSome (file ∷ []) old new
asks_one file old new asks = record { count = 1; asks = asks }

-- memory ran out behind one file, or before it was asked for
pub out_behind_one : (file : List ℕ) (old new : FetchState) → AsksFor old new (file ∷ []) → HasNotFailed old new → RunsOutBehind (file ∷ []) old new
out_behind_one file old new asks unfailed = record { asked = asks_one file old new asks; unfailed = unfailed }

-- no call failed where none was made
pub unfailed_unasked : (files : FetchState) → HasNotFailed files files
unfailed_unasked files = record { alone = refl; count = λ _. refl }

pub out_before_one : (file : List ℕ) (files : FetchState) → RunsOutBehind (file ∷ []) files files
out_before_one file files = record {
  asked = record { count = 0; asks = sym (told_with-nil files.asked) };
  unfailed = unfailed_unasked files;
}

-- nor in two steps, where none did in each
pub unfailed_twice : (old mid new : FetchState) → HasNotFailed old mid → HasNotFailed mid new → HasNotFailed old new
unfailed_twice old mid new first then = record {
  alone = then.alone ∙ first.alone;
  count = λ only. then.count (first.alone ∙ only) ∙ first.count only;
}

-- nothing is written where nothing happens to the sink
pub writes_nothing : (sink : SinkState) → WritesNothing sink sink
writes_nothing sink = record { taken = sym (told_with-nil sink.taken); unswallowed = λ _. refl }
