-- `of` keeps the address of a box.
use Rattle.std.proofs.Common.{◌≡◌, List, [], ◌∷◌, ◌++◌, refl, sym, subst}
use Rattle.std.specs.Prelude.{Some}
use mir.Val.{Val, vptr}
use base.Logic.{SProp, ent, emp, id⊢}
use base.Fml.{ftrue}
use prog.Wp.{WpFn}
use types.Kit.{‵, raw, ◌⊛◌, ◌$◌, ◌∵◌, !, qed, by, move, keep, split, fsplit, fjoin, fpack, suffices, use0}
use types.Run.{stop, fld, of_opd, no_more, and_then, returns, enter}
use types.ByLocal.{alloc_all, pass_all, free_all, look_at, get, get_in, sets}
use types.Part.{agg, sub, whole}
use contract.Monad.{fact, fact_i}
use contract.Running.{tables}
use denote.Exit.{yes}
use denote.RattleType.{owns}
use denote.Signature.{types_at, plain}
use denote.RawPtr.{block_ptr}
use denote.Steps.{nothing, heard}
use denote.Triple.Walked.{Stays, stay_dropped, walk_of, Goes-dropped}
use Rattle.std.specs.contracts.impls.GlobalAllocator.TheImpl.{ghosts}
use Rattle.std.proofs.alloc.Global.TheLaws as heap_laws
use Rattle.std.proofs.raw_atomic.Walks.{proved_at, leaves}
use Rattle.cxl_held.specs.Sessions.{IsKept}
use Rattle.cxl_handle.specs.contracts.handle.SessionHandle.of.{ended, clauses}
use Rattle.cxl_handle.specs.contracts.handle.SessionHandle.of.Key.{name as #self}
use Rattle.cxl_handle.proofs.RawBoxes.{two_words, Raw, words_fit, raw_opens}
use Rattle.cxl_handle.proofs.Handles.{R, Z, handle_closes}
use Rattle.cxl_handle.proofs.handle.SessionHandle.of.Statement.{statement}
use Rattle.cxl_handle.proofs.handle.SessionHandle.of.Code as code

pub of_spec : {M : Type 1} → statement M
of_spec 𝓤 𝓛 𝓜 𝓡 wired =
    let H = 𝓛.H in let 𝓣 = tables 𝓤 H 𝓜 𝓡 𝓡.env in let LZ = heap_laws.the_row_laws in let En = ended in let c = clauses 𝓛 𝓜.mem 𝓡.returns in let fn = code.function in
    let stays : Stays En.signature.params En.kept = (stay_dropped (plain (λ _. Raw R Z LZ ghosts)) yes, tt) in
    proved_at 𝓛 En stays c 𝓜 𝓡 (Goes-dropped 𝓛 0 (plain (λ _. Raw R Z LZ ghosts)) yes (λ κs x f. refl), tt) #self fn (code.unfolded 𝓤 H 𝓜 𝓡 wired) (λ z are.
    let κs = z.0.0 in let box = z.0.3.0 in let Post : Val → SProp 𝓤 = (walk_of 𝓛 En stays c).post z in let Run : List Val → SProp 𝓤 = λ ws. WpFn 𝓤 H 𝓣.C 𝓣.Λ fn ws Post in
    -- the box is opened: its address is in a block
    qed 𝓛 ((‵ ftrue ⊛ ‵ (owns (types_at En.signature.params κs) z.0.3 z.0.4)) ∷ raw (fact 𝓤 (IsKept box.value)) ∷ []) ∵ move ! (1 ∷ []) $ heard ! (IsKept box.value) (λ kept. split ! $ move ! (1 ∷ []) $ fsplit ! $
    raw_opens R Z LZ ghosts ! box z.0.4.0 (λ block offset word is given fits. let made : Val = two_words (vptr block offset) word in let typed = words_fit R Z LZ ghosts block offset word fits in
    suffices ! (Run (made ∷ [])) (subst (λ (us : List Val). ent 𝓤 (Run (made ∷ [])) (Run us)) (sym (λ i. given i ++ [])) (id⊢ 𝓤 (Run (made ∷ [])))) $
    -- the body: both words are taken out, and made one value again
    enter ! 𝓣.C 𝓣.Λ fn (made ∷ []) Post $ alloc_all ! (λ l. pass_all ! refl (typed, tt) $
    sets ! (of_opd ! (get_in ! (fld ! refl (stop !)) (sub ! 0 refl (whole !)))) refl (tt, tt) $ sets ! (of_opd ! (get_in ! (fld ! refl (stop !)) (sub ! 1 refl (whole !)))) refl fits $
    sets ! (of_opd ! (get ! refl)) refl (tt, tt) $ sets ! (agg ! (and_then ! (get ! refl) (and_then ! (get ! refl) (no_more !)))) refl typed $
    -- which owns the box, with the fact
    nothing ! $ fpack ! (IsKept box.value) (λ _. ftrue) kept $ fjoin ! $ handle_closes ! (block_ptr block offset) word box.alloc (Some box.value) $
    use0 𝓛 (raw (fact 𝓤 (Some box.value ≡ Some box.value))) (fact_i 𝓤 (Some box.value ≡ Some box.value) (emp 𝓤) refl) $
    nothing ! $ nothing ! $ fjoin ! $ nothing ! $
    returns ! (look_at ! 0 refl) $ free_all ! refl $ keep ! (0 ∷ 1 ∷ 3 ∷ 2 ∷ []) $
    by ! (leaves 𝓛 En stays c z made (record { at = block_ptr block offset; alloc = box.alloc; held = Some box.value }) (tt, tt) (tt, tt))))))
