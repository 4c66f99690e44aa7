-- `into_raw` tells null from a box.
use Rattle.std.proofs.Common.{◌≡◌, List, [], ◌∷◌, ◌++◌, refl, sym, subst, lit<}
use Rattle.std.specs.Prelude.{Some, None}
use mir.Val.{Val, vptr, vcons, vnil, has_ty}
use base.Logic.{SProp, ent, emp, id⊢}
use base.Fml.{ftrue}
use prog.Wp.{WpFn}
use types.Kit.{‵, raw, ◌⊛◌, ◌$◌, ◌∵◌, !, qed, by, move, keep, split, fsplit, fjoin, suffices, use0, use1, at_ret}
use types.Match.{live}
use types.Run.{stop, fld, lit, bin, of_opd, no_more, and_then, first, branches, exec, returns, enter}
use types.ByLocal.{alloc_all, pass_all, free_all, look_at, get, get_in, sets, sets_last, env}
use types.Part.{agg, sub, whole}
use contract.Monad.{fact, fact_i}
use contract.Running.{tables}
use denote.Exit.{yes}
use denote.RattleType.{RattleType, owns}
use denote.Signature.{types_at, type_at, plain}
use denote.RawPtr.{Ptr, block_ptr, null_ptr, ptr_val, tests_null}
use denote.Steps.{nothing}
use denote.Param.{layout}
use denote.Triple.Walked.{Stays, stay_dropped, walk_of, Goes-dropped}
use Rattle.core.proofs.alloc.Shapes.{after}
use Rattle.core.proofs.cell.Inside.{Good}
use Rattle.core.proofs.option.Made.{Some-of, none_of}
use Rattle.std.specs.contracts.impls.GlobalAllocator.TheImpl.{ghosts}
use Rattle.std.proofs.alloc.Global.TheLaws as heap_laws
use Rattle.std.proofs.raw_atomic.Walks.{proved_at, leaves}
use Rattle.std_alloc.proofs.ResultValues.{and_tt}
use Rattle.cxl_held.specs.Sessions.{IsKept}
use Rattle.cxl_handle.specs.contracts.handle.SessionHandle as handles
use Rattle.cxl_handle.specs.contracts.handle.SessionHandle.into_raw.{ended, clauses}
use Rattle.cxl_handle.specs.contracts.handle.SessionHandle.into_raw.Key.{name as #self}
use Rattle.cxl_handle.proofs.RawBoxes.{two_words, Raw, words_fit, raw_closes}
use Rattle.cxl_handle.proofs.Handles.{R, Z, handle_opens, null_or_box}
use Rattle.cxl_handle.proofs.handle.SessionHandle.into_raw.Statement.{statement}
use Rattle.cxl_handle.proofs.handle.SessionHandle.into_raw.Code as code

pub into_raw_spec : {M : Type 1} → statement M
into_raw_spec 𝓤 𝓛 𝓜 𝓡 wired =
    let H = 𝓛.H in let 𝓣 = tables 𝓤 H 𝓜 𝓡 𝓡.env in let LZ = heap_laws.the_row_laws in let En = ended in let c = clauses 𝓛 𝓜.mem 𝓡.returns in let fn = code.function in
    let Box : RattleType = Raw R Z LZ ghosts in let stays : Stays En.signature.params En.kept = (stay_dropped (plain (λ _. handles.the_row)) yes, tt) in
    proved_at 𝓛 En stays c 𝓜 𝓡 (Goes-dropped 𝓛 0 (plain (λ _. handles.the_row)) yes (λ κs x f. refl), tt) #self fn (code.unfolded 𝓤 H 𝓜 𝓡 wired) (λ z are.
    let κs = z.0.0 in let handle = z.0.3.0 in let Post : Val → SProp 𝓤 = (walk_of 𝓛 En stays c).post z in let Run : List Val → SProp 𝓤 = λ ws. WpFn 𝓤 H 𝓣.C 𝓣.Λ fn ws Post in
    let Out : RattleType = type_at En.signature.result κs in
    -- the handle is opened, and what its address owns says which it is
    qed 𝓛 ((‵ ftrue ⊛ ‵ (owns (types_at En.signature.params κs) z.0.3 z.0.4)) ∷ raw ((c κs z.0.3).requires z.1) ∷ []) ∵ split ! $ move ! (1 ∷ []) $ fsplit ! $
    handle_opens ! handle z.0.4.0 (λ word given fits. null_or_box ! handle.alloc handle.at handle.held
    -- null: the test answers so, and `None` is left
    (λ is none. let input : Val = two_words (ptr_val null_ptr) word in
    suffices ! (Run (input ∷ [])) (subst (λ (us : List Val). ent 𝓤 (Run (input ∷ [])) (Run us))
    (sym (λ i. subst (λ (at : Ptr). z.0.4.0 ≡ two_words (ptr_val at) word ∷ []) is given i ++ [])) (id⊢ 𝓤 (Run (input ∷ [])))) $
    enter ! 𝓣.C 𝓣.Λ fn (input ∷ []) Post $ alloc_all ! (λ l. pass_all ! refl ((and_tt (has_ty (layout Z) word) fits.0, (record { fits = lit< tt }, (fits.1, tt))), tt) $ let locals = env fn.locals l in
    sets ! (of_opd ! (get_in ! (fld ! refl (stop !)) (sub ! 0 refl (whole !)))) refl (tt, (record { fits = lit< tt })) $ sets ! (of_opd ! (get_in ! (fld ! refl (stop !)) (sub ! 1 refl (whole !)))) refl fits $
    sets ! (of_opd ! (get ! refl)) refl (tt, (record { fits = lit< tt })) $ sets ! (bin ! (get ! refl) (lit ! tt) tt) refl (tt, tt) $ first ! $ branches ! (get ! refl)
    (λ _. sets_last ! (agg ! (and_then ! (lit ! tt) (no_more !))) refl (tt, (record { fits = lit< tt }, tt)) $
    exec ! 𝓣.C 𝓣.Λ locals (after 5 fn.body) (at_ret locals Post) $ sets ! (of_opd ! (get ! refl)) refl (tt, (record { fits = lit< tt }, tt)) $
    use0 𝓛 (‵ (Out.own_val None (live 0 vnil ∷ []))) (none_of 𝓛 Box) $ use0 𝓛 (raw (fact 𝓤 (handle.held ≡ None))) (fact_i 𝓤 (handle.held ≡ None) (emp 𝓤) none) $
    nothing ! $ nothing ! $ fjoin ! $ nothing ! $
    returns ! (look_at ! 0 refl) $ free_all ! refl $ keep ! (0 ∷ 1 ∷ 3 ∷ 2 ∷ []) $ by ! (leaves 𝓛 En stays c z (live 0 vnil) None (tt, tt) (tt, tt)))
    (λ wrong. absurd wrong)))
    -- a box: the test answers that it is not null, and the box is left in `Some`, with the fact
    (λ block offset value is some kept tested. let input : Val = two_words (vptr block offset) word in let typed = words_fit R Z LZ ghosts block offset word fits in
    let output : Val = live 1 (vcons input vnil) in let box : Box.Denot = record { at = block_ptr block offset; alloc = handle.alloc; value = value } in
    let good : Good (layout Out) output = (and_tt _ typed.0, (record { fits = lit< tt }, (typed.1, tt))) in
    suffices ! (Run (input ∷ [])) (subst (λ (us : List Val). ent 𝓤 (Run (input ∷ [])) (Run us))
    (sym (λ i. subst (λ (at : Ptr). z.0.4.0 ≡ two_words (ptr_val at) word ∷ []) is given i ++ [])) (id⊢ 𝓤 (Run (input ∷ [])))) $
    enter ! 𝓣.C 𝓣.Λ fn (input ∷ []) Post $ alloc_all ! (λ l. pass_all ! refl (typed, tt) $ let locals = env fn.locals l in
    sets ! (of_opd ! (get_in ! (fld ! refl (stop !)) (sub ! 0 refl (whole !)))) refl (tt, tt) $ sets ! (of_opd ! (get_in ! (fld ! refl (stop !)) (sub ! 1 refl (whole !)))) refl fits $
    sets ! (of_opd ! (get ! refl)) refl (tt, tt) $ sets ! (bin ! (get ! refl) (lit ! tt) (tests_null (block_ptr block offset) tested)) refl (tt, tt) $ first ! $ branches ! (get ! refl) (λ wrong. absurd wrong) (λ _.
    sets ! (agg ! (and_then ! (get ! refl) (and_then ! (get ! refl) (no_more !)))) refl typed $ sets_last ! (agg ! (and_then ! (lit ! tt) (and_then ! (get ! refl) (no_more !)))) refl good $
    exec ! 𝓣.C 𝓣.Λ locals (after 5 fn.body) (at_ret locals Post) $ sets ! (of_opd ! (get ! refl)) refl good $ raw_closes R Z LZ ghosts ! block offset word handle.alloc value $
    use1 𝓛 (‵ (Out.own_val (Some box) (output ∷ []))) (Some-of 𝓛 Box box input) $
    use0 𝓛 (raw (fact 𝓤 ((handle.held ≡ Some value) × IsKept value))) (fact_i 𝓤 ((handle.held ≡ Some value) × IsKept value) (emp 𝓤) (some, kept)) $
    nothing ! $ nothing ! $ fjoin ! $ nothing ! $
    returns ! (look_at ! 0 refl) $ free_all ! refl $ keep ! (0 ∷ 1 ∷ 3 ∷ 2 ∷ []) $ by ! (leaves 𝓛 En stays c z output (Some box) (tt, tt) (tt, tt)))))))
