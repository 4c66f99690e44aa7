-- The machine value of a handle, and what its address owns.
use Rattle.std.proofs.Common.{◌≡◌, ℕ, List, [], ◌∷◌, refl}
use Rattle.std.specs.Prelude.{Option, Some, None}
use seplogic.Ra.Ura.{Ura}
use mir.Syntax.{impl, tnil, dnil}
use mir.Raw.{raw as bare}
use mir.Val.{Val}
use base.Logic.{SProp, ent, guard, guard_i, via, snd∗, never, fst∗}
use types.Logic.{Logic, sem}
use types.Kit.{Item, Goal, Seq, Step, step, ‵, ◌$◌, use1, given, learn, move, drop, fsplit, fjoin, fpick, fpack, feq_i, feq_l}
use contract.Monad.{fact_use}
use denote.RattleType.{RattleType, Valss}
use denote.Builtin.{RawPtr}
use denote.Memory.{lone}
use denote.RawPtr.{Ptr, block_ptr, null_ptr, ptr_val, in_a_block, Testable}
use denote.Steps.{nothing}
use denote.Param.{layout}
use denote.Struct.Struct.{within}
use denote.Struct.Owning.{shape}
use Rattle.core.proofs.alloc.Calls.{Al, handle_tells}
use Rattle.core.proofs.cell.Inside.{Good}
use Rattle.std.specs.Ptr.{points_to}
use Rattle.std.specs.declared.alloc.Global.{Global}
use Rattle.std.specs.contracts.alloc.Global as heap
use Rattle.std.specs.contracts.impls.GlobalAllocator.TheImpl.{ghosts}
use Rattle.std.proofs.alloc.Global.TheLaws as heap_laws
use Rattle.std_alloc.specs.Box.Ownership.{box_owns}
use Rattle.std_heap.proofs.GlobalToken.{dealloc_token-Testable}
use Rattle.cxl_held.specs.Sessions.{IsKept}
use Rattle.cxl_held.specs.contracts.held.Held as sessions
use Rattle.cxl_handle.specs.Owned.{owned_at}
use Rattle.cxl_handle.specs.contracts.handle.SessionHandle as handles
use Rattle.cxl_handle.proofs.RawBoxes.{two_words, words_told}

-- a session, and the program's allocator
abbrev pub R : RattleType
R = sessions.the_row

abbrev pub Z : RattleType
Z = heap.the_row

abbrev heap_allocator : Al
heap_allocator = record { row = Z; laws = heap_laws.the_row_laws; g = ghosts; d = impl [] tnil dnil; drops = impl [] tnil dnil }

-- an address whose memory the allocator takes back may be tested for null
module _ {M : Type 1} {𝓤 : Ura M} (𝓛 : Logic 𝓤) (alloc : Global) where
  abbrev token : Ptr → SProp 𝓤
  token at = sem 𝓛 (ghosts.dealloc_token alloc (bare (lone R.mir)) at)

  testable_box : (at : Ptr) (value : R.Denot) → let own : SProp 𝓤 = sem 𝓛 (box_owns (ghosts.dealloc_token alloc) R at value) in
      ent 𝓤 own (guard 𝓤 (Testable at) own)
  testable_box at value = let own : SProp 𝓤 = sem 𝓛 (box_owns (ghosts.dealloc_token alloc) R at value) in
      fact_use 𝓤 (Testable at) (via 𝓤 _ (snd∗ 𝓤 (sem 𝓛 (points_to R at value)) (token at)) (dealloc_token-Testable 𝓛 alloc (bare (lone R.mir)) at)) (guard_i 𝓤 (Testable at) own)

module _ {M : Type 1} {𝓤 : Ura M} {𝓛 : Logic 𝓤} {K : Type 0} {Γ : List (Item 𝓤)} {G : Goal 𝓤 𝓛.H} where
  -- a handle is an address with what it owns, and the allocator
  pub handle_opens : K → (d : (handles.the_row).Denot) (vs : List Val)
      → ((word : Val) → vs ≡ two_words (ptr_val d.at) word ∷ [] → Good (layout Z) word
      → Seq K 𝓛 (‵ (owned_at R IsKept d.alloc d.at d.held) ∷ ‵ (Z.own_val d.alloc (word ∷ [])) ∷ Γ) G)
      → Seq K 𝓛 (‵ ((handles.the_row).own_val d vs) ∷ Γ) G
  handle_opens t d vs next =
      fsplit t $ fpick t (λ parts. fsplit t $ feq_l t (λ whole. fsplit t $ feq_l t (λ at. fsplit t $
      handle_tells heap_allocator t d.alloc parts.1.0 (λ word alloc fits. move t (1 ∷ []) $ drop t $ move t (1 ∷ []) $ next word (words_told whole at alloc) fits))))

  -- and these are one
  pub handle_closes : K → (at : Ptr) (word : Val) (alloc : Global) (held : Option R.Denot)
      → Step K 𝓛 (‵ ((handles.the_row).own_val (record { at = at; alloc = alloc; held = held }) (two_words (ptr_val at) word ∷ [])) ∷ Γ) G
      (‵ (owned_at R IsKept alloc at held) ∷ ‵ (Z.own_val alloc (word ∷ [])) ∷ Γ) G
  handle_closes t at word alloc held = step (λ rest. let address : Val = ptr_val at in let whole : Val = two_words address word in
      nothing t $ move t (2 ∷ 0 ∷ []) $ fjoin t $ feq_i t (List Val) (address ∷ []) (address ∷ []) refl $ fjoin t $ feq_i t (List Val) (whole ∷ []) (whole ∷ []) refl $ fjoin t $
      fpack t (Valss (RawPtr ∷ Z ∷ [])) (within (shape handles.the_type) _ (whole ∷ [])) (address ∷ [], (word ∷ [], tt)) $ fjoin t $ rest)

  -- its address is null and it has no session; or it is that of a session's box, and may be tested
  pub null_or_box : K → (alloc : Global) (at : Ptr) (held : Option R.Denot)
      → (at ≡ null_ptr → held ≡ None → Seq K 𝓛 Γ G)
      → ((block offset : ℕ) (value : R.Denot) → at ≡ block_ptr block offset → held ≡ Some value → IsKept value → Testable (block_ptr block offset)
      → Seq K 𝓛 (‵ (box_owns (ghosts.dealloc_token alloc) R (block_ptr block offset) value) ∷ Γ) G)
      → Seq K 𝓛 (‵ (owned_at R IsKept alloc at held) ∷ Γ) G
  null_or_box t alloc at None is_null is_box = fpick t (λ is. drop t $ is_null is refl)
  null_or_box t alloc at (Some value) is_null is_box =
      fsplit t $ fpick t (λ kept. drop t $
      in_a_block t at (λ at. box_owns (ghosts.dealloc_token alloc) R at value) (fst∗ 𝓤 (never 𝓤) (token 𝓛 alloc null_ptr)) (λ block offset is. let box : Ptr = block_ptr block offset in
      use1 𝓛 (given (Testable box) (‵ (box_owns (ghosts.dealloc_token alloc) R box value))) (testable_box 𝓛 alloc box value) $ learn t (λ ok. is_box block offset value is refl kept ok)))
