-- The machine value of a box that is taken apart: a word for the address, and one for the allocator.
use Rattle.std.proofs.Common.{◌≡◌, ℕ, List, [], ◌∷◌, ◌++◌, refl, subst}
use mathlib.Core.Bool.{true, ◌&&◌}
use lib.Dec.{T}
use seplogic.Ra.Ura.{Ura}
use mir.Syntax.{impl, tnil, dnil}
use mir.Raw.{raw as bare}
use mir.Val.{Val, vptr, vstruct, vcons, vnil, of_list, has_ty, WT}
use base.Logic.{never, fst∗}
use types.Logic.{Logic, sem}
use types.Kit.{Item, Goal, Seq, Step, step, ‵, ◌$◌, move, drop, fsplit, fjoin, fpick, fpack, feq_i, feq_l}
use denote.RattleType.{RattleType, Valss}
use denote.Builtin.{RawPtr}
use denote.Memory.{lone}
use denote.RawPtr.{Ptr, block_ptr, null_ptr, ptr_val, in_a_block}
use denote.Steps.{nothing}
use denote.Param.{layout}
use denote.Param.Laws.{Laws}
use denote.Struct.Struct.{within}
use denote.Struct.Owning.{shape}
use Rattle.core.specs.declared.alloc.Allocator.{Ghosts}
use Rattle.core.proofs.alloc.Calls.{Al, handle_tells}
use Rattle.core.proofs.cell.Inside.{Good}
use Rattle.std_alloc.specs.Box.Ownership.{box_owns}
use Rattle.std_alloc.proofs.ResultValues.{and_tt}
use Rattle.cxl_handle.specs.contracts.raw_box.RawBox as raw_box

-- a value of two words
abbrev pub two_words : Val → Val → Val
two_words first second = vstruct (vcons first (vcons second vnil))

-- the value whose words these are said to be, one by one
pub words_told : {vs ps qs : List Val} {first second : Val} → vs ≡ vstruct (of_list (ps ++ (qs ++ []))) ∷ [] → ps ≡ first ∷ [] → qs ≡ second ∷ []
    → vs ≡ two_words first second ∷ []
words_told {vs} {ps} {qs} {first} whole at alloc =
    subst (λ (ws : List Val). vs ≡ vstruct (of_list (first ∷ (ws ++ []))) ∷ []) alloc (subst (λ (ws : List Val). vs ≡ vstruct (of_list (ws ++ (qs ++ []))) ∷ []) at whole)

module _ (R Z : RattleType) (L : Laws Z) (g : Ghosts Z.Denot) where
  abbrev pub Raw : RattleType
  Raw = raw_box.the_row R Z g

  abbrev allocator : Al
  allocator = record { row = Z; laws = L; g = g; d = impl [] tnil dnil; drops = impl [] tnil dnil }

  -- an address in a block beside a word of the allocator's
  pub words_fit : (block offset : ℕ) (word : Val) → Good (layout Z) word → T (has_ty (layout Z) word && true) × WT (two_words (vptr block offset) word)
  words_fit block offset word fits = (and_tt (has_ty (layout Z) word) fits.0, (tt, (fits.1, tt)))

  module _ {M : Type 1} {𝓤 : Ura M} {𝓛 : Logic 𝓤} {K : Type 0} {Γ : List (Item 𝓤)} {G : Goal 𝓤 𝓛.H} where
    -- it is an address in a block with what a box there owns, and the allocator
    pub raw_opens : K → (d : Raw.Denot) (vs : List Val)
        → ((block offset : ℕ) (word : Val) → d.at ≡ block_ptr block offset → vs ≡ two_words (vptr block offset) word ∷ [] → Good (layout Z) word
        → Seq K 𝓛 (‵ (box_owns (g.dealloc_token d.alloc) R (block_ptr block offset) d.value) ∷ ‵ (Z.own_val d.alloc (word ∷ [])) ∷ Γ) G)
        → Seq K 𝓛 (‵ (Raw.own_val d vs) ∷ Γ) G
    raw_opens t d vs next =
        fsplit t $ fpick t (λ parts. fsplit t $ feq_l t (λ whole. fsplit t $ feq_l t (λ at. fsplit t $
        handle_tells allocator t d.alloc parts.1.0 (λ word alloc fits. move t (1 ∷ []) $ drop t $ move t (1 ∷ []) $
        in_a_block t d.at (λ at. box_owns (g.dealloc_token d.alloc) R at d.value) (fst∗ 𝓤 (never 𝓤) (sem 𝓛 (g.dealloc_token d.alloc (bare (lone R.mir)) null_ptr)))
        (λ block offset is. next block offset word is (subst (λ (at : Ptr). vs ≡ two_words (ptr_val at) word ∷ []) is (words_told whole at alloc)) fits)))))

    -- and these are one
    pub raw_closes : K → (block offset : ℕ) (word : Val) (alloc : Z.Denot) (value : R.Denot)
        → Step K 𝓛 (‵ (Raw.own_val (record { at = block_ptr block offset; alloc = alloc; value = value }) (two_words (vptr block offset) word ∷ [])) ∷ Γ) G
        (‵ (box_owns (g.dealloc_token alloc) R (block_ptr block offset) value) ∷ ‵ (Z.own_val alloc (word ∷ [])) ∷ Γ) G
    raw_closes t block offset word alloc value = step (λ rest. let address : Val = vptr block offset in let whole : Val = two_words address word in
        nothing t $ move t (2 ∷ 0 ∷ []) $ fjoin t $ feq_i t (List Val) (address ∷ []) (address ∷ []) refl $ fjoin t $ feq_i t (List Val) (whole ∷ []) (whole ∷ []) refl $ fjoin t $
        fpack t (Valss (RawPtr ∷ Z ∷ [])) (within (shape (raw_box.the_type R Z g)) (block_ptr block offset, (alloc, tt)) (whole ∷ [])) (address ∷ [], (word ∷ [], tt)) $ fjoin t $ rest)
