-- How a run's last questions end.
use Rattle.std.proofs.Common.{◌≡◌, ℕ, Bool, true, false, None, Some, [], ◌∷◌, refl, sym, subst, ◌∙◌}
use Rattle.std.specs.Bool.{OnTrue, OnFalse}
use Rattle.std.specs.Prelude.{Option}
use Rattle.cxl_pipe.specs.Peer.{PeerWord, IsTold, IsUntold, AreTold, StopsAmong, first_cap, last_words, EndsInStep, EndsStrange, untold}
use Rattle.cxl_pipe.specs.Pipe.{Pipe}

abbrev cap_word : ℕ → PeerWord
cap_word cap = record { node = 0; off = 0; value = cap }

abbrev reserved_word : PeerWord
reserved_word = record { node = 0; off = 8; value = 0 }

pub none_left : (found : Option ℕ) (old : Pipe) → found ≡ first_cap old.blocks → (let none : Option ℕ = None in found ≡ none) → old.strange ≡ false → EndsInStep old old
none_left found old is none step = record {
  step = step;
  told = subst (λ (cap : Option ℕ). AreTold (last_words cap) old old) (sym none ∙ is) refl;
}

module _ (cap : ℕ) (old mid new : Pipe) (is : Some cap ≡ first_cap old.blocks) where
  both_told : IsTold (cap_word cap) old mid → IsTold reserved_word mid new → AreTold (last_words (first_cap old.blocks)) old new
  both_told first second = subst (λ (it : Option ℕ). AreTold (last_words it) old new) is (mid, first, (new, second, refl))

  second_untold : IsTold (cap_word cap) old mid → IsUntold reserved_word mid new → StopsAmong (last_words (first_cap old.blocks)) old new
  second_untold first stops =
      subst (λ (it : Option ℕ). StopsAmong (last_words it) old new) is
      (record { told = cap_word cap ∷ []; word = reserved_word; rest = []; split = refl; mid = mid; before = (mid, first, refl); stops = stops })

  pub ends_told : (test : Bool) → old.strange ≡ false → IsTold (cap_word cap) old mid → OnTrue test (IsTold reserved_word mid new) → OnTrue test (EndsInStep old new)
  ends_told true step first second = record { step = step; told = both_told first second }
  ends_told false step first second = tt

  pub ends_untold : (test : Bool) → IsTold (cap_word cap) old mid → OnFalse test (IsUntold reserved_word mid new) → OnFalse test (EndsStrange old new)
  ends_untold true first stops = tt
  ends_untold false first stops = untold (second_untold first stops)

pub first_untold : (cap : ℕ) (old new : Pipe) (test : Bool) → Some cap ≡ first_cap old.blocks → OnFalse test (IsUntold (cap_word cap) old new) → OnFalse test (EndsStrange old new)
first_untold cap old new true is stops = tt
first_untold cap old new false is stops =
    untold (subst (λ (it : Option ℕ). StopsAmong (last_words it) old new) is
    (record { told = []; word = cap_word cap; rest = reserved_word ∷ []; split = refl; mid = old; before = refl; stops = stops }))
