-- Chains of frames: what stands once a frame is put before the others of a chain, and once one is taken off.
use Rattle.std.proofs.Common.{◌≡◌, ◌≢◌, ◌⊎◌, ℕ, zero, suc, ◌<◌, cond, eqb, refl, sym, ap, ◌∙◌, inl, inr, arith, eq-eqb, subst}
use Rattle.std.proofs.lemmas.Bool.{cases_eq, cond-true, cond-false, ne_eqb}
use Rattle.cxl_media.specs.Zones.{steps, IsAhead, AreLinked}

one_less : (a b : ℕ) → suc a ≡ suc b → a ≡ b
one_less a b e = omega arith

not_zero : (a : ℕ) → 0 ≡ suc a → ⊥
not_zero a e = omega arith

-- one step more
steps_more : (next : ℕ → ℕ) (k at n : ℕ) → steps next k at ≡ suc n → steps next (suc k) at ≡ next n
steps_more next zero zero n is = absurd (not_zero n is)
steps_more next zero (suc m) n is = ap next (one_less m n is)
steps_more next (suc k) zero n is = absurd (not_zero n is)
steps_more next (suc k) (suc m) n is = steps_more next k (next m) n is

-- what is ahead of a frame, and is another, is ahead of the next place
pub ahead_next : (next : ℕ → ℕ) (m n : ℕ) → IsAhead next (suc m) n → n ≢ m → IsAhead next (next m) n
ahead_next next m n (zero, is) other = absurd (other (sym (one_less m n is)))
ahead_next next m n (suc k, is) other = (k, is)

-- nothing is ahead of the end
pub none_ahead : (next : ℕ → ℕ) (n : ℕ) → IsAhead next 0 n → ⊥
none_ahead next n (zero, is) = not_zero n is
none_ahead next n (suc k, is) = not_zero n is

module _ (kept : ℕ → Type 0) (home next before firsts : ℕ → ℕ) (links : AreLinked kept home next before firsts) where
  -- each frame is met from the first of its chain on
  reached : (d n : ℕ) → links.depth n < d → kept n → IsAhead next (firsts (home n)) n
  reached zero n below is = absurd (omega arith)
  reached (suc d) n below is = by_before (before n) refl (λ g deep has. reached d g deep has)
    where
      by_before : (b : ℕ) → before n ≡ b → ((g : ℕ) → links.depth g < d → kept g → IsAhead next (firsts (home g)) g) → IsAhead next (firsts (home n)) n
      by_before zero none rec = (0, links.first n is none)
      by_before (suc g) was rec =
          let l = links.after n g is was in
          let deeper : links.depth g < links.depth n = l.3 in
          let found = rec g (omega (arith, deeper, below)) l.0 in
          (suc found.0, steps_more next found.0 (firsts (home n)) g (ap (λ h. steps next found.0 (firsts h)) (sym l.1) ∙ found.1) ∙ l.2)

  pub all_ahead : (n h : ℕ) → kept n → home n ≡ h → IsAhead next (firsts h) n
  all_ahead n h is there = subst (λ (k : ℕ). IsAhead next (firsts k) n) there (reached (suc (links.depth n)) n (omega arith) is)

  -- a frame is put before the others
  module _ (kept' : ℕ → Type 0) (home' next' before' firsts' : ℕ → ℕ) (f h : ℕ) (fresh : kept f → ⊥) (new : (n : ℕ) → kept' n → (n ≡ f) ⊎ ((n ≢ f) × kept n)) (here : kept' f) (stays : (n : ℕ) → kept n → kept' n) (home_here : home' f ≡ h) (home_kept : (n : ℕ) → n ≢ f → home' n ≡ home n) (before_here : before' f ≡ 0) (next_here : next' f ≡ firsts h) (first_here : firsts' h ≡ suc f) (first_other : (k : ℕ) → k ≢ h → firsts' k ≡ firsts k) (next_other : (n : ℕ) → n ≢ f → next' n ≡ next n) (pushed : (g : ℕ) → firsts h ≡ suc g → before' g ≡ suc f) (rest : (n : ℕ) → n ≢ f → firsts h ≢ suc n → before' n ≡ before n) where
    apart : (n : ℕ) → kept n → n ≢ f
    apart n is same = fresh (subst kept same is)

    deep : ℕ → ℕ
    deep n = cond (eqb n f) 0 (suc (links.depth n))

    deep_here : deep f ≡ 0
    unfolding deep
    deep_here = cond-true (eqb f f) 0 (suc (links.depth f)) (eq-eqb f f refl)

    deep_other : (n : ℕ) → n ≢ f → deep n ≡ suc (links.depth n)
    unfolding deep
    deep_other n other = cond-false (eqb n f) 0 (suc (links.depth n)) (ne_eqb n f other)

    pub added_links : AreLinked kept' home' next' before' firsts'
    added_links = record {
      depth = deep;
      first = λ n is none. elim (new n is) [
        | inl same ↦ ap (λ k. firsts' (home' k)) same ∙ ap firsts' home_here ∙ first_here ∙ ap suc (sym same)
        | inr old ↦ elim (cases_eq (firsts h) (suc n)) [
          | inl head ↦ absurd (not_zero f (sym none ∙ pushed n head))
          | inr other ↦
              let was = links.first n old.1 (sym (rest n old.0 other) ∙ none) in
              let away : home n ≢ h = λ e. other (ap firsts (sym e) ∙ was) in
              ap firsts' (home_kept n old.0) ∙ first_other (home n) away ∙ was
        ]
      ];
      after = λ n g is b. elim (new n is) [
        | inl same ↦ absurd (not_zero g (sym before_here ∙ ap before' (sym same) ∙ b))
        | inr old ↦ elim (cases_eq (firsts h) (suc n)) [
          | inl head ↦
              let its : g ≡ f = one_less g f (sym b ∙ pushed n head) in
              let shallow : deep g ≡ 0 = ap deep its ∙ deep_here in
              let lower : deep n ≡ suc (links.depth n) = deep_other n old.0 in (
                subst kept' (sym its) here,
                ap home' its ∙ home_here ∙ sym (links.head h n head).1 ∙ sym (home_kept n old.0),
                ap next' its ∙ next_here ∙ head,
                omega (arith, shallow, lower),
              )
          | inr other ↦
              let l = links.after n g old.1 (sym (rest n old.0 other) ∙ b) in
              let away : g ≢ f = apart g l.0 in
              let one : deep g ≡ suc (links.depth g) = deep_other g away in
              let two : deep n ≡ suc (links.depth n) = deep_other n old.0 in
              let deeper : links.depth g < links.depth n = l.3 in (
                stays g l.0,
                home_kept g away ∙ l.1 ∙ sym (home_kept n old.0),
                next_other g away ∙ l.2,
                omega (arith, one, two, deeper),
              )
        ]
      ];
      head = λ k g is. elim (cases_eq k h) [
        | inl same ↦
            let its : g ≡ f = one_less g f (sym is ∙ ap firsts' same ∙ first_here) in
            (subst kept' (sym its) here, ap home' its ∙ home_here ∙ sym same, ap before' its ∙ before_here)
        | inr other ↦
            let l = links.head k g (sym (first_other k other) ∙ is) in
            let away : g ≢ f = apart g l.0 in
            let unpushed : firsts h ≢ suc g = λ e. other (sym l.1 ∙ (links.head h g e).1) in
            (stays g l.0, home_kept g away ∙ l.1, rest g away unpushed ∙ l.2)
      ];
      later = λ n g is e. elim (new n is) [
        | inl same ↦
            let head : firsts h ≡ suc g = sym next_here ∙ ap next' (sym same) ∙ e in
            let l = links.head h g head in (
              stays g l.0,
              home_kept g (apart g l.0) ∙ l.1 ∙ sym home_here ∙ ap home' (sym same),
              pushed g head ∙ ap suc (sym same),
            )
        | inr old ↦
            let l = links.later n g old.1 (sym (next_other n old.0) ∙ e) in
            let away : g ≢ f = apart g l.0 in
            let unpushed : firsts h ≢ suc g = λ head. not_zero n (sym (links.head h g head).2 ∙ l.2) in
            (stays g l.0, home_kept g away ∙ l.1 ∙ sym (home_kept n old.0), rest g away unpushed ∙ l.2)
      ];
    }

  -- a frame is taken off
  module _ (kept' : ℕ → Type 0) (home' next' before' firsts' : ℕ → ℕ) (f : ℕ) (has : kept f) (left : (n : ℕ) → kept' n → (n ≢ f) × kept n) (stays : (n : ℕ) → n ≢ f → kept n → kept' n) (home_same : (n : ℕ) → home' n ≡ home n) (first_gone : before f ≡ 0 → firsts' (home f) ≡ next f) (first_else : (k : ℕ) → (before f ≡ 0 → k ≢ home f) → firsts' k ≡ firsts k) (next_gone : (g : ℕ) → before f ≡ suc g → next' g ≡ next f) (next_else : (n : ℕ) → before f ≢ suc n → next' n ≡ next n) (before_gone : (g : ℕ) → next f ≡ suc g → before' g ≡ before f) (before_else : (n : ℕ) → next f ≢ suc n → before' n ≡ before n) where
    first_old : (k g : ℕ) → (before f ≡ 0 → k ≢ home f) → firsts' k ≡ suc g → kept' g × (home' g ≡ k) × (before' g ≡ 0)
    first_old k g away is =
        let l = links.head k g (sym (first_else k away) ∙ is) in
        let other : g ≢ f = λ e. away (ap before (sym e) ∙ l.2) (sym l.1 ∙ ap home e) in
        let behind : next f ≢ suc g = λ s. not_zero f (sym l.2 ∙ (links.later f g has s).2) in
        (stays g other l.0, home_same g ∙ l.1, before_else g behind ∙ l.2)

    pub removed_links : AreLinked kept' home' next' before' firsts'
    removed_links = record {
      depth = links.depth;
      first = λ n is none.
          let o = left n is in
          elim (cases_eq (next f) (suc n)) [
            | inl s ↦
                let start : before f ≡ 0 = sym (before_gone n s) ∙ none in
                ap firsts' (home_same n ∙ (links.later f n has s).1) ∙ first_gone start ∙ s
            | inr apart ↦
                let was = links.first n o.1 (sym (before_else n apart) ∙ none) in
                let away : before f ≡ 0 → home n ≢ home f = λ start e. o.0 (one_less n f (sym was ∙ ap firsts e ∙ links.first f has start)) in
                ap firsts' (home_same n) ∙ first_else (home n) away ∙ was
          ];
      after = λ n g is b.
          let o = left n is in
          elim (cases_eq (next f) (suc n)) [
            | inl s ↦
                let back : before f ≡ suc g = sym (before_gone n s) ∙ b in
                let l = links.after f g has back in
                let m = links.later f n has s in
                let d = links.after n f o.1 m.2 in
                let one : links.depth g < links.depth f = l.3 in
                let two : links.depth f < links.depth n = d.3 in
                let other : g ≢ f = λ e. let same : links.depth g ≡ links.depth f = ap links.depth e in omega (arith, one, same) in
                (stays g other l.0, home_same g ∙ l.1 ∙ sym m.1 ∙ sym (home_same n), next_gone g back ∙ s, omega (arith, one, two))
            | inr apart ↦
                let l = links.after n g o.1 (sym (before_else n apart) ∙ b) in
                let other : g ≢ f = λ e. apart (ap next (sym e) ∙ l.2) in
                let ahead : before f ≢ suc g = λ back. o.0 (one_less n f (sym l.2 ∙ (links.after f g has back).2)) in
                (stays g other l.0, home_same g ∙ l.1 ∙ sym (home_same n), next_else g ahead ∙ l.2, l.3)
          ];
      head = λ k g is. elim (cases_eq (before f) 0) [
        | inl start ↦ elim (cases_eq k (home f)) [
          | inl same ↦
              let s : next f ≡ suc g = sym (first_gone start) ∙ ap firsts' (sym same) ∙ is in
              let m = links.later f g has s in
              let d : links.depth f < links.depth g = (links.after g f m.0 m.2).3 in
              let other : g ≢ f = λ e. let equal : links.depth g ≡ links.depth f = ap links.depth e in omega (arith, d, equal) in
              (stays g other m.0, home_same g ∙ m.1 ∙ sym same, before_gone g s ∙ start)
          | inr apart ↦ first_old k g (λ _. apart) is
        ]
        | inr inner ↦ first_old k g (λ start. absurd (inner start)) is
      ];
      later = λ n g is e.
          let o = left n is in
          elim (cases_eq (before f) (suc n)) [
            | inl back ↦
                let s : next f ≡ suc g = sym (next_gone n back) ∙ e in
                let m = links.later f g has s in
                let l = links.after f n has back in
                let d : links.depth f < links.depth g = (links.after g f m.0 m.2).3 in
                let other : g ≢ f = λ x. let equal : links.depth g ≡ links.depth f = ap links.depth x in omega (arith, d, equal) in
                (stays g other m.0, home_same g ∙ m.1 ∙ sym l.1 ∙ sym (home_same n), before_gone g s ∙ back)
            | inr apart ↦
                let l = links.later n g o.1 (sym (next_else n apart) ∙ e) in
                let other : g ≢ f = λ x. apart (ap before (sym x) ∙ l.2) in
                let behind : next f ≢ suc g = λ s. o.0 (one_less n f (sym l.2 ∙ (links.later f g has s).2)) in
                (stays g other l.0, home_same g ∙ l.1 ∙ sym (home_same n), before_else g behind ∙ l.2)
          ];
    }

    -- what is met behind a frame of the chain is met as before
    same_ahead : (k m n : ℕ) → kept m → links.depth f < links.depth m → steps next k (suc m) ≡ suc n → steps next' k (suc m) ≡ suc n
    same_ahead zero m n is below met = met
    same_ahead (suc k) m n is below met =
        let behind : before f ≢ suc m = λ back. let up : links.depth m < links.depth f = (links.after f m has back).3 in omega (arith, up, below) in
        ap (steps next' k) (next_else m behind) ∙ by_next (next m) refl met (λ g has deep far. same_ahead k g n has deep far)
      where
        ended : (j : ℕ) → steps next j 0 ≡ suc n → ⊥
        ended zero e = not_zero n e
        ended (suc j) e = not_zero n e

        by_next : (s : ℕ) → next m ≡ s → steps next k s ≡ suc n → ((g : ℕ) → kept g → links.depth f < links.depth g → steps next k (suc g) ≡ suc n → steps next' k (suc g) ≡ suc n) → steps next' k s ≡ suc n
        by_next zero end is_met rec = absurd (ended k is_met)
        by_next (suc g) to is_met rec =
            let l = links.later m g is to in
            let deeper : links.depth m < links.depth g = (links.after g m l.0 l.2).3 in
            rec g l.0 (omega (arith, deeper, below)) is_met

    pub removed_ahead : (n : ℕ) → IsAhead next (next f) n → IsAhead next' (next f) n
    removed_ahead n ahead = by_next (next f) refl ahead
      where
        by_next : (s : ℕ) → next f ≡ s → IsAhead next s n → IsAhead next' s n
        by_next zero end met = absurd (none_ahead next n met)
        by_next (suc g) to met =
            let l = links.later f g has to in
            (met.0, same_ahead met.0 g n l.0 (links.after g f l.0 l.2).3 met.1)
