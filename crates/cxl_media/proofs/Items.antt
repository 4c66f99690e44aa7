-- Lists of items in which no key stands twice.
use Rattle.std.proofs.Common.{◌≡◌, ◌≢◌, ℕ, zero, suc, ◌+◌, ◌<◌, Bool, true, false, cond, List, [], ◌∷◌, ◌++◌, length, get_or, set, None, Some, is_some, refl, sym, ap, ◌∙◌, inl, inr, arith, add-one}
use Rattle.std.specs.Prelude.{filter}
use Rattle.std.specs.declared.cmp.Ordering.TheVariants.{Equal}
use Rattle.std.specs.Ordering.{eq_by_cmp}
use Rattle.std.proofs.lemmas.Bool.{cond-true, cond-false, cases_Bool}
use Rattle.std.specs.FinMap as map
use Rattle.std.specs.FinMap.{find, FinMap}
use Rattle.std.specs.FinMap.Entries.{find-append, find-where_key}
use Rattle.cxl_media.specs.Blocks.{Key, key_cmp, Blocks, frames_needed}
use Rattle.cxl_media.specs.MapInside.{AreKeysDistinct}
use Rattle.cxl_media.proofs.Keys.{key_total, key_exact, key_is_not, keys_cases, not_none, find_here, find_later}

module _ {X : Type 0} where
  -- what stands at a place is found under its key
  pub find_at : (es : List (Key × X)) (at : ℕ) (d : Key × X) → at < length es → AreKeysDistinct es → find key_cmp (get_or es at d).0 es ≡ Some (get_or es at d).1
  find_at [] at d within distinct = absurd (omega arith)
  find_at (e ∷ es) zero d within distinct = find_here e.0 e es refl
  find_at (e ∷ es) (suc at) d within distinct =
      let later = find_at es at d (omega arith) distinct.1 in
      find_later (get_or es at d).0 e es (λ same. not_none (get_or es at d).1 (sym later ∙ ap (λ k. find key_cmp k es) same ∙ distinct.0)) ∙ later

  -- a place gets another value under its key
  pub find-set : (es : List (Key × X)) (at : ℕ) (e d : Key × X) (q : Key) → at < length es → e.0 ≡ (get_or es at d).0 → AreKeysDistinct es → find key_cmp q (set es at e) ≡ cond (eq_by_cmp key_cmp q e.0) (Some e.1) (find key_cmp q es)
  find-set [] at e d q within key distinct = absurd (omega arith)
  find-set (first ∷ es) zero e d q within key distinct =
      elim (cases_Bool (eq_by_cmp key_cmp q e.0)) [
        | inl here ↦ cond-true _ (Some e.1) (find key_cmp q es) here ∙ sym (cond-true _ (Some e.1) (find key_cmp q (first ∷ es)) here)
        | inr other ↦
            cond-false _ (Some e.1) (find key_cmp q es) other
            ∙ sym (cond-false _ (Some first.1) (find key_cmp q es) (ap (eq_by_cmp key_cmp q) (sym key) ∙ other))
            ∙ sym (cond-false _ (Some e.1) (find key_cmp q (first ∷ es)) other)
      ]
  find-set (first ∷ es) (suc at) e d q within key distinct =
      let later = find-set es at e d q (omega arith) key distinct.1 in
      let apart : first.0 ≢ e.0 = λ same. not_none (get_or es at d).1 (sym (find_at es at d (omega arith) distinct.1) ∙ ap (λ k. find key_cmp k es) (sym key ∙ sym same) ∙ distinct.0) in
      elim (keys_cases q first.0) [
        | inl here ↦
            find_here q first (set es at e) here
            ∙ sym (find_here q first es here)
            ∙ sym (cond-false _ (Some e.1) (find key_cmp q (first ∷ es)) (key_is_not q e.0 (λ same. apart (sym here ∙ same))))
        | inr other ↦
            find_later q first (set es at e) other ∙ later
            ∙ ap (cond (eq_by_cmp key_cmp q e.0) (Some e.1)) (sym (find_later q first es other))
      ]

  pub distinct-set : (es : List (Key × X)) (at : ℕ) (e d : Key × X) → at < length es → e.0 ≡ (get_or es at d).0 → AreKeysDistinct es → AreKeysDistinct (set es at e)
  distinct-set [] at e d within key distinct = tt
  distinct-set (first ∷ es) zero e d within key distinct = (ap (λ k. find key_cmp k es) key ∙ distinct.0, distinct.1)
  distinct-set (first ∷ es) (suc at) e d within key distinct =
      let apart : first.0 ≢ e.0 = λ same. not_none (get_or es at d).1 (sym (find_at es at d (omega arith) distinct.1) ∙ ap (λ k. find key_cmp k es) (sym key ∙ sym same) ∙ distinct.0) in (
        find-set es at e d first.0 (omega arith) key distinct.1 ∙ cond-false _ (Some e.1) (find key_cmp first.0 es) (key_is_not first.0 e.0 apart) ∙ distinct.0,
        distinct-set es at e d (omega arith) key distinct.1,
      )

  pub distinct-push : (es : List (Key × X)) (k : Key) (v : X) → find key_cmp k es ≡ None → AreKeysDistinct es → AreKeysDistinct (es ++ (k, v) ∷ [])
  distinct-push [] k v none distinct = (refl, tt)
  distinct-push (first ∷ es) k v none distinct =
      let apart : k ≢ first.0 = λ same. not_none first.1 (sym (find_here k first es same) ∙ none) in
      let later = sym (find_later k first es apart) ∙ none in (
        find-append key_cmp key_total es k v first.0 later
            ∙ cond-false _ (Some v) (find key_cmp first.0 es) (key_is_not first.0 k (λ same. apart (sym same))) ∙ distinct.0,
        distinct-push es k v later distinct.1,
      )

  none-filter : (p : Key → Bool) (q : Key) (es : List (Key × X)) → find key_cmp q es ≡ None → find key_cmp q (filter (λ e. p e.0) es) ≡ None
  none-filter p q es none =
      find-where_key key_cmp p q (λ x tied. ap p (sym (key_exact q x tied))) es
      ∙ elim (p q) as (λ b. cond b (find key_cmp q es) None ≡ None) [ true ↦ none | false ↦ refl ]

  pub distinct-filter : (p : Key → Bool) (es : List (Key × X)) → AreKeysDistinct es → AreKeysDistinct (filter (λ e. p e.0) es)
  distinct-filter p [] distinct = tt
  distinct-filter p (e ∷ es) distinct =
      let rest = distinct-filter p es distinct.1 in
      elim (p e.0) as (λ b. AreKeysDistinct (cond b (e ∷ filter (λ f. p f.0) es) (filter (λ f. p f.0) es))) [ true ↦ (none-filter p e.0 es distinct.0, rest) | false ↦ rest ]

  -- as many keys as items
  pub len_distinct : (es : List (Key × X)) → AreKeysDistinct es → map.len (map.from_entries {R = key_cmp} es) ≡ length es
  len_distinct [] distinct = map.len-empty key_cmp X
  len_distinct (e ∷ es) distinct =
      map.len-insert key_total (map.from_entries es) e.0 e.1
      ∙ ap (λ o. cond (is_some o) (map.len (map.from_entries {R = key_cmp} es)) (map.len (map.from_entries {R = key_cmp} es) + 1)) (map.get-from_entries key_total es e.0 ∙ distinct.0)
      ∙ ap (λ n. n + 1) (len_distinct es distinct.1) ∙ add-one (length es)

  -- maps that find alike are equal
  pub maps_alike : (es : List (Key × X)) (m : FinMap key_cmp X) → ((q : Key) → find key_cmp q es ≡ map.get m q) → map.from_entries es ≡ m
  maps_alike es m alike = map.same_map key_total key_exact _ _ (λ q. map.get-from_entries key_total es q ∙ alike q)

  -- a value is set at a key that is there
  pub set_is_insert : (es : List (Key × X)) (at : ℕ) (e d : Key × X) → at < length es → e.0 ≡ (get_or es at d).0 → AreKeysDistinct es → map.from_entries (set es at e) ≡ map.insert (map.from_entries {R = key_cmp} es) e.0 e.1
  set_is_insert es at e d within key distinct =
      maps_alike (set es at e) _ (λ q.
      find-set es at e d q within key distinct
      ∙ ap (cond (eq_by_cmp key_cmp q e.0) (Some e.1)) (sym (map.get-from_entries key_total es q))
      ∙ sym (map.get-insert key_total (map.from_entries es) e.0 e.1 q))

  pub filter_is_retain : (p : Key → Bool) (es : List (Key × X)) → map.from_entries (filter (λ e. p e.0) es) ≡ map.retain_keys (map.from_entries {R = key_cmp} es) p
  filter_is_retain p es =
      maps_alike (filter (λ e. p e.0) es) _ (λ q.
      let alike : (x : Key) → key_cmp q x ≡ Equal → p x ≡ p q = λ x tied. ap p (sym (key_exact q x tied)) in
      find-where_key key_cmp p q alike es
      ∙ ap (λ o. cond (p q) o None) (sym (map.get-from_entries key_total es q))
      ∙ sym (map.get-retain_keys (map.from_entries es) p q alike))

-- a block that is put takes as many frames as it needs
pub put_counts : (old new : Blocks) (before after : ℕ) (key : Key) (bytes : List ℕ) → new ≡ map.insert old key bytes → after + frames_needed old key ≡ before → after + map.len new ≡ before + map.len old
put_counts old new before after key bytes put taken =
    let more : map.len new ≡ cond (map.contains_key old key) (map.len old) (map.len old + 1) = ap map.len put ∙ map.len-insert key_total old key bytes in
    by_case (map.contains_key old key) more taken
  where
    by_case : (there : Bool) → map.len new ≡ cond there (map.len old) (map.len old + 1) → after + cond there 0 1 ≡ before → after + map.len new ≡ before + map.len old
    by_case true more taken = omega arith
    by_case false more taken = omega arith

-- an empty map has as many frames as are free
pub empty_counts : (blocks : Blocks) (free frames : ℕ) → blocks ≡ map.empty → free ≡ frames → free + map.len blocks ≡ frames
empty_counts blocks free frames none all = omega (arith, all, ap map.len none, map.len-empty key_cmp (List ℕ))
