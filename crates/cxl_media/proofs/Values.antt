-- A finite map with each value replaced.
use Rattle.std.proofs.Common.{◌≡◌, true, false, cond, ◌&&◌, List, [], ◌∷◌, map, length, Some, refl, sym, ap, subst, ◌∙◌}
use Rattle.std.proofs.Math.Dec.{T}
use Rattle.std.specs.Option.{option_map}
use Rattle.std.specs.Ordering.{eq_by_cmp, is_lt}
use Rattle.std.proofs.lemmas.List.{length-map}
use Rattle.std.specs.FinMap as fin
use Rattle.std.specs.FinMap.{FinMap, find, is_sorted}
use Rattle.std.specs.FinMap.Entries.{below_all}
use Rattle.cxl_media.specs.Blocks.{Key, key_cmp}
use Rattle.cxl_media.specs.Sim.{map_values}

module _ {X Y : Type 0} (f : X → Y) where
  -- the keys stay
  below-values : (x : Key) (es : List (Key × X)) → below_all key_cmp x (map (λ e. (e.0, f e.1)) es) ≡ below_all key_cmp x es
  below-values x [] = refl
  below-values x (e ∷ es) = ap (λ b. is_lt (key_cmp x e.0) && b) (below-values x es)

  sorted-values : (es : List (Key × X)) → is_sorted key_cmp (map (λ e. (e.0, f e.1)) es) ≡ is_sorted key_cmp es
  sorted-values [] = refl
  sorted-values (e ∷ es) = ap (λ b. b && is_sorted key_cmp (map (λ d. (d.0, f d.1)) es)) (below-values e.0 es) ∙ ap (λ b. below_all key_cmp e.0 es && b) (sorted-values es)

  find-values : (q : Key) (es : List (Key × X)) → find key_cmp q (map (λ e. (e.0, f e.1)) es) ≡ option_map f (find key_cmp q es)
  find-values q [] = refl
  find-values q (e ∷ es) =
      elim (eq_by_cmp key_cmp q e.0) as (λ b. cond b (Some (f e.1)) (find key_cmp q (map (λ d. (d.0, f d.1)) es)) ≡ option_map f (cond b (Some e.1) (find key_cmp q es))) [
        | true ↦ refl
        | false ↦ find-values q es
      ]

  still_sorted : (m : FinMap key_cmp X) → T (is_sorted key_cmp (map (λ e. (e.0, f e.1)) (fin.entries m)))
  still_sorted m = subst T (sym (sorted-values (fin.entries m))) (fin.entries_sorted m)

  -- what the new map has at a key
  pub get-values : (m : FinMap key_cmp X) (q : Key) → fin.get (map_values f m) q ≡ option_map f (fin.get m q)
  get-values m q =
      fin.get-from_sorted key_cmp (map (λ e. (e.0, f e.1)) (fin.entries m)) q (still_sorted m)
      ∙ find-values q (fin.entries m) ∙ ap (option_map f) (sym (fin.get-entries m q))

  pub len-values : (m : FinMap key_cmp X) → fin.len (map_values f m) ≡ fin.len m
  len-values m =
      fin.len-entries (map_values f m)
      ∙ ap length (fin.entries-from_sorted key_cmp (map (λ e. (e.0, f e.1)) (fin.entries m)) (still_sorted m))
      ∙ length-map (fin.entries m) (λ e. (e.0, f e.1)) ∙ sym (fin.len-entries m)
