-- Ranges as keys: what is found at one, and their order.
use Rattle.std.proofs.Common.{◌≡◌, ◌⊎◌, ℕ, zero, suc, ◌<◌, Bool, true, List, [], ◌∷◌, map, Some, None, refl, sym, ap, ◌∙◌, inl, inr}
use Rattle.std.specs.Prelude.{slice_get, find, filter}
use Rattle.std.specs.declared.cmp.Ordering.{Ordering}
use Rattle.std.specs.declared.cmp.Ordering.TheVariants.{Less, Equal, Greater}
use Rattle.std.specs.Ordering.{nat_cmp, ordering_then, is_eq}
use Rattle.std.specs.Cmp.{unsigned_ties, nat_cmp_is}
use Rattle.std.specs.BTreeMap.{is_at}
use Rattle.std.specs.Map.{lookup}
use Rattle.std.proofs.lemmas.Bool.{cases_Bool, cases_order, eqb-true, false≢true}
use Rattle.std.proofs.lemmas.Option.{none-some, same_Some}
use Rattle.cxl_check.specs.declared.firsts.RangeKey.{RangeKey}
use Rattle.cxl_check.specs.inner.Firsts.{key_cmp}

-- an entry that a look-up finds
pub lookup_place : {K V : Type 0} (test : K → Bool) (es : List (K × V)) (v : V) → lookup test es ≡ Some v → (j : ℕ) × (e : K × V) × (slice_get es j ≡ Some e) × (test e.0 ≡ true)
lookup_place test [] v is = absurd (none-some v is)
lookup_place test (e ∷ es) v is =
    elim (cases_Bool (test e.0)) [
      | inl passes ↦ (0, e, refl, passes)
      | inr fails ↦
          let later = lookup_place test es v (rw fails at is) in
          (suc later.0, later.1, later.2, later.3)
    ]

-- the item behind one of a mapped list
pub mapped_at : {X Y : Type 0} (f : X → Y) (xs : List X) (j : ℕ) (y : Y) → slice_get (map f xs) j ≡ Some y → (x : X) × (slice_get xs j ≡ Some x) × (f x ≡ y)
mapped_at f [] j y is = absurd (none-some y is)
mapped_at f (x ∷ xs) zero y is = (x, refl, same_Some (f x) y is)
mapped_at f (x ∷ xs) (suc j) y is = mapped_at f xs j y is

-- where nothing is found, nothing is kept
pub filter_none : {X : Type 0} (p : X → Bool) (xs : List X) → find p xs ≡ None → filter p xs ≡ []
filter_none p [] none = refl
filter_none p (x ∷ xs) none =
    elim (cases_Bool (p x)) [
      | inl passes ↦ absurd (none-some x (sym (rw passes at none)))
      | inr fails ↦ rw fails (filter_none p xs (rw fails at none))
    ]

both_equal : (r t : Ordering) → is_eq (ordering_then r t) ≡ true → (is_eq r ≡ true) × (is_eq t ≡ true)
both_equal Less t h = absurd (false≢true h)
both_equal Equal t h = (refl, h)
both_equal Greater t h = absurd (false≢true h)

same_fields : {m n p q : ℕ} → m ≡ n → p ≡ q → ◌≡◌ {A = RangeKey} (record { base = m; size = p }) (record { base = n; size = q })
same_fields h k = cc

-- equal keys have the same base and size
pub same_key : (a b : RangeKey) → is_at (key_cmp a) b ≡ true → a ≡ b
same_key a b same =
    let both = both_equal (nat_cmp a.base b.base) (nat_cmp a.size b.size) same in
    same_fields (eqb-true a.base b.base (unsigned_ties a.base b.base ∙ both.0)) (eqb-true a.size b.size (unsigned_ties a.size b.size ∙ both.1))

equal_less : Equal ≡ Less → ⊥
equal_less e = cc

greater_less : Greater ≡ Less → ⊥
greater_less e = cc

less_is : (a b : ℕ) → nat_cmp a b ≡ Less → a < b
less_is a b h =
    elim (cases_order a b) [
      | inl same ↦ absurd (equal_less (nat_cmp_is a b Equal same ∙ h))
      | inr other ↦ elim other [ inl less ↦ less | inr more ↦ absurd (greater_less (nat_cmp_is a b Greater more ∙ h)) ]
    ]

equal_is : (a b : ℕ) → nat_cmp a b ≡ Equal → a ≡ b
equal_is a b h = eqb-true a b (unsigned_ties a b ∙ ap is_eq h)

rises_by : (r t : Ordering) → ordering_then r t ≡ Less → (r ≡ Less) ⊎ ((r ≡ Equal) × (t ≡ Less))
rises_by Less t h = inl refl
rises_by Equal t h = inr (refl, h)
rises_by Greater t h = absurd (greater_less h)

-- a key that stands before another has a lower base, or the same base and a smaller size
pub key_rises : (a b : RangeKey) → key_cmp a b ≡ Less → (a.base < b.base) ⊎ ((a.base ≡ b.base) × (a.size < b.size))
key_rises a b below =
    elim (rises_by (nat_cmp a.base b.base) (nat_cmp a.size b.size) below) [
      | inl less ↦ inl (less_is a.base b.base less)
      | inr tie ↦ inr (equal_is a.base b.base tie.0, less_is a.size b.size tie.1)
    ]
