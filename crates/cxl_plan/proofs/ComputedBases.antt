-- The least base of a window, as it is computed.
use Rattle.std.proofs.Common.{◌≡◌, ℕ, zero, suc, ◌+◌, ◌-◌, ◌*◌, ◌/◌, ◌%◌, ◌<◌, ◌≤◌, Bool, true, false, max, List, [], ◌∷◌, length, filter, sym, ap, subst, ◌∙◌, inl, inr, arith}
use Rattle.std.specs.Prelude.{fold, ◌==◌, if◌then◌else◌}
use Rattle.std.specs.List.{range_with_len, All}
use Rattle.std.proofs.lemmas.Bool.{cases_Bool, cases_eq}
use Rattle.cxl_enc.specs.Limits.{unit}
use Rattle.cxl_topo.specs.Tree.{is_endpoint_at}
use Rattle.cxl_window.specs.Fields.{WindowFields}
use Rattle.cxl_topo.proofs.Trees.{KnownTree}
use Rattle.cxl_model.specs.declared.request.Request.{Request}
use Rattle.cxl_model.specs.System.{System}
use Rattle.cxl_legal.specs.Used.{is_used}
use Rattle.cxl_legal.specs.Bases.{IsBase, IsLeastBase, last_end, base_step}
use Rattle.cxl_plan.specs.Planned.{used_end, least_base}
use Rattle.cxl_plan.proofs.UsedItems.{used_below}

-- ---- the greatest of some ends

module _ (f : ℕ → ℕ) where
  abbrev greatest : ℕ → List ℕ → ℕ
  greatest a xs = fold (λ most n. max most (f n)) a xs

  no_less : (a : ℕ) (xs : List ℕ) → a ≤ greatest a xs
  no_less a [] = omega arith
  no_less a (x ∷ xs) = let rest = no_less (max a (f x)) xs in omega arith

  pub each_below : (p : ℕ → Bool) (a start k n : ℕ) → start ≤ n → n < start + k → p n ≡ true → f n ≤ greatest a (filter p (range_with_len start k))
  each_below p a start zero n from below passes = absurd (omega arith)
  each_below p a start (suc k) n from below passes =
      elim (cases_eq start n) [
        | inl same ↦
            let here : p start ≡ true = ap p same ∙ passes in
            let rest = no_less (max a (f start)) (filter p (range_with_len (start + 1) k)) in
            let own : f start ≡ f n = ap f same in
            rw here (omega arith)
        | inr other ↦ elim (cases_Bool (p start)) [
          | inl counts ↦ rw counts (each_below p (max a (f start)) (start + 1) k n (omega arith) (omega arith) passes)
          | inr fails ↦ rw fails (each_below p a (start + 1) k n (omega arith) (omega arith) passes)
        ]
      ]

  pub below_bound : (p : ℕ → Bool) (a start k bound : ℕ) → a ≤ bound → ((n : ℕ) → start ≤ n → n < start + k → p n ≡ true → f n ≤ bound) → greatest a (filter p (range_with_len start k)) ≤ bound
  below_bound p a start zero bound low each = low
  below_bound p a start (suc k) bound low each =
      elim (cases_Bool (p start)) [
        | inl counts ↦
            let own = each start (omega arith) (omega arith) counts in
            rw counts (below_bound p (max a (f start)) (start + 1) k bound (omega arith) (λ n from below passes. each n (omega arith) (omega arith) passes))
        | inr fails ↦ rw fails (below_bound p a (start + 1) k bound low (λ n from below passes. each n (omega arith) (omega arith) passes))
      ]

-- ---- steps

-- r is the least multiple of d that is no less than n
record IsUp (d n r : ℕ) : Type 0 where
  pub above : n ≤ r
  pub whole : r % d ≡ 0
  pub least : (m : ℕ) → n ≤ m → m % d ≡ 0 → r ≤ m

units_up : (n : ℕ) → IsUp unit n ((n + (unit - 1)) / unit * unit)
units_up n = record { above = omega arith; whole = omega arith; least = λ m low even. omega arith }

three_units_up : (n : ℕ) → IsUp (3 * unit) n ((n + (3 * unit - 1)) / (3 * unit) * (3 * unit))
three_units_up n = record { above = omega arith; whole = omega arith; least = λ m low even. omega arith }

steps_up : (w : WindowFields) (n : ℕ) → IsUp (base_step w) n ((n + (base_step w - 1)) / base_step w * base_step w)
steps_up w n =
    elim (cases_Bool (w.ways % 3 == 0)) [
      | inl three ↦ subst (λ (d : ℕ). IsUp d n ((n + (d - 1)) / d * d)) (sym (step_of true three)) (three_units_up n)
      | inr other ↦ subst (λ (d : ℕ). IsUp d n ((n + (d - 1)) / d * d)) (sym (step_of false other)) (units_up n)
    ]
  where
    step_of : (b : Bool) → (w.ways % 3 == 0) ≡ b → base_step w ≡ (if b then 3 * unit else unit)
    step_of b is = ap (λ (c : Bool). if c then 3 * unit else unit) is

-- ---- the least base

pub least_base_known : (s : System) → KnownTree s.nodes → (request : Request) → All (λ m. is_endpoint_at s.nodes m ≡ true) request.endpoints → (w : WindowFields) → IsLeastBase s request w (least_base s request w)
least_base_known s known request named w =
    let above = up.above in
    record {
      can = record {
        from = omega arith;
        after = λ n used.
            let inside = used_below s.nodes known request named n used in
            let low = each_below (last_end s) (is_used s request) 0 0 (length s.nodes) n (omega arith) (omega arith) used in
            omega (arith, low, above);
        step = ap (λ (n : ℕ). n % base_step w) past_base ∙ up.whole;
      };
      least = least;
    }
  where
    rise : ℕ
    rise = (used_end s request - w.base + (base_step w - 1)) / base_step w * base_step w

    up : IsUp (base_step w) (used_end s request - w.base) rise
    up = steps_up w (used_end s request - w.base)

    past_base : (w.base + rise) - w.base ≡ rise
    past_base = omega arith

    least : (other : ℕ) → IsBase s request w other → w.base + rise ≤ other
    least other is =
        let from = is.from in
        let past : used_end s request ≤ other = below_bound (last_end s) (is_used s request) 0 0 (length s.nodes) other (omega arith) (λ n low below used. is.after n used) in
        let lowest : rise ≤ other - w.base = up.least (other - w.base) (omega (arith, past, from)) is.step in
        omega (arith, lowest, from)

-- there is one least base
pub one_least : {s : System} {request : Request} {w : WindowFields} {base other : ℕ} → IsLeastBase s request w base → IsLeastBase s request w other → base ≡ other
one_least {s} {request} {w} {base} {other} is known =
    let low = is.least other known.can in
    let high = known.least base is.can in
    omega arith
