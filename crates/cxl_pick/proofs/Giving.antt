-- What a node gives, one level at a time, and the latest start of a window.
use Rattle.std.proofs.Common.{◌≡◌, ℕ, zero, suc, ◌+◌, ◌-◌, ◌*◌, ◌/◌, ◌%◌, ◌≤◌, Bool, true, false, ◌&&◌, if◌then◌else◌, cond, List, [], ◌∷◌, length, Option, Some, None, refl, ap, ◌∙◌, inl, inr, arith}
use Rattle.std.specs.Prelude.{◌==◌, filter}
use Rattle.std.specs.List.{filter_map, cons_option}
use Rattle.std.proofs.lemmas.Bool.{cases_Bool, le-leb}
use Rattle.cxl_enc.specs.Limits.{unit}
use Rattle.cxl_topo.specs.Tree.{is_endpoint_at}
use Rattle.cxl_window.specs.Fields.{WindowFields}
use Rattle.cxl_model.specs.System.{System}
use Rattle.cxl_legal.specs.Bases.{base_step}
use Rattle.cxl_pick.specs.declared.want.Want.{Want}
use Rattle.cxl_pick.specs.Picking.{latest_start, can_serve_itself, children_of, port_gives, gives_within}

-- ---- what a node gives, one level at a time

pub gives_none : (s : System) (want : Want) (w : WindowFields) (start n m : ℕ) → gives_within zero s want w start n m ≡ None
unfolding gives_within
gives_none s want w start n m = refl

pub gives_step : (k : ℕ) (s : System) (want : Want) (w : WindowFields) (start n m : ℕ)
    → gives_within (suc k) s want w start n m
    ≡ (if is_endpoint_at s.nodes n then (if (m == 1) && can_serve_itself s want w start n then Some (n ∷ []) else None)
    else port_gives s want w start n m (λ u. filter_map (λ child. gives_within k s want w start child (m / u)) (children_of s n)))
unfolding gives_within
gives_step k s want w start n m = refl

pub at_endpoint : (k : ℕ) (s : System) (want : Want) (w : WindowFields) (start n m : ℕ) → is_endpoint_at s.nodes n ≡ true
    → gives_within (suc k) s want w start n m ≡ (if (m == 1) && can_serve_itself s want w start n then Some (n ∷ []) else None)
at_endpoint k s want w start n m is =
    gives_step k s want w start n m
    ∙ ap (λ (b : Bool). if b then (if (m == 1) && can_serve_itself s want w start n then Some (n ∷ []) else None)
    else port_gives s want w start n m (λ u. filter_map (λ child. gives_within k s want w start child (m / u)) (children_of s n))) is

pub at_port : (k : ℕ) (s : System) (want : Want) (w : WindowFields) (start n m : ℕ) → is_endpoint_at s.nodes n ≡ false
    → gives_within (suc k) s want w start n m ≡ port_gives s want w start n m (λ u. filter_map (λ child. gives_within k s want w start child (m / u)) (children_of s n))
at_port k s want w start n m is =
    gives_step k s want w start n m
    ∙ ap (λ (b : Bool). if b then (if (m == 1) && can_serve_itself s want w start n then Some (n ∷ []) else None)
    else port_gives s want w start n m (λ u. filter_map (λ child. gives_within k s want w start child (m / u)) (children_of s n))) is

-- ---- the latest start

pub step_below : (three : Bool) (d most : ℕ) → d % (if three then 3 * unit else unit) ≡ 0 → d ≤ most → d ≤ most / (if three then 3 * unit else unit) * (if three then 3 * unit else unit)
step_below true d most even less = omega arith
step_below false d most even less = omega arith

pub start_is : (want : Want) (w : WindowFields) → want.size ≤ w.size → latest_start want w ≡ Some (w.base + (w.size - want.size) / base_step w * base_step w)
start_is want w less =
    ap (λ (b : Bool). if b then Some (w.base + (w.size - want.size) / base_step w * base_step w) else None) (le-leb want.size w.size less)

-- ---- lists

-- what a used port's child gives is among what all children give
pub more_given : {X Y Z : Type 0} (p : X → Bool) (g : X → Option Y) (f : Y → Option Z) → ((x : X) → p x ≡ true → (y : Y) × (z : Z) × (g x ≡ Some y) × (f y ≡ Some z))
    → (xs : List X) → length (filter p xs) ≤ length (filter_map f (filter_map g xs))
more_given p g f each [] = omega arith
more_given {X = X} {Y = Y} {Z = Z} p g f each (x ∷ xs) =
    let rest = more_given p g f each xs in
    elim (cases_Bool (p x)) [
      | inl passes ↦
          let own = each x passes in
          let kept : length (cond (p x) (x ∷ filter p xs) (filter p xs)) ≡ suc (length (filter p xs)) = ap (λ b. length (cond b (x ∷ filter p xs) (filter p xs))) passes in
          let first : filter_map f (cons_option (g x) (filter_map g xs)) ≡ cons_option (f own.0) (filter_map f (filter_map g xs)) = ap (λ o. filter_map f (cons_option o (filter_map g xs))) own.2 in
          let more : length (filter_map f (cons_option (g x) (filter_map g xs))) ≡ suc (length (filter_map f (filter_map g xs))) =
          ap (λ ys. length ys) first ∙ ap (λ o. length (cons_option o (filter_map f (filter_map g xs)))) own.3 in
          omega (arith, rest, kept, more)
      | inr dropped ↦
          let kept : length (cond (p x) (x ∷ filter p xs) (filter p xs)) ≡ length (filter p xs) = ap (λ b. length (cond b (x ∷ filter p xs) (filter p xs))) dropped in
          let more : length (filter_map f (filter_map g xs)) ≤ length (filter_map f (cons_option (g x) (filter_map g xs))) = no_fewer (g x) (filter_map g xs) in
          omega (arith, rest, kept, more)
    ]
  where
    no_fewer : (o : Option Y) (ys : List Y) → length (filter_map f ys) ≤ length (filter_map f (cons_option o ys))
    no_fewer None ys = omega arith
    no_fewer (Some y) ys = consed (f y) (filter_map f ys)
      where
        consed : (o : Option Z) (zs : List Z) → length zs ≤ length (cons_option o zs)
        consed None zs = omega arith
        consed (Some z) zs = omega arith
