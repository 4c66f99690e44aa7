-- For which numbers a node gives something, and by how many of its ports.
use Rattle.std.proofs.Common.{◌≡◌, ℕ, zero, suc, ◌/◌, ◌%◌, ◌<◌, ◌≤◌, Bool, true, false, ◌&&◌, ◌||◌, cond, List, [], ◌∷◌, length, Option, Some, None, refl, sym, ap, ◌∙◌, inl, inr, arith}
use Rattle.std.specs.Prelude.{◌==◌, nat_le, find}
use Rattle.std.specs.List.{filter_map, cons_option}
use Rattle.std.proofs.Math.Nat.{div-le_self}
use Rattle.std.proofs.lemmas.Bool.{cases_Bool, and_parts, eqb-true, leb-true, false_from_ne_true, le-leb}
use Rattle.std.proofs.lemmas.Option.{none-some}
use Rattle.cxl_enc.specs.Codes.{bits_of}
use Rattle.cxl_enc.specs.Caps.{targets_of}
use Rattle.cxl_regs.specs.Rules.{select_ok}
use Rattle.cxl_legal.specs.Endpoints.{cap_at}
use Rattle.cxl_topo.specs.Tree.{is_endpoint_at}
use Rattle.cxl_window.specs.Fields.{WindowFields}
use Rattle.cxl_model.specs.System.{System}
use Rattle.cxl_pick.specs.declared.want.Want.{Want}
use Rattle.cxl_pick.specs.Picking.{is_open, port_code, can_serve_by, children_of, gives_within}
use Rattle.cxl_pick.specs.inner.Gifts.{can_lead, has_gift}
use Rattle.cxl_pick.proofs.Numbers.{some_count, told_product}
use Rattle.cxl_pick.proofs.Giving.{gives_none}
use Rattle.cxl_pick.proofs.Taking.{gives_itself, offer, serves, can_parts, whole_share}

-- ---- numbers for which nothing is given

pub quotient_low : (m u : ℕ) → m ≤ 16 → m / u ≤ 16
quotient_low m u few =
    let low = div-le_self m u in
    omega (arith, low, few)

some_kept : (f : ℕ → Option (List ℕ)) (xs : List ℕ) → 0 < length (filter_map f xs) → (x : ℕ) × (ys : List ℕ) × (f x ≡ Some ys)
some_kept f [] some = absurd (omega arith)
some_kept f (x ∷ xs) some = go (some_kept f xs) (f x) refl some
  where
    go : (0 < length (filter_map f xs) → (y : ℕ) × (ys : List ℕ) × (f y ≡ Some ys)) → (o : Option (List ℕ)) → f x ≡ o → 0 < length (cons_option o (filter_map f xs))
        → (y : ℕ) × (ys : List ℕ) × (f y ≡ Some ys)
    go later None at more = later more
    go later (Some ys) at more = (x, ys, at)

-- an endpoint gives something for 1, and a port for so many times what a child of it does
pub gives_told : (k : ℕ) (s : System) (want : Want) (w : WindowFields) (start n m : ℕ) (xs : List ℕ) → gives_within k s want w start n m ≡ Some xs → m ≤ 16 → has_gift m ≡ true
gives_told zero s want w start n m xs gives few = absurd (none-some xs (sym (gives_none s want w start n m) ∙ gives))
gives_told (suc k) s want w start n m xs gives few =
    elim (cases_Bool (is_endpoint_at s.nodes n)) [
      | inl endpoint ↦ ap has_gift (gives_itself k s want w start n m xs endpoint gives).one
      | inr port ↦
          let own = serves k s want w start n m xs port gives in
          let can = can_parts s want w start n m (length (filter_map (offer k s want w start m own.u) (children_of s n))) own.u own.can in
          let some = some_count own.u own.count in
          let enough = can.enough in
          let child = some_kept (offer k s want w start m own.u) (children_of s n) (omega (arith, some, enough)) in
          told_product own.u (m / own.u) m own.count (gives_told k s want w start child.0 (m / own.u) child.1 child.2 (quotient_low m own.u few)) (whole_share own.u m own.count can.divides) few
    ]

-- ---- ports by which an open port could lead

-- one by whose number of ports the endpoints are not divided leads by none
pub uneven : (s : System) (want : Want) (w : WindowFields) (n m willing u : ℕ) → (m % u ≡ 0 → ⊥) → can_lead s want w n m willing u ≡ false
uneven s want w n m willing u fails =
    false_from_ne_true (can_lead s want w n m willing u) (λ can.
    let a = and_parts ((m % u == 0) && nat_le u (targets_of (cap_at s n)) && nat_le u willing) ((u == 1) || (nat_le (port_code want w m) 6 && select_ok (cap_at s n) (port_code want w m) (bits_of u))) can in
    let b = and_parts ((m % u == 0) && nat_le u (targets_of (cap_at s n))) (nat_le u willing) a.0 in
    fails (eqb-true (m % u) 0 (and_parts (m % u == 0) (nat_le u (targets_of (cap_at s n))) b.0).0))

-- one with fewer children than ports leads by none
pub too_few : (s : System) (want : Want) (w : WindowFields) (n m willing u : ℕ) → willing < u → can_lead s want w n m willing u ≡ false
too_few s want w n m willing u fewer =
    false_from_ne_true (can_lead s want w n m willing u) (λ can.
    let a = and_parts ((m % u == 0) && nat_le u (targets_of (cap_at s n)) && nat_le u willing) ((u == 1) || (nat_le (port_code want w m) 6 && select_ok (cap_at s n) (port_code want w m) (bits_of u))) can in
    let b = and_parts ((m % u == 0) && nat_le u (targets_of (cap_at s n))) (nat_le u willing) a.0 in
    let enough = leb-true u willing b.1 in
    omega (arith, fewer, enough))

-- one that could lead by some ports where so many children are willing leads where they are
pub leads_with : (s : System) (want : Want) (w : WindowFields) (n m willing u : ℕ) → can_lead s want w n m willing u ≡ (can_lead s want w n m u u && nat_le u willing)
leads_with s want w n m willing u =
    sym
    (ap (λ (e : Bool). (m % u == 0) && nat_le u (targets_of (cap_at s n)) && e && ((u == 1) || (nat_le (port_code want w m) 6 && select_ok (cap_at s n) (port_code want w m) (bits_of u))) && nat_le u willing) (le-leb u u (omega arith))
    ∙ moved ((m % u == 0) && nat_le u (targets_of (cap_at s n))) (nat_le u willing) ((u == 1) || (nat_le (port_code want w m) 6 && select_ok (cap_at s n) (port_code want w m) (bits_of u))))
  where
    moved : (x r t : Bool) → (x && true && t && r) ≡ (x && r && t)
    moved false r t = refl
    moved true false false = refl
    moved true true false = refl
    moved true false true = refl
    moved true true true = refl

-- a port that is open serves as it leads, and one that is not serves by none
pub open_serves : (s : System) (want : Want) (w : WindowFields) (start n m willing u : ℕ) → is_open s start n ≡ true → can_serve_by s want w start n m willing u ≡ can_lead s want w n m willing u
open_serves s want w start n m willing u opened =
    ap (λ (b : Bool). b && (m % u == 0) && nat_le u (targets_of (cap_at s n)) && nat_le u willing && ((u == 1) || (nat_le (port_code want w m) 6 && select_ok (cap_at s n) (port_code want w m) (bits_of u)))) opened

pub shut_serves : (s : System) (want : Want) (w : WindowFields) (start n m willing u : ℕ) → is_open s start n ≡ false → can_serve_by s want w start n m willing u ≡ false
shut_serves s want w start n m willing u shut =
    ap (λ (b : Bool). b && (m % u == 0) && nat_le u (targets_of (cap_at s n)) && nat_le u willing && ((u == 1) || (nat_le (port_code want w m) 6 && select_ok (cap_at s n) (port_code want w m) (bits_of u)))) shut

-- ---- the first test that passes

pub first_eight : (t : ℕ → Bool) → t 8 ≡ true → Some 8 ≡ find t (8 ∷ 4 ∷ 2 ∷ 1 ∷ [])
first_eight t a = sym (λ i. cond (a i) (Some 8) (find t (4 ∷ 2 ∷ 1 ∷ [])))

pub first_four : (t : ℕ → Bool) → t 8 ≡ false → t 4 ≡ true → Some 4 ≡ find t (8 ∷ 4 ∷ 2 ∷ 1 ∷ [])
first_four t a b = sym (λ i. cond (a i) (Some 8) (cond (b i) (Some 4) (find t (2 ∷ 1 ∷ []))))

pub first_two : (t : ℕ → Bool) → t 8 ≡ false → t 4 ≡ false → t 2 ≡ true → Some 2 ≡ find t (8 ∷ 4 ∷ 2 ∷ 1 ∷ [])
first_two t a b c = sym (λ i. cond (a i) (Some 8) (cond (b i) (Some 4) (cond (c i) (Some 2) (find t (1 ∷ [])))))

pub first_one : (t : ℕ → Bool) → t 8 ≡ false → t 4 ≡ false → t 2 ≡ false → t 1 ≡ true → Some 1 ≡ find t (8 ∷ 4 ∷ 2 ∷ 1 ∷ [])
first_one t a b c d = sym (λ i. cond (a i) (Some 8) (cond (b i) (Some 4) (cond (c i) (Some 2) (cond (d i) (Some 1) None))))

pub first_none : (t : ℕ → Bool) → t 8 ≡ false → t 4 ≡ false → t 2 ≡ false → t 1 ≡ false → None ≡ find t (8 ∷ 4 ∷ 2 ∷ 1 ∷ [])
first_none t a b c d = sym (λ i. cond (a i) (Some 8) (cond (b i) (Some 4) (cond (c i) (Some 2) (cond (d i) (Some 1) None))))
