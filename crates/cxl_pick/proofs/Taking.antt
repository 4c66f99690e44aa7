-- What a node gives: so many endpoints that lie under it.
use Rattle.std.proofs.Common.{◌≡◌, ℕ, zero, suc, ◌*◌, ◌/◌, ◌%◌, ◌≤◌, Bool, true, false, ◌&&◌, ◌||◌, if◌then◌else◌, cond, List, [], ◌∷◌, length, Option, Some, None, refl, sym, ap, ◌∙◌, subst, inl, inr, arith}
use Rattle.std.specs.Prelude.{◌==◌, nat_le, find, option_map}
use Rattle.std.specs.List.{filter_map, range_with_len}
use Rattle.std.proofs.lemmas.Bool.{cases_Bool, and_parts, or_cases, or_left, or_right, eqb-true, eq-eqb, leb-true, false≢true}
use Rattle.std.proofs.lemmas.Option.{none-some, same_Some}
use Rattle.cxl_enc.specs.Codes.{bits_of}
use Rattle.cxl_enc.specs.Caps.{targets_of, is_target_count}
use Rattle.cxl_enc.proofs.Lists.{is_in, find_passes}
use Rattle.cxl_enc.proofs.Ways.{each_count}
use Rattle.cxl_regs.specs.Rules.{select_ok}
use Rattle.cxl_topo.specs.declared.node.Parent.{Parent}
use Rattle.cxl_topo.specs.Tree.{is_endpoint_at, parent_of, child_of}
use Rattle.cxl_window.specs.Fields.{WindowFields}
use Rattle.cxl_topo.proofs.Trees.{KnownTree}
use Rattle.cxl_model.specs.System.{System}
use Rattle.cxl_model.specs.Rules.{are_distinct}
use Rattle.cxl_model.specs.Counts.{is_under}
use Rattle.cxl_model.proofs.Under.{under_self, under_parent}
use Rattle.cxl_model.proofs.Distinct.{numbers_differ}
use Rattle.cxl_legal.specs.Endpoints.{cap_at}
use Rattle.cxl_pick.specs.declared.want.Want.{Want}
use Rattle.cxl_pick.specs.Picking.{is_open, can_serve_itself, port_code, can_serve_by, children_of, gives_within}
use Rattle.cxl_pick.proofs.Below.{one_child}
use Rattle.cxl_pick.proofs.Numbers.{count_found}
use Rattle.cxl_pick.proofs.Giving.{gives_none, at_endpoint, at_port}
use Rattle.cxl_pick.proofs.Pieces.{Apart, first_pieces, taken, taken_length, given_from, given_differ}

-- ---- an endpoint that gives

pub record GivesItself (s : System) (want : Want) (w : WindowFields) (start n m : ℕ) (xs : List ℕ) : Type 0 where
  pub one : m ≡ 1
  pub serves : can_serve_itself s want w start n ≡ true
  pub is : n ∷ [] ≡ xs

pub gives_itself : (k : ℕ) (s : System) (want : Want) (w : WindowFields) (start n m : ℕ) (xs : List ℕ) → is_endpoint_at s.nodes n ≡ true → gives_within (suc k) s want w start n m ≡ Some xs
    → GivesItself s want w start n m xs
gives_itself k s want w start n m xs endpoint gives =
    go ((m == 1) && can_serve_itself s want w start n) refl (sym (at_endpoint k s want w start n m endpoint) ∙ gives)
  where
    go : (b : Bool) → ((m == 1) && can_serve_itself s want w start n) ≡ b → (if b then Some (n ∷ []) else None) ≡ Some xs → GivesItself s want w start n m xs
    go true can is =
        let parts = and_parts (m == 1) (can_serve_itself s want w start n) can in
        record { one = eqb-true m 1 parts.0; serves = parts.1; is = same_Some (n ∷ []) xs is }
    go false can none = absurd (none-some xs none)

-- ---- a port that gives

-- what the child gives for its share
abbrev pub offer : ℕ → System → Want → WindowFields → ℕ → ℕ → ℕ → ℕ → Option (List ℕ)
offer k s want w start m u child = gives_within k s want w start child (m / u)

pub record Serves (k : ℕ) (s : System) (want : Want) (w : WindowFields) (start n m : ℕ) (xs : List ℕ) : Type 0 where
  pub u : ℕ
  pub count : is_target_count u ≡ true
  pub can : can_serve_by s want w start n m (length (filter_map (offer k s want w start m u) (children_of s n))) u ≡ true
  pub is : first_pieces (offer k s want w start m u) (children_of s n) u ≡ xs

pub find_in : (p : ℕ → Bool) (xs : List ℕ) (x : ℕ) → find p xs ≡ Some x → is_in x xs ≡ true
find_in p [] x none = absurd (none-some x none)
find_in p (y ∷ ys) x at = go (find_in p ys x) (p y) at
  where
    go : (find p ys ≡ Some x → is_in x ys ≡ true) → (b : Bool) → cond b (Some y) (find p ys) ≡ Some x → is_in x (y ∷ ys) ≡ true
    go later true here = or_left (y == x) (is_in x ys) (eq-eqb y x (same_Some y x here))
    go later false rest = or_right (y == x) (is_in x ys) (later rest)

abbrev tried : ℕ → System → Want → WindowFields → ℕ → ℕ → ℕ → ℕ → Bool
tried k s want w start n m u = can_serve_by s want w start n m (length (filter_map (offer k s want w start m u) (children_of s n))) u

pub serves : (k : ℕ) (s : System) (want : Want) (w : WindowFields) (start n m : ℕ) (xs : List ℕ) → is_endpoint_at s.nodes n ≡ false → gives_within (suc k) s want w start n m ≡ Some xs
    → Serves k s want w start n m xs
serves k s want w start n m xs port gives = go (find (tried k s want w start n m) (8 ∷ 4 ∷ 2 ∷ 1 ∷ [])) refl (sym (at_port k s want w start n m port) ∙ gives)
  where
    go : (o : Option ℕ) → find (tried k s want w start n m) (8 ∷ 4 ∷ 2 ∷ 1 ∷ []) ≡ o → option_map (λ u. first_pieces (offer k s want w start m u) (children_of s n) u) o ≡ Some xs → Serves k s want w start n m xs
    go None at none = absurd (none-some xs none)
    go (Some u) at some = record {
      u = u;
      count = count_found u (find_in (tried k s want w start n m) (8 ∷ 4 ∷ 2 ∷ 1 ∷ []) u at);
      can = find_passes (tried k s want w start n m) (8 ∷ 4 ∷ 2 ∷ 1 ∷ []) u at;
      is = same_Some (first_pieces (offer k s want w start m u) (children_of s n) u) xs some;
    }

-- the conditions, one by one
pub record Can (s : System) (want : Want) (w : WindowFields) (start n m willing u : ℕ) : Type 0 where
  pub opened : is_open s start n ≡ true
  pub divides : m % u ≡ 0
  pub few : nat_le u (targets_of (cap_at s n)) ≡ true
  pub enough : u ≤ willing
  pub selects : ((u == 1) || (nat_le (port_code want w m) 6 && select_ok (cap_at s n) (port_code want w m) (bits_of u))) ≡ true

pub can_parts : (s : System) (want : Want) (w : WindowFields) (start n m willing u : ℕ) → can_serve_by s want w start n m willing u ≡ true → Can s want w start n m willing u
can_parts s want w start n m willing u can =
    let a = and_parts (is_open s start n && (m % u == 0) && nat_le u (targets_of (cap_at s n)) && nat_le u willing) ((u == 1) || (nat_le (port_code want w m) 6 && select_ok (cap_at s n) (port_code want w m) (bits_of u))) can in
    let b = and_parts (is_open s start n && (m % u == 0) && nat_le u (targets_of (cap_at s n))) (nat_le u willing) a.0 in
    let c = and_parts (is_open s start n && (m % u == 0)) (nat_le u (targets_of (cap_at s n))) b.0 in
    let d = and_parts (is_open s start n) (m % u == 0) c.0 in
    record { opened = d.0; divides = eqb-true (m % u) 0 d.1; few = c.1; enough = leb-true u willing b.1; selects = a.1 }

pub whole_share : (u m : ℕ) → is_target_count u ≡ true → m % u ≡ 0 → u * (m / u) ≡ m
whole_share u m count = each_count (λ n. m % n ≡ 0 → n * (m / n) ≡ m) u count (λ e. omega arith) (λ e. omega arith) (λ e. omega arith) (λ e. omega arith)

-- ---- children

pub child_from : (s : System) → KnownTree s.nodes → (n c : ℕ) → is_in c (children_of s n) ≡ true → (e : ℕ) × (parent_of s.nodes c ≡ Some (record { node = n; port = e }))
child_from s known n c there =
    let own = given_from (child_of s.nodes n) (range_with_len 0 256) c there in
    (own.0, (known.laws.children n own.0 c).0 own.1)

children_differ : (s : System) → KnownTree s.nodes → (n : ℕ) → are_distinct (children_of s n) ≡ true
children_differ s known n =
    given_differ (child_of s.nodes n) (λ a b c first second.
    ap (λ (p : Parent). p.port) (same_Some (record { node = n; port = a }) (record { node = n; port = b }) (sym ((known.laws.children n a c).0 first) ∙ (known.laws.children n b c).0 second)))
    (range_with_len 0 256) (numbers_differ 0 256)

-- ---- what is given

pub record Given (s : System) (n m : ℕ) (xs : List ℕ) : Type 0 where
  pub ends : (x : ℕ) → is_in x xs ≡ true → is_endpoint_at s.nodes x ≡ true
  pub under : (x : ℕ) → is_in x xs ≡ true → is_under s.nodes n x ≡ true
  pub distinct : are_distinct xs ≡ true
  pub count : length xs ≡ m

only_one : (n x : ℕ) → is_in x (n ∷ []) ≡ true → n ≡ x
only_one n x there =
    elim (or_cases (n == x) false there) [
      | inl here ↦ eqb-true n x here
      | inr none ↦ absurd (false≢true none)
    ]

-- what the children of a port offer has nothing in common
pub offers_apart : (s : System) → KnownTree s.nodes → (k : ℕ) (want : Want) (w : WindowFields) (start n m u : ℕ)
    → ((c : ℕ) (ys : List ℕ) → gives_within k s want w start c (m / u) ≡ Some ys → Given s c (m / u) ys) → Apart (offer k s want w start m u) (children_of s n) (m / u)
offers_apart s known k want w start n m u given = record {
  long = λ c ys there gives. (given c ys gives).count;
  single = λ c ys there gives. (given c ys gives).distinct;
  apart = λ c d x ys zs first second gives offers here there.
      let own = child_from s known n c first in
      let other = child_from s known n d second in
      one_child known c d (record { node = n; port = own.0 }) (record { node = n; port = other.0 }) own.1 other.1 refl x ((given c ys gives).under x here) ((given d zs offers).under x there);
  differ = children_differ s known n;
}

pub given_is : (s : System) → KnownTree s.nodes → (k : ℕ) (want : Want) (w : WindowFields) (start n m : ℕ) (xs : List ℕ) → gives_within k s want w start n m ≡ Some xs → Given s n m xs
given_is s known zero want w start n m xs gives = absurd (none-some xs (sym (gives_none s want w start n m) ∙ gives))
given_is s known (suc k) want w start n m xs gives =
    elim (cases_Bool (is_endpoint_at s.nodes n)) [
      | inl endpoint ↦
          let own = gives_itself k s want w start n m xs endpoint gives in
          let single : Given s n m (n ∷ []) = record {
            ends = λ x there. subst (λ (i : ℕ). is_endpoint_at s.nodes i ≡ true) (only_one n x there) endpoint;
            under = λ x there. subst (λ (i : ℕ). is_under s.nodes n i ≡ true) (only_one n x there) (under_self known n);
            distinct = refl;
            count = sym own.one;
          } in
          subst (Given s n m) own.is single
      | inr port ↦
          let own = serves k s want w start n m xs port gives in
          let can = can_parts s want w start n m (length (filter_map (offer k s want w start m own.u) (children_of s n))) own.u own.can in
          let apart = offers_apart s known k want w start n m own.u (λ c ys offers. given_is s known k want w start c (m / own.u) ys offers) in
          let pieces = taken (offer k s want w start m own.u) (children_of s n) (m / own.u) own.u apart in
          let all : Given s n m (first_pieces (offer k s want w start m own.u) (children_of s n) own.u) = record {
            ends = λ x there.
                let source = pieces.from x there in
                (given_is s known k want w start source.piece (m / own.u) source.ys source.gives).ends x source.there;
            under = λ x there.
                let source = pieces.from x there in
                let child = child_from s known n source.piece source.listed in
                under_parent known source.piece (record { node = n; port = child.0 }) child.1 x ((given_is s known k want w start source.piece (m / own.u) source.ys source.gives).under x source.there);
            distinct = pieces.distinct;
            count = taken_length (offer k s want w start m own.u) (children_of s n) (m / own.u) own.u apart can.enough ∙ whole_share own.u m own.count can.divides;
          } in
          subst (Given s n m) own.is all
    ]
