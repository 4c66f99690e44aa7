-- What ports give, by what their children offer.
use Rattle.std.proofs.Common.{◌≡◌, ℕ, zero, suc, ◌+◌, ◌/◌, ◌%◌, ◌≤◌, Bool, true, false, ◌&&◌, ◌||◌, List, [], ◌∷◌, ◌++◌, length, Option, Some, None, refl, sym, ap, ◌∙◌, arith}
use Rattle.std.specs.Prelude.{◌==◌, nat_le, find}
use Rattle.std.specs.List.{filter_map, cons_option, range_with_len}
use Rattle.std.proofs.lemmas.List.{length-append}
use Rattle.std.proofs.lemmas.List.Elements.{filter_map-append}
use Rattle.cxl_enc.specs.Codes.{bits_of}
use Rattle.cxl_enc.specs.Caps.{targets_of}
use Rattle.cxl_enc.proofs.Numbers.{numbers_append}
use Rattle.cxl_regs.specs.Rules.{select_ok}
use Rattle.cxl_legal.specs.Endpoints.{cap_at}
use Rattle.cxl_window.specs.Fields.{WindowFields}
use Rattle.cxl_model.specs.System.{System}
use Rattle.cxl_pick.specs.declared.want.Want.{Want}
use Rattle.cxl_pick.specs.Picking.{is_open, port_code, can_serve_by}
use Rattle.cxl_pick.specs.inner.Gifts.{can_lead}
use Rattle.cxl_reason.specs.declared.gifts.Counts.{Counts}
use Rattle.cxl_reason.specs.inner.Gifts.{AreCounts, one_if}
use Rattle.cxl_reason.proofs.Lists.{numbers_given, no_more_given, count_one}

-- ---- counts

pub counts_same : (counts : Counts) (f g : ℕ → ℕ) → ((m : ℕ) → f m ≡ g m) → AreCounts counts f → AreCounts counts g
counts_same counts f g same are = record {
  one = are.one ∙ same 1;
  two = are.two ∙ same 2;
  three = are.three ∙ same 3;
  four = are.four ∙ same 4;
  six = are.six ∙ same 6;
  eight = are.eight ∙ same 8;
  twelve = are.twelve ∙ same 12;
  sixteen = are.sixteen ∙ same 16;
}

-- ---- ports

abbrev rest_of : System → Want → WindowFields → ℕ → ℕ → ℕ → ℕ → Bool → Bool
rest_of s want w n m willing u b =
    b && (m % u == 0) && nat_le u (targets_of (cap_at s n)) && nat_le u willing && ((u == 1) || (nat_le (port_code want w m) 6 && select_ok (cap_at s n) (port_code want w m) (bits_of u)))

-- a port that is open serves as it leads
pub open_one : (s : System) (want : Want) (w : WindowFields) (start n m : ℕ) (offers : ℕ → ℕ) → is_open s start n ≡ true
    → one_if (find (λ u. can_lead s want w n m (offers (m / u)) u) (8 ∷ 4 ∷ 2 ∷ 1 ∷ [])) ≡ one_if (find (λ u. can_serve_by s want w start n m (offers (m / u)) u) (8 ∷ 4 ∷ 2 ∷ 1 ∷ []))
open_one s want w start n m offers opened =
    λ i. one_if (find (λ u. rest_of s want w n m (offers (m / u)) u (sym opened i)) (8 ∷ 4 ∷ 2 ∷ 1 ∷ []))

-- and one that is not serves by none
pub shut_one : (s : System) (want : Want) (w : WindowFields) (start n m : ℕ) (offers : ℕ → ℕ) → is_open s start n ≡ false
    → 0 ≡ one_if (find (λ u. can_serve_by s want w start n m (offers (m / u)) u) (8 ∷ 4 ∷ 2 ∷ 1 ∷ []))
shut_one s want w start n m offers shut =
    λ i. one_if (find (λ u. rest_of s want w n m (offers (m / u)) u (sym shut i)) (8 ∷ 4 ∷ 2 ∷ 1 ∷ []))

-- ---- children

-- no more children have something than there are ports
pub few_offers : {Y : Type 0} (f : ℕ → Option Y) (g : ℕ → Option ℕ) (port : ℕ) → length (filter_map f (filter_map g (range_with_len 0 port))) ≤ port
few_offers f g port =
    let outer = no_more_given f (filter_map g (range_with_len 0 port)) in
    let inner = no_more_given g (range_with_len 0 port) in
    let all = range_long 0 port in
    omega (arith, outer, inner, all)
  where
    range_long : (a n : ℕ) → length (range_with_len a n) ≡ n
    range_long a zero = refl
    range_long a (suc n) = let rest = range_long (a + 1) n in omega (arith, rest)

-- a port without a child adds nothing
pub no_child : {Y : Type 0} (f : ℕ → Option Y) (g : ℕ → Option ℕ) (port : ℕ) → g port ≡ None
    → length (filter_map f (filter_map g (range_with_len 0 port))) ≡ length (filter_map f (filter_map g (range_with_len 0 (port + 1))))
no_child f g port none =
    ap (λ (cs : List ℕ). length (filter_map f cs)) (sym (append_nil (filter_map g (range_with_len 0 port))) ∙ ap (λ o. filter_map g (range_with_len 0 port) ++ cons_option o []) (sym none) ∙ sym (numbers_given g port))
  where
    append_nil : (xs : List ℕ) → xs ++ [] ≡ xs
    append_nil [] = refl
    append_nil (x ∷ xs) = ap (λ ys. x ∷ ys) (append_nil xs)

-- and a child what it gives
pub one_child : {Y : Type 0} (f : ℕ → Option Y) (g : ℕ → Option ℕ) (port c : ℕ) → g port ≡ Some c
    → length (filter_map f (filter_map g (range_with_len 0 port))) + one_if (f c) ≡ length (filter_map f (filter_map g (range_with_len 0 (port + 1))))
one_child f g port c some =
    let before = filter_map g (range_with_len 0 port) in
    ap (λ (k : ℕ). length (filter_map f before) + k) (sym (count_one (f c)))
    ∙ sym (length-append (filter_map f before) (filter_map f (c ∷ [])))
    ∙ ap length (sym (filter_map-append f before (c ∷ [])))
    ∙ ap (λ (o : Option ℕ). length (filter_map f (before ++ cons_option o []))) (sym some)
    ∙ ap (λ (cs : List ℕ). length (filter_map f cs)) (sym (numbers_given g port))

-- above the last port with a child nothing more comes
pub no_more_children : (g : ℕ → Option ℕ) (a k : ℕ) → ((port : ℕ) → a ≤ port → g port ≡ None) → filter_map g (range_with_len 0 a) ≡ filter_map g (range_with_len 0 (a + k))
no_more_children g a k none =
    sym (append_nil (filter_map g (range_with_len 0 a)))
    ∙ ap (λ ys. filter_map g (range_with_len 0 a) ++ ys) (sym (all_none a k (omega arith)))
    ∙ sym (ap (filter_map g) (numbers_append 0 a k) ∙ filter_map-append g (range_with_len 0 a) (range_with_len (0 + a) k) ∙ ap (λ (b : ℕ). filter_map g (range_with_len 0 a) ++ filter_map g (range_with_len b k)) (omega arith))
  where
    append_nil : (xs : List ℕ) → xs ++ [] ≡ xs
    append_nil [] = refl
    append_nil (x ∷ xs) = ap (λ ys. x ∷ ys) (append_nil xs)

    all_none : (b j : ℕ) → a ≤ b → filter_map g (range_with_len b j) ≡ []
    all_none b zero above = refl
    all_none b (suc j) above = ap (λ o. cons_option o (filter_map g (range_with_len (b + 1) j))) (none b above) ∙ all_none (b + 1) j (omega (arith, above))
