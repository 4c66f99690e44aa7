-- A set that is given in a window: endpoints, as many as are wanted, each from one target.
use Rattle.std.proofs.Common.{◌≡◌, ◌≢◌, ℕ, ◌*◌, ◌/◌, ◌%◌, ◌<◌, Bool, true, false, not, ◌&&◌, if◌then◌else◌, List, [], ◌∷◌, length, get_or, map, Option, Some, None, refl, sym, ap, ◌∙◌, arith}
use Rattle.std.specs.Prelude.{◌==◌, All, AllPairs, filter, option_and_then, slice_get}
use Rattle.std.proofs.Math.Nat.{div-add-mod}
use Rattle.std.proofs.lemmas.Bool.{and_parts, eqb-true, eq-eqb}
use Rattle.std.proofs.lemmas.Option.{none-some, same_Some}
use Rattle.std.proofs.lemmas.List.Folds.{list_any_at}
use Rattle.cxl_enc.specs.Codes.{is_ways}
use Rattle.cxl_enc.proofs.Tests.{same_test, and_true}
use Rattle.cxl_enc.proofs.Lists.{is_in, in_from, in_is}
use Rattle.cxl_enc.proofs.Ways.{some_ways}
use Rattle.cxl_topo.specs.Laws.{AreTreeLaws}
use Rattle.cxl_topo.specs.Tree.{is_endpoint_at, uid_at, bridge_with}
use Rattle.cxl_window.specs.Fields.{WindowFields}
use Rattle.cxl_window.specs.Position.{is_usable}
use Rattle.cxl_topo.proofs.Trees.{KnownTree, endpoint_within}
use Rattle.cxl_regs.specs.Words.{has_bit}
use Rattle.cxl_model.specs.System.{System, IsSystem}
use Rattle.cxl_model.specs.Rules.{permits}
use Rattle.cxl_model.proofs.Distinct.{distinct_test}
use Rattle.cxl_legal.specs.Used.{HasBytePorts, AreEndpoints}
use Rattle.cxl_legal.specs.Windows.{agrees_on_gran}
use Rattle.cxl_pick.specs.declared.want.Want.{Want}
use Rattle.cxl_pick.specs.Picking.{asked, can_take, latest_start, gives, gives_within, all_given, given_in, AreInOrder}
use Rattle.cxl_pick.proofs.Lists.{same_length}
use Rattle.cxl_pick.proofs.Shares.{Asked}
use Rattle.cxl_pick.proofs.Tops.{BridgeOf, bridge_of, bridge_node, one_top}
use Rattle.cxl_pick.proofs.Evenly.{Windowed, windowed}
use Rattle.cxl_pick.proofs.Pieces.{Apart, AllPieces, all_pieces}
use Rattle.cxl_pick.proofs.Taking.{given_is}

-- ---- a window's parts

pub record Takes (want : Want) (w : WindowFields) : Type 0 where
  pub usable : is_usable w.verdict ≡ true
  pub kind : permits w want.kind ≡ true
  pub not_fixed : not (has_bit w.restrict 4) ≡ true
  pub gran : agrees_on_gran want.gran w ≡ true
  pub divides : want.ways % w.ways ≡ 0

pub take_parts : (want : Want) (w : WindowFields) → can_take want w ≡ true → Takes want w
take_parts want w can =
    let a = and_parts (is_usable w.verdict && permits w want.kind && not (has_bit w.restrict 4) && agrees_on_gran want.gran w) (want.ways % w.ways == 0) can in
    let b = and_parts (is_usable w.verdict && permits w want.kind && not (has_bit w.restrict 4)) (agrees_on_gran want.gran w) a.0 in
    let c = and_parts (is_usable w.verdict && permits w want.kind) (not (has_bit w.restrict 4)) b.0 in
    let d = and_parts (is_usable w.verdict) (permits w want.kind) c.0 in
    record { usable = d.0; kind = d.1; not_fixed = c.1; gran = b.1; divides = eqb-true (want.ways % w.ways) 0 a.1 }

-- what a target gives
abbrev pub at_target : System → Want → WindowFields → ℕ → ℕ → Option (List ℕ)
at_target s want w start uid = option_and_then (λ b. gives s want w start b (want.ways / w.ways)) (bridge_with s.nodes uid)

pub record InWindow (s : System) (want : Want) (w : WindowFields) (given : List ℕ) : Type 0 where
  pub takes : Takes want w
  pub start : ℕ
  pub starts : latest_start want w ≡ Some start
  pub all : all_given (map (at_target s want w start) w.targets) ≡ Some given

pub in_window : (s : System) (want : Want) (w : WindowFields) (given : List ℕ) → given_in s want w ≡ Some given → InWindow s want w given
in_window s want w given is = first (can_take want w) refl is
  where
    second : can_take want w ≡ true → (o : Option ℕ) → latest_start want w ≡ o
        → option_and_then (λ start. all_given (map (λ uid. option_and_then (λ b. gives s want w start b (want.ways / w.ways)) (bridge_with s.nodes uid)) w.targets)) o ≡ Some given → InWindow s want w given
    second can None at none = absurd (none-some given none)
    second can (Some start) at some = record { takes = take_parts want w can; start = start; starts = at; all = some }

    first : (b : Bool) → can_take want w ≡ b
        → (if b then option_and_then (λ start. all_given (map (λ uid. option_and_then (λ b. gives s want w start b (want.ways / w.ways)) (bridge_with s.nodes uid)) w.targets)) (latest_start want w) else None) ≡ Some given
        → InWindow s want w given
    first true can some = second can (latest_start want w) refl some
    first false can none = absurd (none-some given none)

-- ---- a pick

-- what a window of a system gives
pub record OfWindow (s : System) (want : Want) (w : WindowFields) (given : List ℕ) : Type 0 where
  pub laws : AreTreeLaws s.nodes
  pub system : IsSystem s
  pub there : slice_get s.windows w.index ≡ Some w
  pub window : InWindow s want w given

-- and the same numbers in rising order
pub record Picked (s : System) (want : Want) (w : WindowFields) (given set : List ℕ) : Type 0 where
  pub of : OfWindow s want w given
  pub ports : HasBytePorts s.nodes
  pub ways : is_ways want.ways ≡ true
  pub rising : AreInOrder given set

pub known_of : {s : System} {want : Want} {w : WindowFields} {given : List ℕ} → OfWindow s want w given → KnownTree s.nodes
known_of of = record { tree = of.system.tree; laws = of.laws }

pub own_window : {s : System} {want : Want} {w : WindowFields} {given : List ℕ} → OfWindow s want w given → Windowed w
own_window {s} {want} {w} of = windowed s w of.system of.there of.window.takes.usable

pub record AtTarget (s : System) (want : Want) (w : WindowFields) (start uid : ℕ) (ys : List ℕ) : Type 0 where
  pub own : BridgeOf s.nodes uid
  pub gives : gives_within (length s.nodes) s want w start own.node (want.ways / w.ways) ≡ Some ys

pub at_bridge : {s : System} {want : Want} {w : WindowFields} {given : List ℕ} → OfWindow s want w given → (start uid : ℕ) (ys : List ℕ) → at_target s want w start uid ≡ Some ys → AtTarget s want w start uid ys
at_bridge {s} {want} {w} of start uid ys is = go (bridge_with s.nodes uid) refl is
  where
    go : (o : Option ℕ) → bridge_with s.nodes uid ≡ o → option_and_then (λ b. gives s want w start b (want.ways / w.ways)) o ≡ Some ys → AtTarget s want w start uid ys
    go None at none = absurd (none-some ys none)
    go (Some b) at some = record {
      own = bridge_of (known_of of) uid b at;
      gives = ap (λ (n : ℕ). gives_within (length s.nodes) s want w start n (want.ways / w.ways)) (bridge_node (known_of of) uid b at) ∙ some;
    }

apart_targets : {s : System} {want : Want} {w : WindowFields} {given : List ℕ} → (of : OfWindow s want w given) → Apart (at_target s want w of.window.start) w.targets (want.ways / w.ways)
apart_targets {s} {want} {w} of = record {
  long = λ uid ys there is.
      let at = at_bridge of of.window.start uid ys is in
      (given_is s (known_of of) (length s.nodes) want w of.window.start at.own.node (want.ways / w.ways) ys at.gives).count;
  single = λ uid ys there is.
      let at = at_bridge of of.window.start uid ys is in
      (given_is s (known_of of) (length s.nodes) want w of.window.start at.own.node (want.ways / w.ways) ys at.gives).distinct;
  apart = λ c d x ys zs here there is also in_ys in_zs.
      let at = at_bridge of of.window.start c ys is in
      let other = at_bridge of of.window.start d zs also in
      let first = (given_is s (known_of of) (length s.nodes) want w of.window.start at.own.node (want.ways / w.ways) ys at.gives).under x in_ys in
      let second = (given_is s (known_of of) (length s.nodes) want w of.window.start other.own.node (want.ways / w.ways) zs other.gives).under x in_zs in
      let same : at.own.node ≡ other.own.node = one_top (known_of of) at.own.node other.own.node at.own.top other.own.top x first second in
      same_Some c d (sym at.own.uid_is ∙ ap (uid_at s.nodes) same ∙ other.own.uid_is);
  differ = distinct_test w.targets (own_window of).usable.distinct;
}

pub all_targets : {s : System} {want : Want} {w : WindowFields} {given : List ℕ} → (of : OfWindow s want w given) → AllPieces (at_target s want w of.window.start) w.targets (want.ways / w.ways) given
all_targets {s} {want} {w} {given} of = all_pieces (at_target s want w of.window.start) w.targets (want.ways / w.ways) given (apart_targets of) of.window.all

-- ---- the set

pub in_given : {s : System} {want : Want} {w : WindowFields} {given set : List ℕ} → Picked s want w given set → (x : ℕ) → is_in x set ≡ true → is_in x given ≡ true
in_given {s} {want} {w} {given} {set} picked x there = in_from given x ((picked.rising.same x).1 (in_is set x there))

pub in_set : {s : System} {want : Want} {w : WindowFields} {given set : List ℕ} → Picked s want w given set → (x : ℕ) → is_in x given ≡ true → is_in x set ≡ true
in_set {s} {want} {w} {given} {set} picked x there = in_from set x ((picked.rising.same x).0 (in_is given x there))

pub given_endpoint : {s : System} {want : Want} {w : WindowFields} {given : List ℕ} → OfWindow s want w given → (x : ℕ) → is_in x given ≡ true → is_endpoint_at s.nodes x ≡ true
given_endpoint {s} {want} {w} {given} of x there =
    let source = (all_targets of).pieces.from x there in
    let at = at_bridge of of.window.start source.piece source.ys source.gives in
    (given_is s (known_of of) (length s.nodes) want w of.window.start at.own.node (want.ways / w.ways) source.ys at.gives).ends x source.there

pub named : {s : System} {want : Want} {w : WindowFields} {given set : List ℕ} → Picked s want w given set → AreEndpoints s (asked want set)
named {s} {want} {w} {given} {set} picked = λ k d within.
    let x : ℕ = get_or set k d in
    given_endpoint picked.of x (in_given picked x (list_any_at (λ m. m == x) set k d within (eq-eqb x x refl)))

pub differ : {s : System} {want : Want} {w : WindowFields} {given set : List ℕ} → Picked s want w given set → AllPairs (λ a b. a ≢ b) set
differ picked = λ i j d less within same. let low = picked.rising.order i j d less within in omega (arith, low, same)

pub set_asked : {s : System} {want : Want} {w : WindowFields} {given set : List ℕ} → Picked s want w given set → Asked s (asked want set)
set_asked picked = record { known = known_of picked.of; ports = picked.ports; named = named picked }

pub all_below : (s : System) (xs : List ℕ) → ((x : ℕ) → is_in x xs ≡ true → is_endpoint_at s.nodes x ≡ true) → All (λ x. x < length s.nodes) xs
all_below s xs ends = λ k d within.
    let x : ℕ = get_or xs k d in
    endpoint_within s.nodes x (ends x (list_any_at (λ m. m == x) xs k d within (eq-eqb x x refl)))

filter_all : (xs : List ℕ) → filter (λ (x : ℕ). true) xs ≡ xs
filter_all [] = refl
filter_all (x ∷ xs) = ap (λ ys. x ∷ ys) (filter_all xs)

-- there are as many as are wanted
pub set_long : {s : System} {want : Want} {w : WindowFields} {given set : List ℕ} → Picked s want w given set → length set ≡ want.ways
set_long {s} {want} {w} {given} {set} picked =
    ap (λ (xs : List ℕ). length xs) (sym (filter_all set))
    ∙ same_length (length s.nodes) (λ x. true) set given (distinct_test set (differ picked)) (all_targets picked.of).pieces.distinct
    (all_below s set (λ x there. given_endpoint picked.of x (in_given picked x there)))
    (all_below s given (given_endpoint picked.of))
    (λ x. and_true (is_in x set) ∙ same_test (is_in x set) (is_in x given) (in_given picked x) (in_set picked x))
    ∙ (all_targets picked.of).long
    ∙ ap (λ (k : ℕ). k * (want.ways / w.ways)) (own_window picked.of).known.target_each_way
    ∙ whole w.ways want.ways (some_ways w.ways (own_window picked.of).known.ways_known) picked.of.window.takes.divides
  where
    whole : (a n : ℕ) → 0 < a → n % a ≡ 0 → a * (n / a) ≡ n
    whole a n some even = let split = div-add-mod n a in omega (arith, split, even)
