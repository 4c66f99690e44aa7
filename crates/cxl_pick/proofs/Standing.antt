-- Each node above a set that is given gave those of the set that lie under it.
use Rattle.std.proofs.Common.{◌≡◌, ℕ, zero, suc, ◌/◌, true, false, ◌&&◌, List, length, get_or, Some, None, refl, sym, ap, ◌∙◌, subst}
use Rattle.std.specs.Prelude.{◌==◌}
use Rattle.std.proofs.lemmas.Bool.{and_parts, and_from, eq-eqb}
use Rattle.std.proofs.lemmas.Option.{none-some, same_Some}
use Rattle.std.proofs.lemmas.List.Folds.{Any-from_list_any, list_any_at}
use Rattle.cxl_enc.proofs.Tests.{same_test}
use Rattle.cxl_enc.proofs.Lists.{is_in}
use Rattle.cxl_topo.specs.declared.node.Parent.{Parent}
use Rattle.cxl_topo.specs.Tree.{is_endpoint_at, parent_of}
use Rattle.cxl_window.specs.Fields.{WindowFields}
use Rattle.cxl_topo.proofs.Trees.{up_tree, parent_is_port, port_no_endpoint}
use Rattle.cxl_model.specs.System.{System}
use Rattle.cxl_model.specs.Counts.{is_under}
use Rattle.cxl_model.proofs.Under.{under_parent}
use Rattle.cxl_model.proofs.Distinct.{distinct_test}
use Rattle.cxl_legal.specs.Used.{is_used, count_under}
use Rattle.cxl_pick.specs.declared.want.Want.{Want}
use Rattle.cxl_pick.specs.Picking.{asked, children_of, gives_within}
use Rattle.cxl_pick.proofs.Below.{one_child}
use Rattle.cxl_pick.proofs.Lists.{same_length}
use Rattle.cxl_pick.proofs.Shares.{used_parent}
use Rattle.cxl_pick.proofs.Tops.{one_top}
use Rattle.cxl_pick.proofs.Giving.{gives_none}
use Rattle.cxl_pick.proofs.Pieces.{Source, first_pieces, taken}
use Rattle.cxl_pick.proofs.Taking.{offer, Serves, serves, child_from, Given, offers_apart, given_is}
use Rattle.cxl_pick.proofs.Parts.{at_target, Picked, known_of, AtTarget, at_bridge, all_targets, in_given, in_set, given_endpoint, differ, set_asked, all_below}

-- what node n gave, from the level k on, is what lies of the set under it
pub record Part (s : System) (want : Want) (w : WindowFields) (start : ℕ) (set : List ℕ) (n : ℕ) : Type 0 where
  pub k : ℕ
  pub m : ℕ
  pub xs : List ℕ
  pub gave : gives_within k s want w start n m ≡ Some xs
  pub same : (x : ℕ) → is_in x set ≡ true → is_under s.nodes n x ≡ true → is_in x xs ≡ true
  pub from : (x : ℕ) → is_in x xs ≡ true → is_in x set ≡ true

-- so many of the set lie under it
pub part_count : {s : System} {want : Want} {w : WindowFields} {given set : List ℕ} → (picked : Picked s want w given set) → (n : ℕ)
    → (part : Part s want w picked.of.window.start set n) → count_under s (asked want set) n ≡ part.m
part_count {s} {want} {w} {given} {set} picked n part =
    same_length (length s.nodes) (is_under s.nodes n) set part.xs (distinct_test set (differ picked)) own.distinct
    (all_below s set (λ x there. given_endpoint picked.of x (in_given picked x there)))
    (all_below s part.xs own.ends)
    (λ x. same_test (is_in x set && is_under s.nodes n x) (is_in x part.xs)
    (λ both. let parts = and_parts (is_in x set) (is_under s.nodes n x) both in part.same x parts.0 parts.1)
    (λ there. and_from (is_in x set) (is_under s.nodes n x) (part.from x there) (own.under x there)))
    ∙ own.count
  where
    own : Given s n part.m part.xs
    own = given_is s (known_of picked.of) part.k want w picked.of.window.start n part.m part.xs part.gave

-- ---- at the top

-- a part of so many
pub record Share (s : System) (want : Want) (w : WindowFields) (start : ℕ) (set : List ℕ) (n v : ℕ) : Type 0 where
  pub part : Part s want w start set n
  pub is : part.m ≡ v

-- a member of the set that lies under a used node
pub record Member (s : System) (set : List ℕ) (n : ℕ) : Type 0 where
  pub x : ℕ
  pub there : is_in x set ≡ true
  pub under : is_under s.nodes n x ≡ true

pub member : (s : System) (want : Want) (set : List ℕ) (n : ℕ) → is_used s (asked want set) n ≡ true → Member s set n
member s want set n used =
    let some = Any-from_list_any (is_under s.nodes n) set used in
    record { x = some.1; there = list_any_at (λ m. m == some.1) set some.0 some.1 some.2 (eq-eqb (get_or set some.0 some.1) some.1 some.3); under = some.4 }

-- a piece of the window's targets
pub target_part : {s : System} {want : Want} {w : WindowFields} {given set : List ℕ} → (picked : Picked s want w given set) → (uid : ℕ) → (ys : List ℕ) → at_target s want w picked.of.window.start uid ≡ Some ys
    → ((y : ℕ) → is_in y ys ≡ true → is_in y given ≡ true) → (n : ℕ) → (at : AtTarget s want w picked.of.window.start uid ys) → at.own.node ≡ n → Share s want w picked.of.window.start set n (want.ways / w.ways)
target_part {s} {want} {w} {given} {set} picked uid ys is into n at node = record {
  part = record {
    k = length s.nodes;
    m = want.ways / w.ways;
    xs = ys;
    gave = gave;
    same = λ x there under.
        let source = (all_targets picked.of).pieces.from x (in_given picked x there) in
        let other = at_bridge picked.of picked.of.window.start source.piece source.ys source.gives in
        let lies = (given_is s (known_of picked.of) (length s.nodes) want w picked.of.window.start other.own.node (want.ways / w.ways) source.ys other.gives).under x source.there in
        let top : parent_of s.nodes n ≡ None = subst (λ (b : ℕ). parent_of s.nodes b ≡ None) node at.own.top in
        let equal : other.own.node ≡ n = one_top (known_of picked.of) other.own.node n other.own.top top x lies under in
        let lists : source.ys ≡ ys = same_Some source.ys ys (sym other.gives ∙ ap (λ (b : ℕ). gives_within (length s.nodes) s want w picked.of.window.start b (want.ways / w.ways)) equal ∙ gave) in
        subst (λ (zs : List ℕ). is_in x zs ≡ true) lists source.there;
    from = λ x there. in_set picked x (into x there);
  };
  is = refl;
}
  where
    gave : gives_within (length s.nodes) s want w picked.of.window.start n (want.ways / w.ways) ≡ Some ys
    gave = ap (λ (b : ℕ). gives_within (length s.nodes) s want w picked.of.window.start b (want.ways / w.ways)) (sym node) ∙ at.gives

-- a used node without a parent gave its share of the ways
pub top_part : {s : System} {want : Want} {w : WindowFields} {given set : List ℕ} → (picked : Picked s want w given set) → (n : ℕ) → parent_of s.nodes n ≡ None → is_used s (asked want set) n ≡ true
    → Share s want w picked.of.window.start set n (want.ways / w.ways)
top_part {s} {want} {w} {given} {set} picked n top used =
    let some = member s want set n used in
    let source = (all_targets picked.of).pieces.from some.x (in_given picked some.x some.there) in
    let at = at_bridge picked.of picked.of.window.start source.piece source.ys source.gives in
    let lies = (given_is s (known_of picked.of) (length s.nodes) want w picked.of.window.start at.own.node (want.ways / w.ways) source.ys at.gives).under some.x source.there in
    target_part picked source.piece source.ys source.gives source.into n at (one_top (known_of picked.of) at.own.node n at.own.top top some.x lies some.under)

-- ---- below a port

-- a part of a port comes from a level above it
pub record FromPort (s : System) (want : Want) (w : WindowFields) (start : ℕ) (n m : ℕ) (xs : List ℕ) : Type 0 where
  pub k : ℕ
  pub gave : gives_within (suc k) s want w start n m ≡ Some xs
  pub own : Serves k s want w start n m xs

pub from_port : (s : System) (want : Want) (w : WindowFields) (start n m : ℕ) (xs : List ℕ) (k : ℕ) → is_endpoint_at s.nodes n ≡ false → gives_within k s want w start n m ≡ Some xs → FromPort s want w start n m xs
from_port s want w start n m xs zero port gave = absurd (none-some xs (sym (gives_none s want w start n m) ∙ gave))
from_port s want w start n m xs (suc k) port gave = record { k = k; gave = gave; own = serves k s want w start n m xs port gave }

-- a used child of a port that gave has its share of the port's part
pub child_part : {s : System} {want : Want} {w : WindowFields} {given set : List ℕ} → (picked : Picked s want w given set) → (n : ℕ) → (part : Part s want w picked.of.window.start set n)
    → (at : FromPort s want w picked.of.window.start n part.m part.xs) → (c : ℕ) (p : Parent) → parent_of s.nodes c ≡ Some p → p.node ≡ n → is_used s (asked want set) c ≡ true
    → Share s want w picked.of.window.start set c (part.m / at.own.u)
child_part {s} {want} {w} {given} {set} picked n part at c p child node used =
    let some = member s want set c used in
    let source = whole some.x some.there some.under in
    let equal = same_child some.x source some.under in
    record {
      part = record {
        k = at.k;
        m = part.m / at.own.u;
        xs = source.ys;
        gave = ap (λ (b : ℕ). offer at.k s want w picked.of.window.start part.m at.own.u b) (sym equal) ∙ source.gives;
        same = λ x there under.
            let other = whole x there under in
            let also = same_child x other under in
            let lists : other.ys ≡ source.ys =
            same_Some other.ys source.ys (sym other.gives ∙ ap (λ (b : ℕ). offer at.k s want w picked.of.window.start part.m at.own.u b) (also ∙ sym equal) ∙ source.gives) in
            subst (λ (zs : List ℕ). is_in x zs ≡ true) lists other.there;
        from = λ x there. part.from x (subst (λ (zs : List ℕ). is_in x zs ≡ true) at.own.is (source.into x there));
      };
      is = refl;
    }
  where
    -- what lies under the child came from one of the port's children
    whole : (x : ℕ) → is_in x set ≡ true → is_under s.nodes c x ≡ true
        → Source (offer at.k s want w picked.of.window.start part.m at.own.u) (children_of s n) (first_pieces (offer at.k s want w picked.of.window.start part.m at.own.u) (children_of s n) at.own.u) x
    whole x there under =
        let higher : is_under s.nodes n x ≡ true = subst (λ (q : ℕ). is_under s.nodes q x ≡ true) node (under_parent (known_of picked.of) c p child x under) in
        (taken (offer at.k s want w picked.of.window.start part.m at.own.u) (children_of s n) (part.m / at.own.u) at.own.u
        (offers_apart s (known_of picked.of) at.k want w picked.of.window.start n part.m at.own.u (λ d ys offers. given_is s (known_of picked.of) at.k want w picked.of.window.start d (part.m / at.own.u) ys offers))).from x
        (subst (λ (zs : List ℕ). is_in x zs ≡ true) (sym at.own.is) (part.same x there higher))

    -- and that child is this one
    same_child : (x : ℕ)
        → (source : Source (offer at.k s want w picked.of.window.start part.m at.own.u) (children_of s n) (first_pieces (offer at.k s want w picked.of.window.start part.m at.own.u) (children_of s n) at.own.u) x)
        → is_under s.nodes c x ≡ true → source.piece ≡ c
    same_child x source under =
        let own = child_from s (known_of picked.of) n source.piece source.listed in
        one_child (known_of picked.of) source.piece c (record { node = n; port = own.0 }) p own.1 child (sym node) x
        ((given_is s (known_of picked.of) at.k want w picked.of.window.start source.piece (part.m / at.own.u) source.ys source.gives).under x source.there) under

-- each used node gave
pub used_part : {s : System} {want : Want} {w : WindowFields} {given set : List ℕ} → (picked : Picked s want w given set) → (n : ℕ) → is_used s (asked want set) n ≡ true → Part s want w picked.of.window.start set n
used_part {s} {want} {w} {given} {set} picked =
    up_tree (known_of picked.of) (λ n. is_used s (asked want set) n ≡ true → Part s want w picked.of.window.start set n)
    (λ n none used. (top_part picked n none used).part)
    (λ n p some rest used.
    let part = rest (used_parent (set_asked picked) n p some used) in
    let at = from_port s want w picked.of.window.start p.node part.m part.xs part.k (port_no_endpoint s.nodes p.node (parent_is_port (known_of picked.of) n p some).1) part.gave in
    (child_part picked p.node part at n p some refl used).part)
