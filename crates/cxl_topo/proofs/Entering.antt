-- A table that is entered with one more node lists it too.
use Rattle.std.proofs.Common.{◌≡◌, ℕ, suc, ◌+◌, ◌<◌, Bool, true, false, ◌&&◌, ◌==◌, cond, List, [], ◌∷◌, ◌++◌, length, get_or, take, Option, Some, None, refl, sym, ap, zero-add, ◌∙◌, inl, inr, arith}
use Rattle.std.specs.Prelude.{position}
use Rattle.std.specs.List.{position_from, cons_option}
use Rattle.std.specs.Option.{option_or, unwrap_or}
use Rattle.std.specs.declared.cmp.Ordering.{Ordering}
use Rattle.std.specs.declared.cmp.Ordering.TheVariants.{Less, Equal, Greater}
use Rattle.std.specs.Ordering.{is_eq, nat_cmp, ordering_then}
use Rattle.std.specs.Cmp.{IsTotalOrder, Equal-is, unsigned_ties}
use Rattle.std.specs.Map.{lookup}
use Rattle.std.specs.BTreeMap.{BTreeMap, Updates, get, is_at}
use Rattle.std.specs.HashMap.{HashMap}
use Rattle.std.specs.HashMap as hash
use Rattle.std.proofs.lemmas.Bool.{cases_Bool, eqb-true}
use Rattle.std.proofs.lemmas.List.{take_more, length-take}
use Rattle.std.proofs.lemmas.List.Elements.{filter_map-append}
use Rattle.std.proofs.lemmas.Iterator.Adapters.{position_from-zero}
use Rattle.cxl_enc.specs.Name.{IsName}
use Rattle.cxl_topo.specs.declared.node.Node.{Node}
use Rattle.cxl_topo.specs.declared.node.NodeKind.TheVariants.{Bridge}
use Rattle.cxl_topo.specs.declared.node.Parent.{Parent}
use Rattle.cxl_topo.specs.declared.tables.NameKey.{NameKey}
use Rattle.cxl_topo.specs.Kinds.{uid_of}
use Rattle.cxl_topo.specs.Tree.{stands_at, is_bridge_with, is_named, bridge_uids}
use Rattle.cxl_topo.specs.Keys.{Enters, name_key, name_eq}
use Rattle.cxl_topo.specs.inner.Tables.{port_cmp, ListsNames}
use Rattle.cxl_topo.proofs.NameKeys.{name_same}

-- ---- the first number under a key stays

module _ {K : Type 0} {cmp : K → K → Ordering} (total : IsTotalOrder cmp) where
  -- equal keys find one value
  alike : (es : List (K × ℕ)) (key q : K) → cmp key q ≡ Equal → lookup (is_at (cmp key)) es ≡ lookup (is_at (cmp q)) es
  alike [] key q e = refl
  alike (x ∷ es) key q e = rw (total.congr key q x.0 e) (ap (λ (rest : Option ℕ). cond (is_at (cmp q) x.0) (Some x.1) rest) (alike es key q e))

  -- a table with what stood at the key, or else the number, is entered
  pub enters : (old new : BTreeMap K ℕ) (key : K) (i w : ℕ) → w ≡ unwrap_or (get cmp old key) i → Updates cmp old new key (Some w) → Enters cmp old new key i
  enters old new key i w is updates q = updates.0 q ∙ go
    where
      kept : (o : Option ℕ) → Some (unwrap_or o i) ≡ option_or o (Some i)
      kept None = refl
      kept (Some j) = refl

      left : (o : Option ℕ) → o ≡ option_or o None
      left None = refl
      left (Some j) = refl

      go : cond (is_at (cmp key) q) (Some w) (get cmp old q) ≡ option_or (get cmp old q) (cond (is_at (cmp key) q) (Some i) None)
      go = elim (cases_Bool (is_at (cmp key) q)) [
        | inl e ↦ rw e (ap Some is ∙ kept (get cmp old key) ∙ ap (λ (o : Option ℕ). option_or o (Some i)) (alike old.entries key q ((Equal-is (cmp key q)).0 e)))
        | inr e ↦ rw e (left (get cmp old q))
      ]

module _ {X : Type 0} (test : X → Bool) where
  position_from_push : (xs : List X) (x : X) (i : ℕ) → position_from test i (xs ++ x ∷ []) ≡ option_or (position_from test i xs) (cond (test x) (Some (i + length xs)) None)
  position_from_push [] x i = let here : i + 0 ≡ i = omega arith in rw here
  position_from_push (y ∷ ys) x i =
      let there : (i + 1) + length ys ≡ i + suc (length ys) = omega arith in
      elim (cases_Bool (test y)) [
        | inl e ↦ rw e
        | inr e ↦ rw e (position_from_push ys x (i + 1) ∙ rw there)
      ]

  -- where a search ends, over a list with one more item
  pub position_push : (xs : List X) (x : X) → position test (xs ++ x ∷ []) ≡ option_or (position test xs) (cond (test x) (Some (length xs)) None)
  position_push xs x = position_from-zero test (xs ++ x ∷ []) ∙ position_from_push xs x 0 ∙ ap (λ (n : ℕ). option_or (position_from test 0 xs) (cond (test x) (Some n) None)) (zero-add (length xs)) ∙ rw (position_from-zero test xs)

  -- the same, one place further in a list
  pub position_more : (xs : List X) (i : ℕ) (d : X) → i < length xs → position test (take (i + 1) xs) ≡ option_or (position test (take i xs)) (cond (test (get_or xs i d)) (Some i) None)
  position_more xs i d lt =
      let long : length (take i xs) ≡ i = omega (arith, length-take i xs) in
      ap (position test) (take_more xs i d lt) ∙ position_push (take i xs) (get_or xs i d) ∙ rw long

module _ {K : Type 0} (cmp : K → K → Ordering) (test : K → Node → Bool) (nodes : List Node) (i : ℕ) (node : Node) (lt : i < length nodes) (is : node ≡ get_or nodes i node) where
  here : (key : K) → position (test key) (take (i + 1) nodes) ≡ option_or (position (test key) (take i nodes)) (cond (test key node) (Some i) None)
  here key = position_more (test key) nodes i node lt ∙ rw (← is)

  -- the node is entered under its key, and so is found at this one where it passes its test
  pub entered_at : (old new : BTreeMap K ℕ) (own key : K) → get cmp old key ≡ position (test key) (take i nodes) → test key node ≡ is_at (cmp own) key → Enters cmp old new own i → get cmp new key ≡ position (test key) (take (i + 1) nodes)
  entered_at old new own key before fits enters = enters key ∙ rw (before, ← fits) (sym (here key))

  pub entered : (old new : BTreeMap K ℕ) (own : K) → ((key : K) → get cmp old key ≡ position (test key) (take i nodes)) → ((key : K) → test key node ≡ is_at (cmp own) key) → Enters cmp old new own i → (key : K) → get cmp new key ≡ position (test key) (take (i + 1) nodes)
  entered old new own before fits enters key = entered_at old new own key (before key) (fits key) enters

  -- the node has no key
  pub passed : (old : BTreeMap K ℕ) → ((key : K) → get cmp old key ≡ position (test key) (take i nodes)) → ((key : K) → test key node ≡ false) → (key : K) → get cmp old key ≡ position (test key) (take (i + 1) nodes)
  passed old before misses key = before key ∙ go (position (test key) (take i nodes)) ∙ sym (here key ∙ rw (misses key))
    where
      go : (o : Option ℕ) → o ≡ option_or o None
      go None = refl
      go (Some j) = refl

-- ---- a node has the key under which it is entered, and no other

both_equal : (a b : Bool) (r s : Ordering) → a ≡ is_eq r → b ≡ is_eq s → (a && b) ≡ is_eq (ordering_then r s)
both_equal a b Less s first second = rw first
both_equal a b Equal s first second = rw first second
both_equal a b Greater s first second = rw first

pub stands_at-own : (node : Node) (own : Parent) → node.parent ≡ Some own → (key : Parent) → stands_at key.node key.port node ≡ is_at (port_cmp own) key
stands_at-own node own is key = rw is (both_equal (own.node == key.node) (own.port == key.port) (nat_cmp own.node key.node) (nat_cmp own.port key.port) (unsigned_ties own.node key.node) (unsigned_ties own.port key.port))

pub is_bridge_with-own : (node : Node) (own : ℕ) → node.kind ≡ Bridge own → (uid : ℕ) → is_bridge_with uid node ≡ is_at (nat_cmp own) uid
is_bridge_with-own node own is uid = rw is (unsigned_ties own uid)

-- ---- a name is entered

-- equal keys are one
pub one_key : (a b : NameKey) → name_eq a b ≡ true → a ≡ b
one_key a b same = let numbers : a.0 ≡ b.0 = eqb-true a.0 b.0 same in λ i. record { 0 = numbers i }

module _ {S : Type 0} (nodes : List Node) (i : ℕ) (node : Node) (lt : i < length nodes) (is : node ≡ get_or nodes i node) (own : IsName node.name) (old new : HashMap NameKey ℕ S) (before : ListsNames (take i nodes) old) where
  -- the number stands under the node's name, which no earlier node has
  pub name_entered : hash.get name_eq old (name_key node.name) ≡ None → ((q : NameKey) → hash.get name_eq new q ≡ cond (name_eq (name_key node.name) q) (Some i) (hash.get name_eq old q)) → ListsNames (take (i + 1) nodes) new
  name_entered none updates name is_name = updates (name_key name) ∙ go ∙ sym (position_more (is_named name) nodes i node lt ∙ rw (← is))
    where
      fits : is_named name node ≡ name_eq (name_key node.name) (name_key name)
      fits = name_same node.name name own is_name

      left : (o : Option ℕ) → o ≡ option_or o None
      left None = refl
      left (Some j) = refl

      go : cond (name_eq (name_key node.name) (name_key name)) (Some i) (hash.get name_eq old (name_key name)) ≡ option_or (position (is_named name) (take i nodes)) (cond (is_named name node) (Some i) None)
      go = elim (cases_Bool (name_eq (name_key node.name) (name_key name))) [
        | inl e ↦ rw (fits, e) (ap (λ (o : Option ℕ). option_or o (Some i)) (sym (sym (before name is_name) ∙ ap (hash.get name_eq old) (sym (one_key (name_key node.name) (name_key name) e)) ∙ none)))
        | inr e ↦ rw (fits, e) (before name is_name ∙ left (position (is_named name) (take i nodes)))
      ]

-- ---- the UIDs of the bridges

-- one more node has its UID at the end, where it is a bridge
pub bridge_uids-more : (nodes : List Node) (i : ℕ) (node : Node) → i < length nodes → node ≡ get_or nodes i node → bridge_uids (take (i + 1) nodes) ≡ bridge_uids (take i nodes) ++ cons_option (uid_of node.kind) []
bridge_uids-more nodes i node lt is = ap bridge_uids (take_more nodes i node lt) ∙ filter_map-append (λ (node : Node). uid_of node.kind) (take i nodes) (get_or nodes i node ∷ []) ∙ rw (← is)
