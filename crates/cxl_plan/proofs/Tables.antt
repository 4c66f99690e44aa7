-- The tables of used nodes and ports, one entry at a time.
use Rattle.std.proofs.Common.{◌≡◌, ℕ, zero, suc, ◌+◌, ◌<◌, ◌≤◌, Bool, true, false, ◌||◌, ◌&&◌, List, [], ◌∷◌, ◌++◌, length, get_or, take, filter, replicate, Option, Some, None, refl, sym, ap, subst, ◌∙◌, inl, inr, arith, if◌then◌else◌}
use Rattle.std.specs.Prelude.{slice_get, ◌==◌, nat_lt}
use Rattle.std.specs.Option.{option_map_or}
use Rattle.std.specs.List.{list_any, range_with_len, All}
use Rattle.std.proofs.lemmas.Bool.{and_parts, and_from, cases_Bool, cases_eq, cases_lt, eq-eqb, eqb-true, ne_eqb, lt-ltb, false≢true, or_right}
use Rattle.std.proofs.lemmas.List.{take_more}
use Rattle.std.proofs.lemmas.List.Folds.{list_any-append}
use Rattle.std.proofs.lemmas.Option.{none-some, same_Some, slice_get_within}
use Rattle.cxl_enc.proofs.Tests.{or_false}
use Rattle.cxl_enc.proofs.Options.{cases_Option}
use Rattle.cxl_enc.proofs.Lists.{get_last, zeros_at}
use Rattle.cxl_topo.specs.declared.node.Node.{Node}
use Rattle.cxl_topo.specs.declared.node.Parent.{Parent}
use Rattle.cxl_topo.specs.Tree.{is_endpoint_at, parent_of, child_of}
use Rattle.cxl_topo.specs.Laws.{AreTreeLaws}
use Rattle.cxl_topo.proofs.Trees.{KnownTree, parent_within, parent_is_port, port_no_endpoint}
use Rattle.cxl_model.specs.declared.request.Request.{Request}
use Rattle.cxl_model.specs.Counts.{is_under}
use Rattle.cxl_legal.specs.Used.{is_used, count_under, count_at_port, is_port_used}
use Rattle.cxl_plan.specs.inner.Uses.{tree_alone, ports_at, used_nodes}
use Rattle.cxl_plan.specs.inner.AtPorts.{entered_at, is_entered, ArePortsOf}

-- one item more
pub any_more : (p : ℕ → Bool) (xs : List ℕ) (i d : ℕ) → i < length xs → list_any p (take (i + 1) xs) ≡ (list_any p (take i xs) || p (get_or xs i d))
any_more p xs i d lt =
    ap (list_any p) (take_more xs i d lt) ∙ list_any-append p (take i xs) (get_or xs i d ∷ [])
    ∙ ap (λ (b : Bool). list_any p (take i xs) || b) (elim (cases_Bool (p (get_or xs i d))) [ inl e ↦ rw e refl | inr e ↦ rw e refl ])

-- ---- counts

pub filter_short : (p : ℕ → Bool) (xs : List ℕ) → length (filter p xs) ≤ length xs
filter_short p [] = omega arith
filter_short p (x ∷ xs) =
    let rest = filter_short p xs in
    elim (cases_Bool (p x)) [ inl e ↦ rw e (omega arith) | inr e ↦ rw e (omega arith) ]

pub filter_empty : (p : ℕ → Bool) (xs : List ℕ) → list_any p xs ≡ false → filter p xs ≡ []
filter_empty p [] none = refl
filter_empty p (x ∷ xs) none =
    elim (cases_Bool (p x)) [
      | inl e ↦ absurd (false≢true (sym none ∙ rw e refl))
      | inr e ↦ rw e (filter_empty p xs (rw e at none))
    ]

-- some pass where one does
pub counted : (p : ℕ → Bool) (xs : List ℕ) → nat_lt 0 (length (filter p xs)) ≡ list_any p xs
counted p [] = refl
counted p (x ∷ xs) =
    elim (cases_Bool (p x)) [
      | inl e ↦ rw e (lt-ltb 0 (suc (length (filter p xs))) (omega arith))
      | inr e ↦ rw e (counted p xs)
    ]

-- ---- lists of numbers

pub filter_same : (p q : ℕ → Bool) (a n : ℕ) → ((k : ℕ) → a ≤ k → k < a + n → p k ≡ q k) → filter p (range_with_len a n) ≡ filter q (range_with_len a n)
filter_same p q a zero same = refl
filter_same p q a (suc n) same =
    let here : p a ≡ q a = same a (omega arith) (omega arith) in
    let rest = filter_same p q (a + 1) n (λ k from below. same k (omega arith) (omega arith)) in
    elim (cases_Bool (q a)) [
      | inl passes ↦ rw (here ∙ passes, passes) (ap (λ (xs : List ℕ). a ∷ xs) rest)
      | inr fails ↦ rw (here ∙ fails, fails) rest
    ]

pub none_passes : (p : ℕ → Bool) (a n : ℕ) → ((k : ℕ) → a ≤ k → k < a + n → p k ≡ false) → filter p (range_with_len a n) ≡ []
none_passes p a zero none = refl
none_passes p a (suc n) none =
    let here : p a ≡ false = none a (omega arith) (omega arith) in
    rw here (none_passes p (a + 1) n (λ k from below. none k (omega arith) (omega arith)))

-- over a limit that is no numeral, so that no list of all numbers below it is made
pub filter_alike : (p q : ℕ → Bool) → ((k : ℕ) → p k ≡ q k) → (n : ℕ) → filter p (range_with_len 0 n) ≡ filter q (range_with_len 0 n)
filter_alike p q same n = filter_same p q 0 n (λ k from below. same k)

pub none_alike : (p : ℕ → Bool) → ((k : ℕ) → p k ≡ false) → (n : ℕ) → filter p (range_with_len 0 n) ≡ []
none_alike p none n = none_passes p 0 n (λ k from below. none k)

-- ---- counts by port

any_beyond : (q : ℕ → Bool) (a n c : ℕ) → c < a → list_any (λ m. m == c) (filter q (range_with_len a n)) ≡ false
any_beyond q a zero c before = refl
any_beyond q a (suc n) c before =
    let rest = any_beyond q (a + 1) n c (omega arith) in
    let other : (a == c) ≡ false = ne_eqb a c (λ same. omega arith) in
    elim (cases_Bool (q a)) [
      | inl passes ↦ rw (passes, other) rest
      | inr fails ↦ rw fails rest
    ]

pub any_filtered : (q : ℕ → Bool) (a n c : ℕ) → a ≤ c → c < a + n → list_any (λ m. m == c) (filter q (range_with_len a n)) ≡ q c
any_filtered q a zero c from below = absurd (omega arith)
any_filtered q a (suc n) c from below =
    elim (cases_eq a c) [
      | inl same ↦
          let here : (a == c) ≡ true = eq-eqb a c same in
          elim (cases_Bool (q a)) [
            | inl passes ↦ rw (passes, here) (sym (ap q (sym same) ∙ passes))
            | inr fails ↦ rw fails (any_beyond q (a + 1) n c (omega arith) ∙ sym (ap q (sym same) ∙ fails))
          ]
      | inr other ↦
          let not_here : (a == c) ≡ false = ne_eqb a c other in
          let rest = any_filtered q (a + 1) n c (omega arith) (omega arith) in
          elim (cases_Bool (q a)) [
            | inl passes ↦ rw (passes, not_here) rest
            | inr fails ↦ rw fails rest
          ]
    ]

-- whether the parent is node n, at the port
abbrev pub parent_at : ℕ → ℕ → Parent → Bool
parent_at n port parent = (parent.node == n) && (parent.port == port)

parent_is : (n port : ℕ) (o : Option Parent) → option_map_or (parent_at n port) o false ≡ true → o ≡ Some (record { node = n; port = port })
parent_is n port None is = absurd (false≢true is)
parent_is n port (Some p) is =
    let parts = and_parts (p.node == n) (p.port == port) is in
    let node = eqb-true p.node n parts.0 in
    let at = eqb-true p.port port parts.1 in
    λ k. Some (record { node = node k; port = at k })

-- nothing is entered yet
pub none_entered : (nodes : List Node) (request : Request) (n port : ℕ) (at : List ℕ) → at ≡ replicate 256 0 → get_or at port 0 ≡ entered_at nodes request [] n port
none_entered nodes request n port at is =
    ap (λ (xs : List ℕ). get_or xs port 0) is ∙ zeros_at 256 port ∙ elim (cases_Option (child_of nodes n port)) [ inl none ↦ rw none refl | inr some ↦ rw some.1 refl ]

pub no_port_entered : (nodes : List Node) (n port : ℕ) → is_entered nodes [] n port ≡ false
no_port_entered nodes n port = elim (cases_Option (child_of nodes n port)) [ inl none ↦ rw none refl | inr some ↦ rw some.1 refl ]

module _ (nodes : List Node) (laws : AreTreeLaws nodes) where
  -- who stands at a port is its child
  turned : (n port x : ℕ) → option_map_or (parent_at n port) (parent_of nodes x) false ≡ option_map_or (λ c. x == c) (child_of nodes n port) false
  turned n port x =
      elim (cases_Option (child_of nodes n port)) [
        | inl none ↦ not_child (λ up. none-some x (sym none ∙ sym (child_here up))) ∙ sym (rw none refl)
        | inr some ↦
            let c = some.0 in
            elim (cases_eq x c) [
              | inl same ↦
                  let up : parent_of nodes x ≡ Some own = (laws.children n port x).0 (some.1 ∙ ap Some (sym same)) in
                  let at : option_map_or (parent_at n port) (parent_of nodes x) false ≡ true = rw up (and_from (n == n) (port == port) (eq-eqb n n refl) (eq-eqb port port refl)) in
                  at ∙ sym (rw some.1 (eq-eqb x c same))
              | inr other ↦ not_child (λ up. other (same_Some x c (child_here up ∙ some.1))) ∙ sym (rw some.1 (ne_eqb x c other))
            ]
      ]
    where
      own : Parent
      own = record { node = n; port = port }

      child_here : parent_of nodes x ≡ Some own → Some x ≡ child_of nodes n port
      child_here up = sym ((laws.children n port x).1 up)

      not_child : (parent_of nodes x ≡ Some own → ⊥) → option_map_or (parent_at n port) (parent_of nodes x) false ≡ false
      not_child no_child =
          elim (cases_Bool (option_map_or (parent_at n port) (parent_of nodes x) false)) [
            | inl at ↦ absurd (no_child (parent_is n port (parent_of nodes x) at))
            | inr apart ↦ apart
          ]

  -- a child more is among those that were entered
  pub port_more : (xs : List ℕ) (i n port : ℕ) → i < length xs → (option_map_or (parent_at n port) (parent_of nodes (get_or xs i 0)) false || is_entered nodes (take i xs) n port) ≡ is_entered nodes (take (i + 1) xs) n port
  port_more xs i n port lt =
      ap (λ (b : Bool). b || is_entered nodes (take i xs) n port) (turned n port (get_or xs i 0))
      ∙ elim (cases_Option (child_of nodes n port)) [
        | inl none ↦ rw none refl
        | inr some ↦ rw some.1 (or_turned (get_or xs i 0 == some.0) (list_any (λ m. m == some.0) (take i xs)) ∙ sym (any_more (λ m. m == some.0) xs i 0 lt))
      ]
    where
      or_turned : (a b : Bool) → (a || b) ≡ (b || a)
      or_turned true true = refl
      or_turned true false = refl
      or_turned false true = refl
      or_turned false false = refl

  pub entered_more : (request : Request) (xs : List ℕ) (i n port old new : ℕ) → i < length xs → old ≡ entered_at nodes request (take i xs) n port
      → new ≡ (if option_map_or (parent_at n port) (parent_of nodes (get_or xs i 0)) false then count_under (tree_alone nodes) request (get_or xs i 0) else old) → new ≡ entered_at nodes request (take (i + 1) xs) n port
  entered_more request xs i n port old new lt before now =
      now ∙ ap (λ (b : Bool). if b then count_under (tree_alone nodes) request x else old) (turned n port x)
      ∙ elim (cases_Option (child_of nodes n port)) [
        | inl none ↦ rw none (before ∙ rw none refl)
        | inr some ↦
            let c = some.0 in
            let count = count_under (tree_alone nodes) request in
            let one : list_any (λ m. m == c) (take (i + 1) xs) ≡ (list_any (λ m. m == c) (take i xs) || (x == c)) = any_more (λ m. m == c) xs i 0 lt in
            let known : old ≡ (if list_any (λ m. m == c) (take i xs) then count c else 0) = before ∙ rw some.1 refl in
            rw some.1
            (elim (cases_eq x c) [
              | inl same ↦ let in_list = one ∙ or_right (list_any (λ m. m == c) (take i xs)) (x == c) (eq-eqb x c same) in rw (eq-eqb x c same, in_list) (ap count same)
              | inr other ↦
                  let not_more = one ∙ ap (λ (b : Bool). list_any (λ m. m == c) (take i xs) || b) (ne_eqb x c other) ∙ or_false (list_any (λ m. m == c) (take i xs)) in
                  rw (ne_eqb x c other, not_more) known
            ])
      ]
    where
      x : ℕ
      x = get_or xs i 0

  -- the child at a port is among all used nodes where it is used
  used_there : (request : Request) (n port c : ℕ) → child_of nodes n port ≡ Some c → list_any (λ m. m == c) (used_nodes nodes request) ≡ is_used (tree_alone nodes) request c
  used_there request n port c is =
      let inside : c < length nodes = parent_within nodes c (record { node = n; port = port }) ((laws.children n port c).0 is) in
      any_filtered (is_used (tree_alone nodes) request) 0 (length nodes) c (omega arith) (omega arith)

  -- when all used nodes are entered, each port has its count
  pub entered_all : (request : Request) (n port : ℕ) → entered_at nodes request (used_nodes nodes request) n port ≡ count_at_port (tree_alone nodes) request n port
  entered_all request n port =
      elim (cases_Option (child_of nodes n port)) [
        | inl none ↦ rw none refl
        | inr some ↦
            let c = some.0 in
            let used = used_there request n port c some.1 in
            elim (cases_Bool (is_used (tree_alone nodes) request c)) [
              | inl is ↦ rw (some.1, used ∙ is) refl
              | inr not_used ↦ rw (some.1, used ∙ not_used) (sym (ap length (filter_empty (is_under nodes c) request.endpoints not_used)))
            ]
      ]

  pub port_all : (request : Request) (n port : ℕ) → is_entered nodes (used_nodes nodes request) n port ≡ is_port_used (tree_alone nodes) request n port
  port_all request n port =
      elim (cases_Option (child_of nodes n port)) [
        | inl none ↦ rw none refl
        | inr some ↦ rw some.1 (used_there request n port some.0 some.1)
      ]

-- ---- used ports

pub ports_listed : (nodes : List Node) → AreTreeLaws nodes → (request : Request) (n : ℕ) (ports : List ℕ) → ArePortsOf nodes (used_nodes nodes request) n ports → ports ≡ ports_at nodes request n
unfolding ports_at
ports_listed nodes laws request n ports are = listed 256 refl
  where
    listed : (limit : ℕ) → limit ≡ 256 → ports ≡ filter (is_port_used (tree_alone nodes) request n) (range_with_len 0 256)
    listed limit is =
        are limit is ∙ filter_alike (is_entered nodes (used_nodes nodes request) n) (is_port_used (tree_alone nodes) request n) (port_all nodes laws request n) limit
        ∙ ap (λ (m : ℕ). filter (is_port_used (tree_alone nodes) request n) (range_with_len 0 m)) is

-- an endpoint has no child
pub no_ports : (nodes : List Node) → KnownTree nodes → (n : ℕ) → is_endpoint_at nodes n ≡ true → (entered ports : List ℕ) → ports ≡ [] → ArePortsOf nodes entered n ports
no_ports nodes known n endpoint entered ports none limit is = none ∙ sym (none_alike (is_entered nodes entered n) no_child limit)
  where
    no_child : (port : ℕ) → is_entered nodes entered n port ≡ false
    no_child port =
        elim (cases_Option (child_of nodes n port)) [
          | inl none ↦ rw none refl
          | inr some ↦
              let up : parent_of nodes some.0 ≡ Some (record { node = n; port = port }) = (known.laws.children n port some.0).0 some.1 in
              let port_here = (parent_is_port known some.0 (record { node = n; port = port }) up).1 in
              absurd (false≢true (sym (port_no_endpoint nodes n port_here) ∙ endpoint))
        ]

-- ---- the ports of each node

pub slice_get_front : {X : Type 0} (xs ys : List X) (n : ℕ) → n < length xs → slice_get (xs ++ ys) n ≡ slice_get xs n
slice_get_front [] ys n lt = absurd (omega arith)
slice_get_front (y ∷ xs) ys zero lt = refl
slice_get_front (y ∷ xs) ys (suc n) lt = slice_get_front xs ys n (omega arith)

pub length_end : {X : Type 0} (xs : List X) (x : X) → length (xs ++ x ∷ []) ≡ suc (length xs)
length_end [] x = refl
length_end (y ∷ xs) x = ap suc (length_end xs x)

-- what holds of each item by its place, holds with one more at the end
pub each_more : {X : Type 0} (P : ℕ → X → Type 0) (old new : List X) (i : ℕ) (own : X) → length old ≡ i → ((k : ℕ) (it : X) → slice_get old k ≡ Some it → P k it) → new ≡ old ++ own ∷ [] → P i own
    → (k : ℕ) (it : X) → slice_get new k ≡ Some it → P k it
each_more {X} P old new i own count known is here k it there =
    elim (cases_lt k (length old)) [
      | inl before ↦ known k it (sym (slice_get_front old (own ∷ []) k before) ∙ ap (λ (xs : List X). slice_get xs k) (sym is) ∙ there)
      | inr past ↦
          let within = slice_get_within new k it there in
          let longer : length new ≡ suc (length old) = ap length is ∙ length_end old own in
          let same : k ≡ length old = omega arith in
          let one : own ≡ it = same_Some own it (sym (get_last old own) ∙ ap (λ (m : ℕ). slice_get (old ++ own ∷ []) m) (sym same) ∙ ap (λ (xs : List X). slice_get xs k) (sym is) ∙ there) in
          subst (λ (m : ℕ). P m it) (sym count ∙ sym same) (subst (P i) one here)
    ]

pub used_inside : (p : ℕ → Bool) (a n : ℕ) → All (λ k. k < a + n) (filter p (range_with_len a n))
used_inside p a zero = λ k d below. absurd (omega arith)
used_inside p a (suc n) =
    let rest : All (λ k. k < a + suc n) (filter p (range_with_len (a + 1) n)) = λ k d below. let lower = used_inside p (a + 1) n k d below in omega arith in
    elim (cases_Bool (p a)) [
      | inl passes ↦ rw passes (first_inside a (a + suc n) (filter p (range_with_len (a + 1) n)) (omega arith) rest)
      | inr fails ↦ rw fails rest
    ]
  where
    first_inside : (x limit : ℕ) (xs : List ℕ) → x < limit → All (λ k. k < limit) xs → All (λ k. k < limit) (x ∷ xs)
    first_inside x limit xs here all zero d below = here
    first_inside x limit xs here all (suc k) d below = all k d (omega arith)

pub used_within : (nodes : List Node) (request : Request) → All (λ n. n < length nodes) (used_nodes nodes request)
used_within nodes request k d below = let lower = used_inside (is_used (tree_alone nodes) request) 0 (length nodes) k d below in omega arith
