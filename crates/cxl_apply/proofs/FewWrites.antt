-- A job has few writes: its nodes stand on the paths of the region's endpoints, of which there are 16 at the most.
use Rattle.std.proofs.Common.{◌≡◌, ℕ, zero, suc, ◌*◌, ◌<◌, ◌≤◌, Bool, true, false, cond, ◌||◌, List, [], ◌∷◌, length, get_or, map, filter, Some, refl, sym, ap, ◌∙◌, subst, eq-eqb, arith, length-append}
use Rattle.std.specs.Prelude.{nat_eq, ◌==◌, slice_get, All, Contains, option_map}
use Rattle.std.specs.List.{list_any, flat_map, IsDistinct}
use Rattle.std.specs.Cmp.{nat_eq_equiv}
use Rattle.std.specs.Set.{is_member}
use Rattle.std.proofs.lemmas.Bool.{eqb-true, ne_eqb}
use Rattle.std.proofs.lemmas.List.{length-map, length-reverse}
use Rattle.std.proofs.lemmas.List.Elements.{All-head, All-tail}
use Rattle.std.proofs.lemmas.List.Folds.{list_any-append, list_any-from_Any}
use Rattle.std.proofs.lemmas.Map.Keys.{IsDistinct-from_apart}
use Rattle.std.proofs.lemmas.Map.Made.{length-le_from_is_member}
use Rattle.std.proofs.lemmas.Option.{slice_get_within, get_or_from_slice_get}
use Rattle.cxl_enc.proofs.Lists.{get_same}
use Rattle.cxl_topo.specs.declared.node.Node.{Node}
use Rattle.cxl_topo.specs.declared.node.Parent.{Parent}
use Rattle.cxl_topo.specs.Laws.{AreTreeLaws}
use Rattle.cxl_topo.specs.Tree.{ports_above, path_of}
use Rattle.cxl_regs.specs.declared.decoder.Decoder.{Decoder}
use Rattle.cxl_regs.specs.declared.reading.Range.{Range}
use Rattle.cxl_regs.specs.Reading.{has_range, range_of}
use Rattle.cxl_model.specs.declared.found.Found.{Found}
use Rattle.cxl_model.specs.declared.plan.Row.{Row}
use Rattle.cxl_model.specs.System.{System, decoders_at}
use Rattle.cxl_model.specs.Counts.{is_under, endpoints_of, endpoints_under}
use Rattle.cxl_model.specs.Plans.{committed_row, block_with_row, with_rows, IsRow}
use Rattle.cxl_model.specs.Ranges.{serves}
use Rattle.cxl_model.specs.Regions.{region_range}
use Rattle.cxl_model.proofs.OtherBlocks.{decoders_are}
use Rattle.cxl_apply.specs.Jobs.{AreOfDifferentNodes}
use Rattle.cxl_apply.specs.Releases.{rows_of}
use Rattle.cxl_apply.proofs.Folds.{get_fold_some}
use Rattle.cxl_apply.proofs.Planned.{place_of_row}
use Rattle.cxl_apply.proofs.Freed.{row_parts, row_has_range, all_rows}

-- ---- the paths of endpoints

-- a node above one of these stands in one of their paths
under_in_paths : (nodes : List Node) (ms : List ℕ) (n : ℕ) → list_any (is_under nodes n) ms ≡ true → list_any (λ q. q == n) (flat_map (path_of nodes) ms) ≡ true
under_in_paths nodes [] n any = absurd (cc)
under_in_paths nodes (m ∷ ms) n any =
    list_any-append (λ q. q == n) (path_of nodes m) (flat_map (path_of nodes) ms) ∙ either (is_under nodes n m) (list_any (is_under nodes n) ms) any (under_in_paths nodes ms n)
  where
    either : (a b : Bool) {c : Bool} → (a || b) ≡ true → (b ≡ true → c ≡ true) → (a || c) ≡ true
    either true b any more = refl
    either false b any more = more any

-- numbers compare in either order
is_member-flip : (n : ℕ) (ns : List ℕ) → list_any (λ q. q == n) ns ≡ is_member nat_eq ns n
is_member-flip n [] = refl
is_member-flip n (q ∷ ns) = ap (λ b. b || list_any (λ p. p == n) ns) (nat_eq_equiv.symm q n) ∙ ap (λ b. nat_eq n q || b) (is_member-flip n ns)

length-path : (nodes : List Node) (m : ℕ) → AreTreeLaws nodes → length (path_of nodes m) ≤ 6
length-path nodes m laws =
    let few = laws.few_ports m in
    let all = length-reverse (m ∷ map (λ (parent : Parent). parent.node) (ports_above nodes m)) in
    omega (arith, length-map (ports_above nodes m) (λ (parent : Parent). parent.node))

length-paths : (nodes : List Node) (ms : List ℕ) → AreTreeLaws nodes → length (flat_map (path_of nodes) ms) ≤ 6 * length ms
length-paths nodes [] laws = omega arith
length-paths nodes (m ∷ ms) laws =
    let rest = length-paths nodes ms laws in
    let first = length-path nodes m laws in
    omega (arith, length-append (path_of nodes m) (flat_map (path_of nodes) ms))

-- ---- rows of nodes that serve a range

abbrev node_of : Row → ℕ
node_of row = row.node

get_node : (rows : List Row) (i d : ℕ) (e : Row) → i < length rows → get_or (map node_of rows) i d ≡ (get_or rows i e).node
get_node [] i d e within = absurd (omega arith)
get_node (row ∷ rest) zero d e within = refl
get_node (row ∷ rest) (suc i) d e within = get_node rest i d e (omega arith)

distinct_nodes : (rows : List Row) → AreOfDifferentNodes rows → IsDistinct nat_eq (map node_of rows)
distinct_nodes [] apart = IsDistinct-from_apart nat_eq [] (λ i j d less within. absurd (omega arith))
distinct_nodes (row ∷ rest) apart =
    IsDistinct-from_apart nat_eq (map node_of (row ∷ rest))
    (λ i j d less within.
    let low : j < length (row ∷ rest) = omega (arith, length-map (row ∷ rest) node_of) in
    ne_eqb (get_or (map node_of (row ∷ rest)) i d) (get_or (map node_of (row ∷ rest)) j d)
    (λ e. apart i j row less low (sym (get_node (row ∷ rest) i d row (omega arith)) ∙ e ∙ get_node (row ∷ rest) j d row low)))

serving_node : (s : System) (r : Range) (rows : List Row) (n : ℕ) → All (λ (row : Row). serves s r row.node ≡ true) rows → is_member nat_eq (map node_of rows) n ≡ true → serves s r n ≡ true
serving_node s r [] n serving any = absurd (cc)
serving_node s r (row ∷ rest) n serving any =
    by (nat_eq n row.node) refl any (serving_node s r rest n (All-tail (λ (q : Row). serves s r q.node ≡ true) row rest serving))
  where
    by : (b : Bool) → nat_eq n row.node ≡ b → (b || is_member nat_eq (map node_of rest) n) ≡ true → (is_member nat_eq (map node_of rest) n ≡ true → serves s r n ≡ true) → serves s r n ≡ true
    by true same any later = subst (λ (m : ℕ). serves s r m ≡ true) (sym (eqb-true n row.node same)) (All-head (λ (q : Row). serves s r q.node ≡ true) row rest serving)
    by false other any later = later any

any_left : (p : ℕ → Bool) (ns : List ℕ) → 0 < length (filter p ns) → list_any p ns ≡ true
any_left p [] some = absurd (omega arith)
any_left p (n ∷ ns) some = by (p n) some (any_left p ns)
  where
    by : (b : Bool) → 0 < length (cond b (n ∷ filter p ns) (filter p ns)) → (0 < length (filter p ns) → list_any p ns ≡ true) → (b || list_any p ns) ≡ true
    by true some later = refl
    by false some later = later some

-- under each of them lies an endpoint of the range, of which there are so many
pub record ServersLaw (s : System) (r : Range) : Type 0 where
  pub under : (n : ℕ) → serves s r n ≡ true → 0 < length (endpoints_under s r n)
  pub few : length (endpoints_of s r) ≤ 16

pub few_servers : (s : System) (r : Range) (rows : List Row) → AreTreeLaws s.nodes → ServersLaw s r → AreOfDifferentNodes rows → All (λ (row : Row). serves s r row.node ≡ true) rows → length rows ≤ 96
few_servers s r rows laws servers apart serving =
    let paths : List ℕ = flat_map (path_of s.nodes) (endpoints_of s r) in
    let within : (n : ℕ) → is_member nat_eq (map node_of rows) n ≡ true → is_member nat_eq paths n ≡ true =
    (λ n member. sym (is_member-flip n paths) ∙ under_in_paths s.nodes (endpoints_of s r) n (any_left (is_under s.nodes n) (endpoints_of s r) (servers.under n (serving_node s r rows n serving member)))) in
    let few = length-le_from_is_member nat_eq_equiv (map node_of rows) paths (distinct_nodes rows apart) within in
    let long = length-paths s.nodes (endpoints_of s r) laws in
    let ends = servers.few in
    omega (arith, length-map rows node_of)

pub some_of_factor : (a n k : ℕ) → a * n ≡ k → 0 < k → 0 < n
some_of_factor a zero k is some = absurd (omega (arith, is, some))
some_of_factor a (suc n) k is some = omega arith

-- ---- the rows of a release and of a create serve it

serves_by : (s : System) (r : Range) (n i : ℕ) (d : Decoder) → slice_get (decoders_at s n) i ≡ Some d → has_range r d ≡ true → serves s r n ≡ true
serves_by s r n i d here has =
    list_any-from_Any (has_range r) (decoders_at s n) (i, d, slice_get_within (decoders_at s n) i d here, get_or_from_slice_get (decoders_at s n) i d d here, has)

pub released_rows_serve : (s : System) (found : Found) → All (λ (row : Row). serves s (region_range found) row.node ≡ true) (rows_of s found)
released_rows_serve s found =
    all_rows s found (λ (row : Row). serves s (region_range found) row.node ≡ true)
    (λ n row is.
    let parts = row_parts s (region_range found) n row is in
    subst (λ (m : ℕ). serves s (region_range found) m ≡ true) (sym parts.node) (serves_by s (region_range found) n row.index row.decoder parts.here (row_has_range s (region_range found) n row parts)))

pub created_row_serves : (s : System) (r : Range) (rows : List Row) (row : Row) → AreOfDifferentNodes rows → Contains rows row → IsRow s r row → serves (with_rows s rows) r row.node ≡ true
created_row_serves s r rows row apart there is =
    let place = place_of_row s r row is in
    let block = place.at.block in
    let new : slice_get (with_rows s rows).blocks row.node ≡ Some (block_with_row row block) =
    get_fold_some block_with_row rows s.blocks row apart there ∙ ap (option_map (block_with_row row)) place.at.here in
    let here : slice_get (decoders_at (with_rows s rows) row.node) row.index ≡ Some (committed_row row) =
    ap (λ (ds : List Decoder). slice_get ds row.index) (decoders_are (with_rows s rows) row.node (block_with_row row block) new)
    ∙ get_same block.decoders row.index (committed_row row) (slice_get_within block.decoders row.index place.d place.here) in
    serves_by (with_rows s rows) r row.node row.index (committed_row row) here (subst (λ (q : Range). has_range q (committed_row row) ≡ true) is.range own)
  where
    own : has_range (range_of row.decoder) (committed_row row) ≡ true
    own = rw (eq-eqb row.decoder.base row.decoder.base refl, eq-eqb row.decoder.size row.decoder.size refl) refl
