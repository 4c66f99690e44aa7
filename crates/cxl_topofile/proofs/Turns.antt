-- Going over the tables of an array, one after another.
use Rattle.std.proofs.Common.{◌≡◌, ℕ, zero, suc, ◌+◌, ◌<◌, ◌≤◌, true, ◌&&◌, List, [], ◌∷◌, ◌++◌, length, get_or, drop, Some, Result, Ok, Err, refl, sym, ap, ◌∙◌, arith, append_assoc}
use Rattle.std.specs.List.{list_all}
use Rattle.std.proofs.lemmas.Bool.{and_parts}
use Rattle.std.proofs.lemmas.List.{append-nil, drop_more, drop_all}
use Rattle.std.proofs.lemmas.Option.{none-some}
use Rattle.toml.specs.Data.{Data, string, integer, float, boolean, datetime, array, table, Items, item, Members, as_table}
use Rattle.toml.specs.View.{view, items_view}
use Rattle.toml.specs.declared.value.Value.{Value}
use Rattle.cxl_topofile.specs.declared.fault.Wrong.{Wrong}
use Rattle.cxl_topofile.specs.declared.fault.Section.{Section}
use Rattle.cxl_topofile.specs.declared.fault.TopoFault.{TopoFault}
use Rattle.cxl_topofile.specs.declared.fault.TopoFault.TheVariants as faults
use Rattle.cxl_topofile.specs.Values.{◌>>=◌}
use Rattle.cxl_topofile.specs.Groups.{placed, FailsAs, all_of, are_tables, tables_of}
use Rattle.cxl_topofile.specs.inner.Seen.{is_table, AddsTable}

pub are_tables-view : (values : List Value) → list_all is_table values ≡ are_tables (items_view values)
are_tables-view [] = refl
are_tables-view (v ∷ vs) = ap (λ rest. is_table v && rest) (are_tables-view vs)

-- each item of an array of tables is one
pub each_is_table : (values : List Value) (i : ℕ) (d : Value) → are_tables (items_view values) ≡ true → i < length values → is_table (get_or values i d) ≡ true
each_is_table [] i d all lt = absurd (omega arith)
each_is_table (v ∷ vs) zero d all lt = (and_parts (is_table v) (are_tables (items_view vs)) all).0
each_is_table (v ∷ vs) (suc i) d all lt = each_is_table vs i d (and_parts (is_table v) (are_tables (items_view vs)) all).1 (omega arith)

table_first : (value : Data) (members : Members) (rest : Items) → as_table value ≡ Some members → tables_of (item value rest) ≡ members ∷ tables_of rest
table_first (string s) members rest e = absurd (none-some members e)
table_first (integer z) members rest e = absurd (none-some members e)
table_first (float x) members rest e = absurd (none-some members e)
table_first (boolean b) members rest e = absurd (none-some members e)
table_first (datetime t) members rest e = absurd (none-some members e)
table_first (array ds) members rest e = absurd (none-some members e)
table_first (table own) members rest e = let same : own ≡ members = cc in ap (λ (ms : Members). ms ∷ tables_of rest) same

-- the table at a place, and those after it
tables_more : (values : List Value) (i : ℕ) (d : Value) (members : Members) → i < length values → as_table (view (get_or values i d)) ≡ Some members → tables_of (items_view (drop i values)) ≡ members ∷ tables_of (items_view (drop (i + 1) values))
tables_more values i d members lt e = ap (λ (vs : List Value). tables_of (items_view vs)) (drop_more values i d lt) ∙ table_first (view (get_or values i d)) members (items_view (drop (i + 1) values)) e

module _ {A : Type 0} (section : Section) (read : Members → Result A Wrong) where
  -- what was read so far, before the rest
  abbrev pub with_front : List A → Result (List A) TopoFault → Result (List A) TopoFault
  with_front front rest = rest >>= λ xs. Ok (front ++ xs)

  -- what all tables state is what those so far and the rest do
  pub record IsRead (values : List Value) (i : ℕ) (front : List A) : Type 0 where
    pub so_far : with_front front (all_of section read i (tables_of (items_view (drop i values)))) ≡ all_of section read 0 (tables_of (items_view values))

  pub starts : (values : List Value) → IsRead values 0 []
  starts values = record { so_far = go (all_of section read 0 (tables_of (items_view values))) }
    where
      go : (r : Result (List A) TopoFault) → with_front [] r ≡ r
      go (Ok xs) = refl
      go (Err fault) = refl

  regroup : (front : List A) (x : A) (r : Result (List A) TopoFault) → with_front front (r >>= λ xs. Ok (x ∷ xs)) ≡ with_front (front ++ x ∷ []) r
  regroup front x (Ok xs) = ap Ok (sym (append_assoc front (x ∷ []) xs))
  regroup front x (Err fault) = refl

  step : (values : List Value) (i : ℕ) (d : Value) (members : Members) (front : List A) → i < length values → as_table (view (get_or values i d)) ≡ Some members → IsRead values i front
      → with_front front (placed section i (read members) >>= λ x. all_of section read (i + 1) (tables_of (items_view (drop (i + 1) values))) >>= λ xs. Ok (x ∷ xs)) ≡ all_of section read 0 (tables_of (items_view values))
  unfolding all_of
  step values i d members front lt e is = ap (λ (ts : List Members). with_front front (all_of section read i ts)) (sym (tables_more values i d members lt e)) ∙ is.so_far

  pub goes_on : (values : List Value) (i : ℕ) (value : Value) (front new : List A) (done : Unit {0}) → i < length values → value ≡ get_or values i value → AddsTable front new (Ok done) section read i value → IsRead values i front → IsRead values (i + 1) new
  goes_on values i value front new done lt at added is =
      let (members, e, (x, reads, more)) = added in
      let own : as_table (view (get_or values i value)) ≡ Some members = ap (λ (v : Value). as_table (view v)) (sym at) ∙ e in
      record { so_far = rw more (sym (regroup front x (all_of section read (i + 1) (tables_of (items_view (drop (i + 1) values)))))) ∙ rw reads at (step values i value members front lt own is) }

  pub ends : (values : List Value) (i : ℕ) (value : Value) (front new : List A) (fault : TopoFault) → i < length values → value ≡ get_or values i value → AddsTable front new (Err fault) section read i value → IsRead values i front → FailsAs fault (all_of section read 0 (tables_of (items_view values)))
  ends values i value front new fault lt at added is =
      let (members, e, fails) = added in
      let own : as_table (view (get_or values i value)) ≡ Some members = ap (λ (v : Value). as_table (view v)) (sym at) ∙ e in
      go fault (placed section i (read members)) fails (step values i value members front lt own is)
    where
      go : (fault : TopoFault) (r : Result A TopoFault) → FailsAs fault r → with_front front (r >>= λ x. all_of section read (i + 1) (tables_of (items_view (drop (i + 1) values))) >>= λ xs. Ok (x ∷ xs)) ≡ all_of section read 0 (tables_of (items_view values)) → FailsAs fault (all_of section read 0 (tables_of (items_view values)))
      go faults.Memory r f e = tt
      go faults.Toml r f e = sym e ∙ rw f
      go (faults.Key place) r f e = sym e ∙ rw f
      go (faults.Kind place) r f e = sym e ∙ rw f
      go (faults.Range place) r f e = sym e ∙ rw f
      go (faults.Tree tree) r f e = sym e ∙ rw f

  pub is_done : (values : List Value) (i : ℕ) (front : List A) → length values ≤ i → IsRead values i front → all_of section read 0 (tables_of (items_view values)) ≡ Ok front
  unfolding all_of
  is_done values i front le is = sym is.so_far ∙ ap (λ (vs : List Value). with_front front (all_of section read i (tables_of (items_view vs)))) (drop_all i values le) ∙ ap Ok (append-nil front)
