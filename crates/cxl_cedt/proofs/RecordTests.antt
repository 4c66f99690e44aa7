-- The tests of a record, read as facts on numbers and back.
use Rattle.std.proofs.Common.{◌≡◌, ℕ, ◌+◌, ◌*◌, ◌<◌, ◌≤◌, Bool, true, false, cond, eqb, ltb, not, ◌&&◌, List, length, Option, Some, None, refl, sym, ap, inl, inr, arith}
use Rattle.std.specs.Prelude.{is_none, is_some, unwrap_or}
use Rattle.std.proofs.lemmas.Bool.{eqb-true, eq-eqb, le-ltb, ltb-false, cases_Bool, or_parts, or_left, or_from, not-false, not_from_true, false≢true}
use Rattle.cxl_table.specs.declared.cedt.Record.{Record}
use Rattle.cxl_cedt.specs.declared.fault.CedtFault.{CedtFault}
use Rattle.cxl_cedt.specs.declared.fault.CedtFault.TheVariants.{RecordLength}
use Rattle.cxl_table.specs.Records.{is_kind_full}
use Rattle.cxl_cedt.specs.Table.{field, kind_said, length_said, ways_said, is_cut, has_short_length, has_other_length, has_unknown_gran, record_fault}
use Rattle.cxl_cedt.proofs.Counts.{room_from}

-- a test that only one type is put to
pub unless : (a k : ℕ) (c : Bool) → (a ≡ k → c ≡ false) → (eqb a k && c) ≡ false
unless a k c h =
    elim (cases_Bool (eqb a k)) [
      | inl same ↦ rw same (h (eqb-true a k same))
      | inr other ↦ rw other refl
    ]

unless_says : (a k : ℕ) (c : Bool) → (eqb a k && c) ≡ false → a ≡ k → c ≡ false
unless_says a k c h same = rw (eq-eqb a k same) at h

equal_from : (a b : ℕ) → not (eqb a b) ≡ false → a ≡ b
equal_from a b h = eqb-true a b (not-false (eqb a b) h)

not_other : (a b : ℕ) → a ≡ b → not (eqb a b) ≡ false
not_other a b e = not_from_true (eqb a b) (eq-eqb a b e)

pub not_none : (o : Option ℕ) (none : Bool) → is_some o ≡ not none → none ≡ false → is_none o ≡ false
not_none (Some n) none e there = refl
not_none None none e there = absurd (false≢true (rw there at e))

-- ---- one test after another

pub record PassesTests (before : List Record) (rest : List ℕ) : Type 0 where
  pub whole : is_cut rest ≡ false
  pub long : has_short_length (kind_said rest) (length_said rest) ≡ false
  pub ways : (eqb (kind_said rest) 1 && is_none (ways_said rest)) ≡ false
  pub size : has_other_length (kind_said rest) rest ≡ false
  pub gran : has_unknown_gran (kind_said rest) rest ≡ false
  pub arithmetic : (eqb (kind_said rest) 1 && ltb 1 (field rest 25 1)) ≡ false
  pub room : is_kind_full (kind_said rest) before ≡ false

pub no_fault_here : (b : Bool) (f : CedtFault) (others : Option CedtFault) → cond b (Some f) others ≡ None → (b ≡ false) × (others ≡ None)
no_fault_here true f others e = absurd cc
no_fault_here false f others e = (refl, e)

pub passes : (before : List Record) (rest : List ℕ) (at : ℕ) → record_fault before rest at ≡ None → PassesTests before rest
unfolding record_fault
passes before rest at e =
    let a = no_fault_here _ _ _ e in
    let b = no_fault_here _ _ _ a.1 in
    let c = no_fault_here _ _ _ b.1 in
    let d = no_fault_here _ _ _ c.1 in
    let f = no_fault_here _ _ _ d.1 in
    let g = no_fault_here _ _ _ f.1 in
    let h = no_fault_here _ _ _ g.1 in
    record { whole = a.0; long = b.0; ways = c.0; size = d.0; gran = f.0; arithmetic = g.0; room = h.0 }

pub no_fault : (before : List Record) (rest : List ℕ) (at : ℕ) → PassesTests before rest → record_fault before rest at ≡ None
unfolding record_fault
no_fault before rest at p = rw (p.whole, p.long, p.ways, p.size, p.gran, p.arithmetic, p.room) refl

-- ---- each test

pub record IsWhole (rest : List ℕ) : Type 0 where
  pub frame : 4 ≤ length rest
  pub within : length_said rest ≤ length rest

pub whole_from : (rest : List ℕ) → is_cut rest ≡ false → IsWhole rest
unfolding is_cut
whole_from rest e =
    let p = or_parts _ _ e in
    record { frame = ltb-false _ _ p.0; within = ltb-false _ _ p.1 }

pub not_cut : (rest : List ℕ) → IsWhole rest → is_cut rest ≡ false
unfolding is_cut
not_cut rest h = or_from _ _ (le-ltb _ _ h.frame) (le-ltb _ _ h.within)

pub record HasLength (kind size : ℕ) : Type 0 where
  pub frame : 4 ≤ size
  pub chbs : kind ≡ 0 → size ≡ 32
  pub window : kind ≡ 1 → 36 ≤ size
  pub maps : kind ≡ 2 → 8 ≤ size

pub length_from : (kind size : ℕ) → has_short_length kind size ≡ false → HasLength kind size
unfolding has_short_length
length_from kind size e =
    let p = or_parts _ _ e in
    let q = or_parts _ _ p.0 in
    let r = or_parts _ _ q.0 in
    record {
      frame = ltb-false _ _ r.0;
      chbs = λ k. equal_from size 32 (unless_says kind 0 _ r.1 k);
      window = λ k. ltb-false _ _ (unless_says kind 1 _ q.1 k);
      maps = λ k. ltb-false _ _ (unless_says kind 2 _ p.1 k);
    }

pub not_short : (kind size : ℕ) → HasLength kind size → has_short_length kind size ≡ false
unfolding has_short_length
not_short kind size h =
    or_from _ _ (or_from _ _ (or_from _ _ (le-ltb _ _ h.frame)
    (unless kind 0 _ (λ k. not_other size 32 (h.chbs k))))
    (unless kind 1 _ (λ k. le-ltb _ _ (h.window k))))
    (unless kind 2 _ (λ k. le-ltb _ _ (h.maps k)))

-- a value that is there
is_there : (o : Option ℕ) → is_none o ≡ false → o ≡ Some (unwrap_or o 0)
is_there (Some n) e = refl
is_there None e = absurd (false≢true (sym e))

pub ways_from : (kind : ℕ) (o : Option ℕ) → (eqb kind 1 && is_none o) ≡ false → kind ≡ 1 → o ≡ Some (unwrap_or o 0)
ways_from kind o e k = is_there o (unless_says kind 1 _ e k)

pub ways_known : (kind : ℕ) (o : Option ℕ) → (kind ≡ 1 → o ≡ Some (unwrap_or o 0)) → (eqb kind 1 && is_none o) ≡ false
ways_known kind o h = unless kind 1 _ (λ k. ap is_none (h k))

pub record HasSize (kind : ℕ) (rest : List ℕ) : Type 0 where
  pub window : kind ≡ 1 → length_said rest ≡ 36 + 4 * unwrap_or (ways_said rest) 0
  pub maps : kind ≡ 2 → length_said rest ≡ 8 + 8 * field rest 7 1

pub size_from : (kind : ℕ) (rest : List ℕ) → has_other_length kind rest ≡ false → HasSize kind rest
unfolding has_other_length
size_from kind rest e =
    let p = or_parts _ _ e in
    record {
      window = λ k. equal_from (length_said rest) (36 + 4 * unwrap_or (ways_said rest) 0) (unless_says kind 1 _ p.0 k);
      maps = λ k. equal_from (length_said rest) (8 + 8 * field rest 7 1) (unless_says kind 2 _ p.1 k);
    }

pub no_other_length : (kind : ℕ) (rest : List ℕ) → HasSize kind rest → has_other_length kind rest ≡ false
unfolding has_other_length
no_other_length kind rest h =
    or_from _ _
    (unless kind 1 _ (λ k. not_other (length_said rest) (36 + 4 * unwrap_or (ways_said rest) 0) (h.window k)))
    (unless kind 2 _ (λ k. not_other (length_said rest) (8 + 8 * field rest 7 1) (h.maps k)))

pub record HasGran (kind : ℕ) (rest : List ℕ) : Type 0 where
  pub window : kind ≡ 1 → field rest 28 4 ≤ 6
  pub maps : kind ≡ 2 → field rest 6 1 ≤ 6

pub gran_from : (kind : ℕ) (rest : List ℕ) → has_unknown_gran kind rest ≡ false → HasGran kind rest
unfolding has_unknown_gran
gran_from kind rest e =
    let p = or_parts _ _ e in
    record {
      window = λ k. ltb-false 6 (field rest 28 4) (unless_says kind 1 _ p.0 k);
      maps = λ k. ltb-false 6 (field rest 6 1) (unless_says kind 2 _ p.1 k);
    }

pub no_unknown_gran : (kind : ℕ) (rest : List ℕ) → HasGran kind rest → has_unknown_gran kind rest ≡ false
unfolding has_unknown_gran
no_unknown_gran kind rest h =
    or_from _ _
    (unless kind 1 _ (λ k. le-ltb 6 (field rest 28 4) (h.window k)))
    (unless kind 2 _ (λ k. le-ltb 6 (field rest 6 1) (h.maps k)))

pub arithmetic_from : (kind n : ℕ) → (eqb kind 1 && ltb 1 n) ≡ false → kind ≡ 1 → n ≤ 1
arithmetic_from kind n e k = ltb-false 1 n (unless_says kind 1 _ e k)

pub arithmetic_known : (kind n : ℕ) → (kind ≡ 1 → n ≤ 1) → (eqb kind 1 && ltb 1 n) ≡ false
arithmetic_known kind n h = unless kind 1 _ (λ k. le-ltb 1 n (h k))

-- ---- of another type, the length alone can be wrong with a record that is whole

short_fault : (before : List Record) (rest : List ℕ) (at : ℕ) → is_cut rest ≡ false → has_short_length (kind_said rest) (length_said rest) ≡ true
    → record_fault before rest at ≡ Some (RecordLength at)
unfolding record_fault
short_fault before rest at whole short = rw (whole, short) refl

is_short : (kind size : ℕ) → ltb size 4 ≡ true → has_short_length kind size ≡ true
unfolding has_short_length
is_short kind size short = or_left _ _ (or_left _ _ (or_left _ _ short))

no_fault_of_other : (before : List Record) (rest : List ℕ) (at : ℕ) → is_cut rest ≡ false → 4 ≤ length_said rest → 2 < kind_said rest → record_fault before rest at ≡ None
no_fault_of_other before rest at whole long other =
    no_fault before rest at (record {
      whole = whole;
      long = not_short (kind_said rest) (length_said rest) (record {
        frame = long;
        chbs = λ k. absurd (omega (arith, k));
        window = λ k. absurd (omega (arith, k));
        maps = λ k. absurd (omega (arith, k));
      });
      ways = ways_known (kind_said rest) (ways_said rest) (λ k. absurd (omega (arith, k)));
      size = no_other_length (kind_said rest) rest (record { window = λ k. absurd (omega (arith, k)); maps = λ k. absurd (omega (arith, k)) });
      gran = no_unknown_gran (kind_said rest) rest (record { window = λ k. absurd (omega (arith, k)); maps = λ k. absurd (omega (arith, k)) });
      arithmetic = arithmetic_known (kind_said rest) (field rest 25 1) (λ k. absurd (omega (arith, k)));
      room = room_from (kind_said rest) before (λ k. absurd (omega (arith, k)));
    })

pub fault_of_other : (before : List Record) (rest : List ℕ) (at : ℕ) → is_cut rest ≡ false → 2 < kind_said rest
    → record_fault before rest at ≡ cond (ltb (length_said rest) 4) (Some (RecordLength at)) None
fault_of_other before rest at whole other =
    elim (cases_Bool (ltb (length_said rest) 4)) [
      | inl short ↦ rw short (short_fault before rest at whole (is_short (kind_said rest) (length_said rest) short))
      | inr long ↦ rw long (no_fault_of_other before rest at whole (ltb-false (length_said rest) 4 long) other)
    ]
