-- The chains of zones, in the words of the code, once a frame is put on one or taken off.
use Rattle.std.proofs.Common.{◌≡◌, ◌≢◌, ◌⊎◌, ℕ, zero, suc, ◌/◌, ◌^◌, ◌<◌, ◌≤◌, List, length, get_or, set, None, Some, refl, sym, ap, ◌∙◌, subst, inl, inr, arith}
use Rattle.std.proofs.lemmas.Bool.{cases_eq, cases_lt, cond-true, cond-false}
use Rattle.std.proofs.lemmas.List.{get_or-set_same, get_or-set_other, get_or_past, length-set}
use Rattle.std.specs.FinMap as fin
use Rattle.std.specs.FinMap.{FinMap}
use Rattle.cxl_media.specs.Blocks.{Key, key_cmp}
use Rattle.cxl_media.specs.declared.zones.Node.{Node}
use Rattle.cxl_media.specs.Zones.{no_node, node_at, key_of_node, zone_home, nexts, put_next, put_before, IsAhead, HasItsBlock, AreZoned}
use Rattle.cxl_media.proofs.Keys.{key_total, key_is, key_is_not, not_none, same_some}
use Rattle.cxl_media.proofs.Homes.{home_below}
use Rattle.cxl_media.proofs.Sims.{insert_cases, remove_cases}
use Rattle.cxl_media.proofs.Linked.{added_links, removed_links, removed_ahead}

one_less : (a b : ℕ) → suc a ≡ suc b → a ≡ b
one_less a b e = omega arith

-- a write is read back at its place, or changes nothing there
written : (nodes : List Node) (g : ℕ) (w : Node) (n : ℕ) → ((n ≡ g) × (node_at (set nodes g w) n ≡ w)) ⊎ (node_at (set nodes g w) n ≡ node_at nodes n)
written nodes g w n =
    elim (cases_eq n g) [
      | inl same ↦ elim (cases_lt g (length nodes)) [
        | inl within ↦ inl (same, ap (node_at (set nodes g w)) same ∙ get_or-set_same nodes g w no_node within)
        | inr past ↦
            let far : length (set nodes g w) ≤ n = omega (arith, length-set nodes g w, past, same) in
            let away : length nodes ≤ n = omega (arith, past, same) in
            inr (get_or_past (set nodes g w) n no_node far ∙ sym (get_or_past nodes n no_node away))
      ]
      | inr other ↦ inr (get_or-set_other nodes g n w no_node other)
    ]

-- what is before a frame is written
module _ (nodes : List Node) (b : ℕ) where
  pub length-put_before : (place : ℕ) → length (put_before nodes place b) ≡ length nodes
  length-put_before zero = refl
  length-put_before (suc g) = length-set nodes g (record (node_at nodes g) { before = b })

  pub put_before-here : (place g : ℕ) → place ≡ suc g → g < length nodes → node_at (put_before nodes place b) g ≡ record (node_at nodes g) { before = b }
  put_before-here zero g is within = absurd (omega (arith, is))
  put_before-here (suc k) g is within =
      subst (λ (n : ℕ). node_at (put_before nodes (suc k) b) n ≡ record (node_at nodes n) { before = b }) (one_less k g is)
      (get_or-set_same nodes k (record (node_at nodes k) { before = b }) no_node (omega (arith, is, within)))

  pub put_before-other : (place n : ℕ) → place ≢ suc n → node_at (put_before nodes place b) n ≡ node_at nodes n
  put_before-other zero n other = refl
  put_before-other (suc g) n other = get_or-set_other nodes g n (record (node_at nodes g) { before = b }) no_node (λ e. other (ap suc (sym e)))

  pub put_before-next : (place n : ℕ) → (node_at (put_before nodes place b) n).next ≡ (node_at nodes n).next
  put_before-next zero n = refl
  put_before-next (suc g) n =
      elim (written nodes g (record (node_at nodes g) { before = b }) n) [
        | inl new ↦ ap (λ (w : Node). w.next) new.1 ∙ ap (λ (k : ℕ). (node_at nodes k).next) (sym new.0)
        | inr same ↦ ap (λ (w : Node). w.next) same
      ]

  pub put_before-key : (place n : ℕ) → key_of_node (node_at (put_before nodes place b) n) ≡ key_of_node (node_at nodes n)
  put_before-key zero n = refl
  put_before-key (suc g) n =
      elim (written nodes g (record (node_at nodes g) { before = b }) n) [
        | inl new ↦ ap key_of_node new.1 ∙ ap (λ (k : ℕ). key_of_node (node_at nodes k)) (sym new.0)
        | inr same ↦ ap key_of_node same
      ]

-- what is behind a frame is written
module _ (nodes : List Node) (b : ℕ) where
  pub length-put_next : (place : ℕ) → length (put_next nodes place b) ≡ length nodes
  length-put_next zero = refl
  length-put_next (suc g) = length-set nodes g (record (node_at nodes g) { next = b })

  pub put_next-here : (place g : ℕ) → place ≡ suc g → g < length nodes → node_at (put_next nodes place b) g ≡ record (node_at nodes g) { next = b }
  put_next-here zero g is within = absurd (omega (arith, is))
  put_next-here (suc k) g is within =
      subst (λ (n : ℕ). node_at (put_next nodes (suc k) b) n ≡ record (node_at nodes n) { next = b }) (one_less k g is)
      (get_or-set_same nodes k (record (node_at nodes k) { next = b }) no_node (omega (arith, is, within)))

  pub put_next-other : (place n : ℕ) → place ≢ suc n → node_at (put_next nodes place b) n ≡ node_at nodes n
  put_next-other zero n other = refl
  put_next-other (suc g) n other = get_or-set_other nodes g n (record (node_at nodes g) { next = b }) no_node (λ e. other (ap suc (sym e)))

  pub put_next-before : (place n : ℕ) → (node_at (put_next nodes place b) n).before ≡ (node_at nodes n).before
  put_next-before zero n = refl
  put_next-before (suc g) n =
      elim (written nodes g (record (node_at nodes g) { next = b }) n) [
        | inl new ↦ ap (λ (w : Node). w.before) new.1 ∙ ap (λ (k : ℕ). (node_at nodes k).before) (sym new.0)
        | inr same ↦ ap (λ (w : Node). w.before) same
      ]

  pub put_next-key : (place n : ℕ) → key_of_node (node_at (put_next nodes place b) n) ≡ key_of_node (node_at nodes n)
  put_next-key zero n = refl
  put_next-key (suc g) n =
      elim (written nodes g (record (node_at nodes g) { next = b }) n) [
        | inl new ↦ ap key_of_node new.1 ∙ ap (λ (k : ℕ). key_of_node (node_at nodes k)) (sym new.0)
        | inr same ↦ ap key_of_node same
      ]

-- a frame of a new block is put on its chain
module _ (frames : FinMap key_cmp ℕ) (homes : ℕ) (firsts : List ℕ) (nodes made : List Node) (zoned : AreZoned frames homes firsts nodes) (f : ℕ) (q : Key) (absent : fin.get frames q ≡ None) (fresh : (k : Key) → fin.get frames k ≢ Some f) (some : 0 < homes) (same : (n : ℕ) → node_at made n ≡ node_at nodes n) (more : length nodes ≤ length made) (inside : f < length made) where
  h : ℕ
  h = zone_home homes q

  old : ℕ
  old = get_or firsts (zone_home homes q) 0

  before_put : List Node
  before_put = put_before made (get_or firsts (zone_home homes q) 0) (suc f)

  abbrev new_node : Node
  new_node = record { number = q.1; ep = q.0; next = get_or firsts (zone_home homes q) 0; before = 0 }

  abbrev after : List Node
  after = set (put_before made (get_or firsts (zone_home homes q) 0) (suc f)) f new_node

  abbrev more_firsts : List ℕ
  more_firsts = set firsts (zone_home homes q) (suc f)

  home_within : zone_home homes q < length firsts
  home_within = omega (arith, home_below homes (q.0, q.1 / 2 ^ 20) some, zoned.size)

  node_here : node_at after f ≡ new_node
  node_here = get_or-set_same (put_before made (get_or firsts (zone_home homes q) 0) (suc f)) f new_node no_node (omega (arith, inside, length-put_before made (suc f) (get_or firsts (zone_home homes q) 0)))

  node_put : (n : ℕ) → n ≢ f → node_at after n ≡ node_at (put_before made (get_or firsts (zone_home homes q) 0) (suc f)) n
  node_put n other = get_or-set_other (put_before made (get_or firsts (zone_home homes q) 0) (suc f)) f n new_node no_node other

  key_put : (n : ℕ) → n ≢ f → key_of_node (node_at after n) ≡ key_of_node (node_at nodes n)
  key_put n other = ap key_of_node (node_put n other) ∙ put_before-key made (suc f) (get_or firsts (zone_home homes q) 0) n ∙ ap key_of_node (same n)

  kept_apart : (n : ℕ) → HasItsBlock frames nodes n → n ≢ f
  kept_apart n has is = fresh (key_of_node (node_at nodes n)) (has ∙ ap (λ (k : ℕ). Some k) is)

  get_other : (k : Key) (n : ℕ) → fin.get frames k ≡ Some n → fin.get (fin.insert frames q f) k ≡ Some n
  get_other k n is =
      let other : k ≢ q = λ e. not_none n (sym is ∙ ap (fin.get frames) e ∙ absent) in
      fin.get-insert key_total frames q f k ∙ cond-false _ (Some f) (fin.get frames k) (key_is_not k q other) ∙ is

  get_new : fin.get (fin.insert frames q f) q ≡ Some f
  get_new = fin.get-insert key_total frames q f q ∙ cond-true _ (Some f) (fin.get frames q) (key_is q q refl)

  pub added_zoned : AreZoned (fin.insert frames q f) homes more_firsts after
  added_zoned = record {
    key = λ k n is. elim (insert_cases frames q k f n is) [
      | inl new ↦ ap (λ (m : ℕ). key_of_node (node_at after m)) new.1 ∙ ap key_of_node node_here ∙ sym new.0
      | inr kept ↦
          let other : n ≢ f = λ e. fresh k (kept.1 ∙ ap (λ (m : ℕ). Some m) e) in
          key_put n other ∙ zoned.key k n kept.1
    ];
    within = λ k n is.
        let size : length after ≡ length made = length-set (put_before made (get_or firsts (zone_home homes q) 0) (suc f)) f new_node ∙ length-put_before made (suc f) (get_or firsts (zone_home homes q) 0) in
        elim (insert_cases frames q k f n is) [
          | inl new ↦ let its = new.1 in omega (arith, its, inside, size)
          | inr kept ↦ omega (arith, zoned.within k n kept.1, more, size)
        ];
    links =
        added_links (HasItsBlock frames nodes) (λ n. zone_home homes (key_of_node (node_at nodes n))) (nexts nodes) (λ n. (node_at nodes n).before) (λ k. get_or firsts k 0) zoned.links
        (HasItsBlock (fin.insert frames q f) after) (λ n. zone_home homes (key_of_node (node_at after n))) (nexts after) (λ n. (node_at after n).before) (λ k. get_or more_firsts k 0) f (zone_home homes q)
        (λ has. kept_apart f has refl)
        (λ n has. elim (cases_eq n f) [
          | inl is ↦ inl is
          | inr other ↦
              elim (insert_cases frames q (key_of_node (node_at after n)) f n has) [
                | inl new ↦ absurd (other new.1)
                | inr kept ↦ inr (other, ap (fin.get frames) (sym (key_put n other)) ∙ kept.1)
              ]
        ])
        (ap (λ (w : Node). fin.get (fin.insert frames q f) (key_of_node w)) node_here ∙ get_new)
        (λ n has. ap (fin.get (fin.insert frames q f)) (key_put n (kept_apart n has)) ∙ get_other (key_of_node (node_at nodes n)) n has)
        (ap (λ (w : Node). zone_home homes (key_of_node w)) node_here)
        (λ n other. ap (zone_home homes) (key_put n other))
        (ap (λ (w : Node). w.before) node_here)
        (ap (λ (w : Node). w.next) node_here)
        (get_or-set_same firsts (zone_home homes q) (suc f) 0 home_within)
        (λ k other. get_or-set_other firsts (zone_home homes q) k (suc f) 0 other)
        (λ n other. ap (λ (w : Node). w.next) (node_put n other) ∙ put_before-next made (suc f) (get_or firsts (zone_home homes q) 0) n ∙ ap (λ (w : Node). w.next) (same n))
        (λ g is.
        let l = zoned.links.head (zone_home homes q) g is in
        let low : g < length made = omega (arith, zoned.within (key_of_node (node_at nodes g)) g l.0, more) in
        ap (λ (w : Node). w.before) (node_put g (kept_apart g l.0)) ∙ ap (λ (w : Node). w.before) (put_before-here made (suc f) (get_or firsts (zone_home homes q) 0) g is low))
        (λ n other unpushed. ap (λ (w : Node). w.before) (node_put n other ∙ put_before-other made (suc f) (get_or firsts (zone_home homes q) 0) n unpushed ∙ same n));
    size = length-set firsts (zone_home homes q) (suc f) ∙ zoned.size;
  }

-- the frame of a block is taken off its chain
module _ (frames : FinMap key_cmp ℕ) (homes : ℕ) (firsts : List ℕ) (nodes : List Node) (zoned : AreZoned frames homes firsts nodes) (f : ℕ) (q : Key) (there : fin.get frames q ≡ Some f) (less_firsts : List ℕ) (gone : (node_at nodes f).before ≡ 0 → less_firsts ≡ set firsts (zone_home homes (key_of_node (node_at nodes f))) (node_at nodes f).next) (else : (node_at nodes f).before ≢ 0 → less_firsts ≡ firsts) where
  abbrev passed : List Node
  passed = put_next nodes (node_at nodes f).before (node_at nodes f).next

  abbrev less : List Node
  less = put_before passed (node_at nodes f).next (node_at nodes f).before

  key_less : (n : ℕ) → key_of_node (node_at less n) ≡ key_of_node (node_at nodes n)
  key_less n = put_before-key passed (node_at nodes f).before (node_at nodes f).next n ∙ put_next-key nodes (node_at nodes f).next (node_at nodes f).before n

  next_less : (n : ℕ) → nexts less n ≡ (node_at passed n).next
  next_less n = put_before-next passed (node_at nodes f).before (node_at nodes f).next n

  has_it : HasItsBlock frames nodes f
  has_it = ap (fin.get frames) (zoned.key q f there) ∙ there

  firsts_size : length less_firsts ≡ homes
  firsts_size =
      elim (cases_eq (node_at nodes f).before 0) [
        | inl start ↦ ap length (gone start) ∙ length-set firsts (zone_home homes (key_of_node (node_at nodes f))) (node_at nodes f).next ∙ zoned.size
        | inr inner ↦ ap length (else inner) ∙ zoned.size
      ]

  inside : (g : ℕ) → HasItsBlock frames nodes g → g < length nodes
  inside g has = zoned.within (key_of_node (node_at nodes g)) g has

  left : (n : ℕ) → HasItsBlock (fin.remove frames q) less n → (n ≢ f) × HasItsBlock frames nodes n
  left n has =
      let parts = remove_cases frames q (key_of_node (node_at less n)) n has in
      (λ e. parts.0 (key_less n ∙ ap (λ (m : ℕ). key_of_node (node_at nodes m)) e ∙ zoned.key q f there), ap (fin.get frames) (sym (key_less n)) ∙ parts.1)

  stays : (n : ℕ) → n ≢ f → HasItsBlock frames nodes n → HasItsBlock (fin.remove frames q) less n
  stays n other has =
      let apart : key_of_node (node_at nodes n) ≢ q = λ e. other (same_some n f (sym has ∙ ap (fin.get frames) e ∙ there)) in
      ap (fin.get (fin.remove frames q)) (key_less n)
      ∙ fin.get-remove key_total frames q (key_of_node (node_at nodes n))
      ∙ cond-false _ None (fin.get frames (key_of_node (node_at nodes n))) (key_is_not (key_of_node (node_at nodes n)) q apart) ∙ has

  firsts_gone : 0 < homes → (node_at nodes f).before ≡ 0 → get_or less_firsts (zone_home homes (key_of_node (node_at nodes f))) 0 ≡ (node_at nodes f).next
  firsts_gone some start =
      let key : Key = key_of_node (node_at nodes f) in
      let low : zone_home homes (key_of_node (node_at nodes f)) < length firsts = omega (arith, home_below homes ((node_at nodes f).ep, (node_at nodes f).number / 2 ^ 20) some, zoned.size) in
      ap (λ fs. get_or fs (zone_home homes (key_of_node (node_at nodes f))) 0) (gone start) ∙ get_or-set_same firsts (zone_home homes (key_of_node (node_at nodes f))) (node_at nodes f).next 0 low

  firsts_else : (k : ℕ) → ((node_at nodes f).before ≡ 0 → k ≢ zone_home homes (key_of_node (node_at nodes f))) → get_or less_firsts k 0 ≡ get_or firsts k 0
  firsts_else k away =
      elim (cases_eq (node_at nodes f).before 0) [
        | inl start ↦ ap (λ fs. get_or fs k 0) (gone start) ∙ get_or-set_other firsts (zone_home homes (key_of_node (node_at nodes f))) k (node_at nodes f).next 0 (away start)
        | inr inner ↦ ap (λ fs. get_or fs k 0) (else inner)
      ]

  next_gone : (g : ℕ) → (node_at nodes f).before ≡ suc g → nexts less g ≡ (node_at nodes f).next
  next_gone g back =
      let l = zoned.links.after f g has_it back in
      next_less g ∙ ap (λ (w : Node). w.next) (put_next-here nodes (node_at nodes f).next (node_at nodes f).before g back (inside g l.0))

  next_else : (n : ℕ) → (node_at nodes f).before ≢ suc n → nexts less n ≡ nexts nodes n
  next_else n apart = next_less n ∙ ap (λ (w : Node). w.next) (put_next-other nodes (node_at nodes f).next (node_at nodes f).before n apart)

  before_gone : (g : ℕ) → (node_at nodes f).next ≡ suc g → (node_at less g).before ≡ (node_at nodes f).before
  before_gone g s =
      let l = zoned.links.later f g has_it s in
      ap (λ (w : Node). w.before) (put_before-here passed (node_at nodes f).before (node_at nodes f).next g s (omega (arith, inside g l.0, length-put_next nodes (node_at nodes f).next (node_at nodes f).before)))

  before_else : (n : ℕ) → (node_at nodes f).next ≢ suc n → (node_at less n).before ≡ (node_at nodes n).before
  before_else n apart =
      ap (λ (w : Node). w.before) (put_before-other passed (node_at nodes f).before (node_at nodes f).next n apart)
      ∙ put_next-before nodes (node_at nodes f).next (node_at nodes f).before n

  pub removed_zoned : 0 < homes → AreZoned (fin.remove frames q) homes less_firsts less
  removed_zoned some = record {
    key = λ k n is. let parts = remove_cases frames q k n is in key_less n ∙ zoned.key k n parts.1;
    within = λ k n is.
        let parts = remove_cases frames q k n is in
        omega (arith, zoned.within k n parts.1, length-put_before passed (node_at nodes f).before (node_at nodes f).next, length-put_next nodes (node_at nodes f).next (node_at nodes f).before);
    links =
        removed_links (HasItsBlock frames nodes) (λ n. zone_home homes (key_of_node (node_at nodes n))) (nexts nodes) (λ n. (node_at nodes n).before) (λ k. get_or firsts k 0) zoned.links
        (HasItsBlock (fin.remove frames q) less) (λ n. zone_home homes (key_of_node (node_at less n))) (nexts less) (λ n. (node_at less n).before) (λ k. get_or less_firsts k 0) f
        has_it left stays (λ n. ap (zone_home homes) (key_less n)) (firsts_gone some) firsts_else next_gone next_else before_gone before_else;
    size = firsts_size;
  }

  pub removed_met : 0 < homes → (n : ℕ) → IsAhead (nexts nodes) (nexts nodes f) n → IsAhead (nexts less) (nexts nodes f) n
  removed_met some =
      removed_ahead (HasItsBlock frames nodes) (λ n. zone_home homes (key_of_node (node_at nodes n))) (nexts nodes) (λ n. (node_at nodes n).before) (λ k. get_or firsts k 0) zoned.links
      (HasItsBlock (fin.remove frames q) less) (λ n. zone_home homes (key_of_node (node_at less n))) (nexts less) (λ n. (node_at less n).before) (λ k. get_or less_firsts k 0) f
      has_it left stays (λ n. ap (zone_home homes) (key_less n)) (firsts_gone some) firsts_else next_gone next_else before_gone before_else

-- no block is on a chain
pub new_zoned : (frames : FinMap key_cmp ℕ) (homes : ℕ) (firsts : List ℕ) (nodes : List Node) → frames ≡ fin.empty → length firsts ≡ homes → ((k : ℕ) → get_or firsts k 0 ≡ 0) → AreZoned frames homes firsts nodes
new_zoned frames homes firsts nodes none size empty = record {
  key = λ q n is. absurd (nothing q n is);
  within = λ q n is. absurd (nothing q n is);
  links = record {
    depth = λ n. n;
    first = λ n has _. absurd (nothing (key_of_node (node_at nodes n)) n has);
    after = λ n g has _. absurd (nothing (key_of_node (node_at nodes n)) n has);
    head = λ h g is. absurd (not_first h g is);
    later = λ n g has _. absurd (nothing (key_of_node (node_at nodes n)) n has);
  };
  size = size;
}
  where
    nothing : (q : Key) (n : ℕ) → fin.get frames q ≡ Some n → ⊥
    nothing q n is = not_none n (sym is ∙ ap (λ (m : FinMap key_cmp ℕ). fin.get m q) none ∙ fin.get-empty key_cmp q)

    not_first : (h g : ℕ) → get_or firsts h 0 ≡ suc g → ⊥
    not_first h g is = let both : 0 ≡ suc g = sym (empty h) ∙ is in omega (arith, both)
