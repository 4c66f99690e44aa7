-- The target list that is stated for the used ports of a node, and the ways that stand in its decoder.
use Rattle.std.proofs.Common.{◌≡◌, ℕ, zero, suc, ◌*◌, ◌+◌, ◌-◌, ◌/◌, ◌%◌, ◌^◌, ◌<◌, true, false, List, [], ◌∷◌, length, get_or, map, Some, refl, sym, ap, ◌∙◌, arith}
use Rattle.std.specs.Prelude.{slice_get, All}
use Rattle.std.specs.List.{range_with_len}
use Rattle.std.proofs.Math.Nat.{pow-succ', div-div-eq-div-mul}
use Rattle.std.proofs.lemmas.Bool.{cond-false}
use Rattle.std.proofs.lemmas.Option.{slice_get_within, get_or_from_slice_get}
use Rattle.std.proofs.lemmas.List.{same_lists}
use Rattle.std.proofs.lemmas.List.Elements.{All-head, All-tail}
use Rattle.std.proofs.lemmas.List.FromFn.{length-map-range_with_len, get_or-map-range_with_len}
use Rattle.cxl_topo.specs.Tree.{is_endpoint_at}
use Rattle.cxl_regs.specs.Reading.{decoder_ways, entry_at, entries_of}
use Rattle.cxl_span.specs.Allotting.{cursor_of}
use Rattle.cxl_window.specs.Fields.{WindowFields}
use Rattle.cxl_model.specs.declared.request.Request.{Request}
use Rattle.cxl_model.specs.System.{System, decoders_at}
use Rattle.cxl_model.specs.Plans.{committed_row}
use Rattle.cxl_legal.specs.Used.{is_used, used_ports, planned_ways}
use Rattle.cxl_legal.specs.Stated.{targets_word, stated_start, stated_tail, stated_row}
use Rattle.cxl_legal.proofs.RowsDecoders.{own_code}
use Rattle.cxl_legal.proofs.UsedPorts.{ports_small, port_ways}
use Rattle.cxl_legal.proofs.StatedImages.{Stated}

-- ---- the target list

-- the port at an entry of a target list
pub word_entry : (ports : List ℕ) → All (λ e. e < 256) ports → (i d : ℕ) → i < length ports → targets_word ports / 256 ^ i % 256 ≡ get_or ports i d
word_entry [] small i d within = absurd (omega arith)
word_entry (port ∷ ports) small zero d within =
    let first : port < 256 = All-head (λ (x : ℕ). x < 256) port ports small in
    let power : 256 ^ 0 ≡ 1 = refl in
    ap (λ (k : ℕ). (port + 256 * targets_word ports) / k % 256) power ∙ omega (arith, first)
word_entry (port ∷ ports) small (suc i) d within =
    let first : port < 256 = All-head (λ (x : ℕ). x < 256) port ports small in
    let rest = word_entry ports (All-tail (λ (x : ℕ). x < 256) port ports small) i d (omega arith) in
    let down : (port + 256 * targets_word ports) / 256 ≡ targets_word ports = omega (arith, first) in
    ap (λ (k : ℕ). (port + 256 * targets_word ports) / k % 256) (pow-succ' 256 i)
    ∙ ap (λ (k : ℕ). k % 256) (sym (div-div-eq-div-mul (port + 256 * targets_word ports) 256 (256 ^ i)))
    ∙ ap (λ (k : ℕ). k / 256 ^ i % 256) down
    ∙ rest

word_list : (ports : List ℕ) → All (λ e. e < 256) ports → map (λ i. targets_word ports / 256 ^ i % 256) (range_with_len 0 (length ports)) ≡ ports
word_list ports small =
    let long = length-map-range_with_len (λ i. targets_word ports / 256 ^ i % 256) 0 (length ports) in
    same_lists (map (λ i. targets_word ports / 256 ^ i % 256) (range_with_len 0 (length ports))) ports long (λ k d within.
    let inside : k < length ports = omega (arith, long, within) in
    get_or-map-range_with_len (λ i. targets_word ports / 256 ^ i % 256) 0 (length ports) k k d inside (omega arith) ∙ word_entry ports small k d inside)

-- ---- the decoder that is stated

pub ways_stated : {s : System} {request : Request} {w : WindowFields} {base : ℕ} → Stated s request w base → (n : ℕ) → is_used s request n ≡ true → decoder_ways (committed_row (stated_row s request w base n)) ≡ planned_ways s request n
ways_stated {s} {request} {w} {base} c n used = (own_code c.lower c.spans s request w base c.fits n used).ways

tail_stated : (s : System) (request : Request) (n : ℕ) → is_endpoint_at s.nodes n ≡ false → stated_tail s request n ≡ targets_word (used_ports s request n)
tail_stated s request n port = cond-false (is_endpoint_at s.nodes n) (stated_start s request n - cursor_of (decoders_at s n)) (targets_word (used_ports s request n)) port

-- a port's lists its used ports
pub entries_stated : {s : System} {request : Request} {w : WindowFields} {base : ℕ} → Stated s request w base → (n : ℕ) → is_endpoint_at s.nodes n ≡ false → is_used s request n ≡ true
    → entries_of (committed_row (stated_row s request w base n)) ≡ used_ports s request n
entries_stated {s} {request} {w} {base} c n port used =
    ap (λ (k : ℕ). map (entry_at (committed_row (stated_row s request w base n))) (range_with_len 0 k)) (ways_stated c n used ∙ port_ways s request n port)
    ∙ ap (λ (word : ℕ). map (λ i. word / 256 ^ i % 256) (range_with_len 0 (length (used_ports s request n)))) (tail_stated s request n port)
    ∙ word_list (used_ports s request n) (ports_small s request n)

-- the port at an entry is that used port
pub entry_stated : {s : System} {request : Request} {w : WindowFields} {base : ℕ} → Stated s request w base → (n i e : ℕ) → is_endpoint_at s.nodes n ≡ false → slice_get (used_ports s request n) i ≡ Some e
    → entry_at (committed_row (stated_row s request w base n)) i ≡ e
entry_stated {s} {request} {w} {base} c n i e port at =
    ap (λ (word : ℕ). word / 256 ^ i % 256) (tail_stated s request n port)
    ∙ word_entry (used_ports s request n) (ports_small s request n) i e (slice_get_within (used_ports s request n) i e at) ∙ get_or_from_slice_get (used_ports s request n) i e e at
