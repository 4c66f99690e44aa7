-- Bytes are a file of one image or have one first fault, and never both.
use Rattle.std.proofs.Common.{◌≡◌, ℕ, ◌+◌, ◌<◌, ◌≤◌, List, length, Result, Ok, Err, IfOk, IfErr, refl, sym, ap, ◌∙◌, inl, inr, arith}
use Rattle.std.proofs.lemmas.Bool.{cases_lt, false≢true}
use Rattle.std.proofs.lemmas.Option.{slice_get_cases, slice_get_past}
use Rattle.cxl_enc.proofs.Lists.{same_by_get}
use Rattle.cxl_regs.specs.Registers.{Registers}
use Rattle.cxl_topo.specs.declared.node.Node.{Node}
use Rattle.cxl_image.specs.declared.fault.ImageFault.{ImageFault}
use Rattle.cxl_image.specs.declared.fault.ImageFault.TheVariants.{Magic, Cut, Nodes, Caps, Trailing, Memory}
use Rattle.cxl_image.specs.Fields.{start_of, end_of}
use Rattle.cxl_image.specs.File.{AgreesUpTo, IsImageFile, HasOtherMagic, HasOtherCount, HasOtherCaps, IsFirstImageFault, IsImageFaultOf, IsImageAnswer}
use Rattle.cxl_image.specs.Images.{HasCapsOf}
use Rattle.cxl_image.proofs.Places.{start_before, ends_within, block_long}
use Rattle.cxl_image.proofs.Blocks.{file_caps}

-- ---- one image

pub one_image : (bytes : List ℕ) (nodes : List Node) (image other : List Registers) → IsImageFile bytes nodes image → IsImageFile bytes nodes other → image ≡ other
one_image bytes nodes image other h k = same_by_get image other (λ i. elim (slice_get_cases nodes i).1 [
  | inl here ↦ h.each i here.0 here.2 ∙ sym (k.each i here.0 here.2)
  | inr past ↦
      let beyond = past.0 in
      slice_get_past image i (omega (arith, h.count)) ∙ sym (slice_get_past other i (omega (arith, k.count)))
])

-- ---- one fault

magic_breaks : (bytes : List ℕ) (nodes : List Node) (p : ℕ) → HasOtherMagic bytes → AgreesUpTo bytes nodes p → 8 ≤ p → ⊥
magic_breaks bytes nodes p h agrees le = false≢true (sym h.other ∙ agrees.magic le)

count_breaks : (bytes : List ℕ) (nodes : List Node) (said p : ℕ) → HasOtherCount bytes nodes said → AgreesUpTo bytes nodes p → 12 ≤ p → ⊥
count_breaks bytes nodes said p h agrees le = h.other (h.here ∙ agrees.count le)

caps_break : (bytes : List ℕ) (nodes : List Node) (i p : ℕ) → HasOtherCaps bytes nodes i → AgreesUpTo bytes nodes p → start_of nodes i + 4 ≤ p → ⊥
caps_break bytes nodes i p h agrees le = h.other (agrees.caps i h.node h.here le)

-- of two capability words that are other ones the later does not come first
caps_later : (bytes : List ℕ) (nodes : List Node) (i j : ℕ) → HasOtherCaps bytes nodes i → HasOtherCaps bytes nodes j → i < j → ⊥
caps_later bytes nodes i j h k lt =
    let before = start_before nodes i j h.node h.here lt in
    let long = block_long h.node in
    caps_break bytes nodes i (start_of nodes j) h k.agrees (omega arith)

caps_within : (bytes : List ℕ) (nodes : List Node) (i : ℕ) → HasOtherCaps bytes nodes i → start_of nodes i + 4 ≤ end_of nodes
caps_within bytes nodes i h =
    let within = ends_within nodes i h.node h.here in
    let long = block_long h.node in
    omega arith

one_caps : (bytes : List ℕ) (nodes : List Node) (i j : ℕ) → HasOtherCaps bytes nodes i → HasOtherCaps bytes nodes j → i ≡ j
one_caps bytes nodes i j h k = elim (cases_lt i j) [
  | inl below ↦ absurd (caps_later bytes nodes i j h k below)
  | inr above ↦ elim (cases_lt j i) [
    | inl below ↦ absurd (caps_later bytes nodes j i k h below)
    | inr none ↦ omega arith
  ]
]

pub one_fault : (bytes : List ℕ) (nodes : List Node) (fault other : ImageFault) → IsFirstImageFault bytes nodes fault → IsFirstImageFault bytes nodes other → fault ≡ other
one_fault bytes nodes Memory other h k = absurd h
one_fault bytes nodes Magic Memory h k = absurd k
one_fault bytes nodes Magic Magic h k = refl
one_fault bytes nodes Magic (Cut n) h k = absurd (magic_breaks bytes nodes (length bytes) h k.agrees h.whole)
one_fault bytes nodes Magic (Nodes said) h k = absurd (magic_breaks bytes nodes 8 h k.agrees (omega arith))
one_fault bytes nodes Magic (Caps i) h k = absurd (magic_breaks bytes nodes (start_of nodes i) h k.agrees (omega arith))
one_fault bytes nodes Magic (Trailing at) h k = absurd (magic_breaks bytes nodes (end_of nodes) h k.agrees (omega arith))
one_fault bytes nodes (Cut n) Memory h k = absurd k
one_fault bytes nodes (Cut n) Magic h k = absurd (magic_breaks bytes nodes (length bytes) k h.agrees k.whole)
one_fault bytes nodes (Cut n) (Cut m) h k = ap Cut (h.all ∙ sym k.all)
one_fault bytes nodes (Cut n) (Nodes said) h k = absurd (count_breaks bytes nodes said (length bytes) k h.agrees k.whole)
one_fault bytes nodes (Cut n) (Caps i) h k = absurd (caps_break bytes nodes i (length bytes) k h.agrees k.whole)
one_fault bytes nodes (Cut n) (Trailing at) h k = absurd (omega (arith, h.short, k.more))
one_fault bytes nodes (Nodes said) Memory h k = absurd k
one_fault bytes nodes (Nodes said) Magic h k = absurd (magic_breaks bytes nodes 8 k h.agrees (omega arith))
one_fault bytes nodes (Nodes said) (Cut m) h k = absurd (count_breaks bytes nodes said (length bytes) h k.agrees h.whole)
one_fault bytes nodes (Nodes said) (Nodes told) h k = ap Nodes (h.here ∙ sym k.here)
one_fault bytes nodes (Nodes said) (Caps i) h k = absurd (count_breaks bytes nodes said (start_of nodes i) h k.agrees (omega arith))
one_fault bytes nodes (Nodes said) (Trailing at) h k = absurd (count_breaks bytes nodes said (end_of nodes) h k.agrees (omega arith))
one_fault bytes nodes (Caps i) Memory h k = absurd k
one_fault bytes nodes (Caps i) Magic h k = absurd (magic_breaks bytes nodes (start_of nodes i) k h.agrees (omega arith))
one_fault bytes nodes (Caps i) (Cut m) h k = absurd (caps_break bytes nodes i (length bytes) h k.agrees h.whole)
one_fault bytes nodes (Caps i) (Nodes said) h k = absurd (count_breaks bytes nodes said (start_of nodes i) k h.agrees (omega arith))
one_fault bytes nodes (Caps i) (Caps j) h k = ap Caps (one_caps bytes nodes i j h k)
one_fault bytes nodes (Caps i) (Trailing at) h k = absurd (caps_break bytes nodes i (end_of nodes) h k.agrees (caps_within bytes nodes i h))
one_fault bytes nodes (Trailing at) Memory h k = absurd k
one_fault bytes nodes (Trailing at) Magic h k = absurd (magic_breaks bytes nodes (end_of nodes) k h.agrees (omega arith))
one_fault bytes nodes (Trailing at) (Cut m) h k = absurd (omega (arith, k.short, h.more))
one_fault bytes nodes (Trailing at) (Nodes said) h k = absurd (count_breaks bytes nodes said (end_of nodes) k h.agrees (omega arith))
one_fault bytes nodes (Trailing at) (Caps i) h k = absurd (caps_break bytes nodes i (end_of nodes) k h.agrees (caps_within bytes nodes i k))
one_fault bytes nodes (Trailing at) (Trailing to) h k = ap Trailing (h.here ∙ sym k.here)

-- ---- never both

pub not_both : (bytes : List ℕ) (nodes : List Node) (image : List Registers) (fault : ImageFault) → IsImageFile bytes nodes image → IsFirstImageFault bytes nodes fault → ⊥
not_both bytes nodes image Memory h k = k
not_both bytes nodes image Magic h k = magic_breaks bytes nodes (end_of nodes) k h.agrees (omega arith)
not_both bytes nodes image (Cut n) h k = omega (arith, k.short, h.whole)
not_both bytes nodes image (Nodes said) h k = count_breaks bytes nodes said (end_of nodes) k h.agrees (omega arith)
not_both bytes nodes image (Caps i) h k = caps_break bytes nodes i (end_of nodes) k h.agrees (caps_within bytes nodes i k)
not_both bytes nodes image (Trailing at) h k = omega (arith, k.more, h.whole)

-- ---- answers

pub only_image : (bytes : List ℕ) (nodes : List Node) (result : Result (List Registers) ImageFault) → IfOk result (λ image. IsImageFile bytes nodes image) → IfErr result (λ fault. IsImageFaultOf bytes nodes fault)
    → (image : List Registers) → IsImageFile bytes nodes image → IsImageAnswer result (Ok image)
only_image bytes nodes (Ok read) is none image h = inl (ap Ok (one_image bytes nodes read image is h))
only_image bytes nodes (Err fault) none is image h = elim is [
  | inl memory ↦ inr (ap Err memory)
  | inr first ↦ absurd (not_both bytes nodes image fault h first)
]

pub only_fault : (bytes : List ℕ) (nodes : List Node) (result : Result (List Registers) ImageFault) → IfOk result (λ image. IsImageFile bytes nodes image) → IfErr result (λ fault. IsImageFaultOf bytes nodes fault)
    → (fault : ImageFault) → IsFirstImageFault bytes nodes fault → IsImageAnswer result (Err fault)
only_fault bytes nodes (Ok read) is none fault h = absurd (not_both bytes nodes read fault is h)
only_fault bytes nodes (Err found) none is fault h = elim is [
  | inl memory ↦ inr (ap Err memory)
  | inr first ↦ inl (ap Err (one_fault bytes nodes found fault first h))
]

pub read_caps : (bytes : List ℕ) (nodes : List Node) (result : Result (List Registers) ImageFault) → IfOk result (λ image. IsImageFile bytes nodes image) → IfOk result (λ image. HasCapsOf image nodes)
read_caps bytes nodes (Ok image) is = file_caps bytes nodes image is
read_caps bytes nodes (Err fault) none = tt
