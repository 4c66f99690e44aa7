-- Which bytes are an image file of a topology, of which image, and the first fault of bytes that are none (this
-- project's rule).
use Rattle.std.specs.Prelude.{◌≡◌, ◌≢◌, ℕ, ◌+◌, ◌<◌, ◌≤◌, IsTrue, false, List, length, slice_get, Some, Result, Err, ◌⊎◌}
use Rattle.cxl_regs.specs.Registers.{Registers}
use Rattle.cxl_topo.specs.declared.node.Node.{Node}
use Rattle.cxl_image.specs.declared.fault.ImageFault.{ImageFault}
use Rattle.cxl_image.specs.declared.fault.ImageFault.TheVariants.{Magic, Cut, Nodes, Caps, Trailing, Memory}
use Rattle.cxl_image.specs.Fields.{start_of, end_of, has_magic, word_from, count_said, named_bits, block_from}

-- the fields that are judged and end by this byte place are the topology's: magic, number of nodes, capability words
pub record AgreesUpTo (bytes : List ℕ) (nodes : List Node) (place : ℕ) : Type 0 where
  pub magic : 8 ≤ place → IsTrue (has_magic bytes)
  pub count : 12 ≤ place → count_said bytes ≡ length nodes
  pub caps : (i : ℕ) (node : Node) → slice_get nodes i ≡ Some node → start_of nodes i + 4 ≤ place → named_bits (word_from bytes (start_of nodes i)) ≡ named_bits node.cap

-- the bytes are a file of the topology's image with these blocks, each byte of them
pub record IsImageFile (bytes : List ℕ) (nodes : List Node) (blocks : List Registers) : Type 0 where
  pub whole : length bytes ≡ end_of nodes
  pub agrees : AgreesUpTo bytes nodes (end_of nodes)
  pub count : length blocks ≡ length nodes
  pub each : (i : ℕ) (node : Node) → slice_get nodes i ≡ Some node → slice_get blocks i ≡ Some (block_from bytes (start_of nodes i) node)

-- ---- the first fault

-- the bytes end, `n` of them, before the last field does
pub record IsCut (bytes : List ℕ) (nodes : List Node) (n : ℕ) : Type 0 where
  pub all : n ≡ length bytes
  pub short : length bytes < end_of nodes
  pub agrees : AgreesUpTo bytes nodes (length bytes)

-- the first eight bytes are others
pub record HasOtherMagic (bytes : List ℕ) : Type 0 where
  pub whole : 8 ≤ length bytes
  pub other : has_magic bytes ≡ false

-- the number of nodes is another
pub record HasOtherCount (bytes : List ℕ) (nodes : List Node) (said : ℕ) : Type 0 where
  pub whole : 12 ≤ length bytes
  pub here : said ≡ count_said bytes
  pub other : said ≢ length nodes
  pub agrees : AgreesUpTo bytes nodes 8

-- the capability word of node i is another
pub record HasOtherCaps (bytes : List ℕ) (nodes : List Node) (i : ℕ) : Type 0 where
  pub node : Node
  pub here : slice_get nodes i ≡ Some node
  pub whole : start_of nodes i + 4 ≤ length bytes
  pub other : named_bits (word_from bytes (start_of nodes i)) ≢ named_bits node.cap
  pub agrees : AgreesUpTo bytes nodes (start_of nodes i)

-- bytes follow the last block
pub record HasMore (bytes : List ℕ) (nodes : List Node) (at : ℕ) : Type 0 where
  pub here : at ≡ end_of nodes
  pub more : end_of nodes < length bytes
  pub agrees : AgreesUpTo bytes nodes (end_of nodes)

-- what a first fault says, from the front of the file
abbrev pub IsFirstImageFault : List ℕ → List Node → ImageFault → Type 0
IsFirstImageFault bytes nodes Magic = HasOtherMagic bytes
IsFirstImageFault bytes nodes (Cut n) = IsCut bytes nodes n
IsFirstImageFault bytes nodes (Nodes said) = HasOtherCount bytes nodes said
IsFirstImageFault bytes nodes (Caps i) = HasOtherCaps bytes nodes i
IsFirstImageFault bytes nodes (Trailing at) = HasMore bytes nodes at
IsFirstImageFault bytes nodes Memory = ⊥

-- ---- answers

-- an answer other than want of memory is the first fault
abbrev pub IsImageFaultOf : List ℕ → List Node → ImageFault → Type 0
IsImageFaultOf bytes nodes fault = (fault ≡ Memory) ⊎ IsFirstImageFault bytes nodes fault

-- this answer, unless memory ran out
abbrev pub IsImageAnswer : Result (List Registers) ImageFault → Result (List Registers) ImageFault → Type 0
IsImageAnswer result answer = (result ≡ answer) ⊎ (result ≡ Err Memory)

-- there is an image of which the bytes are a file
abbrev pub HasImage : List ℕ → List Node → Type 0
HasImage bytes nodes = (blocks : List Registers) × IsImageFile bytes nodes blocks

-- there is a first fault
abbrev pub HasImageFault : List ℕ → List Node → Type 0
HasImageFault bytes nodes = (fault : ImageFault) × IsFirstImageFault bytes nodes fault
