-- Parts of which the texts of replies are made (this project's rule).
use Rattle.std.specs.Prelude.{ℕ, ◌*◌, ◌^◌, List, [], ◌∷◌, ◌++◌, codes, decimal, unwrap_or}
use Rattle.std.specs.List.{flat_map}
use Rattle.cxl_enc.specs.declared.caps.MemKind.{MemKind}
use Rattle.cxl_enc.specs.declared.caps.MemKind.TheVariants.{Ram, Pmem}
use Rattle.cxl_io.specs.Printed.{hex_of}
use Rattle.hex.specs.Hex.{encode_lower}
use Rattle.cxl_topo.specs.declared.node.Node.{Node}
use Rattle.cxl_topo.specs.Tree.{name_at}

-- a line ends with the byte 10
abbrev pub line : List ℕ → List ℕ
line text = text ++ 10 ∷ []

-- a number in hexadecimal digits
abbrev pub hex_text : ℕ → List ℕ
hex_text n = codes "0x" ++ hex_of n

-- the bytes of a granularity code
abbrev pub gran_text : ℕ → List ℕ
gran_text code = decimal (256 * 2 ^ code)

-- the word for a kind of memory
abbrev pub kind_text : MemKind → List ℕ
kind_text Ram = codes "ram"
kind_text Pmem = codes "pmem"

-- a node by its name
abbrev pub node_text : List Node → ℕ → List ℕ
node_text nodes n = unwrap_or (name_at nodes n) []

-- two digits a byte, first byte first
abbrev pub bytes_text : List ℕ → List ℕ
bytes_text bytes = encode_lower bytes

-- words, each behind a space
abbrev pub more_spaced : List (List ℕ) → List ℕ
more_spaced words = flat_map (λ word. codes " " ++ word) words

-- words behind each other, with a space between
abbrev pub spaced : List (List ℕ) → List ℕ
spaced [] = []
spaced (word ∷ words) = word ++ more_spaced words
