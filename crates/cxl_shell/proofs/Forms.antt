-- The files of a form.
use Rattle.std.proofs.Common.{◌≡◌, ℕ, Some, List, ◌∷◌, ap}
use Rattle.cxl_commands.specs.Form.{Form, OfTable, OfResetHost, OfHost, OfWords, own_files, table_file}

-- the first file is that with the table
pub first_file : (form : Form) (file : List ℕ) (others : List (List ℕ)) → own_files form ≡ file ∷ others → table_file form ≡ Some file
first_file (OfTable cedt ask) file others own = let same : cedt ≡ file = cc in ap (λ g. Some g) same
first_file (OfResetHost cedt topo ask) file others own = let same : cedt ≡ file = cc in ap (λ g. Some g) same
first_file (OfHost cedt topo image ask) file others own = let same : cedt ≡ file = cc in ap (λ g. Some g) same
first_file (OfWords ask) file others own = absurd (cc)

pub one_file : (form : Form) (file other : List ℕ) → table_file form ≡ Some file → table_file form ≡ Some other → file ≡ other
one_file form file other asked again = cc
