-- What can be wrong at a key.
use Rattle.cxl_topofile.specs.declared.key.Key.{Key}
use Rattle.cxl_topofile.specs.declared.fault.Wrong.{Wrong}
use Rattle.cxl_topofile.specs.declared.fault.Cause.TheVariants as causes

-- a key is missing
abbrev pub missing : Key → Wrong
missing key = record { cause = causes.Missing; key = key }

-- the value of a key is of another kind than it has to be
abbrev pub of_other_kind : Key → Wrong
of_other_kind key = record { cause = causes.Kind; key = key }

-- the value of a key is out of its range
abbrev pub out_of_range : Key → Wrong
out_of_range key = record { cause = causes.Range; key = key }
