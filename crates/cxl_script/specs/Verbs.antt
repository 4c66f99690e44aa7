-- The verbs of a script (this project's grammar).
use Rattle.std.specs.Prelude.{ℕ, if◌then◌else◌, List, codes, Option, Some, None}
use Rattle.std.specs.Str.{bytes_eq}
use Rattle.cxl_script.specs.declared.verb.Verb.{Verb}
use Rattle.cxl_script.specs.declared.verb.Verb.TheVariants as verbs

-- the verb that a word is
abbrev pub verb_of : List ℕ → Option Verb
verb_of word =
    if bytes_eq word (codes "create") then Some verbs.Create
    else (if bytes_eq word (codes "destroy") then Some verbs.Destroy
    else (if bytes_eq word (codes "show") then Some verbs.Show
    else (if bytes_eq word (codes "down") then Some verbs.Down
    else (if bytes_eq word (codes "up") then Some verbs.Up
    else (if bytes_eq word (codes "load") then Some verbs.Load
    else (if bytes_eq word (codes "store") then Some verbs.Store
    else (if bytes_eq word (codes "poison") then Some verbs.Poison
    else (if bytes_eq word (codes "begin") then Some verbs.Begin
    else (if bytes_eq word (codes "step") then Some verbs.Step
    else (if bytes_eq word (codes "abort") then Some verbs.Abort
    else (if bytes_eq word (codes "range") then Some verbs.Range
    else (if bytes_eq word (codes "spread") then Some verbs.Spread
    else (if bytes_eq word (codes "copy") then Some verbs.Copy
    else (if bytes_eq word (codes "move") then Some verbs.Move
    else None))))))))))))))
