-- Files that are kept in memory.
use Rattle.std.specs.Prelude.{ℕ, List, [], ◌∷◌, Option, Some, None, if◌then◌else◌}
use Rattle.std.specs.Str.{bytes_eq}
use Rattle.io_core.specs.declared.stored.MemFile.{MemFile}

-- the bytes of a stored file by its name, or others where it isn't there; of several files with one name the last holds
abbrev pub stored_or : Option (List ℕ) → List MemFile → List ℕ → Option (List ℕ)
stored_or other [] name = other
stored_or other (f ∷ files) name =
    let here = stored_or (Some f.bytes.items) files name in
    let behind = stored_or other files name in
    (if bytes_eq f.name.items name then here else behind)

-- the bytes of a stored file by its name, where it is there
abbrev pub stored : List MemFile → List ℕ → Option (List ℕ)
stored files name = stored_or None files name
