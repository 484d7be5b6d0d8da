-- The dictionary that a JSON value is, or why it is none.
use Rattle.std.specs.Prelude.{◌≡◌, ℕ, pos, negsuc, ◌-◌, ◌^◌, ◌++◌, Bool, true, false, List, [], ◌∷◌, nat_lt, int_le, int_lt, ◌&&◌, codes, Option, Some, None, Result, Ok, Err, option_and_then, IsUtf8, if◌then◌else◌}
use Rattle.std.specs.Int.{cast_unsigned, w32}
use Rattle.std.specs.List.{list_all}
use Rattle.serde_json.specs.Data.{Num, unsigned, negative, float, Data, Members, no_members, member}
use Rattle.serde_json.specs.Find.{get, as_number, as_object, as_u64}
use Rattle.serde_json.specs.Read.{read}
use Rattle.msg_dict.specs.declared.DictFault.{DictFault}
use Rattle.msg_dict.specs.declared.DictFault.TheVariants.{Memory, NotJson, Shape, BadFormat, SameId}
use Rattle.msg_dict.specs.Dictionary.{Named, Enumerated, Dictionary, numbers_differ}
use Rattle.msg_dict.specs.Format.{is_format}

-- an identifier is a whole number from -2 ^ 31 to 2 ^ 32 - 1, modulo 2 ^ 32
abbrev pub id_of_number : Num → Option ℕ
id_of_number (unsigned n) = if nat_lt n (2 ^ 32) then Some n else None
id_of_number (negative z) =
    if int_le (negsuc (2 ^ 31 - 1)) z && int_lt z (pos 0) then Some (cast_unsigned w32 z) else None
id_of_number (float x) = None

-- the identifier that a value is
abbrev pub id_of : Data → Option ℕ
id_of d = option_and_then id_of_number (as_number d)

-- the formats of an object and their identifiers, where each of them is one
abbrev pub with_format : List ℕ → Option ℕ → Option (List Named) → Option (List Named)
with_format name None rest = None
with_format name (Some id) None = None
with_format name (Some id) (Some rest) = Some (record { name = name; number = id } ∷ rest)

-- the formats of an object with their identifiers, where each has one
abbrev pub formats_of : Members → Option (List Named)
formats_of no_members = Some []
formats_of (member name d ms) = with_format name (id_of d) (formats_of ms)

-- the members that are whole numbers below 2 ^ 64
abbrev pub with_constant : List ℕ → Option ℕ → List Named → List Named
with_constant name None rest = rest
with_constant name (Some n) rest = record { name = name; number = n } ∷ rest

-- the constants of an object
abbrev pub constants_of : Members → List Named
constants_of no_members = []
constants_of (member name d ms) = with_constant name (option_and_then as_u64 (as_number d)) (constants_of ms)

-- of each member that is an object, the members that are whole numbers below 2 ^ 32
abbrev pub below_32 : Option ℕ → Option ℕ
below_32 None = None
below_32 (Some n) = if nat_lt n (2 ^ 32) then Some n else None

-- a name of an enumeration with its number, where it has one, before others
abbrev pub with_choice : List ℕ → List ℕ → Option ℕ → List Enumerated → List Enumerated
with_choice enumeration name None rest = rest
with_choice enumeration name (Some n) rest = record { enumeration = enumeration; name = name; number = n } ∷ rest

-- the names of one enumeration with their numbers
abbrev pub choices_of : List ℕ → Members → List Enumerated
choices_of enumeration no_members = []
choices_of enumeration (member name d ms) =
    with_choice enumeration name (below_32 (option_and_then as_u64 (as_number d))) (choices_of enumeration ms)

-- the names of an enumeration with their numbers, where it is an object
abbrev pub choices_in : List ℕ → Option Members → List Enumerated
choices_in enumeration None = []
choices_in enumeration (Some ms) = choices_of enumeration ms

-- the names of all enumerations with their numbers
abbrev pub enumerations_of : Members → List Enumerated
enumerations_of no_members = []
enumerations_of (member name d ms) = choices_in name (as_object d) ++ enumerations_of ms

-- a member that is an object
abbrev pub object_at : List ℕ → Data → Option Members
object_at name d = option_and_then as_object (get name d)

-- the dictionary, where each format is one and no identifier stands twice, or the fault
abbrev pub checked : List Named → List Named → List Enumerated → Result Dictionary DictFault
checked formats constants numbers =
    if list_all (λ f. is_format f.name) formats
    then (if numbers_differ formats then Ok (record { formats = formats; constants = constants; numbers = numbers })
    else Err SameId)
    else Err BadFormat

-- the dictionary of these formats, or the fault
abbrev pub of_formats : Option (List Named) → Option (List Named) → Members → Members → Result Dictionary DictFault
of_formats None responses config enumerations = Err Shape
of_formats (Some commands) None config enumerations = Err Shape
of_formats (Some commands) (Some responses) config enumerations =
    checked (commands ++ responses) (constants_of config) (enumerations_of enumerations)

-- a dictionary by its four objects, where all are there
abbrev pub of_objects : Option Members → Option Members → Option Members → Option Members → Result Dictionary DictFault
of_objects None responses config enumerations = Err Shape
of_objects (Some commands) None config enumerations = Err Shape
of_objects (Some commands) (Some responses) None enumerations = Err Shape
of_objects (Some commands) (Some responses) (Some config) None = Err Shape
of_objects (Some commands) (Some responses) (Some config) (Some enumerations) =
    of_formats (formats_of commands) (formats_of responses) config enumerations

-- the dictionary that a value is
unfoldable pub dictionary_of : Data → Result Dictionary DictFault
dictionary_of d =
    of_objects (object_at (codes "commands") d) (object_at (codes "responses") d) (object_at (codes "config") d)
    (object_at (codes "enumerations") d)

-- the bytes are this JSON value; bytes that aren't UTF-8 are none
abbrev pub IsJson : List ℕ → Data → Type 0
IsJson bytes d = IsUtf8 bytes × (read bytes ≡ Some d)

-- the bytes are a dictionary
abbrev pub IsDictionaryText : List ℕ → Dictionary → Type 0
IsDictionaryText bytes dictionary = (d : Data) × IsJson bytes d × (dictionary_of d ≡ Ok dictionary)

-- the bytes are JSON, and this is why the value is no dictionary
abbrev pub FailsData : List ℕ → DictFault → Type 0
FailsData bytes fault = (d : Data) × IsJson bytes d × (dictionary_of d ≡ Err fault)

-- why bytes are no dictionary; want of memory is free
abbrev pub Fails : List ℕ → DictFault → Type 0
Fails bytes Memory = Unit {0}
Fails bytes NotJson = (d : Data) → IsJson bytes d → ⊥
Fails bytes Shape = FailsData bytes Shape
Fails bytes BadFormat = FailsData bytes BadFormat
Fails bytes SameId = FailsData bytes SameId

-- the formats of an object were added, or one of them has no identifier
abbrev pub AddsFormats : Bool → Option (List Named) → List Named → List Named → Type 0
AddsFormats true found old new = (ns : List Named) × (found ≡ Some ns) × (new ≡ old ++ ns)
AddsFormats false found old new = found ≡ None
