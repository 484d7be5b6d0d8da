-- Values that hold are of their options' kinds.
use Rattle.std.proofs.Common.{◌≡◌, ℕ, pos, Bool, true, false, cond, List, [], ◌∷◌, get_or, Option, Some, None, refl, sym, ap, ◌∙◌}
use Rattle.std.specs.List.{list_all}
use Rattle.std.proofs.lemmas.Bool.{and_parts, eqb-true}
use Rattle.cfg_lines.specs.declared.section.Section.{Section}
use Rattle.cfg_lines.specs.declared.table.Key.{Key}
use Rattle.cfg_lines.specs.declared.table.Key.TheVariants.{Kinematics, MaxVelocity, MaxAccel, SquareCornerVelocity, MinimumCruiseRatio, ClockFreq, StartClock, MoveSlots, DriftPpm, StartHomed, StepPin, DirPin, RotationDistance, Microsteps, FullSteps, GearRatio, EndstopPin, PositionEndstop, PositionMax, PositionMin, HomingSpeed, FanPin}
use Rattle.cfg_lines.specs.declared.value.Value.TheVariants.{Amount, Signed, Flag, Pin}
use Rattle.cfg_lines.specs.declared.item.Item.{Item}
use Rattle.cfg_lines.specs.declared.item.Item.TheVariants.{Skipped, PassedOver, Opens, Holds, Wrong}
use Rattle.cfg_lines.specs.declared.item.Entry.{Entry}
use Rattle.cfg_lines.specs.Sections.{same_section}
use Rattle.cfg_lines.specs.Table.{Row, option_row, option_place, same_key}
use Rattle.cfg_lines.specs.Values.{fits, fits_kind}
use Rattle.cfg_lines.specs.Items.{item_fits, entry_fits}
use Rattle.cfg_text.specs.Holding.{sets, suits, last_set, or_earlier, amount, amount_or, amount_in, signed, signed_or, signed_in}

abbrev rows : List Row
rows = option_row Kinematics ∷ option_row MaxVelocity ∷ option_row MaxAccel ∷ option_row SquareCornerVelocity ∷ option_row MinimumCruiseRatio ∷ option_row ClockFreq ∷ option_row StartClock ∷ option_row MoveSlots ∷ option_row DriftPpm ∷ option_row StartHomed ∷ option_row StepPin ∷ option_row DirPin ∷ option_row RotationDistance ∷ option_row Microsteps ∷ option_row FullSteps ∷ option_row GearRatio ∷ option_row EndstopPin ∷ option_row PositionEndstop ∷ option_row PositionMax ∷ option_row PositionMin ∷ option_row HomingSpeed ∷ option_row FanPin ∷ []

-- an option's row is the one at its place
row_at : (key : Key) → option_row key ≡ get_or rows (option_place key) (option_row Kinematics)
row_at Kinematics = refl
row_at MaxVelocity = refl
row_at MaxAccel = refl
row_at SquareCornerVelocity = refl
row_at MinimumCruiseRatio = refl
row_at ClockFreq = refl
row_at StartClock = refl
row_at MoveSlots = refl
row_at DriftPpm = refl
row_at StartHomed = refl
row_at StepPin = refl
row_at DirPin = refl
row_at RotationDistance = refl
row_at Microsteps = refl
row_at FullSteps = refl
row_at GearRatio = refl
row_at EndstopPin = refl
row_at PositionEndstop = refl
row_at PositionMax = refl
row_at PositionMin = refl
row_at HomingSpeed = refl
row_at FanPin = refl

same_row : (a b : Key) → same_key a b ≡ true → option_row b ≡ option_row a
same_row a b same = row_at b ∙ ap (λ n. get_or rows n (option_row Kinematics)) (sym (eqb-true (option_place a) (option_place b) same)) ∙ sym (row_at a)

set_suits : (section : Section) (key : Key) (item : Item) → sets section key item ≡ true → item_fits item ≡ true → suits key item ≡ true
set_suits section key (Holds s k value) set fit = let parts : (same_section section s ≡ true) × (same_key key k ≡ true) = and_parts (same_section section s) (same_key key k) set in
    ap (λ (row : Row). fits_kind row.kind value) (sym (same_row key k parts.1)) ∙ fit
set_suits section key Skipped set fit = cc
set_suits section key PassedOver set fit = cc
set_suits section key (Opens s) set fit = cc
set_suits section key (Wrong kind) set fit = cc

-- the line that holds, if there is one, suits the option
abbrev Suits : Key → Option Entry → Type 0
Suits key None = Unit {0}
Suits key (Some e) = suits key e.item ≡ true

either : (key : Key) (later earlier : Option Entry) → Suits key later → Suits key earlier → Suits key (or_earlier later earlier)
either key None earlier a b = b
either key (Some e) earlier a b = a

one : (section : Section) (key : Key) (e : Entry) (b : Bool) → b ≡ sets section key e.item → entry_fits e ≡ true → Suits key (cond b (Some e) None)
one section key e true set fit = set_suits section key e.item (sym set) fit
one section key e false set fit = tt

pub last_suits : (section : Section) (key : Key) (entries : List Entry) → list_all entry_fits entries ≡ true → Suits key (last_set section key entries)
last_suits section key [] fit = tt
last_suits section key (e ∷ es) fit = let parts : (entry_fits e ≡ true) × (list_all entry_fits es ≡ true) = and_parts (entry_fits e) (list_all entry_fits es) fit in
    either key (last_set section key es) (cond (sets section key e.item) (Some e) None) (last_suits section key es parts.1) (one section key e (sets section key e.item) refl parts.0)

amount_suits : (key : Key) (fallback : ℕ) (item : Item) → suits key item ≡ true → fits key (Amount fallback) ≡ true → fits key (Amount (amount_in fallback item)) ≡ true
amount_suits key fallback (Holds s k (Amount n)) suited default = suited
amount_suits key fallback (Holds s k (Signed z)) suited default = default
amount_suits key fallback (Holds s k (Flag b)) suited default = default
amount_suits key fallback (Holds s k (Pin p)) suited default = default
amount_suits key fallback (Opens s) suited default = default
amount_suits key fallback Skipped suited default = default
amount_suits key fallback PassedOver suited default = default
amount_suits key fallback (Wrong kind) suited default = default

amount_of_last : (key : Key) (fallback : ℕ) (last : Option Entry) → Suits key last → fits key (Amount fallback) ≡ true → fits key (Amount (amount_or fallback last)) ≡ true
amount_of_last key fallback None suited default = default
amount_of_last key fallback (Some e) suited default = amount_suits key fallback e.item suited default

-- the number that holds for an option is within its limits
pub amount_fits : (entries : List Entry) (section : Section) (key : Key) → list_all entry_fits entries ≡ true → fits key (Amount (option_row key).fallback) ≡ true → fits key (Amount (amount entries section key)) ≡ true
unfolding amount
amount_fits entries section key fit default = amount_of_last key (option_row key).fallback (last_set section key entries) (last_suits section key entries fit) default

signed_suits : (key : Key) (item : Item) → suits key item ≡ true → fits key (Signed (pos 0)) ≡ true → fits key (Signed (signed_in item)) ≡ true
signed_suits key (Holds s k (Signed z)) suited default = suited
signed_suits key (Holds s k (Amount n)) suited default = default
signed_suits key (Holds s k (Flag b)) suited default = default
signed_suits key (Holds s k (Pin p)) suited default = default
signed_suits key (Opens s) suited default = default
signed_suits key Skipped suited default = default
signed_suits key PassedOver suited default = default
signed_suits key (Wrong kind) suited default = default

signed_of_last : (key : Key) (last : Option Entry) → Suits key last → fits key (Signed (pos 0)) ≡ true → fits key (Signed (signed_or last)) ≡ true
signed_of_last key None suited default = default
signed_of_last key (Some e) suited default = signed_suits key e.item suited default

pub signed_fits : (entries : List Entry) (section : Section) (key : Key) → list_all entry_fits entries ≡ true → fits key (Signed (pos 0)) ≡ true → fits key (Signed (signed entries section key)) ≡ true
unfolding signed
signed_fits entries section key fit default = signed_of_last key (last_set section key entries) (last_suits section key entries fit) default
