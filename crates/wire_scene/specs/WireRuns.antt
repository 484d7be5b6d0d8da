-- What happens on a line in a run, and what is to arrive.
use Rattle.std.specs.Prelude.{◌≡◌, ◌<◌, ℕ, zero, suc, ◌+◌, List, [], ◌∷◌, ◌++◌, Option, Some, None, max, if◌then◌else◌}
use Rattle.wire_scene.specs.declared.scene.Entry.{Entry}
use Rattle.wire_scene.specs.declared.scene.Deed.{Deed}
use Rattle.wire_scene.specs.declared.scene.Deed.TheVariants.{Drop, Repeat, Delay, Garble}
use Rattle.wire_scene.specs.declared.wire.Fate.{Fate}
use Rattle.wire_scene.specs.declared.wire.Fate.TheVariants.{Lost, Last, Stays, Garbled}
use Rattle.wire_scene.specs.Wire.{Copy, Line, connect, deed_of, delay_of, put_on, is_oldest_due, after_due}

-- a block is put in a turn, what is due next in a turn happens, or connecting has ended
pub data Step : Type 0 where
  Put : ℕ → List ℕ → Step
  Due : ℕ → Step
  Connect : Step

-- the line after a step
abbrev pub after_step : Line → Step → Line
after_step l (Put turn bytes) = put_on l turn bytes
after_step l (Due turn) = after_due l turn
after_step l Connect = connect l

-- the line after a list of steps
abbrev pub run_line : List Step → Line → Line
run_line [] l = l
run_line (s ∷ steps) l = run_line steps (after_step l s)

-- the block arrives, unless it is lost
abbrev pub arrives : Fate → List ℕ → List (List ℕ)
arrives Lost bytes = []
arrives Last bytes = bytes ∷ []
arrives Stays bytes = bytes ∷ []
arrives Garbled bytes = []

-- what arrives of the oldest block
abbrev pub oldest : List Copy → List (List ℕ)
oldest [] = []
oldest (c ∷ cs) = arrives c.fate c.bytes

-- the block that arrives in a step
abbrev pub arrival : Line → Step → List (List ℕ)
arrival l (Put turn bytes) = []
arrival l (Due turn) = if is_oldest_due turn l.copies then oldest l.copies else []
arrival l Connect = []

-- the blocks that arrive, in order
abbrev pub arrivals : List Step → Line → List (List ℕ)
arrivals [] l = []
arrivals (s ∷ steps) l = arrival l s ++ arrivals steps (after_step l s)

-- the blocks that are put, in order
abbrev pub blocks_put : List Step → List (List ℕ)
blocks_put [] = []
blocks_put (Put turn bytes ∷ steps) = bytes ∷ blocks_put steps
blocks_put (Due turn ∷ steps) = blocks_put steps
blocks_put (Connect ∷ steps) = blocks_put steps

-- what the scene says of the blocks that are put, by the entries for the time while connecting and for later:
-- the block of this number comes next, and where connecting ends blocks count from 0 anew
abbrev pub deeds_later : List Entry → ℕ → List Step → List (Option Deed)
deeds_later entries n [] = []
deeds_later entries n (Put turn bytes ∷ steps) = deed_of n entries ∷ deeds_later entries (n + 1) steps
deeds_later entries n (Due turn ∷ steps) = deeds_later entries n steps
deeds_later entries n (Connect ∷ steps) = deeds_later entries n steps

-- what the scene says of the blocks that are put, in order, while connecting and later
abbrev pub deeds : List Entry → List Entry → ℕ → List Step → List (Option Deed)
deeds connecting entries n [] = []
deeds connecting entries n (Put turn bytes ∷ steps) = deed_of n connecting ∷ deeds connecting entries (n + 1) steps
deeds connecting entries n (Due turn ∷ steps) = deeds connecting entries n steps
deeds connecting entries n (Connect ∷ steps) = deeds_later entries 0 steps

-- how often a block arrives
abbrev pub times : Option Deed → ℕ
times None = 1
times (Some Drop) = 0
times (Some Repeat) = 2
times (Some (Delay turns)) = 1
times (Some (Garble at xor)) = 0

-- a block so often
abbrev pub so_often : ℕ → List ℕ → List (List ℕ)
so_often zero bytes = []
so_often (suc n) bytes = bytes ∷ so_often n bytes

-- blocks in their order, each so often as is said
abbrev pub visits : List (List ℕ) → List ℕ → List (List ℕ)
visits [] counts = []
visits (b ∷ blocks) [] = []
visits (b ∷ blocks) (n ∷ counts) = so_often n b ++ visits blocks counts

-- the line keeps order: the blocks that arrive visit those that were put in their order, each no time, once or more
-- often
pub record IsInOrder (put came : List (List ℕ)) : Type 0 where
  pub counts : List ℕ
  pub visited : came ≡ visits put counts

-- how often a block under way is still to arrive
abbrev pub times_left : Fate → ℕ
times_left Lost = 0
times_left Last = 1
times_left Stays = 2
times_left Garbled = 0

-- what is still to arrive
abbrev pub to_come : List Copy → List (List ℕ)
to_come [] = []
to_come (c ∷ cs) = so_often (times_left c.fate) c.bytes ++ to_come cs

-- the turns in which the blocks are put
abbrev pub turns_put : List Step → List ℕ
turns_put [] = []
turns_put (Put turn bytes ∷ steps) = turn ∷ turns_put steps
turns_put (Due turn ∷ steps) = turns_put steps
turns_put (Connect ∷ steps) = turns_put steps

-- the turns in which blocks put in these would be due, if none waited for one in front of it
abbrev pub own_turns : List ℕ → List (Option Deed) → List ℕ
own_turns [] deeds = []
own_turns (turn ∷ turns) [] = []
own_turns (turn ∷ turns) (d ∷ deeds) = (turn + delay_of d) ∷ own_turns turns deeds

-- of each turn the greatest up to it
abbrev pub greatest_up_to : ℕ → List ℕ → List ℕ
greatest_up_to last [] = []
greatest_up_to last (k ∷ turns) = max last k ∷ greatest_up_to (max last k) turns

-- the turn in which a block is put, where there is an entry for it
abbrev pub turn_used : Option Deed → ℕ → List ℕ
turn_used None turn = []
turn_used (Some deed) turn = turn ∷ []

-- the turns in which entries are used: those in which the blocks are put that they number
abbrev pub turns_used : List ℕ → List (Option Deed) → List ℕ
turns_used [] deeds = []
turns_used (turn ∷ turns) [] = []
turns_used (turn ∷ turns) (d ∷ deeds) = turn_used d turn ++ turns_used turns deeds

-- each of these turns is more than four turns before one
abbrev pub AreOver : ℕ → List ℕ → Type 0
AreOver turn [] = Unit {0}
AreOver turn (k ∷ turns) = (k + 4 < turn) × AreOver turn turns
