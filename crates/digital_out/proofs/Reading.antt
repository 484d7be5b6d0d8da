-- The lines that switch a fan, line by line.
use Rattle.std.proofs.Common.{◌≡◌, ℕ, ℤ, ◌+◌, ◌≤◌, Bool, true, false, List, [], ◌∷◌, ◌++◌, length, refl, sym, ap, ◌∙◌, arith, append_assoc, append-nil, length-append, Ok, Err, Some, None}
use Rattle.std.specs.Prelude.{Option}
use Rattle.plan_types.specs.declared.cause.LineKind.{LineKind}
use Rattle.plan_types.specs.declared.machine.Machine.{Machine}
use Rattle.plan_types.specs.declared.plan.Move.{Move}
use Rattle.plan_types.specs.declared.plan.Section.{Section}
use Rattle.gcode_text.specs.Fans.{fan_of}
use Rattle.gcode_state.specs.declared.state.State.{State}
use Rattle.gcode_state.specs.declared.state.Action.{Action}
use Rattle.gcode_state.specs.declared.state.Action.TheVariants as actions
use Rattle.gcode_state.specs.States.{axes_in, coordinates_of, one_if}
use Rattle.gcode_program.specs.Cuts.{closed, home_of, homes, is_named, dwell_left, dwell_behind_home, left_by_homes, sections_of}
use Rattle.gcode_program.specs.Homes.{stood}
use Rattle.gcode_program.specs.Programs.{outcome_of, program_sections}
use Rattle.text_core.specs.Lines.{lines_of}
use Rattle.gcode_program.specs.Readings.{Deed, Outcome, behind_action, deed_of, is_passed, is_stop, line_result, outcome}
use Rattle.digital_out.specs.declared.word.FanWord.{FanWord}
use Rattle.digital_out.specs.Ends.{AreWordsFrom, moves_in}
use Rattle.digital_out.specs.Words.{fan_words, moves_by, word_by, word_if, fan_words_in}

-- what an action does that asks for no stop, and what is behind it
pub deeds_on : (number : ℕ) (p : Bool) (s : State) (a : Action) (o : Outcome) → is_stop a ≡ false → (behind_action number p s a o).deeds ≡ deed_of s a ∷ o.deeds
deeds_on number p s actions.None o h = refl
deeds_on number p s (actions.Move m) o h = refl
deeds_on number p s (actions.Dwell ms) o h = refl
deeds_on number p s actions.Wait o h = refl
deeds_on number p s (actions.Home axes) o h = refl
deeds_on number p s actions.Stop o h = absurd cc

deeds_stop : (number : ℕ) (p : Bool) (s : State) (a : Action) (o : Outcome) → is_stop a ≡ true → (behind_action number p s a o).deeds ≡ deed_of s a ∷ []
deeds_stop number p s actions.Stop o h = refl
deeds_stop number p s actions.None o h = absurd cc
deeds_stop number p s (actions.Move m) o h = absurd cc
deeds_stop number p s (actions.Dwell ms) o h = absurd cc
deeds_stop number p s actions.Wait o h = absurd cc
deeds_stop number p s (actions.Home axes) o h = absurd cc

-- the words so far and those that come are all
abbrev pub AreWordsSofar : ℕ → State → ℕ → ℕ → ℕ → List (List ℕ) → List FanWord → List FanWord → Type 0
AreWordsSofar size s number start count lines made whole = made ++ fan_words count (outcome size s number start lines).deeds lines ≡ whole

module _ (size start number count : ℕ) (s t : State) (line : List ℕ) (more all : List (List ℕ)) (a : Action) (made mid whole : List FanWord) (split : all ≡ line ∷ more) (put : mid ≡ made ++ word_if count line) where
  pub word_more : line_result size start s line ≡ Ok (t, a) → is_stop a ≡ false → AreWordsSofar size s number start count all made whole
      → AreWordsSofar size t (number + 1) (start + (length line + 1)) (count + moves_by a) more mid whole
  word_more accepted on was =
      let rest = outcome size t (number + 1) (start + (length line + 1)) more in
      let here = rw (split, accepted, deeds_on number (is_passed line) s a rest on) at was in
      rw put (append_assoc made (word_if count line) (fan_words (count + moves_by a) rest.deeds more) ∙ here)

  pub word_stop : line_result size start s line ≡ Ok (t, a) → is_stop a ≡ true → AreWordsSofar size s number start count all made whole → mid ≡ whole
  word_stop accepted on was =
      let rest = outcome size t (number + 1) (start + (length line + 1)) more in
      let here = rw (split, accepted, deeds_stop number (is_passed line) s a rest on) at was in
      put ∙ ap (λ (ws : List FanWord). made ++ ws) (sym (append-nil (word_if count line))) ∙ here

pub word_refused : (size start number count : ℕ) (s : State) (line : List ℕ) (more all : List (List ℕ)) (kind : LineKind) (made whole : List FanWord) → all ≡ line ∷ more → line_result size start s line ≡ Err kind
    → AreWordsSofar size s number start count all made whole → made ≡ whole
word_refused size start number count s line more all kind made whole split refused was = sym (append-nil made) ∙ rw (split, refused) at was

-- how many moves some deeds make
abbrev pub moves_made : List Deed → ℕ
moves_made [] = 0
moves_made (d ∷ deeds) = moves_by d.action + moves_made deeds

word_within : (low count step most : ℕ) (deeds : List Deed) (lines : List (List ℕ)) (o : Option Bool) → low ≤ count → count ≤ most
    → ((from : ℕ) → from ≤ count + step → AreWordsFrom from most (fan_words (count + step) deeds lines)) → AreWordsFrom low most (word_by count o ++ fan_words (count + step) deeds lines)
word_within low count step most deeds lines None below within later = later low (omega (arith, below))
word_within low count step most deeds lines (Some on) below within later = (below, within, later count (omega arith))

pub words_within : (low count most : ℕ) (deeds : List Deed) (lines : List (List ℕ)) → low ≤ count → count + moves_made deeds ≤ most → AreWordsFrom low most (fan_words count deeds lines)
words_within low count most [] lines below within = tt
words_within low count most (d ∷ deeds) [] below within = tt
words_within low count most (d ∷ deeds) (line ∷ lines) below within =
    word_within low count (moves_by d.action) most deeds lines (fan_of line) below (omega (arith, within)) (λ from under. words_within from (count + moves_by d.action) most deeds lines under (omega (arith, within)))

joined : (xs ys : List Section) → moves_in (xs ++ ys) ≡ moves_in xs + moves_in ys
joined [] ys = omega arith
joined (x ∷ xs) ys = omega (arith, joined xs ys)

in_closed : (dwell : ℕ) (moves : List Move) → moves_in (closed dwell moves) ≡ length moves
in_closed dwell [] = refl
in_closed dwell (m ∷ ms) = omega arith

homes_by : (m : Machine) (at : List ℤ) (speed_up dwell : ℕ) (x y z : Bool)
    → moves_in (home_of m at speed_up dwell 0 x ++ home_of m (stood m at 0 x) speed_up (dwell_behind_home dwell x) 1 y ++ home_of m (stood m (stood m at 0 x) 1 y) speed_up (dwell_behind_home (dwell_behind_home dwell x) y) 2 z) ≡ one_if x + one_if y + one_if z
homes_by m at speed_up dwell true true true = refl
homes_by m at speed_up dwell true true false = refl
homes_by m at speed_up dwell true false true = refl
homes_by m at speed_up dwell true false false = refl
homes_by m at speed_up dwell false true true = refl
homes_by m at speed_up dwell false true false = refl
homes_by m at speed_up dwell false false true = refl
homes_by m at speed_up dwell false false false = refl

in_homes : (m : Machine) (at : List ℤ) (speed_up dwell : ℕ) (axes : List Bool) → moves_in (homes m at speed_up dwell axes) ≡ axes_in axes
in_homes m at speed_up dwell axes = homes_by m at speed_up dwell (is_named axes 0) (is_named axes 1) (is_named axes 2)

made_by : (m : Machine) (dwell : ℕ) (moves : List Move) (s : State) (a : Action) (deeds : List Deed) → ((pause : ℕ) (ms : List Move) → moves_in (sections_of m pause ms deeds) ≡ length ms + moves_made deeds)
    → moves_in (sections_of m dwell moves (deed_of s a ∷ deeds)) ≡ length moves + (moves_by a + moves_made deeds)
made_by m dwell moves s actions.None deeds later = omega (arith, later dwell moves)
made_by m dwell moves s (actions.Move one) deeds later = omega (arith, later dwell (moves ++ one ∷ []), length-append moves (one ∷ []))
made_by m dwell moves s (actions.Dwell ms) deeds later =
    omega (arith, later (dwell_left dwell moves + ms) [], in_closed dwell moves, joined (closed dwell moves) (sections_of m (dwell_left dwell moves + ms) [] deeds))
made_by m dwell moves s actions.Wait deeds later = omega (arith, later (dwell_left dwell moves) [], in_closed dwell moves, joined (closed dwell moves) (sections_of m (dwell_left dwell moves) [] deeds))
made_by m dwell moves s actions.Stop deeds later = omega (arith, later (dwell_left dwell moves) [], in_closed dwell moves, joined (closed dwell moves) (sections_of m (dwell_left dwell moves) [] deeds))
made_by m dwell moves s (actions.Home axes) deeds later =
    let rest = sections_of m (left_by_homes (dwell_left dwell moves) axes) [] deeds in
    let here = homes m (coordinates_of s) s.acceleration (dwell_left dwell moves) axes in
    rw (joined (closed dwell moves) (here ++ rest), joined here rest, in_closed dwell moves, in_homes m (coordinates_of s) s.acceleration (dwell_left dwell moves) axes, later (left_by_homes (dwell_left dwell moves) axes) []) (omega arith)

-- the sections of deeds have as many moves as these make
moves_of_sections : (m : Machine) (dwell : ℕ) (moves : List Move) (deeds : List Deed) → moves_in (sections_of m dwell moves deeds) ≡ length moves + moves_made deeds
moves_of_sections m dwell moves [] = omega (arith, in_closed dwell moves)
moves_of_sections m dwell moves (d ∷ deeds) = made_by m dwell moves d.before d.action deeds (λ pause ms. moves_of_sections m pause ms deeds)

-- the lines of a text that switch a fan stand behind no more moves than its sections have
pub words_are : (m : Machine) (text : List ℕ) → AreWordsFrom 0 (moves_in (program_sections m text)) (fan_words_in m text)
unfolding fan_words_in
words_are m text = words_within 0 0 (moves_in (program_sections m text)) (outcome_of m text).deeds (lines_of text) (omega arith) (omega (arith, moves_of_sections m 0 [] (outcome_of m text).deeds))
