-- A board that drifts tells its clock again and again in a whole run.
use Rattle.std.proofs.Common.{◌≡◌, ◌⊎◌, ℕ, zero, suc, pos, ◌+◌, ◌-◌, ◌<◌, ◌≤◌, Bool, List, [], ◌∷◌, ◌++◌, length, Some, refl, ap, sym, ◌∙◌, subst, arith, inl, inr, length-append, rules}
use Rattle.std.specs.Prelude.{if◌then◌else◌}
use Rattle.laws_board.proofs.Names.{eqb_tells, leb_tells, Machine, clock_of, IsValidMachine, board_at, Line, WordMsg, Scene, Switch, pins_of, Phase, Connecting, Stopping, Came, known_by, last_reacted, Started, Told, MotionTurn, ReactorTurn, gather}
use Rattle.msg_code.specs.declared.talk.WordNews.{WordNews}
use Rattle.msg_code.specs.declared.talk.WordNews.TheVariants as word
use Rattle.host_reactor.specs.declared.ordered.Phase.TheVariants.{Running}
use Rattle.laws_board.specs.turns.Turns.{BoardTurn}
use Rattle.laws_board.specs.clocks.Runs.{IsInRun}
use Rattle.laws_board.specs.clocks.Samples.{further_lines}
use Rattle.laws_board.specs.causes.Again.{TellsLineFrom}
use Rattle.laws_board.specs.causes.Causes.{came_by_turn}
use Rattle.laws_board.specs.causes.Short.{HaveShortDictionaries}
use Rattle.laws_board.proofs.causes.Again.{tells_again}
use Rattle.laws_board.proofs.causes.Soon.{ends_soon}
use Rattle.laws_board.proofs.causes.Turns.{came_all, came_less}
use Rattle.laws_homing.specs.home_plans.Notes.{CameNotes}
use Rattle.laws_homing.proofs.home_plans.Starting.{all_room}
use Rattle.motion_work.specs.Further.{WasHeard}
use Rattle.motion_work.specs.Told.{lines_in}
use Rattle.session_work.specs.Leads.{last_words}
use Rattle.session_run.specs.Boards.{AreReactorTurns, came_from, came_in}
use Rattle.laws_run.specs.lanes.Boards.{IsInWhole, turns_behind}
use Rattle.laws_board.specs.plans.Planned.{Plans}
use Rattle.laws_run.proofs.clock_ages.Saying.{TellsIn}
use Rattle.laws_run.specs.run_headline.Timely.{link_of}
use Rattle.laws_run.proofs.run_ends.Connecting.{before_boards}
use Rattle.laws_run.proofs.run_ends.Unstopped.{not_before}
use Rattle.laws_run.proofs.run_headline.Boarded.{Ready, run_of}
use Rattle.laws_run.proofs.run_headline.Facts.{came_long, turns_cut}
use Rattle.laws_run.proofs.run_headline.Fronts.{Front, front_of}

-- the words of some turns of the reactor
abbrev pub put_in : List ReactorTurn → List WordMsg
put_in rs = gather (λ t. t.word ∷ []) rs

-- where a word tells a further line of a board, there is one
heard_one : (b : ℕ) (ns : List WordNews) → 1 ≤ length (further_lines b ns) → (line : Line) × WasHeard b line (lines_in ns)
heard_one b [] h = absurd (omega (arith, h))
heard_one b (word.Lines lines ∷ ns) h = heard_one b ns h
heard_one b (word.Homed ∷ ns) h = heard_one b ns h
heard_one b (word.Line board own ∷ ns) h = elim (eqb_tells board b) [
  | inl p ↦ (own, inl (p.1, refl))
  | inr p ↦
      let few : 1 ≤ length (further_lines b ns) = subst (λ (c : Bool). 1 ≤ length ((if c then own ∷ [] else []) ++ further_lines b ns)) p.0 h in
      let r = heard_one b ns few in
      (r.0, inr r.1)
]

-- what came tells a line: so do the words, or what came before
tells_words : (m : Machine) (switches : List Switch) (b from to k : ℕ) (before : List Came) (rs : List ReactorTurn) → length before ≡ k → AreReactorTurns m switches before rs → length (came_from before rs) ≤ to → TellsLineFrom m switches b from (came_from before rs)
    → TellsIn b from to k (put_in rs) ⊎ TellsLineFrom m switches b from before
tells_words m switches b from to k before [] e h le t = inr t
tells_words m switches b from to k before (r ∷ rs) e h le t = by (tells_words m switches b from to (k + 1) (came_in r ∷ before) rs (omega (arith, e)) h.1 le t)
  where
    by : TellsIn b from to (k + 1) (put_in rs) ⊎ TellsLineFrom m switches b from (came_in r ∷ before) → TellsIn b from to k (put_in (r ∷ rs)) ⊎ TellsLineFrom m switches b from before
    by (inl a) = inl (inr a)
    by (inr (inl a)) =
        let long = came_long (came_in r ∷ before) rs in
        let late = a.0 in
        let q = heard_one b (last_reacted m switches (came_in r) before).ordered.word.news a.1 in
        let Heard : WordMsg → Type 0 = λ w. WasHeard b q.0 (lines_in w.news) in
        inl (inl (omega (arith, late, e), omega (arith, long, le, e), (q.0, subst Heard (sym h.0.word_is) q.1)))
    by (inr (inr a)) = inr a

none_from : (m : Machine) (switches : List Switch) (b from : ℕ) (came : List Came) → length came ≤ from → TellsLineFrom m switches b from came → ⊥
none_from m switches b from [] le h = h
none_from m switches b from (c ∷ came) le (inl h) = let late = h.0 in absurd (omega (arith, le, late))
none_from m switches b from (c ∷ came) le (inr h) = none_from m switches b from came (omega (arith, le)) h

-- words among more
tells_left : (b from to j : ℕ) (xs ys : List WordMsg) → TellsIn b from to j xs → TellsIn b from to j (xs ++ ys)
tells_left b from to j [] ys h = absurd h
tells_left b from to j (x ∷ xs) ys (inl h) = inl h
tells_left b from to j (x ∷ xs) ys (inr h) = inr (tells_left b from to (j + 1) xs ys h)

tells_front : (b from to j : ℕ) (xs ys : List ReactorTurn) → TellsIn b from to j (put_in xs) → TellsIn b from to j (put_in (xs ++ ys))
tells_front b from to j [] ys h = absurd h
tells_front b from to j (x ∷ xs) ys (inl h) = inl h
tells_front b from to j (x ∷ xs) ys (inr h) = inr (tells_front b from to (j + 1) xs ys h)

tells_behind : (b from to j k : ℕ) (xs ys : List ReactorTurn) → j + length xs ≡ k → TellsIn b from to k (put_in ys) → TellsIn b from to j (put_in (xs ++ ys))
tells_behind b from to j k [] ys e h = let same : k ≡ j = omega (arith, e) in subst (λ (i : ℕ). TellsIn b from to i (put_in ys)) same h
tells_behind b from to j k (x ∷ xs) ys e h = inr (tells_behind b from to (j + 1) k xs ys (omega (arith, e)) h)

-- some first ones of a number of turns
record Cut (n : ℕ) (rs : List ReactorTurn) : Type 0 where
  front : List ReactorTurn
  back : List ReactorTurn
  are : rs ≡ front ++ back
  long : length front ≡ n

cut_at : (n : ℕ) (rs : List ReactorTurn) → n ≤ length rs → Cut n rs
cut_at zero rs le = record { front = []; back = rs; are = refl; long = refl }
cut_at (suc n) [] le = absurd (omega (arith, le))
cut_at (suc n) (x ∷ rs) le =
    let c = cut_at n rs (omega (arith, le)) in
    let long = c.long in
    record { front = x ∷ c.front; back = c.back; are = ap (λ (y : List ReactorTurn). x ∷ y) c.are; long = omega (arith, long) }

came_both : (before : List Came) (xs ys : List ReactorTurn) → came_from before (xs ++ ys) ≡ came_from (came_from before xs) ys
came_both before [] ys = refl
came_both before (x ∷ xs) ys = came_both (came_in x ∷ before) xs ys

-- what came by a turn, of what came up to another
came_back : (k : ℕ) (before : List Came) (rs : List ReactorTurn) → k ≤ length before → came_by_turn k (came_from before rs) ≡ came_by_turn k before
came_back k before [] le = refl
came_back k before (r ∷ rs) le = came_back k (came_in r ∷ before) rs (omega (arith, le)) ∙ came_less k (came_in r) before le

notes_before : (begun : List Started) (before : List Came) (rs : List ReactorTurn) → CameNotes begun (came_from before rs) → CameNotes begun before
notes_before begun before [] h = h
notes_before begun before (r ∷ rs) h = (notes_before begun (came_in r ∷ before) rs h).1

is_running : (p : Phase) → (p ≡ Connecting → ⊥) → ((line : ℕ) → p ≡ Stopping line → ⊥) → p ≡ Running
is_running Connecting n s = absurd (n refl)
is_running Running n s = refl
is_running (Stopping line) n s = absurd (s line refl)

module _ (m : Machine) (v : IsValidMachine m) (s : Scene) (ts : List MotionTurn) (p : Plans m (length m.boards) ts) (t : Told) (first : ReactorTurn) (rest : List ReactorTurn) (end : ReactorTurn) (told : p.seen.told ≡ Some t) (r : Ready m v s ts p t first rest end told) where
  -- what came before the turn in which connecting ended, and in it
  abbrev Late : List Came
  Late = came_from [] r.past

  abbrev Early : List Came
  Early = came_in r.turn ∷ came_from [] r.past

  module _ (whole : (b : ℕ) → b < length m.boards → IsInWhole m s.switches b (clock_of (board_at m b)) (link_of m s b) ts first (rest ++ end ∷ [])) where
    -- the turns of each board before connecting ended
    own_front : (b : ℕ) (h : b < length m.boards) → Front m v s.switches (pins_of (board_at m b) b s.switches) s.entries b Late (turns_behind [] (whole b h).made)
    own_front b h =
        let pins = pins_of (board_at m b) b s.switches in
        let own = turns_behind [] (whole b h).made in
        let Run : List Came → Type 0 = λ c. IsInRun m s.switches pins s.entries b c own in
        front_of m v s.switches pins s.entries b Late (r.turn ∷ r.later) own (subst Run r.came_is (run_of m v s ts p t first rest end told b (whole b h) h))

    turns_in : (b : ℕ) → (b < length m.boards) ⊎ (b < length m.boards → ⊥) → List BoardTurn
    turns_in b (inl h) = (own_front b h).front
    turns_in b (inr n) = []

    in_run : (b : ℕ) (x : (b < length m.boards) ⊎ (b < length m.boards → ⊥)) → b < length m.boards → IsInRun m s.switches (pins_of (board_at m b) b s.switches) s.entries b Late (turns_in b x)
    unfolding turns_in
    in_run b (inl h) l = (own_front b h).run
    in_run b (inr n) l = absurd (n l)

    is_there : (b : ℕ) → (b < length m.boards) ⊎ (b < length m.boards → ⊥)
    is_there b = search (rules, leb_tells)

    -- connecting ended soon
    pub ended_soon : HaveShortDictionaries m → length Late < 2_200
    ended_soon short = ends_soon m s.switches (λ b. pins_of (board_at m b) b s.switches) s.entries Late (λ b. turns_in b (is_there b)) v short (λ b h. in_run b (is_there b) h) r.is.phase

  not_connecting : (before : List Came) (rs : List ReactorTurn) → AreReactorTurns m s.switches before rs → ((known_by m s.switches before).phase ≡ Connecting → ⊥) → (known_by m s.switches (came_from before rs)).phase ≡ Connecting → ⊥
  not_connecting before rs h not e = not (before_boards m s.switches before rs h e).0

  module _ (b : ℕ) (w : IsInWhole m s.switches b (clock_of (board_at m b)) (link_of m s b) ts first (rest ++ end ∷ [])) (inside : b < length m.boards) (turns : AreReactorTurns m s.switches [] (first ∷ rest))
      (notes : CameNotes p.seen.begun (came_from [] (first ∷ rest))) (drifts : (board_at m b).drift ≡ pos 0 → ⊥) where
    -- some turns behind the end of connecting, and those from the first of them on up to another
    between : (from : ℕ) (one two back : List ReactorTurn) → r.later ≡ one ++ (two ++ back) → length Early + length one ≡ from → length two ≡ 2_200 → 0 < length back → TellsIn b from (from + 2_200) 0 (put_in (first ∷ rest))
    between from one two [] are low long some = absurd (omega (arith, some))
    between from one two (next ∷ more) are low long some =
        let pins = pins_of (board_at m b) b s.switches in
        let own = turns_behind [] w.made in
        let to = came_from Early one in
        let last = came_from to two in
        let Run : List Came → Type 0 = λ c. IsInRun m s.switches pins s.entries b c own in
        let Notes : List Came → Type 0 = λ c. CameNotes p.seen.begun c in
        let Turns : List ReactorTurn → Type 0 = λ rs. AreReactorTurns m s.switches Early rs in
        let Not : List Came → Type 0 = λ c. (known_by m s.switches c).phase ≡ Connecting → ⊥ in
        let all : came_from [] (first ∷ rest) ≡ came_from last (next ∷ more) = r.came_is ∙ (ap (came_from Early) are ∙ (came_both Early one (two ++ next ∷ more) ∙ came_both to two (next ∷ more))) in
        let parts = turns_cut m s.switches [] r.past (r.turn ∷ r.later) (subst (AreReactorTurns m s.switches []) r.are turns) in
        let one_are = turns_cut m s.switches Early one (two ++ next ∷ more) (subst Turns are parts.1.1) in
        let two_are = turns_cut m s.switches to two (next ∷ more) one_are.1 in
        let not_first = not_connecting Early one one_are.0 (λ e. let f : Running ≡ Connecting = sym r.is.then ∙ e in cc) in
        let not_last = not_connecting to two two_are.0 not_first in
        let running = is_running (known_by m s.switches last).phase not_last (not_before m s.switches (came_in next) last two_are.1.0.goes_on) in
        let f = front_of m v s.switches pins s.entries b last (next ∷ more) own (subst Run all (run_of m v s ts p t first rest end told b w inside)) in
        let room = all_room m s.switches b p.seen.begun last v (notes_before p.seen.begun last (next ∷ more) (subst Notes all notes)) in
        let long_to = came_long Early one in
        let long_last = came_long to two in
        let by : came_by_turn from last ≡ to = came_back from to two (omega (arith, long_to, low)) ∙ came_all from to (omega (arith, long_to, low)) in
        let tells = tells_again m s.switches pins s.entries b last f.front from v f.run running drifts room (subst Not (sym by) not_first) (omega (arith, long_last, long_to, low, long)) in
        let here : TellsIn b from (from + 2_200) from (put_in two) = elim (tells_words m s.switches b from (from + 2_200) from to two (omega (arith, long_to, low)) two_are.0 (omega (arith, long_last, long_to, low, long)) tells) [
          | inl a ↦ a
          | inr a ↦ absurd (none_from m s.switches b from to (omega (arith, long_to, low)) a)
        ] in
        let place = came_long [] r.past in
        let later : TellsIn b from (from + 2_200) (length r.past + 1) (put_in r.later) = subst (λ (rs : List ReactorTurn). TellsIn b from (from + 2_200) (length r.past + 1) (put_in rs)) (sym are)
        (tells_behind b from (from + 2_200) (length r.past + 1) from one (two ++ next ∷ more) (omega (arith, place, low)) (tells_front b from (from + 2_200) from two (next ∷ more) here)) in
        subst (λ (rs : List ReactorTurn). TellsIn b from (from + 2_200) 0 (put_in rs)) (sym r.are) (tells_behind b from (from + 2_200) 0 (length r.past) r.past (r.turn ∷ r.later) (omega arith) (inr later))

    pub again : (n from : ℕ) → length Late < from → from + 2_200 < length (first ∷ rest) → TellsIn b from (from + 2_200) 0 (put_in (first ∷ rest) ++ last_words (length (first ∷ rest)) n)
    again n from low high =
        let place = came_long [] r.past in
        let size = ap length r.are ∙ length-append r.past (r.turn ∷ r.later) in
        let one = cut_at (from - length Early) r.later (omega (arith, place, size, low, high)) in
        let one_are = one.are in
        let one_long = one.long in
        let one_size = ap length one_are ∙ length-append one.front one.back in
        let two = cut_at 2_200 one.back (omega (arith, place, size, low, high, one_long, one_size)) in
        let two_are = two.are in
        let two_long = two.long in
        let two_size = ap length two_are ∙ length-append two.front two.back in
        tells_left b from (from + 2_200) 0 (put_in (first ∷ rest)) (last_words (length (first ∷ rest)) n)
        (between from one.front two.front two.back (one_are ∙ ap (λ (y : List ReactorTurn). one.front ++ y) two_are) (omega (arith, place, low, one_long)) two_long (omega (arith, place, size, low, high, one_long, one_size, two_long, two_size)))
