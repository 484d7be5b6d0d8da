-- A homing section of a run ends with its answer.
use Rattle.std.proofs.Common.{◌≡◌, ℕ, zero, suc, ◌+◌, ◌<◌, ◌≤◌, true, List, [], ◌∷◌, ◌++◌, length, map, take, refl, ap, sym, ◌∙◌, subst, arith, inl, inr, append_assoc, append-nil, length-append}
use Rattle.laws_board.proofs.Names.{leb_tells, length-map, Machine, Home, WordMsg, Scene, Came, GoesOn, Started, MotionTurn, ReactorTurn, gather, item}
use Rattle.std.proofs.lemmas.List.{length-take, take_all}
use Rattle.std.proofs.Math.Seq.{take-append_seam}
use Rattle.motion_work.specs.Homes.{no_end}
use Rattle.motion_work.specs.Told.{tells_homed}
use Rattle.session_work.specs.Leads.{last_words}
use Rattle.session_work.specs.Rows.{option_items}
use Rattle.session_run.specs.Boards.{AreReactorTurns, came_from, came_in}
use Rattle.laws_board.specs.plans.Answers.{TookNoneAhead}
use Rattle.laws_board.specs.plans.Lines.{TookEach}
use Rattle.laws_board.specs.plans.Planned.{Plans, words_in}
use Rattle.laws_board.proofs.plans.Heard.{heard_all, heard_few}
use Rattle.laws_homing.specs.home_plans.Notes.{CameNotes}
use Rattle.laws_homing.specs.home_parts.Answers.{IsPlannedBy}
use Rattle.laws_homing.proofs.home_parts.Ends.{ends_low}
use Rattle.laws_run.proofs.run_headline.Boarded.{came_long, came_split}
use Rattle.laws_run.proofs.run_headline.Cutting.{cut_at}
use Rattle.laws_run.proofs.run_headline.Facts.{goes_noted, notes_of, took_noted, turns_cut}
use Rattle.laws_run.proofs.run_headline.Heard.{notes_cut}
use Rattle.laws_run.proofs.run_headline.Joining.{row_none}
use Rattle.laws_run.proofs.home_headline.Ended.{goes_behind, tells_end}
use Rattle.laws_run.proofs.home_headline.Planned.{all_notes, others_silent, planned_on}
use Rattle.laws_run.proofs.home_headline.Cuts.{tells_answer}
use Rattle.laws_run.proofs.home_headline.Switches.{came_ahead, turns_tell}
use Rattle.laws_run.specs.home_headline.Cuts.{TellEnds}
use Rattle.laws_run.specs.run_turns.Ends.{EndsWithAnswer}
use Rattle.laws_run.proofs.run_turns.Words.{Taken}
use Rattle.laws_run.proofs.run_lates.Unbegun.{gather_both}

-- some turns of a planner take no more words than they are
words_few : (k taken : ℕ) (ts : List MotionTurn) → taken ≤ k → TookNoneAhead k taken ts → taken + length (words_in ts) ≤ k + length ts
words_few k taken [] low a = omega (arith, low)
words_few k taken (t ∷ ts) low a =
    let here = a.0 in
    let rec = words_few (k + 1) (taken + length t.words) ts here a.1 in
    let size = length-append t.words (words_in ts) in
    omega (arith, rec, size)

item_low : (j : ℕ) (ws : List WordMsg) (w : WordMsg) → item j ws ≡ w ∷ [] → j < length ws
item_low zero [] w e = absurd (let f : [] ≡ w ∷ [] = e in cc)
item_low (suc j) [] w e = absurd (let f : [] ≡ w ∷ [] = e in cc)
item_low zero (x ∷ ws) w e = omega arith
item_low (suc j) (x ∷ ws) w e = let r = item_low j ws w e in omega (arith, r)

module _ (m : Machine) (s : Scene) (ts : List MotionTurn) (p : Plans m (length m.boards) ts) (rs : List ReactorTurn) (x : Taken m s rs ts) where
  -- The first turns of the reactor, at most one more than the planner made: they took its notes, as it took their words.
  record Front : Type 0 where
    turns : List ReactorTurn
    behind : List ReactorTurn
    are : rs ≡ turns ++ behind
    own : AreReactorTurns m s.switches [] turns
    by : IsPlannedBy m s.switches (length m.boards) ts p (came_from [] turns)

  notes_in : (turns behind : List ReactorTurn) → rs ≡ turns ++ behind → length turns ≤ length p.made + 1 → CameNotes p.seen.begun (came_from [] turns)
  notes_in [] behind are few = tt
  notes_in (first ∷ rest) behind are few =
      let Turns : List ReactorTurn → Type 0 = λ z. AreReactorTurns m s.switches [] z in
      let own = (turns_cut m s.switches [] (first ∷ rest) behind (subst Turns are x.turns)).0 in
      let each = goes_noted m s.switches (came_in first ∷ []) rest [] (omega arith) own.1 tt in
      let note_of = λ (z : MotionTurn). z.note ∷ [] in
      let made = map (λ (z : MotionTurn). z.note) p.made in
      let none = row_none (length m.boards) first own.0.row in
      let size = length-map p.made (λ (z : MotionTurn). z.note) in
      let front : gather note_of ts ≡ made ++ gather note_of p.bare = ap (gather note_of) p.are ∙ notes_cut p.made p.bare in
      let taken : notes_of rs ≡ notes_of (rest ++ []) ++ notes_of behind =
      ap notes_of are ∙ ap (λ o. option_items o ++ notes_of (rest ++ behind)) none ∙ gather_both (λ (z : ReactorTurn). option_items z.note) rest behind ∙ ap (λ z. notes_of z ++ notes_of behind) (sym (append-nil rest)) in
      let cut : made ++ (gather note_of p.bare ++ x.others) ≡ notes_of (rest ++ []) ++ (notes_of behind ++ x.more) =
      sym (append_assoc made (gather note_of p.bare) x.others) ∙ ap (λ z. z ++ x.others) (sym front) ∙ x.notes ∙ ap (λ z. z ++ x.more) taken ∙ append_assoc (notes_of (rest ++ [])) (notes_of behind) x.more in
      let bare = append-nil rest in
      let long = ap length bare in
      let took = took_noted (rest ++ []) made (gather note_of p.bare ++ x.others) (notes_of behind ++ x.more) each (omega (arith, few, size, long)) cut in
      all_notes m p.seen.text p.seen.begun p.made first rest p.put (none, subst (λ (z : List ReactorTurn). TookEach made z) bare took)

  front_of : (turns behind : List ReactorTurn) → rs ≡ turns ++ behind → length turns ≤ length p.made + 1
      → ((place : ℕ) (w : WordMsg) → length turns ≤ place → item place (words_in (p.made ++ p.last)) ≡ w ∷ [] → tells_homed w.news ≡ true → ⊥) → Front
  front_of turns behind are few others =
      let Turns : List ReactorTurn → Type 0 = λ z. AreReactorTurns m s.switches [] z in
      let own = (turns_cut m s.switches [] turns behind (subst Turns are x.turns)).0 in
      let said = λ (z : ReactorTurn). z.word ∷ [] in
      let last = last_words (length rs) x.ahead in
      let words : gather said turns ++ (gather said behind ++ last) ≡ gather (λ (z : MotionTurn). z.words) ts ++ x.left =
      sym (append_assoc (gather said turns) (gather said behind) last) ∙ ap (λ z. z ++ last) (sym (gather_both said turns behind) ∙ ap (gather said) (sym are)) ∙ x.words in
      record {
        turns = turns;
        behind = behind;
        are = are;
        own = own;
        by = planned_on m s.switches (length m.boards) ts p turns (gather said behind ++ last) x.left own words (notes_in turns behind are few) others few;
      }

  -- those that are as many as some number, if there are so many
  front_by : (n : ℕ) → length (p.made ++ p.last) ≤ n → n ≤ length p.made + 1 → (f : Front) × (f.turns ≡ take n rs)
  unfolding front_of
  front_by n least most = elim (leb_tells (length rs) n) [
    | inl q ↦ let few = q.1 in (front_of rs [] (sym (append-nil rs)) (omega (arith, few, most)) (others_silent m (length m.boards) x.ahead ts p rs x.left x.words), sym (take_all n rs few))
    | inr q ↦
        let more = q.1 in
        let c = cut_at n rs (omega (arith, more)) in
        let long = c.3 in
        let cut : take n rs ≡ c.0 = ap (take n) c.2 ∙ ap (λ i. take i (c.0 ++ c.1)) (sym long) ∙ take-append_seam c.0 c.1 in (
          front_of c.0 c.1 c.2 (omega (arith, long, most)) (λ place w far is tells.
              let low = item_low place (words_in (p.made ++ p.last)) w is in
              let few = words_few 0 0 (p.made ++ p.last) (omega arith) (heard_all m (length m.boards) ts p).ahead in
              absurd (omega (arith, low, few, far, long, least))),
          sym cut,
        )
  ]

  front : Front
  front = (front_by (length p.made + 1) (heard_few m (length m.boards) ts p) (omega arith)).0

  -- in the turns whose words the planner heard each tells of a switch exactly where a homing section ended in it
  pub turns_end : TellEnds m s.switches p.seen.begun 0 (take (length (p.made ++ p.last)) rs)
  turns_end =
      let n = length (p.made ++ p.last) in
      let f = front_by n (omega arith) (heard_few m (length m.boards) ts p) in
      let size = came_long [] f.0.turns in
      let few = length-take n rs in
      let same = ap length f.1 in
      let Ends : List ReactorTurn → Type 0 = λ z. TellEnds m s.switches p.seen.begun 0 z in
      subst Ends f.1 (turns_tell m s.switches (length m.boards) ts p (came_from [] f.0.turns) f.0.by (omega (arith, size, few, same)) [] f.0.turns f.0.own refl)

  pub ends : (past : List Started) (y : Started) (others : List Started) (axis : ℕ) → p.seen.begun ≡ past ++ y ∷ others → y.section.kind ≡ Home axis → (y.end ≡ no_end → ⊥) → EndsWithAnswer m s.switches rs (length past) axis y
  ends past y others axis cut home known =
      let w = front in
      let by = w.by in
      let came = came_from [] w.turns in
      let low = ends_low m s.switches (length m.boards) ts p came past y others axis by cut home known in
      let size = came_long [] w.turns in
      let c = cut_at y.end w.turns (omega (arith, low, size)) in
      at c.0 c.1 c.2 c.3 (omega (arith, low, size))
    where
      at : (before rest : List ReactorTurn) → front.turns ≡ before ++ rest → length before ≡ y.end → y.end < length front.turns → EndsWithAnswer m s.switches rs (length past) axis y
      at before [] are long low = let size = ap length are ∙ length-append before [] in absurd (omega (arith, size, long, low))
      at before (turn ∷ rest) are long low =
          let w = front in
          let by = w.by in
          let b = came_from [] before in
          let a = came_ahead (came_in turn ∷ b) rest in
          let came_is = ap (came_from []) are ∙ came_split [] before turn rest ∙ a.1 in
          let size = came_long [] before in
          let e = tells_end m s.switches (length m.boards) ts p (came_from [] w.turns) b past y others axis (came_in turn) a.0 by cut home came_is (omega (arith, size, long)) in
          let told = e.tells in
          let Goes : List Came → Type 0 = λ z. GoesOn m s.switches z in
          let goes = goes_behind m s.switches a.0 (came_in turn ∷ b) (subst Goes came_is by.goes_on) in
          let whole : rs ≡ before ++ turn ∷ (rest ++ w.behind) = w.are ∙ ap (λ z. z ++ w.behind) are ∙ append_assoc before (turn ∷ rest) w.behind in
          let Turns : List ReactorTurn → Type 0 = λ z. AreReactorTurns m s.switches [] z in
          let own = (turns_cut m s.switches [] before (turn ∷ (rest ++ w.behind)) (subst Turns whole x.turns)).1.0 in
          record {
            past = before;
            turn = turn;
            later = rest ++ w.behind;
            are = whole;
            end = long;
            tells = tells_answer m s.switches (came_in turn) b turn.lines goes.1 told own.lines_are;
            number_is = e.number_is;
            axis_is = e.axis_is;
            start_is = e.start_is;
          }
