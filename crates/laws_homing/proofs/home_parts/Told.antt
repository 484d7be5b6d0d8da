-- Homing sections of a board that ended were told of.
use Rattle.std.proofs.Common.{◌≡◌, ◌⊎◌, ℕ, suc, ◌+◌, ◌-◌, ◌<◌, ◌≤◌, Bool, true, false, List, [], ◌∷◌, ◌++◌, length, map, append_assoc, Some, None, refl, ap, sym, ◌∙◌, subst, arith, inl, inr, length-append, rules}
use Rattle.std.specs.Prelude.{◌&&◌, if◌then◌else◌}
use Rattle.laws_board.proofs.Names.{leb_tells, length-map, map-append, Level, Machine, SectionKind, Home, Moves, axis_at, board_at, Entry, Switch, first_state, unseen, members_from, Came, last_reacted, Started, Told, MotionTurn}
use Rattle.plan_types.specs.Sections.{is_home}
use Rattle.trigger_group.specs.Kept.{may_be}
use Rattle.laws_board.specs.turns.Turns.{BoardTurn}
use Rattle.laws_board.specs.clocks.Runs.{IsInRun}
use Rattle.laws_board.proofs.clocks.Lines.{as_long, run_before}
use Rattle.laws_board.specs.sections.Homes.{RunSection}
use Rattle.laws_board.specs.plans.Homed.{is_set_in, stops_of}
use Rattle.laws_board.specs.plans.Planned.{Plans, put_of}
use Rattle.laws_board.proofs.plans.Running.{started_in}
use Rattle.laws_homing.specs.home_runs.Sections.{TakesSetUp}
use Rattle.laws_homing.specs.home_runs.Words.{IsBegunIn, TellsHomed}
use Rattle.laws_homing.specs.home_runs.Ended.{AreToldIn, IsToldIn}
use Rattle.laws_homing.specs.fired_runs.Since.{AllRead, AreNotAhead, AreSoInTurns, AreReadSo, BeginsApart, IsReadSo, ReadsTrue}
use Rattle.laws_homing.specs.home_plans.Notes.{CameNotes, IsSilentFrom}
use Rattle.laws_board.specs.plans.Rows.{AreInARow}
use Rattle.laws_board.proofs.plans.Rows.{row_from}
use Rattle.laws_homing.proofs.home_plans.Noting.{begun_in, none_later}
use Rattle.laws_board.proofs.plans.Rows.{begun_row}
use Rattle.laws_homing.specs.home_parts.Answers.{ArePastConnecting, IsPlannedBy, MayHome, TakeSetUps, TellNone, TellsIn}
use Rattle.laws_homing.specs.home_parts.Cuts.{cut_on, cuts_on}
use Rattle.laws_board.proofs.plans.Heard.{heard_few}
use Rattle.laws_homing.proofs.home_parts.Ends.{ends_low, ends_made, ends_told, waits_silent}
use Rattle.laws_homing.proofs.home_parts.Known.{tells_low}
use Rattle.plan_types.proofs.Facts.{none_some, some_same}
use Rattle.laws_board.proofs.plans.Answering.{home_axis}

-- a turn that stops parts is one in which a homing section sets its clocks
record Stops (begun : List Started) (turn end : ℕ) : Type 0 where
  past : List Started
  s : Started
  later : List Started
  axis : ℕ
  are : begun ≡ past ++ s ∷ later
  home : s.section.kind ≡ Home axis
  end_is : s.end ≡ end
  soon : s.start ≤ turn + 254
  late : turn + 252 ≤ s.start

stops_more : (s : Started) (begun : List Started) (turn end : ℕ) → Stops begun turn end → Stops (s ∷ begun) turn end
stops_more s begun turn end f = record { past = s ∷ f.past; s = f.s; later = f.later; axis = f.axis; are = ap (λ x. s ∷ x) f.are; home = f.home; end_is = f.end_is; soon = f.soon; late = f.late }

stops_found : (begun : List Started) (turn end : ℕ) → stops_of begun turn ≡ Some end → Stops begun turn end
stops_found [] turn end e = absurd (none_some end e)
stops_found (s ∷ begun) turn end e = by (is_home s.section.kind) refl e (λ f. stops_more s begun turn end (stops_found begun turn end f))
  where
    by : (home : Bool) → is_home s.section.kind ≡ home → (if home && is_set_in s.start turn then Some s.end else stops_of begun turn) ≡ Some end → (stops_of begun turn ≡ Some end → Stops (s ∷ begun) turn end) → Stops (s ∷ begun) turn end
    by false h f rest = rest f
    by true h f rest = elim (leb_tells s.start (turn + 254)) [
      | inl p ↦ elim (leb_tells (turn + 252) s.start) [
        | inl q ↦
            let kind = home_axis s.section.kind h in
            record {
              past = [];
              s = s;
              later = begun;
              axis = kind.0;
              are = refl;
              home = kind.1;
              end_is = some_same s.end end (rw (p.0, q.0) at f);
              soon = p.1;
              late = q.1;
            }
        | inr q ↦ rest (rw (p.0, q.0) at f)
      ]
      | inr p ↦ rest (rw p.0 at f)
    ]

-- the turns of a board and the reactor up to one turn, and that one
pub record Split (m : Machine) (switches : List Switch) (pins : List (List Level)) (entries : List Entry) (b end : ℕ) (came : List Came) (turns : List BoardTurn) : Type 0 where
  pub c : Came
  pub before : List Came
  pub ahead : List Came
  pub came_is : came ≡ ahead ++ c ∷ before
  pub t : BoardTurn
  pub past : List BoardTurn
  pub later : List BoardTurn
  pub turns_is : turns ≡ later ++ t ∷ past
  pub run : IsInRun m switches pins entries b (c ∷ before) (t ∷ past)
  pub at : length before ≡ end

pub split_at : (m : Machine) (switches : List Switch) (pins : List (List Level)) (entries : List Entry) (b end : ℕ) (came : List Came) (turns : List BoardTurn) → IsInRun m switches pins entries b came turns → end < length came
    → Split m switches pins entries b end came turns
split_at m switches pins entries b end [] turns r low = absurd (omega (arith, low))
split_at m switches pins entries b end (c ∷ before) [] r low = absurd r.both
split_at m switches pins entries b end (c ∷ before) (t ∷ turns) r low = elim (leb_tells (suc end) (length before)) [
  | inl p ↦
      let f = split_at m switches pins entries b end before turns (run_before m switches pins entries b c before t turns r) p.1 in
      record {
        c = f.c;
        before = f.before;
        ahead = c ∷ f.ahead;
        came_is = ap (λ x. c ∷ x) f.came_is;
        t = f.t;
        past = f.past;
        later = t ∷ f.later;
        turns_is = ap (λ x. t ∷ x) f.turns_is;
        run = f.run;
        at = f.at;
      }
  | inr p ↦ record { c = c; before = before; ahead = []; came_is = refl; t = t; past = turns; later = []; turns_is = refl; run = r; at = (let far = p.1 in omega (arith, far, low)) }
]

-- what holds of turns holds of those before
notes_tail : (begun : List Started) (xs ys : List Came) → CameNotes begun (xs ++ ys) → CameNotes begun ys
notes_tail begun [] ys n = n
notes_tail begun (x ∷ xs) ys n = notes_tail begun xs ys n.1

pub past_tail : (m : Machine) (switches : List Switch) (from : ℕ) (xs ys : List Came) → ArePastConnecting m switches from (xs ++ ys) → ArePastConnecting m switches from ys
past_tail m switches from [] ys n = n
past_tail m switches from (x ∷ xs) ys n = past_tail m switches from xs ys n.1

pub tells_tail : (m : Machine) (switches : List Switch) (j : ℕ) (xs ys : List Came) → j < length ys → TellsIn m switches j (xs ++ ys) → TellsIn m switches j ys
tells_tail m switches j [] ys low t = t
tells_tail m switches j (x ∷ xs) ys low (inl t) = absurd (let at = t.0 in omega (arith, at, low, length-append xs ys))
tells_tail m switches j (x ∷ xs) ys low (inr t) = tells_tail m switches j xs ys low t

pub tells_now : (m : Machine) (switches : List Switch) (j : ℕ) (c : Came) (before : List Came) → length before ≡ j → TellsIn m switches j (c ∷ before) → TellsHomed (last_reacted m switches c before).ordered.word.news
tells_now m switches j c before at (inl t) = t.1
tells_now m switches j c before at (inr t) = absurd (let low = tells_low m switches j before t in omega (arith, low, at))

-- from the note of a section on up to its end no word tells of an answer
silent : (m : Machine) (switches : List Switch) (ready from to : ℕ) (came : List Came) → ready < from → length came ≤ to → ArePastConnecting m switches ready came → TellNone m switches from to came → IsSilentFrom m switches from came
silent m switches ready from to [] early low past none = tt
silent m switches ready from to (c ∷ before) early low past none = (
  λ late. (past.0 (omega (arith, late, early)), none.0 late (omega (arith, low))),
  silent m switches ready from to before early (omega (arith, low)) past.1 none.1,
)

may_at : (m : Machine) (past : List Started) (s : Started) (later : List Started) (axis : ℕ) → s.section.kind ≡ Home axis → MayHome m (past ++ s ∷ later) → may_be (map unseen (members_from m (axis_at m axis) s.moving 0 m.boards)) s.start s.last ≡ true
may_at m [] s later axis home h = h.0 axis home
may_at m (y ∷ past) s later axis home h = may_at m past s later axis home h.1

pub take_at : (m : Machine) (pins : List (List Level)) (entries : List Entry) (b : ℕ) (past : List Started) (s : Started) (later : List Started) (axis : ℕ) (turns : List BoardTurn) → s.section.kind ≡ Home axis → TakeSetUps m pins entries b (past ++ s ∷ later) turns
    → (behind before : List BoardTurn) → turns ≡ behind ++ before → length before ≡ s.end → TakesSetUp (first_state (board_at m b) pins b entries) s.start before
take_at m pins entries b [] s later axis turns home h = h.0 axis home
take_at m pins entries b (y ∷ past) s later axis turns home h = take_at m pins entries b past s later axis turns home h.1

-- what is read so in a whole run is so up to each of its turns
apart_tail : (m : Machine) (switches : List Switch) (xs ys : List Came) → BeginsApart m switches (xs ++ ys) → BeginsApart m switches ys
apart_tail m switches [] ys a = a
apart_tail m switches (x ∷ xs) ys a = apart_tail m switches xs ys a.1

behind_tail : (m : Machine) (switches : List Switch) (b : ℕ) (xs ys : List Came) → AreNotAhead m switches b (xs ++ ys) → AreNotAhead m switches b ys
behind_tail m switches b [] ys a = a
behind_tail m switches b (x ∷ xs) ys a = behind_tail m switches b xs ys a.1

reads_tail : (R : Came → List Came → List BoardTurn → Type 0) (xs : List Came) (c : Came) (before : List Came) (zs : List BoardTurn) (t : BoardTurn) (past : List BoardTurn) → length xs ≡ length zs → AllRead R (xs ++ c ∷ before) (zs ++ t ∷ past) → AreSoInTurns R (c ∷ before) past
reads_tail R [] c before [] t past e r = r
reads_tail R [] c before (z ∷ zs) t past e r = absurd (omega (arith, e))
reads_tail R (x ∷ xs) c before [] t past e r = absurd (omega (arith, e))
reads_tail R (x ∷ []) c before (z ∷ []) t past e r = r.1
reads_tail R (x ∷ y ∷ xs) c before (z ∷ []) t past e r = absurd (omega (arith, e))
reads_tail R (x ∷ xs) c before (z ∷ w ∷ zs) t past e r = reads_tail R xs c before (w ∷ zs) t past (omega (arith, e)) r.1

pub so_at : (m : Machine) (switches : List Switch) (pins : List (List Level)) (entries : List Entry) (b : ℕ) (R : Came → List Came → List BoardTurn → Type 0) (came : List Came) (turns : List BoardTurn) (xs : List Came) (c : Came) (before : List Came) (zs : List BoardTurn)
    (t : BoardTurn) (past : List BoardTurn) → IsInRun m switches pins entries b came turns → IsInRun m switches pins entries b (c ∷ before) (t ∷ past) → came ≡ xs ++ c ∷ before → turns ≡ zs ++ t ∷ past
    → BeginsApart m switches came × AllRead R came turns × AreNotAhead m switches b came → BeginsApart m switches (c ∷ before) × AreSoInTurns R (c ∷ before) past × AreNotAhead m switches b (c ∷ before)
so_at m switches pins entries b R came turns xs c before zs t past run here are cut so = search (rules, as_long, length-append, apart_tail, reads_tail, behind_tail)

read_at : (m : Machine) (switches : List Switch) (pins : List (List Level)) (entries : List Entry) (b : ℕ) (came : List Came) (turns : List BoardTurn) (xs : List Came) (c : Came) (before : List Came) (zs : List BoardTurn) (t : BoardTurn) (past : List BoardTurn)
    → IsInRun m switches pins entries b came turns → IsInRun m switches pins entries b (c ∷ before) (t ∷ past) → came ≡ xs ++ c ∷ before → turns ≡ zs ++ t ∷ past → AreReadSo m switches b came turns → IsReadSo m switches b c before past
read_at m switches pins entries b came turns xs c before zs t past run here are cut so =
    let x = so_at m switches pins entries b (ReadsTrue m switches b) came turns xs c before zs t past run here are cut (so.apart, so.reads, so.behind) in
    record { apart = x.0; reads = x.1; behind = x.2 }

-- the section with which a part of a stepper's steps stops that is begun in a turn, in some turns in which it was told of
abbrev pub ToldAt : Machine → List Switch → List (List Level) → List Entry → ℕ → List RunSection → List BoardTurn → ℕ → ℕ → Type 0
ToldAt m switches pins entries b ss turns turn end =
    (past : List RunSection) × (s : RunSection) × (later : List RunSection) × (ss ≡ past ++ s ∷ later) × (s.homes ≡ true) × (s.section.end ≡ end) × (s.section.start ≤ turn + 254) × (turn + 252 ≤ s.section.start)
    × IsToldIn m switches pins entries b s.section.start end turns

module _ (m : Machine) (switches : List Switch) (pins : List (List Level)) (entries : List Entry) (b : ℕ) (ts : List MotionTurn) (p : Plans m (length m.boards) ts) (t : Told) (ready : ℕ) (came : List Came) (by : IsPlannedBy m switches (length m.boards) ts p came)
    (told : p.seen.told ≡ Some t) (early : ready + 260 ≤ t.first) (past : ArePastConnecting m switches ready came) (may : MayHome m p.seen.begun) where
  pub in_row : AreInARow t.first p.seen.begun
  in_row = begun_row m t.clocks t.first p.seen.begun (started_in m ts p t told)

  -- a section that homes is known from the note that begins it on
  pub begun_by : (xs : List Started) (s : Started) (later : List Started) (axis from : ℕ) (ahead behind : List Came) → p.seen.begun ≡ xs ++ s ∷ later → s.section.kind ≡ Home axis → from + 259 ≡ s.start → came ≡ ahead ++ behind → length behind ≤ s.end → length behind ≤ length p.made
      → IsBegunIn m switches from s.start (members_from m (axis_at m axis) s.moving 0 m.boards) behind
  begun_by xs s later axis from ahead behind cut home at came_is low few =
      let Row : List Started → Type 0 = λ ss. AreInARow t.first ss in
      let row = subst Row cut in_row in
      let start = (row_from t.first xs s later row).0 in
      let Notes : List Started → Type 0 = λ ss. CameNotes ss behind in
      let All : List Came → Type 0 = λ z. CameNotes p.seen.begun z in
      let Past : List Came → Type 0 = λ z. ArePastConnecting m switches ready z in
      let notes = subst Notes cut (notes_tail p.seen.begun ahead behind (subst All came_is by.notes)) in
      let hears = length-append p.made p.last in
      let none = waits_silent m switches (length m.boards) ts p came ahead behind xs s later axis from by came_is (omega (arith, few, hears)) cut home at in
      let calm = silent m switches ready from s.end behind (omega (arith, at, start, early)) low (past_tail m switches ready ahead behind (subst Past came_is past)) none in
      begun_in m switches t.first from axis xs s later behind row home (may_at m xs s later axis home (subst (MayHome m) cut may)) notes calm at (omega (arith, at, start, early)) (omega (arith, low))

  -- and one that ended was told of
  told_one : (turns : List BoardTurn) (run : IsInRun m switches pins entries b came turns) (xs : List Started) (s : Started) (later : List Started) (axis : ℕ) → p.seen.begun ≡ xs ++ s ∷ later → s.section.kind ≡ Home axis
      → s.end < length came → ((f : Split m switches pins entries b s.end came turns) → length f.past ≡ s.end → TakesSetUp (first_state (board_at m b) pins b entries) s.start f.past ⊎ IsReadSo m switches b f.c f.before f.past)
      → IsToldIn m switches pins entries b s.start s.end turns
  told_one turns run xs s later axis cut home low takes =
      let f = split_at m switches pins entries b s.end came turns run low in
      let Row : List Started → Type 0 = λ ss. AreInARow t.first ss in
      let row = subst Row cut in_row in
      let order = row_from t.first xs s later row in
      let start = order.0 in
      let far = order.1 in
      let from = s.start - 259 in
      let at : from + 259 ≡ s.start = omega (arith, start, early) in
      let same = f.at in
      let here : came ≡ (f.ahead ++ f.c ∷ []) ++ f.before = f.came_is ∙ sym (append_assoc f.ahead (f.c ∷ []) f.before) in
      let turns_are : turns ≡ (f.later ++ f.t ∷ []) ++ f.past = f.turns_is ∙ sym (append_assoc f.later (f.t ∷ []) f.past) in
      let All : List Came → Type 0 = λ z. CameNotes p.seen.begun z in
      let Notes : List Started → Type 0 = λ ss. CameNotes ss (f.c ∷ f.before) in
      let Tells : List Came → Type 0 = λ z. TellsIn m switches s.end z in
      let notes = subst Notes cut (notes_tail p.seen.begun f.ahead (f.c ∷ f.before) (subst All f.came_is by.notes)) in
      let tells = tells_tail m switches s.end f.ahead (f.c ∷ f.before) (omega (arith, same)) (subst Tells f.came_is (ends_told m switches (length m.boards) ts p came xs s later axis by cut home low)) in
      let long : length f.past ≡ s.end = (let e = as_long m switches b f.before f.past f.run.both.2 in omega (arith, e, same)) in
      let size = length-map p.made put_of in
      let small = p.small in
      let long_by = by.long in
      let made = ends_made m switches (length m.boards) ts p came xs s later axis by cut home (λ none. omega (arith, none, low, long_by, size, small)) in
      let one_more = heard_few m (length m.boards) ts p in
      record {
        came = f.c;
        before = f.before;
        later = f.later ++ f.t ∷ [];
        past = f.past;
        are = turns_are;
        long = long;
        run_is = run_before m switches pins entries b f.c f.before f.t f.past f.run;
        states = f.run.both.0;
        goes_on = f.run.goes_on.0;
        begin = from;
        members = members_from m (axis_at m axis) s.moving 0 m.boards;
        begun = begun_by xs s later axis from (f.ahead ++ f.c ∷ []) f.before cut home at here (omega (arith, same)) (omega (arith, same, made, one_more));
        soon = omega (arith, at);
        far = far;
        none = none_later t.first from (length f.before) xs s later f.c.note row notes.0 at (omega (arith, same, at, far)) (omega (arith, same));
        homed = tells_now m switches s.end f.c f.before same tells;
        fires = takes f long;
      }

  pub cut_split : (turn : ℕ) (xs : List Started) (s : Started) (later : List Started) (axis : ℕ) → p.seen.begun ≡ xs ++ s ∷ later → cuts_on m t.clocks turn p.seen.begun b ≡ cuts_on m t.clocks turn xs b ++ cut_on m t.clocks turn b s ∷ cuts_on m t.clocks turn later b
  cut_split turn xs s later axis cut = ap (map (cut_on m t.clocks turn b)) cut ∙ map-append (cut_on m t.clocks turn b) xs (s ∷ later)

  -- so those that ended by a turn, by which the board took their set-ups in time, or its reports are read true
  pub told_to : (turns : List BoardTurn) (until by_turn : ℕ) → IsInRun m switches pins entries b came turns → by_turn ≤ length turns
      → ((xs : List Started) (s : Started) (later : List Started) (axis : ℕ) → p.seen.begun ≡ xs ++ s ∷ later → s.section.kind ≡ Home axis → s.end ≤ by_turn → (f : Split m switches pins entries b s.end came turns) → length f.past ≡ s.end
      → TakesSetUp (first_state (board_at m b) pins b entries) s.start f.past ⊎ IsReadSo m switches b f.c f.before f.past)
      → (turn end : ℕ) → stops_of p.seen.begun turn ≡ Some end → end ≤ by_turn → ToldAt m switches pins entries b (cuts_on m t.clocks until p.seen.begun b) turns turn end
  told_to turns until by_turn run within takes turn end stops by_then =
      let f = stops_found p.seen.begun turn end stops in
      let size = length-map p.made put_of in
      let small = p.small in
      let long = by.long in
      let e = f.end_is in
      let both = as_long m switches b came turns run.both in
      let low = ends_low m switches (length m.boards) ts p came f.past f.s f.later f.axis by f.are f.home (λ none. omega (arith, none, e, by_then, within, both, long, size, small)) in
      let home : is_home f.s.section.kind ≡ true = ap is_home f.home in
      let At : ℕ → Type 0 = λ n. IsToldIn m switches pins entries b f.s.start n turns in (
        cuts_on m t.clocks until f.past b,
        cut_on m t.clocks until b f.s,
        cuts_on m t.clocks until f.later b,
        cut_split until f.past f.s f.later f.axis f.are,
        home,
        e,
        f.soon,
        f.late,
        subst At e (told_one turns run f.past f.s f.later f.axis f.are f.home low (takes f.past f.s f.later f.axis f.are f.home (omega (arith, e, by_then)))),
      )

pub all_told : (m : Machine) (switches : List Switch) (pins : List (List Level)) (entries : List Entry) (b ready until : ℕ) (ts : List MotionTurn) (p : Plans m (length m.boards) ts) (t : Told) (came : List Came) (turns : List BoardTurn)
    → IsPlannedBy m switches (length m.boards) ts p came → p.seen.told ≡ Some t → ready + 260 ≤ t.first → ArePastConnecting m switches ready came → MayHome m p.seen.begun → IsInRun m switches pins entries b came turns
    → TakeSetUps m pins entries b p.seen.begun turns ⊎ AreReadSo m switches b came turns → AreToldIn m switches pins entries b (stops_of p.seen.begun) (cuts_on m t.clocks until p.seen.begun b) turns
all_told m switches pins entries b ready until ts p t came turns by told early past may run takes =
    told_to m switches pins entries b ts p t ready came by told early past may turns until (length turns) run (omega arith)
    (λ xs s later axis cut home low f long. (
    let Set_ups : List Started → Type 0 = λ ss. TakeSetUps m pins entries b ss turns in
    let turns_are : turns ≡ (f.later ++ f.t ∷ []) ++ f.past = f.turns_is ∙ sym (append_assoc f.later (f.t ∷ []) f.past) in
    elim takes [
      | inl x ↦ inl (take_at m pins entries b xs s later axis turns home (subst Set_ups cut x) (f.later ++ f.t ∷ []) f.past turns_are long)
      | inr so ↦ inr (read_at m switches pins entries b came turns f.ahead f.c f.before f.later f.t f.past run f.run f.came_is f.turns_is so)
    ]))
