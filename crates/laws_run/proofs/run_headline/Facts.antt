-- What is known of a whole run, and of the notes that its turns take.
use Rattle.std.proofs.Common.{◌≡◌, ℕ, zero, suc, ◌+◌, ◌<◌, ◌≤◌, ◌⊎◌, true, false, List, [], ◌∷◌, ◌++◌, All, get_or, map, take, length, Option, Some, None, refl, ap, sym, ◌∙◌, subst, arith, inl, inr, append_assoc, append-nil}
use Rattle.laws_board.proofs.Names.{eqb_tells, All-cons, All-head, All-nil, All-tail, Cause, BoardDef, Machine, Section, Home, Moves, clock_of, board_at, Note, State, WordMsg, Scene, Switch, Known, Connecting, is_out, IsOwn, reacts, Came, known_by, Started, MotionTurn, ReactorTurn, gather, item, machine_line}
use Rattle.plan_types.specs.declared.cause.Cause.TheVariants as cause
use Rattle.plan_types.specs.Machines.{no_board}
use Rattle.link_work.specs.Stands.{SeenLink as LinkSeen}
use Rattle.host_reactor.specs.declared.ordered.Reading.{Reading}
use Rattle.host_reactor.specs.Running.{all_ended}
use Rattle.motion_work.specs.Seen.{AreMoves}
use Rattle.session_work.specs.declared.seat.Seat.{Seat}
use Rattle.session_work.specs.Heads.{IsRow}
use Rattle.session_work.specs.Motions.{MotionStep}
use Rattle.session_work.specs.Turns.{Goes}
use Rattle.session_work.specs.Leads.{last_words}
use Rattle.session_work.specs.Rows.{option_items}
use Rattle.session_run.specs.declared.motion.Planning.{Planning}
use Rattle.session_run.specs.Boards.{AreReactorTurns, came_from, came_in}
use Rattle.session_run.specs.Links as links
use Rattle.session_run.specs.Machines.{planner}
use Rattle.session_run.specs.Runs.{AreFirstLinks, IsFirstLink}
use Rattle.laws_run.specs.lanes.Boards.{IsInWhole}
use Rattle.laws_run.specs.lanes.Turns.{AllGoOn, AllHaveControls, ShowsLink}
use Rattle.laws_run.proofs.lanes.Items.{in_memory}
use Rattle.laws_board.specs.plans.Lines.{AreLinesOf, TellsTurn, TookEach, pulses_of, starts_at}
use Rattle.laws_board.specs.plans.Planned.{AnyStops, LastHomes}
use Rattle.laws_board.proofs.plans.Beginning.{Spread}
use Rattle.laws_board.proofs.plans.Telling.{pulses_append}
use Rattle.laws_run.specs.run_headline.Timely.{AreOfMoves, link_of}
use Rattle.host_reactor.specs.Report.{pulse_lines}
use Rattle.laws_run.specs.run_ends.Boards.{boards_of}
use Rattle.laws_run.proofs.run_ends.Connecting.{after_boards, boards_append, end_none}
use Rattle.laws_run.proofs.run_ends.Counting.{IsRead}
pub use Rattle.laws_run.proofs.run_headline.Boarded.{came_long}
use Rattle.laws_run.proofs.run_headline.Heard.{NoneOut}

-- the link of a run, as the laws of boards ask for it
pub shows_link : ShowsLink links.TurnsLink (λ (x : LinkSeen). x)
shows_link = record {
  turned = λ x k c b s y h l st. let t = h.turned l st in (t.0, t.1, t.2, t.3);
  in_range = λ x k c b s y h. h.in_range;
  few = λ x k c b s y h. h.few;
  clock = λ x k c b s y h. h.clock;
}

-- the first link of a board
pub first_at : (s : Scene) (i b j : ℕ) (boards : List BoardDef) (ls : List LinkSeen) → AreFirstLinks s i boards ls → i + b ≡ j → b < length boards → (l : LinkSeen) × (item b ls ≡ l ∷ []) × IsFirstLink s j (get_or boards b no_board) l
first_at s i b j [] ls h e low = absurd (omega (arith, low))
first_at s i b j (d ∷ boards) [] h e low = absurd h
first_at s i zero j (d ∷ boards) (l ∷ ls) h e low = let same : i ≡ j = omega (arith, e) in (l, refl, subst (λ (n : ℕ). IsFirstLink s n d l) same h.0)
first_at s i (suc b) j (d ∷ boards) (l ∷ ls) h e low = first_at s (i + 1) b j boards ls h.1 (omega (arith, e)) (omega (arith, low))

-- turns that go on, as the laws of boards ask for them
pub go_on : (m : Machine) (switches : List Switch) (before : List Came) (rs : List ReactorTurn) → AreReactorTurns m switches before rs → AllHaveControls (length m.boards) rs → AllGoOn m switches before rs
go_on m switches before [] h c = tt
go_on m switches before (r ∷ rs) h c = (record { row = h.0.row; count = c.0; controls_are = h.0.controls_are; goes_on = h.0.goes_on }, go_on m switches (came_in r ∷ before) rs h.1 c.1)

-- the notes that the turns behind the first take
abbrev pub notes_of : List ReactorTurn → List Note
notes_of rs = gather (λ t. option_items t.note) rs

-- each turn took a note, and it wanted no memory
abbrev pub EachNoted : List ReactorTurn → Type 0
EachNoted [] = Unit {0}
EachNoted (t ∷ ts) = ((x : Note) × (t.note ≡ Some x) × (x.out ≡ false)) × EachNoted ts

pub some_note : (n k : ℕ) (t : ReactorTurn) → 0 < k → IsRow n k t.states t.note → (x : Note) × (t.note ≡ Some x)
some_note n k t h (inl a) = absurd (omega (arith, h, a.0))
some_note n k t h (inr a) = a.2

pub noted_so : (m : Machine) (k : ℕ) (t : ReactorTurn) → 0 < k → IsRow (length m.boards) k t.states t.note → is_out t.note ≡ false → (x : Note) × (t.note ≡ Some x) × (x.out ≡ false)
noted_so m k t h row out = let s = some_note (length m.boards) k t h row in (s.0, s.1, ap is_out (sym s.1) ∙ out)

pub goes_noted : (m : Machine) (switches : List Switch) (before : List Came) (rs : List ReactorTurn) (more : List ReactorTurn) → 0 < length before → AreReactorTurns m switches before rs → EachNoted more → EachNoted (rs ++ more)
goes_noted m switches before [] more h turns each = each
goes_noted m switches before (t ∷ rs) more h turns each =
    let clear = in_memory m switches (known_by m switches before) (length before) t.states t.note (λ e. let f : Some cause.Memory ≡ None = sym e ∙ turns.0.goes_on in cc) in
    (noted_so m (length before) t h turns.0.row clear.0, goes_noted m switches (came_in t ∷ before) rs more (omega arith) turns.1 each)

pub took_noted : (rs : List ReactorTurn) (notes others left : List Note) → EachNoted rs → length rs ≤ length notes → notes ++ others ≡ notes_of rs ++ left → TookEach notes rs
took_noted [] notes others left h long e = tt
took_noted (t ∷ rs) [] others left h long e = absurd (omega (arith, long))
took_noted (t ∷ rs) (n ∷ notes) others left h long e =
    let first : n ∷ (notes ++ others) ≡ h.0.0 ∷ (notes_of rs ++ left) = e ∙ ap (λ x. (option_items x ++ notes_of rs) ++ left) h.0.1 in
    let same : n ≡ h.0.0 = cc in
    let then : notes ++ others ≡ notes_of rs ++ left = cc in
    (h.0.1 ∙ ap Some (sym same), took_noted rs notes others left h.1 (omega (arith, long)) then)

-- what holds of turns holds of the first ones of them
pub front_each : (notes : List Note) (xs ys : List ReactorTurn) → TookEach notes (xs ++ ys) → TookEach notes xs
front_each notes [] ys h = tt
front_each [] (x ∷ xs) ys h = absurd h
front_each (n ∷ notes) (x ∷ xs) ys h = (h.0, front_each notes xs ys h.1)

pub each_front : (xs ys : List ReactorTurn) → EachNoted (xs ++ ys) → EachNoted xs
each_front [] ys h = tt
each_front (x ∷ xs) ys h = (h.0, each_front xs ys h.1)

pub notes_both : (xs ys : List ReactorTurn) → notes_of (xs ++ ys) ≡ notes_of xs ++ notes_of ys
notes_both [] ys = refl
notes_both (x ∷ xs) ys = ap (λ z. option_items x.note ++ z) (notes_both xs ys) ∙ sym (append_assoc (option_items x.note) (notes_of xs) (notes_of ys))

pub none_out : (rs : List ReactorTurn) → EachNoted rs → NoneOut (notes_of rs) × (length (notes_of rs) ≡ length rs)
none_out [] h = (tt, refl)
none_out (t ∷ rs) h =
    let rest = none_out rs h.1 in
    let cut : option_items t.note ++ notes_of rs ≡ h.0.0 ∷ notes_of rs = ap (λ x. option_items x ++ notes_of rs) h.0.1 in
    (subst NoneOut (sym cut) (h.0.2, rest.0), ap length cut ∙ ap suc rest.1)

pub no_turns : (xs : List MotionTurn) → length xs ≡ 0 → xs ≡ []
no_turns [] e = refl
no_turns (x ∷ xs) e = absurd (omega (arith, e))

-- no section starts so early
pub starts_late : (x : ℕ) (past : List Started) (s : Started) (later : List Started) → Spread x (past ++ s ∷ later) → x ≤ s.start
starts_late x [] s later h = h.0
starts_late x (y ∷ past) s later h = omega (arith, h.0, starts_late (y.start + 260) past s later h.1)

pub none_begun : (n : ℕ) (begun : List Started) → n ≡ 0 → All (λ s. s.start < n + 260) begun → Spread 260 begun → begun ≡ []
none_begun n [] e a h = refl
none_begun n (s ∷ begun) e a h = absurd (omega (arith, e, h.0, All-head (λ (x : Started). x.start < n + 260) s begun a))

pub in_none : (past : List Started) (s : Started) (later begun : List Started) → begun ≡ [] → begun ≡ past ++ s ∷ later → ⊥
in_none [] s later begun e f = let g : [] ≡ s ∷ later = sym e ∙ f in cc
in_none (y ∷ past) s later begun e f = let g : [] ≡ y ∷ (past ++ s ∷ later) = sym e ∙ f in cc

-- sections of moves were begun
pub kinds_of : (begun : List Started) (sections : List Section) (n : ℕ) → map (λ s. s.section) begun ≡ take n sections → AreOfMoves sections → All (λ s. s.section.kind ≡ Moves) begun
kinds_of [] sections n e a = All-nil (λ (s : Started). s.section.kind ≡ Moves)
kinds_of (s ∷ begun) sections zero e a = absurd (let f : s.section ∷ map (λ (x : Started). x.section) begun ≡ [] = e in cc)
kinds_of (s ∷ begun) [] (suc n) e a = absurd (let f : s.section ∷ map (λ (x : Started). x.section) begun ≡ [] = e in cc)
kinds_of (s ∷ begun) (x ∷ sections) (suc n) e a =
    let first : s.section ≡ x = cc in
    let then : map (λ (y : Started). y.section) begun ≡ take n sections = cc in
    All-cons (λ (y : Started). y.section.kind ≡ Moves) s begun (ap (λ (y : Section). y.kind) first ∙ All-head (λ (y : Section). y.kind ≡ Moves) x sections a)
    (kinds_of begun sections n then (All-tail (λ (y : Section). y.kind ≡ Moves) x sections a))

-- so none of them homes
pub none_homes : (begun : List Started) → All (λ s. s.section.kind ≡ Moves) begun → AreMoves begun
none_homes [] a = tt
none_homes (s ∷ begun) a = (All-head (λ (x : Started). x.section.kind ≡ Moves) s begun a, none_homes begun (All-tail (λ (x : Started). x.section.kind ≡ Moves) s begun a))

-- the lines of turns up to the one that ends the run
pub lines_all : (m : Machine) (switches : List Switch) (before : List Came) (rs : List ReactorTurn) (end : ReactorTurn) → AreReactorTurns m switches before rs
    → ((r : Known) × (r.begun ≡ (known_by m switches (came_from before rs)).begun) × (end.lines ≡ (reacts m switches r (length (came_from before rs)) end.states end.note).ordered.lines)) → AreLinesOf m switches before (rs ++ end ∷ [])
lines_all m switches before [] end h e = (e, tt)
lines_all m switches before (r ∷ rs) end h e = ((known_by m switches before, refl, h.0.lines_are), lines_all m switches (came_in r ∷ before) rs end h.1 e)

-- turns of the reactor, and those behind some of them
pub turns_cut : (m : Machine) (switches : List Switch) (before : List Came) (xs ys : List ReactorTurn) → AreReactorTurns m switches before (xs ++ ys) → AreReactorTurns m switches before xs × AreReactorTurns m switches (came_from before xs) ys
turns_cut m switches before [] ys h = (tt, h)
turns_cut m switches before (x ∷ xs) ys h = let r = turns_cut m switches (came_in x ∷ before) xs ys h.1 in ((h.0, r.0), r.1)

-- the last of some turns
pub cut_last : (xs : List ReactorTurn) → (xs ≡ []) ⊎ ((ys : List ReactorTurn) × (y : ReactorTurn) × (xs ≡ ys ++ y ∷ []))
cut_last [] = inl refl
cut_last (x ∷ xs) = elim (cut_last xs) [ inl e ↦ inr ([], x, ap (λ (z : List ReactorTurn). x ∷ z) e) | inr r ↦ inr (x ∷ r.0, r.1, ap (λ (z : List ReactorTurn). x ∷ z) r.2) ]

pub ended_read : (n : ℕ) (o : Option Reading) → all_ended n o ≡ true → IsRead o
ended_read n None e = let f : false ≡ true = e in cc
ended_read n (Some r) e = tt

pub over_later : (k n : ℕ) (ss : List Started) → k ≤ n → All (λ s. s.end + 5 ≤ k) ss → All (λ s. s.end + 5 ≤ n) ss
over_later k n [] l a = All-nil (λ (s : Started). s.end + 5 ≤ n)
over_later k n (s ∷ ss) l a =
    let here = All-head (λ (x : Started). x.end + 5 ≤ k) s ss a in
    All-cons (λ (x : Started). x.end + 5 ≤ n) s ss (omega (arith, here, l)) (over_later k n ss l (All-tail (λ (x : Started). x.end + 5 ≤ k) s ss a))

-- no section starts before the first may
pub none_at : (k i x : ℕ) (ss : List Started) → Spread x ss → k < x → starts_at k i ss ≡ []
none_at k i x [] s h = refl
none_at k i x (t ∷ ss) s h = elim (eqb_tells t.start k) [ inl p ↦ absurd (omega (arith, p.1, s.0, h)) | inr p ↦ rw p.0 (none_at k (i + 1) (t.start + 260) ss s.1 (omega (arith, s.0, h))) ]

-- the first turn tells no pulses
pub first_pulses : (m : Machine) (begun : List Started) (place : ℕ) (t : ReactorTurn) → Spread 260 begun → IsRow (length m.boards) 0 t.states t.note → TellsTurn m begun 0 t → pulses_of place t.lines ≡ []
first_pulses m begun place t spread (inr a) tells = absurd (omega (arith, a.0))
first_pulses m begun place t spread (inl a) tells =
    ap (pulses_of place) tells.are ∙ pulses_append place (machine_line m 0) (starts_at 0 0 begun ++ tells.rest) ∙ pulses_append place (starts_at 0 0 begun) tells.rest
    ∙ ap (λ x. x ++ pulses_of place tells.rest) (ap (pulses_of place) (none_at 0 0 260 begun spread (omega arith))) ∙ tells.pulses place ∙ ap (λ (states : List State). pulses_of place (pulse_lines m 0 states)) a.1

-- of sections of moves the last one does not home
pub homes_never : (k : ℕ) (ss : List Started) → All (λ s. s.section.kind ≡ Moves) ss → LastHomes k ss → ⊥
homes_never k ss kinds h =
    let Plain : List Started → Type 0 = λ z. All (λ s. s.section.kind ≡ Moves) z in
    by h.past (subst Plain h.are kinds)
  where
    by : (past : List Started) → All (λ s. s.section.kind ≡ Moves) (past ++ h.s ∷ []) → ⊥
    by [] all = let e : Moves ≡ Home h.axis = sym (All-head (λ (s : Started). s.section.kind ≡ Moves) h.s [] all) ∙ h.home in cc
    by (x ∷ past) all = by past (All-tail (λ (s : Started). s.section.kind ≡ Moves) x (past ++ h.s ∷ []) all)

-- What is known of a run that does not end for want of memory; or of any run up to a turn that goes on, as if it ended there for a fault.
pub record Facts (m : Machine) (s : Scene) (ts : List MotionTurn) (rs : List ReactorTurn) (end : ReactorTurn) (c : Cause) : Type 0 where
  pub turns : AreReactorTurns m s.switches [] rs
  pub known : Known
  pub begun : known.begun ≡ (known_by m s.switches (came_from [] rs)).begun
  pub lines_are : end.lines ≡ (reacts m s.switches known (length (came_from [] rs)) end.states end.note).ordered.lines
  pub other : c ≡ cause.Memory → ⊥
  pub own : IsOwn c → (known ≡ known_by m s.switches (came_from [] rs)) × (known.stopped ≡ None)
  pub last : (Some c ≡ (reacts m s.switches known (length (came_from [] rs)) end.states end.note).ordered.end) ⊎ (AreReactorTurns m s.switches [] (rs ++ end ∷ []) × (IsOwn c → ⊥))
  pub row : IsRow (length m.boards) (length (came_from [] rs)) end.states end.note
  pub clear : is_out end.note ≡ false
  pub ahead : ℕ
  pub words_left : List WordMsg
  pub words : gather (λ x. x.word ∷ []) rs ++ last_words (length rs) ahead ≡ gather (λ x. x.words) ts ++ words_left
  pub notes_left : List Note
  pub notes : gather (λ x. x.note ∷ []) ts ≡ notes_of (rs ++ end ∷ []) ++ notes_left
  pub from : Seat Planning
  pub to : Seat Planning
  pub fresh : from.heard ≡ 0
  pub goes : Goes (MotionStep planner (length m.boards)) 0 from ts to
  pub stops : (heard : ℕ) → AnyStops heard (gather (λ x. x.pieces) ts) → (length rs + 1 ≤ heard) ⊎ ((heard ≡ length rs) × (IsOwn c → ⊥))
  pub boards : (b : ℕ) (first : ReactorTurn) (rest : List ReactorTurn) → b < length m.boards → rs ≡ first ∷ rest → IsInWhole m s.switches b (clock_of (board_at m b)) (link_of m s b) ts first (rest ++ end ∷ [])

-- a run that ends for a cause of its own ends
pub ends_own : (m : Machine) (s : Scene) (ts : List MotionTurn) (rs : List ReactorTurn) (end : ReactorTurn) (c : Cause) (f : Facts m s ts rs end c) → IsOwn c → Some c ≡ (reacts m s.switches f.known (length (came_from [] rs)) end.states end.note).ordered.end
ends_own m s ts rs end c f own = elim f.last [ inl e ↦ e | inr g ↦ absurd (g.1 own) ]

lines_both : (xs ys : List ReactorTurn) → gather (λ t. t.lines) (xs ++ ys) ≡ gather (λ t. t.lines) xs ++ gather (λ t. t.lines) ys
lines_both [] ys = refl
lines_both (x ∷ xs) ys = ap (λ z. x.lines ++ z) (lines_both xs ys) ∙ sym (append_assoc x.lines (gather (λ (t : ReactorTurn). t.lines) xs) (gather (λ (t : ReactorTurn). t.lines) ys))

-- behind the turn that ended connecting the last one tells of no board
pub last_boards : (m : Machine) (s : Scene) (ts : List MotionTurn) (first : ReactorTurn) (rest : List ReactorTurn) (end : ReactorTurn) (c : Cause) (f : Facts m s ts (first ∷ rest) end c) (past : List ReactorTurn) (turn : ReactorTurn) (later : List ReactorTurn) → first ∷ rest ≡ past ++ turn ∷ later
    → ((known_by m s.switches (came_in turn ∷ came_from [] past)).phase ≡ Connecting → ⊥) → boards_of end.lines ≡ []
last_boards m s ts first rest end c f past turn later are on =
    let lines = λ (zs : List ReactorTurn). gather (λ (z : ReactorTurn). z.lines) zs in
    elim f.last [
      | inl e ↦ ap boards_of f.lines_are ∙ end_none m s.switches f.known (length (came_from [] (first ∷ rest))) end.states end.note c (sym e)
      | inr g ↦
          let before = came_in turn ∷ came_from [] past in
          let Turns : List ReactorTurn → Type 0 = λ z. AreReactorTurns m s.switches [] z in
          let cut : (first ∷ rest) ++ end ∷ [] ≡ past ++ turn ∷ (later ++ end ∷ []) = ap (λ z. z ++ end ∷ []) are ∙ append_assoc past (turn ∷ later) (end ∷ []) in
          let parts = turns_cut m s.switches [] past (turn ∷ (later ++ end ∷ [])) (subst Turns cut g.0) in
          let all = after_boards m s.switches before (later ++ end ∷ []) parts.1.1 on in
          let front = turns_cut m s.switches before later (end ∷ []) parts.1.1 in
          let none = after_boards m s.switches before later front.0 on in
          sym (ap boards_of (append-nil end.lines)) ∙ ap (λ z. z ++ boards_of (lines (end ∷ []))) (sym none) ∙ sym (boards_append (lines later) (lines (end ∷ []))) ∙ sym (ap boards_of (lines_both later (end ∷ []))) ∙ all
    ]

-- a run that ended, and does not for want of memory
pub record Ended (m : Machine) (s : Scene) (ts : List MotionTurn) (rs : List ReactorTurn) (end : ReactorTurn) (c : Cause) : Type 0 where
  pub facts : Facts m s ts rs end c
  pub end_is : Some c ≡ (reacts m s.switches facts.known (length (came_from [] rs)) end.states end.note).ordered.end
