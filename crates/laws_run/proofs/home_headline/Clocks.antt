-- What the reactor knows of the clock lines in a whole run.
use Rattle.std.proofs.Common.{◌≡◌, ℕ, suc, zero, ◌+◌, ◌*◌, ◌<◌, ◌≤◌, Bool, true, cond, List, [], ◌∷◌, ◌++◌, length, map, Option, Some, None, refl, ap, sym, ◌∙◌, subst, arith, inl, inr, append_assoc, append-nil, length-append, rules}
use Rattle.std.specs.Prelude.{set}
use Rattle.laws_board.proofs.Names.{eqb_tells, leb_tells, append_cancel_left, get_or-set_same, Machine, Held, Line, tick, turn_ns, Clocks, lines_tick, one_line, IsValidMachine, clocks_at, Note, NoteNews, Scene, Switch, listen_all, ready_all, Known, Connecting, news_of, noted, known_behind, told_all, Reacted, Came, GoesOn, known_by, last_reacted, Started, Told, MotionTurn, ReactorTurn}
use Rattle.std.proofs.lemmas.List.{get_or-set_other, length-set}
use Rattle.clock_line.specs.Fits.{added_where, may_hold}
use Rattle.clock_line.specs.Kept.{added}
use Rattle.msg_code.specs.declared.talk.NoteNews.TheVariants as news
use Rattle.msg_code.specs.declared.talk.WordNews.TheVariants as word
use Rattle.board_asking.specs.Clocks.{added_at}
use Rattle.board_asking.specs.Connecting.{board_lines, one_line_clocks}
use Rattle.host_reactor.specs.declared.ordered.Phase.TheVariants.{Running}
use Rattle.host_reactor.specs.Reactor.{phase_after}
use Rattle.laws_board.proofs.clocks.Lines.{noted_phase}
use Rattle.laws_board.proofs.clocks.Turning.{goes}
use Rattle.motion_work.specs.Further.{noted_line, noted_lines}
use Rattle.motion_work.specs.Puts.{ArePut}
use Rattle.session_run.specs.Boards.{AreReactorTurns, came_from, came_in}
use Rattle.laws_board.specs.plans.Lines.{TookEach, TookNotes}
use Rattle.laws_board.specs.plans.Planned.{Plans, put_of, puts_of}
use Rattle.laws_run.specs.run_headline.Timely.{AreSound, EachMayHold}
use Rattle.laws_run.proofs.run_headline.Boarded.{Ready}
use Rattle.laws_run.proofs.run_headline.Further.{EachHeld, none_asked, noted_first, noted_grown, noted_long, told_more}
use Rattle.laws_run.proofs.run_headline.Facts.{came_long, turns_cut}
use Rattle.laws_run.proofs.run_headline.Words.{Connected, line_is, news_in}
use Rattle.laws_homing.specs.home_parts.Answers.{ArePastConnecting}
use Rattle.laws_homing.specs.home_parts.Known.{KnowsLately}
use Rattle.motion_work.specs.Known.{lines_by}
use Rattle.laws_run.proofs.home_headline.Noted.{IsNotedIn, WereNoted, all_in, each_more, lines_cut, noted_next, put_in}
use Rattle.laws_run.proofs.home_headline.Planned.{all_on}
use Rattle.host_reactor.proofs.Connects.{stop-phase}
use Rattle.laws_run.proofs.run_ends.Connecting.{was_connecting}
use Rattle.motion_stream.proofs.Uptaking.{noted_both}

-- each further line that some news tell may hold behind those that its board has by then, where the board is there
abbrev pub MayNote : List NoteNews → List Clocks → Type 0
MayNote [] clocks = Unit {0}
MayNote (news.Line board line from ∷ ns) clocks = (board < length clocks → may_hold (clocks_at clocks board) from line ≡ true) × MayNote ns (noted_line board line from clocks)
MayNote (other ∷ ns) clocks = MayNote ns clocks

may_both : (xs ys : List NoteNews) (clocks : List Clocks) → MayNote (xs ++ ys) clocks → MayNote xs clocks × MayNote ys (noted_lines xs clocks)
may_both [] ys clocks a = (tt, a)
may_both (news.Start section kind turn last moving ∷ xs) ys clocks a = may_both xs ys clocks a
may_both (news.Done section turn ∷ xs) ys clocks a = may_both xs ys clocks a
may_both (news.Read end sections ∷ xs) ys clocks a = may_both xs ys clocks a
may_both (news.Line board line from ∷ xs) ys clocks a = (let r = may_both xs ys (noted_line board line from clocks) a.1 in ((a.0, r.0), r.1))

-- the reactor takes them up
set_outside : (xs : List Clocks) (k : ℕ) (x : Clocks) → length xs ≤ k → set xs k x ≡ xs
set_outside [] k x h = refl
set_outside (y ∷ ys) zero x h = absurd (omega (arith, h))
set_outside (y ∷ ys) (suc k) x h = ap (λ zs. y ∷ zs) (set_outside ys k x (omega (arith, h)))

where_added : (clocks : Clocks) (from : ℕ) (line : Line) → may_hold clocks from line ≡ true → added_where clocks from line ≡ added clocks from line
where_added clocks from line e = ap (λ (b : Bool). cond b (added clocks from line) clocks) e

line_added : (board : ℕ) (line : Line) (from : ℕ) (clocks : List Clocks) → (board < length clocks → may_hold (clocks_at clocks board) from line ≡ true) → added_at board from line clocks ≡ noted_line board line from clocks
line_added board line from clocks may = search (rules, leb_tells, where_added, clocks_at, set_outside)

told_clocks : (m : Machine) (ns : List NoteNews) (r : Known) (clocks : List Clocks) → r.clocks ≡ clocks → MayNote ns clocks → (told_all m ns r).clocks ≡ noted_lines ns clocks
told_clocks m [] r clocks e a = e
told_clocks m (news.Start section kind turn last moving ∷ ns) r clocks e a = told_clocks m ns (known_behind m r (news.Start section kind turn last moving)) clocks e a
told_clocks m (news.Done section turn ∷ ns) r clocks e a = told_clocks m ns (known_behind m r (news.Done section turn)) clocks e a
told_clocks m (news.Read end sections ∷ ns) r clocks e a = told_clocks m ns (known_behind m r (news.Read end sections)) clocks e a
told_clocks m (news.Line board line from ∷ ns) r clocks e a =
    told_clocks m ns (known_behind m r (news.Line board line from)) (noted_line board line from clocks) (ap (added_at board from line) e ∙ line_added board line from clocks a.0) a.1

pub noted_clocks : (m : Machine) (note : Option Note) (r : Known) (clocks : List Clocks) → r.clocks ≡ clocks → MayNote (news_of note) clocks → (noted m note r).clocks ≡ noted_lines (news_of note) clocks
noted_clocks m None r clocks e a = e
noted_clocks m (Some note) r clocks e a = told_clocks m note.news r clocks e a

-- behind the lines of a board others come, each of which may hold
abbrev OneFollows : List NoteNews → List Clocks → ℕ → Type 0
OneFollows ns clocks b = (more : List Held) × ((clocks_at (noted_lines ns clocks) b).held ≡ (clocks_at clocks b).held ++ more) × EachMayHold (clocks_at clocks b) more

abbrev AllFollow : List NoteNews → List Clocks → Type 0
AllFollow ns clocks = (b : ℕ) → b < length clocks → OneFollows ns clocks b

abbrev held_of : Clocks → ℕ → Line → Held
held_of old from line = record { from = from; line = line; most = lines_tick old from; start = tick line from; plan = tick old.first from }

next_may : (old : Clocks) (line : Line) (from : ℕ) (last more rest : List Held) → last ≡ old.held ++ more → last ≡ (added old from line).held ++ rest → EachMayHold old more → (may_hold old from line ≡ true) × EachMayHold (added old from line) rest
next_may old line from last more rest a b may = search (rules, append_assoc, append_cancel_left)

own_next : (board : ℕ) (line : Line) (from : ℕ) (ns : List NoteNews) (clocks : List Clocks) → board < length clocks → OneFollows (news.Line board line from ∷ ns) clocks board
    → (may_hold (clocks_at clocks board) from line ≡ true) × OneFollows ns (noted_line board line from clocks) board
own_next board line from ns clocks inside o =
    let old = clocks_at clocks board in
    let own = added old from line in
    let mid = noted_line board line from clocks in
    let last = (clocks_at (noted_lines ns mid) board).held in
    let long : length mid ≡ length clocks = length-set clocks board own in
    let is : clocks_at mid board ≡ own = get_or-set_same clocks board own _ inside in
    let g = noted_grown (λ b l f. Unit {0}) ns mid board (omega (arith, inside, long)) (none_asked ns) in
    let grown : last ≡ own.held ++ g.more = g.held ∙ ap (λ (c : Clocks). c.held ++ g.more) is in
    let n = next_may old line from last o.0 g.more o.1 grown o.2 in
    (n.0, (g.more, g.held, subst (λ (c : Clocks). EachMayHold c g.more) (sym is) n.1))

other_next : (board : ℕ) (line : Line) (from : ℕ) (ns : List NoteNews) (clocks : List Clocks) (b : ℕ) → (b ≡ board → ⊥) → OneFollows (news.Line board line from ∷ ns) clocks b → OneFollows ns (noted_line board line from clocks) b
other_next board line from ns clocks b other o =
    let is : clocks_at (noted_line board line from clocks) b ≡ clocks_at clocks b = get_or-set_other clocks board b (added (clocks_at clocks board) from line) _ other in
    (o.0, o.1 ∙ ap (λ (c : Clocks). c.held ++ o.0) (sym is), subst (λ (c : Clocks). EachMayHold c o.0) (sym is) o.2)

may_note : (ns : List NoteNews) (clocks : List Clocks) → AllFollow ns clocks → MayNote ns clocks
may_note [] clocks f = tt
may_note (news.Start section kind turn last moving ∷ ns) clocks f = may_note ns clocks f
may_note (news.Done section turn ∷ ns) clocks f = may_note ns clocks f
may_note (news.Read end sections ∷ ns) clocks f = may_note ns clocks f
may_note (news.Line board line from ∷ ns) clocks f =
    let mid = noted_line board line from clocks in
    let long : length mid ≡ length clocks = length-set clocks board (added (clocks_at clocks board) from line) in (
      λ inside. (own_next board line from ns clocks inside (f board inside)).0,
      may_note ns mid (λ b low. elim (eqb_tells b board) [
        | inl e ↦
            let same : b ≡ board = e.1 in
            let inside : board < length clocks = omega (arith, low, long, same) in
            subst (λ (n : ℕ). OneFollows ns mid n) (sym same) (own_next board line from ns clocks inside (f board inside)).1
        | inr e ↦ other_next board line from ns clocks b e.1 (f b (omega (arith, low, long)))
      ]),
    )

-- the lines of a run, behind the first ones
first_follows : (ns : List NoteNews) (firsts all : List Clocks) → all ≡ noted_lines ns firsts → ((b : ℕ) → b < length firsts → (l : Line) × (clocks_at firsts b ≡ one_line l))
    → ((b : ℕ) → b < length firsts → EachMayHold (one_line (clocks_at all b).first) (clocks_at all b).held) → AllFollow ns firsts
first_follows ns firsts all is alone may = λ b low.
    let last = noted_lines ns firsts in
    let one = alone b low in
    let first : (clocks_at last b).first ≡ one.0 = noted_first ns firsts b low ∙ ap (λ (c : Clocks). c.first) one.1 in
    let here : EachMayHold (one_line (clocks_at last b).first) (clocks_at last b).held = subst (λ (cs : List Clocks). EachMayHold (one_line (clocks_at cs b).first) (clocks_at cs b).held) is (may b low) in
    let own : EachMayHold (one_line one.0) (clocks_at last b).held = subst (λ (l : Line). EachMayHold (one_line l) (clocks_at last b).held) first here in
    let none : (clocks_at last b).held ≡ (clocks_at firsts b).held ++ (clocks_at last b).held = ap (λ (c : Clocks). c.held ++ (clocks_at last b).held) (sym one.1) in
    ((clocks_at last b).held, none, subst (λ (c : Clocks). EachMayHold c (clocks_at last b).held) (sym one.1) own)

record IsOn (m : Machine) (switches : List Switch) (clocks : List Clocks) (came : List Came) : Type 0 where
  past : (known_by m switches came).phase ≡ Connecting → ⊥
  clocks_are : (known_by m switches came).clocks ≡ clocks

on_next : (m : Machine) (switches : List Switch) (clocks : List Clocks) (c : Came) (before : List Came) → (last_reacted m switches c before).ordered.end ≡ None → MayNote (news_of c.note) clocks → IsOn m switches clocks before
    → IsOn m switches (noted_lines (news_of c.note) clocks) (c ∷ before)
on_next m switches clocks c before g may on = search (rules, known_by, noted, noted_phase, goes, stop-phase, noted_clocks)

module _ (m : Machine) (switches : List Switch) (text : List ℕ) (begun : List Started) (ready : ℕ) (all : List Clocks) where
  abbrev Knows : List Came → Type 0
  Knows came = KnowsLately m switches all came × ArePastConnecting m switches ready came

  -- the turns up to the one that connects the boards
  none_yet : (c : Came) (before : List Came) → length before ≤ ready → GoesOn m switches before → (known_by m switches before).phase ≡ Connecting → Knows (c ∷ before)
  none_yet c [] low g phase = (((λ past. absurd (past phase)), tt), ((λ far. absurd (omega (arith, far, low))), tt))
  none_yet c (d ∷ past) low g phase =
      let r = none_yet d past (omega (arith, low)) g.1 (was_connecting m switches d past g.0 phase) in
      (((λ on. absurd (on phase)), r.0), ((λ far. absurd (omega (arith, far, low))), r.1))

  -- The lines that were told hold by 276 turns behind a turn, and those that later notes tell hold later.
  one_knows : (k : ℕ) (before : List Came) (r : ReactorTurn) (d : MotionTurn) (ms : List MotionTurn) (clocks : List Clocks) → length before ≡ suc k → r.note ≡ Some d.note → ArePut m text begun k (puts_of (d ∷ ms)) → MayNote (news_in (d ∷ ms)) clocks
      → all ≡ noted_lines (news_in (d ∷ ms)) clocks → IsOn m switches clocks before → WereNoted k clocks → (noted m r.note (known_by m switches before)).clocks ≡ map (lines_by (length before + 276)) all
  one_knows k before r d ms clocks at note put may is on were =
      let next = noted_lines d.note.news clocks in
      let same : news_of r.note ≡ d.note.news = ap news_of note in
      let may_here : MayNote (news_of r.note) clocks = subst (λ (ns : List NoteNews). MayNote ns clocks) (sym same) (may_both d.note.news (news_in ms) clocks may).0 in
      let now : (noted m r.note (known_by m switches before)).clocks ≡ next = noted_clocks m r.note (known_by m switches before) clocks on.clocks_are may_here ∙ ap (λ (ns : List NoteNews). noted_lines ns clocks) same in
      let Old : Line → ℕ → Type 0 = λ line from. from ≤ (length before + 276) * turn_ns in
      let New : ℕ → Line → ℕ → Type 0 = λ board line from. (length before + 276) * turn_ns < from in
      let told = noted_next k d.note.news clocks (put_in m text begun k (put_of d) put.0) were in
      let early = λ (b : ℕ) (low : b < length next). each_more (λ line from. IsNotedIn 0 (k + 1) from) Old (clocks_at next b).held (λ line from x. (let by_now = x.2 in let from_is = x.3 in omega (arith, from_is, by_now, at))) (told b low) in
      let late = told_more (λ board line from. IsNotedIn (k + 1) (k + 1 + length ms) from) New (news_in ms) (λ board line from x. (let far = x.1 in let from_is = x.3 in omega (arith, from_is, far, at))) (all_in m text begun (k + 1) ms put.1) in
      now ∙ lines_cut (length before + 276) (news_in ms) next early late ∙ ap (map (lines_by (length before + 276))) (sym (is ∙ noted_both d.note.news (news_in ms) clocks))

  -- the lines behind a turn
  one_on : (before : List Came) (r : ReactorTurn) (d : MotionTurn) (ms : List MotionTurn) (clocks : List Clocks) → r.note ≡ Some d.note → (last_reacted m switches (came_in r) before).ordered.end ≡ None → MayNote (news_in (d ∷ ms)) clocks → IsOn m switches clocks before
      → IsOn m switches (noted_lines d.note.news clocks) (came_in r ∷ before)
  one_on before r d ms clocks note g may on =
      let same : news_of r.note ≡ d.note.news = ap news_of note in
      let may_here : MayNote (news_of r.note) clocks = subst (λ (ns : List NoteNews). MayNote ns clocks) (sym same) (may_both d.note.news (news_in ms) clocks may).0 in
      subst (λ (ns : List NoteNews). IsOn m switches (noted_lines ns clocks) (came_in r ∷ before)) same (on_next m switches clocks (came_in r) before g may_here on)

  on_from : (k : ℕ) (before : List Came) (rs : List ReactorTurn) (ms : List MotionTurn) (clocks : List Clocks) → length before ≡ suc k → AreReactorTurns m switches before rs → TookEach (map (λ (t : MotionTurn). t.note) ms) rs → ArePut m text begun k (puts_of ms)
      → MayNote (news_in ms) clocks → all ≡ noted_lines (news_in ms) clocks → IsOn m switches clocks before → WereNoted k clocks → Knows before → Knows (came_from before rs)
  on_from k before [] ms clocks at turns took put may is on were knows = knows
  on_from k before (r ∷ rs) [] clocks at turns took put may is on were knows = absurd took
  on_from k before (r ∷ rs) (d ∷ ms) clocks at turns took put may is on were knows =
      on_from (k + 1) (came_in r ∷ before) rs ms (noted_lines d.note.news clocks) (omega (arith, at)) turns.1 took.1 put.1 (may_both d.note.news (news_in ms) clocks may).1 (is ∙ noted_both d.note.news (news_in ms) clocks)
      (one_on before r d ms clocks took.0 turns.0.goes_on may on) (noted_next k d.note.news clocks (put_in m text begun k (put_of d) put.0) were)
      (((λ past. one_knows k before r d ms clocks at took.0 put may is on were), knows.0), ((λ far. on.past), knows.1))

  -- the turn behind these
  end_from : (k : ℕ) (before : List Came) (rs : List ReactorTurn) (end : ReactorTurn) (ms : List MotionTurn) (clocks : List Clocks) → length before ≡ suc k → AreReactorTurns m switches before rs → TookEach (map (λ (t : MotionTurn). t.note) ms) (rs ++ end ∷ [])
      → ArePut m text begun k (puts_of ms) → MayNote (news_in ms) clocks → all ≡ noted_lines (news_in ms) clocks → IsOn m switches clocks before → WereNoted k clocks
      → ((known_by m switches (came_from before rs)).phase ≡ Connecting → ⊥) × ((noted m end.note (known_by m switches (came_from before rs))).clocks ≡ map (lines_by (length (came_from before rs) + 276)) all)
  end_from k before [] end [] clocks at turns took put may is on were = absurd took
  end_from k before [] end (d ∷ ms) clocks at turns took put may is on were = (on.past, one_knows k before end d ms clocks at took.0 put may is on were)
  end_from k before (r ∷ rs) end [] clocks at turns took put may is on were = absurd took
  end_from k before (r ∷ rs) end (d ∷ ms) clocks at turns took put may is on were =
      end_from (k + 1) (came_in r ∷ before) rs end ms (noted_lines d.note.news clocks) (omega (arith, at)) turns.1 took.1 put.1 (may_both d.note.news (news_in ms) clocks may).1 (is ∙ noted_both d.note.news (news_in ms) clocks)
      (one_on before r d ms clocks took.0 turns.0.goes_on may on) (noted_next k d.note.news clocks (put_in m text begun k (put_of d) put.0) were)

lines_clocks : (ls : List Line) → one_line_clocks ls ≡ map one_line ls
lines_clocks [] = refl
lines_clocks (l ∷ ls) = ap (λ z. one_line l ∷ z) (lines_clocks ls)

-- the clock lines that are known behind the turn that connects are those that its word tells
pub clocks_on : (m : Machine) (switches : List Switch) (c : Came) (before : List Came) (lines : List Line) → (last_reacted m switches c before).ordered.end ≡ None → (known_by m switches before).phase ≡ Connecting
    → (last_reacted m switches c before).known.phase ≡ Running → (last_reacted m switches c before).ordered.word.news ≡ word.Lines lines ∷ [] → (last_reacted m switches c before).known.clocks ≡ map one_line lines
clocks_on m switches c before lines g phase_was then news = search (rules, known_by, noted, noted_phase, goes, ready_all, listen_all, lines_clocks, one_line)

-- the turn that connects
connects_on : (m : Machine) (switches : List Switch) (c : Came) (before : List Came) (clocks : List Clocks) → (last_reacted m switches c before).ordered.end ≡ None → Connected m (known_by m switches before) (length before) (last_reacted m switches c before) clocks
    → IsOn m switches clocks (c ∷ before)
connects_on m switches c before clocks g x = search (rules, clocks_on)

-- the notes that the reactor took behind some turns
took_behind : (hp ms : List MotionTurn) (xs ys : List ReactorTurn) → length hp ≡ length xs → TookEach (map (λ (t : MotionTurn). t.note) (hp ++ ms)) (xs ++ ys) → TookEach (map (λ (t : MotionTurn). t.note) ms) ys
took_behind [] ms [] ys e t = t
took_behind [] ms (x ∷ xs) ys e t = absurd (omega (arith, e))
took_behind (d ∷ hp) ms [] ys e t = absurd (omega (arith, e))
took_behind (d ∷ hp) ms (x ∷ xs) ys e t = took_behind hp ms xs ys (omega (arith, e)) t.1

took_later : (hp ms : List MotionTurn) (past : List ReactorTurn) (turn : ReactorTurn) (later : List ReactorTurn) → length hp ≡ length past → TookNotes (map (λ (t : MotionTurn). t.note) (hp ++ ms)) (past ++ turn ∷ later) → TookEach (map (λ (t : MotionTurn). t.note) ms) later
took_later [] ms [] turn later e t = t.1
took_later [] ms (x ∷ past) turn later e t = absurd (omega (arith, e))
took_later (d ∷ hp) ms [] turn later e t = absurd (omega (arith, e))
took_later (d ∷ hp) ms (x ∷ past) turn later e t =
    let Each : List ReactorTurn → Type 0 = λ z. TookEach (map (λ (y : MotionTurn). y.note) (d ∷ hp ++ ms)) z in
    took_behind (d ∷ hp) ms (past ++ turn ∷ []) later (let size = length-append past (turn ∷ []) in omega (arith, e, size)) (subst Each (sym (append_assoc past (turn ∷ []) later)) t.1)

put_behind : (m : Machine) (text : List ℕ) (begun : List Started) (k : ℕ) (hp ms : List MotionTurn) → ArePut m text begun k (puts_of (hp ++ ms)) → ArePut m text begun (k + length hp) (puts_of ms)
put_behind m text begun k [] ms p = let e : k ≡ k + 0 = omega arith in subst (λ (n : ℕ). ArePut m text begun n (puts_of ms)) e p
put_behind m text begun k (d ∷ hp) ms p =
    let e : k + 1 + length hp ≡ k + length (d ∷ hp) = omega arith in
    subst (λ (n : ℕ). ArePut m text begun n (puts_of ms)) e (put_behind m text begun (k + 1) hp ms p.1)

-- a whole run
module _ (m : Machine) (v : IsValidMachine m) (s : Scene) (ts : List MotionTurn) (p : Plans m (length m.boards) ts) (t : Told) (first : ReactorTurn) (rest : List ReactorTurn) (end : ReactorTurn) (told : p.seen.told ≡ Some t) (r : Ready m v s ts p t first rest end told)
    (turns : AreReactorTurns m s.switches [] (first ∷ rest)) (sound : AreSound m t.clocks t.first) where
  abbrev Before : List Came
  Before = came_from [] r.past

  abbrev Notes_from : List MotionTurn
  Notes_from = r.heard.turn ∷ r.heard.later

  parts : AreReactorTurns m s.switches [] r.past × AreReactorTurns m s.switches Before (r.turn ∷ r.later)
  parts = let Turns : List ReactorTurn → Type 0 = λ z. AreReactorTurns m s.switches [] z in turns_cut m s.switches [] r.past (r.turn ∷ r.later) (subst Turns r.are turns)

  long : length r.heard.past ≡ length r.past
  long = let a = r.number in let b = came_long [] r.past in omega (arith, a, b)

  put : ArePut m p.seen.text p.seen.begun (length Before) (puts_of Notes_from)
  put =
      let Put_all : List MotionTurn → Type 0 = λ z. ArePut m p.seen.text p.seen.begun 0 (puts_of z) in
      let Put_from : ℕ → Type 0 = λ n. ArePut m p.seen.text p.seen.begun n (puts_of Notes_from) in
      let from : 0 + length r.heard.past ≡ length Before = (let a = r.number in omega (arith, a)) in
      subst Put_from from (put_behind m p.seen.text p.seen.begun 0 r.heard.past Notes_from (subst Put_all r.heard.are p.put))

  count : length r.heard.clocks ≡ length m.boards
  count = sym (noted_long (news_in Notes_from) r.heard.clocks) ∙ ap length (sym r.heard.on) ∙ sound.clocks_are.count

  -- the first lines of the boards, alone
  alone : (b : ℕ) → b < length r.heard.clocks → (l : Line) × (clocks_at r.heard.clocks b ≡ one_line l)
  alone b low =
      let line = line_is (length Before) b m.boards r.is.lines r.is.fit (omega (arith, low, count)) in
      (line.0, ap (λ (cs : List Clocks). clocks_at cs b) r.is.clocks_are ∙ line.2)

  may : MayNote (news_in Notes_from) r.heard.clocks
  may =
      let h = r.heard in
      may_note (news_in Notes_from) h.clocks (first_follows (news_in Notes_from) h.clocks t.clocks h.on alone (λ b low. sound.may b (omega (arith, low, count))))

  were : WereNoted (length Before) r.heard.clocks
  were = λ b low. (
      let one = alone b low in
      let none : [] ≡ (clocks_at r.heard.clocks b).held = ap (λ (c : Clocks). c.held) (sym one.1) in
      subst (EachHeld (λ line from. IsNotedIn 0 (length Before) from)) none tt)

  on : IsOn m s.switches r.heard.clocks (came_in r.turn ∷ Before)
  on = connects_on m s.switches (came_in r.turn) Before r.heard.clocks parts.1.0.goes_on r.is

  goes_before : GoesOn m s.switches Before
  goes_before = all_on m s.switches [] r.past parts.0 tt

  -- the notes of the turns behind that which connects
  took : (more : List ReactorTurn) → TookNotes (map (λ (d : MotionTurn). d.note) p.made) ((first ∷ rest) ++ more) → TookEach (map (λ (d : MotionTurn). d.note) Notes_from) (r.later ++ more)
  took more notes =
      let Notes : List ReactorTurn → Type 0 = λ z. TookNotes (map (λ (d : MotionTurn). d.note) p.made) z in
      let are : (first ∷ rest) ++ more ≡ r.past ++ r.turn ∷ (r.later ++ more) = ap (λ z. z ++ more) r.are ∙ append_assoc r.past (r.turn ∷ r.later) more in
      let Made : List MotionTurn → Type 0 = λ z. TookNotes (map (λ (d : MotionTurn). d.note) z) (r.past ++ r.turn ∷ (r.later ++ more)) in
      took_later r.heard.past Notes_from r.past r.turn (r.later ++ more) long (subst Made r.heard.are (subst Notes are notes))

  -- in each turn behind connecting the reactor knows the lines that hold by 276 turns behind it
  pub run_knows : TookNotes (map (λ d. d.note) p.made) (first ∷ rest) → KnowsLately m s.switches t.clocks (came_from [] (first ∷ rest)) × ArePastConnecting m s.switches (length (came_from [] r.past)) (came_from [] (first ∷ rest))
  run_knows notes =
      let here : TookEach (map (λ (d : MotionTurn). d.note) Notes_from) r.later =
      subst (TookEach (map (λ (d : MotionTurn). d.note) Notes_from)) (append-nil r.later) (took [] (subst (TookNotes (map (λ (d : MotionTurn). d.note) p.made)) (sym (append-nil (first ∷ rest))) notes)) in
      let Result : List Came → Type 0 = λ z. KnowsLately m s.switches t.clocks z × ArePastConnecting m s.switches (length Before) z in
      subst Result (sym r.came_is)
      (on_from m s.switches p.seen.text p.seen.begun (length Before) t.clocks (length Before) (came_in r.turn ∷ Before) r.later Notes_from r.heard.clocks refl parts.1.1 here put may r.heard.on on were
      (none_yet m s.switches p.seen.text p.seen.begun (length Before) t.clocks (came_in r.turn) Before (omega arith) goes_before r.is.phase))

  -- so in the turn behind all that go on, which is past connecting
  pub end_knows : TookNotes (map (λ d. d.note) p.made) (first ∷ (rest ++ end ∷ []))
      → ((known_by m s.switches (came_from [] (first ∷ rest))).phase ≡ Connecting → ⊥)
      × ((noted m end.note (known_by m s.switches (came_from [] (first ∷ rest)))).clocks ≡ map (lines_by (length (came_from [] (first ∷ rest)) + 276)) t.clocks)
  end_knows notes =
      let Result : List Came → Type 0 = λ z. ((known_by m s.switches z).phase ≡ Connecting → ⊥) × ((noted m end.note (known_by m s.switches z)).clocks ≡ map (lines_by (length z + 276)) t.clocks) in
      subst Result (sym r.came_is)
      (end_from m s.switches p.seen.text p.seen.begun (length Before) t.clocks (length Before) (came_in r.turn ∷ Before) r.later end Notes_from r.heard.clocks refl parts.1.1 (took (end ∷ []) notes) put may r.heard.on on were)
