-- How old the clock lines become that a planner takes up.
use Rattle.std.proofs.Common.{◌≡◌, ◌⊎◌, ℕ, ◌+◌, ◌*◌, ◌^◌, ◌<◌, ◌≤◌, All, List, [], ◌∷◌, ◌++◌, length, Option, Some, None, refl, ap, sym, ◌∙◌, subst, arith, inl, inr, append_assoc, append-nil, length-append, rules}
use Rattle.laws_board.proofs.Names.{leb_tells, BoardClock, Machine, Held, Line, clock_of, turn_ns, Clocks, board_at, clocks_at, AreKept, NoteNews, WordMsg, Started, Told, MotionTurn}
use Rattle.plan_types.specs.Lines.{AreHeld, last_from}
use Rattle.plan_types.specs.Machines.{IsValidBoard}
use Rattle.plan_types.specs.Valid.{IsValidLine}
use Rattle.clock_line.specs.Kept.{clocks_of}
use Rattle.clock_line.specs.Samples.{ppm_size}
use Rattle.section_feed.specs.Boards.{MayTake}
use Rattle.laws_board.specs.turns.Turns.{BoardTurn}
use Rattle.motion_work.specs.declared.told.BoardLine.{BoardLine}
use Rattle.motion_work.specs.Further.{WasHeard, noted_lines, told_on}
use Rattle.motion_work.specs.Puts.{ArePut}
use Rattle.motion_stream.specs.Uptakes.{IsNotLost, TellsOf}
use Rattle.host_reactor.specs.Report.{drift_lines}
use Rattle.laws_board.specs.clocks.Samples.{IsSampled}
use Rattle.laws_board.specs.orders.Renewed.{AreSampled, ComeInTime, NoneBefore}
use Rattle.laws_board.specs.plans.Answers.{TookNoneAhead}
use Rattle.laws_board.specs.plans.Lines.{drifts_of, held_lines}
use Rattle.laws_board.specs.plans.Planned.{LoseNone, TakeUpLines, TookInTime, fresh_in, connecting_heard, put_of, puts_of, told_behind, told_of, words_in}
use Rattle.laws_run.proofs.clock_ages.Saying.{TellFirst, TellNew, TellsAgain, TellsIn}
use Rattle.laws_run.proofs.run_headline.Further.{EachHeld, EachTold, noted_grown, noted_long, none_asked}
use Rattle.laws_run.proofs.run_headline.Noting.{both_told, note_from, were_told}
use Rattle.laws_run.proofs.run_headline.Words.{news_in, told_grows}
use Rattle.laws_run.proofs.run_limits.Own.{sample_small}
use Rattle.laws_run.proofs.clock_ages.Accepts.{AreReady, IsReady, last_line, may_take}
use Rattle.laws_run.proofs.clock_ages.Growing.{AreYoung, IsTaken, age_least, come_young, each_held, held_front, last_more, none_more, sampled_more, young_more}
use Rattle.laws_run.proofs.clock_ages.Heard.{first_parts, fresh_among, fresh_heard, heard_all, heard_line, lines_heard, new_parts, none_high, none_low, tells_drift, tells_either, told_first, told_line}
use Rattle.motion_stream.proofs.Uptaking.{noted_both}
use Rattle.laws_board.proofs.plans.Planning.{heard_some}

-- what is asked of a board
pub record IsDrifting (m : Machine) (b : ℕ) : Type 0 where
  pub board : IsValidBoard (board_at m b)
  pub few : ppm_size (board_at m b).drift ≤ 200
  pub some : 0 < ppm_size (board_at m b).drift
  pub inside : b < length m.boards

-- a line that the notes of turn k tell of a board: it holds 277 turns later, and the words of the turn told it
record IsOwn (k : ℕ) (heard : List BoardLine) (board : ℕ) (line : Line) (from : ℕ) : Type 0 where
  from_is : from ≡ (k + 277) * turn_ns
  heard_is : WasHeard board line heard

same_clocks : (old new : Clocks) (hs : List Held) → new.first ≡ old.first → new.held ≡ hs → clocks_of old.first hs ≡ new
same_clocks old new hs e f =
    let one : clocks_of new.first new.held ≡ clocks_of old.first new.held = ap (λ (l : Line). clocks_of l new.held) e in
    let two : clocks_of old.first new.held ≡ clocks_of old.first hs = ap (λ (l : List Held). clocks_of old.first l) f in
    sym (one ∙ two)

module _ (m : Machine) (b ended running : ℕ) (turns : List BoardTurn) (ws : List WordMsg) (t : Told) (v : IsDrifting m b) (kept : AreKept (clocks_at t.clocks b)) (count : length t.clocks ≡ length m.boards)
    (a : TellsAgain m b ended running turns ws (clocks_at t.clocks b).first) (text : List ℕ) (begun : List Started) where
  abbrev Own : BoardClock
  Own = clock_of (board_at m b)

  -- The clock lines of the board before turn k, before which these words were taken: they are young, and no word from a number on told one, which is
  -- at most 2,200 turns behind the sample of the last of them.
  record Stands (k taken : ℕ) (before : List WordMsg) (clocks : Clocks) : Type 0 where
    front : ℕ
    after : ended < front
    fresh : front * turn_ns ≤ (last_line clocks.first clocks.held).at + 2_200 * turn_ns
    by : last_from 0 clocks.held ≤ (front + 269) * turn_ns
    none : TellsIn b front (front + 2_200) 0 before → ⊥
    young : AreYoung clocks.first clocks.held
    sampled : AreSampled Own turns clocks.held
    late : NoneBefore ended clocks.held
    near : k ≤ taken + 64
    over : ended ≤ k

  -- these lines are the first ones of those at the end
  record GoesTo (clocks : Clocks) : Type 0 where
    first : (clocks_at t.clocks b).first ≡ clocks.first
    more : List Held
    held : (clocks_at t.clocks b).held ≡ clocks.held ++ more

  kept_here : (clocks : Clocks) → GoesTo clocks → AreKept clocks
  kept_here clocks g = search (rules, clocks_at, held_front)

  -- no more words are taken without one that tells a line, up to the last turn
  few_taken : (limit taken front : ℕ) (before rest : List WordMsg) → before ++ rest ≡ ws → length before ≡ taken → ended < front → limit ≤ taken → limit ≤ length turns → (TellsIn b front (front + 2_200) 0 before → ⊥) → limit ≤ front + 2_203
  few_taken limit taken front before rest are long after low last none = elim (leb_tells limit (front + 2_203)) [
    | inl p ↦ p.1
    | inr p ↦
        let over = p.1 in
        let room = a.long in
        let some : TellsIn b front (front + 2_200) 0 (before ++ rest) = subst (λ (x : List WordMsg). TellsIn b front (front + 2_200) 0 x) (sym are) (a.again front after (omega (arith, over, last, room))) in
        elim (tells_either b front (front + 2_200) 0 taken before rest (omega (arith, long)) some) [
          | inl q ↦ absurd (none q)
          | inr q ↦ absurd (none_high b front (front + 2_200) taken rest (omega (arith, over, low)) q)
        ]
  ]

  -- what is so in one turn, in which these further words are taken, and its news
  record IsTurn (k taken : ℕ) (before here rest : List WordMsg) (ns : List NoteNews) (clocks : List Clocks) : Type 0 where
    words : before ++ (here ++ rest) ≡ ws
    long : length before ≡ taken
    ahead : taken + length here ≤ k + 1
    soon : k < taken + length here + 64
    small : k < 2 ^ 43
    inside : b < length clocks
    lines : All (IsNotLost m clocks k ns) (lines_heard here) ⊎ (taken + length here ≤ ended + 1)
    told : EachTold (IsOwn k (lines_heard here)) ns

  here_new : (k taken : ℕ) (before here rest : List WordMsg) (ns : List NoteNews) (clocks : List Clocks) → IsTurn k taken before here rest ns clocks → TellNew Own turns b taken here
  here_new k taken before here rest ns clocks i = search (rules, new_parts)

  -- a line that a word of the turn tells from that number on may be taken up
  may_be : (k taken : ℕ) (before here rest : List WordMsg) (ns : List NoteNews) (clocks : List Clocks) → IsTurn k taken before here rest ns clocks → GoesTo (clocks_at clocks b) → (s : Stands k taken before (clocks_at clocks b)) → TellsIn b s.front (s.front + 2_200) taken here
      → TellsOf b ns
  may_be k taken before here rest ns clocks i g s tells =
      let now = clocks_at clocks b in
      let r = told_line Own turns b s.front (s.front + 2_200) taken here (here_new k taken before here rest ns clocks i) tells in
      let x = r.2 in
      let low = r.3 in
      let late = x.late in
      let soon = x.soon in
      let before_is = x.new.before in
      let new = x.new.fresh in
      let ahead = i.ahead in
      let near = s.near in
      let by = s.by in
      let fresh = s.fresh in
      let over = s.over in
      let last = x.new.told in
      let few = few_taken taken taken s.front before (here ++ rest) i.words i.long s.after (omega arith) (omega (arith, late, last)) s.none in
      let age = age_least (board_at m b).drift v.some v.few in
      let first : IsSampled Own turns now.first = subst (IsSampled Own turns) g.first a.first_sampled in
      let begin = ap (λ (l : Line). l.at) g.first in
      let early = a.first_early in
      let low_clock = sample_small Own turns r.0 v.board.start v.board.freq.high v.few a.few x.new.sampled in
      let ready : AreReady Own turns now ended (k + 277) = record {
        freq = v.board.freq;
        drift = v.few;
        kept = kept_here now g;
        first = first;
        sampled = s.sampled;
        early = omega (arith, begin, early);
        none = s.late;
        begun = omega (arith, over);
        before = omega (arith, by, low, soon, ahead);
        young = come_young (board_at m b).drift now.first now.held (k + 277 + 6) age s.young (omega (arith, near, few, fresh));
      } in
      let line : IsReady Own turns (k + 277) r.0 = record { is = x.new.sampled; before = omega (arith, before_is, soon, ahead); young = omega (arith, new, late, near); small = omega (arith, low_clock) } in
      let small = i.small in
      let may : MayTake now (k + 277) r.0 = may_take Own turns now ended (k + 277) r.0 ready line (omega (arith, small)) in
      let after = s.after in
      elim i.lines [
        | inl all ↦ heard_all (IsNotLost m clocks k ns) b r.0 (lines_heard here) all r.1 v.inside may
        | inr few ↦ absurd (none_low b s.front (s.front + 2_200) taken here (omega (arith, few, after)) tells)
      ]

  -- behind the turn
  none_next : (k taken : ℕ) (before here rest : List WordMsg) (ns : List NoteNews) (clocks : List Clocks) → IsTurn k taken before here rest ns clocks → GoesTo (clocks_at clocks b) → (s : Stands k taken before (clocks_at clocks b)) → (TellsOf b ns → ⊥)
      → TellsIn b s.front (s.front + 2_200) 0 (before ++ here) → ⊥
  none_next k taken before here rest ns clocks i g s not tells =
      let long = i.long in
      elim (tells_either b s.front (s.front + 2_200) 0 taken before here (omega (arith, long)) tells) [
        | inl q ↦ s.none q
        | inr q ↦ not (may_be k taken before here rest ns clocks i g s q)
      ]

  same_next : (k taken : ℕ) (before here rest : List WordMsg) (ns : List NoteNews) (clocks : List Clocks) → IsTurn k taken before here rest ns clocks → GoesTo (clocks_at clocks b) → Stands k taken before (clocks_at clocks b) → (TellsOf b ns → ⊥)
      → Stands (k + 1) (taken + length here) (before ++ here) (clocks_at clocks b)
  same_next k taken before here rest ns clocks i g s not =
      let soon = i.soon in
      let over = s.over in
      record {
        front = s.front;
        after = s.after;
        fresh = s.fresh;
        by = s.by;
        none = none_next k taken before here rest ns clocks i g s not;
        young = s.young;
        sampled = s.sampled;
        late = s.late;
        near = omega (arith, soon);
        over = omega (arith, over);
      }

  more_next : (k taken : ℕ) (before here rest : List WordMsg) (ns : List NoteNews) (clocks : List Clocks) (h : Held) (more : List Held) → IsTurn k taken before here rest ns clocks → Stands k taken before (clocks_at clocks b) → taken < length turns → EachHeld (IsTaken Own turns k) (h ∷ more)
      → Stands (k + 1) (taken + length here) (before ++ here) (clocks_of (clocks_at clocks b).first ((clocks_at clocks b).held ++ h ∷ more))
  more_next k taken before here rest ns clocks h more i s told each =
      let now = clocks_at clocks b in
      let soon = i.soon in
      let ahead = i.ahead in
      let long = i.long in
      let over = s.over in
      let near = s.near in
      let fresh = s.fresh in
      let few = few_taken taken taken s.front before (here ++ rest) i.words i.long s.after (omega arith) (omega (arith, told)) s.none in
      let last = last_more Own turns k 0 now.first now.held h more each in
      let from = last.0 in
      let new = last.1 in
      let size = length-append before here in
      record {
        front = k + 8;
        after = omega (arith, over);
        fresh = omega (arith, new);
        by = omega (arith, from);
        none = none_low b (k + 8) (k + 8 + 2_200) 0 (before ++ here) (omega (arith, size, long, ahead));
        young = young_more Own turns k now.first now.held (h ∷ more) s.young (omega (arith, near, few, fresh)) each;
        sampled = sampled_more Own turns k now.held (h ∷ more) s.sampled each;
        late = none_more Own turns k ended now.held (h ∷ more) over s.late each;
        near = omega (arith, soon);
        over = omega (arith, over);
      }

  step : (k taken : ℕ) (before here rest : List WordMsg) (ns : List NoteNews) (clocks : List Clocks) → IsTurn k taken before here rest ns clocks → GoesTo (clocks_at clocks b) → Stands k taken before (clocks_at clocks b)
      → Stands (k + 1) (taken + length here) (before ++ here) (clocks_at (noted_lines ns clocks) b)
  step k taken before here rest ns clocks i g s =
      let grown = noted_grown (IsOwn k (lines_heard here)) ns clocks b i.inside i.told in
      by grown.more grown.first grown.held grown.lines grown.each
    where
      taken_line : (line : Line) (from : ℕ) → IsOwn k (lines_heard here) b line from → IsTaken Own turns k line from
      taken_line line from own =
          let x = heard_line Own turns b taken line here (here_new k taken before here rest ns clocks i) own.heard_is in
          let late = x.late in
          let new = x.new.fresh in
          let near = s.near in
          record { from_is = own.from_is; sampled = x.new.sampled; fresh = omega (arith, late, new, near) }

      in_run : (line : Line) (from : ℕ) → IsOwn k (lines_heard here) b line from → taken < length turns
      in_run line from own =
          let x = heard_line Own turns b taken line here (here_new k taken before here rest ns clocks i) own.heard_is in
          let late = x.late in
          let last = x.new.told in
          omega (arith, late, last)

      by : (more : List Held) → (clocks_at (noted_lines ns clocks) b).first ≡ (clocks_at clocks b).first → (clocks_at (noted_lines ns clocks) b).held ≡ (clocks_at clocks b).held ++ more → held_lines b more ≡ drifts_of b (drift_lines ns) → EachHeld (IsOwn k (lines_heard here) b) more
          → Stands (k + 1) (taken + length here) (before ++ here) (clocks_at (noted_lines ns clocks) b)
      by [] first held lines each =
          subst (Stands (k + 1) (taken + length here) (before ++ here)) (same_clocks (clocks_at clocks b) (clocks_at (noted_lines ns clocks) b) (clocks_at clocks b).held first (held ∙ append-nil (clocks_at clocks b).held))
          (same_next k taken before here rest ns clocks i g s (λ tells. tells_drift b ns tells (sym lines)))
      by (h ∷ more) first held lines each =
          subst (Stands (k + 1) (taken + length here) (before ++ here)) (same_clocks (clocks_at clocks b) (clocks_at (noted_lines ns clocks) b) ((clocks_at clocks b).held ++ h ∷ more) first held)
          (more_next k taken before here rest ns clocks h more i s (in_run h.line h.from each.0) (each_held (IsOwn k (lines_heard here) b) (IsTaken Own turns k) (h ∷ more) taken_line each))

  -- The planner's turns from turn k on, before which these words were taken.
  pub record Goes (k taken : ℕ) (before : List WordMsg) (ts : List MotionTurn) (told : Option Told) : Type 0 where
    pub more : List WordMsg
    pub words : before ++ (words_in ts ++ more) ≡ ws
    pub long : length before ≡ taken
    pub ahead : TookNoneAhead k taken ts
    pub lines : TakeUpLines m k ts told
    pub put : ArePut m text begun k (puts_of ts)
    pub small : k + length ts ≤ 2 ^ 42
    pub told_is : told_of m k ts told ≡ Some t
    pub in_time : TookInTime m k taken ts told

  -- the words that follow, behind those of one turn
  words_next : (before here later more : List WordMsg) → before ++ ((here ++ later) ++ more) ≡ (before ++ here) ++ (later ++ more)
  words_next before here later more = ap (λ (x : List WordMsg). before ++ x) (append_assoc here later more) ∙ sym (append_assoc before here (later ++ more))

  next : (k taken : ℕ) (before : List WordMsg) (x : MotionTurn) (ts : List MotionTurn) (told : Option Told) → Goes k taken before (x ∷ ts) told → Goes (k + 1) (taken + length x.words) (before ++ x.words) ts (told_behind m k x told)
  next k taken before x ts told g = search (rules, length-append, words_next)

  -- the boards' lines in one turn, and behind it
  abbrev behind : Told → List NoteNews → Told
  behind now ns = record { first = now.first; clocks = noted_lines ns now.clocks }

  behind_is : (k : ℕ) (x : MotionTurn) (told : Option Told) (now : Told) → connecting_heard m k x.words told ≡ Some now → told_behind m k x told ≡ Some (behind now x.note.news)
  behind_is k x told now e = ap (told_on x.note.news) e

  end_is : (k : ℕ) (x : MotionTurn) (ts : List MotionTurn) (told : Option Told) (now : Told) → connecting_heard m k x.words told ≡ Some now → told_of m k (x ∷ ts) told ≡ Some t → noted_lines (news_in (x ∷ ts)) now.clocks ≡ t.clocks
  end_is k x ts told now e is = search (rules, told_grows, behind_is, noted_both)

  goes_to : (ns : List NoteNews) (clocks : List Clocks) → b < length clocks → noted_lines ns clocks ≡ t.clocks → GoesTo (clocks_at clocks b)
  goes_to ns clocks inside e =
      let g = noted_grown (λ b l f. Unit {0}) ns clocks b inside (none_asked ns) in
      record {
        first = ap (λ (cs : List Clocks). (clocks_at cs b).first) (sym e) ∙ g.first;
        more = g.more;
        held = ap (λ (cs : List Clocks). (clocks_at cs b).held) (sym e) ∙ g.held;
      }

  one : (k taken : ℕ) (before : List WordMsg) (x : MotionTurn) (ts : List MotionTurn) (told : Option Told) (now : Told) → connecting_heard m k x.words told ≡ Some now → All (IsNotLost m now.clocks k x.note.news) (lines_heard x.words) ⊎ (taken + length x.words ≤ ended + 1) → Goes k taken before (x ∷ ts) told → Stands k taken before (clocks_at now.clocks b)
      → Stands (k + 1) (taken + length x.words) (before ++ x.words) (clocks_at (noted_lines x.note.news now.clocks) b)
  one k taken before x ts told now e lines g s =
      let all = end_is k x ts told now e g.told_is in
      let size = sym (noted_long (news_in (x ∷ ts)) now.clocks) ∙ ap length all ∙ count in
      let inside : b < length now.clocks = (let low = v.inside in omega (arith, low, size)) in
      let small = g.small in
      step k taken before x.words (words_in ts ++ g.more) x.note.news now.clocks
      (record {
        words = ap (λ (y : List WordMsg). before ++ y) (sym (append_assoc x.words (words_in ts) g.more)) ∙ g.words;
        long = g.long;
        ahead = g.ahead.0;
        soon = g.in_time.1;
        small = omega (arith, small);
        inside = inside;
        lines = lines;
        told = both_told (λ board line from. from ≡ (k + 277) * turn_ns) (λ board line from. WasHeard board line (fresh_in m k x.words told)) (IsOwn k (lines_heard x.words)) x.note.news
            (λ board line from p q. record { from_is = p; heard_is = fresh_among m k board line x.words told q }) (note_from m text begun k (put_of x) g.put.0) (were_told (fresh_in m k x.words told) x.note.news g.lines.0);
      }) (goes_to (news_in (x ∷ ts)) now.clocks inside all) s

  -- how it stands at the end
  abbrev Ends : ℕ → ℕ → List WordMsg → List MotionTurn → Type 0
  Ends k taken before ts = Stands (k + length ts) (taken + length (words_in ts)) (before ++ words_in ts) (clocks_at t.clocks b)

  ends_next : (k taken : ℕ) (before : List WordMsg) (x : MotionTurn) (ts : List MotionTurn) → Ends (k + 1) (taken + length x.words) (before ++ x.words) ts → Ends k taken before (x ∷ ts)
  ends_next k taken before x ts s = search (rules, length-append, clocks_at, append_assoc)

  on : (k taken : ℕ) (before : List WordMsg) (ts : List MotionTurn) (now : Told) → Goes k taken before ts (Some now) → Stands k taken before (clocks_at now.clocks b) → Ends k taken before ts
  on k taken before [] now g s =
      let e : Some now ≡ Some t = g.told_is in
      let same : now ≡ t = cc in
      let turns_are : k ≡ k + 0 = omega arith in
      let words_are : taken ≡ taken + 0 = omega arith in
      subst (λ (n : ℕ). Stands n (taken + 0) (before ++ []) (clocks_at t.clocks b)) turns_are
      (subst (λ (n : ℕ). Stands k n (before ++ []) (clocks_at t.clocks b)) words_are
      (subst (λ (z : List WordMsg). Stands k taken z (clocks_at t.clocks b)) (sym (append-nil before)) (subst (λ (y : Told). Stands k taken before (clocks_at y.clocks b)) same s)))
  on k taken before (x ∷ ts) now g s =
      let e = heard_some m k x.words now in
      let kept = subst (λ (o : Option Told). LoseNone m k x.note.news (fresh_in m k x.words (Some now)) o) e g.lines.1 in
      let lines : All (IsNotLost m now.clocks k x.note.news) (lines_heard x.words) = subst (All (IsNotLost m now.clocks k x.note.news)) (fresh_heard m k x.words now) kept in
      let more = one k taken before x ts (Some now) now e (inl lines) g s in
      let rest = subst (Goes (k + 1) (taken + length x.words) (before ++ x.words) ts) (behind_is k x (Some now) now e) (next k taken before x ts (Some now) g) in
      ends_next k taken before x ts (on (k + 1) (taken + length x.words) (before ++ x.words) ts (behind now x.note.news) rest more)

  -- the turn in which connecting ended
  first_stands : (k taken : ℕ) (before : List WordMsg) (clocks : Clocks) → taken ≡ k → length before ≡ taken → k ≡ ended → clocks.held ≡ [] → Stands k taken before clocks
  first_stands k taken before clocks even long at none = search (rules, turn_ns, none_low)

  starts : (k taken : ℕ) (before : List WordMsg) (ts : List MotionTurn) → taken ≡ k → Goes k taken before ts None → Ends k taken before ts
  starts k taken before [] even g = absurd (let e : None ≡ Some t = g.told_is in cc)
  starts k taken before (x ∷ ts) even g = by (connecting_heard m k x.words None) refl (λ same rest. starts (k + 1) (taken + length x.words) (before ++ x.words) ts same rest)
    where
      by : (o : Option Told) → connecting_heard m k x.words None ≡ o → (taken + length x.words ≡ k + 1 → Goes (k + 1) (taken + length x.words) (before ++ x.words) ts None → Ends (k + 1) (taken + length x.words) (before ++ x.words) ts) → Ends k taken before (x ∷ ts)
      by None is rec =
          let ahead = g.ahead.0 in
          let took = g.in_time.0 is in
          let rest = subst (Goes (k + 1) (taken + length x.words) (before ++ x.words) ts) (ap (told_on x.note.news) is) (next k taken before x ts None g) in
          ends_next k taken before x ts (rec (omega (arith, ahead, took)) rest)
      by (Some now) is rec =
          let long = g.long in
          let all : TellFirst m ended 0 (before ++ (words_in (x ∷ ts) ++ g.more)) = subst (λ (y : List WordMsg). TellFirst m ended 0 y) (sym g.words) a.alone in
          let later = (first_parts m ended 0 taken before (words_in (x ∷ ts) ++ g.more) (omega (arith, long)) all).1 in
          let cut : words_in (x ∷ ts) ++ g.more ≡ x.words ++ (words_in ts ++ g.more) = append_assoc x.words (words_in ts) g.more in
          let here = (first_parts m ended taken (taken + length x.words) x.words (words_in ts ++ g.more) refl (subst (λ (y : List WordMsg). TellFirst m ended taken y) cut later)).0 in
          let f = told_first m k ended taken x.words now here is in
          let low = f.late in
          let high = f.soon in
          let ahead = g.ahead.0 in
          let s = first_stands k taken before (clocks_at now.clocks b) even g.long (omega (arith, even, low, high, ahead)) (f.none b) in
          let more = one k taken before x ts None now is (inr (omega (arith, even, low, ahead))) g s in
          let rest = subst (Goes (k + 1) (taken + length x.words) (before ++ x.words) ts) (behind_is k x None now is) (next k taken before x ts None g) in
          ends_next k taken before x ts (on (k + 1) (taken + length x.words) (before ++ x.words) ts (behind now x.note.news) rest more)

  -- all turns of the planner
  pub young_all : (made : List MotionTurn) (until : ℕ) → Goes 0 0 [] made None → length turns ≤ length made + 1 → until ≤ length turns + 400 → ComeInTime (board_at m b).drift (clocks_at t.clocks b).first (clocks_at t.clocks b).held until
  young_all made until g long high =
      let s = starts 0 0 [] made refl g in
      let near = s.near in
      let fresh = s.fresh in
      let up_to = λ (limit : ℕ) (low : limit ≤ 0 + length (words_in made)) (last : limit ≤ length turns). few_taken limit (0 + length (words_in made)) s.front (words_in made) g.more g.words (omega arith) s.after low last s.none in
      let late : until ≤ s.front + 2_668 = elim (leb_tells (0 + length (words_in made)) (length turns)) [
        | inl p ↦ (let few = up_to (0 + length (words_in made)) (omega arith) p.1 in omega (arith, few, near, long, high))
        | inr p ↦ (let over = p.1 in let few = up_to (length turns) (omega (arith, over)) (omega arith) in omega (arith, few, high))
      ] in
      come_young (board_at m b).drift (clocks_at t.clocks b).first (clocks_at t.clocks b).held until (age_least (board_at m b).drift v.some v.few) s.young (omega (arith, late, fresh))
