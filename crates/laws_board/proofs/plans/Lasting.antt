-- The clock lines of a board that a planner was told.
use Rattle.std.proofs.Common.{◌≡◌, ℕ, zero, suc, ◌+◌, ◌^◌, ◌<◌, List, [], ◌∷◌, length, set, get_or, Option, None, Some, refl, sym, ◌∙◌, subst, arith, rules}
use Rattle.laws_board.proofs.Names.{Machine, Line, Clocks, clocks_at, AreKept, NoteNews, Told, MotionTurn}
use Rattle.plan_types.specs.Lines.{last_from}
use Rattle.clock_line.specs.Kept.{added}
use Rattle.msg_code.specs.declared.talk.NoteNews.TheVariants as news
use Rattle.section_feed.specs.Boards.{most_ns}
use Rattle.motion_work.specs.Further.{noted_line, noted_lines, told_on}
use Rattle.laws_board.specs.plans.Planned.{AllInRange, AreKnown, BeginInRange, Plans, connecting_heard, told_of}

-- The clock lines of a board hold one after the other, from times of the next 500 years on.
pub record AreLasting (clocks : List Clocks) (b : ℕ) : Type 0 where
  pub inside : b < length clocks
  pub kept : AreKept (clocks_at clocks b)
  pub soon : last_from 0 (clocks_at clocks b).held < most_ns

-- a further line leaves the first line of each board
first_set : (clocks : List Clocks) (k b : ℕ) (x d : Clocks) → x.first ≡ (get_or clocks k d).first → (get_or (set clocks k x) b d).first ≡ (get_or clocks b d).first
first_set [] k b x d same = refl
first_set (c ∷ clocks) zero zero x d same = same
first_set (c ∷ clocks) zero (suc b) x d same = refl
first_set (c ∷ clocks) (suc k) zero x d same = refl
first_set (c ∷ clocks) (suc k) (suc b) x d same = first_set clocks k b x d same

first_noted : (ns : List NoteNews) (clocks : List Clocks) (b : ℕ) → (clocks_at (noted_lines ns clocks) b).first ≡ (clocks_at clocks b).first
first_noted [] clocks b = refl
first_noted (news.Line board line from ∷ ns) clocks b = first_noted ns (noted_line board line from clocks) b ∙ first_set clocks board b (added (clocks_at clocks board) from line) _ refl
first_noted (n ∷ ns) clocks b = first_noted ns clocks b

range_on : (m : Machine) (ns : List NoteNews) (o : Option Told) → BeginInRange m o → BeginInRange m (told_on ns o)
range_on m ns None h = h
range_on m ns (Some t) h = λ b low. subst (λ (x : Line). x.clock < 2 ^ 62) (sym (first_noted ns t.clocks b)) (h b low)

range_of : (m : Machine) (k : ℕ) (ts : List MotionTurn) (o : Option Told) → BeginInRange m o → AllInRange m k ts o → BeginInRange m (told_of m k ts o)
range_of m k [] o h all = h
range_of m k (t ∷ ts) o h all = range_of m (k + 1) ts (told_on t.note.news (connecting_heard m k t.words o)) (range_on m t.note.news (connecting_heard m k t.words o) all.0) all.1

pub lines_last : (m : Machine) (n : ℕ) (ts : List MotionTurn) (p : Plans m n ts) (t : Told) (b : ℕ) → p.seen.told ≡ Some t → b < length m.boards → AreLasting t.clocks b
lines_last m n ts p t b told small = search (rules, range_of)
