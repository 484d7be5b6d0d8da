-- The further clock lines that notes tell.
use Rattle.std.proofs.Common.{◌≡◌, ℕ, zero, suc, ◌+◌, ◌<◌, ◌⊎◌, true, List, [], ◌∷◌, ◌++◌, length, refl, ap, sym, ◌∙◌, subst, arith, inl, inr, append_assoc, append-nil}
use Rattle.laws_board.proofs.Names.{eqb_tells, get_or-set_same, Held, Line, Clocks, clocks_at, NoteNews}
use Rattle.std.proofs.lemmas.List.{get_or-set_other, length-set}
use Rattle.std.specs.Prelude.{◌==◌}
use Rattle.clock_line.specs.Kept.{added}
use Rattle.msg_code.specs.declared.talk.NoteNews.TheVariants as news
use Rattle.report_text.specs.declared.line.ReportLine.TheVariants as report
use Rattle.host_reactor.specs.Report.{drift_lines, turn_at}
use Rattle.motion_work.specs.Further.{noted_line, noted_lines}
use Rattle.laws_run.specs.run_ends.Boards.{lines_at}
use Rattle.laws_board.specs.plans.Lines.{drift_in, drifts_of, held_lines}
use Rattle.motion_stream.proofs.Uptaking.{noted_both}

-- each of some further lines is so, with the time from which on it holds
abbrev pub EachHeld : (Line → ℕ → Type 0) → List Held → Type 0
EachHeld P [] = Unit {0}
EachHeld P (h ∷ held) = P h.line h.from × EachHeld P held

-- each further line that some news tell is so, of its board
abbrev pub EachTold : (ℕ → Line → ℕ → Type 0) → List NoteNews → Type 0
EachTold P [] = Unit {0}
EachTold P (news.Line board line from ∷ ns) = P board line from × EachTold P ns
EachTold P (other ∷ ns) = EachTold P ns

pub told_both : (P : ℕ → Line → ℕ → Type 0) (xs ys : List NoteNews) → EachTold P xs → EachTold P ys → EachTold P (xs ++ ys)
told_both P [] ys a b = b
told_both P (news.Start section kind turn last moving ∷ xs) ys a b = told_both P xs ys a b
told_both P (news.Done section turn ∷ xs) ys a b = told_both P xs ys a b
told_both P (news.Read end sections ∷ xs) ys a b = told_both P xs ys a b
told_both P (news.Line board line from ∷ xs) ys a b = (a.0, told_both P xs ys a.1 b)

pub told_more : (P Q : ℕ → Line → ℕ → Type 0) (ns : List NoteNews) → ((board : ℕ) (line : Line) (from : ℕ) → P board line from → Q board line from) → EachTold P ns → EachTold Q ns
told_more P Q [] f a = tt
told_more P Q (news.Start section kind turn last moving ∷ ns) f a = told_more P Q ns f a
told_more P Q (news.Done section turn ∷ ns) f a = told_more P Q ns f a
told_more P Q (news.Read end sections ∷ ns) f a = told_more P Q ns f a
told_more P Q (news.Line board line from ∷ ns) f a = (f board line from a.0, told_more P Q ns f a.1)

-- what one more line makes of the lines of a board
one_same : (board : ℕ) (line : Line) (from : ℕ) (clocks : List Clocks) → board < length clocks → clocks_at (noted_line board line from clocks) board ≡ added (clocks_at clocks board) from line
one_same board line from clocks inside = get_or-set_same clocks board (added (clocks_at clocks board) from line) _ inside

one_other : (board : ℕ) (line : Line) (from : ℕ) (clocks : List Clocks) (b : ℕ) → (b ≡ board → ⊥) → clocks_at (noted_line board line from clocks) b ≡ clocks_at clocks b
one_other board line from clocks b other = get_or-set_other clocks board b (added (clocks_at clocks board) from line) _ other

one_long : (board : ℕ) (line : Line) (from : ℕ) (clocks : List Clocks) → length (noted_line board line from clocks) ≡ length clocks
one_long board line from clocks = length-set clocks board (added (clocks_at clocks board) from line)

pub noted_long : (ns : List NoteNews) (clocks : List Clocks) → length (noted_lines ns clocks) ≡ length clocks
noted_long [] clocks = refl
noted_long (news.Start section kind turn last moving ∷ ns) clocks = noted_long ns clocks
noted_long (news.Done section turn ∷ ns) clocks = noted_long ns clocks
noted_long (news.Read end sections ∷ ns) clocks = noted_long ns clocks
noted_long (news.Line board line from ∷ ns) clocks = noted_long ns (noted_line board line from clocks) ∙ one_long board line from clocks

-- The lines of a board behind some news: further ones hold behind those that it had, each as it is told, and the lines of a report tell
-- them.
pub record Grown (P : ℕ → Line → ℕ → Type 0) (b : ℕ) (ns : List NoteNews) (old new : Clocks) : Type 0 where
  pub first : new.first ≡ old.first
  pub more : List Held
  pub held : new.held ≡ old.held ++ more
  pub lines : held_lines b more ≡ drifts_of b (drift_lines ns)
  pub each : EachHeld (P b) more

grown_by : (P : ℕ → Line → ℕ → Type 0) (b board : ℕ) (line : Line) (from : ℕ) (ns : List NoteNews) (old mid new : Clocks) → (b ≡ board) ⊎ (b ≡ board → ⊥) → (b ≡ board → mid ≡ added old from line) → ((b ≡ board → ⊥) → mid ≡ old) → P board line from
    → Grown P b ns mid new → Grown P b (news.Line board line from ∷ ns) old new
grown_by P b board line from ns old mid new (inl same) here there p g =
    let is : mid ≡ added old from line = here same in
    let one = (added old from line).held in
    let at : (board ≡ b) = sym same in
    elim (eqb_tells board b) [
      | inl e ↦ by_one (sub_held is) e.0
      | inr e ↦ absurd (e.1 at)
    ]
  where
    sub_held : mid ≡ added old from line → (h : Held) × (h.line ≡ line) × (h.from ≡ from) × (mid.held ≡ old.held ++ h ∷ [])
    sub_held is =
        let own = added old from line in
        let found : (h : Held) × (h.line ≡ line) × (h.from ≡ from) × (own.held ≡ old.held ++ h ∷ []) = (_, refl, refl, refl) in
        (found.0, found.1, found.2, ap (λ (c : Clocks). c.held) is ∙ found.3)

    by_one : (h : Held) × (h.line ≡ line) × (h.from ≡ from) × (mid.held ≡ old.held ++ h ∷ []) → (board == b) ≡ true → Grown P b (news.Line board line from ∷ ns) old new
    by_one (h, line_is, from_is, held_is) e =
        let first_is : mid.first ≡ old.first = ap (λ (c : Clocks). c.first) (here same) in
        let own : report.Drift b (turn_at h.line.at) h.line.clock h.from ≡ report.Drift board (turn_at line.at) line.clock from =
        ap (λ n. report.Drift n (turn_at h.line.at) h.line.clock h.from) same ∙ ap (λ (l : Line). report.Drift board (turn_at l.at) l.clock h.from) line_is ∙ ap (report.Drift board (turn_at line.at) line.clock) from_is in
        let drifted : drift_in b (report.Drift board (turn_at line.at) line.clock from) ≡ report.Drift board (turn_at line.at) line.clock from ∷ [] = rw e refl in
        record {
          first = g.first ∙ first_is;
          more = h ∷ g.more;
          held = g.held ∙ ap (λ hs. hs ++ g.more) held_is ∙ append_assoc old.held (h ∷ []) g.more;
          lines = ap (λ l. l ∷ held_lines b g.more) own ∙ ap (λ ls. report.Drift board (turn_at line.at) line.clock from ∷ ls) g.lines
              ∙ ap (λ ls. ls ++ drifts_of b (drift_lines ns)) (sym drifted);
          each = (subst (λ n. P n h.line h.from) (sym same) (subst (λ (l : Line). P board l h.from) (sym line_is) (subst (P board line) (sym from_is) p)), g.each);
        }
grown_by P b board line from ns old mid new (inr other) here there p g =
    let is = there other in
    elim (eqb_tells board b) [
      | inl e ↦ absurd (other (sym e.1))
      | inr e ↦
          let none : drift_in b (report.Drift board (turn_at line.at) line.clock from) ≡ [] = rw e.0 refl in
          record {
            first = g.first ∙ ap (λ (c : Clocks). c.first) is;
            more = g.more;
            held = g.held ∙ ap (λ (c : Clocks). c.held ++ g.more) is;
            lines = g.lines ∙ ap (λ ls. ls ++ drifts_of b (drift_lines ns)) (sym none);
            each = g.each;
          }
    ]

same_or : (b board : ℕ) → (b ≡ board) ⊎ (b ≡ board → ⊥)
same_or b board = elim (eqb_tells b board) [ inl e ↦ inl e.1 | inr e ↦ inr e.1 ]

pub noted_grown : (P : ℕ → Line → ℕ → Type 0) (ns : List NoteNews) (clocks : List Clocks) (b : ℕ) → b < length clocks → EachTold P ns → Grown P b ns (clocks_at clocks b) (clocks_at (noted_lines ns clocks) b)
noted_grown P [] clocks b inside a = record { first = refl; more = []; held = sym (append-nil (clocks_at clocks b).held); lines = refl; each = tt }
noted_grown P (news.Start section kind turn last moving ∷ ns) clocks b inside a = (let g = noted_grown P ns clocks b inside a in record { first = g.first; more = g.more; held = g.held; lines = g.lines; each = g.each })
noted_grown P (news.Done section turn ∷ ns) clocks b inside a = (let g = noted_grown P ns clocks b inside a in record { first = g.first; more = g.more; held = g.held; lines = g.lines; each = g.each })
noted_grown P (news.Read end sections ∷ ns) clocks b inside a = (let g = noted_grown P ns clocks b inside a in record { first = g.first; more = g.more; held = g.held; lines = g.lines; each = g.each })
noted_grown P (news.Line board line from ∷ ns) clocks b inside a =
    let mid = noted_line board line from clocks in
    let long = one_long board line from clocks in
    grown_by P b board line from ns (clocks_at clocks b) (clocks_at mid b) (clocks_at (noted_lines ns mid) b) (same_or b board)
    (λ same. let own = one_same board line from clocks (subst (λ n. n < length clocks) same inside) in subst (λ n. clocks_at mid n ≡ added (clocks_at clocks n) from line) (sym same) own)
    (λ other. one_other board line from clocks b other) a.0
    (noted_grown P ns mid b (omega (arith, inside, long)) a.1)

-- the lines of boards tell the first lines alone
firsts_alike : (turn b : ℕ) (xs ys : List Clocks) → length xs ≡ length ys → ((k : ℕ) → k < length ys → (clocks_at xs k).first ≡ (clocks_at ys k).first) → lines_at turn b xs ≡ lines_at turn b ys
firsts_alike turn b [] [] long same = refl
firsts_alike turn b [] (y ∷ ys) long same = absurd (omega (arith, long))
firsts_alike turn b (x ∷ xs) [] long same = absurd (omega (arith, long))
firsts_alike turn b (x ∷ xs) (y ∷ ys) long same =
    let first : x.first ≡ y.first = same zero (omega arith) in
    let one : lines_at turn b (x ∷ []) ≡ lines_at turn b (y ∷ []) = ap (λ (l : Line). lines_at turn b (record { first = l; held = [] } ∷ [])) first in
    ap (λ ls. ls ++ lines_at turn (b + 1) xs) one ∙ ap (λ ls. lines_at turn b (y ∷ []) ++ ls) (firsts_alike turn (b + 1) xs ys (omega (arith, long)) (λ k h. same (suc k) (omega (arith, h))))

pub none_asked : (ns : List NoteNews) → EachTold (λ b l f. Unit {0}) ns
none_asked [] = tt
none_asked (news.Start section kind turn last moving ∷ ns) = none_asked ns
none_asked (news.Done section turn ∷ ns) = none_asked ns
none_asked (news.Read end sections ∷ ns) = none_asked ns
none_asked (news.Line board line from ∷ ns) = (tt, none_asked ns)

pub noted_first : (ns : List NoteNews) (clocks : List Clocks) (b : ℕ) → b < length clocks → (clocks_at (noted_lines ns clocks) b).first ≡ (clocks_at clocks b).first
noted_first ns clocks b inside = (noted_grown (λ b l f. Unit {0}) ns clocks b inside (none_asked ns)).first

pub noted_boards : (turn : ℕ) (ns : List NoteNews) (clocks : List Clocks) → lines_at turn 0 (noted_lines ns clocks) ≡ lines_at turn 0 clocks
noted_boards turn ns clocks = firsts_alike turn 0 (noted_lines ns clocks) clocks (noted_long ns clocks) (λ k h. noted_first ns clocks k h)
