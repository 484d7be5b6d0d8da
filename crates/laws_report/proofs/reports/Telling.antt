-- Where the further clock lines of a report are those of the boards' lines, in order, each of them may stand.
use Rattle.std.proofs.Common.{◌≡◌, ◌∙◌, ℕ, suc, ◌*◌, ◌/◌, ◌%◌, ◌^◌, ◌<◌, ◌≤◌, Bool, true, false, List, [], ◌∷◌, ◌++◌, length, map, max, ap, sym, refl, subst, arith, inl, inr, append-nil, append_assoc, rules}
use Rattle.std.specs.Prelude.{◌==◌, ◌&&◌, nat_le, nat_lt, set, if◌then◌else◌}
use Rattle.std.proofs.Math.Nat.{div-add-mod}
use Rattle.laws_board.proofs.Names.{eqb_tells, leb_tells, nat_tests, get_or-set_same, length-map, Machine, Held, Line, tick, turn_ns, Clocks, lines_tick, one_line, board_at, clocks_at, and_from}
use Rattle.std.proofs.lemmas.List.{get_or-map, get_or-set_other, length-set}
use Rattle.plan_types.specs.Lines.{AreHeld, IsFit, last_from, tick_over}
use Rattle.clock_line.specs.Fits.{added_where, are_small, is_later, is_like, may_hold}
use Rattle.clock_line.specs.Kept.{added, clocks_of}
use Rattle.clock_line.proofs.Holding.{above-all, chosen, tick-none}
use Rattle.clock_line.proofs.Turns.{last_from-above}
use Rattle.log_text.specs.declared.line.LogLine.{LogLine}
use Rattle.log_text.specs.declared.line.LogLine.TheVariants as line
use Rattle.log_check.specs.declared.further.Further.{Further}
use Rattle.log_check.specs.Behind.{clocks, told_clocks, told_line, with_further}
use Rattle.log_check.specs.Faults.{may_follow}
use Rattle.laws_report.proofs.logs.Standing.{onto}
use Rattle.laws_report.specs.reports.Further.{AllMayStand, further_told}
use Rattle.plan_types.proofs.Facts.{is_equal, is_le, is_less}

-- those of a board among some further clock lines
abbrev pub of_board : ℕ → List Further → List Further
of_board b [] = []
of_board b (f ∷ fs) = if f.board == b then f ∷ of_board b fs else of_board b fs

-- what a board's lines that hold later say in a log
abbrev pub held_told : ℕ → List Held → List Further
held_told b [] = []
held_told b (h ∷ held) = record { board = b; turn = h.line.at / turn_ns; tick = h.line.clock; from = h.from } ∷ held_told b held

-- the ticks that they keep have 64 bits
abbrev pub AllSmall : List Held → Type 0
AllSmall [] = Unit {0}
AllSmall (h ∷ held) = (h.most < 2 ^ 64) × (h.start < 2 ^ 64) × (h.plan < 2 ^ 64) × AllSmall held

-- a board's lines that a log may tell
pub record HoldWell (m : Machine) (b : ℕ) (first : Line) (held : List Held) : Type 0 where
  pub freq : first.freq ≡ (board_at m b).freq
  pub are : AreHeld first first 0 0 held
  pub small : AllSmall held

-- one of them, behind those before it
record StandsAt (first line : Line) (from most : ℕ) (done : List Held) (h : Held) : Type 0 where
  later : from < h.from
  after : last_from from done < h.from
  most_is : tick_over line most done h.from ≡ h.most
  start : h.start ≡ tick h.line h.from
  plan : h.plan ≡ tick first h.from
  fit : IsFit first h.line h.from

stands-at : (first line : Line) (from most : ℕ) (done : List Held) (h : Held) (rest : List Held) → AreHeld first line from most (done ++ h ∷ rest) → StandsAt first line from most done h
stands-at first line from most [] h rest are = record { later = are.0; after = are.0; most_is = sym are.1; start = are.2; plan = are.3; fit = are.5 }
stands-at first line from most (g ∷ done) h rest are =
    let s = stands-at first g.line g.from g.most done h rest are.4 in
    let up = are.0 in
    let more = s.later in
    let e : tick_over line most (g ∷ done) h.from ≡ tick_over g.line (max most (tick line g.from)) done h.from = chosen (nat_le g.from h.from) _ _ (grind (arith, nat_tests)) in
    let f : tick_over g.line (max most (tick line g.from)) done h.from ≡ tick_over g.line g.most done h.from = ap (λ x. tick_over g.line x done h.from) (sym are.1) in
    record { later = omega (arith, up, more); after = s.after; most_is = e ∙ f ∙ s.most_is; start = s.start; plan = s.plan; fit = s.fit }

-- what a line keeps is no greater than the tick of all at its time
pub record KeepsLow (first line : Line) (from most : ℕ) (all : List Held) (h : Held) : Type 0 where
  pub most_low : h.most ≤ tick_over line most all h.from
  pub start_low : h.start ≤ tick_over line most all h.from
  pub start : h.start ≡ tick h.line h.from
  pub plan : h.plan ≡ tick first h.from
  pub soon : h.from ≤ last_from from all
  pub fit : IsFit first h.line h.from

pub keeps-low : (first line : Line) (from most : ℕ) (done : List Held) (h : Held) (rest : List Held) → AreHeld first line from most (done ++ h ∷ rest) → KeepsLow first line from most (done ++ h ∷ rest) h
keeps-low first line from most [] h rest are =
    let one : tick_over line most (h ∷ rest) h.from ≡ tick_over h.line (max most (tick line h.from)) rest h.from = chosen (nat_le h.from h.from) _ _ (grind (arith, nat_tests)) in
    let two = tick-none first h.line h.from (max most (tick line h.from)) rest h.from (λ i low inside. above-all first h.line h.from h.most rest are.4 i inside) in
    let most_is = are.1 in
    let start_is = are.2 in
    record { most_low = omega (arith, one, two, most_is); start_low = omega (arith, one, two, start_is); start = are.2; plan = are.3; soon = last_from-above first h.line h.from h.most rest are.4; fit = are.5 }
keeps-low first line from most (g ∷ done) h rest are =
    let s = stands-at first g.line g.from g.most done h rest are.4 in
    let later = s.later in
    let k = keeps-low first g.line g.from g.most done h rest are.4 in
    let all = done ++ h ∷ rest in
    let one : tick_over line most (g ∷ all) h.from ≡ tick_over g.line (max most (tick line g.from)) all h.from = chosen (nat_le g.from h.from) _ _ (grind (arith, nat_tests)) in
    let two : tick_over g.line (max most (tick line g.from)) all h.from ≡ tick_over g.line g.most all h.from = ap (λ x. tick_over g.line x all h.from) (sym are.1) in
    let most_low = k.most_low in
    let start_low = k.start_low in
    record { most_low = omega (arith, one, two, most_low); start_low = omega (arith, one, two, start_low); start = k.start; plan = k.plan; soon = k.soon; fit = k.fit }

small-at : (done : List Held) (h : Held) (rest : List Held) → AllSmall (done ++ h ∷ rest) → (h.most < 2 ^ 64) × (h.start < 2 ^ 64) × (h.plan < 2 ^ 64)
small-at [] h rest small = (small.0, small.1, small.2)
small-at (g ∷ done) h rest small = small-at done h rest small.3

may-hold : (first : Line) (done : List Held) (h : Held) (rest : List Held) → AreHeld first first 0 0 (done ++ h ∷ rest) → AllSmall (done ++ h ∷ rest) → may_hold (clocks_of first done) h.from h.line ≡ true
may-hold first done h rest are small =
    let c = clocks_of first done in
    let s = stands-at first first 0 0 done h rest are in
    let k = small-at done h rest small in
    let fit = s.fit in
    let most = s.most_is in
    let start = s.start in
    let plan = s.plan in
    let k0 = k.0 in
    let k1 = k.1 in
    let k2 = k.2 in
    let like = and_from (h.line.freq == first.freq) (h.line.at % 1_000_000 == 0) (is_equal h.line.freq first.freq fit.same_freq) (is_equal (h.line.at % 1_000_000) 0 fit.whole_turn) in
    let later = and_from (nat_lt (last_from 0 done) h.from) (nat_le h.line.at h.from && nat_le first.at h.from) (is_less (last_from 0 done) h.from s.after) (and_from (nat_le h.line.at h.from) (nat_le first.at h.from) (is_le h.line.at h.from fit.before) (is_le first.at h.from fit.first_before)) in
    let few = and_from (nat_lt (lines_tick c h.from) (2 ^ 64)) (nat_lt (tick h.line h.from) (2 ^ 64) && nat_lt (tick first h.from) (2 ^ 64)) (is_less (lines_tick c h.from) (2 ^ 64) (omega (arith, most, k0)))
    (and_from (nat_lt (tick h.line h.from) (2 ^ 64)) (nat_lt (tick first h.from) (2 ^ 64)) (is_less (tick h.line h.from) (2 ^ 64) (omega (arith, start, k1))) (is_less (tick first h.from) (2 ^ 64) (omega (arith, plan, k2)))) in
    and_from (is_like first h.line) (is_later c h.from h.line && are_small c h.from h.line) like (and_from (is_later c h.from h.line) (are_small c h.from h.line) later few)

-- it is the line that is told
line-is : (m : Machine) (b : ℕ) (first : Line) (h : Held) → first.freq ≡ (board_at m b).freq → IsFit first h.line h.from → told_line m b (h.line.at / turn_ns) h.line.clock ≡ h.line
line-is m b first h freq fit = search (rules, div-add-mod, turn_ns, board_at)

-- and is added as it is
held-is : (first : Line) (done : List Held) (h : Held) (rest : List Held) → AreHeld first first 0 0 (done ++ h ∷ rest) → added (clocks_of first done) h.from h.line ≡ clocks_of first (done ++ h ∷ [])
held-is first done h rest are = search (rules, stands-at, tick)

told-may : (m : Machine) (b : ℕ) (first : Line) (done : List Held) (h : Held) (rest : List Held) → HoldWell m b first (done ++ h ∷ rest) → may_hold (clocks_of first done) h.from (told_line m b (h.line.at / turn_ns) h.line.clock) ≡ true
told-may m b first done h rest ok = search (rules, stands-at, line-is, may-hold)

told-added : (m : Machine) (b : ℕ) (first : Line) (done : List Held) (h : Held) (rest : List Held) → HoldWell m b first (done ++ h ∷ rest) → added_where (clocks_of first done) h.from (told_line m b (h.line.at / turn_ns) h.line.clock) ≡ clocks_of first (done ++ h ∷ [])
told-added m b first done h rest ok = search (rules, stands-at, turn_ns, told-may, line-is, held-is)

more-well : (m : Machine) (b : ℕ) (first : Line) (done : List Held) (h : Held) (rest : List Held) → HoldWell m b first (done ++ h ∷ rest) → HoldWell m b first ((done ++ h ∷ []) ++ rest)
more-well m b first done h rest ok = subst (λ (x : List Held). HoldWell m b first x) (sym (append_assoc done (h ∷ []) rest)) ok

-- so a board's own line with its further ones has all of them
pub with-held : (m : Machine) (b : ℕ) (fs : List Further) (first : Line) (done rest : List Held) → HoldWell m b first (done ++ rest) → of_board b fs ≡ held_told b rest → with_further m b fs (clocks_of first done) ≡ clocks_of first (done ++ rest)
with-held m b [] first done [] ok e = ap (clocks_of first) (sym (append-nil done))
with-held m b [] first done (h ∷ rest) ok e = absurd (let x : [] ≡ held_told b (h ∷ rest) = e in cc)
with-held m b (f ∷ fs) first done [] ok e = by (f.board == b) e (λ g. with-held m b fs first done [] ok g) where
  by : (t : Bool) → (if t then f ∷ of_board b fs else of_board b fs) ≡ [] → (of_board b fs ≡ [] → with_further m b fs (clocks_of first done) ≡ clocks_of first (done ++ []))
      → with_further m b fs (if t then added_where (clocks_of first done) f.from (told_line m b f.turn f.tick) else clocks_of first done) ≡ clocks_of first (done ++ [])
  by true g later = absurd (let x : f ∷ of_board b fs ≡ [] = g in cc)
  by false g later = later g
with-held m b (f ∷ fs) first done (h ∷ rest) ok e =
    by (f.board == b) e (λ g. with-held m b fs first done (h ∷ rest) ok g) (λ g. with-held m b fs first (done ++ h ∷ []) rest (more-well m b first done h rest ok) g)
  where
    by : (t : Bool) → (if t then f ∷ of_board b fs else of_board b fs) ≡ held_told b (h ∷ rest) → (of_board b fs ≡ held_told b (h ∷ rest) → with_further m b fs (clocks_of first done) ≡ clocks_of first (done ++ h ∷ rest))
        → (of_board b fs ≡ held_told b rest → with_further m b fs (clocks_of first (done ++ h ∷ [])) ≡ clocks_of first ((done ++ h ∷ []) ++ rest))
        → with_further m b fs (if t then added_where (clocks_of first done) f.from (told_line m b f.turn f.tick) else clocks_of first done) ≡ clocks_of first (done ++ h ∷ rest)
    by false g other own = other g
    by true g other own =
        let one : Further = record { board = b; turn = h.line.at / turn_ns; tick = h.line.clock; from = h.from } in
        let x : f ∷ of_board b fs ≡ one ∷ held_told b rest = g in
        let is : f ≡ one = cc in
        let left : of_board b fs ≡ held_told b rest = cc in
        ap (λ (z : Further). with_further m b fs (added_where (clocks_of first done) z.from (told_line m b z.turn z.tick))) is
        ∙ (ap (with_further m b fs) (told-added m b first done h rest ok) ∙ (own left ∙ ap (clocks_of first) (append_assoc done (h ∷ []) rest)))

-- no line of some tells a board
abbrev pub NoneBoards : List LogLine → Type 0
NoneBoards [] = Unit {0}
NoneBoards (line.Board b turn tick ∷ lines) = ⊥
NoneBoards (line.Line b turn tick from ∷ lines) = NoneBoards lines
NoneBoards (line.Section i turn kind ∷ lines) = NoneBoards lines
NoneBoards (line.Note ∷ lines) = NoneBoards lines
NoneBoards (line.Pulse s tick up ∷ lines) = NoneBoards lines
NoneBoards (line.Cut i ∷ lines) = NoneBoards lines
NoneBoards (line.End ∷ lines) = NoneBoards lines

-- nor stands one behind a further clock line
abbrev pub BoardsBefore : List LogLine → Type 0
BoardsBefore [] = Unit {0}
BoardsBefore (line.Line b turn tick from ∷ lines) = NoneBoards lines
BoardsBefore (line.Board b turn tick ∷ lines) = BoardsBefore lines
BoardsBefore (line.Section i turn kind ∷ lines) = BoardsBefore lines
BoardsBefore (line.Note ∷ lines) = BoardsBefore lines
BoardsBefore (line.Pulse s tick up ∷ lines) = BoardsBefore lines
BoardsBefore (line.Cut i ∷ lines) = BoardsBefore lines
BoardsBefore (line.End ∷ lines) = BoardsBefore lines

-- further clock lines of so many boards
abbrev pub AreAmong : ℕ → List Further → Type 0
AreAmong n [] = Unit {0}
AreAmong n (f ∷ fs) = (f.board < n) × AreAmong n fs

-- what is left to be told of a board's lines
record IsLeft (lines now : List Clocks) (fs : List Further) (b : ℕ) : Type 0 where
  done : List Held
  rest : List Held
  now_is : clocks_at now b ≡ clocks_of (clocks_at lines b).first done
  are : (clocks_at lines b).held ≡ done ++ rest
  left : of_board b fs ≡ held_told b rest

-- one more of them is told
record Tells (m : Machine) (lines now : List Clocks) (fs : List Further) (b turn tick from : ℕ) : Type 0 where
  may : may_hold (clocks_at now b) from (told_line m b turn tick) ≡ true
  left : IsLeft lines (set now b (added_where (clocks_at now b) from (told_line m b turn tick))) fs b

tells-one : (m : Machine) (lines now : List Clocks) (fs : List Further) (b turn tick from : ℕ) → b < length now → HoldWell m b (clocks_at lines b).first (clocks_at lines b).held → IsLeft lines now (record { board = b; turn = turn; tick = tick; from = from } ∷ fs) b → Tells m lines now fs b turn tick from
tells-one m lines now fs b turn tick from inside ok l =
    let f : Further = record { board = b; turn = turn; tick = tick; from = from } in
    let self : (b == b) ≡ true = is_equal b b refl in
    let own : f ∷ of_board b fs ≡ held_told b l.rest = ap (λ (t : Bool). if t then f ∷ of_board b fs else of_board b fs) (sym self) ∙ l.left in
    by l.rest l.are own
  where
    by : (rest : List Held) → (clocks_at lines b).held ≡ l.done ++ rest → (record { board = b; turn = turn; tick = tick; from = from } ∷ of_board b fs) ≡ held_told b rest → Tells m lines now fs b turn tick from
    by [] are own = absurd (let x : record { board = b; turn = turn; tick = tick; from = from } ∷ of_board b fs ≡ [] = own in cc)
    by (h ∷ rest) are own =
        let first = (clocks_at lines b).first in
        let f : Further = record { board = b; turn = turn; tick = tick; from = from } in
        let one : Further = record { board = b; turn = h.line.at / turn_ns; tick = h.line.clock; from = h.from } in
        let x : f ∷ of_board b fs ≡ one ∷ held_told b rest = own in
        let is : f ≡ one = cc in
        let left : of_board b fs ≡ held_told b rest = cc in
        let ok' : HoldWell m b first (l.done ++ h ∷ rest) = subst (λ (z : List Held). HoldWell m b first z) are ok in
        let here : clocks_at now b ≡ clocks_of first l.done = l.now_is in
        let grown : added_where (clocks_at now b) from (told_line m b turn tick) ≡ clocks_of first (l.done ++ h ∷ []) =
        ap (λ (c : Clocks). added_where c from (told_line m b turn tick)) here ∙ (ap (λ (z : Further). added_where (clocks_of first l.done) z.from (told_line m b z.turn z.tick)) is ∙ told-added m b first l.done h rest ok') in
        record {
          may = ap (λ (c : Clocks). may_hold c from (told_line m b turn tick)) here ∙ (ap (λ (z : Further). may_hold (clocks_of first l.done) z.from (told_line m b z.turn z.tick)) is ∙ told-may m b first l.done h rest ok');
          left = record {
            done = l.done ++ h ∷ [];
            rest = rest;
            now_is = get_or-set_same now b (added_where (clocks_at now b) from (told_line m b turn tick)) _ inside ∙ grown;
            are = are ∙ sym (append_assoc l.done (h ∷ []) rest);
            left = left;
          };
        }

-- the lines of the other boards stay
left-other : (lines now : List Clocks) (fs : List Further) (b k : ℕ) (f : Further) (c : Clocks) → f.board ≡ b → (k ≡ b → ⊥) → IsLeft lines now (f ∷ fs) k → IsLeft lines (set now b c) fs k
left-other lines now fs b k f c same other l = search (rules, eqb_tells, get_or-set_other)

either : (a b : ℕ) {P : Type 0} → (a ≡ b → P) → ((a ≡ b → ⊥) → P) → P
either a b f g = elim (eqb_tells a b) [ inl p ↦ f p.1 | inr p ↦ g p.1 ]

-- behind the boards' lines each further one may stand
stand-behind : (m : Machine) (lines now : List Clocks) (ls before : List LogLine) → NoneBoards ls → told_clocks m before ≡ now → length now ≡ length lines → ((b : ℕ) → b < length lines → HoldWell m b (clocks_at lines b).first (clocks_at lines b).held) → ((b : ℕ) → b < length lines → IsLeft lines now (further_told ls) b) → AreAmong (length lines) (further_told ls)
    → AllMayStand m before ls
stand-behind m lines now [] before none is long ok left among = tt
stand-behind m lines now (line.Note ∷ ls) before none is long ok left among = (tt, stand-behind m lines now ls (line.Note ∷ before) none is long ok left among)
stand-behind m lines now (line.Board b turn tick ∷ ls) before none is long ok left among = absurd none
stand-behind m lines now (line.Section i turn kind ∷ ls) before none is long ok left among = (tt, stand-behind m lines now ls (line.Section i turn kind ∷ before) none is long ok left among)
stand-behind m lines now (line.Pulse s tick up ∷ ls) before none is long ok left among = (tt, stand-behind m lines now ls (line.Pulse s tick up ∷ before) none is long ok left among)
stand-behind m lines now (line.Cut i ∷ ls) before none is long ok left among = (tt, stand-behind m lines now ls (line.Cut i ∷ before) none is long ok left among)
stand-behind m lines now (line.End ∷ ls) before none is long ok left among = (tt, stand-behind m lines now ls (line.End ∷ before) none is long ok left among)
stand-behind m lines now (line.Line b turn tick from ∷ ls) before none is long ok left among =
    let fs = further_told ls in
    let f : Further = record { board = b; turn = turn; tick = tick; from = from } in
    let there = among.0 in
    let inside : b < length now = omega (arith, there, long) in
    let one = tells-one m lines now fs b turn tick from inside (ok b there) (left b there) in
    let c = added_where (clocks_at now b) from (told_line m b turn tick) in
    let next = set now b c in
    let count : length next ≡ length now = length-set now b c in
    let grown : told_clocks m (line.Line b turn tick from ∷ before) ≡ next = ap (λ (z : List Clocks). set z b (added_where (clocks_at z b) from (told_line m b turn tick))) is in
    let stands : may_follow m (told_clocks m before) b turn tick from ≡ true = ap (λ (z : List Clocks). may_follow m z b turn tick from) is ∙ and_from (nat_lt b (length now)) (may_hold (clocks_at now b) from (told_line m b turn tick)) (is_less b (length now) inside) one.may in (
      stands,
      stand-behind m lines next ls (line.Line b turn tick from ∷ before) none grown (count ∙ long) ok
          (λ k low. either k b {P = IsLeft lines next fs k} (λ same. subst (λ (n : ℕ). IsLeft lines next fs n) (sym same) one.left) (λ other. left-other lines now fs b k f c refl other (left k low))) among.1,
    )

-- the first line of a board alone
abbrev pub alone : Clocks → Clocks
alone c = one_line c.first

none-more : (m : Machine) (ls before : List LogLine) → NoneBoards ls → clocks m [] (onto ls before) ≡ clocks m [] before
none-more m [] before none = refl
none-more m (line.Note ∷ ls) before none = none-more m ls (line.Note ∷ before) none
none-more m (line.Board b turn tick ∷ ls) before none = absurd none
none-more m (line.Line b turn tick from ∷ ls) before none = none-more m ls (line.Line b turn tick from ∷ before) none
none-more m (line.Section i turn kind ∷ ls) before none = none-more m ls (line.Section i turn kind ∷ before) none
none-more m (line.Pulse s tick up ∷ ls) before none = none-more m ls (line.Pulse s tick up ∷ before) none
none-more m (line.Cut i ∷ ls) before none = none-more m ls (line.Cut i ∷ before) none
none-more m (line.End ∷ ls) before none = none-more m ls (line.End ∷ before) none

-- Lines of a log whose boards' lines tell the boards' first clock lines, and whose further ones tell the others of each board, in order
-- and behind all boards' lines, may stand as they do.
pub record TellLines (m : Machine) (lines : List Clocks) (ls before : List LogLine) : Type 0 where
  pub firsts : clocks m [] (onto ls before) ≡ map alone lines
  pub order : BoardsBefore ls
  pub well : (b : ℕ) → b < length lines → HoldWell m b (clocks_at lines b).first (clocks_at lines b).held
  pub furthers : (b : ℕ) → b < length lines → of_board b (further_told ls) ≡ held_told b (clocks_at lines b).held
  pub among : AreAmong (length lines) (further_told ls)

begin-behind : (m : Machine) (lines : List Clocks) (b turn tick from : ℕ) (ls before : List LogLine) → told_clocks m before ≡ clocks m [] before → TellLines m lines (line.Line b turn tick from ∷ ls) before → AllMayStand m before (line.Line b turn tick from ∷ ls)
begin-behind m lines b turn tick from ls before is t =
    let all = line.Line b turn tick from ∷ ls in
    let now : told_clocks m before ≡ map alone lines = is ∙ sym (none-more m all before t.order) ∙ t.firsts in
    stand-behind m lines (map alone lines) all before t.order now (length-map lines alone) t.well
    (λ k low. record { done = []; rest = (clocks_at lines k).held; now_is = get_or-map alone lines k _ _ low; are = refl; left = t.furthers k low }) t.among

pub all-stand : (m : Machine) (lines : List Clocks) (ls before : List LogLine) → told_clocks m before ≡ clocks m [] before → TellLines m lines ls before → AllMayStand m before ls
all-stand m lines [] before is t = tt
all-stand m lines (line.Note ∷ ls) before is t = (tt, all-stand m lines ls (line.Note ∷ before) is (record { firsts = t.firsts; order = t.order; well = t.well; furthers = t.furthers; among = t.among }))
all-stand m lines (line.Board b turn tick ∷ ls) before is t =
    (tt, all-stand m lines ls (line.Board b turn tick ∷ before) (ap (λ (z : List Clocks). z ++ one_line (told_line m b turn tick) ∷ []) is) (record { firsts = t.firsts; order = t.order; well = t.well; furthers = t.furthers; among = t.among }))
all-stand m lines (line.Line b turn tick from ∷ ls) before is t = begin-behind m lines b turn tick from ls before is t
all-stand m lines (line.Section i turn kind ∷ ls) before is t = (tt, all-stand m lines ls (line.Section i turn kind ∷ before) is (record { firsts = t.firsts; order = t.order; well = t.well; furthers = t.furthers; among = t.among }))
all-stand m lines (line.Pulse s tick up ∷ ls) before is t = (tt, all-stand m lines ls (line.Pulse s tick up ∷ before) is (record { firsts = t.firsts; order = t.order; well = t.well; furthers = t.furthers; among = t.among }))
all-stand m lines (line.Cut i ∷ ls) before is t = (tt, all-stand m lines ls (line.Cut i ∷ before) is (record { firsts = t.firsts; order = t.order; well = t.well; furthers = t.furthers; among = t.among }))
all-stand m lines (line.End ∷ ls) before is t = (tt, all-stand m lines ls (line.End ∷ before) is (record { firsts = t.firsts; order = t.order; well = t.well; furthers = t.furthers; among = t.among }))
