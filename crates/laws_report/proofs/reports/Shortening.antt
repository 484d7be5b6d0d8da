-- A report that tells the first ones of the boards' further clock lines.
use Rattle.std.proofs.Common.{◌≡◌, ◌∙◌, ℕ, ◌+◌, ◌*◌, ◌<◌, ◌≤◌, List, [], ◌∷◌, ◌++◌, length, map, ap, sym, refl, subst, arith, inl, inr, append-nil, length-append, rules}
use Rattle.std.specs.List.{range_with_len}
use Rattle.std.proofs.Math.ListN.{get_or-append}
use Rattle.std.proofs.Math.Seq.{get_or-append_seam}
use Rattle.std.proofs.lemmas.Bool.{cases_lt}
use Rattle.laws_board.proofs.Names.{length-map, Machine, Held, Line, turn_ns, Clocks, one_line, clocks_at, AreKept, ReportLine}
use Rattle.std.proofs.lemmas.List.{ext_get_or, get_or-map}
use Rattle.std.proofs.lemmas.List.FromFn.{get_or-map-range_with_len, length-map-range_with_len}
use Rattle.clock_line.specs.Kept.{clocks_of}
use Rattle.report_text.specs.declared.line.ReportLine.TheVariants as report
use Rattle.log_text.specs.declared.line.LogLine.{LogLine}
use Rattle.log_text.specs.declared.line.LogLine.TheVariants as line
use Rattle.log_check.specs.declared.further.Further.{Further}
use Rattle.log_check.specs.Behind.{clocks, told_line, with_further}
use Rattle.laws_report.specs.logs.Follows.{in_order}
use Rattle.laws_report.proofs.logs.Standing.{onto}
use Rattle.laws_report.specs.reports.Further.{AllMayStand, further_told}
use Rattle.laws_report.specs.reports.Logged.{logged}
use Rattle.section_feed.specs.Fewer.{AreFirstLines, HoldBehind}
use Rattle.laws_report.specs.reports.Retold.{HaveLines, all_retold, retold}
use Rattle.laws_board.specs.orders.Renewed.{NoneBefore}
use Rattle.laws_report.specs.reports.Through.{AreHeads}
use Rattle.laws_report.proofs.reports.Fewer.{kept-first}
use Rattle.laws_report.proofs.reports.Retelling.{one-of, retold-at, retold-kept}
use Rattle.laws_report.proofs.reports.Running.{map-append, onto-append, onto-in-order}
use Rattle.laws_report.proofs.reports.Telling.{AllSmall, AreAmong, BoardsBefore, HoldWell, NoneBoards, all-stand, alone, held_told, of_board, with-held}

-- a board's line stands where as many boards have told theirs
abbrev Placed : Machine → List LogLine → Type 0
Placed m [] = Unit {0}
Placed m (line.Board b turn tick ∷ lines) = (b ≡ length (clocks m [] lines)) × Placed m lines
Placed m (line.Line b turn tick from ∷ lines) = Placed m lines
Placed m (line.Section i turn kind ∷ lines) = Placed m lines
Placed m (line.Note ∷ lines) = Placed m lines
Placed m (line.Pulse s tick up ∷ lines) = Placed m lines
Placed m (line.Cut i ∷ lines) = Placed m lines
Placed m (line.End ∷ lines) = Placed m lines

heads-placed : (m : Machine) (b : ℕ) (lines : List ReportLine) (before : List LogLine) → AreHeads b lines → length (clocks m [] before) ≡ b → Placed m before → Placed m (onto (map logged lines) before)
heads-placed m b [] before are long placed = placed
heads-placed m b (report.Board board freq turn tick ∷ lines) before are long placed =
    let more = length-append (clocks m [] before) (one_line (told_line m board turn tick) ∷ []) in
    heads-placed m (b + 1) lines (line.Board board turn tick ∷ before) are.1 (more ∙ omega (arith, long)) (are.0 ∙ sym long, placed)
heads-placed m b (report.Machine corexy boards steppers ∷ lines) before are long placed = heads-placed m b lines (line.Note ∷ before) are long placed
heads-placed m b (report.Drift board sent clock from ∷ lines) before are long placed = heads-placed m b lines (line.Line board sent clock from ∷ before) are long placed
heads-placed m b (report.Lines accepted passed ∷ lines) before are long placed = heads-placed m b lines (line.Note ∷ before) are long placed
heads-placed m b (report.Section i turn kind ∷ lines) before are long placed = absurd are
heads-placed m b (report.Pulse board stepper tick up ∷ lines) before are long placed = absurd are
heads-placed m b (report.Cut i board pin tick from ∷ lines) before are long placed = absurd are
heads-placed m b (report.Out board pin tick on ∷ lines) before are long placed = absurd are
heads-placed m b (report.Made seed moves ∷ lines) before are long placed = absurd are
heads-placed m b (report.Count stepper pulses ∷ lines) before are long placed = absurd are
heads-placed m b (report.Fit section stepper pulses planned early late ∷ lines) before are long placed = absurd are
heads-placed m b (report.End c ∷ lines) before are long placed = absurd are

-- with further lines each board has its own line and those
record AreWith (m : Machine) (fs : List Further) (before : List LogLine) : Type 0 where
  long : length (clocks m fs before) ≡ length (clocks m [] before)
  each : (b : ℕ) → b < length (clocks m [] before) → clocks_at (clocks m fs before) b ≡ with_further m b fs (clocks_at (clocks m [] before) b)

are-with : (m : Machine) (fs : List Further) (before : List LogLine) → Placed m before → AreWith m fs before
are-with m fs [] placed = record { long = refl; each = λ b low. absurd (omega (arith, low)) }
are-with m fs (line.Line c turn tick from ∷ before) placed = (let h = are-with m fs before placed in record { long = h.long; each = h.each })
are-with m fs (line.Section i turn kind ∷ before) placed = (let h = are-with m fs before placed in record { long = h.long; each = h.each })
are-with m fs (line.Note ∷ before) placed = (let h = are-with m fs before placed in record { long = h.long; each = h.each })
are-with m fs (line.Pulse s tick up ∷ before) placed = (let h = are-with m fs before placed in record { long = h.long; each = h.each })
are-with m fs (line.Cut i ∷ before) placed = (let h = are-with m fs before placed in record { long = h.long; each = h.each })
are-with m fs (line.End ∷ before) placed = (let h = are-with m fs before placed in record { long = h.long; each = h.each })
are-with m fs (line.Board c turn tick ∷ before) placed =
    let h = are-with m fs before placed.1 in
    let own = one_line (told_line m c turn tick) in
    let xs = clocks m [] before in
    let ys = clocks m fs before in
    let one = length-append xs (own ∷ []) in
    let two = length-append ys (with_further m c fs own ∷ []) in
    let same = h.long in
    let place = placed.0 in
    record {
      long = omega (arith, one, two, same);
      each = λ b low. elim (cases_lt b (length xs)) as (λ _. clocks_at (ys ++ with_further m c fs own ∷ []) b ≡ with_further m b fs (clocks_at (xs ++ own ∷ []) b)) [
        | inl less ↦ (
            let left : clocks_at (ys ++ with_further m c fs own ∷ []) b ≡ clocks_at ys b = get_or-append ys (with_further m c fs own ∷ []) _ b (omega (arith, less, same)) in
            let right : clocks_at (xs ++ own ∷ []) b ≡ clocks_at xs b = get_or-append xs (own ∷ []) _ b less in
            left ∙ h.each b less ∙ ap (with_further m b fs) (sym right))
        | inr over ↦ (
            let at : b ≡ length xs = omega (arith, low, over, one) in
            let at' : b ≡ length ys = omega (arith, at, same) in
            let is : b ≡ c = at ∙ sym place in
            let left : clocks_at (ys ++ with_further m c fs own ∷ []) b ≡ with_further m c fs own = ap (clocks_at (ys ++ with_further m c fs own ∷ [])) at' ∙ get_or-append_seam ys (with_further m c fs own) [] _ in
            let right : clocks_at (xs ++ own ∷ []) b ≡ own = ap (clocks_at (xs ++ own ∷ [])) at ∙ get_or-append_seam xs own [] _ in
            left ∙ ap (λ n. with_further m n fs own) (sym is) ∙ ap (with_further m b fs) (sym right))
      ];
    }

clocks-with : (m : Machine) (fs : List Further) (before : List LogLine) (lines : List Clocks) → Placed m before → clocks m [] before ≡ map alone lines → ((b : ℕ) → b < length lines → with_further m b fs (alone (clocks_at lines b)) ≡ clocks_at lines b) → clocks m fs before ≡ lines
clocks-with m fs before lines placed firsts each =
    let h = are-with m fs before placed in
    let count : length (clocks m [] before) ≡ length lines = ap length firsts ∙ length-map lines alone in
    let same = h.long in
    ext_get_or (one_line (record { at = 0; clock = 0; freq = 0 })) (clocks m fs before) lines (omega (arith, same, count)) (λ b low. (
    let inside : b < length lines = omega (arith, low, same, count) in
    h.each b (omega (arith, low, same)) ∙ (ap (λ (cs : List Clocks). with_further m b fs (clocks_at cs b)) firsts ∙ (ap (with_further m b fs) (get_or-map alone lines b _ _ inside) ∙ each b inside))))

-- what some further clock lines show of a board's: they are the first ones, and the others hold from behind a turn on
pub record IsShown (all : List Clocks) (fs : List Further) (last b : ℕ) : Type 0 where
  pub told : List Held
  pub rest : List Held
  pub are : (clocks_at all b).held ≡ told ++ rest
  pub told_is : of_board b fs ≡ held_told b told
  pub behind : HoldBehind last rest

-- these lines of the board
record IsShort (m : Machine) (all : List Clocks) (fs : List Further) (last b : ℕ) : Type 0 where
  lines : Clocks
  is : b < length m.boards → (s : IsShown all fs last b) × (lines ≡ clocks_of (clocks_at all b).first s.told)

short-at : (m : Machine) (all : List Clocks) (fs : List Further) (last : ℕ) → ((b : ℕ) → b < length m.boards → IsShown all fs last b) → (b : ℕ) → IsShort m all fs last b
short-at m all fs last shown b = elim (cases_lt b (length m.boards)) [
  | inl h ↦ record { lines = clocks_of (clocks_at all b).first (shown b h).told; is = λ k. (shown b h, refl) }
  | inr over ↦ record { lines = clocks_at all b; is = λ k. absurd (omega (arith, over, k)) }
]

-- and of all boards
pub record AreShort (m : Machine) (all short : List Clocks) (fs : List Further) (last b : ℕ) : Type 0 where
  pub shown : IsShown all fs last b
  pub is : clocks_at short b ≡ clocks_of (clocks_at all b).first shown.told

-- A report whose boards' lines tell the beginning of a turn, and whose further clock lines show those of each board, behind the boards'
-- lines: what it tells are short lines of the boards.
pub record AreShownShort (m : Machine) (all : List Clocks) (ready last : ℕ) (head said : List ReportLine) : Type 0 where
  pub short : List Clocks
  pub each : (b : ℕ) → b < length m.boards → AreShort m all short (further_told (map logged said)) last b
  pub have : HaveLines m short ready
  pub lines_told : clocks m (further_told (map logged said)) (in_order (map logged head)) ≡ all_retold ready short
  pub may : AllMayStand m [] (map logged said)

from-first : (turn : ℕ) (told rest : List Held) → NoneBefore turn (told ++ rest) → NoneBefore turn told
from-first turn [] rest low = tt
from-first turn (h ∷ told) rest low = low

small-first : (told rest : List Held) → AllSmall (told ++ rest) → AllSmall told
small-first [] rest small = tt
small-first (h ∷ told) rest small = (small.0, small.1, small.2, small-first told rest small.3)

-- the first lines are those of all
short-kept : (c d : Clocks) (told rest : List Held) → d ≡ clocks_of c.first told → c.held ≡ told ++ rest → AreKept c → AreKept d
short-kept c d told rest is are kept = search (rules, kept-first)

short-have : (m : Machine) (all short : List Clocks) (fs : List Further) (last ready : ℕ) → HaveLines m all ready → length short ≡ length m.boards → ((b : ℕ) → b < length m.boards → AreShort m all short fs last b) → HaveLines m short ready
short-have m all short fs last ready have long each = record {
  boards = long;
  kept = λ b h. (let s = each b h in short-kept (clocks_at all b) (clocks_at short b) s.shown.told s.shown.rest s.is s.shown.are (have.kept b h));
  behind = λ b h. (let s = each b h in subst (λ (c : Clocks). NoneBefore ready c.held) (sym s.is) (from-first ready s.shown.told s.shown.rest (subst (λ (x : List Held). NoneBefore ready x) s.shown.are (have.behind b h))));
  freq = λ b h. ap (λ (c : Clocks). c.first.freq) (each b h).is ∙ have.freq b h;
  before = λ b h. subst (λ (c : Clocks). c.first.at ≤ ready * turn_ns) (sym (each b h).is) (have.before b h);
  soon = have.soon;
}

-- they may be told
short-well : (m : Machine) (all short : List Clocks) (fs : List Further) (last ready b : ℕ) → HaveLines m short ready → AllSmall (clocks_at all b).held → AreShort m all short fs last b → b < length m.boards → HoldWell m b (retold ready (clocks_at short b)).first (clocks_at short b).held
short-well m all short fs last ready b have small s h = search (rules, retold-kept, clocks_at, one-of, small-first)

-- the same first lines
retold-first : (ready : ℕ) (c d : Clocks) → c.first ≡ d.first → alone (retold ready c) ≡ alone (retold ready d)
retold-first ready c d same = ap (λ (l : Line). alone (retold ready (one_line l))) same

firsts-same : (m : Machine) (all short : List Clocks) (fs : List Further) (last ready : ℕ) → length all ≡ length m.boards → length short ≡ length m.boards → ((b : ℕ) → b < length m.boards → AreShort m all short fs last b) → map alone (all_retold ready all) ≡ map alone (all_retold ready short)
firsts-same m all short fs last ready count long each =
    let f : Clocks → Clocks = λ c. alone (retold ready c) in
    let both : (cs : List Clocks) → map alone (all_retold ready cs) ≡ map f cs = λ cs. twice cs in
    both all ∙ (ext_get_or (one_line (record { at = 0; clock = 0; freq = 0 })) (map f all) (map f short) (length-map all f ∙ count ∙ sym long ∙ sym (length-map short f)) (λ b low. (
    let size = length-map all f in
    let h : b < length m.boards = omega (arith, low, size, count) in
    get_or-map f all b _ _ (omega (arith, h, count)) ∙ retold-first ready (clocks_at all b) (clocks_at short b) (sym (ap (λ (c : Clocks). c.first) (each b h).is)) ∙ sym (get_or-map f short b _ _ (omega (arith, h, long))))) ∙ sym (both short))
  where
    twice : (cs : List Clocks) → map alone (all_retold ready cs) ≡ map (λ (c : Clocks). alone (retold ready c)) cs
    twice [] = refl
    twice (c ∷ cs) = ap (λ (l : List Clocks). alone (retold ready c) ∷ l) (twice cs)

-- no boards' lines among some change nothing
none-boards : (m : Machine) (ls before : List LogLine) → NoneBoards ls → clocks m [] (onto ls before) ≡ clocks m [] before
none-boards m [] before none = refl
none-boards m (line.Note ∷ ls) before none = none-boards m ls (line.Note ∷ before) none
none-boards m (line.Board b turn tick ∷ ls) before none = absurd none
none-boards m (line.Line b turn tick from ∷ ls) before none = none-boards m ls (line.Line b turn tick from ∷ before) none
none-boards m (line.Section i turn kind ∷ ls) before none = none-boards m ls (line.Section i turn kind ∷ before) none
none-boards m (line.Pulse s tick up ∷ ls) before none = none-boards m ls (line.Pulse s tick up ∷ before) none
none-boards m (line.Cut i ∷ ls) before none = none-boards m ls (line.Cut i ∷ before) none
none-boards m (line.End ∷ ls) before none = none-boards m ls (line.End ∷ before) none

pub shown-short : (m : Machine) (all : List Clocks) (ready last : ℕ) (head body said : List ReportLine) → HaveLines m all ready → ((b : ℕ) → b < length m.boards → AllSmall (clocks_at all b).held) → said ≡ head ++ body → AreHeads 0 head → NoneBoards (map logged body) → BoardsBefore (map logged said)
    → clocks m [] (in_order (map logged head)) ≡ map alone (all_retold ready all) → ((b : ℕ) → b < length m.boards → IsShown all (further_told (map logged said)) last b) → AreAmong (length m.boards) (further_told (map logged said)) → AreShownShort m all ready last head said
shown-short m all ready last head body said have small are heads none order firsts shown among =
    let fs = further_told (map logged said) in
    let at : ℕ → Clocks = λ b. (short-at m all fs last shown b).lines in
    let short = map at (range_with_len 0 (length m.boards)) in
    let long : length short ≡ length m.boards = length-map-range_with_len at 0 (length m.boards) in
    let each : (b : ℕ) → b < length m.boards → AreShort m all short fs last b = λ b h. (
    let s = (short-at m all fs last shown b).is h in
    record { shown = s.0; is = get_or-map-range_with_len at 0 (length m.boards) b b _ h (omega arith) ∙ s.1 }) in
    let own = short-have m all short fs last ready have long each in
    let lines = all_retold ready short in
    let many : length lines ≡ length m.boards = length-map short (retold ready) ∙ long in
    let here : (b : ℕ) → b < length lines → clocks_at lines b ≡ retold ready (clocks_at short b) = λ b low. retold-at m short ready b own (omega (arith, low, many)) in
    let well : (b : ℕ) → b < length lines → HoldWell m b (clocks_at lines b).first (clocks_at lines b).held = λ b low. (
    let h : b < length m.boards = omega (arith, low, many) in
    subst (λ (c : Clocks). HoldWell m b c.first c.held) (sym (here b low)) (short-well m all short fs last ready b own (small b h) (each b h) h)) in
    let furthers : (b : ℕ) → b < length lines → of_board b fs ≡ held_told b (clocks_at lines b).held = λ b low. (
    let s = each b (omega (arith, low, many)) in
    s.shown.told_is ∙ ap (held_told b) (sym (ap (λ (c : Clocks). c.held) (here b low) ∙ ap (λ (c : Clocks). c.held) s.is))) in
    let firsts' : clocks m [] (in_order (map logged head)) ≡ map alone lines = firsts ∙ firsts-same m all short fs last ready have.boards long each in
    let before = onto (map logged head) [] in
    let is : before ≡ in_order (map logged head) = onto-in-order (map logged head) [] ∙ append-nil (in_order (map logged head)) in
    let placed = subst (λ (x : List LogLine). Placed m x) is (heads-placed m 0 head [] heads refl tt) in
    let parted : map logged said ≡ map logged head ++ map logged body = ap (map logged) are ∙ map-append head body in
    let whole : clocks m [] (onto (map logged said) []) ≡ map alone lines =
    ap (λ (l : List LogLine). clocks m [] (onto l [])) parted ∙ (ap (clocks m []) (onto-append (map logged head) (map logged body) []) ∙ (none-boards m (map logged body) before none ∙ (ap (clocks m []) is ∙ firsts'))) in
    let among' : AreAmong (length lines) fs = subst (λ n. AreAmong n fs) (sym many) among in
    record {
      short = short;
      each = each;
      have = own;
      lines_told = clocks-with m fs (in_order (map logged head)) lines placed firsts' (λ b low. with-held m b fs (clocks_at lines b).first [] (clocks_at lines b).held (well b low) (furthers b low));
      may = all-stand m lines (map logged said) [] refl (record { firsts = whole; order = order; well = well; furthers = furthers; among = among' });
    }

-- so they are the first lines of all
pub short-lines : (m : Machine) (all short : List Clocks) (fs : List Further) (last b : ℕ) → AreShort m all short fs last b → AreFirstLines (clocks_at short b) (clocks_at all b) last
short-lines m all short fs last b s = record {
  first = ap (λ (c : Clocks). c.first) s.is;
  rest = s.shown.rest;
  are = s.shown.are ∙ ap (λ (x : List Held). x ++ s.shown.rest) (sym (ap (λ (c : Clocks). c.held) s.is));
  behind = s.shown.behind;
}
