-- What a run that shows all its lines tells of its boards' clock lines.
use Rattle.std.proofs.Common.{◌≡◌, ◌∙◌, ℕ, zero, suc, ◌+◌, ◌-◌, ◌*◌, ◌^◌, ◌<◌, ◌≤◌, true, All, List, [], ◌∷◌, ◌++◌, length, map, ap, sym, refl, subst, arith, append_assoc, length-append, rules}
use Rattle.std.specs.Prelude.{min}
use Rattle.std.proofs.Math.Nat.{mul-mod_left}
use Rattle.std.proofs.Math.Seq.{get_or-append_seam}
use Rattle.laws_board.proofs.Names.{length-map, Machine, Held, Line, Move, Planned, tick, turn_ns, Clocks, lines_tick, one_line, IsValidMachine, board_at, stepper_at, clocks_at, stepper_plan, AreKept, ReportLine}
use Rattle.plan_types.specs.Lines.{AreHeld, IsFit, last_from, tick_over}
use Rattle.plan_types.specs.Sections.{segment_of, timed_moves}
use Rattle.plan_types.specs.Speeds.{greatest_speeds}
use Rattle.section_plan.specs.Runs.{IsShortMove, move_ns}
use Rattle.section_stream.proofs.Speeds.{joined-at, length-greatest}
use Rattle.section_feed.specs.Boards.{IsLasting}
use Rattle.section_feed.proofs.Lasts.{lines-small, tick-small}
use Rattle.motion_work.specs.Seen.{AreBoardClocks}
use Rattle.motion_stream.proofs.Bounding.{moves_few, planned_within}
use Rattle.report_text.specs.declared.line.ReportLine.TheVariants as report
use Rattle.board_asking.specs.Connecting.{turn_tick}
use Rattle.log_check.specs.declared.further.Further.{Further}
use Rattle.log_check.specs.Behind.{clocks, told_line}
use Rattle.log_check.specs.Faults.{have_room}
use Rattle.laws_report.specs.logs.Follows.{in_order}
use Rattle.laws_report.specs.reports.Further.{further_told}
use Rattle.laws_report.specs.reports.Logged.{logged}
use Rattle.laws_report.specs.reports.Retold.{HaveLines, all_retold, retold}
use Rattle.laws_report.specs.reports.Through.{AreHeads}
use Rattle.laws_report.proofs.reports.Retelling.{retold-at}
use Rattle.laws_report.proofs.reports.Roomy.{AllSlow, IsSlow, all-roomy, board-far, lines-slow, roomy, tick-far}
use Rattle.laws_report.proofs.reports.Shortening.{AreShownShort, IsShown, shown-short}
use Rattle.laws_report.proofs.reports.Telling.{AllSmall, alone, held_told, keeps-low}
use Rattle.laws_run.specs.run_ends.Boards.{boards_of, lines_at}
use Rattle.laws_run.specs.run_headline.Further.{AreNamed, BoardsFirst, TellsFurther}
use Rattle.laws_run.specs.run_headline.Timely.{AreSound}
use Rattle.laws_run.specs.run_lines.Due.{BoardsHave}
use Rattle.laws_run.specs.run_limits.Limits.{AreLow, greatest_tick, start_limit}
use Rattle.laws_report.proofs.reports.Clocked.{clocks-append, clocks-further, clocks-note}
use Rattle.laws_report.proofs.reports.Further.{EachFurther, HaveTurns, IsLongFurther, IsLowFurther, all_furthers, boards_before, low_furthers, named, none_boards, own_furthers, told_furthers, least}

-- a board's clock line, among those of all boards
line_here : (past cs all : List Clocks) (c : Clocks) (b : ℕ) → all ≡ past ++ c ∷ cs → b ≡ length past → clocks_at all b ≡ c
line_here past cs all c b are at = ap (λ (l : List Clocks). clocks_at l b) are ∙ ap (clocks_at (past ++ c ∷ cs)) at ∙ get_or-append_seam past c cs (one_line (record { at = 0; clock = 0; freq = 0 }))

pub record IsHere (m : Machine) (c : Clocks) (b : ℕ) : Type 0 where
  pub inside : b < length m.boards
  pub freq : c.first.freq ≡ (board_at m b).freq

pub here_at : (m : Machine) (past cs all : List Clocks) (c : Clocks) (b ready : ℕ) → AreBoardClocks m all ready → all ≡ past ++ c ∷ cs → b ≡ length past → IsHere m c b
here_at m past cs all c b ready sound are at = search (rules, length-append, line_here)

-- the boards' lines tell the first ones
abbrev HasTick : ℕ → Clocks → Type 0
HasTick ready c = tick c.first (ready * turn_ns) < 2 ^ 64

abbrev HaveTicks : ℕ → List Clocks → Type 0
HaveTicks ready [] = Unit {0}
HaveTicks ready (c ∷ cs) = HasTick ready c × HaveTicks ready cs

clocks_told : (m : Machine) (all : List Clocks) (ready : ℕ) (past cs : List Clocks) (b : ℕ) (lines : List ReportLine) → AreBoardClocks m all ready → all ≡ past ++ cs → b ≡ length past → AreHeads b lines → boards_of lines ≡ lines_at ready b cs → HaveTicks ready cs
    → clocks m [] (in_order (map logged lines)) ≡ map alone (all_retold ready cs)
clocks_told m all ready past [] b [] sound are at heads boards ticks = refl
clocks_told m all ready past (c ∷ cs) b [] sound are at heads boards ticks = absurd (let e : [] ≡ report.Board b c.first.freq ready (turn_tick c.first ready) ∷ lines_at ready (b + 1) cs = boards in cc)
clocks_told m all ready past cs b (report.Machine corexy many others ∷ lines) sound are at heads boards ticks = clocks-note m (in_order (map logged lines)) ∙ clocks_told m all ready past cs b lines sound are at heads boards ticks
clocks_told m all ready past [] b (report.Board board freq turn tick ∷ lines) sound are at heads boards ticks = absurd (let e : report.Board board freq turn tick ∷ boards_of lines ≡ [] = boards in cc)
clocks_told m all ready past (c ∷ cs) b (report.Board board freq turn tick ∷ lines) sound are at heads boards ticks =
    let e : report.Board board freq turn tick ∷ boards_of lines ≡ report.Board b c.first.freq ready (turn_tick c.first ready) ∷ lines_at ready (b + 1) cs = boards in
    let same : board ≡ b = cc in
    let when : turn ≡ ready = cc in
    let told : tick ≡ turn_tick c.first ready = cc in
    let rest : boards_of lines ≡ lines_at ready (b + 1) cs = cc in
    let here = here_at m past cs all c b ready sound are at in
    let size = length-append past (c ∷ []) in
    let low = ticks.0 in
    let now : tick ≡ Rattle.plan_types.specs.Clock.tick c.first (ready * turn_ns) = told ∙ least (Rattle.plan_types.specs.Clock.tick c.first (ready * turn_ns)) low in
    let freq_is : (board_at m board).freq ≡ c.first.freq = ap (λ (n : ℕ). (board_at m n).freq) same ∙ sym here.freq in
    let line_is : one_line (told_line m board turn tick) ≡ alone (retold ready c) =
    ap (λ (n : ℕ). one_line (told_line m board n tick)) when ∙ ap (λ (n : ℕ). one_line (told_line m board ready n)) now
    ∙ ap (λ (n : ℕ). one_line (record { at = ready * turn_ns; clock = Rattle.plan_types.specs.Clock.tick c.first (ready * turn_ns); freq = n })) freq_is in
    let later = clocks_told m all ready (past ++ c ∷ []) cs (b + 1) lines sound (are ∙ sym (append_assoc past (c ∷ []) cs)) (omega (arith, at, size)) heads.1 rest ticks.1 in
    clocks-append m (in_order (map logged lines)) board turn tick ∙ ap (λ (l : Clocks). l ∷ clocks m [] (in_order (map logged lines))) line_is ∙ ap (λ (l : List Clocks). alone (retold ready c) ∷ l) later
clocks_told m all ready past cs b (report.Section i turn kind ∷ lines) sound are at heads boards ticks = absurd heads
clocks_told m all ready past cs b (report.Pulse board stepper tick up ∷ lines) sound are at heads boards ticks = absurd heads
clocks_told m all ready past cs b (report.Cut i board pin tick from ∷ lines) sound are at heads boards ticks = absurd heads
clocks_told m all ready past cs b (report.Drift board sent clock from ∷ lines) sound are at heads boards ticks = clocks-further m (in_order (map logged lines)) board sent clock from ∙ clocks_told m all ready past cs b lines sound are at heads boards ticks
clocks_told m all ready past cs b (report.Lines accepted passed ∷ lines) sound are at heads boards ticks = clocks-note m (in_order (map logged lines)) ∙ clocks_told m all ready past cs b lines sound are at heads boards ticks
clocks_told m all ready past cs b (report.Out board pin tick on ∷ lines) sound are at heads boards ticks = absurd heads
clocks_told m all ready past cs b (report.Made seed many ∷ lines) sound are at heads boards ticks = absurd heads
clocks_told m all ready past cs b (report.Count stepper pulses ∷ lines) sound are at heads boards ticks = absurd heads
clocks_told m all ready past cs b (report.Fit section stepper pulses planned early late ∷ lines) sound are at heads boards ticks = absurd heads
clocks_told m all ready past cs b (report.End c ∷ lines) sound are at heads boards ticks = absurd heads

-- the boards' lines keep the limits of a run, where all do
boards_low : (lines : List ReportLine) → AreLow lines → AreLow (boards_of lines)
boards_low [] low = tt
boards_low (report.Machine corexy boards steppers ∷ lines) low = boards_low lines low.1
boards_low (report.Board board freq turn tick ∷ lines) low = (low.0, boards_low lines low.1)
boards_low (report.Section i turn kind ∷ lines) low = boards_low lines low.1
boards_low (report.Pulse board stepper tick up ∷ lines) low = boards_low lines low.1
boards_low (report.Cut i board pin tick from ∷ lines) low = boards_low lines low.1
boards_low (report.Drift board sent clock from ∷ lines) low = boards_low lines low.1
boards_low (report.Lines accepted passed ∷ lines) low = boards_low lines low.1
boards_low (report.Out board pin tick on ∷ lines) low = boards_low lines low.1
boards_low (report.Made seed moves ∷ lines) low = boards_low lines low.1
boards_low (report.Count stepper pulses ∷ lines) low = boards_low lines low.1
boards_low (report.Fit section stepper pulses planned early late ∷ lines) low = boards_low lines low.1
boards_low (report.End c ∷ lines) low = boards_low lines low.1

-- the ticks that the boards' lines tell
pub record IsTimed (clocks : List Clocks) (ready i : ℕ) : Type 0 where
  pub early : ready < start_limit
  pub low : tick (clocks_at clocks i).first (ready * turn_ns) ≤ greatest_tick ready

uncapped : (n most : ℕ) → min n (2 ^ 64 - 1) ≤ most → most < 2 ^ 63 → n ≤ most
uncapped n most low small = omega (arith, low, small)

timed_at : (ready b : ℕ) (clocks : List Clocks) (i : ℕ) → AreLow (lines_at ready b clocks) → i < length clocks → IsTimed clocks ready i
timed_at ready b [] i low lt = absurd (omega (arith, lt))
timed_at ready b (c ∷ clocks) zero low lt =
    let early = low.0.0 in
    let at : turn_tick c.first ready ≤ greatest_tick ready = low.0.1 in
    record { early = early; low = uncapped (tick c.first (ready * turn_ns)) (greatest_tick ready) at (omega (arith, early)) }
timed_at ready b (c ∷ clocks) (suc i) low lt = (let later = timed_at ready (b + 1) clocks i low.1 (omega (arith, lt)) in record { early = later.early; low = later.low })

pub told_timed : (m : Machine) (all : List Clocks) (ready : ℕ) (said : List ReportLine) → length all ≡ length m.boards → BoardsHave all ready said → AreLow said → (b : ℕ) → b < length m.boards → IsTimed all ready b
told_timed m all ready said count boards low b h = timed_at ready 0 all b (subst AreLow boards (boards_low said low)) (omega (arith, h, count))

list_ticks : (all past cs : List Clocks) (ready n : ℕ) → all ≡ past ++ cs → length all ≡ n → ((b : ℕ) → b < n → tick (clocks_at all b).first (ready * turn_ns) ≤ greatest_tick ready) → ready < 2 ^ 43 → HaveTicks ready cs
list_ticks all past [] ready n are count timed soon = tt
list_ticks all past (c ∷ cs) ready n are count timed soon =
    let is = line_here past cs all c (length past) are refl in
    let many = ap length are in
    let size = length-append past (c ∷ cs) in
    let here : tick c.first (ready * turn_ns) ≤ greatest_tick ready = subst (λ (x : Clocks). tick x.first (ready * turn_ns) ≤ greatest_tick ready) is (timed (length past) (omega (arith, many, size, count))) in
    (omega (arith, here, soon), list_ticks all (past ++ c ∷ []) cs ready n (are ∙ sym (append_assoc past (c ∷ []) cs)) count timed soon)

-- the further lines of a board that last keep small ticks
small_from : (c : Clocks) (done rest : List Held) → IsLasting c → AreKept c → c.held ≡ done ++ rest → AllSmall rest
small_from c done [] lasting kept e = tt
small_from c done (h ∷ rest) lasting kept e =
    let are : AreHeld c.first c.first 0 0 (done ++ h ∷ rest) = subst (λ (x : List Held). AreHeld c.first c.first 0 0 x) e kept.held in
    let k = keeps-low c.first c.first 0 0 done h rest are in
    let soon = lasting.soon in
    let last : last_from 0 c.held ≡ last_from 0 (done ++ h ∷ rest) = ap (last_from 0) e in
    let from = k.soon in
    let early : h.from < 2 ^ 44 * turn_ns = omega (arith, soon, last, from) in
    let lines = lines-small c h.from lasting early in
    let same : lines_tick c h.from ≡ tick_over c.first 0 (done ++ h ∷ rest) h.from = ap (λ (x : List Held). tick_over c.first 0 x h.from) e in
    let own = tick-small c h.from lasting early in
    let most = k.most_low in
    let start = k.start_low in
    let plan = k.plan in
    (omega (arith, lines, same, most), omega (arith, lines, same, start), omega (arith, own, plan), small_from c (done ++ h ∷ []) rest lasting kept (e ∙ sym (append_assoc done (h ∷ []) rest)))

-- and hold soon, with small clocks
abbrev pub AreEarly : Line → List Held → Type 0
AreEarly first [] = Unit {0}
AreEarly first (h ∷ held) = (h.from < 2 ^ 44 * turn_ns) × IsFit first h.line h.from × (h.line.clock < 2 ^ 64) × AreEarly first held

pub early_from : (c : Clocks) (done rest : List Held) → IsLasting c → AreKept c → c.held ≡ done ++ rest → AreEarly c.first rest
early_from c done [] lasting kept e = tt
early_from c done (h ∷ rest) lasting kept e =
    let are : AreHeld c.first c.first 0 0 (done ++ h ∷ rest) = subst (λ (x : List Held). AreHeld c.first c.first 0 0 x) e kept.held in
    let k = keeps-low c.first c.first 0 0 done h rest are in
    let soon = lasting.soon in
    let last : last_from 0 c.held ≡ last_from 0 (done ++ h ∷ rest) = ap (last_from 0) e in
    let from = k.soon in
    let early : h.from < 2 ^ 44 * turn_ns = omega (arith, soon, last, from) in
    let small = (small_from c done (h ∷ rest) lasting kept e).1 in
    let start = k.start in
    (early, k.fit, omega (arith, small, start), early_from c (done ++ h ∷ []) rest lasting kept (e ∙ sym (append_assoc done (h ∷ []) rest)))

pub early_first : (first : Line) (told rest : List Held) → AreEarly first (told ++ rest) → AreEarly first told
early_first first [] rest early = tt
early_first first (h ∷ told) rest early = (early.0, early.1, early.2, early_first first told rest early.3)

pub early_turns : (first : Line) (held : List Held) → AreEarly first held → HaveTurns held
early_turns first [] early = tt
early_turns first (h ∷ held) early =
    let soon = early.0 in
    let before = early.1.before in
    (omega (arith, soon, before), early_turns first held early.3)

early_long : (first : Line) (b : ℕ) (held : List Held) → AreEarly first held → EachFurther IsLongFurther (held_told b held)
early_long first b [] early = tt
early_long first b (h ∷ held) early =
    let soon = early.0 in
    let before = early.1.before in
    ((omega (arith, soon, before), early.2, omega (arith, soon)), early_long first b held early.3)

early_slow : (first : Line) (b : ℕ) (held : List Held) → first.freq ≤ 200_000_000 → AreEarly first held → EachFurther IsLowFurther (held_told b held) → AllSlow held
early_slow first b [] high early low = tt
early_slow first b (h ∷ held) high early low =
    let soon = early.0 in
    let fit = early.1 in
    let before = fit.before in
    let same = fit.same_freq in (
      record { freq = omega (arith, same, high); whole = fit.whole_turn; early = omega (arith, soon, before); clock = low.0 },
      before,
      soon,
      early_slow first b held high early.3 low.1,
    )

-- lines of a board that are no faster than its clock may be
record IsSlowAt (lines : List Clocks) (ready b : ℕ) : Type 0 where
  first_slow : IsSlow (clocks_at lines b).first
  held_slow : AllSlow (clocks_at lines b).held
  begun : (clocks_at lines b).first.at ≤ ready * turn_ns

module _ (m : Machine) (all : List Clocks) (ready last : ℕ) (head body said : List ReportLine) (are : said ≡ head ++ body) (heads : AreHeads 0 head) (head_told : BoardsHave all ready head) (body_none : boards_of body ≡ []) (sound : AreSound m all ready)
    (names : AreNamed m said) (timed : (b : ℕ) → b < length m.boards → tick (clocks_at all b).first (ready * turn_ns) ≤ greatest_tick ready) (soon : ready < 2 ^ 43) (first : BoardsFirst said) (further : (b : ℕ) → b < length m.boards → TellsFurther b (clocks_at all b).held last said) where
  clock_small : (b : ℕ) → b < length m.boards → (clocks_at all b).first.clock < 2 ^ 62
  clock_small b h = let most = timed b h in omega (arith, most, soon)

  lasting : (b : ℕ) → b < length m.boards → IsLasting (clocks_at all b)
  lasting b h = sound.clocks_are.lasting b h (clock_small b h)

  early : (b : ℕ) (h : b < length m.boards) → AreEarly (clocks_at all b).first (further b h).told
  early b h =
      let f = further b h in
      let all_early = early_from (clocks_at all b) [] (f.told ++ f.rest) (lasting b h) (sound.kept b h) f.are in
      early_first (clocks_at all b).first f.told f.rest all_early

  shown : (b : ℕ) → b < length m.boards → IsShown all (further_told (map logged said)) last b
  shown b h =
      let f = further b h in
      record {
        told = f.told;
        rest = f.rest;
        are = f.are;
        told_is = told_furthers b f.told said (early_turns (clocks_at all b).first f.told (early b h)) f.lines_are;
        behind = f.later;
      }

  have : HaveLines m all ready
  have =
      let c = sound.clocks_are in
      record { boards = c.count; kept = sound.kept; behind = sound.behind; freq = c.freq; before = c.before; soon = sound.small }

  pub shorts : AreShownShort m all ready last head said
  shorts =
      shown-short m all ready last head body said have (λ b h. small_from (clocks_at all b) [] (clocks_at all b).held (lasting b h) (sound.kept b h) refl) are heads
      (none_boards body body_none) (boards_before said first) (clocks_told m all ready [] all 0 head sound.clocks_are refl refl heads head_told (list_ticks all [] all ready (length m.boards) refl sound.clocks_are.count timed soon)) shown (named m said names)

  -- the numbers of the further lines have 64 bits
  pub longs : EachFurther IsLongFurther (further_told (map logged said))
  unfolding shown
  longs = all_furthers IsLongFurther (length m.boards) (further_told (map logged said)) (λ b h.
      subst (λ (fs : List Further). EachFurther IsLongFurther fs) (sym (shown b h).told_is) (early_long (clocks_at all b).first b (further b h).told (early b h))) (named m said names)

  module _ (low : AreLow said) where
    -- the lines that are told are no faster than their boards' clocks may be
    slow_at : (b : ℕ) → b < length m.boards → IsSlowAt (all_retold ready shorts.short) ready b
    slow_at b h =
        let own = retold-at m shorts.short ready b shorts.have h in
        let s = shorts.each b h in
        let high = (sound.clocks_are.valid b h).freq_high in
        let most = timed b h in
        let c = clocks_at all b in
        let kept_early = early_from c [] (s.shown.told ++ s.shown.rest) (lasting b h) (sound.kept b h) s.shown.are in
        let lows = subst (λ (fs : List Further). EachFurther IsLowFurther fs) s.shown.told_is (own_furthers IsLowFurther b (further_told (map logged said)) (low_furthers said low)) in
        let held : AllSlow s.shown.told = early_slow c.first b s.shown.told high (early_first c.first s.shown.told s.shown.rest kept_early) lows in
        let first : IsSlow (retold ready c).first = record { freq = high; whole = mul-mod_left ready 1_000_000; early = omega (arith, soon); clock = omega (arith, most) } in
        let first' : IsSlow (retold ready (clocks_at shorts.short b)).first = subst (λ (x : Clocks). IsSlow (retold ready x).first) (sym s.is) first in
        let held' : AllSlow (clocks_at shorts.short b).held = subst (λ (x : Clocks). AllSlow x.held) (sym s.is) held in
        record {
          first_slow = subst (λ (x : Clocks). IsSlow x.first) (sym own) first';
          held_slow = subst (λ (x : Clocks). AllSlow x.held) (sym own) held';
          begun = subst (λ (x : Clocks). x.first.at ≤ ready * turn_ns) (sym own) (omega arith);
        }

    -- so there are ticks for a section
    pub rooms_at : (n turn : ℕ) → ready ≤ turn → turn < start_limit → n ≤ 2_000_000 → have_room (all_retold ready shorts.short) n turn ≡ true
    rooms_at n turn late soon few = search (rules, length-map, all-roomy, slow_at, roomy, clocks_at)

    -- and the planned steps have ticks of 64 bits
    pub steps_at : (moves : List Move) (turn s : ℕ) → IsValidMachine m → ready ≤ turn → turn < start_limit → All IsShortMove moves → length moves ≤ 2_000_000 → s < length m.steppers → All (λ (q : Planned). q.tick ≤ 2 ^ 64 - 1) (stepper_plan m (all_retold ready shorts.short) moves turn s)
    steps_at moves turn s valid late soon short few inside =
        let def = stepper_at m s in
        let ok = valid.steppers s inside in
        let own = clocks_at (all_retold ready shorts.short) def.board in
        let slow = slow_at def.board ok.board in
        let begun = slow.begun in
        let at : own.first.at ≤ turn * turn_ns = omega (arith, begun, late) in
        let line = own.first in
        let n = length moves in
        let top = tick line (turn * turn_ns + n * move_ns) in
        let far : top ≤ 2 ^ 63 = tick-far line turn n slow.first_slow at (omega (arith, soon)) few in
        let segments = timed_moves m.cruise moves (greatest_speeds moves m.scv) (turn * turn_ns) in
        let made = moves_few def.gear line.freq m.corexy def.drive line m.cruise top moves (greatest_speeds moves m.scv) (turn * turn_ns) ok.gear ok.drive valid.cruise short (length-greatest moves m.scv) (λ i lt. joined-at moves m.scv i lt) (omega arith) in
        let raw = made.few in
        let base = lines-slow own (turn * turn_ns) slow.first_slow slow.held_slow at in
        planned_within def.gear own (map (segment_of m.corexy def.drive line) segments) line.clock (lines_tick own (turn * turn_ns)) top (2 ^ 62 + top) (2 ^ 64 - 1)
        (λ k le. (let b = board-far own k slow.first_slow slow.held_slow in omega (arith, b, le))) (omega (arith, base, soon)) made.within (omega (arith, raw, few, far))
