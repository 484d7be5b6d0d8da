-- Lines of a report that go through the first sections of a text, as far as they go, follow its plan when they are read back as a log.
use Rattle.std.proofs.Common.{◌≡◌, ◌∙◌, ◌⊎◌, ℕ, suc, ◌+◌, ◌<◌, ◌≤◌, Bool, true, false, List, [], ◌∷◌, ◌++◌, length, map, ap, sym, refl, subst, arith, append_assoc, append-nil, length-append, rules}
use Rattle.std.specs.Prelude.{◌==◌, ◌&&◌, slice_index_or, if◌then◌else◌}
use Rattle.laws_board.proofs.Names.{nat_tests, Machine, Planned, Pulse, Section, SectionKind, Clocks, one_line, stepper_at, Fits, clocks_at, stepper_plan, ReportLine, and_from}
use Rattle.std.proofs.lemmas.List.FromFn.{get_or-map-range_with_len}
use Rattle.plan_types.specs.Sections.{base_tick, section_end, section_plans, is_home, first_turn}
use Rattle.report_text.specs.declared.line.ReportLine.TheVariants as report
use Rattle.log_text.specs.declared.line.LogLine.{LogLine}
use Rattle.log_text.specs.declared.line.LogLine.TheVariants as line
use Rattle.log_check.specs.declared.further.Further.{Further}
use Rattle.log_check.specs.Behind.{begun, clocks, is_cut, is_ended, pulses, section_start, told_line, with_further}
use Rattle.log_check.specs.Faults.{may_cut, ready}
use Rattle.log_check.specs.Points.{end_by, plans_by, section_at}
use Rattle.laws_report.specs.logs.Follows.{FitsHere, IsNextSection, IsWholeHere, base_at, freq_at, further_among, in_order, plan_at}
use Rattle.laws_report.proofs.logs.Following.{no-plan}
use Rattle.laws_report.proofs.logs.Standing.{onto}
use Rattle.laws_report.specs.reports.Further.{AllMayStand}
use Rattle.laws_report.specs.reports.Logged.{AreOfRun, logged}
use Rattle.laws_report.specs.reports.Through.{AreHeads}
use Rattle.laws_report.specs.reports.Within.{ready_behind}
use Rattle.laws_report.specs.reports.Shown.{pulses_before}
use Rattle.laws_report.specs.page.Log.{Follows, FollowsFront, StandsBehind, StartsOnTime, TellsPulseOf, board_turn, earliest_turn}
use Rattle.laws_report.proofs.reports.Bridging.{fits-same}
use Rattle.plan_types.proofs.Facts.{is_equal}

-- lists from their end, twice
pub in_order_append : {A : Type 0} (xs ys : List A) → in_order (xs ++ ys) ≡ in_order ys ++ in_order xs
in_order_append [] ys = sym (append-nil (in_order ys))
in_order_append (x ∷ xs) ys = ap (λ (z : List _). z ++ x ∷ []) (in_order_append xs ys) ∙ append_assoc (in_order ys) (in_order xs) (x ∷ [])

pub in_order_twice : {A : Type 0} (xs : List A) → in_order (in_order xs) ≡ xs
in_order_twice [] = refl
in_order_twice (x ∷ xs) = in_order_append (in_order xs) (x ∷ []) ∙ ap (λ (z : List _). x ∷ z) (in_order_twice xs)

-- Each line stands as it may behind those before it, and with it the pulses of every stepper in the open section fit its plan.
abbrev pub Fronted : Machine → List Section → List Further → List LogLine → Type 0
Fronted m sections fs [] = Unit {0}
Fronted m sections fs (l ∷ before) = (is_ended before ≡ false) × StandsBehind m sections fs before l × ((s : ℕ) → s < length m.steppers → FitsHere m sections fs (l ∷ before) s) × Fronted m sections fs before

fronted-behind : (m : Machine) (sections : List Section) (fs : List Further) (later before : List LogLine) → Fronted m sections fs (later ++ before) → Fronted m sections fs before
fronted-behind m sections fs [] before h = h
fronted-behind m sections fs (l ∷ later) before h = fronted-behind m sections fs later before h.3

fronted-fits : (m : Machine) (sections : List Section) (fs : List Further) (lines : List LogLine) (s : ℕ) → s < length m.steppers → Fronted m sections fs lines → FitsHere m sections fs lines s
fronted-fits m sections fs [] s inside h = tt
fronted-fits m sections fs (l ∷ lines) s inside h = h.2 s inside

pub front-follows : (m : Machine) (sections : List Section) (log : List LogLine) → Fronted m sections (further_among log) log → FollowsFront m sections log
front-follows m sections log f = search (rules, fronted-fits, fronted-behind)

-- Where the section before was not cut, the line of a section tells the turn in which it starts; and the one before is whole, where the run went through or a pulse of the board
-- stands among later lines.
abbrev WholeBefore : Type 0 → Machine → List Section → List Further → List LogLine → List LogLine → LogLine → Type 0
WholeBefore through m sections fs later before (line.Section i turn kind) =
    is_cut before ≡ false → (turn ≡ earliest_turn m sections fs before (begun before) + (section_at sections i).dwell)
    × ((s : ℕ) → s < length m.steppers → through ⊎ TellsPulseOf m (stepper_at m s).board later → IsWholeHere m sections fs before s)
WholeBefore through m sections fs later before _ = Unit {0}

-- so behind each of some lines, which others follow
abbrev pub Wholed : Type 0 → Machine → List Section → List Further → List LogLine → List LogLine → Type 0
Wholed through m sections fs later [] = Unit {0}
Wholed through m sections fs later (l ∷ before) = WholeBefore through m sections fs later before l × Wholed through m sections fs (later ++ l ∷ []) before

wholed-at : (through : Type 0) (m : Machine) (sections : List Section) (fs : List Further) (others later before : List LogLine) (l : LogLine) → Wholed through m sections fs others (later ++ l ∷ before) → WholeBefore through m sections fs (others ++ later) before l
wholed-at through m sections fs others [] before l h = subst (λ (z : List LogLine). WholeBefore through m sections fs z before l) (sym (append-nil others)) h.0
wholed-at through m sections fs others (x ∷ later) before l h = subst (λ (z : List LogLine). WholeBefore through m sections fs z before l) (append_assoc others (x ∷ []) later) (wholed-at through m sections fs (others ++ x ∷ []) later before l h.1)

-- and the last section
abbrev pub Lasted : Type 0 → Machine → List Section → List Further → List LogLine → Type 0
Lasted through m sections fs log = through → is_cut log ≡ false → (s : ℕ) → s < length m.steppers → IsWholeHere m sections fs log s

-- what lines are that follow a plan
pub record AreFronted (through : Type 0) (m : Machine) (sections : List Section) (fs : List Further) (log : List LogLine) : Type 0 where
  pub fronted : Fronted m sections fs log
  pub wholed : Wholed through m sections fs [] log
  pub lasted : Lasted through m sections fs log

-- what the line of a section behind one that was not cut says
uncut-at : (through : Type 0) (m : Machine) (sections : List Section) (log : List LogLine) → AreFronted through m sections (further_among log) log → (later lines : List LogLine) (i turn : ℕ) (kind : SectionKind) → log ≡ later ++ line.Section i turn kind ∷ lines → WholeBefore through m sections (further_among log) later lines (line.Section i turn kind)
uncut-at through m sections log f later lines i turn kind is = wholed-at through m sections (further_among log) [] later lines (line.Section i turn kind) (subst (λ (x : List LogLine). Wholed through m sections (further_among log) [] x) is f.wholed)

pub all-follows : (through : Type 0) (m : Machine) (sections : List Section) (log : List LogLine) → AreFronted through m sections (further_among log) log → Follows through m sections log
all-follows through m sections log f = record {
  front = front-follows m sections log f.fronted;
  whole = λ later lines i turn kind is uncut. (uncut-at through m sections log f later lines i turn kind is uncut).1;
  last = f.lasted;
}

-- and their sections start in their turns
pub all-start : (through : Type 0) (m : Machine) (sections : List Section) (log : List LogLine) → AreFronted through m sections (further_among log) log → (through → begun log ≡ length sections) → StartsOnTime through m sections log
all-start through m sections log f all = record { due = λ later lines i turn kind is uncut. (uncut-at through m sections log f later lines i turn kind is uncut).0; all = all }

-- the first ones of pulses that fit
fits-first : (freq base : ℕ) (ps qs : List Pulse) (plan : List Planned) → Fits freq base (ps ++ qs) plan → Fits freq base ps plan
fits-first freq base [] qs plan h = tt
fits-first freq base (p ∷ ps) qs [] h = absurd h
fits-first freq base (p ∷ ps) qs (s ∷ plan) h = (h.0, fits-first freq s.tick ps qs plan h.1)

-- a pulse that is told, or not, goes from the lines to come to those before
moved : (b : Bool) (p : Pulse) (ps others : List Pulse) → in_order (if b then p ∷ ps else ps) ++ others ≡ in_order ps ++ (if b then p ∷ others else others)
moved true p ps others = append_assoc (in_order ps) (p ∷ []) others
moved false p ps others = refl

-- and as many are told in all
counted : (b : Bool) (p : Pulse) (ps others : List Pulse) → length (if b then p ∷ ps else ps) + length others ≡ length ps + length (if b then p ∷ others else others)
counted true p ps others = omega arith
counted false p ps others = refl

ready-is : (cut : Bool) (i begin end : ℕ) → ready cut (suc i) begin end ≡ ready_behind cut begin end
ready-is true i begin end = refl
ready-is false i begin end = refl

-- A section starts in a turn behind one whose plan ends in another, and which was cut or not: no sooner than it may; and where it was not cut as many turns later as the dwells
-- before it have milliseconds.
abbrev pub StartsBehind : Bool → ℕ → ℕ → ℕ → ℕ → Type 0
StartsBehind cut turn end dwell at = (ready_behind cut turn end + dwell ≤ at) × (cut ≡ false → end + 260 + dwell ≡ at)

ready-first : (cut : Bool) (begin end : ℕ) → ready cut 0 begin end ≡ first_turn
ready-first true begin end = refl
ready-first false begin end = refl

module _ (through : Type 0) (m : Machine) (sections : List Section) (lines : List Clocks) where
  -- the pulses of a section fit its plan: those that were told, and those up to the next section
  abbrev FitWith : ℕ → ℕ → (ℕ → List Pulse) → Type 0
  FitWith i turn ps = (s : ℕ) → s < length m.steppers → Fits (clocks_at lines (stepper_at m s).board).first.freq (base_tick m lines turn s) (ps s) (stepper_plan m lines (section_at sections i).moves turn s)

  -- so many pulses of each stepper are as many as planned in a section of a number, where it was not cut, and something more holds
  abbrev IsWholeIf : ℕ → ℕ → Bool → (ℕ → ℕ) → (ℕ → Type 0) → Type 0
  IsWholeIf i turn cut total more = cut ≡ false → (s : ℕ) → s < length m.steppers → more (stepper_at m s).board → total s ≡ length (stepper_plan m lines (section_at sections i).moves turn s)

  -- Lines behind that of a section of a number, which started in a turn, was cut or not, and has so many pulses of each stepper in all: the next section
  -- is the next one of the text, in its turn; its pulses fit its plan; a cut is of the section, which homes; and sections are whole as they shall be.
  abbrev pub Goes : ℕ → ℕ → Bool → (ℕ → ℕ) → List ReportLine → Type 0
  Goes i turn cut total [] = IsWholeIf i turn cut total (λ b. through)
  Goes i turn cut total (report.Section j at kind ∷ rest) =
      (j ≡ suc i) × (suc i < length sections) × (kind ≡ (section_at sections (suc i)).kind) × StartsBehind cut turn (section_end m lines (section_at sections i).moves turn) (section_at sections (suc i)).dwell at
      × FitWith (suc i) at (λ s. pulses_before s rest) × IsWholeIf i turn cut total (λ b. through ⊎ TellsPulseOf m b (in_order (map logged rest))) × Goes (suc i) at false (λ s. length (pulses_before s rest)) rest
  Goes i turn cut total (report.Pulse board stepper tick up ∷ rest) = Goes i turn cut total rest
  Goes i turn cut total (report.Cut j board pin tick from ∷ rest) = (j ≡ i) × (is_home (section_at sections i).kind ≡ true) × Goes i turn true total rest
  Goes i turn cut total (report.Machine corexy boards steppers ∷ rest) = Goes i turn cut total rest
  Goes i turn cut total (report.Drift board sent clock from ∷ rest) = Goes i turn cut total rest
  Goes i turn cut total (report.Lines accepted passed ∷ rest) = Goes i turn cut total rest
  Goes i turn cut total (_ ∷ rest) = ⊥

  module _ (fs : List Further) (boards : length lines ≡ length m.boards) where
    -- behind some lines such a section is open
    record IsOpen (i turn : ℕ) (cut : Bool) (before : List LogLine) : Type 0 where
      fronted : Fronted m sections fs before
      going : is_ended before ≡ false
      begun_is : begun before ≡ suc i
      start_is : section_start before ≡ turn
      lines_are : clocks m fs before ≡ lines
      cut_is : is_cut before ≡ cut

    plan-is : (i turn s : ℕ) (before : List LogLine) → begun before ≡ suc i → section_start before ≡ turn → clocks m fs before ≡ lines → s < length m.steppers → plan_at m sections fs before s ≡ stepper_plan m lines (section_at sections i).moves turn s
    plan-is i turn s before b t l inside = search (rules, slice_index_or, get_or-map-range_with_len, stepper_plan)

    -- what fits with the pulses to come fits
    fit-here : (i turn : ℕ) (before : List LogLine) (rest : List ReportLine) → begun before ≡ suc i → section_start before ≡ turn → clocks m fs before ≡ lines → FitWith i turn (λ s. in_order (pulses s before) ++ pulses_before s rest) → (s : ℕ) → s < length m.steppers → FitsHere m sections fs before s
    fit-here i turn before rest b t l fits s inside = search (rules, fits-same, clocks_at, stepper_at, plan-is, fits-first)

    -- a note
    note-on : (i turn : ℕ) (cut : Bool) (before : List LogLine) (rest : List ReportLine) → FitWith i turn (λ s. in_order (pulses s before) ++ pulses_before s rest) → IsOpen i turn cut before → IsOpen i turn cut (line.Note ∷ before)
    note-on i turn cut before rest fits h = record { fronted = (h.going, tt, fit-here i turn before rest h.begun_is h.start_is h.lines_are fits, h.fronted); going = h.going; begun_is = h.begun_is; start_is = h.start_is; lines_are = h.lines_are; cut_is = h.cut_is }

    -- a further clock line
    further-on : (i turn : ℕ) (cut : Bool) (before : List LogLine) (rest : List ReportLine) (b sent clock from : ℕ) → StandsBehind m sections fs before (line.Line b sent clock from) → FitWith i turn (λ s. in_order (pulses s before) ++ pulses_before s rest) → IsOpen i turn cut before
        → IsOpen i turn cut (line.Line b sent clock from ∷ before)
    further-on i turn cut before rest b sent clock from stands fits h =
        record { fronted = (h.going, stands, fit-here i turn before rest h.begun_is h.start_is h.lines_are fits, h.fronted); going = h.going; begun_is = h.begun_is; start_is = h.start_is; lines_are = h.lines_are; cut_is = h.cut_is }

    -- a pulse
    pulse-on : (i turn : ℕ) (cut : Bool) (before : List LogLine) (rest : List ReportLine) (t tick : ℕ) (up : Bool) → t < length m.steppers → FitWith i turn (λ s. in_order (pulses s (line.Pulse t tick up ∷ before)) ++ pulses_before s rest) → IsOpen i turn cut before
        → IsOpen i turn cut (line.Pulse t tick up ∷ before)
    pulse-on i turn cut before rest t tick up stands fits h =
        record { fronted = (h.going, stands, fit-here i turn (line.Pulse t tick up ∷ before) rest h.begun_is h.start_is h.lines_are fits, h.fronted); going = h.going; begun_is = h.begun_is; start_is = h.start_is; lines_are = h.lines_are; cut_is = h.cut_is }

    -- a cut
    cut-on : (i turn : ℕ) (cut : Bool) (before : List LogLine) (rest : List ReportLine) (j : ℕ) → j ≡ i → is_home (section_at sections i).kind ≡ true → FitWith i turn (λ s. in_order (pulses s before) ++ pulses_before s rest) → IsOpen i turn cut before → IsOpen i turn true (line.Cut j ∷ before)
    cut-on i turn cut before rest j same homes fits h =
        let stands : may_cut sections (begun before) j ≡ true = ap (λ (n : ℕ). may_cut sections n j) h.begun_is ∙ and_from (j == i) (is_home (section_at sections i).kind) (is_equal j i same) homes in
        record { fronted = (h.going, stands, fit-here i turn before rest h.begun_is h.start_is h.lines_are fits, h.fronted); going = h.going; begun_is = h.begun_is; start_is = h.start_is; lines_are = h.lines_are; cut_is = refl }

    -- the next section
    section-on : (i turn : ℕ) (cut : Bool) (before : List LogLine) (j at : ℕ) (kind : SectionKind) → j ≡ suc i → suc i < length sections → kind ≡ (section_at sections (suc i)).kind
        → ready_behind cut turn (section_end m lines (section_at sections i).moves turn) + (section_at sections (suc i)).dwell ≤ at → IsOpen i turn cut before → IsOpen (suc i) at false (line.Section j at kind ∷ before)
    section-on i turn cut before j at kind number there same due h = search (rules, ready-is)

    -- where this was not cut, in its turn
    timely-on : (i turn : ℕ) (cut : Bool) (before : List LogLine) (j at : ℕ) → j ≡ suc i → (cut ≡ false → section_end m lines (section_at sections i).moves turn + 260 + (section_at sections (suc i)).dwell ≡ at) → IsOpen i turn cut before → is_cut before ≡ false
        → at ≡ earliest_turn m sections fs before (begun before) + (section_at sections j).dwell
    timely-on i turn cut before j at number due h uncut =
        let moves = (section_at sections i).moves in
        let end : section_end m (clocks m fs before) moves (section_start before) ≡ section_end m lines moves turn = ap (λ (z : List Clocks). section_end m z moves (section_start before)) h.lines_are ∙ ap (λ (n : ℕ). section_end m lines moves n) h.start_is in
        let from : earliest_turn m sections fs before (begun before) ≡ section_end m lines moves turn + 260 = ap (λ (n : ℕ). earliest_turn m sections fs before n) h.begun_is ∙ ap (λ (n : ℕ). n + 260) end in
        let dwell = ap (λ (n : ℕ). (section_at sections n).dwell) number in
        let is = due (sym h.cut_is ∙ uncut) in
        omega (arith, from, dwell, is)

    -- as many pulses as planned make it whole
    whole-here : (i turn : ℕ) (cut : Bool) (total : ℕ → ℕ) (more : ℕ → Type 0) (before : List LogLine) → ((s : ℕ) → length (pulses s before) + 0 ≡ total s) → IsWholeIf i turn cut total more → IsOpen i turn cut before
        → is_cut before ≡ false → (s : ℕ) → s < length m.steppers → more (stepper_at m s).board → IsWholeHere m sections fs before s
    whole-here i turn cut total more before count whole h uncut s inside why = search (rules, plan-is)

    -- the pulses told so far, and those up to the next section
    abbrev Count : (ℕ → ℕ) → List LogLine → List ReportLine → Type 0
    Count total before rest = (s : ℕ) → length (pulses s before) + length (pulses_before s rest) ≡ total s

    go : (i turn : ℕ) (cut : Bool) (total : ℕ → ℕ) (rest : List ReportLine) (before : List LogLine) → FitWith i turn (λ s. in_order (pulses s before) ++ pulses_before s rest) → Count total before rest → Goes i turn cut total rest → AllMayStand m before (map logged rest) → AreOfRun m rest
        → IsOpen i turn cut before → Wholed through m sections fs (in_order (map logged rest)) before → AreFronted through m sections fs (onto (map logged rest) before)
    go i turn cut total [] before fits count goes stand of h w = record {
      fronted = h.fronted;
      wholed = w;
      lasted = λ gone uncut s inside. whole-here i turn cut total (λ b. through) before count goes h uncut s inside gone;
    }
    go i turn cut total (report.Section j at kind ∷ rest) before fits count goes stand of h w =
        go (suc i) at false (λ s. length (pulses_before s rest)) rest (line.Section j at kind ∷ before) goes.4 (λ s. omega arith) goes.6 stand.1 of.1 (section-on i turn cut before j at kind goes.0 goes.1 goes.2 goes.3.0 h)
        (λ uncut. (timely-on i turn cut before j at goes.0 goes.3.1 h uncut, whole-here i turn cut total (λ b. through ⊎ TellsPulseOf m b (in_order (map logged rest))) before count goes.5 h uncut), w)
    go i turn cut total (report.Pulse board stepper tick up ∷ rest) before fits count goes stand of h w =
        let p : Pulse = record { tick = tick; stepper = stepper; up = up } in
        let Of : ℕ → List Pulse → Type 0 = λ s ps. Fits (clocks_at lines (stepper_at m s).board).first.freq (base_tick m lines turn s) ps (stepper_plan m lines (section_at sections i).moves turn s) in
        let on : FitWith i turn (λ s. in_order (pulses s (line.Pulse stepper tick up ∷ before)) ++ pulses_before s rest) = λ s inside. subst (Of s) (sym (moved (stepper == s) p (pulses s before) (pulses_before s rest))) (fits s inside) in
        go i turn cut total rest (line.Pulse stepper tick up ∷ before) on (λ s. counted (stepper == s) p (pulses s before) (pulses_before s rest) ∙ count s) goes stand.1 of.1 (pulse-on i turn cut before rest stepper tick up of.0.0 on h) (tt, w)
    go i turn cut total (report.Cut j board pin tick from ∷ rest) before fits count goes stand of h w = go i turn true total rest (line.Cut j ∷ before) fits count goes.2 stand.1 of.1 (cut-on i turn cut before rest j goes.0 goes.1 fits h) (tt, w)
    go i turn cut total (report.Machine corexy many others ∷ rest) before fits count goes stand of h w = go i turn cut total rest (line.Note ∷ before) fits count goes stand.1 of.1 (note-on i turn cut before rest fits h) (tt, w)
    go i turn cut total (report.Drift board sent clock from ∷ rest) before fits count goes stand of h w =
        go i turn cut total rest (line.Line board sent clock from ∷ before) fits count goes stand.1 of.1 (further-on i turn cut before rest board sent clock from stand.0 fits h) (tt, w)
    go i turn cut total (report.Lines accepted passed ∷ rest) before fits count goes stand of h w = go i turn cut total rest (line.Note ∷ before) fits count goes stand.1 of.1 (note-on i turn cut before rest fits h) (tt, w)
    go i turn cut total (report.Board board freq at tick ∷ rest) before fits count goes stand of h w = absurd goes
    go i turn cut total (report.Out board pin tick on ∷ rest) before fits count goes stand of h w = absurd goes
    go i turn cut total (report.Made seed many ∷ rest) before fits count goes stand of h w = absurd goes
    go i turn cut total (report.Count stepper many ∷ rest) before fits count goes stand of h w = absurd goes
    go i turn cut total (report.Fit section stepper many planned early late ∷ rest) before fits count goes stand of h w = absurd goes
    go i turn cut total (report.End c ∷ rest) before fits count goes stand of h w = absurd goes

-- before the first section
record IsBefore (m : Machine) (sections : List Section) (fs : List Further) (b : ℕ) (before : List LogLine) : Type 0 where
  fronted : Fronted m sections fs before
  going : is_ended before ≡ false
  none : begun before ≡ 0
  boards : length (clocks m fs before) ≡ b
  silent : (s : ℕ) → pulses s before ≡ []

-- no pulse fits
silent-fits : (m : Machine) (sections : List Section) (fs : List Further) (before : List LogLine) (s : ℕ) → pulses s before ≡ [] → FitsHere m sections fs before s
silent-fits m sections fs before s silent = subst (λ (ps : List Pulse). Fits (freq_at m fs before s) (base_at m fs before s) (in_order ps) (plan_at m sections fs before s)) (sym silent) tt

heads-before : (through : Type 0) (m : Machine) (sections : List Section) (fs : List Further) (b : ℕ) (head body : List ReportLine) (before : List LogLine) → AllMayStand m before (map logged head) → AreHeads b head → IsBefore m sections fs b before
    → Wholed through m sections fs (in_order (map logged (head ++ body))) before → ((n : ℕ) × IsBefore m sections fs n (onto (map logged head) before)) × Wholed through m sections fs (in_order (map logged body)) (onto (map logged head) before)
heads-before through m sections fs b [] body before stand are h w = ((b, h), w)
heads-before through m sections fs b (report.Board board freq turn tick ∷ head) body before stand are h w =
    let place : board ≡ length (clocks m fs before) = are.0 ∙ sym h.boards in
    let long = h.boards in
    heads-before through m sections fs (b + 1) head body (line.Board board turn tick ∷ before) stand.1 are.1 (record {
      fronted = (h.going, (h.none, place), λ s inside. silent-fits m sections fs (line.Board board turn tick ∷ before) s (h.silent s), h.fronted);
      going = h.going;
      none = h.none;
      boards = length-append (clocks m fs before) (with_further m board fs (one_line (told_line m board turn tick)) ∷ []) ∙ omega (arith, long);
      silent = h.silent;
    }) (tt, w)
heads-before through m sections fs b (report.Machine corexy many others ∷ head) body before stand are h w =
    heads-before through m sections fs b head body (line.Note ∷ before) stand.1 are (record { fronted = (h.going, tt, λ s inside. silent-fits m sections fs before s (h.silent s), h.fronted); going = h.going; none = h.none; boards = h.boards; silent = h.silent }) (tt, w)
heads-before through m sections fs b (report.Drift board sent clock from ∷ head) body before stand are h w =
    heads-before through m sections fs b head body (line.Line board sent clock from ∷ before) stand.1 are (record { fronted = (h.going, stand.0, λ s inside. silent-fits m sections fs before s (h.silent s), h.fronted); going = h.going; none = h.none; boards = h.boards; silent = h.silent }) (tt, w)
heads-before through m sections fs b (report.Lines accepted passed ∷ head) body before stand are h w =
    heads-before through m sections fs b head body (line.Note ∷ before) stand.1 are (record { fronted = (h.going, tt, λ s inside. silent-fits m sections fs before s (h.silent s), h.fronted); going = h.going; none = h.none; boards = h.boards; silent = h.silent }) (tt, w)
heads-before through m sections fs b (report.Section i turn kind ∷ head) body before stand are h w = absurd are
heads-before through m sections fs b (report.Pulse board stepper tick up ∷ head) body before stand are h w = absurd are
heads-before through m sections fs b (report.Cut i board pin tick from ∷ head) body before stand are h w = absurd are
heads-before through m sections fs b (report.Out board pin tick on ∷ head) body before stand are h w = absurd are
heads-before through m sections fs b (report.Made seed moves ∷ head) body before stand are h w = absurd are
heads-before through m sections fs b (report.Count stepper many ∷ head) body before stand are h w = absurd are
heads-before through m sections fs b (report.Fit section stepper many planned early late ∷ head) body before stand are h w = absurd are
heads-before through m sections fs b (report.End c ∷ head) body before stand are h w = absurd are

-- Lines of boards alone follow the plan.
pub heads-follow : (through : Type 0) (m : Machine) (sections : List Section) (fs : List Further) (head : List ReportLine) → AllMayStand m [] (map logged head) → AreHeads 0 head → AreFronted through m sections fs (onto (map logged head) [])
heads-follow through m sections fs head stand heads =
    let empty : IsBefore m sections fs 0 [] = record { fronted = tt; going = refl; none = refl; boards = refl; silent = λ s. refl } in
    let x = heads-before through m sections fs 0 head [] [] stand heads empty tt in
    let h = x.0.1 in
    record { fronted = h.fronted; wholed = x.1; lasted = λ gone uncut s inside. ap length (h.silent s) ∙ sym (ap length (no-plan m sections fs (onto (map logged head) []) s h.none)) }

-- So do lines behind those of the boards that go through the first sections.
pub lines-follow : (through : Type 0) (m : Machine) (sections : List Section) (fs : List Further) (lines : List Clocks) (head : List ReportLine) (at : ℕ) (kind : SectionKind) (rest : List ReportLine) → AllMayStand m [] (map logged head) → AreHeads 0 head
    → clocks m fs (onto (map logged head) []) ≡ lines → length lines ≡ length m.boards → 0 < length sections → kind ≡ (section_at sections 0).kind → first_turn + (section_at sections 0).dwell ≤ at → at ≡ board_turn (onto (map logged head) []) + (section_at sections 0).dwell → FitWith through m sections lines 0 at (λ s. pulses_before s rest)
    → Goes through m sections lines 0 at false (λ s. length (pulses_before s rest)) rest → AllMayStand m (line.Section 0 at kind ∷ onto (map logged head) []) (map logged rest) → AreOfRun m rest
    → AreFronted through m sections fs (onto (map logged rest) (line.Section 0 at kind ∷ onto (map logged head) []))
lines-follow through m sections fs lines head at kind rest stand heads told boards some same due timely fits goes stands of =
    let empty : IsBefore m sections fs 0 [] = record { fronted = tt; going = refl; none = refl; boards = refl; silent = λ s. refl } in
    let x = heads-before through m sections fs 0 head (report.Section 0 at kind ∷ rest) [] stand heads empty tt in
    let h = x.0.1 in
    let before = onto (map logged head) [] in
    let from : ready (is_cut before) (begun before) (section_start before) (end_by m sections (clocks m fs before) (begun before) (section_start before)) ≡ first_turn =
    ap (λ (k : ℕ). ready (is_cut before) k (section_start before) (end_by m sections (clocks m fs before) k (section_start before))) h.none ∙ ready-first (is_cut before) (section_start before) 0 in
    let next : IsNextSection m sections fs before 0 at kind = record { number = sym h.none; there = some; same = same; due = omega (arith, from, due) } in
    go through m sections lines fs boards 0 at false (λ s. length (pulses_before s rest)) rest (line.Section 0 at kind ∷ before) fits (λ s. omega arith) goes stands of
    (record { fronted = (h.going, (next, ap length told ∙ boards), λ s inside. tt, h.fronted); going = h.going; begun_is = ap suc h.none; start_is = refl; lines_are = told; cut_is = refl })
    (λ uncut. (timely ∙ ap (λ (n : ℕ). earliest_turn m sections fs before n + (section_at sections 0).dwell) (sym h.none), λ s inside why. ap length (h.silent s) ∙ sym (ap length (no-plan m sections fs before s h.none))), x.1)
