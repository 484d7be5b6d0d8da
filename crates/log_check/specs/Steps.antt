-- A log that is checked line by line.
use Rattle.std.specs.Prelude.{◌≡◌, ℕ, suc, ◌*◌, ◌<◌, ◌≤◌, ◌^◌, ◌++◌, true, false, List, [], ◌∷◌, All, length, set, slice_index_or, Option, Some, None, Ok, Err}
use Rattle.log_text.specs.declared.line.LogLine.{LogLine}
use Rattle.log_text.specs.declared.line.LogLine.TheVariants as line
use Rattle.log_text.specs.Said.{Said}
use Rattle.text_core.specs.Bytes.{Text}
use Rattle.plan_types.specs.declared.cause.MisfitKind.{MisfitKind}
use Rattle.plan_types.specs.declared.machine.Machine.{Machine}
use Rattle.plan_types.specs.declared.plan.Section.{Section}
use Rattle.plan_types.specs.Clock.{turn_ns}
use Rattle.plan_types.specs.Lines.{Clocks, last_from, one_line}
use Rattle.plan_types.specs.Machines.{board_at}
use Rattle.plan_types.specs.Sections.{base_tick, clocks_at, for_each_stepper, section_end, section_plans}
use Rattle.clock_line.specs.Fits.{added_where}
use Rattle.clock_line.specs.Kept.{AreKept}
use Rattle.report_text.specs.declared.line.ReportLine.{ReportLine}
use Rattle.section_plan.specs.Runs.{IsShortMove}
use Rattle.log_check.specs.declared.further.Further.{Further}
use Rattle.log_check.specs.declared.stand.Stand.{Stand}
use Rattle.log_check.specs.declared.tally.Tally.{Tally}
use Rattle.log_check.specs.Behind.{told_line, with_further}
use Rattle.log_check.specs.Faults.{fault_at, no_tally}
use Rattle.log_check.specs.Points.{Point, point, section_at}
use Rattle.log_check.specs.Pulses.{with_pulse}
use Rattle.log_check.specs.Verdicts.{Verdict, fits_before, present_fits, verdict}

-- sections whose moves can be planned
pub record CanPlan (sections : List Section) : Type 0 where
  pub some : All (λ s. 0 < length s.moves) sections
  pub short : All (λ s. All IsShortMove s.moves) sections
  pub few : All (λ s. length s.moves ≤ 2_000_000) sections

-- the point at which a check stands
abbrev pub point_of : Stand → Point
point_of st = record {
  further = st.further.items;
  clocks = st.clocks.items;
  told = st.told.items;
  begun = st.begun;
  start = st.start;
  end = st.end;
  cut = st.cut;
  ended = st.ended;
  plans = st.plans;
  bases = st.bases.items;
  tallies = st.tallies.items;
}

-- the clock lines of the board of a number, all of 64-bit times
pub record AreClocksOfBoard (m : Machine) (c : Clocks) (b : ℕ) : Type 0 where
  pub kept : AreKept c
  pub soon : last_from c.first.at c.held < 2 ^ 62 * turn_ns
  pub freq : c.first.freq ≡ (board_at m b).freq

-- a point has as many tallies as steppers, and a plan for each of them behind all clock lines or none at all;
-- no stepper has more pulses than planned
pub record IsSoundPoint (m : Machine) (p : Point) : Type 0 where
  pub tallies : length p.tallies ≡ length m.steppers
  pub plans : length p.plans ≤ length m.steppers
  pub bases : length p.bases ≡ length p.plans
  pub boards : 0 < length p.plans → length p.clocks ≡ length m.boards
  pub early : All (λ f. f.from < 2 ^ 64) p.further
  pub lines : (b : ℕ) → b < length p.clocks → AreClocksOfBoard m (clocks_at p.clocks b) b
  pub none : p.begun ≡ 0 → p.plans ≡ []
  pub few : (s : ℕ) → s < length m.steppers →
      (slice_index_or p.tallies s no_tally).made ≤ length (slice_index_or p.plans s [])

-- the point with a line told behind it that fits
abbrev pub with_clock : Point → Clocks → Clocks → Point
with_clock p c t =
    record {
      further = p.further;
      clocks = p.clocks ++ c ∷ [];
      told = p.told ++ t ∷ [];
      begun = p.begun;
      start = p.start;
      end = p.end;
      cut = p.cut;
      ended = p.ended;
      plans = p.plans;
      bases = p.bases;
      tallies = p.tallies;
    }

-- the point with a further clock line told behind it that fits
abbrev pub with_line : Machine → Point → ℕ → ℕ → ℕ → ℕ → Point
with_line m p b turn tick from = record {
  further = p.further;
  clocks = p.clocks;
  told = set p.told b (added_where (clocks_at p.told b) from (told_line m b turn tick));
  begun = p.begun;
  start = p.start;
  end = p.end;
  cut = p.cut;
  ended = p.ended;
  plans = p.plans;
  bases = p.bases;
  tallies = p.tallies;
}

-- a point of the check at which a stepper's pulses are counted so
abbrev pub with_tally : Point → ℕ → Tally → Point
with_tally p s t =
    record {
      further = p.further;
      clocks = p.clocks;
      told = p.told;
      begun = p.begun;
      start = p.start;
      end = p.end;
      cut = p.cut;
      ended = p.ended;
      plans = p.plans;
      bases = p.bases;
      tallies = set p.tallies s t;
    }

-- a point behind the line that ends a homing section
abbrev pub with_cut : Point → Point
with_cut p =
    record {
      further = p.further;
      clocks = p.clocks;
      told = p.told;
      begun = p.begun;
      start = p.start;
      end = p.end;
      cut = true;
      ended = p.ended;
      plans = p.plans;
      bases = p.bases;
      tallies = p.tallies;
    }

-- a point behind the log's end line
abbrev pub with_end : Point → Point
with_end p =
    record {
      further = p.further;
      clocks = p.clocks;
      told = p.told;
      begun = p.begun;
      start = p.start;
      end = p.end;
      cut = p.cut;
      ended = true;
      plans = p.plans;
      bases = p.bases;
      tallies = p.tallies;
    }

-- the point at which a section begins
abbrev pub with_section : Machine → List Section → Point → ℕ → Point
with_section m sections p turn =
    let moves = (section_at sections p.begun).moves in
    record {
      further = p.further;
      clocks = p.clocks;
      told = p.told;
      begun = suc p.begun;
      start = turn;
      end = section_end m p.clocks moves turn;
      cut = false;
      ended = p.ended;
      plans = section_plans m p.clocks moves turn;
      bases = for_each_stepper m (base_tick m p.clocks turn);
      tallies = for_each_stepper m (λ s. no_tally);
    }

-- a point behind a pulse of a stepper at a tick
abbrev pub with_made : Point → ℕ → ℕ → Point
with_made p s tick =
    with_tally p s (with_pulse (slice_index_or p.plans s []) (slice_index_or p.tallies s no_tally) tick)

-- the point of the check behind a line
abbrev pub next_point : Machine → List Section → Point → LogLine → Point
next_point m sections p line.Note = p
next_point m sections p (line.Board b turn tick) =
    with_clock p (with_further m b p.further (one_line (told_line m b turn tick))) (one_line (told_line m b turn tick))
next_point m sections p (line.Line b turn tick from) = with_line m p b turn tick from
next_point m sections p (line.Section i turn kind) = with_section m sections p turn
next_point m sections p (line.Pulse s tick up) = with_made p s tick
next_point m sections p (line.Cut i) = with_cut p
next_point m sections p line.End = with_end p

-- the point with a line told behind it that doesn't fit: a pulse is counted
abbrev pub with_misfit : Point → LogLine → Point
with_misfit p line.Note = p
with_misfit p (line.Board b turn tick) = p
with_misfit p (line.Line b turn tick from) = p
with_misfit p (line.Section i turn kind) = p
with_misfit p (line.Pulse s tick up) = with_made p s tick
with_misfit p (line.Cut i) = p
with_misfit p line.End = p

-- what is told at a line that fits: of a section that ends
abbrev pub told_at : Point → LogLine → List ReportLine
told_at p line.Note = []
told_at p (line.Board b turn tick) = []
told_at p (line.Line b turn tick from) = []
told_at p (line.Section i turn kind) = present_fits p
told_at p (line.Pulse s tick up) = []
told_at p (line.Cut i) = []
told_at p line.End = []

-- a line was taken at a point: it led to another point, and what is told became longer; or it doesn't fit
abbrev pub TookLine : Machine → List Section → Point → Point → List ReportLine → List ReportLine → LogLine →
    Option MisfitKind → Option MisfitKind → Type 0
TookLine m sections p after old new l None found =
    (found ≡ None) × (after ≡ next_point m sections p l) × (new ≡ old ++ told_at p l)
TookLine m sections p after old new l (Some kind) found = (found ≡ Some kind) × (after ≡ with_misfit p l) × (new ≡ old)

-- The check took what a line says: it is at the next point, with what is told there; or at a fault, with
-- nothing more told.
abbrev pub Took : Machine → List Section → Point → Point → List ReportLine → List ReportLine → Said →
    Option MisfitKind → Type 0
Took m sections p after old new (Err kind) found = (found ≡ Some kind) × (after ≡ p) × (new ≡ old)
Took m sections p after old new (Ok l) found = TookLine m sections p after old new l (fault_at m sections p l) found

-- some lines were taken, the last of which has a number, and these are left
pub record CheckSofar (m : Machine) (sections : List Section) (further : List Further) (p : Point)
    (told : List ReportLine) (last : ℕ) (left : List (ℕ × List Text)) (wanted : Verdict) : Type 0 where
  pub lines : List LogLine
  pub at : p ≡ point m sections further lines
  pub told_is : told ≡ fits_before m sections further lines
  pub more : verdict m sections further last lines left ≡ wanted
