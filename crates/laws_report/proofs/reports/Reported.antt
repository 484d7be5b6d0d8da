-- The report of a run over links, with what its lines show.
use Rattle.std.proofs.Common.{◌≡◌, ◌≢◌, ◌∙◌, ◌⊎◌, inl, inr, ℕ, suc, ◌+◌, List, [], ◌∷◌, ◌++◌, length, map, take, ap, sym, refl, Some, rules}
use Rattle.laws_board.proofs.Names.{∥∥₁_map, length-map, Started, Cause, Machine, Section, IsValidMachine, ReportLine, Scene}
use Rattle.std.proofs.Math.Logic.{∥∥₁_elim, ∥∥₁_prop}
use Rattle.std.proofs.Props.{props}
use Rattle.laws_board.specs.causes.Short.{HaveShortDictionaries}
use Rattle.io_core.specs.declared.traits.Files.{Ghosts as Files}
use Rattle.io_core.specs.declared.traits.Sink.{Ghosts as Sink}
use Rattle.plan_types.specs.declared.cause.Cause.TheVariants as cause
use Rattle.report_text.specs.declared.line.ReportLine.TheVariants as report
use Rattle.session_lanes.specs.declared.near.LinkLog.{LinkLog}
use Rattle.report_text.specs.Text.{report_text}
use Rattle.laws_run.specs.run_ends.Ends.{GoesThrough}
use Rattle.laws_run.specs.run_headline.Timely.{AreOfMoves}
use Rattle.laws_run.specs.run_lines.Due.{begun_lines}
use Rattle.laws_run.proofs.home_headline.Held.{near_keeps}
use Rattle.laws_run.proofs.home_headline.Shows.{run_shows}
use Rattle.session_run.specs.Reported.{IsReported}
use Rattle.laws_report.specs.reports.Body.{section_lines}
use Rattle.laws_report.specs.reports.Homes.{ShowsBegun}
use Rattle.laws_report.specs.reports.Linked.{IsLinkReport, MeetPremise}
use Rattle.laws_report.specs.reports.Promises.{sections_over}
use Rattle.laws_report.specs.reports.Read.{IsSceneFor}
use Rattle.laws_report.specs.reports.Shown.{section_turn, sections_shown}
use Rattle.laws_report.specs.reports.Checks.{check_cause}
use Rattle.laws_report.specs.reports.Names.{HasNames}
use Rattle.laws_report.specs.page.Log.{log_of}
use Rattle.laws_report.specs.page.Report.{Shows}
use Rattle.laws_report.specs.page.Steps.{counts_planned}
use Rattle.laws_report.proofs.reports.Homing.{home-links, home-prints}
use Rattle.laws_report.proofs.reports.Linked.{KeepsUp, begun_texts, cut_lines, memory_or, none_through, whole_of}
use Rattle.laws_report.proofs.reports.Linked as linked
use Rattle.laws_report.proofs.reports.Scenes.{scene_under}
use Rattle.laws_report.proofs.reports.Standing.{first_shown}
use Rattle.laws_report.proofs.reports.Wanted.{ShowsWanted, wanted_texts}
use Rattle.laws_report.proofs.reports.WithoutSections.{none-links}
use Rattle.laws_report.proofs.page.Near.{near-boards}
use Rattle.laws_report.proofs.page.Steps.{counts-planned}

-- the lines of sections that were begun, the first ones of a text, are those of the first sections
first-lines : (i : ℕ) (begun : List Started) (sections : List Section) (xs rest : List ReportLine) → map (λ s. s.section) begun ≡ take (length begun) sections → begun_lines i begun ≡ xs ++ rest → (starts : List ℕ) × (xs ≡ section_lines i starts sections)
first-lines i begun sections [] rest of are = ([], refl)
first-lines i [] sections (x ∷ xs) rest of are = absurd (let e : [] ≡ x ∷ (xs ++ rest) = are in cc)
first-lines i (s ∷ begun) [] (x ∷ xs) rest of are = absurd (let e : s.section ∷ map (λ (y : Started). y.section) begun ≡ [] = of in cc)
first-lines i (s ∷ begun) (z ∷ sections) (x ∷ xs) rest of are =
    let e : s.section ∷ map (λ (y : Started). y.section) begun ≡ z ∷ take (length begun) sections = of in
    let same : s.section ≡ z = cc in
    let f : report.Section i s.start s.section.kind ∷ begun_lines (i + 1) begun ≡ x ∷ (xs ++ rest) = are in
    let own : x ≡ report.Section i s.start s.section.kind = cc in
    let next : map (λ (y : Started). y.section) begun ≡ take (length begun) sections = cc in
    let behind : begun_lines (i + 1) begun ≡ xs ++ rest = cc in
    let later = first-lines (i + 1) begun sections xs rest next behind in
    (s.start ∷ later.0, ap (λ (l : ReportLine). l ∷ xs) (own ∙ ap (λ (y : Section). report.Section i s.start y.kind) same) ∙ ap (λ (ls : List ReportLine). report.Section i s.start z.kind ∷ ls) later.1)

-- where a section has its line the first one has
first-shown : (begun : List Started) (ls rest said : List ReportLine) → sections_shown said ≡ ls → ls ≢ [] → begun_lines 0 begun ≡ ls ++ rest → (turn : ℕ) × (section_turn 0 said ≡ Some turn)
first-shown begun [] rest said is some e = absurd (some refl)
first-shown [] (l ∷ ls) rest said is some e = absurd (let f : [] ≡ l ∷ (ls ++ rest) = e in cc)
first-shown (s ∷ begun) (l ∷ ls) rest said is some e =
    let f : report.Section 0 s.start s.section.kind ∷ begun_lines 1 begun ≡ l ∷ (ls ++ rest) = e in
    let same : l ≡ report.Section 0 s.start s.section.kind = cc in
    (s.start, first_shown 0 s.start s.section.kind ls said (is ∙ ap (λ (z : ReportLine). z ∷ ls) same))

many : (i : ℕ) (ss : List Started) → length (begun_lines i ss) ≡ length ss
many i [] = refl
many i (s ∷ ss) = ap suc (many (i + 1) ss)

all-shown : (Keeps : Type 0) (m : Machine) (text : List ℕ) (c : Cause) (said : List ReportLine) → ShowsBegun Keeps m text c said → GoesThrough c → length (sections_shown said) ≡ length (sections_over m text)
all-shown Keeps m text c said begun gone = search (rules, many, length-map)

module _ {F S : Type 0} (f : Files F) (o : Sink S) (m : Machine) (s : Scene) (gcode : List ℕ) (files files' : F) (out out' : S) (c : Cause) (lines : List ReportLine) (counts : List ℕ) (links : List LinkLog) (valid : IsValidMachine m) (short : HaveShortDictionaries m) where
  -- its cut lines, and the log of its lines, whatever ended it
  logs : (r : IsReported f o m s gcode files files' out out' c lines counts links) (text : List ℕ) → f.told files gcode ≡ Some text → ∥ ShowsWanted f o m s gcode files files' out out' c lines counts links valid short r text ∥₁
  logs r text told = elim (memory_or r.told.cause) [
    | inl memory ↦ wanted_texts f o m s gcode files files' out out' c lines counts links valid short r text told memory
    | inr other ↦ ∥∥₁_map (run_shows f o m s gcode files files' out r.behind r.kept r.kept' r.told r.runs valid short text told r.fresh.at) (λ w. (
      cut_lines f o m s gcode files files' out out' c lines counts links valid short r text w.0 w.1 other r.said r.rest c (whole_of f o m s gcode files files' out out' c lines counts links valid short r) r.shown,
      λ scene little. home-prints f o m s gcode files files' out out' c lines counts links valid short r text told other w.0 w.1 (little.0 other) (w.2 other (little.0 other)) scene,
    ))
  ]

  -- what the lines show, where each board keeps up
  pub shown_where : IsSceneFor m s → (r : IsReported f o m s gcode files files' out out' c lines counts links) (text : List ℕ) → f.told files gcode ≡ Some text → (Near : Type 0) → (Near → KeepsUp f o m s gcode files files' out out' c lines counts links valid short r text) → ∥ Shows Near m s text c r.said ∥₁
  shown_where scene r text told Near keeps =
      ∥∥₁_elim (begun_texts f o m s gcode files files' out out' c lines counts links valid short r text told) ∥∥₁_prop (λ begun.
      ∥∥₁_map (logs r text told) (λ w.
      let prints = λ (near : Near). w.1 (scene_under m s scene) (keeps near) in
      let b = begun.0 in
      record {
        follows = λ p. (prints p).follows;
        starts = λ p. (prints p).starts;
        cuts = w.0;
        clocks = λ some.
            let first = first-shown b.begun (sections_shown r.said) b.sections.0 r.said refl some b.sections.1 in
            near-boards m b.clocks b.ready b.last r.said (b.sound 0 first.0 first.1) (b.boards 0 first.0 first.1) (begun.1 0 first.0 first.1) (b.further 0 first.0 first.1) (b.named 0 first.0 first.1);
        says = λ p. (prints p).says;
        sections = first-lines 0 b.begun (sections_over m text) (sections_shown r.said) b.sections.0 b.of_text b.sections.1;
        all = all-shown (KeepsUp f o m s gcode files files' out out' c lines counts links valid short r text) m text c r.said b;
        counts = b.counts;
        cause = b.cause;
      }))

  -- the counts of a run of moves
  counted : IsSceneFor m s → (r : IsReported f o m s gcode files files' out out' c lines counts links) (text : List ℕ) → f.told files gcode ≡ Some text → GoesThrough c → AreOfMoves (sections_over m text) → KeepsUp f o m s gcode files files' out out' c lines counts links valid short r text
      → counts ≡ counts_planned m (sections_over m text) (log_of r.said)
  counted scene r text told gone moves keeps =
      ∥∥₁_elim (shown_where scene r text told (Unit {0}) (λ _. keeps)) (hlevel props) (λ shows. r.counted ∙ counts-planned (GoesThrough c) m (sections_over m text) r.said (shows.follows tt) moves gone)

  -- the check of what is printed
  pub checked : IsSceneFor m s → (r : IsReported f o m s gcode files files' out out' c lines counts links) (text : List ℕ) → f.told files gcode ≡ Some text → GoesThrough c → HasNames m → KeepsUp f o m s gcode files files' out out' c lines counts links valid short r text ⊎ (sections_over m text ≡ [])
      → check_cause m text (report_text m (r.said ++ report.End c ∷ [])) ≡ cause.Done
  checked scene r text told gone names (inr none) = none-links f o m s gcode files files' out out' c lines counts links valid r text told none names gone
  checked scene r text told gone names (inl keeps) = by (sections_over m text) refl
    where
      by : (sections : List Section) → sections_over m text ≡ sections → check_cause m text (report_text m (r.said ++ report.End c ∷ [])) ≡ cause.Done
      by [] e = none-links f o m s gcode files files' out out' c lines counts links valid r text told e names gone
      by (x ∷ sections) e =
          let other = λ (memory : r.told.cause ≡ cause.Memory). none_through f o m s gcode files files' out out' c lines counts links valid short r memory gone in
          let all = keeps.0 other in
          ∥∥₁_elim (run_shows f o m s gcode files files' out r.behind r.kept r.kept' r.told r.runs valid short text told r.fresh.at) (hlevel props) (λ w.
          home-links f o m s gcode files files' out out' c lines counts links valid short r text told other w.0 w.1 all (w.2 other all) (scene_under m s scene) names (λ none. (let g : x ∷ sections ≡ [] = sym e ∙ none in cc)) gone)

  -- the premise is enough
  premise-keeps : (r : IsReported f o m s gcode files files' out out' c lines counts links) (text : List ℕ) → MeetPremise m s text r.runs.runs.0 r.runs.runs.1 r.runs.runs.2 r.told.cause → KeepsUp f o m s gcode files files' out out' c lines counts links valid short r text
  premise-keeps r text p = search (rules, near_keeps)

  pub planned : IsSceneFor m s → IsReported f o m s gcode files files' out out' c lines counts links → IsLinkReport f o m s gcode files files' out out' c lines counts links
  planned scene r =
      linked.planned f o m s gcode files files' out out' c lines counts links valid short scene r
      (λ text told. shown_where scene r text told (MeetPremise m s text r.runs.runs.0 r.runs.runs.1 r.runs.runs.2 r.told.cause) (premise-keeps r text))
      (λ text told gone moves near. counted scene r text told gone moves (premise-keeps r text near))
      (λ text told gone names near. checked scene r text told gone names (elim near [ inl p ↦ inl (premise-keeps r text p) | inr none ↦ inr none ]))
