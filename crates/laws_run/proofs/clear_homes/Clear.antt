-- A whole run in which axes home, in a scene without entries, whatever threads it went in.
use Rattle.std.proofs.Common.{All, ◌≡◌, ◌⊎◌, ℕ, List, [], ◌∷◌, ◌++◌, length, Some, refl, sym, ◌∙◌, arith, subst, inl, inr}
use Rattle.laws_board.proofs.Names.{∥∥₁_map, All-head, All-tail, Home, Moves, MotionTurn, Cause, Machine, IsValidMachine, Started, Scene, Run, IsOwn, ReactorTurn}
use Rattle.std.proofs.Math.Logic.{∥∥₁_elim}
use Rattle.laws_run.specs.run_headline.Timely.{AreOfMoves}
use Rattle.laws_run.proofs.run_headline.Facts.{kinds_of}
use Rattle.laws_run.proofs.run_headline.Joining.{of_sections}
use Rattle.gcode_program.specs.Programs.{program_end, program_sections}
use Rattle.plan_types.specs.declared.cause.Cause.TheVariants as cause
use Rattle.plan_types.specs.declared.plan.ReadStop.TheVariants as read
use Rattle.io_core.specs.declared.traits.Files.{Ghosts as Files}
use Rattle.io_core.specs.declared.traits.Sink.{Ghosts as Sink}
use Rattle.session_lanes.specs.declared.near.Told.{Told}
use Rattle.session_run.specs.declared.tell.Kept.{Kept}
use Rattle.session_run.specs.Runs.{RunsOver}
use Rattle.laws_run.specs.run_ends.Ends.{GoesThrough}
use Rattle.laws_run.specs.run_headline.Made.{IsMade}
use Rattle.laws_run.proofs.run_headline.Making.{run_made}
use Rattle.laws_run.proofs.run_headline.Runs.{facts}
use Rattle.laws_run.proofs.run_headline.Showing.{Facts}
use Rattle.laws_board.specs.causes.Short.{HaveShortDictionaries}
use Rattle.laws_run.specs.clear_runs.Clear.{SendsAllSoon}
use Rattle.laws_run.specs.clear_homes.Closes.{AllClose, MissesSwitch}
use Rattle.laws_run.proofs.clear_homes.Through.{GoesOr, missed_all, through_all, through_alone}

goes_prop : (c : Cause) → IsProp (GoesThrough c)
goes_prop cause.Done a b = refl
goes_prop (cause.Line line kind) a b = refl
goes_prop (cause.Asked line) a b = refl
goes_prop c a b = absurd a

-- a switch never closed
abbrev IsUnclosed : Cause → Type 0
IsUnclosed (cause.NoSwitch section) = Unit {0}
IsUnclosed _ = ⊥

section_of : (c : Cause) → IsUnclosed c → (section : ℕ) × (c ≡ cause.NoSwitch section)
section_of (cause.NoSwitch section) i = (section, refl)
section_of c i = absurd i

went : (c : Cause) → (IsUnclosed c → ⊥) → GoesOr c → GoesThrough c
went c none g = elim g [ inl x ↦ x | inr x ↦ absurd (none (subst IsUnclosed (sym x.1) tt)) ]

-- a cause tells whether it is that
tells : (c : Cause) → IsUnclosed c ⊎ (IsUnclosed c → ⊥)
tells (cause.NoSwitch section) = inl tt
tells c = inr (λ i. i)

module _ {F S : Type 0} (f : Files F) (o : Sink S) (m : Machine) (s : Scene) (name : List ℕ) (files files' : F) (out out' : S) (kept kept' : Kept) (t : Told Run) (r : RunsOver f o m s name files out kept t files' out' kept') (v : IsValidMachine m) (short : HaveShortDictionaries m) where
  pub run_through : (text : List ℕ) → f.told files name ≡ Some text → kept.at ≡ 0 → s.entries ≡ [] → IsOwn t.cause → (t.cause ≡ cause.Memory → ⊥)
      → ((line : ℕ) → (program_end m text).stop ≡ read.Stop line → ⊥) → SendsAllSoon m text r.runs.0 → GoesOr t.cause
  run_through text told at clear own other goes sends =
      elim (tells t.cause) [
        | inl i ↦ inr (section_of t.cause i)
        | inr n ↦
            inl (∥∥₁_elim (run_made f o m s name files files' out out' kept kept' t r text told at) (goes_prop t.cause) (λ w.
            let Goes : List ℕ → Type 0 = λ z. (line : ℕ) → (program_end m z).stop ≡ read.Stop line → ⊥ in
            let Sends : List ℕ → Type 0 = λ z. SendsAllSoon m z r.runs.0 in
            went t.cause n (by w.0 (subst Goes (sym w.1) goes) (subst Sends (sym w.1) sends) r.runs.1 (facts f o m s name files files' out out' kept kept' t r other))))
      ]
    where
      by : (made : IsMade m s r.runs.0 r.runs.1) → ((line : ℕ) → (program_end m made.plans.seen.text).stop ≡ read.Stop line → ⊥)
          → SendsAllSoon m made.plans.seen.text r.runs.0 → (rs : List ReactorTurn) → Facts m s r.runs.0 rs r.runs.2 t.cause → GoesOr t.cause
      by made on soon [] x = inl (through_alone m v short s r.runs.0 made.plans r.runs.2 t.cause clear on soon x own)
      by made on soon (first ∷ rest) x = through_all m v short s r.runs.0 made.plans r.runs.2 t.cause clear on soon first rest x own

  misses : (made : IsMade m s r.runs.0 r.runs.1) → s.entries ≡ [] → ((line : ℕ) → (program_end m made.plans.seen.text).stop ≡ read.Stop line → ⊥) → SendsAllSoon m made.plans.seen.text r.runs.0 → (rs : List ReactorTurn)
      → Facts m s r.runs.0 rs r.runs.2 t.cause → (section : ℕ) → t.cause ≡ cause.NoSwitch section → MissesSwitch m s made.plans.seen section
  misses made clear on soon [] x section e =
      absurd (subst GoesThrough e (through_alone m v short s r.runs.0 made.plans r.runs.2 t.cause clear on soon x (subst IsOwn (sym e) tt)))
  misses made clear on soon (first ∷ rest) x section e = missed_all m v short s r.runs.0 made.plans r.runs.2 t.cause clear on soon first rest x (subst IsOwn (sym e) tt) section e

  -- a run that ends since no switch closed
  pub run_misses : (text : List ℕ) → f.told files name ≡ Some text → kept.at ≡ 0 → s.entries ≡ [] → ((line : ℕ) → (program_end m text).stop ≡ read.Stop line → ⊥) → SendsAllSoon m text r.runs.0
      → ∥ ((made : IsMade m s r.runs.0 r.runs.1) × (made.plans.seen.text ≡ text) × ((section : ℕ) → t.cause ≡ cause.NoSwitch section → MissesSwitch m s made.plans.seen section)) ∥₁
  run_misses text told at clear goes sends =
      ∥∥₁_map (run_made f o m s name files files' out out' kept kept' t r text told at) (λ w.
      let Goes : List ℕ → Type 0 = λ z. (line : ℕ) → (program_end m z).stop ≡ read.Stop line → ⊥ in
      let Sends : List ℕ → Type 0 = λ z. SendsAllSoon m z r.runs.0 in (
        w.0,
        w.1,
        λ section e. misses w.0 clear (subst Goes (sym w.1) goes) (subst Sends (sym w.1) sends) r.runs.1 (facts f o m s name files files' out out' kept kept' t r (λ g. let h : cause.NoSwitch section ≡ cause.Memory = sym e ∙ g in cc)) section e,
      ))

  -- none does where each closes in time
  pub run_closes : (text : List ℕ) → f.told files name ≡ Some text → kept.at ≡ 0 → s.entries ≡ [] → IsOwn t.cause → (t.cause ≡ cause.Memory → ⊥) → ((line : ℕ) → (program_end m text).stop ≡ read.Stop line → ⊥) → SendsAllSoon m text r.runs.0
      → AllClose m s text r.runs.0 → GoesThrough t.cause
  run_closes text told at clear own other goes sends closes = elim (run_through text told at clear own other goes sends) [
    | inl went ↦ went
    | inr unclosed ↦
        let none : ⊥ = ∥∥₁_elim (run_misses text told at clear goes sends) bottom (λ w. (
        let x = w.2 unclosed.0 unclosed.1 in
        let y = closes w.0.plans x.told w.1 x.told_is x.past x.x x.later x.axis x.cut x.home in
        let late = x.late y.0 y.1 in
        let early = y.2 in
        let bad : ⊥ = omega (arith, late, early) in
        bad)) in
        absurd none
  ]
    where
      bottom : IsProp ⊥
      bottom x y = absurd x

-- of sections of moves none homes
none_home : (past : List Started) (x : Started) (later : List Started) (axis : ℕ) → All (λ s. s.section.kind ≡ Moves) (past ++ x ∷ later) → x.section.kind ≡ Home axis → ⊥
none_home [] x later axis all home = let e : Moves ≡ Home axis = sym (All-head (λ (s : Started). s.section.kind ≡ Moves) x later all) ∙ home in cc
none_home (y ∷ past) x later axis all home = none_home past x later axis (All-tail (λ (s : Started). s.section.kind ≡ Moves) y (past ++ x ∷ later) all) home

pub moves_close : (m : Machine) (s : Scene) (text : List ℕ) (planned : List MotionTurn) → AreOfMoves (program_sections m text) → AllClose m s text planned
moves_close m s text planned moves = λ p t same told past x later axis cut home.
    let Moves_in : List ℕ → Type 0 = λ z. AreOfMoves (program_sections m z) in
    let Of : List Started → Type 0 = λ z. All (λ (y : Started). y.section.kind ≡ Moves) z in
    let kinds = kinds_of p.seen.begun (program_sections m p.seen.text) (length p.seen.begun) (of_sections m planned p) (subst Moves_in (sym same) moves) in
    absurd (none_home past x later axis (subst Of cut kinds) home)
