-- A homing section whose answer a word tells of is known no more, until a note begins another.
use Rattle.std.proofs.Common.{◌≡◌, ℕ, List, [], ◌∷◌, ◌++◌, length, Option, Some, None, refl, ap, sym, ◌∙◌, subst, inl, inr}
use Rattle.laws_board.proofs.Names.{Machine, Clocks, State, Switch, End, Homing, answer_in, goes_on_homing, hears_all, homing_after, homing_turn, Connecting, noted, Reacted, Came, GoesOn, known_by, last_reacted}
use Rattle.laws_board.proofs.clocks.Lines.{noted_phase}
use Rattle.laws_board.proofs.clocks.Turning.{goes}
use Rattle.laws_homing.specs.home_runs.Words.{TellsHomed}
use Rattle.laws_homing.proofs.home_runs.Knowing.{cut_of, noted_none, running_now, switch_answer}
use Rattle.laws_homing.specs.clear_groups.Runs.{BeginNone}

cut_over : (clocks : List Clocks) (k tick : ℕ) (states : List State) (o : Option Homing) → (homing_turn clocks k states o).cut ≡ Some tick → homing_after clocks k states o ≡ None
cut_over clocks k tick states None e = refl
cut_over clocks k tick states (Some h) e =
    let g = hears_all clocks states h in
    ap (λ (a : Option End). goes_on_homing k g a) (switch_answer k tick g (answer_in k g.start g.group) e)

pub told_over : (m : Machine) (switches : List Switch) (c : Came) (before : List Came) → GoesOn m switches (c ∷ before) → ((known_by m switches before).phase ≡ Connecting → ⊥) → TellsHomed (last_reacted m switches c before).ordered.word.news
    → (known_by m switches (c ∷ before)).homing ≡ None
told_over m switches c before on past told =
    let known = known_by m switches before in
    let now = noted m c.note known in
    let k = length before in
    let x = last_reacted m switches c before in
    let g = running_now m now k c.states x (goes m switches known k c.states c.note on.0) (λ e. past (sym (noted_phase m c.note known) ∙ e)) in
    let cut = cut_of m now k c.states x g told in
    ap (λ (y : Reacted). y.known.homing) g.is ∙ cut_over now.clocks k cut.0 c.states now.homing cut.1

one_over : (m : Machine) (switches : List Switch) (c : Came) (before : List Came) → GoesOn m switches (c ∷ before) → (noted m c.note (known_by m switches before)).homing ≡ None → (known_by m switches (c ∷ before)).homing ≡ None
one_over m switches c before on none =
    let known = known_by m switches before in
    let now = noted m c.note known in
    let k = length before in
    let So : Reacted → Type 0 = λ y. y.known.homing ≡ None in
    elim (goes m switches known k c.states c.note on.0) [
      | inl x ↦ subst So (sym x.is) none
      | inr later ↦ elim later [ inl x ↦ subst So (sym x.is) none | inr x ↦ subst So (sym x.is) (ap (λ (o : Option Homing). homing_after now.clocks k c.states o) none) ]
    ]

pub stays_over : (m : Machine) (switches : List Switch) (later before : List Came) → GoesOn m switches (later ++ before) → BeginNone later → (known_by m switches before).homing ≡ None → (known_by m switches (later ++ before)).homing ≡ None
stays_over m switches [] before on calm none = none
stays_over m switches (c ∷ later) before on calm none =
    one_over m switches c (later ++ before) on (noted_none m c.note (known_by m switches (later ++ before)) calm.0 ∙ stays_over m switches later before on.1 calm.1 none)
