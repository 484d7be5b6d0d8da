-- What a board told behind a section, whatever became of it then.
use Rattle.std.proofs.Common.{◌≡◌, ◌≢◌, ℕ, zero, suc, ◌+◌, ◌≤◌, List, [], ◌∷◌, ◌++◌, drop, length, Option, None, refl, ap, sym, ◌∙◌, arith, append-nil}
use Rattle.std.specs.Prelude.{◌-◌}
use Rattle.laws_board.proofs.Names.{append_cancel_left, BoardClock, BoardState, Running, Shut, Pulse, ShutNews, State, LinkState, Orders}
use Rattle.link_work.specs.Told.{IsShutNews}
use Rattle.laws_board.specs.sections.Links.{AreTold, pulses_in}
use Rattle.laws_board.proofs.sections.Linking.{pulse_runs}

-- a state that tells a pulse, of those from one on
pub record Tells (to : ℕ) (states : List State) : Type 0 where
  pub front : List State
  pub state : State
  pub behind : List State
  pub are : states ≡ front ++ state ∷ behind
  pub late : to ≤ length front
  pub some : state.pulses ≢ []

more_tells : (to n : ℕ) (s : State) (states : List State) → to ≤ n + 1 → Tells n states → Tells to (s ∷ states)
more_tells to n s states h t = record { front = s ∷ t.front; state = t.state; behind = t.behind; are = ap (λ y. s ∷ y) t.are; late = omega (arith, h, t.late); some = t.some }

pub tells : (to : ℕ) (states : List State) → pulses_in (drop to states) ≢ [] → Tells to states
tells zero [] some = absurd (some refl)
tells (suc to) [] some = absurd (some refl)
tells (suc to) (s ∷ states) some = more_tells (suc to) to s states (omega arith) (tells to states some)
tells zero (s ∷ states) some = by s.pulses (tells zero states) refl
  where
    by : (ps : List Pulse) → (pulses_in states ≢ [] → Tells 0 states) → s.pulses ≡ ps → Tells 0 (s ∷ states)
    by [] rec e = more_tells 0 0 s states (omega arith) (rec (λ f. some (ap (λ y. y ++ pulses_in states) e ∙ f)))
    by (p ∷ ps) rec e = record { front = []; state = s; behind = states; are = refl; late = omega arith; some = λ f. let g : [] ≡ p ∷ ps = sym f ∙ e in cc }

-- the board ran on behind it
pub still : (state : BoardState) (o : Option ShutNews) → IsShutNews state o → state ≡ Running → o ≡ None
still Running o i e = i
still (Shut reason tick first) o i e = let f : Shut reason tick first ≡ Running = e in cc

no_states : (s : State) (rest : List State) → s ∷ rest ≡ [] → ⊥
no_states s rest e = cc

pub last_runs : (clock : BoardClock) (turn : ℕ) (os : List Orders) (rest : List State) (s : State) (l m : LinkState) → AreTold clock turn os (rest ++ s ∷ []) l m → s.pulses ≢ [] → s.shut ≡ None
last_runs clock turn [] [] s l m t some = absurd (no_states s [] t.0)
last_runs clock turn [] (r ∷ rest) s l m t some = absurd (no_states r (rest ++ s ∷ []) t.0)
last_runs clock turn (o ∷ os) [] s l m t some =
    let (mid, is, told, more) = t in
    let grew = λ (e : mid.core.made ≡ l.core.made). some (append_cancel_left l.core.made s.pulses [] (told.pulses ∙ e ∙ sym (append-nil l.core.made))) in
    still mid.core.board.controller.state s.shut told.shut (pulse_runs clock turn o l mid is grew)
last_runs clock turn (o ∷ os) (r ∷ rest) s l m t some = last_runs clock (turn + 1) os rest s t.0 m t.3 some
