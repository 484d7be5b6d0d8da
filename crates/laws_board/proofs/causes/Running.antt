-- The askings of a board that drifts, over the turns of a run.
use Rattle.std.proofs.Common.{◌≡◌, ℕ, ◌⊎◌, inl, inr, Bool, true, false, cond, List, [], ◌∷◌, length, drop, Option, Some, None, refl, ap, sym, ◌∙◌, subst, rules}
use Rattle.std.specs.Prelude.{◌==◌}
use Rattle.laws_board.proofs.Names.{Cmd, News, State, Asking, Stage, Identify, Uptime, Configure, Config, Connected, Setup, is_question_due, ready}
use Rattle.msg_code.specs.declared.cmd.Cmd.TheVariants as cmd
use Rattle.board_asking.specs.Asking.{after_asks, after_clock, after_drift, after_piece, answered, asked, hears_first, is_connected, is_in_time, is_over, or_asking, ready_stage, sample_of, settled, tells_clock, was_put, were_put}
use Rattle.laws_board.proofs.clocks.Turning.{heard_now}
use Rattle.board_asking.proofs.InTurns.{none-of-two, ready-connects}
use Rattle.host_reactor.proofs.Resting.{since-kept}

-- what an asking keeps that no answer came to
pub record Stays (x a : Asking) : Type 0 where
  pub stage : x.stage ≡ a.stage
  pub since : x.since ≡ a.since
  pub missed : x.missed ≡ a.missed
  pub first : x.first ≡ a.first
  pub waits : x.waits ≡ a.waits

-- nothing is out
pub record Rests (x : Asking) : Type 0 where
  pub since : x.since ≡ None
  pub missed : x.missed ≡ 0

were_stays : (turn : ℕ) (ns : List ℕ) (a : Asking) → Stays (were_put turn ns a) a
were_stays turn [] a = record { stage = refl; since = refl; missed = refl; first = refl; waits = refl }
were_stays turn (n ∷ ns) a = let s = were_stays turn ns (was_put turn a n) in record { stage = s.stage; since = s.since; missed = s.missed; first = s.first; waits = s.waits }

-- an answer leaves nothing out
abbrev RestsIn : Option Asking → Type 0
RestsIn None = Unit {0}
RestsIn (Some x) = Rests x

rests_if : (b : Bool) (x : Asking) → Rests x → RestsIn (cond b (Some x) None)
rests_if true x r = r
rests_if false x r = tt

rests_answer : (turn : ℕ) (a : Asking) (stage : Stage) (number : ℕ) (c : Cmd) → RestsIn (answered turn a stage number c)
rests_answer turn a stage number c = search (rules, rests_if)

abbrev Either : Asking → Asking → Type 0
Either x a = (x ≡ a) ⊎ Rests x

or_either : (o : Option Asking) (b a : Asking) → RestsIn o → Either b a → Either (or_asking o b) a
or_either None b a r e = e
or_either (Some x) b a r e = inr r

hears_either : (turn : ℕ) (news : List News) (a : Asking) → Either (hears_first turn news a) a
hears_either turn [] a = inl refl
hears_either turn (n ∷ news) a = or_either (answered turn a a.stage n.number n.answer) (hears_first turn news a) a (rests_answer turn a a.stage n.number n.answer) (hears_either turn news a)

stays_by : (x w a : Asking) → x ≡ w → Stays w a → Stays x a
stays_by x w a e s = subst (λ (y : Asking). Stays y a) (sym e) s

listens_if : (b : Bool) (turn : ℕ) (news : List News) (w a : Asking) → Stays w a → Stays (cond b (hears_first turn news w) w) a ⊎ Rests (cond b (hears_first turn news w) w)
listens_if false turn news w a s = inl s
listens_if true turn news w a s = elim (hears_either turn news w) [ inl e ↦ inl (stays_by (hears_first turn news w) w a e s) | inr r ↦ inr r ]

pub heard_either : (a : Asking) (states : List State) → Stays (heard_now a states) a ⊎ Rests (heard_now a states)
heard_either a states = search (rules, listens_if, were_stays)

-- whether an asking waits, no answer changes
abbrev WaitsIn : Option Asking → Bool → Type 0
WaitsIn None w = Unit {0}
WaitsIn (Some x) w = x.waits ≡ w

waits_if : (b : Bool) (x : Asking) (w : Bool) → x.waits ≡ w → WaitsIn (cond b (Some x) None) w
waits_if true x w e = e
waits_if false x w e = tt

waits_answer : (turn : ℕ) (a : Asking) (stage : Stage) (number : ℕ) (c : Cmd) → WaitsIn (answered turn a stage number c) a.waits
waits_answer turn a stage number c = search (rules, waits_if)

waits_or : (o : Option Asking) (b : Asking) (w : Bool) → WaitsIn o w → b.waits ≡ w → (or_asking o b).waits ≡ w
waits_or None b w k e = e
waits_or (Some x) b w k e = k

waits_hears : (turn : ℕ) (news : List News) (a : Asking) → (hears_first turn news a).waits ≡ a.waits
waits_hears turn [] a = refl
waits_hears turn (n ∷ news) a = waits_or (answered turn a a.stage n.number n.answer) (hears_first turn news a) a.waits (waits_answer turn a a.stage n.number n.answer) (waits_hears turn news a)

waits_either : (b : Bool) (x y : Asking) (w : Bool) → x.waits ≡ w → y.waits ≡ w → (cond b x y).waits ≡ w
waits_either true x y w e f = e
waits_either false x y w e f = f

pub heard_waits : (a : Asking) (states : List State) → (heard_now a states).waits ≡ a.waits
heard_waits a states = search (rules, were_stays, waits_either, waits_hears)

-- what is heard too late, or where nothing is out, changes nothing
late_if : (b : Bool) (turn : ℕ) (news : List News) (w a : Asking) → b ≡ false → Stays w a → Stays (cond b (hears_first turn news w) w) a
late_if false turn news w a e s = s
late_if true turn news w a e s = cc

pub heard_late : (a : Asking) (states : List State) → ((s : State) (rest : List State) → states ≡ s ∷ rest → is_in_time s.turn a.since ≡ false) → Stays (heard_now a states) a
heard_late a states p2 = search (rules, late_if, since-kept, were_stays)

-- a board that is connected has nothing out, and while connecting nothing waits
pub record IsSettled (a : Asking) : Type 0 where
  pub waits : a.waits ≡ false
  pub rests : is_connected a.stage ≡ true → Rests a

pub settled_now : (a : Asking) (states : List State) → IsSettled a → IsSettled (heard_now a states)
settled_now a states s = search (rules, heard_waits, heard_either)

pub settled_ready : (setups : List Setup) (a : Asking) → IsSettled a → IsSettled (ready setups a)
settled_ready setups a s = record { waits = s.waits; rests = λ c. let r = s.rests (ready-connects setups a.stage c) in record { since = r.since; missed = r.missed } }

either_not : (b : Bool) (k : ℕ) (a : Asking) (stage : Stage) → a.stage ≡ stage → is_connected stage ≡ false → a.waits ≡ false → IsSettled (cond b (asked k a) a)
either_not true k a stage e n w = record { waits = w; rests = λ c. let x = sym (ap is_connected e ∙ n) ∙ c in cc }
either_not false k a stage e n w = record { waits = w; rests = λ c. let x = sym (ap is_connected e ∙ n) ∙ c in cc }

pub settled_asks : (setups : List Setup) (k : ℕ) (a : Asking) (stage : Stage) → a.stage ≡ stage → IsSettled a → IsSettled (after_asks setups k a stage)
settled_asks setups k a (Configure n) e s = record { waits = s.waits; rests = λ c. cc }
settled_asks setups k a Connected e s = s
settled_asks setups k a c e s = either_not (is_question_due k a.since) k a c e refl s.waits
