-- An answer that counts ends an asking.
use Rattle.std.proofs.Common.{◌≡◌, ℕ, ◌+◌, ◌-◌, ◌%◌, ◌^◌, ◌<◌, ◌≤◌, inl, inr, Bool, true, false, cond, List, [], ◌∷◌, length, drop, Option, Some, None, refl, ap, sym, ◌∙◌, subst, arith, rules}
use Rattle.std.specs.Prelude.{◌==◌, nat_le, nat_lt}
use Rattle.std.proofs.lemmas.Bool.{le-leb}
use Rattle.laws_board.proofs.Names.{Cmd, News, State, Asking, Stage, Identify, Uptime, Configure, Config, Connected, Setup, is_question_due, ready}
use Rattle.msg_code.specs.declared.cmd.Cmd.TheVariants as cmd
use Rattle.board_asking.specs.Asking.{after_asks, after_clock, after_drift, after_piece, answered, asked, hears_first, is_in_time, is_over, listens, more, or_asking, ready_stage, sample_of, settled, tells_clock, was_put, were_put}
use Rattle.board_asking.specs.Turns.{AsksOf, asking_in_turn, heard}
use Rattle.board_asking.proofs.Configured.{Listens, listened}
use Rattle.laws_board.proofs.clocks.Lines.{were_stage}
use Rattle.link_work.specs.Answers.{IsAmong}
use Rattle.host_reactor.proofs.Resting.{since-kept}
use Rattle.plan_types.proofs.Facts.{none_or_some}

-- what an answer gives has no asking out
abbrev NoneOut : Option Asking → Type 0
NoneOut None = Unit {0}
NoneOut (Some a) = a.since ≡ None

out_if : (b : Bool) (a : Asking) → a.since ≡ None → NoneOut (cond b (Some a) None)
out_if true a e = e
out_if false a e = tt

none_out : (turn : ℕ) (a : Asking) (stage : Stage) (number : ℕ) (c : Cmd) → NoneOut (answered turn a stage number c)
none_out turn a stage number c = search (rules, out_if)

or_none : (o : Option Asking) (b : Asking) → NoneOut o → b.since ≡ None → (or_asking o b).since ≡ None
or_none None b n e = e
or_none (Some a) b n e = n

some_none : (o : Option Asking) (b : Asking) → NoneOut o → (o ≡ None → ⊥) → (or_asking o b).since ≡ None
some_none None b n s = absurd (s refl)
some_none (Some a) b n s = n

hears_none : (turn : ℕ) (news : List News) (a : Asking) (n : News) → IsAmong n news → (answered turn a a.stage n.number n.answer ≡ None → ⊥) → (hears_first turn news a).since ≡ None
hears_none turn [] a n k s = absurd k
hears_none turn (x ∷ news) a n (inl e) s =
    some_none (answered turn a a.stage x.number x.answer) (hears_first turn news a) (none_out turn a a.stage x.number x.answer) (λ none. s (ap (λ (y : News). answered turn a a.stage y.number y.answer) (sym e) ∙ none))
hears_none turn (x ∷ news) a n (inr k) s =
    or_none (answered turn a a.stage x.number x.answer) (hears_first turn news a) (none_out turn a a.stage x.number x.answer) (hears_none turn news a n k s)

-- an asking that is out, as a state with an answer comes in time
pub answer_ends : (a : Asking) (s : State) (n : News) (k : ℕ) → a.since ≡ Some k → s.turn ≤ k + 3 → IsAmong n s.news
    → (answered s.turn (were_put s.turn s.asked a) a.stage n.number n.answer ≡ None → ⊥) → (listens a s).since ≡ None
answer_ends a s n k e l among some = search (rules, since-kept, le-leb, were_stage, hears_none)

same_ready : (setups : List Setup) (stage : Stage) → AsksOf stage → ready_stage setups stage ≡ stage
same_ready setups (Configure n) h = absurd h
same_ready setups Connected h = absurd h
same_ready setups c h = refl

pub either_same : (b : Bool) (x y : Asking) (g : Stage) → x.stage ≡ g → y.stage ≡ g → (cond b x y).stage ≡ g
either_same true x y g e f = e
either_same false x y g e f = f

behind_same : (setups : List Setup) (k : ℕ) (a : Asking) (stage : Stage) → a.stage ≡ stage → AsksOf stage → (after_asks setups k a stage).stage ≡ stage
behind_same setups k a (Configure n) e h = absurd h
behind_same setups k a Connected e h = absurd h
behind_same setups k a c e h = either_same (is_question_due k a.since) (asked k a) a c e e

-- an asking in a turn is out behind it, as long as it is in the next one
pub record IsOut (k : ℕ) (g : Stage) (a : Asking) : Type 0 where
  pub stage : a.stage ≡ g
  pub since : a.since ≡ Some k

stays_out : (setups : List Setup) (k : ℕ) (a : Asking) (s : State) (stage : Stage) → AsksOf stage → a.stage ≡ stage → (ready setups (listens a s)).since ≡ Some k → Listens (listens a s) a s
    → IsOut k stage a × ((ready setups (listens a s)).stage ≡ stage)
stays_out setups k a s stage g e out (inl p) =
    (record { stage = e; since = sym p.since ∙ out }, ap (ready_stage setups) (p.stage ∙ e) ∙ same_ready setups stage g)
stays_out setups k a s stage g e out (inr none) = absurd (none_or_some _ k none.0 out)

pub out_behind : (setups : List Setup) (n k : ℕ) (a : Asking) (s : State) (stage : Stage) → AsksOf stage → a.stage ≡ stage → (ready setups (listens (asking_in_turn setups n a) s)).since ≡ Some k
    → IsOut k stage (asking_in_turn setups n a) × ((ready setups (listens (asking_in_turn setups n a) s)).stage ≡ stage)
out_behind setups n k a s stage g e out =
    let same : (asking_in_turn setups n a).stage ≡ stage = subst (λ (x : Stage). (after_asks setups n a x).stage ≡ stage) (sym e) (behind_same setups n a stage e g) in
    stays_out setups k (asking_in_turn setups n a) s stage g same out (listened (asking_in_turn setups n a) s)

-- an offset has 32 bits
abbrev pub SmallStage : Stage → Type 0
SmallStage (Identify offset) = offset < 2 ^ 32
SmallStage stage = Unit {0}

abbrev SmallIn : Option Asking → Type 0
SmallIn None = Unit {0}
SmallIn (Some a) = SmallStage a.stage

small_if : (b : Bool) (a : Asking) → SmallStage a.stage → SmallIn (cond b (Some a) None)
small_if true a h = h
small_if false a h = tt

small_either : (b : Bool) (x y : Stage) → SmallStage x → SmallStage y → SmallStage (cond b x y)
small_either true x y h i = h
small_either false x y h i = i

small_answer : (turn : ℕ) (a : Asking) (stage : Stage) (number : ℕ) (c : Cmd) → SmallIn (answered turn a stage number c)
small_answer turn a stage number c = search (rules, small_if, small_either, nat_lt, nat_le)

small_or : (o : Option Asking) (b : Asking) → SmallIn o → SmallStage b.stage → SmallStage (or_asking o b).stage
small_or None b m h = h
small_or (Some a) b m h = m

small_hears : (turn : ℕ) (news : List News) (a : Asking) → SmallStage a.stage → SmallStage (hears_first turn news a).stage
small_hears turn [] a h = h
small_hears turn (n ∷ news) a h = small_or (answered turn a a.stage n.number n.answer) (hears_first turn news a) (small_answer turn a a.stage n.number n.answer) (small_hears turn news a h)

small_asking : (b : Bool) (x y : Asking) → SmallStage x.stage → SmallStage y.stage → SmallStage (cond b x y).stage
small_asking true x y h i = h
small_asking false x y h i = i

small_listens : (a : Asking) (s : State) → SmallStage a.stage → SmallStage (listens a s).stage
small_listens a s h = search (rules, were_stage, small_asking, small_hears)

small_ready : (setups : List Setup) (stage : Stage) → SmallStage stage → SmallStage (ready_stage setups stage)
small_ready setups (Identify offset) h = h
small_ready setups (Configure n) h = small_either (is_over (drop n setups)) Config (Configure n) tt tt
small_ready setups c h = tt

small_asks : (setups : List Setup) (k : ℕ) (a : Asking) (stage : Stage) → SmallStage a.stage → SmallStage (after_asks setups k a stage).stage
small_asks setups k a (Configure n) h = tt
small_asks setups k a Connected h = h
small_asks setups k a c h = small_asking (is_question_due k a.since) (asked k a) a h h

pub small_heard : (setups : List Setup) (states : List State) → SmallStage (heard setups states).stage
small_heard setups [] = omega arith
small_heard setups (s ∷ states) =
    let a = heard setups states in
    small_ready setups _ (small_listens (asking_in_turn setups (length states) a) s (small_asks setups (length states) a a.stage (small_heard setups states)))
