-- A board's asking over the turns of connecting, whatever states came.
use Rattle.std.proofs.Common.{◌≡◌, ◌≤◌, ◌<◌, ℕ, suc, ◌+◌, ◌-◌, ◌*◌, ◌^◌, ◌⊎◌, inl, inr, Bool, true, false, cond, List, [], ◌∷◌, length, Option, Some, None, refl, ap, sym, ◌∙◌, subst, arith}
use Rattle.std.specs.Prelude.{nat_le, ◌&&◌}
use Rattle.std.proofs.lemmas.Bool.{le-leb, lt-leb, leb-true, leb-false}
use Rattle.msg_code.specs.declared.cmd.Cmd.{Cmd}
use Rattle.msg_code.specs.declared.talk.State.{State}
use Rattle.board_asking.specs.declared.asking.Asking.{Asking}
use Rattle.board_asking.specs.declared.asking.Stage.{Stage}
use Rattle.board_asking.specs.declared.asking.Stage.TheVariants.{Identify, Uptime, Configure, Config, Connected}
use Rattle.board_asking.specs.declared.setup.Setup.{Setup}
use Rattle.board_asking.specs.Asking.{more, listens, ready_stage, is_over, is_question_due, is_out, question, asks, asked, after_asks, gives_up, is_connected}
use Rattle.board_asking.specs.Turns.{asking_in_turn, heard, states_come, heard_at, AsksOf, WasAsked, IsOutBehind, AreUnanswered, OnceConfigured}
use Rattle.board_asking.proofs.Configured.{Stays, listened, configured}
use Rattle.std.specs.Prelude.{drop}
use Rattle.plan_types.proofs.Facts.{first_of_both, second_of_both}

-- only an answer connects a board
either-stage : (b : Bool) (x y : Asking) → x.stage ≡ y.stage → is_connected (cond b x y).stage ≡ true → is_connected y.stage ≡ true
either-stage true x y e h = ap is_connected (sym e) ∙ h
either-stage false x y e h = h

asks-connect : (setups : List Setup) (k : ℕ) (a : Asking) (stage : Stage) → is_connected (after_asks setups k a stage).stage ≡ true → is_connected a.stage ≡ true
asks-connect setups k a (Identify offset) h = either-stage (is_question_due k a.since) (asked k a) a refl h
asks-connect setups k a Uptime h = either-stage (is_question_due k a.since) (asked k a) a refl h
asks-connect setups k a (Configure n) h = cc
asks-connect setups k a Config h = either-stage (is_question_due k a.since) (asked k a) a refl h
asks-connect setups k a Connected h = h

pub none-of-two : (b : Bool) (n : ℕ) → is_connected (cond b Config (Configure n)) ≡ true → ⊥
none-of-two true n h = cc
none-of-two false n h = cc

pub ready-connects : (setups : List Setup) (stage : Stage) → is_connected (ready_stage setups stage) ≡ true → is_connected stage ≡ true
ready-connects setups (Identify offset) h = h
ready-connects setups Uptime h = h
ready-connects setups (Configure n) h = absurd (none-of-two (is_over (drop n setups)) n h)
ready-connects setups Config h = h
ready-connects setups Connected h = h

pub once-configured : (setups : List Setup) (states : List State) → is_connected (heard setups states).stage ≡ true → OnceConfigured states
once-configured setups [] h = cc
once-configured setups (s ∷ states) h =
    let a = heard setups states in
    elim (configured (asking_in_turn setups (length states) a) s (ready-connects setups _ h)) [
      | inl before ↦ inr (once-configured setups states (asks-connect setups (length states) a a.stage before))
      | inr now ↦ inl now
    ]

-- the states that have come
known-all : (k : ℕ) (states : List State) → length states ≤ k → states_come k states ≡ states
known-all k [] h = refl
known-all k (s ∷ states) h = ap (λ (b : Bool). cond b (states_come k states) (s ∷ states)) (lt-leb k (length states) (omega arith))

known-before : (k : ℕ) (s : State) (states : List State) → k ≤ length states → states_come k (s ∷ states) ≡ states_come k states
known-before k s states h = ap (λ (b : Bool). cond b (states_come k states) (s ∷ states)) (le-leb k (length states) h)

-- what a turn makes of an asking: nothing; a part of the configuration, or nothing once connected; or it is asked
abbrev Kept : ℕ → Asking → Asking → Type 0
Kept k a c = (is_question_due k a.since ≡ false) × (c ≡ a)

abbrev Quiet : Stage → Asking → Asking → Type 0
Quiet stage a c = (AsksOf stage → ⊥) × (c.since ≡ a.since)

abbrev Asks : ℕ → Asking → Stage → Asking → List Cmd → Type 0
Asks k a stage c commands = AsksOf stage × (is_question_due k a.since ≡ true) × (c ≡ asked k a) × (commands ≡ question stage)

abbrev Behind : ℕ → Asking → Stage → Asking → List Cmd → Type 0
Behind k a stage c commands = Kept k a c ⊎ Quiet stage a c ⊎ Asks k a stage c commands

where-due : (k : ℕ) (a : Asking) (stage : Stage) (b : Bool) → AsksOf stage → is_question_due k a.since ≡ b → Behind k a stage (cond b (asked k a) a) (cond b (question stage) [])
where-due k a stage true s e = inr (inr (s, e, refl, refl))
where-due k a stage false s e = inl (e, refl)

is-behind : (setups : List Setup) (k : ℕ) (a : Asking) (stage : Stage) → Behind k a stage (after_asks setups k a stage) (asks setups k a stage)
is-behind setups k a (Identify offset) = where-due k a (Identify offset) (is_question_due k a.since) tt refl
is-behind setups k a Uptime = where-due k a Uptime (is_question_due k a.since) tt refl
is-behind setups k a (Configure n) = inr (inl (λ h. h, refl))
is-behind setups k a Config = where-due k a Config (is_question_due k a.since) tt refl
is-behind setups k a Connected = inr (inl (λ h. h, refl))

asks-ready : (setups : List Setup) (stage : Stage) → AsksOf stage → AsksOf (ready_stage setups stage)
asks-ready setups (Identify offset) h = tt
asks-ready setups Uptime h = tt
asks-ready setups (Configure n) h = absurd h
asks-ready setups Config h = tt
asks-ready setups Connected h = absurd h

-- the askings in a row that are unanswered as a turn begins
abbrev Outs : List Setup → List State → ℕ → ℕ → Type 0
Outs setups states first missed = (i : ℕ) → i ≤ missed → IsOutBehind setups (first + 4 * i) states

abbrev WereAsked : List Setup → List State → ℕ → ℕ → Type 0
WereAsked setups states first missed = (i : ℕ) → i ≤ missed → WasAsked setups (first + 4 * i) (heard_at setups (first + 4 * i) states)

record InRow (setups : List Setup) (states : List State) (f m t : ℕ) : Type 0 where
  pub stage : AsksOf (heard setups states).stage
  pub since : (heard setups states).since ≡ Some t
  pub missed : (heard setups states).missed ≡ m
  pub first : (heard setups states).first ≡ f
  pub row : t ≡ f + 4 * m
  pub early : t + 1 ≤ length states
  pub late : length states ≤ t + 4
  pub asked : WereAsked setups states f m
  pub out : Outs setups states f m

abbrev Row : List Setup → List State → Type 0
Row setups states = ((heard setups states).since ≡ None) ⊎ ((first missed since : ℕ) × InRow setups states first missed since)

-- one state more
asked-before : (setups : List Setup) (k : ℕ) (s : State) (states : List State) → k ≤ length states → WasAsked setups k (heard_at setups k states) → WasAsked setups k (heard_at setups k (s ∷ states))
asked-before setups k s states h w = subst (λ (l : List State). WasAsked setups k (heard setups l)) (sym (known-before k s states h)) w

out-by : (b : Bool) (setups : List Setup) (s : State) (states : List State) (k from since : ℕ) → nat_le k (length states) ≡ b → k ≤ suc (length states)
    → (k ≤ length states → (heard_at setups k states).since ≡ Some from) → (heard setups (s ∷ states)).since ≡ Some since → (k ≡ suc (length states) → since ≡ from)
    → (heard_at setups k (s ∷ states)).since ≡ Some from
out-by true setups s states k from since e h old now same =
    let l : k ≤ length states = leb-true k (length states) e in
    subst (λ (x : List State). (heard setups x).since ≡ Some from) (sym (known-before k s states l)) (old l)
out-by false setups s states k from since e h old now same =
    let l : length states < k = leb-false k (length states) e in
    let f : since ≡ from = same (omega arith) in
    subst (λ (x : List State). (heard setups x).since ≡ Some from) (sym (known-all k (s ∷ states) (omega arith))) (now ∙ ap (λ (n : ℕ). Some n) f)

outs-more : (setups : List Setup) (s : State) (states : List State) (first missed since : ℕ) → Outs setups states first missed → (heard setups (s ∷ states)).since ≡ Some since
    → since ≡ first + 4 * missed → since ≤ length states → length states ≤ since + 3 → Outs setups (s ∷ states) first missed
outs-more setups s states first missed since old now row early late i l j low high within =
    out-by (nat_le (first + 4 * i + j) (length states)) setups s states (first + 4 * i + j) (first + 4 * i) since refl within
    (λ h. old i l j low high h) now (λ e. omega arith)

grown : (setups : List Setup) (s : State) (states : List State) (first missed since : ℕ) → AsksOf (heard setups (s ∷ states)).stage
    → (heard setups (s ∷ states)).since ≡ Some since → (heard setups (s ∷ states)).missed ≡ missed → (heard setups (s ∷ states)).first ≡ first
    → since ≡ first + 4 * missed → since ≤ length states → length states ≤ since + 3
    → WereAsked setups (s ∷ states) first missed → Outs setups states first missed → Row setups (s ∷ states)
grown setups s states first missed since g t m f row early late were old = inr (
  first,
  missed,
  since,
  record {
    stage = g;
    since = t;
    missed = m;
    first = f;
    row = row;
    early = omega arith;
    late = omega arith;
    asked = were;
    out = outs-more setups s states first missed since old t row early late;
  },
)

not-due : (k since : ℕ) → is_question_due k (Some since) ≡ false → k ≤ since + 3
not-due k since e = let l = leb-false 4 (k - since) e in omega arith

due : (k since : ℕ) → is_question_due k (Some since) ≡ true → since + 4 ≤ k
due k since e = let l = leb-true 4 (k - since) e in omega arith

true-false : {A : Type 0} → true ≡ false → A
true-false h = cc

still-out : (setups : List Setup) (s : State) (states : List State) → Stays (listens (asking_in_turn setups (length states) (heard setups states)) s) (heard setups states)
    → is_question_due (length states) (heard setups states).since ≡ false → Row setups states → Row setups (s ∷ states)
still-out setups s states p nd (inl none) = true-false (subst (λ (o : Option ℕ). is_question_due (length states) o ≡ false) none nd)
still-out setups s states p nd (inr (first, missed, since, r)) =
    let l = not-due (length states) since (subst (λ (o : Option ℕ). is_question_due (length states) o ≡ false) r.since nd) in
    let row = r.row in
    let early = r.early in
    grown setups s states first missed since (asks-ready setups _ (subst AsksOf (sym p.stage) r.stage)) (p.since ∙ r.since) (p.missed ∙ r.missed) (p.first ∙ r.first)
    row (omega arith) l (λ i le. asked-before setups (first + 4 * i) s states (omega arith) (r.asked i le)) r.out

-- asked in this turn
asked-here : (setups : List Setup) (s : State) (states : List State) → WasAsked setups (length states) (heard setups states) → WasAsked setups (length states) (heard_at setups (length states) (s ∷ states))
asked-here setups s states w =
    let e : states_come (length states) (s ∷ states) ≡ states = known-before (length states) s states (omega arith) ∙ known-all (length states) states (omega arith) in
    subst (λ (l : List State). WasAsked setups (length states) (heard setups l)) (sym e) w

were-by : (b : Bool) (setups : List Setup) (s : State) (states : List State) (first missed i : ℕ) → nat_le i missed ≡ b → i ≤ missed + 1 → length states ≡ first + 4 * (missed + 1)
    → WereAsked setups states first missed → WasAsked setups (length states) (heard_at setups (length states) (s ∷ states))
    → WasAsked setups (first + 4 * i) (heard_at setups (first + 4 * i) (s ∷ states))
were-by true setups s states first missed i e le at old now =
    let l : i ≤ missed = leb-true i missed e in
    asked-before setups (first + 4 * i) s states (omega arith) (old i l)
were-by false setups s states first missed i e le at old now =
    let l : missed < i = leb-false i missed e in
    let same : length states ≡ first + 4 * i = omega arith in
    subst (λ (k : ℕ). WasAsked setups k (heard_at setups k (s ∷ states))) same now

out-by-count : (b : Bool) (setups : List Setup) (states : List State) (first missed i : ℕ) → nat_le i missed ≡ b → i ≤ missed + 1 → length states ≡ first + 4 * (missed + 1)
    → Outs setups states first missed → IsOutBehind setups (first + 4 * i) states
out-by-count true setups states first missed i e le at old j low high within = old i (leb-true i missed e) j low high within
out-by-count false setups states first missed i e le at old j low high within = let l : missed < i = leb-false i missed e in absurd (omega arith)

more-is : (n : ℕ) → n < 2 ^ 59 → more n ≡ n + 1
more-is n h = omega arith

asked-anew : (setups : List Setup) (s : State) (states : List State) → length states < 2 ^ 59
    → Stays (listens (asking_in_turn setups (length states) (heard setups states)) s) (asked (length states) (heard setups states))
    → AsksOf (heard setups states).stage → asks setups (length states) (heard setups states) (heard setups states).stage ≡ question (heard setups states).stage
    → is_question_due (length states) (heard setups states).since ≡ true → Row setups states → Row setups (s ∷ states)
asked-anew setups s states small p g commands d (inl none) =
    let k = length states in
    let a = heard setups states in
    let now = asked-here setups s states (record { stage = g; commands = commands }) in
    grown setups s states k 0 k (asks-ready setups _ (subst AsksOf (sym p.stage) g)) p.since
    (p.missed ∙ ap (λ (o : Option ℕ). cond (is_out o) (more a.missed) 0) none) (p.first ∙ ap (λ (o : Option ℕ). cond (is_out o) a.first k) none)
    (omega arith) (omega arith) (omega arith)
    (λ i le. subst (λ (j : ℕ). WasAsked setups j (heard_at setups j (s ∷ states))) (omega arith) now)
    (λ i le j low high within. absurd (omega arith))
asked-anew setups s states small p g commands d (inr (first, missed, since, r)) =
    let k = length states in
    let a = heard setups states in
    let now = asked-here setups s states (record { stage = g; commands = commands }) in
    let l = due k since (subst (λ (o : Option ℕ). is_question_due k o ≡ true) r.since d) in
    let late = r.late in
    let row = r.row in
    let early = r.early in
    let at : k ≡ first + 4 * (missed + 1) = omega arith in
    let few : missed < 2 ^ 59 = omega arith in
    grown setups s states first (missed + 1) k (asks-ready setups _ (subst AsksOf (sym p.stage) g)) p.since
    (p.missed ∙ ap (λ (o : Option ℕ). cond (is_out o) (more a.missed) 0) r.since ∙ ap more r.missed ∙ more-is missed few)
    (p.first ∙ ap (λ (o : Option ℕ). cond (is_out o) a.first k) r.since ∙ r.first)
    at (omega arith) (omega arith)
    (λ i le. were-by (nat_le i missed) setups s states first missed i refl le at r.asked now)
    (λ i le. out-by-count (nat_le i missed) setups states first missed i refl le at r.out)

quiet-turn : (setups : List Setup) (s : State) (states : List State) → Stays (listens (asking_in_turn setups (length states) (heard setups states)) s) (asking_in_turn setups (length states) (heard setups states))
    → (AsksOf (heard setups states).stage → ⊥) → (asking_in_turn setups (length states) (heard setups states)).since ≡ (heard setups states).since → Row setups states → Row setups (s ∷ states)
quiet-turn setups s states p q e (inl none) = inl (p.since ∙ e ∙ none)
quiet-turn setups s states p q e (inr (first, missed, since, r)) = absurd (q r.stage)

one-more : (setups : List Setup) (s : State) (states : List State) → length states < 2 ^ 59 → Row setups states → Row setups (s ∷ states)
one-more setups s states small row =
    let k = length states in
    let a = heard setups states in
    elim (listened (asking_in_turn setups k a) s) [
      | inr (none, f) ↦ inl none
      | inl p ↦ elim (is-behind setups k a a.stage) [
        | inl (nd, same) ↦ still-out setups s states (subst (λ (c : Asking). Stays (listens (asking_in_turn setups k a) s) c) same p) nd row
        | inr (inl (q, e)) ↦ quiet-turn setups s states p q e row
        | inr (inr (g, d, same, commands)) ↦ asked-anew setups s states small (subst (λ (c : Asking). Stays (listens (asking_in_turn setups k a) s) c) same p) g commands d row
      ]
    ]

in-row : (setups : List Setup) (states : List State) → length states < 2 ^ 59 → Row setups states
in-row setups [] h = inl refl
in-row setups (s ∷ states) h = one-more setups s states (omega arith) (in-row setups states (omega arith))

no-out : (o : Option ℕ) → o ≡ None → is_out o ≡ true → (A : Type 0) → A
no-out None e h A = cc
no-out (Some n) e h A = cc

unanswered : (setups : List Setup) (states : List State) → gives_up (length states) (heard setups states) ≡ true → Row setups states
    → (count : ℕ) × (8 ≤ count) × AreUnanswered setups states (heard setups states).first count
unanswered setups states h (inl none) = no-out (heard setups states).since none (first_of_both (is_out (heard setups states).since) _ h) _
unanswered setups states h (inr (first, missed, since, r)) =
    let k = length states in
    let a = heard setups states in
    let rest = second_of_both (is_out a.since) (is_question_due k a.since && nat_le 7 a.missed) h in
    let d = due k since (subst (λ (o : Option ℕ). is_question_due k o ≡ true) r.since (first_of_both (is_question_due k a.since) (nat_le 7 a.missed) rest)) in
    let seven : 7 ≤ missed = subst (λ (n : ℕ). 7 ≤ n) r.missed (leb-true 7 a.missed (second_of_both (is_question_due k a.since) (nat_le 7 a.missed) rest)) in
    let late = r.late in
    let row = r.row in
    let until : first + 4 * (missed + 1) ≡ k = omega arith in
    let x : AreUnanswered setups states first (missed + 1) = record {
      until = until;
      asked = λ i l. r.asked i (omega arith);
      out = λ i l. r.out i (omega arith);
    } in
    (missed + 1, omega arith, subst (λ (f : ℕ). AreUnanswered setups states f (missed + 1)) (sym r.first) x)

pub eight-unanswered : (setups : List Setup) (states : List State) → length states < 2 ^ 59 → gives_up (length states) (heard setups states) ≡ true
    → (count : ℕ) × (8 ≤ count) × AreUnanswered setups states (heard setups states).first count
eight-unanswered setups states small h = unanswered setups states h (in-row setups states small)
