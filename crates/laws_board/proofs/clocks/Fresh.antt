-- A further clock line is that of an answer that just came.
use Rattle.std.proofs.Common.{◌≡◌, ℕ, suc, ◌+◌, ◌-◌, ◌⊎◌, inl, inr, Bool, true, false, cond, List, [], ◌∷◌, ◌++◌, length, Option, Some, None, refl, ap, sym, ◌∙◌, subst, arith, rules}
use Rattle.std.specs.Prelude.{◌&&◌, ◌==◌, not}
use Rattle.std.specs.List.{All}
use Rattle.laws_board.proofs.Names.{eqb-true, All-cons, All-nil, BoardClock, Level, Machine, Line, clock_of, board_at, Cmd, News, State, Entry, Switch, LinkState, Asking, Stage, Connected, listen_all, Known, Connecting, noted, Reacted, Came, known_by, last_reacted, homing_turn}
use Rattle.clock_line.specs.declared.sample.Sample.{Sample}
use Rattle.msg_code.specs.declared.cmd.Cmd.TheVariants as cmd
use Rattle.msg_code.specs.declared.talk.WordNews.{WordNews}
use Rattle.msg_code.specs.declared.talk.WordNews.TheVariants as word
use Rattle.board_asking.specs.Asking.{after_drift, answered, hears_first, is_connected, is_in_time, is_out, listens, or_asking, sample_of, tells_clock, were_put}
use Rattle.board_asking.specs.Connecting.{board_line, sample_or_none}
use Rattle.board_asking.specs.Drift.{new_line, new_lines}
use Rattle.host_reactor.specs.declared.ordered.Phase.TheVariants.{Running}
use Rattle.host_reactor.specs.Reactor.{homed}
use Rattle.laws_board.specs.turns.Turns.{AreBoardTurns, BoardTurn, latest_state}
use Rattle.laws_board.specs.clocks.Runs.{IsInRun}
use Rattle.laws_board.specs.clocks.Samples.{IsFresh, further_lines}
use Rattle.laws_board.proofs.clocks.Askings.{IsAsking, connected_sample}
use Rattle.laws_board.proofs.clocks.Lines.{noted_askings, run_before, turn_of, were_stage}
use Rattle.laws_board.proofs.clocks.Turning.{Asks, BoardTurned, Ends, Runs, asking_at, heard_now}
use Rattle.laws_board.proofs.causes.Told.{one_of}
use Rattle.laws_board.proofs.causes.Ended.{running_not}
use Rattle.host_reactor.proofs.Resting.{since-kept}

-- an answer gives a sample of its turn
abbrev GotIn : ℕ → Option Sample → Type 0
GotIn turn None = ⊥
GotIn turn (Some s) = s.got ≡ turn

abbrev MayGet : ℕ → Option Asking → Type 0
MayGet turn None = Unit {0}
MayGet turn (Some a) = GotIn turn a.best

if_got : (turn : ℕ) (b : Bool) (a : Asking) → GotIn turn a.best → MayGet turn (cond b (Some a) None)
if_got turn true a g = g
if_got turn false a g = tt

answer_got : (turn : ℕ) (a : Asking) (stage : Stage) (number : ℕ) (c : Cmd) → is_connected stage ≡ true → MayGet turn (answered turn a stage number c)
answer_got turn a Connected number (cmd.Uptime high low) h = if_got turn (tells_clock a number) (after_drift a (sample_of a turn high low)) refl
answer_got turn a Connected number c h = tt
answer_got turn a stage number c h = cc

-- nothing was answered, or just now
abbrev Heard : ℕ → Option ℕ → Asking → Type 0
Heard turn since a = (a.since ≡ since) ⊎ GotIn turn a.best

or_heard : (turn : ℕ) (since : Option ℕ) (o : Option Asking) (b : Asking) → MayGet turn o → Heard turn since b → Heard turn since (or_asking o b)
or_heard turn since None b m h = h
or_heard turn since (Some a) b m h = inr m

hears_heard : (turn : ℕ) (ns : List News) (a : Asking) → is_connected a.stage ≡ true → Heard turn a.since (hears_first turn ns a)
hears_heard turn [] a h = inl refl
hears_heard turn (n ∷ ns) a h =
    or_heard turn a.since (answered turn a a.stage n.number n.answer) (hears_first turn ns a) (answer_got turn a a.stage n.number n.answer h) (hears_heard turn ns a h)

either_heard : (turn : ℕ) (since : Option ℕ) (b : Bool) (x y : Asking) → Heard turn since x → Heard turn since y → Heard turn since (cond b x y)
either_heard turn since true x y h i = h
either_heard turn since false x y h i = i

listens_heard : (a : Asking) (s : State) → is_connected a.stage ≡ true → Heard s.turn a.since (listens a s)
listens_heard a s h = search (rules, were_stage, either_heard, hears_heard, since-kept)

not_out : (x y : Option ℕ) → (is_out x && not (is_out y)) ≡ true → y ≡ x → ⊥
not_out None y e f = cc
not_out (Some q) None e f = cc
not_out (Some q) (Some p) e f = cc

got_now : (clock : BoardClock) (first : LinkState) (turns : List BoardTurn) (a : Asking) → AreBoardTurns clock first turns → is_connected a.stage ≡ true
    → (is_out a.since && not (is_out (heard_now a (latest_state turns)).since)) ≡ true → (turn : ℕ) × (turn + 1 ≡ length turns) × GotIn turn (heard_now a (latest_state turns)).best
got_now clock first [] a are h e = absurd (not_out a.since a.since e refl)
got_now clock first (t ∷ before) a are h e =
    let turn : t.state.turn ≡ length before = are.0.1.turn in
    elim (listens_heard a t.state h) [
      | inl same ↦ absurd (not_out a.since (listens a t.state).since e same)
      | inr got ↦ (t.state.turn, omega arith, got)
    ]

best_got : (turn : ℕ) (best : Option Sample) → GotIn turn best → (sample_or_none best).got ≡ turn
best_got turn None g = absurd g
best_got turn (Some s) g = g

-- the further lines
abbrev AreFresh : BoardClock → List BoardTurn → List Line → Type 0
AreFresh clock turns [] = Unit {0}
AreFresh clock turns (l ∷ lines) = IsFresh clock turns l × AreFresh clock turns lines

all_fresh : (clock : BoardClock) (turns : List BoardTurn) (lines : List Line) → AreFresh clock turns lines → All (IsFresh clock turns) lines
all_fresh clock turns [] k = All-nil (IsFresh clock turns)
all_fresh clock turns (l ∷ lines) k = All-cons (IsFresh clock turns) l lines k.0 (all_fresh clock turns lines k.1)

fresh_both : (clock : BoardClock) (turns : List BoardTurn) (b : ℕ) (xs ys : List WordNews) → AreFresh clock turns (further_lines b xs) → AreFresh clock turns (further_lines b ys) → AreFresh clock turns (further_lines b (xs ++ ys))
fresh_both clock turns b [] ys k l = l
fresh_both clock turns b (word.Lines lines ∷ xs) ys k l = fresh_both clock turns b xs ys k l
fresh_both clock turns b (word.Homed ∷ xs) ys k l = fresh_both clock turns b xs ys k l
fresh_both clock turns b (word.Line board line ∷ xs) ys k l = one (board == b) (λ x. fresh_both clock turns b xs ys x l) k
  where
    one : (t : Bool) → (AreFresh clock turns (further_lines b xs) → AreFresh clock turns (further_lines b (xs ++ ys)))
        → AreFresh clock turns (cond t (line ∷ []) [] ++ further_lines b xs) → AreFresh clock turns (cond t (line ∷ []) [] ++ further_lines b (xs ++ ys))
    one true f k = (k.0, f k.1)
    one false f k = f k

if_fresh : (clock : BoardClock) (turns : List BoardTurn) (told own : Bool) (i b : ℕ) (l : Line) → (i == b) ≡ own → (told ≡ true → own ≡ true → IsFresh clock turns l) → AreFresh clock turns (further_lines b (cond told (word.Line i l ∷ []) []))
if_fresh clock turns false own i b l e f = tt
if_fresh clock turns true true i b l e f = rw e (f refl refl, tt)
if_fresh clock turns true false i b l e f = rw e tt

abbrev FreshAt : Machine → BoardClock → List BoardTurn → ℕ → ℕ → List Asking → List Asking → Type 0
FreshAt m clock turns i b before after = (j : ℕ) (x y : Asking) → i + j ≡ b → asking_at j before ≡ x ∷ [] → asking_at j after ≡ y ∷ [] → (is_out x.since && not (is_out y.since)) ≡ true
    → IsFresh clock turns (board_line m b y)

new_fresh : (m : Machine) (clock : BoardClock) (turns : List BoardTurn) (i b : ℕ) (before after : List Asking) → FreshAt m clock turns i b before after → AreFresh clock turns (further_lines b (new_lines m i before after))
new_fresh m clock turns i b [] after f = tt
new_fresh m clock turns i b (x ∷ before) [] f = tt
new_fresh m clock turns i b (x ∷ before) (y ∷ after) f =
    fresh_both clock turns b (new_line m i x y) (new_lines m (i + 1) before after)
    (if_fresh clock turns (is_out x.since && not (is_out y.since)) (i == b) i b (board_line m i y) refl
    (λ told own. let same : i ≡ b = eqb-true i b own in subst (λ (n : ℕ). IsFresh clock turns (board_line m n y)) (sym same) (f 0 x y (omega arith) refl refl told)))
    (new_fresh m clock turns (i + 1) b before after (λ j u v e p q. f (suc j) u v (omega arith) p q))

homed_fresh : (clock : BoardClock) (turns : List BoardTurn) (b : ℕ) (cut : Option ℕ) → AreFresh clock turns (further_lines b (homed cut))
homed_fresh clock turns b None = tt
homed_fresh clock turns b (Some tick) = tt

turn_fresh : (m : Machine) (b : ℕ) (c : Came) (r : Known) (t : BoardTurn) (turns : List BoardTurn) (k : ℕ) (first : LinkState) (x : Asking) (a : Asking) (y : Reacted) → AreBoardTurns (clock_of (board_at m b)) first turns
    → asking_at b r.askings.items ≡ x ∷ [] → a ≡ heard_now x (latest_state turns) → IsAsking (clock_of (board_at m b)) turns (length turns) a
    → ((r.phase ≡ Connecting → ⊥) → is_connected x.stage ≡ true) → ((r.phase ≡ Connecting → ⊥) → is_connected a.stage ≡ true) → BoardTurned m r b k c.states a y t.control
    → AreFresh (clock_of (board_at m b)) turns (further_lines b y.ordered.word.news)
turn_fresh m b c r t turns k first x a y are at hears is on now (Asks p g) = subst (λ (l : List WordNews). AreFresh (clock_of (board_at m b)) turns (further_lines b l)) (sym g.news) tt
turn_fresh m b c r t turns k first x a y are at hears is on now (Ends p g) = subst (λ (l : List WordNews). AreFresh (clock_of (board_at m b)) turns (further_lines b l)) (sym g.news) tt
turn_fresh m b c r t turns k first x a y are at hears is on now (Runs p g) =
    let clock = clock_of (board_at m b) in
    let running : r.phase ≡ Connecting → ⊥ = λ q. running_not (sym p ∙ q) in
    let after = listen_all r.askings.items c.states in
    let fresh : FreshAt m clock turns 0 b r.askings.items after = λ j u v e s q out.
    let place : j ≡ b = omega arith in
    let before : u ≡ x = one_of u x (sym s ∙ ap (λ (n : ℕ). asking_at n r.askings.items) place ∙ at) in
    let behind : v ≡ a = one_of v a (sym q ∙ ap (λ (n : ℕ). asking_at n after) place ∙ g.heard) in
    let heard : v ≡ heard_now x (latest_state turns) = behind ∙ hears in
    let out1 = subst (λ (z : Asking). (is_out z.since && not (is_out v.since)) ≡ true) before out in
    let out2 = subst (λ (z : Asking). (is_out x.since && not (is_out z.since)) ≡ true) heard out1 in
    let got = got_now clock first turns x are (on running) out2 in
    let got_a = subst (λ (z : Asking). GotIn got.0 z.best) (sym hears) got.2 in
    let same = best_got got.0 a.best got_a in
    let next = got.1 in
    let sample = connected_sample clock turns (length turns) a (now running) is in
    subst (λ (z : Asking). IsFresh clock turns (board_line m b z)) (sym behind) (sample_or_none a.best, sample, refl, omega arith) in
    subst (λ (l : List WordNews). AreFresh clock turns (further_lines b l)) (sym g.news)
    (fresh_both clock turns b (homed (homing_turn r.clocks k c.states r.homing).cut) (new_lines m 0 r.askings.items after) (homed_fresh clock turns b (homing_turn r.clocks k c.states r.homing).cut)
    (new_fresh m clock turns 0 b r.askings.items after fresh))

pub fresh_lines : (m : Machine) (switches : List Switch) (pins : List (List Level)) (entries : List Entry) (b : ℕ) (c : Came) (before : List Came) (t : BoardTurn) (turns : List BoardTurn)
    → IsInRun m switches pins entries b (c ∷ before) (t ∷ turns) → All (IsFresh (clock_of (board_at m b)) turns) (further_lines b (last_reacted m switches c before).ordered.word.news)
fresh_lines m switches pins entries b c before t turns r =
    let x = turn_of m switches pins entries b c before t turns r in
    let n = noted m c.note (known_by m switches before) in
    let at : asking_at b n.askings.items ≡ x.first ∷ [] = ap (λ y. asking_at b y.items) (noted_askings m c.note (known_by m switches before)) ∙ x.was in
    let rest = run_before m switches pins entries b c before t turns r in
    all_fresh (clock_of (board_at m b)) turns (further_lines b (last_reacted m switches c before).ordered.word.news)
    (turn_fresh m b c n t turns (length before) _ x.first x.a (last_reacted m switches c before) rest.turns_are at x.hears x.is x.on x.connected x.turned)
